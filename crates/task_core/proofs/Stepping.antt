-- A reader after one entry more.
use Rattle.std.proofs.Common.{◌≡◌, ◌∙◌, ap, sym, subst, List, ◌++◌, Bool, true, false, take, drop, append_assoc}
use Rattle.std.specs.Prelude.{flat_map}
use Rattle.ksql_nodes.specs.Entries.{Entry}
use Rattle.topic_log.specs.Order.{IsInPlaceOrder}
use Rattle.topic_log.specs.Entries.{entries_in}
use Rattle.task_core.specs.Readers.{IsOrdered, goes_left, pending, taken_as}
use Rattle.task_core.specs.declared.reader.Reader.{Reader}
use Rattle.task_core.specs.declared.reader.Rest.{Rest}
use Rattle.task_core.proofs.Merging.{both, order-drop, step-left, step-right}

-- the rest of an input without its first entry
pub record IsRestOf (old next : Rest) : Type 0 where
  pub kind : next.kind ≡ old.kind
  pub input : next.input ≡ old.input
  pub rest : entries_in next.entries ≡ drop 1 (entries_in old.entries)

abbrev next_is_left : Reader → Bool
next_is_left r = goes_left r.left.input.relation r.right.input.relation (entries_in r.left.entries) (entries_in r.right.entries)

-- entries move from the remaining ones to those that were taken
carried : (before after made later all : List Entry) → after ≡ before ++ made → made ++ later ≡ all → after ++ later ≡ before ++ all
carried before after made later all put split = ap (λ es. es ++ later) put ∙ append_assoc before made later ∙ ap (λ es. before ++ es) split

pub left-taken : (r : Reader) (next : Rest) (before after : List Entry) → IsOrdered r → next_is_left r ≡ true → IsRestOf r.left next →
    after ≡ before ++ flat_map (taken_as r.left.kind 0 r.left.input) (take 1 (entries_in r.left.entries)) → after ++ pending (record { left = next; right = r.right }) ≡ before ++ pending r
left-taken r next before after order goes is put =
    let made : List Entry = flat_map (taken_as r.left.kind 0 r.left.input) (take 1 (entries_in r.left.entries)) in
    let moved : pending (record { left = next; right = r.right }) ≡ both r.left.kind r.right.kind r.left.input r.right.input (drop 1 (entries_in r.left.entries)) (entries_in r.right.entries)
    = λ i. both (is.kind i) r.right.kind (is.input i) r.right.input (is.rest i) (entries_in r.right.entries) in
    carried before after made (pending (record { left = next; right = r.right })) (pending r) put
    (ap (λ es. made ++ es) moved ∙ sym (step-left r.left.kind r.right.kind r.left.input r.right.input (entries_in r.left.entries) (entries_in r.right.entries) order.left order.right goes))

pub right-taken : (r : Reader) (next : Rest) (before after : List Entry) → IsOrdered r → next_is_left r ≡ false → IsRestOf r.right next →
    after ≡ before ++ flat_map (taken_as r.right.kind 1 r.right.input) (take 1 (entries_in r.right.entries)) → after ++ pending (record { left = r.left; right = next }) ≡ before ++ pending r
right-taken r next before after order goes is put =
    let made : List Entry = flat_map (taken_as r.right.kind 1 r.right.input) (take 1 (entries_in r.right.entries)) in
    let moved : pending (record { left = r.left; right = next }) ≡ both r.left.kind r.right.kind r.left.input r.right.input (entries_in r.left.entries) (drop 1 (entries_in r.right.entries))
    = λ i. both r.left.kind (is.kind i) r.left.input (is.input i) (entries_in r.left.entries) (is.rest i) in
    carried before after made (pending (record { left = r.left; right = next })) (pending r) put
    (ap (λ es. made ++ es) moved ∙ sym (step-right r.left.kind r.right.kind r.left.input r.right.input (entries_in r.left.entries) (entries_in r.right.entries) order.left order.right goes))

pub left-ordered : (r : Reader) (next : Rest) → IsOrdered r → IsRestOf r.left next → IsOrdered (record { left = next; right = r.right })
left-ordered r next order is = record { left = subst IsInPlaceOrder (sym is.rest) (order-drop (entries_in r.left.entries) order.left); right = order.right }

pub right-ordered : (r : Reader) (next : Rest) → IsOrdered r → IsRestOf r.right next → IsOrdered (record { left = r.left; right = next })
right-ordered r next order is = record { left = order.left; right = subst IsInPlaceOrder (sym is.rest) (order-drop (entries_in r.right.entries) order.right) }
