-- A step of the loop over the windows of a change.
use Rattle.std.proofs.Common.{◌≡◌, ◌∙◌, ap, ap₂, refl, sym, subst, ℕ, suc, ◌+◌, ◌<◌, ◌≤◌, ◌^◌, List, [], ◌∷◌, ◌++◌, length, flat_map, take, drop, get_or, append_assoc, drop-cons, Bool, true, false, cond, arith}
use Rattle.std.specs.Prelude.{Option, Some, IfSome, IsTrue, nat_lt, option_map, unwrap_or}
use Rattle.std.specs.FinMap.{get, insert}
use Rattle.std.specs.List.{enumerate_from}
use Rattle.std.proofs.lemmas.List.{append-nil, append_cancel_left, length-take, take_more, take-append-drop}
use Rattle.std.proofs.lemmas.Grind.{flat_map-append}
use Rattle.ksql_types.specs.declared.relation.Kind.TheVariants.{Stream}
use Rattle.ksql_types.specs.declared.relation.Span.{Span}
use Rattle.ksql_types.specs.declared.relation.Window.{Window}
use Rattle.ksql_types.specs.declared.value.Value.{Value}
use Rattle.ksql_place.specs.declared.change.Change.{Change}
use Rattle.ksql_program.specs.declared.query.Agg.{Agg}
use Rattle.ksql_nodes.specs.Aggregates.{group_change}
use Rattle.ksql_nodes.specs.Entries.{Entry, latest_time}
use Rattle.ksql_nodes.specs.Rows.{at_path}
use Rattle.ksql_nodes.specs.Windows.{added, timed, window_change, windowed, windows_of, with_times}
use Rattle.record_codec.specs.Spelling.{AreSpellable, values}
use Rattle.state_store.specs.Store.{Values}
use Rattle.operator.specs.Front.{IsFront}
use Rattle.operator.specs.Kept.{totals}
use Rattle.window_store.specs.Windows.{under}
use Rattle.agg_ops.specs.Totals.{changed, is_sound_window, next_totals}
use Rattle.agg_ops.specs.WindowGroups.{HoldsPartly}
use Rattle.agg_ops.proofs.GroupsLemmas.{change-of}
use Rattle.agg_ops.proofs.TotalsLemmas.{totals-more}
use Rattle.agg_ops.proofs.WindowLemmas.{windows-change, windows-more, windows-passed, windows-read, windows-spelled, IsNext}
use Rattle.agg_ops.proofs.WindowStarts.{rise-at, sound-parts, windows-rise, Rise}

-- the changes of an entry's first windows
abbrev pub given_of : List Agg → Window → List Entry → Entry → List Span → List Change
given_of aggs w es e spans = flat_map (window_change Stream aggs w (with_times 1 es) (timed 1 es e)) (enumerate_from 0 spans)

-- an entry was added to some of its windows, and their changes were given
pub record IsAddedTo (aggs : List Agg) (w : Window) (m : Values) (time : ℕ) (es : List Entry) (e : Entry) (spans : List Span) (before after : List Change) : Type 0 where
  pub out : after ≡ before ++ given_of aggs w es e spans
  pub holds : HoldsPartly aggs w m time es e spans

-- the same of what is equal
pub added-along : (aggs : List Agg) (w : Window) (m n : Values) (time now : ℕ) (es : List Entry) (e : Entry) (spans : List Span) (old mid new : List Change) → n ≡ m → now ≡ time → new ≡ mid →
    IsAddedTo aggs w m time es e spans old mid → IsAddedTo aggs w n now es e spans old new
added-along aggs w m n time now es e spans old mid new map at out h =
    subst (λ (m : Values). IsAddedTo aggs w m now es e spans old new) (sym map)
    (subst (λ (time : ℕ). IsAddedTo aggs w m time es e spans old new) (sym at) (subst (λ (mid : List Change). IsAddedTo aggs w m time es e spans old mid) (sym out) h))

enumerate-append : {A : Type 0} (n : ℕ) (xs ys : List A) → enumerate_from n (xs ++ ys) ≡ enumerate_from n xs ++ enumerate_from (n + length xs) ys
enumerate-append n [] ys = ap (λ (i : ℕ). enumerate_from i ys) (omega arith)
enumerate-append n (x ∷ xs) ys =
    ap (λ rest. (n, x) ∷ rest) (enumerate-append (n + 1) xs ys ∙ ap (λ (i : ℕ). enumerate_from (n + 1) xs ++ enumerate_from i ys) (omega arith))

-- the changes of the first windows are a front of those of all windows
pub first-given : (aggs : List Agg) (w : Window) (es : List Entry) (e : Entry) (spans : List Span) (i : ℕ) → IsFront (given_of aggs w es e (take i spans)) (given_of aggs w es e spans)
first-given aggs w es e spans i =
    let change = window_change Stream aggs w (with_times 1 es) (timed 1 es e) in
    let firsts = take i spans in
    let others = enumerate_from (0 + length firsts) (drop i spans) in (
      flat_map change others,
      sym (flat_map-append change (enumerate_from 0 firsts) others) ∙ ap (flat_map change) (sym (enumerate-append 0 firsts (drop i spans)))
          ∙ ap (given_of aggs w es e) (take-append-drop i spans),
    )

-- so is what was added for them
pub added-front : (aggs : List Agg) (w : Window) (es : List Entry) (e : Entry) (spans : List Span) (i : ℕ) (some old mid : List Change) → spans ≡ windows_of w e.change.time → mid ≡ old ++ some →
    mid ≡ old ++ given_of aggs w es e (take i spans) → IsFront some (windowed Stream aggs w (with_times 1 es) (timed 1 es e))
added-front aggs w es e spans i some old mid all out given =
    let front = first-given aggs w es e spans i in
    let same : some ≡ given_of aggs w es e (take i spans) = append_cancel_left old some (given_of aggs w es e (take i spans)) (sym out ∙ given) in
    (front.0, ap (λ (some : List Change). some ++ front.0) same ∙ front.1 ∙ ap (given_of aggs w es e) all)

-- the change of the window with these bytes, whatever was kept of it
abbrev pub IsTurnOf : List Agg → Change → List ℕ → ℕ → Span → Values → Values → Change → Type 0
IsTurnOf aggs change at i s m n made =
    (kept : Option (List Value)) → IfSome kept AreSpellable → get m at ≡ option_map values kept →
    let before = unwrap_or kept [] in
    let after = next_totals Stream aggs change before in
    (made ≡ at_path (change.place.path ++ i ∷ []) (changed change (Some s) before after)) × AreSpellable after × (n ≡ insert m at (values after))

-- ---- the window with an index among those of a time

module _ (w : Window) (time : ℕ) (spans : List Span) (i : ℕ) (d s : Span) (all : spans ≡ windows_of w time) (lt : i < length spans) (is : get_or spans i d ≡ s) where
  cut : windows_of w time ≡ take i spans ++ s ∷ drop (suc i) spans
  cut =
      sym all ∙ sym (take-append-drop i spans)
      ∙ ap (λ rest. take i spans ++ rest) (drop-cons spans i d lt ∙ ap (λ (a : Span). a ∷ drop (suc i) spans) is)

  -- it starts at the time or before, and lasts its size
  pub span-bounds : IsTrue (is_sound_window w) → (s.start ≤ time) × (s.end ≡ s.start + w.size)
  span-bounds sound =
      let here = rise-at w 0 time (take i spans) (drop (suc i) spans) s (subst (Rise w 0 time) cut (windows-rise w time (sound-parts w sound).moves)) in
      (here.last, here.end)

module _ (aggs : List Agg) (w : Window) (time : ℕ) (es : List Entry) (e : Entry) (spans : List Span) (i : ℕ) (d s : Span) (sound : IsTrue (is_sound_window w)) (small : time < 2 ^ 64)
    (now : time ≡ latest_time (es ++ e ∷ [])) (early : e.change.time ≤ time) (all : spans ≡ windows_of w e.change.time) (lt : i < length spans) (is : get_or spans i d ≡ s) where
  front : take (i + 1) spans ≡ take i spans ++ s ∷ []
  front = take_more spans i d lt ∙ ap (λ (a : Span). take i spans ++ a ∷ []) is

  next : IsNext w time e (take i spans) s (drop (suc i) spans)
  next = record { sound = sound; small = small; early = early; windows = cut w e.change.time spans i d s all lt is }

  given-more : given_of aggs w es e (take (i + 1) spans) ≡ given_of aggs w es e (take i spans) ++ window_change Stream aggs w (with_times 1 es) (timed 1 es e) (i, s)
  given-more =
      let change = window_change Stream aggs w (with_times 1 es) (timed 1 es e) in
      let long : 0 + length (take i spans) ≡ i = omega (arith, length-take i spans) in
      ap (λ (spans : List Span). given_of aggs w es e spans) front ∙ ap (flat_map change) (enumerate-append 0 (take i spans) (s ∷ []))
      ∙ flat_map-append change (enumerate_from 0 (take i spans)) ((0 + length (take i spans), s) ∷ [])
      ∙ ap (λ (j : ℕ). given_of aggs w es e (take i spans) ++ (change (j, s) ++ [])) long
      ∙ ap (λ (made : List Change). given_of aggs w es e (take i spans) ++ made) (append-nil (change (i, s)))

  -- the change of the window, if it is open
  change-at : (b : Bool) → nat_lt time (s.end + w.grace) ≡ b →
      window_change Stream aggs w (with_times 1 es) (timed 1 es e) (i, s)
      ≡ cond b (at_path (e.change.place.path ++ i ∷ []) (group_change Stream aggs (Some s) (added w s e.change.key (with_times 1 es)) e) ∷ []) []
  change-at b at =
      windows-change aggs w time es e (take i spans) s (drop (suc i) spans) i next.windows now
      ∙ ap (λ b. cond b (at_path (e.change.place.path ++ i ∷ []) (group_change Stream aggs (Some s) (added w s e.change.key (with_times 1 es)) e) ∷ []) []) at

  -- a window that is over by now takes nothing
  pub shut-step : (m : Values) (old mid : List Change) → nat_lt time (s.end + w.grace) ≡ false → IsAddedTo aggs w m time es e (take i spans) old mid →
      IsAddedTo aggs w m time es e (take (i + 1) spans) old mid
  shut-step m old mid shut h = record {
    out =
        h.out
        ∙ ap (λ (made : List Change). old ++ made)
        (sym (given-more ∙ ap (λ (made : List Change). given_of aggs w es e (take i spans) ++ made) (change-at false shut) ∙ append-nil (given_of aggs w es e (take i spans))));
    holds = subst (HoldsPartly aggs w m time es e) (sym front) (windows-passed aggs w m time es e (take i spans) s shut h.holds);
  }

  -- an open window takes the entry, and its change is given
  pub open-step : (m n : Values) (old mid new : List Change) (made : Change) → nat_lt time (s.end + w.grace) ≡ true → IsAddedTo aggs w m time es e (take i spans) old mid →
      IsTurnOf aggs e.change (under (values e.change.key) s.start) i s m n made → new ≡ mid ++ made ∷ [] → IsAddedTo aggs w n time es e (take (i + 1) spans) old new
  open-step m n old mid new made is_open h turn push =
      let mine = added w s e.change.key (with_times 1 es) in
      let before = unwrap_or (totals Stream aggs mine) [] in
      let after = next_totals Stream aggs e.change before in
      let earlier = take i spans in
      let later = drop (suc i) spans in
      let turned = turn (totals Stream aggs mine) (windows-spelled aggs w m time es e earlier s later next is_open h.holds) (windows-read aggs w m time es e earlier s later next is_open h.holds) in
      let given : made ∷ [] ≡ window_change Stream aggs w (with_times 1 es) (timed 1 es e) (i, s) =
      ap (λ (c : Change). c ∷ []) (turned.0 ∙ ap (at_path (e.change.place.path ++ i ∷ [])) (change-of Stream aggs (Some s) mine e before after refl refl))
      ∙ sym (change-at true is_open) in
      record {
        out =
            push ∙ ap₂ (λ (a b : List Change). a ++ b) h.out given
            ∙ append_assoc old (given_of aggs w es e earlier) (window_change Stream aggs w (with_times 1 es) (timed 1 es e) (i, s))
            ∙ ap (λ (made : List Change). old ++ made) (sym given-more);
        holds =
            subst (HoldsPartly aggs w n time es e) (sym front)
            (windows-more aggs w m time es e earlier s later next is_open h.holds n after (totals-more Stream aggs mine e) turned.1 turned.2);
      }
