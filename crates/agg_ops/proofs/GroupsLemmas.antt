-- The groups of a store: reading them, and one more entry.
use Rattle.std.proofs.Common.{◌≡◌, ◌∙◌, ap, refl, sym, subst, List, [], ◌∷◌, ◌++◌, ℕ, Bool, true, false, cond}
use Rattle.std.specs.Prelude.{Option, None, Some, IfSome, option_map, unwrap_or}
use Rattle.std.proofs.lemmas.List.{append-nil}
use Rattle.std.specs.Cmp.Lexicographic.{bytes_decides}
use Rattle.std.specs.FinMap.{get}
use Rattle.std.specs.Str.{bytes_eq}
use Rattle.ksql_types.specs.declared.relation.Kind.{Kind}
use Rattle.ksql_types.specs.declared.relation.Span.{Span}
use Rattle.ksql_types.specs.declared.value.Value.{Value}
use Rattle.ksql_place.specs.declared.change.Body.TheVariants.{Turned}
use Rattle.ksql_place.specs.declared.change.Change.{Change}
use Rattle.ksql_program.specs.declared.query.Agg.{Agg}
use Rattle.ksql_nodes.specs.Aggregates.{group_change, outcome}
use Rattle.ksql_nodes.specs.Entries.{Entry, of_key, latest_time}
use Rattle.ksql_nodes.proofs.Lists.{All-append}
use Rattle.record_codec.specs.Spelling.{values, AreSpellable, IsSpellableRow}
use Rattle.state_store.specs.Store.{Values, with_value}
use Rattle.state_store.proofs.ReplayLemmas.{get-with_value}
use Rattle.operator.specs.Kept.{at_bytes, totals}
use Rattle.operator.specs.StandsFor.{HasSpelledKey}
use Rattle.operator.proofs.SameKeys.{at_bytes-of_key, at_bytes-more}
use Rattle.agg_ops.specs.Groups.{HoldsGroups}
use Rattle.agg_ops.specs.Totals.{kept_time, next_totals, result_of, changed}
use Rattle.agg_ops.proofs.TotalsLemmas.{totals-more, outcome-of}

-- the value under the bytes of a key
pub groups-read : (over : Kind) (aggs : List Agg) (m : Values) (es : List Entry) (key : List Value) → HoldsGroups over aggs m es → IsSpellableRow key →
    get m (values key) ≡ option_map values (totals over aggs (of_key key es))
groups-read over aggs m es key h spelled =
    h.groups (values key) ∙ ap (λ es. option_map values (totals over aggs es)) (at_bytes-of_key key es spelled h.keys)

pub groups-spelled : (over : Kind) (aggs : List Agg) (m : Values) (es : List Entry) (key : List Value) → HoldsGroups over aggs m es → IsSpellableRow key →
    IfSome (totals over aggs (of_key key es)) AreSpellable
groups-spelled over aggs m es key h spelled =
    subst (λ es. IfSome (totals over aggs es) AreSpellable) (at_bytes-of_key key es spelled h.keys) (h.spelled (values key))

-- what is kept of a group and one more entry
abbrev after_more : Kind → List Agg → List Entry → Entry → List Value
after_more over aggs es e = next_totals over aggs e.change (unwrap_or (totals over aggs (of_key e.change.key es)) [])

totals_at-more : (over : Kind) (aggs : List Agg) (b : List ℕ) (es : List Entry) (e : Entry) → totals over aggs (at_bytes (values e.change.key) es ++ e ∷ []) ≡ Some (after_more over aggs es e) →
    totals over aggs (at_bytes b (es ++ e ∷ [])) ≡ cond (bytes_eq b (values e.change.key)) (Some (after_more over aggs es e)) (totals over aggs (at_bytes b es))
totals_at-more over aggs b es e is = ap (totals over aggs) (at_bytes-more b es e) ∙ by (bytes_eq b (values e.change.key)) refl
  where
    by : (t : Bool) → bytes_eq b (values e.change.key) ≡ t →
        totals over aggs (at_bytes b es ++ cond t (e ∷ []) []) ≡ cond t (Some (after_more over aggs es e)) (totals over aggs (at_bytes b es))
    by true same = ap (λ b. totals over aggs (at_bytes b es ++ e ∷ [])) ((bytes_decides b (values e.change.key)).0 same) ∙ is
    by false other = ap (totals over aggs) (append-nil (at_bytes b es))

-- one entry more
pub groups-more : (over : Kind) (aggs : List Agg) (old new : Values) (es : List Entry) (e : Entry) → HoldsGroups over aggs old es → IsSpellableRow e.change.key → AreSpellable (after_more over aggs es e) →
    new ≡ with_value old (values e.change.key) (Some (values (after_more over aggs es e))) → HoldsGroups over aggs new (es ++ e ∷ [])
groups-more over aggs old new es e h key fits is = record {
  keys = All-append HasSpelledKey es (e ∷ []) h.keys (key, tt);
  spelled = λ b. subst (λ o. IfSome o AreSpellable) (sym (totals_at-more over aggs b es e now)) (both b (bytes_eq b (values e.change.key)));
  groups = λ b.
      ap (λ m. get m b) is ∙ get-with_value old (values e.change.key) (Some (values after)) b
      ∙ value b (bytes_eq b (values e.change.key)) ∙ sym (ap (option_map values) (totals_at-more over aggs b es e now));
}
  where
    after : List Value
    after = after_more over aggs es e

    now : totals over aggs (at_bytes (values e.change.key) es ++ e ∷ []) ≡ Some (after_more over aggs es e)
    now = ap (λ mine. totals over aggs (mine ++ e ∷ [])) (at_bytes-of_key e.change.key es key h.keys) ∙ totals-more over aggs (of_key e.change.key es) e

    both : (b : List ℕ) (t : Bool) → IfSome (cond t (Some (after_more over aggs es e)) (totals over aggs (at_bytes b es))) AreSpellable
    both b true = fits
    both b false = h.spelled b

    value : (b : List ℕ) (t : Bool) → cond t (Some (values after)) (get old b) ≡ option_map values (cond t (Some (after_more over aggs es e)) (totals over aggs (at_bytes b es)))
    value b true = refl
    value b false = h.groups b

time-of : (over : Kind) (aggs : List Agg) (es : List Entry) (e : Entry) → kept_time (unwrap_or (totals over aggs (es ++ e ∷ [])) []) ≡ latest_time (es ++ e ∷ [])
time-of over aggs [] e = refl
time-of over aggs (d ∷ es) e = refl

-- the change of a group depends only on what is kept of it
pub change-of : (over : Kind) (aggs : List Agg) (span : Option Span) (es : List Entry) (e : Entry) (before after : List Value) →
    before ≡ unwrap_or (totals over aggs es) [] → after ≡ next_totals over aggs e.change before → changed e.change span before after ≡ group_change over aggs span es e
change-of over aggs span es e before after first then =
    let all : List Entry = es ++ e ∷ [] in
    let last : after ≡ unwrap_or (totals over aggs all) [] =
    then ∙ ap (next_totals over aggs e.change) first ∙ sym (ap (λ o. unwrap_or o []) (totals-more over aggs es e)) in
    let time : kept_time after ≡ latest_time all = ap kept_time last ∙ time-of over aggs es e in
    let old : result_of e.change.key span before ≡ outcome over aggs e.change.key span es = ap (result_of e.change.key span) first ∙ sym (outcome-of over aggs e.change.key span es) in
    let new : result_of e.change.key span after ≡ outcome over aggs e.change.key span all = ap (result_of e.change.key span) last ∙ sym (outcome-of over aggs e.change.key span all) in
    λ i. record { place = e.change.place; time = time i; key = e.change.key; span = span; body = Turned (old i) (new i) }

-- what a step gives with borrowed aggregates
pub same-aggs : (over : Kind) (lent aggs : List Agg) (old new : Values) (before after : List Change) (change : Change) (side : ℕ) (es : List Entry) → lent ≡ aggs →
    (HoldsGroups over lent old es →
    (after ≡ before ++ group_change over lent None (of_key change.key es) (record { side = side; change = change }) ∷ [])
    × HoldsGroups over lent new (es ++ record { side = side; change = change } ∷ [])) →
    HoldsGroups over aggs old es →
    (after ≡ before ++ group_change over aggs None (of_key change.key es) (record { side = side; change = change }) ∷ [])
    × HoldsGroups over aggs new (es ++ record { side = side; change = change } ∷ [])
same-aggs over lent aggs old new before after change side es is =
    subst (λ (aggs : List Agg). HoldsGroups over aggs old es →
    (after ≡ before ++ group_change over aggs None (of_key change.key es) (record { side = side; change = change }) ∷ [])
    × HoldsGroups over aggs new (es ++ record { side = side; change = change } ∷ [])) is
