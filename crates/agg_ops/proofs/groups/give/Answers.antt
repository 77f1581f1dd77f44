use Rattle.std.proofs.Common.{◌≡◌, ◌∙◌, ap, subst, List, [], ◌∷◌, ◌++◌, ℕ}
use Rattle.std.specs.Prelude.{None, Some, unwrap_or}
use Rattle.std.specs.FinMap.{get}
use Rattle.ksql_place.specs.declared.change.Body.TheVariants.{Turned}
use Rattle.ksql_place.specs.declared.change.Change.{Change}
use Rattle.ksql_nodes.specs.Entries.{Entry, of_key}
use Rattle.record_codec.specs.Spelling.{values, AreSpellable}
use Rattle.state_store.specs.Store.{with_value}
use Rattle.operator.specs.Kept.{totals}
use Rattle.agg_ops.specs.Totals.{changed, kept_time, next_totals, result_of}
use Rattle.agg_ops.proofs.GroupsLemmas.{groups-read, groups-spelled, groups-more, change-of}
use Rattle.agg_ops.proofs.groups.give.Goals as goal

pub returns-clause-next : goal.returns-clause-next
returns-clause-next c = λ side es h.
    let over = c.args.over in
    let m = c.args.groups.now.map in
    let change = c.args.change in
    let aggs = c.args.aggs.now in
    let e : Entry = record { side = side; change = change } in
    let mine = of_key change.key es in
    let key = c.in_ok-key.ensures.spellable in
    let turn = c.in_ok-turn.ensures in
    let read_at : c.items.result.now ≡ values change.key = c.items.ensures ∙ c.in_ok-key.ensures.bytes in
    let kept_at : c.items-2.result.now ≡ values change.key = c.items-2.ensures ∙ c.in_ok-key.ensures.bytes in
    let before : c.in_ok-turn.turn.before.items ≡ unwrap_or (totals over aggs mine) [] =
    turn.before (totals over aggs mine) (groups-spelled over aggs m es change.key h key) (c.find-found.ensures.value ∙ ap (get m) read_at ∙ groups-read over aggs m es change.key h key) in
    let after : c.in_ok-turn.turn.after.items ≡ next_totals over aggs change (unwrap_or (totals over aggs mine) []) = turn.after ∙ ap (next_totals over aggs change) before in
    let bytes : c.in_ok-turn.turn.bytes ≡ values (next_totals over aggs change (unwrap_or (totals over aggs mine) [])) = turn.bytes ∙ ap values after in
    let time : c.kept_time-time.result ≡ kept_time c.in_ok-turn.turn.after.items = c.kept_time-time.ensures.time ∙ ap kept_time c.as_slice.ensures.value in
    let body : c.in_ok-body.body ≡ Turned (result_of change.key None c.in_ok-turn.turn.before.items) (result_of change.key None c.in_ok-turn.turn.after.items) = c.in_ok-body.ensures in
    let pushed : Change = record { place = change.place; time = c.kept_time-time.result; key = change.key; span = None; body = c.in_ok-body.body } in
    let given : pushed ≡ changed change None c.in_ok-turn.turn.before.items c.in_ok-turn.turn.after.items =
    λ i. record { place = change.place; time = time i; key = change.key; span = None; body = body i } in (
      c.push_reserved.ensures.items ∙ ap (λ (before : List Change). before ++ pushed ∷ []) c.reserve.ensures.items
          ∙ ap (λ (made : Change). c.args.out.now.items ++ made ∷ []) (given ∙ change-of over aggs None mine e _ _ before turn.after),
      groups-more over aggs m c.write_at.new.self.map es e h key (subst AreSpellable after turn.spellable)
          (c.in_ok-write_at.ensures.map ∙ ap (λ (k : List ℕ). with_value m k (Some c.in_ok-turn.turn.bytes)) kept_at ∙ ap (λ (v : List ℕ). with_value m (values change.key) (Some v)) bytes),
    )
