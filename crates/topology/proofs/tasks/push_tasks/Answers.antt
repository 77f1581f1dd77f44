use Rattle.std.proofs.Common.{◌∙◌, ap, sym, ℕ, List, [], ◌∷◌, ◌++◌, append_assoc, map, arith}
use Rattle.std.specs.List.{range_with_len}
use Rattle.std.proofs.lemmas.List.FromFn.{map-range_with_len_more}
use Rattle.ksql_types.specs.declared.relation.TaskName.{TaskName}
use Rattle.topology.proofs.tasks.push_tasks.Goals as goal

pub loop-part-preserved : goal.loop-part-preserved
loop-part-preserved c =
    let old : List TaskName = c.args.tasks.now.items in
    let part : ℕ = c.loop-part.part in
    let task : ℕ → TaskName = λ n. record { sub = c.args.sub.now.number; part = n } in
    c.in_ok-push.ensures.items
    ∙ ap (λ (tasks : List TaskName). tasks ++ task part ∷ []) c.loop-part.invariant
    ∙ append_assoc old (map task (range_with_len 0 part)) (task part ∷ [])
    ∙ ap (λ (tasks : List TaskName). old ++ tasks) (sym (map-range_with_len_more task 0 part part (omega arith)))
