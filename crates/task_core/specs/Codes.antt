-- The code that lets proofs tell tasks apart.
use Rattle.std.specs.Prelude.{ℕ, List, refl}
use Rattle.std.specs.Coded.{Coded, code_by, coded×, coded_list, coded_ℕ}
use Rattle.ksql_types.specs.declared.relation.TaskName.{TaskName}
use Rattle.ksql_nodes.specs.declared.node.Node.{Node}
use Rattle.operator.specs.Holding.{Maps}
use Rattle.topology.specs.declared.topology.SubInput.{SubInput}
use Rattle.op_chain.specs.Codes.{maps_code, nodes_code}
use Rattle.task_core.specs.Tasks.{TaskView}

-- each is coded as its fields
abbrev pub name_code : Coded TaskName
name_code = code_by (ℕ × ℕ) (coded× coded_ℕ coded_ℕ) (λ n. (n.sub, n.part)) (λ p. record { sub = p.0; part = p.1 }) (λ _. refl)

abbrev pub input_code : Coded SubInput
input_code =
    code_by (ℕ × (ℕ × ℕ)) (coded× coded_ℕ (coded× coded_ℕ coded_ℕ)) (λ i. (i.topic, (i.relation, i.keys)))
    (λ p. record { topic = p.0; relation = p.1.0; keys = p.1.1 }) (λ _. refl)

abbrev pub task_code : Coded TaskView
task_code =
    code_by
    (TaskName × (ℕ × (ℕ × (List SubInput × (List Node × List Maps)))))
    (coded× name_code (coded× coded_ℕ (coded× coded_ℕ (coded× (coded_list input_code) (coded× nodes_code (coded_list maps_code))))))
    (λ t. (t.name, (t.generation, (t.done, (t.inputs, (t.nodes, t.maps))))))
    (λ p. record { name = p.0; generation = p.1.0; done = p.1.1.0; inputs = p.1.1.1.0; nodes = p.1.1.1.1.0; maps = p.1.1.1.1.1 })
    (λ _. refl)
