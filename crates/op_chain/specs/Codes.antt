-- Codes that let proofs tell the parts of operators apart.
use Rattle.std.specs.Prelude.{ℕ, Bool, List, refl}
use Rattle.std.specs.Coded.{Coded, code_by, coded×, coded_bool, coded_list, coded_ℕ}
use Rattle.std.specs.FinMap as finite
use Rattle.ksql_nodes.specs.contracts.node.Node as node
use Rattle.ksql_nodes.specs.declared.node.Node.{Node}
use Rattle.state_store.specs.Store.{Content, Values, content_code}
use Rattle.operator.specs.Holding.{Held, Maps}
use Rattle.op_chain.specs.Chain.{ChainView}

-- each is coded as its fields
abbrev pub held_code : Coded Held
held_code =
    let four = coded× content_code (coded× content_code (coded× content_code (coded× content_code coded_ℕ))) in
    code_by
    (Content × (Content × (Content × (Content × ℕ))))
    four
    (λ h. (h.left, (h.right, (h.aggregate, (h.windows, h.time)))))
    (λ p. record { left = p.0; right = p.1.0; aggregate = p.1.1.0; windows = p.1.1.1.0; time = p.1.1.1.1 })
    (λ _. refl)

abbrev pub maps_code : Coded Maps
maps_code =
    let bytes = coded_list coded_ℕ in
    let map = finite.code bytes bytes in
    code_by
    (Values × (Values × (Values × (Values × ℕ))))
    (coded× map (coded× map (coded× map (coded× map coded_ℕ))))
    (λ m. (m.left, (m.right, (m.aggregate, (m.windows, m.time)))))
    (λ p. record { left = p.0; right = p.1.0; aggregate = p.1.1.0; windows = p.1.1.1.0; time = p.1.1.1.1 })
    (λ _. refl)

abbrev pub nodes_code : Coded (List Node)
nodes_code = coded_list node.the_row.coded

abbrev pub chain_code : Coded ChainView
chain_code =
    code_by
    (List Node × (List Held × Bool))
    (coded× nodes_code (coded× (coded_list held_code) coded_bool))
    (λ c. (c.nodes, (c.held, c.failed)))
    (λ p. record { nodes = p.0; held = p.1.0; failed = p.1.1 })
    (λ _. refl)
