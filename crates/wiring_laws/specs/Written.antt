-- The topics that tasks write.
use Rattle.std.specs.Prelude.{ℕ, List, map}
use Rattle.ksql_program.specs.declared.program.Item.{Item}
use Rattle.topology.specs.Topologies.{subs}

-- the topics that the tasks of a program write, each after the topics that its writers read
abbrev pub written_topics : List Item → List ℕ
written_topics items = map (λ s. s.output) (subs items)
