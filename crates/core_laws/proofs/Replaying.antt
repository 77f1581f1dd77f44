-- The stores of a row of nodes, from longer changelogs, and from empty ones.
use Rattle.std.proofs.Common.{◌≡◌, ◌∙◌, ap, ap₂, refl, sym, ℕ, List, [], ◌∷◌, ◌++◌, None, Some}
use Rattle.std.proofs.lemmas.List.Elements.{filter-append}
use Rattle.std.specs.Prelude.{◌==◌, filter, not, option_map, unwrap_or}
use Rattle.std.specs.Int.{w64, from_be_bytes}
use Rattle.ksql_types.specs.declared.relation.StoreEntry.{StoreEntry}
use Rattle.ksql_nodes.specs.declared.node.Node.{Node}
use Rattle.ksql_nodes.specs.declared.node.Node.TheVariants.{Rekey, Table, JoinStreamTable, JoinTables, Filter, Group, Aggregate, Having, Select}
use Rattle.state_store.specs.Store.{Values, numbered, replay, with_value}
use Rattle.operator.specs.Holding.{Maps, committed, is_of_time, no_maps, replayed, time_after}
use Rattle.operator.specs.StandsFor.{StandsFor}
use Rattle.operator.proofs.Fresh.{holds-none, none}
use Rattle.op_chain.specs.Chain.{StandAlong, maps_after}

-- ---- logs that go on

replay-append : (m : Values) (us vs : List StoreEntry) → replay m (us ++ vs) ≡ replay (replay m us) vs
replay-append m [] vs = refl
replay-append m (u ∷ us) vs = replay-append (with_value m u.key u.value) us vs

time-append : (time : ℕ) (us vs : List StoreEntry) → time_after time (us ++ vs) ≡ time_after (time_after time us) vs
time-append time [] vs = refl
time-append time (u ∷ us) vs = time-append (unwrap_or (option_map (from_be_bytes w64) u.value) time) us vs

store-append : (number : ℕ) (m : Values) (us vs : List StoreEntry) → replay m (numbered number (us ++ vs)) ≡ replay (replay m (numbered number us)) (numbered number vs)
store-append number m us vs =
    ap (replay m) (filter-append (λ (entry : StoreEntry). entry.store == number) us vs) ∙ replay-append m (numbered number us) (numbered number vs)

windows-append : (m : Values) (us vs : List StoreEntry) → replay m (filter (λ entry. not (is_of_time entry)) (numbered 2 (us ++ vs)))
    ≡ replay (replay m (filter (λ entry. not (is_of_time entry)) (numbered 2 us))) (filter (λ entry. not (is_of_time entry)) (numbered 2 vs))
windows-append m us vs =
    ap (λ log. replay m (filter (λ entry. not (is_of_time entry)) log)) (filter-append (λ (entry : StoreEntry). entry.store == 2) us vs)
    ∙ ap (replay m) (filter-append (λ entry. not (is_of_time entry)) (numbered 2 us) (numbered 2 vs))
    ∙ replay-append m (filter (λ entry. not (is_of_time entry)) (numbered 2 us)) (filter (λ entry. not (is_of_time entry)) (numbered 2 vs))

times-append : (time : ℕ) (us vs : List StoreEntry) → time_after time (filter is_of_time (numbered 2 (us ++ vs)))
    ≡ time_after (time_after time (filter is_of_time (numbered 2 us))) (filter is_of_time (numbered 2 vs))
times-append time us vs =
    ap (λ log. time_after time (filter is_of_time log)) (filter-append (λ (entry : StoreEntry). entry.store == 2) us vs)
    ∙ ap (time_after time) (filter-append is_of_time (numbered 2 us) (numbered 2 vs))
    ∙ time-append time (filter is_of_time (numbered 2 us)) (filter is_of_time (numbered 2 vs))

replayed-append : (n : Node) (m : Maps) (us vs : List StoreEntry) → replayed n m (us ++ vs) ≡ replayed n (replayed n m us) vs
replayed-append (Rekey key) m us vs = refl
replayed-append (Table relation) m us vs = ap (λ left. record m { left = left }) (store-append 0 m.left us vs)
replayed-append (JoinStreamTable kind on l r) m us vs = ap (λ right. record m { right = right }) (store-append 1 m.right us vs)
replayed-append (JoinTables kind l r) m us vs = ap₂ (λ left right. record m { left = left; right = right }) (store-append 0 m.left us vs) (store-append 1 m.right us vs)
replayed-append (Filter on) m us vs = refl
replayed-append (Group keys) m us vs = refl
replayed-append (Aggregate over aggs None) m us vs = ap (λ groups. record m { aggregate = groups }) (store-append 2 m.aggregate us vs)
replayed-append (Aggregate over aggs (Some w)) m us vs = ap₂ (λ windows time. record m { windows = windows; time = time }) (windows-append m.windows us vs) (times-append m.time us vs)
replayed-append (Having on) m us vs = refl
replayed-append (Select keys items) m us vs = refl

first_of : Maps → List Maps → Maps
first_of m [] = m
first_of m (x ∷ xs) = x

rest_of : List Maps → List Maps
rest_of [] = []
rest_of (x ∷ xs) = xs

-- changelogs with the same replay continue to have the same
pub maps-go_on : (nodes : List Node) (us vs more : List StoreEntry) → maps_after nodes us ≡ maps_after nodes vs → maps_after nodes (us ++ more) ≡ maps_after nodes (vs ++ more)
unfolding first_of rest_of
maps-go_on [] us vs more same = refl
maps-go_on (n ∷ ns) us vs more same =
    ap₂ (λ (m : Maps) ms. m ∷ ms)
    (replayed-append n no_maps us more ∙ ap (λ m. replayed n m more) (ap (first_of no_maps) same) ∙ sym (replayed-append n no_maps vs more))
    (maps-go_on ns us vs more (ap rest_of same))

-- ---- empty logs

fresh-stands : (n : Node) → StandsFor n (committed (replayed n no_maps [])) []
fresh-stands (Rekey key) = record { spelled = tt; exact = holds-none }
fresh-stands (Table relation) = record { spelled = tt; exact = record { left = none; right = none; aggregate = none; windows = none; time = refl } }
fresh-stands (JoinStreamTable kind on l r) = record { spelled = tt; exact = record { left = none; right = none; aggregate = none; windows = none; time = refl } }
fresh-stands (JoinTables kind l r) = record { spelled = tt; exact = record { left = none; right = none; aggregate = none; windows = none; time = refl } }
fresh-stands (Filter on) = record { spelled = tt; exact = holds-none }
fresh-stands (Group keys) = record { spelled = tt; exact = holds-none }
fresh-stands (Aggregate over aggs None) = record { spelled = (tt, λ b. tt); exact = record { left = none; right = none; aggregate = none; windows = none; time = refl } }
fresh-stands (Aggregate over aggs (Some w)) = record { spelled = (tt, λ b. tt); exact = record { left = none; right = none; aggregate = none; windows = none; time = refl } }
fresh-stands (Having on) = record { spelled = tt; exact = holds-none }
fresh-stands (Select keys items) = record { spelled = tt; exact = holds-none }

-- the stores of an empty log stand for no entries
pub fresh-along : (nodes : List Node) → StandAlong nodes (maps_after nodes []) []
fresh-along [] = tt
fresh-along (n ∷ ns) = (fresh-stands n, fresh-along ns)
