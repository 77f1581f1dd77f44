-- What a row of nodes gives for entries and then for more, and the replay of a log and then more of it.
use Rattle.std.proofs.Common.{◌≡◌, ◌∙◌, ap, ap₂, refl, sym, subst, ℕ, Bool, List, [], ◌∷◌, ◌++◌, map, filter, None, Some, All, arith}
use Rattle.std.specs.Int.{w64, from_be_bytes}
use Rattle.std.specs.Prelude.{◌==◌, option_map, unwrap_or, not, IsTrue}
use Rattle.std.specs.List.{AllZip}
use Rattle.std.proofs.lemmas.List.{map-append}
use Rattle.std.proofs.lemmas.List.Elements.{All-cons, All-head, All-nil, All-tail, filter-append}
use Rattle.ksql_types.specs.declared.relation.StoreEntry.{StoreEntry}
use Rattle.ksql_place.specs.declared.change.Change.{Change}
use Rattle.ksql_nodes.specs.declared.node.Node.{Node}
use Rattle.ksql_nodes.specs.declared.node.Node.TheVariants.{Rekey, Table, JoinStreamTable, JoinTables, Filter, Group, Aggregate, Having, Select}
use Rattle.ksql_nodes.specs.Entries.{Entry, from_side, through}
use Rattle.ksql_nodes.specs.Nodes.{gives}
use Rattle.ksql_nodes.proofs.Results.{results-append}
use Rattle.state_store.specs.Store.{Values, replay, numbered}
use Rattle.state_store.proofs.ReplayLemmas.{replay-append}
use Rattle.operator.specs.Holding.{IsBaseOf, Maps, committed, is_of_time, no_maps, replayed, time_after}
use Rattle.operator.specs.StandsFor.{StandsFor}
use Rattle.operator.specs.Storable.{IsStorable}
use Rattle.operator.proofs.Fresh.{holds-none, none}
use Rattle.op_chain.specs.Chain.{AreStorable, StandAlong, given, has_operator, maps_after, passed, replayed_along}

-- ---- what they give

-- what comes to the next node of entries and then of others
pub passed-append : (node : Node) (earlier us vs : List Entry) → passed node earlier (us ++ vs) ≡ passed node earlier us ++ passed node (earlier ++ us) vs
passed-append node earlier us vs =
    ap (from_side 0) (results-append (gives 1 node) earlier us vs) ∙ map-append (λ (c : Change). record { side = 0; change = c }) _ _

-- what nodes give for entries and then for others
pub given-append : (nodes : List Node) (earlier us vs : List Entry) → given nodes earlier (us ++ vs) ≡ given nodes earlier us ++ given nodes (earlier ++ us) vs
unfolding given
given-append [] earlier us vs = map-append (λ (e : Entry). e.change) us vs
given-append (n ∷ ns) earlier us vs =
    let before : List Entry = passed n [] earlier in
    let first : List Entry = passed n earlier us in
    let later : List Entry = passed n (earlier ++ us) vs in
    ap (given ns before) (passed-append n earlier us vs)
    ∙ given-append ns before first later
    ∙ ap (λ (b : List Entry). given ns before first ++ given ns b later) (sym (passed-append n [] earlier us))

-- what holds of each of two lists in a row holds of each of either
All-parts : {X : Type 0} (P : X → Type 0) (xs ys : List X) → All P (xs ++ ys) → All P xs × All P ys
All-parts P [] ys all = (All-nil P, all)
All-parts P (x ∷ xs) ys all =
    let rest = All-parts P xs ys (All-tail P x (xs ++ ys) all) in
    (All-cons P x xs (All-head P x (xs ++ ys) all) rest.0, rest.1)

-- what can be stored in a row can be stored in two parts
pub storable-append : (nodes : List Node) (earlier us vs : List Entry) → AreStorable nodes earlier (us ++ vs) → AreStorable nodes earlier us × AreStorable nodes (earlier ++ us) vs
storable-append [] earlier us vs h = (tt, tt)
storable-append (n ∷ ns) earlier us vs h =
    let later : List Entry = passed n (earlier ++ us) vs in
    let here = All-parts (λ (e : Entry). IsStorable n e.side e.change) us vs h.0 in
    let rest = storable-append ns (passed n [] earlier) (passed n earlier us) later (subst (AreStorable ns (passed n [] earlier)) (passed-append n earlier us vs) h.1) in
    ((here.0, rest.0), (here.1, subst (λ (b : List Entry). AreStorable ns b later) (sym (passed-append n [] earlier us)) rest.1))

-- from the beginning they give what the nodes' steps give for the entries
pub given-through : (nodes : List Node) (es : List Entry) → given nodes [] es ≡ through (map (gives 1) nodes) es
unfolding given
given-through [] es = refl
given-through (n ∷ ns) es = given-through ns (passed n [] es)

-- ---- the replay of a log

replay-both : (number : ℕ) (m : Values) (us vs : List StoreEntry) → replay m (numbered number (us ++ vs)) ≡ replay (replay m (numbered number us)) (numbered number vs)
replay-both number m us vs =
    ap (replay m) (filter-append (λ (entry : StoreEntry). entry.store == number) us vs) ∙ replay-append m (numbered number us) (numbered number vs)

time-append : (us vs : List StoreEntry) (time : ℕ) → time_after time (us ++ vs) ≡ time_after (time_after time us) vs
time-append [] vs time = refl
time-append (entry ∷ us) vs time = time-append us vs (unwrap_or (option_map (from_be_bytes w64) entry.value) time)

filter-both : (p : StoreEntry → Bool) (number : ℕ) (us vs : List StoreEntry) → filter p (numbered number (us ++ vs)) ≡ filter p (numbered number us) ++ filter p (numbered number vs)
filter-both p number us vs =
    ap (filter p) (filter-append (λ (entry : StoreEntry). entry.store == number) us vs) ∙ filter-append p (numbered number us) (numbered number vs)

-- a node's stores after a log and then another
pub replayed-append : (node : Node) (m : Maps) (us vs : List StoreEntry) → replayed node m (us ++ vs) ≡ replayed node (replayed node m us) vs
replayed-append (Rekey key) m us vs = refl
replayed-append (Table relation) m us vs = ap (λ (left : Values). record m { left = left }) (replay-both 0 m.left us vs)
replayed-append (JoinStreamTable kind on left right) m us vs = ap (λ (right : Values). record m { right = right }) (replay-both 1 m.right us vs)
replayed-append (JoinTables kind left right) m us vs =
    ap₂ (λ (left right : Values). record m { left = left; right = right }) (replay-both 0 m.left us vs) (replay-both 1 m.right us vs)
replayed-append (Filter on) m us vs = refl
replayed-append (Group keys) m us vs = refl
replayed-append (Aggregate over aggs None) m us vs = ap (λ (aggregate : Values). record m { aggregate = aggregate }) (replay-both 2 m.aggregate us vs)
replayed-append (Aggregate over aggs (Some w)) m us vs =
    let of_windows : StoreEntry → Bool = λ entry. not (is_of_time entry) in
    ap₂ (λ (windows : Values) (time : ℕ). record m { windows = windows; time = time })
    (ap (replay m.windows) (filter-both of_windows 2 us vs) ∙ replay-append m.windows (filter of_windows (numbered 2 us)) (filter of_windows (numbered 2 vs)))
    (ap (time_after m.time) (filter-both is_of_time 2 us vs) ∙ time-append (filter is_of_time (numbered 2 us)) (filter is_of_time (numbered 2 vs)) m.time)
replayed-append (Having on) m us vs = refl
replayed-append (Select keys values) m us vs = refl

-- a replay continues from the stores after a log
pub replayed-after : (nodes : List Node) (us vs : List StoreEntry) → replayed_along nodes (maps_after nodes us) vs ≡ maps_after nodes (us ++ vs)
replayed-after [] us vs = refl
replayed-after (n ∷ ns) us vs = ap₂ (λ (m : Maps) (ms : List Maps). m ∷ ms) (sym (replayed-append n no_maps us vs)) (replayed-after ns us vs)

-- the maps at the last commit are those without writes since
pub bases-committed : (maps : List Maps) → AllZip IsBaseOf maps (map committed maps)
bases-committed [] = tt
bases-committed (m ∷ maps) = (record { left = refl; right = refl; aggregate = refl; windows = refl; time = omega arith }, bases-committed maps)

-- ---- before any entry

pub stands-none : (node : Node) → StandsFor node (committed (replayed node no_maps [])) []
stands-none (Rekey key) = record { spelled = tt; exact = holds-none }
stands-none (Table relation) = record { spelled = tt; exact = record { left = none; right = none; aggregate = none; windows = none; time = refl } }
stands-none (JoinStreamTable kind on left right) = record { spelled = tt; exact = record { left = none; right = none; aggregate = none; windows = none; time = refl } }
stands-none (JoinTables kind left right) = record { spelled = tt; exact = record { left = none; right = none; aggregate = none; windows = none; time = refl } }
stands-none (Filter on) = record { spelled = tt; exact = holds-none }
stands-none (Group keys) = record { spelled = tt; exact = holds-none }
stands-none (Aggregate over aggs None) = record { spelled = (tt, λ b. tt); exact = record { left = none; right = none; aggregate = none; windows = none; time = refl } }
stands-none (Aggregate over aggs (Some w)) = record { spelled = (tt, λ b. tt); exact = record { left = none; right = none; aggregate = none; windows = none; time = refl } }
stands-none (Having on) = record { spelled = tt; exact = holds-none }
stands-none (Select keys values) = record { spelled = tt; exact = holds-none }

-- before any entry, a row's stores stand for none
pub stand-none : (nodes : List Node) → StandAlong nodes (maps_after nodes []) []
stand-none [] = tt
stand-none (n ∷ ns) = (stands-none n, stand-none ns)

pub fresh-stands : (nodes : List Node) → All (λ n. IsTrue (has_operator n)) nodes → StandAlong nodes (maps_after nodes []) []
fresh-stands nodes known = stand-none nodes
