-- The logs of several nodes' stores, one after another: a node looks at its own entries alone.
use Rattle.std.proofs.Common.{◌≡◌, ◌∙◌, ap, ap₂, refl, sym, subst, ℕ, suc, Bool, true, false, cond, true≢false, List, [], ◌∷◌, ◌++◌, map, filter, None, Some, All, AllPairs, arith}
use Rattle.std.specs.Prelude.{◌==◌, ◌||◌, nat_lt, not, IsTrue}
use Rattle.std.specs.List.{AllByRecursion, AllZip, list_any}
use Rattle.std.proofs.lemmas.Bool.Decides.{nat_tests}
use Rattle.std.proofs.lemmas.List.Elements.{All-cons, All-head, All-nil, All-tail, All-from_recursion, recursion_from_All}
use Rattle.ksql_types.specs.declared.relation.StoreEntry.{StoreEntry}
use Rattle.ksql_nodes.specs.declared.node.Node.{Node}
use Rattle.ksql_nodes.specs.declared.node.Node.TheVariants.{Rekey, Table, JoinStreamTable, JoinTables, Filter, Group, Aggregate, Having, Select}
use Rattle.state_store.specs.Store.{replay, numbered}
use Rattle.operator.specs.Holding.{Held, IsBaseOf, IsLoadable, IsOwnLog, IsWindowEntry, Maps, is_of_time, is_store_of, maps_of, replayed, time_after}
use Rattle.op_chain.specs.Along.{IsLogOf}
use Rattle.op_chain.specs.Chain.{HaveOwnStores, MayLoad, replayed_along}
use Rattle.op_chain.proofs.Laws.{replayed-append}

-- no entry of a log is of one of the node's stores
abbrev pub IsOthersLog : Node → List StoreEntry → Type 0
IsOthersLog node log = AllByRecursion (λ entry. is_store_of node entry.store ≡ false) log

-- ---- entries of others

numbered-none : (number : ℕ) (log : List StoreEntry) → AllByRecursion (λ (entry : StoreEntry). (entry.store == number) ≡ false) log → numbered number log ≡ []
numbered-none number [] all = refl
numbered-none number (entry ∷ log) all = ap₂ (λ (b : Bool) (rest : List StoreEntry). cond b (entry ∷ rest) rest) all.0 (numbered-none number log all.1)

weaker : {X : Type 0} (P Q : X → Type 0) → ((x : X) → P x → Q x) → (xs : List X) → AllByRecursion P xs → AllByRecursion Q xs
weaker P Q by [] all = tt
weaker P Q by (x ∷ xs) all = (by x all.0, weaker P Q by xs all.1)

not-zero : (number : ℕ) → nat_lt number 2 ≡ false → (number == 0) ≡ false
not-zero number e = grind (arith, nat_tests)

not-one : (number : ℕ) → nat_lt number 2 ≡ false → (number == 1) ≡ false
not-one number e = grind (arith, nat_tests)

-- a replay of others' entries leaves a node's stores as they are
pub replayed-others : (node : Node) (m : Maps) (log : List StoreEntry) → IsOthersLog node log → replayed node m log ≡ m
replayed-others (Rekey key) m log others = refl
replayed-others (Table relation) m log others = ap (λ (log : List StoreEntry). record m { left = replay m.left log }) (numbered-none 0 log others)
replayed-others (JoinStreamTable kind on left right) m log others = ap (λ (log : List StoreEntry). record m { right = replay m.right log }) (numbered-none 1 log others)
replayed-others (JoinTables kind left right) m log others =
    ap₂ (λ (mine theirs : List StoreEntry). record m { left = replay m.left mine; right = replay m.right theirs })
    (numbered-none 0 log (weaker _ _ (λ (entry : StoreEntry). not-zero entry.store) log others))
    (numbered-none 1 log (weaker _ _ (λ (entry : StoreEntry). not-one entry.store) log others))
replayed-others (Filter on) m log others = refl
replayed-others (Group keys) m log others = refl
replayed-others (Aggregate over aggs None) m log others = ap (λ (log : List StoreEntry). record m { aggregate = replay m.aggregate log }) (numbered-none 2 log others)
replayed-others (Aggregate over aggs (Some w)) m log others =
    ap (λ (log : List StoreEntry). record m { windows = replay m.windows (filter (λ entry. not (is_of_time entry)) log); time = time_after m.time (filter is_of_time log) })
    (numbered-none 2 log others)
replayed-others (Having on) m log others = refl
replayed-others (Select keys values) m log others = refl

-- ---- which entries are others'

-- what the first of a list and each later one come to
pairs-head : {X : Type 0} (R : X → X → Type 0) (x : X) (xs : List X) → AllPairs R (x ∷ xs) → AllByRecursion (R x) xs
pairs-head R x xs pairs = recursion_from_All (R x) xs (λ j d within. pairs 0 (suc j) d (omega arith) (omega arith))

pairs-tail : {X : Type 0} (R : X → X → Type 0) (x : X) (xs : List X) → AllPairs R (x ∷ xs) → AllPairs R xs
pairs-tail R x xs pairs = λ i j d below within. pairs (suc i) (suc j) d (omega arith) (omega arith)

-- two nodes without a store of one number
abbrev pub AreApart : Node → Node → Type 0
AreApart n m = (number : ℕ) → IsTrue (is_store_of n number) → is_store_of m number ≡ false

pub own-head : (n : Node) (ns : List Node) → HaveOwnStores (n ∷ ns) → AllByRecursion (AreApart n) ns
own-head n ns apart = pairs-head AreApart n ns apart

pub own-tail : (n : Node) (ns : List Node) → HaveOwnStores (n ∷ ns) → HaveOwnStores ns
own-tail n ns apart = pairs-tail AreApart n ns apart

-- whether a number is that of a store of one of these nodes
abbrev pub is_store_along : List Node → ℕ → Bool
is_store_along nodes number = list_any (λ n. is_store_of n number) nodes

none-along : (ns : List Node) (number : ℕ) → AllByRecursion (λ (m : Node). is_store_of m number ≡ false) ns → is_store_along ns number ≡ false
none-along [] number all = refl
none-along (m ∷ ns) number all = ap₂ (λ (b c : Bool). b || c) all.0 (none-along ns number all.1)

-- a number of the later nodes' stores is not one of the first node's
apart-along : (n : Node) (ns : List Node) (number : ℕ) → AllByRecursion (AreApart n) ns → IsTrue (is_store_along ns number) → is_store_of n number ≡ false
apart-along n ns number apart among = by (is_store_of n number) refl
  where
    by : (b : Bool) → is_store_of n number ≡ b → is_store_of n number ≡ false
    by true mine = absurd (true≢false (sym among ∙ none-along ns number (weaker _ _ (λ (m : Node) (h : AreApart n m). h number mine) ns apart)))
    by false e = e

-- the later nodes' log is of others for the first one
pub later-others : (n : Node) (ns : List Node) (log : List StoreEntry) → AllByRecursion (AreApart n) ns → AllByRecursion (λ (entry : StoreEntry). IsTrue (is_store_along ns entry.store)) log → IsOthersLog n log
later-others n ns log apart among = weaker _ _ (λ (entry : StoreEntry) h. apart-along n ns entry.store apart h) log among

-- and the first node's log is of others for each later one
pub first-others : (n : Node) (ns : List Node) (log : List StoreEntry) → AllByRecursion (AreApart n) ns → AllByRecursion (λ (entry : StoreEntry). IsTrue (is_store_of n entry.store)) log →
    AllByRecursion (λ (m : Node). IsOthersLog m log) ns
first-others n [] log apart own = tt
first-others n (m ∷ ns) log apart own = (weaker _ _ (λ (entry : StoreEntry) h. apart.0 entry.store h) log own, first-others n ns log apart.1 own)

-- ---- logs that can be loaded

everywhere : {X : Type 0} (P : X → Type 0) → ((x : X) → P x) → (xs : List X) → AllByRecursion P xs
everywhere P by [] = tt
everywhere P by (x ∷ xs) = (by x, everywhere P by xs)

abbrev AreWindowEntries : List StoreEntry → Type 0
AreWindowEntries log = All IsWindowEntry (numbered 2 log)

windows-each : (log : List StoreEntry) → AreWindowEntries log → AllByRecursion (λ (entry : StoreEntry). AreWindowEntries (entry ∷ [])) log
windows-each [] all = tt
windows-each (entry ∷ log) all = let parts = by (entry.store == 2) all in (parts.0, windows-each log parts.1)
  where
    by : (b : Bool) → All IsWindowEntry (cond b (entry ∷ numbered 2 log) (numbered 2 log)) → All IsWindowEntry (cond b (entry ∷ []) []) × All IsWindowEntry (numbered 2 log)
    by true all = (All-cons IsWindowEntry entry [] (All-head IsWindowEntry entry (numbered 2 log) all) (All-nil IsWindowEntry), All-tail IsWindowEntry entry (numbered 2 log) all)
    by false all = (All-nil IsWindowEntry, all)

windows-all : (log : List StoreEntry) → AllByRecursion (λ (entry : StoreEntry). AreWindowEntries (entry ∷ [])) log → AreWindowEntries log
windows-all [] each = All-nil IsWindowEntry
windows-all (entry ∷ log) each = by (entry.store == 2) each.0 (windows-all log each.1)
  where
    by : (b : Bool) → All IsWindowEntry (cond b (entry ∷ []) []) → All IsWindowEntry (numbered 2 log) → All IsWindowEntry (cond b (entry ∷ numbered 2 log) (numbered 2 log))
    by true one rest = All-cons IsWindowEntry entry (numbered 2 log) (All-head IsWindowEntry entry [] one) rest
    by false none rest = rest

-- each entry of a log that can be loaded can be
pub loadable-each : (node : Node) (log : List StoreEntry) → IsLoadable node log → AllByRecursion (λ (entry : StoreEntry). IsLoadable node (entry ∷ [])) log
loadable-each (Rekey key) log h = everywhere _ (λ entry. tt) log
loadable-each (Table relation) log h = everywhere _ (λ entry. tt) log
loadable-each (JoinStreamTable kind on left right) log h = everywhere _ (λ entry. tt) log
loadable-each (JoinTables kind left right) log h = everywhere _ (λ entry. tt) log
loadable-each (Filter on) log h = everywhere _ (λ entry. tt) log
loadable-each (Group keys) log h = everywhere _ (λ entry. tt) log
loadable-each (Aggregate over aggs None) log h = everywhere _ (λ entry. tt) log
loadable-each (Aggregate over aggs (Some w)) log h = windows-each log h
loadable-each (Having on) log h = everywhere _ (λ entry. tt) log
loadable-each (Select keys values) log h = everywhere _ (λ entry. tt) log

-- and a log can be loaded whose entries can be
pub loadable-all : (node : Node) (log : List StoreEntry) → AllByRecursion (λ (entry : StoreEntry). IsLoadable node (entry ∷ [])) log → IsLoadable node log
loadable-all (Rekey key) log h = tt
loadable-all (Table relation) log h = tt
loadable-all (JoinStreamTable kind on left right) log h = tt
loadable-all (JoinTables kind left right) log h = tt
loadable-all (Filter on) log h = tt
loadable-all (Group keys) log h = tt
loadable-all (Aggregate over aggs None) log h = tt
loadable-all (Aggregate over aggs (Some w)) log h = windows-all log h
loadable-all (Having on) log h = tt
loadable-all (Select keys values) log h = tt

-- so can a log of others
pub loadable-others : (node : Node) (log : List StoreEntry) → IsOthersLog node log → IsLoadable node log
loadable-others (Rekey key) log others = tt
loadable-others (Table relation) log others = tt
loadable-others (JoinStreamTable kind on left right) log others = tt
loadable-others (JoinTables kind left right) log others = tt
loadable-others (Filter on) log others = tt
loadable-others (Group keys) log others = tt
loadable-others (Aggregate over aggs None) log others = tt
loadable-others (Aggregate over aggs (Some w)) log others = subst (All IsWindowEntry) (sym (numbered-none 2 log others)) (All-nil IsWindowEntry)
loadable-others (Having on) log others = tt
loadable-others (Select keys values) log others = tt

-- what a row can load the first node can, and the later ones can
pub loadable-head : (n : Node) (ns : List Node) (log : List StoreEntry) → All (MayLoad (n ∷ ns)) log → IsLoadable n log
loadable-head n ns log all =
    loadable-all n log
    (weaker (MayLoad (n ∷ ns)) _ (λ (entry : StoreEntry) h. All-head (λ (n : Node). IsLoadable n (entry ∷ [])) n ns h) log (recursion_from_All (MayLoad (n ∷ ns)) log all))

pub loadable-tail : (n : Node) (ns : List Node) (log : List StoreEntry) → All (MayLoad (n ∷ ns)) log → All (MayLoad ns) log
loadable-tail n ns log all =
    All-from_recursion (MayLoad ns) log
    (weaker (MayLoad (n ∷ ns)) (MayLoad ns) (λ (entry : StoreEntry) h. All-tail (λ (n : Node). IsLoadable n (entry ∷ [])) n ns h) log (recursion_from_All (MayLoad (n ∷ ns)) log all))

-- ---- the log of a row

-- a log that isn't of these nodes' stores, and then another
along-others : (ns : List Node) (bases : List Maps) (others log : List StoreEntry) → AllByRecursion (λ (m : Node). IsOthersLog m others) ns →
    replayed_along ns bases (others ++ log) ≡ replayed_along ns bases log
along-others [] bases others log all = refl
along-others (n ∷ ns) [] others log all = refl
along-others (n ∷ ns) (m ∷ bases) others log all =
    ap₂ (λ (m : Maps) (ms : List Maps). m ∷ ms)
    (replayed-append n m others log ∙ ap (λ (m : Maps). replayed n m log) (replayed-others n m others all.0))
    (along-others ns bases others log all.1)

-- an entry that one node can load, and that is no later one's
may-first : (n : Node) (ns : List Node) (entry : StoreEntry) → IsLoadable n (entry ∷ []) → AllByRecursion (λ (m : Node). is_store_of m entry.store ≡ false) ns → MayLoad (n ∷ ns) entry
may-first n ns entry first others =
    All-cons (λ (n : Node). IsLoadable n (entry ∷ [])) n ns first
    (All-from_recursion _ ns (weaker _ _ (λ (m : Node) h. loadable-others m (entry ∷ []) (h, tt)) ns others))

loads-first : (n : Node) (ns : List Node) (log : List StoreEntry) → AllByRecursion (AreApart n) ns → AllByRecursion (λ (entry : StoreEntry). IsTrue (is_store_of n entry.store)) log →
    AllByRecursion (λ (entry : StoreEntry). IsLoadable n (entry ∷ [])) log → AllByRecursion (MayLoad (n ∷ ns)) log
loads-first n ns [] apart own each = tt
loads-first n ns (entry ∷ log) apart own each =
    (may-first n ns entry each.0 (weaker _ _ (λ (m : Node) (h : AreApart n m). h entry.store own.0) ns apart), loads-first n ns log apart own.1 each.1)

loads-later : (n : Node) (ns : List Node) (log : List StoreEntry) → IsOthersLog n log → AllByRecursion (MayLoad ns) log → AllByRecursion (MayLoad (n ∷ ns)) log
loads-later n ns [] others loads = tt
loads-later n ns (entry ∷ log) others loads =
    (All-cons (λ (n : Node). IsLoadable n (entry ∷ [])) n ns (loadable-others n (entry ∷ []) (others.0, tt)) loads.0, loads-later n ns log others.1 loads.1)

along-first : (n : Node) (ns : List Node) (log : List StoreEntry) → AllByRecursion (λ (entry : StoreEntry). IsTrue (is_store_of n entry.store)) log →
    AllByRecursion (λ (entry : StoreEntry). IsTrue (is_store_along (n ∷ ns) entry.store)) log
along-first n ns log own = weaker _ _ (λ (entry : StoreEntry) h. ap (λ (b : Bool). b || is_store_along ns entry.store) h) log own

along-later : (n : Node) (ns : List Node) (log : List StoreEntry) → AllByRecursion (λ (entry : StoreEntry). IsTrue (is_store_along ns entry.store)) log →
    AllByRecursion (λ (entry : StoreEntry). IsTrue (is_store_along (n ∷ ns) entry.store)) log
along-later n ns log own = weaker _ _ (λ (entry : StoreEntry) h. by (is_store_of n entry.store) (is_store_along ns entry.store) h) log own
  where
    by : (b c : Bool) → IsTrue c → IsTrue (b || c)
    by true c h = refl
    by false c h = h

recursion-append : {X : Type 0} (P : X → Type 0) (xs ys : List X) → AllByRecursion P xs → AllByRecursion P ys → AllByRecursion P (xs ++ ys)
recursion-append P [] ys hx hy = hy
recursion-append P (x ∷ xs) ys hx hy = (hx.0, recursion-append P xs ys hx.1 hy)

-- the log of a node, and then that of the later ones, is the log of all
pub log-more : (n : Node) (ns : List Node) (h : Held) (hs : List Held) (first later : List StoreEntry) → HaveOwnStores (n ∷ ns) →
    ((base : Maps) → IsBaseOf base h → replayed n base first ≡ maps_of h) → IsLoadable n first → IsOwnLog n first → IsLogOf ns hs later → IsLogOf (n ∷ ns) (h ∷ hs) (first ++ later)
log-more n ns h hs first later stores replays loads own rest =
    let apart : AllByRecursion (AreApart n) ns = own-head n ns stores in
    let mine : AllByRecursion (λ (entry : StoreEntry). IsTrue (is_store_of n entry.store)) first = recursion_from_All _ first own in
    let theirs : AllByRecursion (λ (entry : StoreEntry). IsTrue (is_store_along ns entry.store)) later = recursion_from_All _ later rest.own in
    let others : IsOthersLog n later = later-others n ns later apart theirs in
    record {
      replays = back others (first-others n ns first apart mine);
      loads =
          All-from_recursion (MayLoad (n ∷ ns)) (first ++ later)
          (recursion-append (MayLoad (n ∷ ns)) first later (loads-first n ns first apart mine (loadable-each n first loads)) (loads-later n ns later others (recursion_from_All (MayLoad ns) later rest.loads)));
      own =
          All-from_recursion (λ (entry : StoreEntry). IsTrue (is_store_along (n ∷ ns) entry.store)) (first ++ later)
          (recursion-append _ first later (along-first n ns first mine) (along-later n ns later theirs));
    }
  where
    back : IsOthersLog n later → AllByRecursion (λ (m : Node). IsOthersLog m first) ns → (bases : List Maps) → AllZip IsBaseOf bases (h ∷ hs) →
        replayed_along (n ∷ ns) bases (first ++ later) ≡ maps_of h ∷ map maps_of hs
    back others firsts [] all = absurd all
    back others firsts (base ∷ bases) all =
        ap₂ (λ (m : Maps) (ms : List Maps). m ∷ ms)
        (replayed-append n base first later ∙ replayed-others n (replayed n base first) later others ∙ replays base all.0)
        (along-others ns bases first later firsts ∙ rest.replays bases all.1)
