-- A rekey before a join of a stream and a table changes nothing.
use Rattle.std.proofs.Common.{◌≡◌, ◌∙◌, ap, ap₂, refl, sym, ℕ, List, [], ◌∷◌, ◌++◌, map, Bool, true, false, cond, true≢false}
use Rattle.std.proofs.lemmas.List.{append-nil, map-append}
use Rattle.std.proofs.lemmas.List.Elements.{filter-append}
use Rattle.std.specs.Cmp.{unsigned_Decides}
use Rattle.std.specs.List.{AllByRecursion, flat_map}
use Rattle.std.specs.Prelude.{◌==◌, ◌&&◌, filter, if◌then◌else◌}
use Rattle.ksql_types.specs.declared.value.Value.{Value}
use Rattle.ksql_place.specs.Ascending.{ascending}
use Rattle.ksql_place.specs.declared.change.Body.{Body}
use Rattle.ksql_place.specs.declared.change.Body.TheVariants.{Said, Turned}
use Rattle.ksql_place.specs.declared.change.Change.{Change}
use Rattle.ksql_place.proofs.Ascending.{filter-ascending}
use Rattle.ksql_place.proofs.TwoLists.{map-ascending}
use Rattle.ksql_expr.specs.declared.typed.Typed.{Typed}
use Rattle.ksql_program.specs.declared.query.JoinKind.{JoinKind}
use Rattle.ksql_nodes.specs.declared.node.Node.TheVariants.{Rekey, JoinStreamTable}
use Rattle.ksql_nodes.specs.declared.node.Side.{Side}
use Rattle.ksql_nodes.specs.Entries.{Entry, Step, from_side, is_same_key, of_key, of_side, results}
use Rattle.ksql_nodes.specs.Joins.{join_key, join_row, rekeyed}
use Rattle.ksql_nodes.specs.Nodes.{gives}
use Rattle.ksql_nodes.proofs.Lists.{All-append}
use Rattle.query_meaning.specs.Queries.{entry_cmp}
use Rattle.query_meaning.proofs.QuerySteps.{entries_total}
use Rattle.meaning_laws.proofs.Lists.{All-ascending, All-map, All-of}
use Rattle.lane_laws.specs.Lanes.{IsJoinedByKey, merged}

-- ---- the entries after a rekey

abbrev entry : ℕ → Change → Entry
entry side c = record { side = side; change = c }

abbrev is_some_key : List Value → Bool
is_some_key [] = false
is_some_key (k ∷ ks) = true

-- an entry of the stream under its join key
abbrev join_keyed : Typed → Entry → Entry
join_keyed on e = record { side = e.side; change = record e.change { key = if e.side == 0 then join_key on e.change else e.change.key } }

-- one of the stream has a key
abbrev has_join_key : Entry → Bool
has_join_key e = if e.side == 0 then is_some_key e.change.key else true

abbrev rekey_all : Typed → List Entry → List Entry
rekey_all on es = filter has_join_key (map (join_keyed on) es)

key-same : (on : Typed) (c : Change) (k : List Value) → join_key on (record c { key = k }) ≡ join_key on c
key-same on c k = by c.body
  where
    by : (b : Body) → join_key on (record c { key = k; body = b }) ≡ join_key on (record c { body = b })
    by (Said row) = refl
    by (Turned old new) = refl

rekeyed-same : (k own : List Value) (c : Change) → rekeyed k (record c { key = own }) ≡ rekeyed k c
rekeyed-same [] own c = refl
rekeyed-same (k ∷ ks) own c = refl

-- ---- the right side

abbrev right_of : List Value → Entry → Bool
right_of k e = is_same_key e.change.key k && (e.side == 1)

right-filter : (k : List Value) (es : List Entry) → of_side 1 (of_key k es) ≡ filter (right_of k) es
right-filter k [] = refl
right-filter k (e ∷ es) = by (is_same_key e.change.key k) (right-filter k es)
  where
    by : (b : Bool) → of_side 1 (of_key k es) ≡ filter (right_of k) es →
        of_side 1 (cond b (e ∷ of_key k es) (of_key k es)) ≡ cond (b && (e.side == 1)) (e ∷ filter (right_of k) es) (filter (right_of k) es)
    by true ih = ap (λ rest. cond (e.side == 1) (e ∷ rest) rest) ih
    by false ih = ih

left-not : (k : List Value) (e : Entry) → (e.side == 0) ≡ true → right_of k e ≡ false
left-not k e is = by (is_same_key e.change.key k)
  where
    by : (b : Bool) → (b && (e.side == 1)) ≡ false
    by true = ap (λ s. s == 1) ((unsigned_Decides e.side 0).0 is)
    by false = refl

keyed-other : (on : Typed) (e : Entry) → (e.side == 0) ≡ false → join_keyed on e ≡ e
keyed-other on e is = ap (λ b. record { side = e.side; change = record e.change { key = if b then join_key on e.change else e.change.key } }) is

right-same : (on : Typed) (k : List Value) (es : List Entry) → filter (right_of k) (rekey_all on es) ≡ filter (right_of k) es
right-same on k [] = refl
right-same on k (e ∷ es) = by (e.side == 0) refl (right-same on k es)
  where
    rest : List Entry
    rest = rekey_all on es

    left : (h : Bool) → right_of k (join_keyed on e) ≡ false → filter (right_of k) (cond h (join_keyed on e ∷ rest) rest) ≡ filter (right_of k) rest
    left true gone = ap (λ d. cond d (join_keyed on e ∷ filter (right_of k) rest) (filter (right_of k) rest)) gone
    left false gone = refl

    by : (b : Bool) → (e.side == 0) ≡ b → filter (right_of k) rest ≡ filter (right_of k) es →
        filter (right_of k) (cond (has_join_key (join_keyed on e)) (join_keyed on e ∷ rest) rest) ≡ cond (right_of k e) (e ∷ filter (right_of k) es) (filter (right_of k) es)
    by true is ih =
        left (has_join_key (join_keyed on e)) (left-not k (join_keyed on e) is) ∙ ih
        ∙ sym (ap (λ d. cond d (e ∷ filter (right_of k) es) (filter (right_of k) es)) (left-not k e is))
    by false is ih =
        ap (λ x. filter (right_of k) (cond (has_join_key x) (x ∷ rest) rest)) (keyed-other on e is)
        ∙ ap (λ d. filter (right_of k) (cond (if d then is_some_key e.change.key else true) (e ∷ rest) rest)) is
        ∙ ap (λ l. cond (right_of k e) (e ∷ l) l) ih

sees-same : (on : Typed) (es : List Entry) (k : List Value) → of_side 1 (of_key k (rekey_all on es)) ≡ of_side 1 (of_key k es)
sees-same on es k = right-filter k (rekey_all on es) ∙ right-same on k es ∙ sym (right-filter k es)

-- ---- the join

join-sees : (kind : JoinKind) (l r : Side) (before after : List Entry) (k : List Value) (c : Change) →
    ((key : List Value) → of_side 1 (of_key key before) ≡ of_side 1 (of_key key after)) →
    flat_map (join_row kind l r before) (rekeyed k c) ≡ flat_map (join_row kind l r after) (rekeyed k c)
join-sees kind l r before after [] c same = refl
join-sees kind l r before after (k ∷ ks) c same = rw (same (k ∷ ks))

-- for one entry
step-same : (n : ℕ) (kind : JoinKind) (on : Typed) (l r : Side) (before : List Entry) (e : Entry) →
    gives n (JoinStreamTable kind on l r) (rekey_all on before) (join_keyed on e) ≡ gives n (JoinStreamTable kind on l r) before e
unfolding gives
step-same n kind on l r before e =
    let own : List Value = if e.side == 0 then join_key on e.change else e.change.key in
    ap (λ cs. if e.side == 0 then cs else [])
    (join-sees kind l r (rekey_all on before) before (join_key on (record e.change { key = own })) (record e.change { key = own }) (sees-same on before)
    ∙ ap (λ cs. flat_map (join_row kind l r before) cs) (ap (λ k. rekeyed k (record e.change { key = own })) (key-same on e.change own) ∙ rekeyed-same (join_key on e.change) own e.change))

step-gone : (n : ℕ) (kind : JoinKind) (on : Typed) (l r : Side) (before : List Entry) (e : Entry) → has_join_key (join_keyed on e) ≡ false →
    gives n (JoinStreamTable kind on l r) before e ≡ []
unfolding gives
step-gone n kind on l r before e gone = by (e.side == 0) (join_key on e.change) gone
  where
    by : (b : Bool) (k : List Value) → (if b then is_some_key (if b then k else e.change.key) else true) ≡ false →
        (if b then flat_map (join_row kind l r before) (rekeyed k e.change) else []) ≡ []
    by true [] h = refl
    by true (k ∷ ks) h = absurd (true≢false h)
    by false k h = refl

join-rekeyed : (n : ℕ) (kind : JoinKind) (on : Typed) (l r : Side) (before es : List Entry) →
    results (gives n (JoinStreamTable kind on l r)) (rekey_all on before) (rekey_all on es) ≡ results (gives n (JoinStreamTable kind on l r)) before es
join-rekeyed n kind on l r before [] = refl
join-rekeyed n kind on l r before (e ∷ es) = by (has_join_key (join_keyed on e)) refl (join-rekeyed n kind on l r (before ++ e ∷ []) es)
  where
    g : Step
    g = gives n (JoinStreamTable kind on l r)

    more : rekey_all on (before ++ e ∷ []) ≡ rekey_all on before ++ cond (has_join_key (join_keyed on e)) (join_keyed on e ∷ []) []
    more = ap (filter has_join_key) (map-append (join_keyed on) before (e ∷ [])) ∙ filter-append has_join_key (map (join_keyed on) before) (join_keyed on e ∷ [])

    by : (b : Bool) → has_join_key (join_keyed on e) ≡ b → results g (rekey_all on (before ++ e ∷ [])) (rekey_all on es) ≡ results g (before ++ e ∷ []) es →
        results g (rekey_all on before) (cond (has_join_key (join_keyed on e)) (join_keyed on e ∷ rekey_all on es) (rekey_all on es)) ≡ g before e ++ results g (before ++ e ∷ []) es
    by true is ih =
        ap (λ d. results g (rekey_all on before) (cond d (join_keyed on e ∷ rekey_all on es) (rekey_all on es))) is
        ∙ ap₂ (λ now seen. now ++ results g seen (rekey_all on es)) (step-same n kind on l r before e)
        (sym (more ∙ ap (λ d. rekey_all on before ++ cond d (join_keyed on e ∷ []) []) is))
        ∙ ap (λ rest. g before e ++ rest) ih
    by false is ih =
        ap (λ d. results g (rekey_all on before) (cond d (join_keyed on e ∷ rekey_all on es) (rekey_all on es))) is
        ∙ ap (λ seen. results g seen (rekey_all on es)) (sym (more ∙ ap (λ d. rekey_all on before ++ cond d (join_keyed on e ∷ []) []) is ∙ append-nil (rekey_all on before)))
        ∙ ih ∙ sym (ap (λ now. now ++ results g (before ++ e ∷ []) es) (step-gone n kind on l r before e is))

-- ---- rekeyed entries, merged

left-rekeyed : (n : ℕ) (on : Typed) (before : List Entry) (cs : List Change) → from_side 0 (results (gives n (Rekey on)) before (from_side 0 cs)) ≡ rekey_all on (from_side 0 cs)
unfolding gives
left-rekeyed n on before [] = refl
left-rekeyed n on before (c ∷ cs) = by (join_key on c) (left-rekeyed n on (before ++ entry 0 c ∷ []) cs)
  where
    later : List Change
    later = results (gives n (Rekey on)) (before ++ entry 0 c ∷ []) (from_side 0 cs)

    by : (k : List Value) → from_side 0 later ≡ rekey_all on (from_side 0 cs) →
        from_side 0 (rekeyed k c ++ later) ≡ cond (is_some_key k) (entry 0 (record c { key = k }) ∷ rekey_all on (from_side 0 cs)) (rekey_all on (from_side 0 cs))
    by [] ih = ih
    by (k ∷ ks) ih = ap (λ rest. entry 0 (record c { key = k ∷ ks }) ∷ rest) ih

right-rekeyed : (on : Typed) (cs : List Change) → rekey_all on (from_side 1 cs) ≡ from_side 1 cs
right-rekeyed on [] = refl
right-rekeyed on (c ∷ cs) = ap (λ rest. entry 1 c ∷ rest) (right-rekeyed on cs)

-- merging the rekeyed left side is rekeying what is merged
merge-rekeyed : (n a b : ℕ) (on : Typed) (ls rs : List Change) → merged a b (results (gives n (Rekey on)) [] (from_side 0 ls)) rs ≡ rekey_all on (merged a b ls rs)
merge-rekeyed n a b on ls rs =
    let both : List Entry = from_side 0 ls ++ from_side 1 rs in
    ap₂ (λ xs ys. ascending (entry_cmp a b) (xs ++ ys)) (left-rekeyed n on [] ls) (sym (right-rekeyed on rs))
    ∙ ap (ascending (entry_cmp a b))
    (sym (ap (filter has_join_key) (map-append (join_keyed on) (from_side 0 ls) (from_side 1 rs))
    ∙ filter-append has_join_key (map (join_keyed on) (from_side 0 ls)) (map (join_keyed on) (from_side 1 rs))))
    ∙ sym (filter-ascending (entries_total a b) has_join_key (map (join_keyed on) both))
    ∙ ap (filter has_join_key) (sym (map-ascending (entry_cmp a b) (join_keyed on) both))

pub rekeyed-join : (n a b : ℕ) (kind : JoinKind) (on : Typed) (l r : Side) (ls rs : List Change) →
    results (gives n (JoinStreamTable kind on l r)) [] (merged a b (results (gives n (Rekey on)) [] (from_side 0 ls)) rs)
    ≡ results (gives n (JoinStreamTable kind on l r)) [] (merged a b ls rs)
rekeyed-join n a b kind on l r ls rs =
    ap (results (gives n (JoinStreamTable kind on l r)) []) (merge-rekeyed n a b on ls rs) ∙ join-rekeyed n kind on l r [] (merged a b ls rs)

-- ---- streams that are keyed by their join key

-- the entries of a stream that is keyed by its join key
pub merged-by-key : (a b : ℕ) (on : Typed) (ls rs : List Change) → AllByRecursion (IsJoinedByKey on) (from_side 0 ls) → AllByRecursion (IsJoinedByKey on) (merged a b ls rs)
merged-by-key a b on ls rs keyed =
    All-ascending (IsJoinedByKey on) (entry_cmp a b) (from_side 0 ls ++ from_side 1 rs)
    (All-append (IsJoinedByKey on) (from_side 0 ls) (from_side 1 rs) keyed
    (All-map (IsJoinedByKey on) (entry 1) rs (All-of {P = λ c. IsJoinedByKey on (entry 1 c)} rs (λ c one. absurd (true≢false (ap (λ s. s == 1) one))))))

rekeyed-own : (on : Typed) (c : Change) → AllByRecursion (λ d. IsJoinedByKey on (entry 0 d)) (rekeyed (join_key on c) c)
rekeyed-own on c = by (join_key on c) refl
  where
    by : (k : List Value) → join_key on c ≡ k → AllByRecursion (λ d. IsJoinedByKey on (entry 0 d)) (rekeyed k c)
    by [] is = tt
    by (k ∷ ks) is = (λ left some. key-same on c (k ∷ ks) ∙ is, tt)

results-own : (n : ℕ) (on : Typed) (before es : List Entry) → AllByRecursion (λ d. IsJoinedByKey on (entry 0 d)) (results (gives n (Rekey on)) before es)
unfolding gives
results-own n on before [] = tt
results-own n on before (e ∷ es) =
    All-append (λ d. IsJoinedByKey on (entry 0 d)) (rekeyed (join_key on e.change) e.change) (results (gives n (Rekey on)) (before ++ e ∷ []) es)
    (rekeyed-own on e.change) (results-own n on (before ++ e ∷ []) es)

pub rekeyed-by-key : (n a b : ℕ) (on : Typed) (ls rs : List Change) →
    AllByRecursion (IsJoinedByKey on) (merged a b (results (gives n (Rekey on)) [] (from_side 0 ls)) rs)
rekeyed-by-key n a b on ls rs =
    let rekeys : List Change = results (gives n (Rekey on)) [] (from_side 0 ls) in
    merged-by-key a b on rekeys rs (All-map (IsJoinedByKey on) (entry 0) rekeys (results-own n on [] (from_side 0 ls)))
