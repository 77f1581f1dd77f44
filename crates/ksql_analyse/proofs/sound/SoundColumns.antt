-- The columns of a query's result: what holds of each, how many there are, and which are those of the key.
use Rattle.std.proofs.Common.{◌≡◌, ℕ, zero, suc, ◌+◌, ◌≤◌, ◌<◌, ◌==◌, arith, Bool, true, false, not, ◌||◌, if◌then◌else◌, IsTrue, List, [], ◌∷◌, ◌++◌, length, map, Option, Some, None, refl, ap, sym, ◌∙◌, subst, inl, inr}
use Rattle.std.specs.Prelude.{◌⊎◌, slice_get, is_none, bytes_eq, filter}
use Rattle.std.specs.List.{list_any, find, cons_option, flat_map, AllByRecursion as Each}
use Rattle.std.proofs.lemmas.Bool.{false≢true}
use Rattle.std.proofs.lemmas.Bool.Decides.{Decides-eqb}
use Rattle.std.proofs.lemmas.Option.{same_Some}
use Rattle.std.proofs.lemmas.List.{length-append}
use Rattle.std.proofs.lemmas.Slice.Eq.{bytes_eq-Decides}
use Rattle.expression_trees.specs.declared.tree.Expr.{Expr, out-Expr, roll-Expr, roll-out-Expr}
use Rattle.expression_trees.specs.declared.tree.Expr.TheVariants as e
use Rattle.expression_trees.specs.declared.tree.Expr.TheOpen.{Expr-F}
use Rattle.statement_trees.specs.declared.tree.SelectItem.{SelectItem}
use Rattle.statement_trees.specs.declared.tree.SelectItem.TheVariants.{Star, StarOf, One}
use Rattle.expression_trees.specs.declared.tree.WhenText.{WhenText}
use Rattle.ksql_types.specs.Names.{is_among, are_distinct}
use Rattle.ksql_types.specs.Columns.{columns}
use Rattle.ksql_scopes.specs.declared.scope.Scope.{Scope}
use Rattle.ksql_clauses.specs.declared.items.Named.{Named}
use Rattle.ksql_clauses.specs.declared.sources.Known.{Known}
use Rattle.ksql_clauses.specs.Items.{named_from, all_stars, stars_of, star_of, star_column, plain_name, column_name, numbered_name, is_join}
use Rattle.ksql_scopes.specs.Resolved.{resolved}
use Rattle.ksql_clauses.proofs.Naming as naming
use Rattle.ksql_clauses.specs.Keys.{at_places, besides, is_place}
use Rattle.ksql_clauses.specs.Keys.{first_of, first_columns, is_one_of}
use Rattle.ksql_clauses.proofs.KeyColumns.{others_from, besides-from, first-columns-are, first-is_none}
use Rattle.std.proofs.lemmas.Bool.{and_parts}
use Rattle.ksql_analyse.proofs.lists.Distinct.{or-false, true-not}
use Rattle.ksql_analyse.proofs.forms.Resolution.{IsName}

-- ---- each of some

pub each-append : {A : Type 0} (P : A → Type 0) (xs ys : List A) → Each P xs → Each P ys → Each P (xs ++ ys)
each-append P [] ys k l = l
each-append P (x ∷ xs) ys k l = (k.0, each-append P xs ys k.1 l)

pub each-flat : {A B : Type 0} (P : B → Type 0) (f : A → List B) → ((x : A) → Each P (f x)) → (xs : List A) → Each P (flat_map f xs)
each-flat P f k [] = tt
each-flat P f k (x ∷ xs) = each-append P (f x) (flat_map f xs) (k x) (each-flat P f k xs)

pub each-map : {A B : Type 0} (P : B → Type 0) (f : A → B) (xs : List A) → Each (λ x. P (f x)) xs → Each P (map f xs)
each-map P f [] k = tt
each-map P f (x ∷ xs) k = (k.0, each-map P f xs k.1)

pub each-of-map : {A B : Type 0} (P : B → Type 0) (f : A → B) (xs : List A) → Each P (map f xs) → Each (λ x. P (f x)) xs
each-of-map P f [] k = tt
each-of-map P f (x ∷ xs) k = (k.0, each-of-map P f xs k.1)

pub each-all : {A : Type 0} (P : A → Type 0) → ((x : A) → P x) → (xs : List A) → Each P xs
each-all P k [] = tt
each-all P k (x ∷ xs) = (k x, each-all P k xs)

pub each-weaker : {A : Type 0} (P Q : A → Type 0) → ((x : A) → P x → Q x) → (xs : List A) → Each P xs → Each Q xs
each-weaker P Q w [] k = tt
each-weaker P Q w (x ∷ xs) k = (w x k.0, each-weaker P Q w xs k.1)

pub each-filter : {A : Type 0} (P : A → Type 0) (p : A → Bool) (xs : List A) → Each P xs → Each P (filter p xs)
each-filter P p [] k = tt
each-filter P p (x ∷ xs) k = at (p x) (each-filter P p xs k.1)
  where
    at : (b : Bool) → Each P (filter p xs) → Each P (if b then x ∷ filter p xs else filter p xs)
    at true rest = (k.0, rest)
    at false rest = rest

pub each-at : {A : Type 0} (P : A → Type 0) (xs : List A) → Each P xs → (i : ℕ) (x : A) → slice_get xs i ≡ Some x → P x
each-at P [] k i x h = absurd (cc (h))
each-at P (y ∷ xs) k zero x h = subst P (same_Some y x h) k.0
each-at P (y ∷ xs) k (suc i) x h = each-at P xs k.1 i x h

-- ---- names that are plain columns

name-form : (a : Expr) (z : Expr-F Expr WhenText) → out-Expr a ≡ z → IsName a ⊎ ((q : Option (List ℕ)) (name : List ℕ) → a ≡ e.Name q name → ⊥)
name-form a (Expr-F.Name q name) h =
    inl (record { qualifier = q; name = name; is = sym (roll-out-Expr a) ∙ ap roll-Expr h ∙ e.rolls-Name q name })
name-form a z h = inr (λ q name k. absurd (cc (sym h ∙ ap out-Expr k ∙ e.outs-Name q name)))

pub name-or-not : (a : Expr) → IsName a ⊎ ((q : Option (List ℕ)) (name : List ℕ) → a ≡ e.Name q name → ⊥)
name-or-not a = name-form a (out-Expr a) refl

pub plain-is : (ks : List Known) (a : Expr) (found : List ℕ) → plain_name ks a ≡ Some found
    → (q : Option (List ℕ)) × (name : List ℕ) × (a ≡ e.Name q name) × (found ≡ column_name ks q name)
plain-is ks a found h = at (name-or-not a)
  where
    at : IsName a ⊎ ((q : Option (List ℕ)) (name : List ℕ) → a ≡ e.Name q name → ⊥)
        → (q : Option (List ℕ)) × (name : List ℕ) × (a ≡ e.Name q name) × (found ≡ column_name ks q name)
    at (inl k) =
        (k.qualifier, k.name, k.is, sym (same_Some (column_name ks k.qualifier k.name) found (sym (naming.plain-Name ks k.qualifier k.name) ∙ sym (ap (plain_name ks) k.is) ∙ h)))
    at (inr other) = absurd (cc (sym (naming.plain-other ks a other) ∙ h))

-- ---- what holds of each column of a result

module _ (P : Named → Type 0) (s : Scope) (ks : List Known) where
  -- of what an item gives, where columns are numbered from a number below a bound
  abbrev pub OfItem : SelectItem → Type 0
  OfItem Star = Each P (all_stars ks)
  OfItem (StarOf alias) = Each P (stars_of alias ks)
  OfItem (One a (Some alias)) = P (record { name = alias; expr = resolved s a })
  OfItem (One a None) =
      ((name : List ℕ) → plain_name ks a ≡ Some name → P (record { name = name; expr = resolved s a }))
      × ((number : ℕ) → number < 1000 → P (record { name = numbered_name number; expr = resolved s a }))

  pub columns-each : (items : List SelectItem) (number : ℕ) → number + length (named_from s ks number items) ≤ 1000 → Each OfItem items
      → Each P (named_from s ks number items)
  columns-each [] number h k = subst (Each P) (sym (naming.from-nothing s ks number)) tt
  columns-each (Star ∷ items) number h k =
      let is = naming.from-Star s ks number items in
      let count : length (named_from s ks number (Star ∷ items)) ≡ length (all_stars ks) + length (named_from s ks number items) =
      ap length is ∙ length-append (all_stars ks) (named_from s ks number items) in
      subst (Each P) (sym is) (each-append P (all_stars ks) (named_from s ks number items) k.0 (columns-each items number (omega arith) k.1))
  columns-each (StarOf alias ∷ items) number h k =
      let is = naming.from-StarOf s ks number alias items in
      let count : length (named_from s ks number (StarOf alias ∷ items)) ≡ length (stars_of alias ks) + length (named_from s ks number items) =
      ap length is ∙ length-append (stars_of alias ks) (named_from s ks number items) in
      subst (Each P) (sym is) (each-append P (stars_of alias ks) (named_from s ks number items) k.0 (columns-each items number (omega arith) k.1))
  columns-each (One a (Some alias) ∷ items) number h k =
      let is = naming.from-alias s ks number a alias items in
      let count : length (named_from s ks number (One a (Some alias) ∷ items)) ≡ suc (length (named_from s ks number items)) = ap length is in
      subst (Each P) (sym is) (k.0, columns-each items number (omega arith) k.1)
  columns-each (One a None ∷ items) number h k =
      without (plain_name ks a) refl (columns-each items number) (columns-each items (suc number))
    where
      without : (o : Option (List ℕ)) → plain_name ks a ≡ o
          → (number + length (named_from s ks number items) ≤ 1000 → Each OfItem items → Each P (named_from s ks number items))
          → (suc number + length (named_from s ks (suc number) items) ≤ 1000 → Each OfItem items → Each P (named_from s ks (suc number) items))
          → Each P (named_from s ks number (One a None ∷ items))
      without (Some name) g others numbered =
          let is = naming.from-plain s ks number a name items g in
          let count : length (named_from s ks number (One a None ∷ items)) ≡ suc (length (named_from s ks number items)) = ap length is in
          subst (Each P) (sym is) (k.0.0 name g, others (omega arith) k.1)
      without None g others numbered =
          let is = naming.from-numbered s ks number a items g in
          let count : length (named_from s ks number (One a None ∷ items)) ≡ suc (length (named_from s ks (suc number) items)) = ap length is in
          subst (Each P) (sym is) (k.0.1 number (omega arith), numbered (omega arith) k.1)

  -- of the columns of stars
  pub stars-each : (others : List Known) → Each (λ k. Each (λ c. P (star_column (is_join ks) k.alias c)) (columns k.relation)) others → Each P (flat_map (star_of ks) others)
  stars-each [] h = tt
  stars-each (k ∷ others) h =
      each-append P (star_of ks k) (flat_map (star_of ks) others) (each-map P (star_column (is_join ks) k.alias) (columns k.relation) h.0) (stars-each others h.1)

-- ---- the columns of the key, and the others

module _ (P : Named → Type 0) (cs : List Named) (k : Each P cs) where
  found-each : (p : Named → Bool) (ds : List Named) → Each P ds → (needs : List (List Expr)) → Each P (first_columns cs needs) → Each P (cons_option (find p ds) (first_columns cs needs))
  found-each p [] d needs rest = rest
  found-each p (c ∷ ds) d needs rest = at (p c) (found-each p ds d.1 needs rest)
    where
      at : (b : Bool) → Each P (cons_option (find p ds) (first_columns cs needs)) → Each P (cons_option (if b then Some c else find p ds) (first_columns cs needs))
      at true more = (d.0, rest)
      at false more = more

  pub keys-each : (needs : List (List Expr)) → Each P (first_columns cs needs)
  keys-each [] = tt
  keys-each (es ∷ needs) = found-each (is_one_of es) cs k needs (keys-each needs)

others-each : (P : Named → Type 0) (places : List (Option ℕ)) (cs : List Named) (number : ℕ) → Each P cs → Each P (others_from places number cs)
unfolding others_from
others-each P places [] number k = tt
others-each P places (c ∷ cs) number k = at (list_any (is_place number) places) (others-each P places cs (number + 1) k.1)
  where
    at : (b : Bool) → Each P (others_from places (number + 1) cs) → Each P (if b then others_from places (number + 1) cs else c ∷ others_from places (number + 1) cs)
    at true rest = rest
    at false rest = (k.0, rest)

pub besides-each : (P : Named → Type 0) (places : List (Option ℕ)) (cs : List Named) → Each P cs → Each P (besides places cs)
besides-each P places cs k = subst (Each P) (sym (besides-from places cs)) (others-each P places cs 0 k)

-- ---- how many there are

-- the columns besides some places
others-none : (places : List (Option ℕ)) (number : ℕ) (cs : List Named) → ((i : ℕ) → list_any (is_place i) places ≡ false) → others_from places number cs ≡ cs
unfolding others_from
others-none places number [] h = refl
others-none places number (c ∷ cs) h =
    ap (λ b. if b then others_from places (number + 1) cs else c ∷ others_from places (number + 1) cs) (h number) ∙ ap (λ l. c ∷ l) (others-none places (number + 1) cs h)

-- one place more, which isn't there
others-less : (place : Option ℕ) (places : List (Option ℕ)) (number : ℕ) (cs : List Named) → length (others_from (place ∷ places) number cs) ≤ length (others_from places number cs)
unfolding others_from
others-less place places number [] = omega arith
others-less place places number (c ∷ cs) = at (is_place number place) (list_any (is_place number) places) (others-less place places (number + 1) cs)
  where
    at : (a b : Bool) → length (others_from (place ∷ places) (number + 1) cs) ≤ length (others_from places (number + 1) cs)
        → length (if a || b then others_from (place ∷ places) (number + 1) cs else c ∷ others_from (place ∷ places) (number + 1) cs)
        ≤ length (if b then others_from places (number + 1) cs else c ∷ others_from places (number + 1) cs)
    at true true h = h
    at true false h = omega arith
    at false true h = h
    at false false h = omega arith

-- one place more, which is there
others-one_less : (place number j : ℕ) → place ≡ number + j → (places : List (Option ℕ)) (cs : List Named) (c : Named) → slice_get cs j ≡ Some c
    → list_any (is_place place) places ≡ false → suc (length (others_from (Some place ∷ places) number cs)) ≤ length (others_from places number cs)
unfolding others_from
others-one_less place number j is places [] c h k = absurd (cc (h))
others-one_less place number zero is places (d ∷ cs) c h k =
    let same : place ≡ number = omega arith in
    let less = others-less (Some place) places (number + 1) cs in
    let here : (number == place) ≡ true = (Decides-eqb number place).1 (sym same) in
    let l : length (others_from (Some place ∷ places) number (d ∷ cs)) ≡ length (others_from (Some place ∷ places) (number + 1) cs) =
    ap (λ b. length (if b || list_any (is_place number) places then others_from (Some place ∷ places) (number + 1) cs else d ∷ others_from (Some place ∷ places) (number + 1) cs)) here in
    let r : length (others_from places number (d ∷ cs)) ≡ suc (length (others_from places (number + 1) cs)) =
    ap (λ b. length (if b then others_from places (number + 1) cs else d ∷ others_from places (number + 1) cs)) (ap (λ i. list_any (is_place i) places) (sym same) ∙ k) in
    omega arith
others-one_less place number (suc j) is places (d ∷ cs) c h k =
    let less = others-one_less place (number + 1) j (omega arith) places cs c h k in
    at (number == place) (list_any (is_place number) places) refl less
  where
    at : (a b : Bool) → (number == place) ≡ a → suc (length (others_from (Some place ∷ places) (number + 1) cs)) ≤ length (others_from places (number + 1) cs)
        → suc (length (if a || b then others_from (Some place ∷ places) (number + 1) cs else d ∷ others_from (Some place ∷ places) (number + 1) cs))
        ≤ length (if b then others_from places (number + 1) cs else d ∷ others_from places (number + 1) cs)
    at true b e less = absurd (omega (arith, (Decides-eqb number place).0 e))
    at false true e less = less
    at false false e less = omega arith

-- the columns at places that are there have among their names that of each such place
place-among : (cs : List Named) (places : List (Option ℕ)) (place : ℕ) (c : Named) → slice_get cs place ≡ Some c → list_any (is_place place) places ≡ true
    → is_among (map (λ d. d.name) (at_places cs places)) c.name ≡ true
place-among cs [] place c h k = absurd (cc (k))
place-among cs (None ∷ places) place c h k = place-among cs places place c h k
place-among cs (Some other ∷ places) place c h k = at (place == other) refl k (place-among cs places place c h)
  where
    or-true : (a b : Bool) → b ≡ true → (a || b) ≡ true
    or-true true b l = refl
    or-true false b l = l

    behind : (o : Option Named) → slice_get cs other ≡ o → is_among (map (λ d. d.name) (at_places cs places)) c.name ≡ true
        → is_among (map (λ d. d.name) (at_places cs (Some other ∷ places))) c.name ≡ true
    behind None e l = rw e l
    behind (Some d) e l = rw e (or-true (bytes_eq c.name d.name) (is_among (map (λ d. d.name) (at_places cs places)) c.name) l)

    at : (b : Bool) → (place == other) ≡ b → (b || list_any (is_place place) places) ≡ true
        → (list_any (is_place place) places ≡ true → is_among (map (λ d. d.name) (at_places cs places)) c.name ≡ true)
        → is_among (map (λ d. d.name) (at_places cs (Some other ∷ places))) c.name ≡ true
    at true e l rest =
        let same : slice_get cs other ≡ Some c = ap (slice_get cs) (sym ((Decides-eqb place other).0 e)) ∙ h in
        rw same (ap (λ b. b || is_among (map (λ d. d.name) (at_places cs places)) c.name) ((bytes_eq-Decides c.name c.name).1 refl))
    at false e l rest = behind (slice_get cs other) refl (rest l)

none-is_place : (i : ℕ) → list_any (is_place i) [] ≡ false
none-is_place i = refl

counted : (cs : List Named) (places : List (Option ℕ)) → are_distinct (map (λ c. c.name) (at_places cs places)) ≡ true
    → length (at_places cs places) + length (others_from places 0 cs) ≤ length cs
counted cs [] h = let e = ap length (others-none [] 0 cs none-is_place) in omega arith
counted cs (None ∷ places) h =
    let less = others-less None places 0 cs in
    let rest = counted cs places h in
    omega arith
counted cs (Some place ∷ places) h = at (slice_get cs place) refl (counted cs places)
  where
    here : (c : Named) (b : Bool) → list_any (is_place place) places ≡ b → slice_get cs place ≡ Some c
        → is_among (map (λ c. c.name) (at_places cs places)) c.name ≡ false → b ≡ false
    here c true e k none = absurd (false≢true (sym none ∙ place-among cs places place c k e))
    here c false e k none = refl

    at : (o : Option Named) → slice_get cs place ≡ o
        → (are_distinct (map (λ c. c.name) (at_places cs places)) ≡ true → length (at_places cs places) + length (others_from places 0 cs) ≤ length cs)
        → length (at_places cs (Some place ∷ places)) + length (others_from (Some place ∷ places) 0 cs) ≤ length cs
    at None e rest =
        let is : at_places cs (Some place ∷ places) ≡ at_places cs places = rw e in
        let less = others-less (Some place) places 0 cs in
        let r = rest (sym (ap (λ l. are_distinct (map (λ c. c.name) l)) is) ∙ h) in
        let count = ap length is in
        omega arith
    at (Some c) e rest =
        let is : at_places cs (Some place ∷ places) ≡ c ∷ at_places cs places = rw e in
        let d = and_parts (not (is_among (map (λ c. c.name) (at_places cs places)) c.name)) (are_distinct (map (λ c. c.name) (at_places cs places)))
        (sym (ap (λ l. are_distinct (map (λ c. c.name) l)) is) ∙ h) in
        let out = here c (list_any (is_place place) places) refl e (true-not (is_among (map (λ c. c.name) (at_places cs places)) c.name) d.0) in
        let z : place ≡ 0 + place = omega arith in
        let less = others-one_less place 0 place z places cs c e out in
        let r = rest d.1 in
        let count = ap length is in
        omega arith

pub count-columns : (cs : List Named) (needs : List (List Expr)) → are_distinct (map (λ c. c.name) (first_columns cs needs)) ≡ true
    → length (first_columns cs needs) + length (besides (map (λ es. first_of es cs) needs) cs) ≤ length cs
count-columns cs needs h =
    let places = map (λ es. first_of es cs) needs in
    let keys = first-columns-are cs needs in
    let count = counted cs places (ap (λ (l : List Named). are_distinct (map (λ c. c.name) l)) keys ∙ h) in
    omega (arith, count, ap length keys, ap length (besides-from places cs))

-- ---- the columns of the key

-- a column's expression is one of some
abbrev pub IsOneOf : List Expr → Named → Type 0
IsOneOf es c = IsTrue (is_one_of es c)

-- each need has its column
abbrev pub AreKeys : List (List Expr) → List Named → Type 0
AreKeys [] [] = Unit {0}
AreKeys (es ∷ needs) (c ∷ cs) = IsOneOf es c × AreKeys needs cs
AreKeys _ _ = ⊥

found-is : (p : Named → Bool) (cs : List Named) (c : Named) → find p cs ≡ Some c → p c ≡ true
found-is p [] c h = absurd (cc (h))
found-is p (d ∷ cs) c h = at (p d) refl h (found-is p cs c)
  where
    at : (b : Bool) → p d ≡ b → (if b then Some d else find p cs) ≡ Some c → (find p cs ≡ Some c → p c ≡ true) → p c ≡ true
    at true e k more = ap p (sym (same_Some d c k)) ∙ e
    at false e k more = more k

pub keys-are : (cs : List Named) (needs : List (List Expr)) → list_any is_none (map (λ es. first_of es cs) needs) ≡ false → AreKeys needs (first_columns cs needs)
keys-are cs [] h = tt
keys-are cs (es ∷ needs) h = at (find (is_one_of es) cs) refl (keys-are cs needs)
  where
    k : (is_none (first_of es cs) ≡ false) × (list_any is_none (map (λ es. first_of es cs) needs) ≡ false)
    k = or-false (is_none (first_of es cs)) (list_any is_none (map (λ es. first_of es cs) needs)) h

    at : (o : Option Named) → find (is_one_of es) cs ≡ o
        → (list_any is_none (map (λ es. first_of es cs) needs) ≡ false → AreKeys needs (first_columns cs needs))
        → AreKeys (es ∷ needs) (cons_option (find (is_one_of es) cs) (first_columns cs needs))
    at None e rest = absurd (cc (sym (first-is_none es cs) ∙ k.0, ap is_none e))
    at (Some c) e rest = rw e (found-is (is_one_of es) cs c e, rest k.1)
