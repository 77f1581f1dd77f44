-- Reading from the left: more room than symbols changes nothing.
use Rattle.std.proofs.Common.{◌≡◌, ℕ, zero, suc, ◌+◌, ◌<◌, ◌≤◌, Bool, true, false, cond, List, [], ◌∷◌, ◌++◌, length, take, drop, Option, Some, None, refl, sym, ap, ◌∙◌, subst, append_assoc, arith}
use Rattle.std.specs.List.{prefix_len}
use Rattle.std.proofs.lemmas.Option.{none-some, same_Some}
use Rattle.ksql_types.specs.declared.operator.BinaryOp.{BinaryOp}
use Rattle.ksql_grammar.specs.declared.symbol.Symbol.{Symbol}
use Rattle.expression_trees.specs.declared.tree.Expr.{Expr}
use Rattle.expression_trees.specs.declared.tree.Expr.TheVariants as e
use Rattle.ksql_grammar.specs.Expressions.{Reader, first, list_end, list_of, chain_step, chain_with, chain, after_prefix, after_prefixes, prefixed}
use Rattle.expression_trees.specs.Options.{◌>>=◌}
use Rattle.ksql_grammar.proofs.Steps.{if_some, first_found, first_there}
use Rattle.ksql_grammar.proofs.Ends.{Rest}
use Rattle.ksql_grammar.proofs.Found.{prefix_len-true, prefix_len-false}

-- going on where something was read
pub then : {A B : Type 0} (o : Option A) (f : A → Option B) (x : A) (y : Option B) → o ≡ Some x → f x ≡ y → (o >>= f) ≡ y
then o f x y h k = ap (λ p. p >>= f) h ∙ k

-- readers that agree where something was read
pub same_bind : {A B : Type 0} (o : Option A) (f k : A → Option B) → ((x : A) → o ≡ Some x → f x ≡ k x) → (o >>= f) ≡ (o >>= k)
same_bind None f k h = refl
same_bind (Some x) f k h = h x refl

-- each reading takes a symbol
abbrev pub TakesOne : {A : Type 0} → Reader A → Type 0
TakesOne {A} read = (ts : List Symbol) (x : A × List Symbol) → read ts ≡ Some x → length x.1 < length ts

pub first_takes : {A : Type 0} (of : Symbol → Option A) → TakesOne (first of)
first_takes {A} of ts x h =
    let f = if_some (first of ts) (λ (y : A × List Symbol). (s : Symbol) × (ts ≡ s ∷ y.1) × (of s ≡ Some y.0)) x (first_found of ts) h in
    omega (arith, ap length f.1)

-- chains
module _ (op : Symbol → Option BinaryOp) (operand : Reader Expr) where
  same_step : (a : Expr) (ts : List Symbol) (o : Option (BinaryOp × List Symbol)) (p q : Expr → Reader Expr)
      → ((x : BinaryOp × List Symbol) → o ≡ Some x → (b : Expr × List Symbol) → operand x.1 ≡ Some b → (c : Expr) → p c b.1 ≡ q c b.1)
      → chain_step operand p a ts o ≡ chain_step operand q a ts o
  same_step a ts None p q h = refl
  same_step a ts (Some x) p q h = same_bind (operand x.1) _ _ (λ b f. h x refl b f (e.Binary x.0 a b.0))

  pub chain_fuel : TakesOne operand → (k m : ℕ) (a : Expr) (ts : List Symbol) → length ts < k → length ts < m → chain_with op operand k a ts ≡ chain_with op operand m a ts
  unfolding chain_with
  chain_fuel takes zero m a ts h l = absurd (omega arith)
  chain_fuel takes (suc k) zero a ts h l = absurd (omega arith)
  chain_fuel takes (suc k) (suc m) a ts h l =
      same_step a ts (first op ts) (chain_with op operand k) (chain_with op operand m)
      (λ x e b f c. let t = first_takes op ts x e in let u = takes x.1 b f in chain_fuel takes k m c b.1 (omega arith) (omega arith))

  -- if no operator follows, nothing is added
  pub chain_ends : (k : ℕ) (a : Expr) (ts : List Symbol) → Rest (λ s. op s ≡ None) ts → chain_with op operand (suc k) a ts ≡ Some (a, ts)
  unfolding chain_with first
  chain_ends k a [] r = refl
  chain_ends k a (s ∷ ts) r = ap (λ o. chain_step operand (chain_with op operand k) a (s ∷ ts) (o >>= λ x. Some (x, ts))) r

  -- where one does, its operand is
  pub chain_goes : TakesOne operand → (s : Symbol) (o : BinaryOp) (a b : Expr) (us vs : List Symbol) → op s ≡ Some o → operand us ≡ Some (b, vs)
      → chain_with op operand (suc (length (s ∷ us))) a (s ∷ us) ≡ chain_with op operand (suc (length vs)) (e.Binary o a b) vs
  unfolding chain_with
  chain_goes takes s o a b us vs h f =
      let t = takes us (b, vs) f in
      ap (chain_step operand (chain_with op operand (length (s ∷ us))) a (s ∷ us)) (first_there op s us o h)
      ∙ then (operand us) _ (b, vs) _ f (chain_fuel takes (length (s ∷ us)) (suc (length vs)) (e.Binary o a b) vs (omega arith) (omega arith))

  pub chain_starts : (a : Expr) (ts us : List Symbol) → operand ts ≡ Some (a, us) → chain op operand ts ≡ chain_with op operand (suc (length us)) a us
  unfolding chain
  chain_starts a ts us h = then (operand ts) _ (a, us) _ h refl

  -- one turn of reading a chain: no operator follows, its operand fails, or it is there
  pub chain_stops : (n : ℕ) (a : Expr) (ts : List Symbol) → first op ts ≡ None → chain_with op operand (suc n) a ts ≡ Some (a, ts)
  unfolding chain_with
  chain_stops n a ts h = ap (chain_step operand (chain_with op operand n) a ts) h

  pub chain_fails : (n : ℕ) (a : Expr) (ts : List Symbol) (o : BinaryOp × List Symbol) → first op ts ≡ Some o → operand o.1 ≡ None → chain_with op operand (suc n) a ts ≡ None
  unfolding chain_with
  chain_fails n a ts o h k = ap (chain_step operand (chain_with op operand n) a ts) h ∙ ap (λ y. y >>= λ b. chain_with op operand n (e.Binary o.0 a b.0) b.1) k

  pub chain_turn : TakesOne operand → (a : Expr) (ts : List Symbol) (o : BinaryOp × List Symbol) (b : Expr × List Symbol) → first op ts ≡ Some o → operand o.1 ≡ Some b
      → chain_with op operand (suc (length ts)) a ts ≡ chain_with op operand (suc (length b.1)) (e.Binary o.0 a b.0) b.1
  unfolding chain_with
  chain_turn takes a ts o b h k =
      let t = first_takes op ts o h in let u = takes o.1 b k in
      ap (chain_step operand (chain_with op operand (length ts)) a ts) h
      ∙ then (operand o.1) _ b _ k (chain_fuel takes (length ts) (suc (length b.1)) (e.Binary o.0 a b.0) b.1 (omega arith) (omega arith))

  pub chain_empty : (ts : List Symbol) → operand ts ≡ None → chain op operand ts ≡ None
  unfolding chain
  chain_empty ts h = ap (λ y. y >>= λ a. chain_with op operand (suc (length a.1)) a.0 a.1) h

-- lists
pub end_more : {A : Type 0} (o : Option (List Symbol)) (x : A × List Symbol) (others : Reader (List A)) (xs : List A) (rest : List Symbol)
    → (o >>= others) ≡ Some (xs, rest) → list_end x others o ≡ Some (x.0 ∷ xs, rest)
end_more None x others xs rest h = absurd (none-some (xs, rest) h)
end_more (Some us) x others xs rest h = then (others us) _ (xs, rest) _ h refl

-- prefixes
abbrev pub under_one : Symbol → Expr × List Symbol → Option (Expr × List Symbol)
under_one s a = Some (after_prefix s a.0, a.1)

abbrev under : List Symbol → Expr × List Symbol → Option (Expr × List Symbol)
under ps a = Some (after_prefixes ps a.0, a.1)

module _ (test : Symbol → Bool) (operand : Reader Expr) where
  assoc : (s : Symbol) (ps : List Symbol) (o : Option (Expr × List Symbol)) → (o >>= under (s ∷ ps)) ≡ ((o >>= under ps) >>= under_one s)
  unfolding after_prefixes
  assoc s ps None = refl
  assoc s ps (Some a) = refl

  -- with one more at the front
  pub prefixed_more : (s : Symbol) (ts : List Symbol) → test s ≡ true → prefixed test operand (s ∷ ts) ≡ (prefixed test operand ts >>= under_one s)
  unfolding prefixed after_prefixes
  prefixed_more s ts h =
      ap (λ n. operand (drop n (s ∷ ts)) >>= under (take n (s ∷ ts))) (prefix_len-true test s ts h)
      ∙ assoc s (take (prefix_len test ts) ts) (operand (drop (prefix_len test ts) ts))

  eta : (o : Option (Expr × List Symbol)) → (o >>= under []) ≡ o
  unfolding after_prefixes
  eta None = refl
  eta (Some a) = refl

  -- with none
  pub prefixed_none : (ts : List Symbol) → Rest (λ s. test s ≡ false) ts → prefixed test operand ts ≡ operand ts
  unfolding prefixed after_prefixes
  prefixed_none [] r = eta (operand [])
  prefixed_none (s ∷ ts) r =
      ap (λ n. operand (drop n (s ∷ ts)) >>= under (take n (s ∷ ts))) (prefix_len-false test s ts r) ∙ eta (operand (s ∷ ts))

-- prefixes from the last one on
pub after_prefixes-push : (ps : List Symbol) (s : Symbol) (a : Expr) → after_prefixes (ps ++ s ∷ []) a ≡ after_prefixes ps (after_prefix s a)
unfolding after_prefixes
after_prefixes-push [] s a = refl
after_prefixes-push (p ∷ ps) s a = ap (after_prefix p) (after_prefixes-push ps s a)

-- lists
module _ {A : Type 0} (item : Reader A) (more : List Symbol → Option (List Symbol)) where
  same_end : (x : A × List Symbol) (o : Option (List Symbol)) (p q : Reader (List A)) → ((us : List Symbol) → o ≡ Some us → p us ≡ q us) → list_end x p o ≡ list_end x q o
  same_end x None p q h = refl
  same_end x (Some us) p q h = ap (λ y. y >>= λ xs. Some (x.0 ∷ xs.0, xs.1)) (h us refl)

  pub list_fuel : TakesOne item → ((ts us : List Symbol) → more ts ≡ Some us → length us < length ts) → (k m : ℕ) (ts : List Symbol) → length ts < k → length ts < m → list_of item more k ts ≡ list_of item more m ts
  unfolding list_of
  list_fuel takes fewer zero m ts h l = absurd (omega arith)
  list_fuel takes fewer (suc k) zero ts h l = absurd (omega arith)
  list_fuel takes fewer (suc k) (suc m) ts h l =
      same_bind (item ts) _ _ (λ x e. same_end x (more x.1) (list_of item more k) (list_of item more m)
      (λ us f. let t = takes ts x e in let u = fewer x.1 us f in list_fuel takes fewer k m us (omega arith) (omega arith)))

-- what is read after items that were read before
abbrev pub with_front : {A : Type 0} → List A → Option (List A × List Symbol) → Option (List A × List Symbol)
with_front front read = read >>= λ x. Some (front ++ x.0, x.1)

module _ {A : Type 0} (item : Reader A) (more : List Symbol → Option (List Symbol)) where
  append_one : (front : List A) (x : A) (o : Option (List A × List Symbol)) → with_front front (o >>= λ xs. Some (x ∷ xs.0, xs.1)) ≡ with_front (front ++ x ∷ []) o
  append_one front x None = refl
  append_one front x (Some y) = ap (λ ys. Some (ys, y.1)) (sym (append_assoc front (x ∷ []) y.0))

  -- one turn of reading a list: the item fails, is the last, or another follows
  pub list_fails : (front : List A) (n : ℕ) (ts : List Symbol) → item ts ≡ None → with_front front (list_of item more (suc n) ts) ≡ None
  unfolding list_of
  list_fails front n ts h = ap (λ o. with_front front (o >>= λ x. list_end x (list_of item more n) (more x.1))) h

  pub list_last : (front : List A) (n : ℕ) (ts : List Symbol) (x : A × List Symbol) → item ts ≡ Some x → more x.1 ≡ None → with_front front (list_of item more (suc n) ts) ≡ Some (front ++ x.0 ∷ [], x.1)
  unfolding list_of
  list_last front n ts x h k =
      ap (λ o. with_front front (o >>= λ x. list_end x (list_of item more n) (more x.1))) h
      ∙ ap (λ o. with_front front (list_end x (list_of item more n) o)) k

  pub list_goes : TakesOne item → ((ts us : List Symbol) → more ts ≡ Some us → length us < length ts) → (front : List A) (ts : List Symbol) (x : A × List Symbol) (us : List Symbol)
      → item ts ≡ Some x → more x.1 ≡ Some us → with_front front (list_of item more (suc (length ts)) ts) ≡ with_front (front ++ x.0 ∷ []) (list_of item more (suc (length us)) us)
  unfolding list_of
  list_goes takes fewer front ts x us h k =
      let t = takes ts x h in let u = fewer x.1 us k in
      ap (λ o. with_front front (o >>= λ x. list_end x (list_of item more (length ts)) (more x.1))) h
      ∙ ap (λ o. with_front front (list_end x (list_of item more (length ts)) o)) k
      ∙ append_one front x.0 (list_of item more (length ts) us)
      ∙ ap (with_front (front ++ x.0 ∷ [])) (list_fuel item more takes fewer (length ts) (suc (length us)) us (omega arith) (omega arith))

pub with_front_nil : {A : Type 0} (o : Option (List A × List Symbol)) → with_front [] o ≡ o
with_front_nil None = refl
with_front_nil (Some x) = refl
