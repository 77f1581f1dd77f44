-- What is spelled as an expression, and ends there, is what is read.
use Rattle.std.proofs.Common.{◌≡◌, ℕ, zero, suc, ◌+◌, ◌<◌, ◌≤◌, Bool, true, false, cond, List, [], ◌∷◌, length, Option, Some, None, is_some, refl, sym, ap, ap₂, ◌∙◌, subst, arith}
use Rattle.std.proofs.lemmas.Bool.{false≢true}
use Rattle.std.proofs.lemmas.Option.{none-some, same_Some}
use Rattle.ksql_types.specs.declared.operator.BinaryOp.{BinaryOp}
use Rattle.ksql_types.specs.declared.value.SqlType.{SqlType}
use Rattle.ksql_lexer.specs.declared.token.Mark.{Mark}
use Rattle.ksql_lexer.specs.declared.token.Mark.TheVariants as mark
use Rattle.ksql_grammar.specs.declared.symbol.Keyword.{Keyword}
use Rattle.ksql_grammar.specs.declared.symbol.Keyword.TheVariants as key
use Rattle.ksql_grammar.specs.declared.symbol.Symbol.{Symbol}
use Rattle.ksql_grammar.specs.declared.symbol.Symbol.TheVariants.{Key, Word, Quoted, Text, Number, Sign}
use Rattle.expression_trees.specs.declared.tree.Expr.{Expr}
use Rattle.expression_trees.specs.declared.tree.Expr.TheVariants as e
use Rattle.expression_trees.specs.declared.tree.WhenText.{WhenText}
use Rattle.ksql_grammar.specs.declared.expression.Level.{Level as Operators}
use Rattle.ksql_grammar.specs.declared.expression.Level.TheVariants as level
use Rattle.ksql_grammar.specs.Symbols.{name_of, type_of, or_of, and_of, comparison_of, sum_of, product_of}
use Rattle.ksql_grammar.specs.Grammar.{Level, Phrase, Spells, at, exprs, whens, operand, otherwise, arguments, negation, when_then, minus_of, truth_of, expr, conj, neg, pred, sum, prod, unary, primary}
use Rattle.ksql_grammar.specs.Grammar as g
use Rattle.ksql_grammar.specs.Reading.{is_comma}
use Rattle.ksql_grammar.specs.Expressions.{Reader, after_key, after_sign, first, list_end, list_of, chain_step, chain_with, chain, after_prefix, after_prefixes, prefixed, is_not, is_sign, negation_of, negation_at}
use Rattle.expression_trees.specs.Options.{◌>>=◌}
use Rattle.ksql_grammar.specs.Expressions as r
use Rattle.ksql_grammar.proofs.Steps.{If, if_some, key_found, sign_found, key_there, sign_there, first_there}
use Rattle.ksql_grammar.proofs.Takes.{takes}
use Rattle.ksql_grammar.proofs.Begins.{First, begins}
use Rattle.ksql_grammar.proofs.Ends.{Rest, rest_weaker, EndsUnary, EndsProd, EndsSum, EndsPred, EndsConj, EndsExpr, or_ends, and_ends, comparison_ends, sum_ends, product_ends, BeginsPrimary, BeginsUnary, BeginsExpr, primary_no_sign, unary_no_not}
use Rattle.ksql_grammar.proofs.Found.{Reads, unary_found, product_found, negations_found, conjunction_found, within_found}
use Rattle.ksql_grammar.proofs.Chains.{then, TakesOne, chain_ends, chain_goes, chain_starts, end_more, under_one, prefixed_more, prefixed_none}

-- ---- what isn't there

if_none : {A : Type 0} (o : Option A) (P : A → Type 0) → If o P → ((x : A) → P x → ⊥) → o ≡ None
if_none None P h k = refl
if_none (Some x) P h k = absurd (k x h)

key_absent : (k : Keyword) (ts : List Symbol) → ((us : List Symbol) → ts ≡ Key k ∷ us → ⊥) → after_key k ts ≡ None
key_absent k ts h = if_none (after_key k ts) (λ us. ts ≡ Key k ∷ us) (key_found k ts) h

sign_absent : (m : Mark) (ts : List Symbol) → ((us : List Symbol) → ts ≡ Sign m ∷ us → ⊥) → after_sign m ts ≡ None
sign_absent m ts h = if_none (after_sign m ts) (λ us. ts ≡ Sign m ∷ us) (sign_found m ts) h

pub key_out : (k : Keyword) (P : Symbol → Type 0) (ts : List Symbol) → Rest P ts → (P (Key k) → ⊥) → after_key k ts ≡ None
key_out k P ts h out = key_absent k ts (λ us same. out (subst (Rest P) same h))

pub sign_out : (m : Mark) (P : Symbol → Type 0) (ts : List Symbol) → Rest P ts → (P (Sign m) → ⊥) → after_sign m ts ≡ None
sign_out m P ts h out = sign_absent m ts (λ us same. out (subst (Rest P) same h))

pub first_out : {A : Type 0} (of : Symbol → Option A) (ts : List Symbol) → Rest (λ s. of s ≡ None) ts → first of ts ≡ None
unfolding first
first_out of [] h = refl
first_out of (s ∷ ts) h = ap (λ o. o >>= λ x. Some (x, ts)) h

pub first_rest : (P Q : Symbol → Type 0) → ((s : Symbol) → P s → Q s) → (ts : List Symbol) → First P ts → Rest Q ts
first_rest P Q h [] f = tt
first_rest P Q h (s ∷ ts) f = h s f

-- ---- what is to be shown

abbrev pub AtGoal : Level → Expr → List Symbol → List Symbol → ℕ → Type 0
AtGoal expr a ts us n = Rest EndsConj us → r.disjunction (r.within n) ts ≡ chain_with or_of (r.conjunction (r.within n)) (suc (length us)) a us
AtGoal conj a ts us n = Rest EndsPred us → r.conjunction (r.within n) ts ≡ chain_with and_of (r.negations (r.within n)) (suc (length us)) a us
AtGoal neg a ts us n = Rest EndsPred us → r.negations (r.within n) ts ≡ Some (a, us)
AtGoal pred a ts us n = Rest EndsPred us → r.predicate (r.within n) ts ≡ Some (a, us)
AtGoal sum a ts us n = Rest EndsProd us → r.sum (r.within n) ts ≡ chain_with sum_of (r.product (r.within n)) (suc (length us)) a us
AtGoal prod a ts us n = Rest EndsUnary us → r.product (r.within n) ts ≡ chain_with product_of (r.unary (r.within n)) (suc (length us)) a us
AtGoal unary a ts us n = Rest EndsUnary us → r.unary (r.within n) ts ≡ Some (a, us)
AtGoal primary a ts us n = Rest EndsUnary us → r.primary (r.within n) ts ≡ Some (a, us)

abbrev pub EndsListed : Symbol → Type 0
EndsListed s = EndsExpr s × (is_comma s ≡ false)

abbrev is_when : Symbol → Bool
is_when (Key key.When) = true
is_when _ = false

abbrev EndsWhens : Symbol → Type 0
EndsWhens s = EndsExpr s × (is_when s ≡ false)

abbrev IsWhen : Symbol → Type 0
IsWhen s = s ≡ Key key.When

abbrev pub Goal : Phrase → List Symbol → List Symbol → Type 0
Goal (at l a) ts us = (n : ℕ) → length ts ≤ n → AtGoal l a ts us n
Goal (exprs es) ts us = (n : ℕ) → length ts ≤ n → Rest EndsListed us → (k : ℕ) → length ts < k → list_of (r.within (suc n)) (after_sign mark.Comma) k ts ≡ Some (es, us)
Goal (operand x) ts us = (n : ℕ) → length ts ≤ n → First IsWhen us → r.operand (r.within (suc n)) ts ≡ Some (x, us)
Goal (whens ws) ts us = (n : ℕ) → length ts ≤ n → Rest EndsWhens us → (k : ℕ) → length ts ≤ k → (after_key key.When ts >>= list_of (r.when (r.within (suc n))) (after_key key.When) k) ≡ Some (ws, us)
Goal (otherwise y) ts us = (n : ℕ) → length ts ≤ n → (vs : List Symbol) → us ≡ Key key.End ∷ vs → r.otherwise (r.within (suc n)) ts ≡ Some (y, us)
Goal (arguments s es) ts us = (n : ℕ) → length ts ≤ n → (vs : List Symbol) → us ≡ Sign mark.Close ∷ vs → r.arguments (r.within (suc n)) ts ≡ Some ((s, es), us)
Goal _ ts us = Unit {0}

-- what is nested has room
nest : (P : ℕ → Type 0) (n k : ℕ) → suc k ≤ n → ((m : ℕ) → k ≤ m → P (suc m)) → P n
nest P zero k h f = absurd (omega arith)
nest P (suc m) k h f = f m (omega arith)

-- ---- chains

takes_at : (l : Level) (read : Reader Expr) → ((ts : List Symbol) → If (read ts) (Reads l ts)) → TakesOne read
takes_at l read found ts x h = takes (if_some (read ts) (Reads l ts) x (found ts) h)

module _ (n : ℕ) where
  pub operand_takes : (l : Operators) → TakesOne (r.operand_of (r.within n) l)
  operand_takes level.Expr = takes_at conj (r.conjunction (r.within n)) (conjunction_found (r.within n) (within_found n))
  operand_takes level.Conj = takes_at neg (r.negations (r.within n)) (negations_found (r.within n) (within_found n))
  operand_takes level.Sum = takes_at prod (r.product (r.within n)) (product_found (r.within n) (within_found n))
  operand_takes level.Prod = takes_at unary (r.unary (r.within n)) (unary_found (r.within n) (within_found n))

  pub expr_whole : (a : Expr) (ts us : List Symbol) → AtGoal expr a ts us n → Rest EndsExpr us → r.within (suc n) ts ≡ Some (a, us)
  unfolding r.within
  expr_whole a ts us h ends =
      h (rest_weaker EndsExpr EndsConj (λ s p. p.0) us ends)
      ∙ chain_ends or_of (r.conjunction (r.within n)) (length us) a us (rest_weaker EndsExpr (λ s. or_of s ≡ None) (λ s p. p.1) us ends)

  conj_whole : (a : Expr) (ts us : List Symbol) → AtGoal conj a ts us n → Rest EndsConj us → r.conjunction (r.within n) ts ≡ Some (a, us)
  conj_whole a ts us h ends =
      h (rest_weaker EndsConj EndsPred (λ s p. p.0) us ends)
      ∙ chain_ends and_of (r.negations (r.within n)) (length us) a us (rest_weaker EndsConj (λ s. and_of s ≡ None) (λ s p. p.1) us ends)

  sum_whole : (a : Expr) (ts us : List Symbol) → AtGoal sum a ts us n → Rest EndsSum us → r.sum (r.within n) ts ≡ Some (a, us)
  sum_whole a ts us h ends =
      h (rest_weaker EndsSum EndsProd (λ s p. p.0) us ends)
      ∙ chain_ends sum_of (r.product (r.within n)) (length us) a us (rest_weaker EndsSum (λ s. sum_of s ≡ None) (λ s p. p.1) us ends)

  prod_whole : (a : Expr) (ts us : List Symbol) → AtGoal prod a ts us n → Rest EndsProd us → r.product (r.within n) ts ≡ Some (a, us)
  prod_whole a ts us h ends =
      h (rest_weaker EndsProd EndsUnary (λ s p. p.0) us ends)
      ∙ chain_ends product_of (r.unary (r.within n)) (length us) a us (rest_weaker EndsProd (λ s. product_of s ≡ None) (λ s p. p.1) us ends)

  one_conj_only : (a : Expr) (ts us : List Symbol) → AtGoal conj a ts us n → AtGoal expr a ts us n
  unfolding r.disjunction
  one_conj_only a ts us h ends = chain_starts or_of (r.conjunction (r.within n)) a ts us (conj_whole a ts us h ends)

  or_only : (s : Symbol) (o : BinaryOp) (a b : Expr) (ts us vs : List Symbol) → AtGoal expr a ts (s ∷ us) n → or_of s ≡ Some o → AtGoal conj b us vs n → AtGoal expr (e.Binary o a b) ts vs n
  or_only s o a b ts us vs h k f ends =
      h (or_ends s o k) ∙ chain_goes or_of (r.conjunction (r.within n)) (operand_takes level.Expr) s o a b us vs k (conj_whole b us vs f ends)

  one_neg_only : (a : Expr) (ts us : List Symbol) → AtGoal neg a ts us n → AtGoal conj a ts us n
  unfolding r.conjunction
  one_neg_only a ts us h ends = chain_starts and_of (r.negations (r.within n)) a ts us (h ends)

  and_only : (s : Symbol) (o : BinaryOp) (a b : Expr) (ts us vs : List Symbol) → AtGoal conj a ts (s ∷ us) n → and_of s ≡ Some o → AtGoal neg b us vs n → AtGoal conj (e.Binary o a b) ts vs n
  and_only s o a b ts us vs h k f ends =
      h (and_ends s o k) ∙ chain_goes and_of (r.negations (r.within n)) (operand_takes level.Conj) s o a b us vs k (f ends)

  one_prod_only : (a : Expr) (ts us : List Symbol) → AtGoal prod a ts us n → AtGoal sum a ts us n
  unfolding r.sum
  one_prod_only a ts us h ends = chain_starts sum_of (r.product (r.within n)) a ts us (prod_whole a ts us h ends)

  added_only : (s : Symbol) (o : BinaryOp) (a b : Expr) (ts us vs : List Symbol) → AtGoal sum a ts (s ∷ us) n → sum_of s ≡ Some o → AtGoal prod b us vs n → AtGoal sum (e.Binary o a b) ts vs n
  added_only s o a b ts us vs h k f ends =
      h (sum_ends s o k) ∙ chain_goes sum_of (r.product (r.within n)) (operand_takes level.Sum) s o a b us vs k (prod_whole b us vs f ends)

  one_unary_only : (a : Expr) (ts us : List Symbol) → AtGoal unary a ts us n → AtGoal prod a ts us n
  unfolding r.product
  one_unary_only a ts us h ends = chain_starts product_of (r.unary (r.within n)) a ts us (h ends)

  multiplied_only : (s : Symbol) (o : BinaryOp) (a b : Expr) (ts us vs : List Symbol) → AtGoal prod a ts (s ∷ us) n → product_of s ≡ Some o → AtGoal unary b us vs n → AtGoal prod (e.Binary o a b) ts vs n
  multiplied_only s o a b ts us vs h k f ends =
      h (product_ends s o k) ∙ chain_goes product_of (r.unary (r.within n)) (operand_takes level.Prod) s o a b us vs k (f ends)

-- ---- prefixes

signed_prefix : (s : Symbol) (m : Bool) (a : Expr) → minus_of s ≡ Some m → after_prefix s a ≡ e.Sign m a
signed_prefix (Sign mark.Minus) m a h = ap (λ b. e.Sign b a) (same_Some true m h)
signed_prefix (Sign mark.Plus) m a h = ap (λ b. e.Sign b a) (same_Some false m h)
signed_prefix _ m a h = absurd (none-some m h)

module _ (n : ℕ) where
  not_only : (a : Expr) (ts us : List Symbol) → AtGoal neg a ts us n → AtGoal neg (e.Not a) (Key key.Not ∷ ts) us n
  unfolding r.negations
  not_only a ts us h ends =
      prefixed_more is_not (r.predicate (r.within n)) (Key key.Not) ts refl
      ∙ then (r.negations (r.within n) ts) (under_one (Key key.Not)) (a, us) (Some (e.Not a, us)) (h ends) refl

  one_pred_only : (a : Expr) (ts us : List Symbol) → First BeginsUnary ts → AtGoal pred a ts us n → AtGoal neg a ts us n
  unfolding r.negations
  one_pred_only a ts us b h ends =
      prefixed_none is_not (r.predicate (r.within n)) ts (first_rest BeginsUnary (λ s. is_not s ≡ false) unary_no_not ts b) ∙ h ends

  signed_only : (s : Symbol) (m : Bool) (a : Expr) (ts us : List Symbol) → minus_of s ≡ Some m → AtGoal unary a ts us n → AtGoal unary (e.Sign m a) (s ∷ ts) us n
  unfolding r.unary
  signed_only s m a ts us k h ends =
      prefixed_more is_sign (r.primary (r.within n)) s ts (ap is_some k)
      ∙ then (r.unary (r.within n) ts) (under_one s) (a, us) (Some (e.Sign m a, us)) (h ends) (ap (λ x. Some (x, us)) (signed_prefix s m a k))

  one_primary_only : (a : Expr) (ts us : List Symbol) → First BeginsPrimary ts → AtGoal primary a ts us n → AtGoal unary a ts us n
  unfolding r.unary
  one_primary_only a ts us b h ends =
      prefixed_none is_sign (r.primary (r.within n)) ts (first_rest BeginsPrimary (λ s. is_sign s ≡ false) primary_no_sign ts b) ∙ h ends

-- ---- tests

negation_rest : {b : Bool} {us ws : List Symbol} → Spells (negation b) us ws → (P : Symbol → Type 0) → P (Key key.Not) → Rest P ws → Rest P us
negation_rest g.plainly P p h = h
negation_rest g.negated P p h = p

negation_only : {b : Bool} {us ws : List Symbol} → Spells (negation b) us ws → Rest (λ s. is_not s ≡ false) ws → negation_at us ≡ (b, ws)
unfolding negation_at
negation_only (g.plainly {ts}) h = ap (negation_of ts) (key_out key.Not (λ s. is_not s ≡ false) ts h (λ p. false≢true (sym p)))
negation_only (g.negated {ts}) h = ap (negation_of (Key key.Not ∷ ts)) (key_there key.Not ts)

is_is : Symbol → Bool
is_is (Key key.Is) = true
is_is _ = false

untested_is : (s : Symbol) → EndsPred s → is_is s ≡ false
unfolding is_is
untested_is (Key key.Is) h = absurd (false≢true (sym h.2))
untested_is _ h = refl

untested_not : (s : Symbol) → EndsPred s → is_not s ≡ false
untested_not (Key key.Not) h = absurd (false≢true (sym h.2))
untested_not _ h = refl

pred_ends_sum : (us : List Symbol) → Rest EndsPred us → Rest EndsSum us
pred_ends_sum us h = rest_weaker EndsPred EndsSum (λ s p. p.0) us h

module _ (n : ℕ) where
  tested_range : (b : Bool) (a : Expr) (us ws : List Symbol) → Rest (λ s. comparison_of s ≡ None) us → Rest (λ s. is_is s ≡ false) us → negation_at us ≡ (b, ws)
      → r.tested (r.within n) a us ≡ r.ranged (r.within n) b a ws
  unfolding r.tested is_is
  tested_range b a us ws c i m =
      ap₂ (r.tested_at (r.within n) a us) (first_out comparison_of us c) (key_out key.Is (λ s. is_is s ≡ false) us i (λ p. false≢true (sym p)))
      ∙ ap (λ x. r.ranged (r.within n) x.0 a x.1) m

  -- after [NOT] comes one of the words
  range_of : (b : Bool) (a : Expr) (us ws : List Symbol) (k : Keyword) → Spells (negation b) us (Key k ∷ ws) → comparison_of (Key k) ≡ None → is_is (Key k) ≡ false → is_not (Key k) ≡ false
      → r.tested (r.within n) a us ≡ r.ranged (r.within n) b a (Key k ∷ ws)
  unfolding is_is
  range_of b a us ws k m c i p =
      tested_range b a us (Key k ∷ ws) (negation_rest m (λ s. comparison_of s ≡ None) refl c) (negation_rest m (λ s. is_is s ≡ false) refl i) (negation_only m p)

  ends_ranged : (a : Expr) (us : List Symbol) → Rest EndsPred us → r.ranged (r.within n) false a us ≡ Some (a, us)
  ends_ranged a [] h = refl
  ends_ranged a (Key key.Between ∷ us) h = absurd (false≢true (sym h.2))
  ends_ranged a (Key key.In ∷ us) h = absurd (false≢true (sym h.2))
  ends_ranged a (Key key.Like ∷ us) h = absurd (false≢true (sym h.2))
  ends_ranged a (_ ∷ us) h = refl

  one_sum_only : (a : Expr) (ts us : List Symbol) → AtGoal sum a ts us n → AtGoal pred a ts us n
  unfolding r.predicate
  one_sum_only a ts us h ends =
      then (r.sum (r.within n) ts) _ (a, us) _ (sum_whole n a ts us h (pred_ends_sum us ends))
      (tested_range false a us us (rest_weaker EndsPred (λ s. comparison_of s ≡ None) (λ s p. p.1) us ends) (rest_weaker EndsPred (λ s. is_is s ≡ false) untested_is us ends)
      (negation_only g.plainly (rest_weaker EndsPred (λ s. is_not s ≡ false) untested_not us ends))
      ∙ ends_ranged a us ends)

  compared_only : (s : Symbol) (o : BinaryOp) (a b : Expr) (ts us vs : List Symbol) → AtGoal sum a ts (s ∷ us) n → comparison_of s ≡ Some o → AtGoal sum b us vs n → AtGoal pred (e.Binary o a b) ts vs n
  unfolding r.predicate r.tested r.compared
  compared_only s o a b ts us vs h k f ends =
      then (r.sum (r.within n) ts) _ (a, s ∷ us) _ (sum_whole n a ts (s ∷ us) h (comparison_ends s o k))
      (ap (λ x. r.tested_at (r.within n) a (s ∷ us) x (after_key key.Is (s ∷ us))) (first_there comparison_of s us o k)
      ∙ then (r.sum (r.within n) us) _ (b, vs) _ (sum_whole n b us vs f (pred_ends_sum vs ends)) refl)

  is_null_only : (b : Bool) (a : Expr) (ts us vs : List Symbol) → AtGoal sum a ts (Key key.Is ∷ us) n → Spells (negation b) us (Key key.Null ∷ vs) → AtGoal pred (e.IsNull b a) ts vs n
  unfolding r.predicate r.tested r.is_null
  is_null_only b a ts us vs h m ends =
      then (r.sum (r.within n) ts) _ (a, Key key.Is ∷ us) _ (sum_whole n a ts (Key key.Is ∷ us) h ((refl, refl), refl))
      (ap₂ (r.tested_at (r.within n) a (Key key.Is ∷ us)) (first_out comparison_of (Key key.Is ∷ us) refl) (key_there key.Is us)
      ∙ ap (λ x. after_key key.Null x.1 >>= λ ws. Some (e.IsNull x.0 a, ws)) (negation_only m refl)
      ∙ then (after_key key.Null (Key key.Null ∷ vs)) _ vs _ (key_there key.Null vs) refl)

  between_only : (b : Bool) (a low high : Expr) (ts us vs ws xs : List Symbol) → AtGoal sum a ts us n → Spells (negation b) us (Key key.Between ∷ vs)
      → AtGoal sum low vs (Key key.And ∷ ws) n → AtGoal sum high ws xs n → AtGoal pred (e.Between b a low high) ts xs n
  unfolding r.predicate r.between is_is
  between_only b a low high ts us vs ws xs h m f k ends =
      then (r.sum (r.within n) ts) _ (a, us) _ (sum_whole n a ts us h (negation_rest m EndsSum ((refl, refl), refl) ((refl, refl), refl)))
      (range_of b a us vs key.Between m refl refl refl
      ∙ then (r.sum (r.within n) vs) _ (low, Key key.And ∷ ws) _ (sum_whole n low vs (Key key.And ∷ ws) f ((refl, refl), refl))
      (then (after_key key.And (Key key.And ∷ ws)) _ ws _ (key_there key.And ws)
      (then (r.sum (r.within n) ws) _ (high, xs) _ (sum_whole n high ws xs k (pred_ends_sum xs ends)) refl)))

  one_of_only : (b : Bool) (a : Expr) (es : List Expr) (ts us vs ws : List Symbol) → AtGoal sum a ts us n → Spells (negation b) us (Key key.In ∷ Sign mark.Open ∷ vs)
      → r.exprs (r.within n) vs ≡ Some (es, Sign mark.Close ∷ ws) → AtGoal pred (e.OneOf b a es) ts ws n
  unfolding r.predicate r.one_of is_is
  one_of_only b a es ts us vs ws h m q ends =
      then (r.sum (r.within n) ts) _ (a, us) _ (sum_whole n a ts us h (negation_rest m EndsSum ((refl, refl), refl) ((refl, refl), refl)))
      (range_of b a us (Sign mark.Open ∷ vs) key.In m refl refl refl
      ∙ then (after_sign mark.Open (Sign mark.Open ∷ vs)) _ vs _ (sign_there mark.Open vs)
      (then (r.exprs (r.within n) vs) _ (es, Sign mark.Close ∷ ws) _ q
      (then (after_sign mark.Close (Sign mark.Close ∷ ws)) _ ws _ (sign_there mark.Close ws) refl)))

  like_only : (b : Bool) (a : Expr) (pattern : List ℕ) (ts us vs : List Symbol) → AtGoal sum a ts us n → Spells (negation b) us (Key key.Like ∷ Text pattern ∷ vs) → AtGoal pred (e.Like b a pattern) ts vs n
  unfolding r.predicate r.like is_is
  like_only b a pattern ts us vs h m ends =
      then (r.sum (r.within n) ts) _ (a, us) _ (sum_whole n a ts us h (negation_rest m EndsSum ((refl, refl), refl) ((refl, refl), refl)))
      (range_of b a us (Text pattern ∷ vs) key.Like m refl refl refl
      ∙ then (first r.text_of (Text pattern ∷ vs)) _ (pattern, vs) _ (first_there r.text_of (Text pattern) vs pattern refl) refl)

-- ---- primaries

module _ (inner : Reader Expr) where
  truth_only : (s : Symbol) (b : Bool) (ts : List Symbol) → truth_of s ≡ Some b → r.primary inner (s ∷ ts) ≡ Some (e.Truth b, ts)
  unfolding r.primary
  truth_only (Key key.True) b ts h = ap (λ x. Some (e.Truth x, ts)) (same_Some true b h)
  truth_only (Key key.False) b ts h = ap (λ x. Some (e.Truth x, ts)) (same_Some false b h)
  truth_only _ b ts h = absurd (none-some b h)

  cast_only : (a : Expr) (t : Symbol) (ty : SqlType) (ts us : List Symbol) → inner ts ≡ Some (a, Key key.As ∷ t ∷ Sign mark.Close ∷ us) → type_of t ≡ Some ty
      → r.primary inner (Key key.Cast ∷ Sign mark.Open ∷ ts) ≡ Some (e.Cast a ty, us)
  unfolding r.primary r.cast
  cast_only a t ty ts us q h =
      then (after_sign mark.Open (Sign mark.Open ∷ ts)) _ ts _ (sign_there mark.Open ts)
      (then (inner ts) _ (a, Key key.As ∷ t ∷ Sign mark.Close ∷ us) _ q
      (then (after_key key.As (Key key.As ∷ t ∷ Sign mark.Close ∷ us)) _ (t ∷ Sign mark.Close ∷ us) _ (key_there key.As (t ∷ Sign mark.Close ∷ us))
      (then (first type_of (t ∷ Sign mark.Close ∷ us)) _ (ty, Sign mark.Close ∷ us) _ (first_there type_of t (Sign mark.Close ∷ us) ty h)
      (then (after_sign mark.Close (Sign mark.Close ∷ us)) _ us _ (sign_there mark.Close us) refl))))

  case_only : (x y : Option Expr) (ws : List WhenText) (ts us vs rest : List Symbol) → r.operand inner ts ≡ Some (x, us) → r.whens inner us ≡ Some (ws, vs) → r.otherwise inner vs ≡ Some (y, Key key.End ∷ rest)
      → r.primary inner (Key key.Case ∷ ts) ≡ Some (e.Case x ws y, rest)
  unfolding r.primary r.case
  case_only x y ws ts us vs rest p q o =
      then (r.operand inner ts) _ (x, us) _ p
      (then (r.whens inner us) _ (ws, vs) _ q
      (then (r.otherwise inner vs) _ (y, Key key.End ∷ rest) _ o
      (then (after_key key.End (Key key.End ∷ rest)) _ rest _ (key_there key.End rest) refl)))

  named_only : (s : Symbol) (name : List ℕ) (ts : List Symbol) → name_of s ≡ Some name → r.primary inner (s ∷ ts) ≡ r.named inner name ts
  unfolding r.primary
  named_only (Word w) name ts h = ap (λ x. r.named inner x ts) (same_Some w name h)
  named_only (Quoted w) name ts h = ap (λ x. r.named inner x ts) (same_Some w name h)
  named_only _ name ts h = absurd (none-some name h)

  call_only : (s : Symbol) (name : List ℕ) (is_star : Bool) (es : List Expr) (ts us : List Symbol) → name_of s ≡ Some name → r.arguments inner ts ≡ Some ((is_star, es), Sign mark.Close ∷ us)
      → r.primary inner (s ∷ Sign mark.Open ∷ ts) ≡ Some (e.Call name is_star es, us)
  unfolding r.named r.call
  call_only s name is_star es ts us h q =
      named_only s name (Sign mark.Open ∷ ts) h
      ∙ ap (λ o. r.named_at inner name (Sign mark.Open ∷ ts) o (after_sign mark.Dot (Sign mark.Open ∷ ts))) (sign_there mark.Open ts)
      ∙ then (r.arguments inner ts) _ ((is_star, es), Sign mark.Close ∷ us) _ q
      (then (after_sign mark.Close (Sign mark.Close ∷ us)) _ us _ (sign_there mark.Close us) refl)

  name_only : (s : Symbol) (name : List ℕ) (ts : List Symbol) → name_of s ≡ Some name → Rest EndsUnary ts → r.primary inner (s ∷ ts) ≡ Some (e.Name None name, ts)
  unfolding r.named
  name_only s name ts h ends =
      named_only s name ts h
      ∙ ap₂ (r.named_at inner name ts) (sign_out mark.Open EndsUnary ts ends (λ p. false≢true (sym p))) (sign_out mark.Dot EndsUnary ts ends (λ p. false≢true (sym p)))

  name_in_only : (s t : Symbol) (qualifier name : List ℕ) (ts : List Symbol) → name_of s ≡ Some qualifier → name_of t ≡ Some name
      → r.primary inner (s ∷ Sign mark.Dot ∷ t ∷ ts) ≡ Some (e.Name (Some qualifier) name, ts)
  unfolding r.named r.qualified
  name_in_only s t qualifier name ts h k =
      named_only s qualifier (Sign mark.Dot ∷ t ∷ ts) h
      ∙ ap₂ (r.named_at inner qualifier (Sign mark.Dot ∷ t ∷ ts)) (sign_out mark.Open (λ x. x ≡ Sign mark.Dot) (Sign mark.Dot ∷ t ∷ ts) refl (λ p. cc)) (sign_there mark.Dot (t ∷ ts))
      ∙ then (first name_of (t ∷ ts)) _ (name, ts) _ (first_there name_of t ts name k) refl

  parens_only : (a : Expr) (ts us : List Symbol) → inner ts ≡ Some (a, Sign mark.Close ∷ us) → r.primary inner (Sign mark.Open ∷ ts) ≡ Some (a, us)
  unfolding r.primary r.parens
  parens_only a ts us q =
      then (inner ts) _ (a, Sign mark.Close ∷ us) _ q
      (then (after_sign mark.Close (Sign mark.Close ∷ us)) _ us _ (sign_there mark.Close us) refl)

  -- ---- lists, and the parts of CASE and of a call

  last_expr_only : (a : Expr) (ts us : List Symbol) (k : ℕ) → inner ts ≡ Some (a, us) → after_sign mark.Comma us ≡ None → list_of inner (after_sign mark.Comma) (suc k) ts ≡ Some (a ∷ [], us)
  unfolding list_of
  last_expr_only a ts us k q none = then (inner ts) _ (a, us) _ q (ap (list_end (a, us) (list_of inner (after_sign mark.Comma) k)) none)

  more_exprs_only : (a : Expr) (es : List Expr) (ts us vs : List Symbol) (k : ℕ) → inner ts ≡ Some (a, Sign mark.Comma ∷ us) → list_of inner (after_sign mark.Comma) k us ≡ Some (es, vs)
      → list_of inner (after_sign mark.Comma) (suc k) ts ≡ Some (a ∷ es, vs)
  unfolding list_of
  more_exprs_only a es ts us vs k q f =
      then (inner ts) _ (a, Sign mark.Comma ∷ us) _ q
      (ap (list_end (a, Sign mark.Comma ∷ us) (list_of inner (after_sign mark.Comma) k)) (sign_there mark.Comma us)
      ∙ end_more (Some us) (a, Sign mark.Comma ∷ us) (list_of inner (after_sign mark.Comma) k) es vs f)

  when_only : (c x : Expr) (ts us vs : List Symbol) → inner ts ≡ Some (c, Key key.Then ∷ us) → inner us ≡ Some (x, vs) → r.when inner ts ≡ Some (when_then c x, vs)
  unfolding r.when
  when_only c x ts us vs q p =
      then (inner ts) _ (c, Key key.Then ∷ us) _ q
      (then (after_key key.Then (Key key.Then ∷ us)) _ us _ (key_there key.Then us)
      (then (inner us) _ (x, vs) _ p refl))

  last_when_only : (c x : Expr) (ts us vs : List Symbol) (k : ℕ) → inner ts ≡ Some (c, Key key.Then ∷ us) → inner us ≡ Some (x, vs) → after_key key.When vs ≡ None
      → (after_key key.When (Key key.When ∷ ts) >>= list_of (r.when inner) (after_key key.When) (suc k)) ≡ Some (when_then c x ∷ [], vs)
  unfolding list_of
  last_when_only c x ts us vs k q p none =
      then (after_key key.When (Key key.When ∷ ts)) (list_of (r.when inner) (after_key key.When) (suc k)) ts _ (key_there key.When ts)
      (then (r.when inner ts) _ (when_then c x, vs) _ (when_only c x ts us vs q p) (ap (list_end (when_then c x, vs) (list_of (r.when inner) (after_key key.When) k)) none))

  more_whens_only : (c x : Expr) (ws : List WhenText) (ts us vs rest : List Symbol) (k : ℕ) → inner ts ≡ Some (c, Key key.Then ∷ us) → inner us ≡ Some (x, vs)
      → (after_key key.When vs >>= list_of (r.when inner) (after_key key.When) k) ≡ Some (ws, rest)
      → (after_key key.When (Key key.When ∷ ts) >>= list_of (r.when inner) (after_key key.When) (suc k)) ≡ Some (when_then c x ∷ ws, rest)
  unfolding list_of
  more_whens_only c x ws ts us vs rest k q p f =
      then (after_key key.When (Key key.When ∷ ts)) (list_of (r.when inner) (after_key key.When) (suc k)) ts _ (key_there key.When ts)
      (then (r.when inner ts) _ (when_then c x, vs) _ (when_only c x ts us vs q p)
      (end_more (after_key key.When vs) (when_then c x, vs) (list_of (r.when inner) (after_key key.When) k) ws rest f))

  no_operand_only : (ts : List Symbol) → First IsWhen ts → r.operand inner ts ≡ Some (None, ts)
  unfolding r.operand
  no_operand_only [] h = absurd h
  no_operand_only (s ∷ ts) h =
      ap (r.operand_at inner (s ∷ ts)) (ap (λ x. after_key key.When (x ∷ ts)) h ∙ key_there key.When ts)

  operand_only : (a : Expr) (ts us : List Symbol) → First BeginsExpr ts → inner ts ≡ Some (a, us) → r.operand inner ts ≡ Some (Some a, us)
  unfolding r.operand
  operand_only a ts us b q =
      ap (r.operand_at inner ts) (key_out key.When BeginsExpr ts (first_rest BeginsExpr BeginsExpr (λ s p. p) ts b) false≢true)
      ∙ then (inner ts) _ (a, us) _ q refl

  no_else_only : (ts vs : List Symbol) → ts ≡ Key key.End ∷ vs → r.otherwise inner ts ≡ Some (None, ts)
  unfolding r.otherwise
  no_else_only ts vs h = ap (r.otherwise_at inner ts) (key_out key.Else (λ s. s ≡ Key key.End) ts (subst (Rest (λ s. s ≡ Key key.End)) (sym h) refl) (λ p. cc))

  else_only : (a : Expr) (ts us : List Symbol) → inner ts ≡ Some (a, us) → r.otherwise inner (Key key.Else ∷ ts) ≡ Some (Some a, us)
  unfolding r.otherwise
  else_only a ts us q = ap (r.otherwise_at inner (Key key.Else ∷ ts)) (key_there key.Else ts) ∙ then (inner ts) _ (a, us) _ q refl

  no_arguments_only : (ts vs : List Symbol) → ts ≡ Sign mark.Close ∷ vs → r.arguments inner ts ≡ Some ((false, []), ts)
  unfolding r.arguments
  no_arguments_only ts vs h =
      ap (λ o. r.arguments_at inner ts o (after_sign mark.Star ts)) (ap (after_sign mark.Close) h ∙ sign_there mark.Close vs)

  star_only : (ts : List Symbol) → r.arguments inner (Sign mark.Star ∷ ts) ≡ Some ((true, []), ts)
  unfolding r.arguments
  star_only ts =
      ap₂ (r.arguments_at inner (Sign mark.Star ∷ ts)) (sign_out mark.Close (λ s. s ≡ Sign mark.Star) (Sign mark.Star ∷ ts) refl (λ p. cc)) (sign_there mark.Star ts)

  arguments_only : (es : List Expr) (ts us : List Symbol) → First BeginsExpr ts → r.exprs inner ts ≡ Some (es, us) → r.arguments inner ts ≡ Some ((false, es), us)
  unfolding r.arguments
  arguments_only es ts us b q =
      let begun = first_rest BeginsExpr BeginsExpr (λ s p. p) ts b in
      ap₂ (r.arguments_at inner ts) (sign_out mark.Close BeginsExpr ts begun false≢true) (sign_out mark.Star BeginsExpr ts begun false≢true)
      ∙ then (r.exprs inner ts) _ (es, us) _ q refl

-- ---- all of them

digits_only : (n k : ℕ) (ts : List Symbol) → r.primary (r.within n) (Number k ∷ ts) ≡ Some (e.Digits k, ts)
unfolding r.primary
digits_only n k ts = refl

text_only : (n : ℕ) (content : List ℕ) (ts : List Symbol) → r.primary (r.within n) (Text content ∷ ts) ≡ Some (e.Text content, ts)
unfolding r.primary
text_only n content ts = refl

null_only : (n : ℕ) (ts : List Symbol) → r.primary (r.within n) (Key key.Null ∷ ts) ≡ Some (e.Null, ts)
unfolding r.primary
null_only n ts = refl

-- a nested expression, and a nested list of expressions
expr_nested : (n : ℕ) (a : Expr) (ts us : List Symbol) → suc (length ts) ≤ n → Goal (at expr a) ts us → Rest EndsExpr us → r.within n ts ≡ Some (a, us)
expr_nested n a ts us le h ends = nest (λ n. r.within n ts ≡ Some (a, us)) n (length ts) le (λ m lm. expr_whole m a ts us (h m lm) ends)

exprs_nested : (n : ℕ) (es : List Expr) (ts us : List Symbol) → suc (length ts) ≤ n → Goal (exprs es) ts us → Rest EndsListed us → r.exprs (r.within n) ts ≡ Some (es, us)
unfolding r.exprs
exprs_nested n es ts us le h ends = nest (λ n. list_of (r.within n) (after_sign mark.Comma) (suc (length ts)) ts ≡ Some (es, us)) n (length ts) le (λ m lm. h m lm ends (suc (length ts)) (omega arith))

pub exprs_whole : (n : ℕ) (es : List Expr) (ts us : List Symbol) → length ts ≤ n → Goal (exprs es) ts us → Rest EndsListed us → r.exprs (r.within (suc n)) ts ≡ Some (es, us)
unfolding r.exprs
exprs_whole n es ts us le h ends = h n le ends (suc (length ts)) (omega arith)

whens_nested : (n : ℕ) (ws : List WhenText) (ts us : List Symbol) → suc (length ts) ≤ n → Goal (whens ws) ts us → Rest EndsWhens us → r.whens (r.within n) ts ≡ Some (ws, us)
unfolding r.whens
whens_nested n ws ts us le h ends =
    nest (λ n. (after_key key.When ts >>= list_of (r.when (r.within n)) (after_key key.When) (length ts)) ≡ Some (ws, us)) n (length ts) le (λ m lm. h m lm ends (length ts) (omega arith))

else_rest : {y : Option Expr} {ts us : List Symbol} → Spells (otherwise y) ts us → (P : Symbol → Type 0) → P (Key key.Else) → Rest P us → Rest P ts
else_rest g.no_else P p h = h
else_rest (g.an_else d) P p h = p

rest_at : (Q : Symbol → Type 0) (s : Symbol) (us vs : List Symbol) → us ≡ s ∷ vs → Q s → Rest Q us
rest_at Q s us vs h q = subst (Rest Q) (sym h) q

when_ends : (us : List Symbol) → First IsWhen us → Rest EndsExpr us
when_ends us b = first_rest IsWhen EndsExpr (λ s h. subst EndsExpr (sym h) (((((refl, refl), refl), refl, refl), refl), refl)) us b

whens_end : (us : List Symbol) → Rest EndsWhens us → Rest EndsExpr us
whens_end us h = rest_weaker EndsWhens EndsExpr (λ s p. p.0) us h

listed_ends : (us : List Symbol) → Rest EndsListed us → Rest EndsExpr us
listed_ends us h = rest_weaker EndsListed EndsExpr (λ s p. p.0) us h

pub only : {p : Phrase} {ts us : List Symbol} → Spells p ts us → Goal p ts us
only (g.one_conj {a} {ts} {us} d) = λ n le. one_conj_only n a ts us (only d n le)
only (g.or {o} {s} {a} {b} {ts} {us} {vs} d h f) = λ n le. let t = takes d in or_only n s o a b ts us vs (only d n le) h (only f n (omega arith))
only (g.one_neg {a} {ts} {us} d) = λ n le. one_neg_only n a ts us (only d n le)
only (g.and {o} {s} {a} {b} {ts} {us} {vs} d h f) = λ n le. let t = takes d in and_only n s o a b ts us vs (only d n le) h (only f n (omega arith))
only (g.not {a} {ts} {us} d) = λ n le. not_only n a ts us (only d n (omega arith))
only (g.one_pred {a} {ts} {us} d) = λ n le. one_pred_only n a ts us (begins d) (only d n le)
only (g.one_sum {a} {ts} {us} d) = λ n le. one_sum_only n a ts us (only d n le)
only (g.compared {o} {s} {a} {b} {ts} {us} {vs} d h f) = λ n le. let t = takes d in compared_only n s o a b ts us vs (only d n le) h (only f n (omega arith))
only (g.is_null {n = b} {a} {ts} {us} {vs} d m) = λ n le. is_null_only n b a ts us vs (only d n le) m
only (g.between {n = b} {a} {low} {high} {ts} {us} {vs} {ws} {xs} d m f k) = λ n le.
    let t = takes d in let u = takes m in let w = takes f in
    between_only n b a low high ts us vs ws xs (only d n le) m (only f n (omega arith)) (only k n (omega arith))
only (g.one_of {n = b} {a} {es} {ts} {us} {vs} {ws} d m f) = λ n le.
    let t = takes d in let u = takes m in
    one_of_only n b a es ts us vs ws (only d n le) m (exprs_nested n es vs (Sign mark.Close ∷ ws) (omega arith) (only f) ((((((refl, refl), refl), refl, refl), refl), refl), refl))
only (g.like {n = b} {a} {pattern} {ts} {us} {vs} d m) = λ n le. like_only n b a pattern ts us vs (only d n le) m
only (g.one_prod {a} {ts} {us} d) = λ n le. one_prod_only n a ts us (only d n le)
only (g.added {o} {s} {a} {b} {ts} {us} {vs} d h f) = λ n le. let t = takes d in added_only n s o a b ts us vs (only d n le) h (only f n (omega arith))
only (g.one_unary {a} {ts} {us} d) = λ n le. one_unary_only n a ts us (only d n le)
only (g.multiplied {o} {s} {a} {b} {ts} {us} {vs} d h f) = λ n le. let t = takes d in multiplied_only n s o a b ts us vs (only d n le) h (only f n (omega arith))
only (g.signed {m} {s} {a} {ts} {us} h d) = λ n le. signed_only n s m a ts us h (only d n (omega arith))
only (g.one_primary {a} {ts} {us} d) = λ n le. one_primary_only n a ts us (begins d) (only d n le)
only (g.digits {n = k} {ts}) = λ n le ends. digits_only n k ts
only (g.text {content} {ts}) = λ n le ends. text_only n content ts
only (g.truth {s} {b} {ts} h) = λ n le ends. truth_only (r.within n) s b ts h
only (g.null {ts}) = λ n le ends. null_only n ts
only (g.cast {a} {t} {ty} {ts} {us} d h) = λ n le ends.
    cast_only (r.within n) a t ty ts us (expr_nested n a ts (Key key.As ∷ t ∷ Sign mark.Close ∷ us) (omega arith) (only d) (((((refl, refl), refl), refl, refl), refl), refl)) h
only (g.case {x} {y} {ws} {ts} {us} {vs} {rest} p w q) = λ n le ends.
    let t = takes p in let u = takes w in
    case_only (r.within n) x y ws ts us vs rest
    (nest (λ n. r.operand (r.within n) ts ≡ Some (x, us)) n (length ts) (omega arith) (λ m lm. only p m lm (begins w)))
    (whens_nested n ws us vs (omega arith) (only w) (else_rest q EndsWhens ((((((refl, refl), refl), refl, refl), refl), refl), refl) ((((((refl, refl), refl), refl, refl), refl), refl), refl)))
    (nest (λ n. r.otherwise (r.within n) vs ≡ Some (y, Key key.End ∷ rest)) n (length vs) (omega arith) (λ m lm. only q m lm rest refl))
only (g.no_operand {ts}) = λ n le b. no_operand_only (r.within (suc n)) ts b
only (g.an_operand {a} {ts} {us} d) = λ n le b. operand_only (r.within (suc n)) a ts us (begins d) (expr_whole n a ts us (only d n le) (when_ends us b))
only (g.last_when {c} {r = x} {ts} {us} {vs} d f) = λ n le ends k lk.
    let t = takes d in
    nest (λ k. (after_key key.When (Key key.When ∷ ts) >>= list_of (r.when (r.within (suc n))) (after_key key.When) k) ≡ Some (when_then c x ∷ [], vs)) k (length ts) lk (λ i li.
    last_when_only (r.within (suc n)) c x ts us vs i (expr_whole n c ts (Key key.Then ∷ us) (only d n (omega arith)) (((((refl, refl), refl), refl, refl), refl), refl))
    (expr_whole n x us vs (only f n (omega arith)) (whens_end vs ends)) (key_out key.When EndsWhens vs ends (λ p. false≢true (sym p.1))))
only (g.more_whens {c} {r = x} {ws} {ts} {us} {vs} {rest} d f w) = λ n le ends k lk.
    let t = takes d in let u = takes f in
    nest (λ k. (after_key key.When (Key key.When ∷ ts) >>= list_of (r.when (r.within (suc n))) (after_key key.When) k) ≡ Some (when_then c x ∷ ws, rest)) k (length ts) lk (λ i li.
    more_whens_only (r.within (suc n)) c x ws ts us vs rest i (expr_whole n c ts (Key key.Then ∷ us) (only d n (omega arith)) (((((refl, refl), refl), refl, refl), refl), refl))
    (expr_whole n x us vs (only f n (omega arith)) (when_ends vs (begins w))) (only w n (omega arith) ends i (omega arith)))
only (g.no_else {ts}) = λ n le vs h. no_else_only (r.within (suc n)) ts vs h
only (g.an_else {a} {ts} {us} d) = λ n le vs h.
    else_only (r.within (suc n)) a ts us (expr_whole n a ts us (only d n (omega arith)) (rest_at EndsExpr (Key key.End) us vs h (((((refl, refl), refl), refl, refl), refl), refl)))
only (g.call {n = s} {name} {is_star} {es} {ts} {us} h d) = λ n le ends.
    call_only (r.within n) s name is_star es ts us h (nest (λ n. r.arguments (r.within n) ts ≡ Some ((is_star, es), Sign mark.Close ∷ us)) n (length ts) (omega arith) (λ m lm. only d m lm us refl))
only (g.no_arguments {ts}) = λ n le vs h. no_arguments_only (r.within (suc n)) ts vs h
only (g.star_argument {ts}) = λ n le vs h. star_only (r.within (suc n)) ts
only (g.some_arguments {es} {ts} {us} d) = λ n le vs h.
    arguments_only (r.within (suc n)) es ts us (begins d) (exprs_whole n es ts us le (only d) (rest_at EndsListed (Sign mark.Close) us vs h ((((((refl, refl), refl), refl, refl), refl), refl), refl)))
only (g.name {n = s} {name} {ts} h) = λ n le ends. name_only (r.within n) s name ts h ends
only (g.name_in {q = s} {n = t} {qualifier} {name} {ts} h k) = λ n le ends. name_in_only (r.within n) s t qualifier name ts h k
only (g.parens {a} {ts} {us} d) = λ n le ends.
    parens_only (r.within n) a ts us (expr_nested n a ts (Sign mark.Close ∷ us) (omega arith) (only d) (((((refl, refl), refl), refl, refl), refl), refl))
only (g.last_expr {a} {ts} {us} d) = λ n le ends k lk.
    nest (λ k. list_of (r.within (suc n)) (after_sign mark.Comma) k ts ≡ Some (a ∷ [], us)) k (length ts) lk (λ i li.
    last_expr_only (r.within (suc n)) a ts us i (expr_whole n a ts us (only d n le) (listed_ends us ends)) (sign_out mark.Comma EndsListed us ends (λ p. false≢true (sym p.1))))
only (g.more_exprs {a} {es} {ts} {us} {vs} d f) = λ n le ends k lk.
    let t = takes d in
    nest (λ k. list_of (r.within (suc n)) (after_sign mark.Comma) k ts ≡ Some (a ∷ es, vs)) k (length ts) lk (λ i li.
    more_exprs_only (r.within (suc n)) a es ts us vs i (expr_whole n a ts (Sign mark.Comma ∷ us) (only d n le) (((((refl, refl), refl), refl, refl), refl), refl)) (only f n (omega arith) ends i (omega arith)))
only _ = tt
