-- What is read as an expression is a spelling of it.
use Rattle.std.proofs.Common.{◌≡◌, ℕ, zero, suc, ◌+◌, Bool, true, false, cond, List, [], ◌∷◌, length, take, drop, Option, Some, None, is_some, refl, sym, ap, ◌∙◌, subst}
use Rattle.std.specs.List.{prefix_len}
use Rattle.std.proofs.lemmas.Bool.{false≢true}
use Rattle.std.proofs.Math.Numerals.{one-add}
use Rattle.ksql_types.specs.declared.operator.BinaryOp.{BinaryOp}
use Rattle.ksql_types.specs.declared.value.SqlType.{SqlType}
use Rattle.ksql_lexer.specs.declared.token.Mark.{Mark}
use Rattle.ksql_lexer.specs.declared.token.Mark.TheVariants as mark
use Rattle.ksql_grammar.specs.declared.symbol.Keyword.{Keyword}
use Rattle.ksql_grammar.specs.declared.symbol.Keyword.TheVariants as key
use Rattle.ksql_grammar.specs.declared.symbol.Symbol.{Symbol}
use Rattle.ksql_grammar.specs.declared.symbol.Symbol.TheVariants.{Key, Word, Quoted, Text, Number, Sign}
use Rattle.expression_trees.specs.declared.tree.Expr.{Expr}
use Rattle.expression_trees.specs.declared.tree.Expr.TheVariants as e
use Rattle.expression_trees.specs.declared.tree.WhenText.{WhenText}
use Rattle.ksql_grammar.specs.Symbols.{name_of, type_of, or_of, and_of, comparison_of, sum_of, product_of}
use Rattle.ksql_grammar.specs.Grammar.{Level, Phrase, Spells, at, exprs, whens, operand, otherwise, arguments, negation, when_then, minus_of, truth_of, expr, conj, neg, pred, sum, prod, unary, primary}
use Rattle.ksql_grammar.specs.Grammar as g
use Rattle.ksql_grammar.specs.Expressions.{Reader, after_key, after_sign, first, list_end, list_of, chain_step, chain_with, chain, after_prefix, after_prefixes, prefixed, is_not, is_sign, negation_of, negation_at}
use Rattle.expression_trees.specs.Options.{◌>>=◌}
use Rattle.ksql_grammar.specs.Expressions as r
use Rattle.ksql_grammar.proofs.Steps.{If, if_bind, if_some, if_weaker, if_from, key_found, sign_found, first_found}

-- what was read is a spelling at this level
abbrev pub Reads : Level → List Symbol → Expr × List Symbol → Type 0
Reads l ts x = Spells (at l x.0) ts x.1

pub along : {p : Phrase} {ts us vs : List Symbol} → Spells p ts us → us ≡ vs → Spells p ts vs
along {p} {ts} d h = subst (λ r. Spells p ts r) h d

pub behind : {p : Phrase} {ts us vs : List Symbol} → ts ≡ vs → Spells p vs us → Spells p ts us
behind {p} {us = us} h d = subst (λ r. Spells p r us) (sym h) d

-- chains
module _ (op : Symbol → Option BinaryOp) (l m : Level) (operand : Reader Expr) (operand_found : (ts : List Symbol) → If (operand ts) (Reads m ts))
    (one : (a : Expr) (ts us : List Symbol) → Spells (at m a) ts us → Spells (at l a) ts us)
    (more : (o : BinaryOp) (s : Symbol) (a b : Expr) (ts us vs : List Symbol) → Spells (at l a) ts (s ∷ us) → op s ≡ Some o → Spells (at m b) us vs → Spells (at l (e.Binary o a b)) ts vs) where
  step_found : (others : Expr → Reader Expr) (ts : List Symbol) (others_found : (a : Expr) (us : List Symbol) → Spells (at l a) ts us → If (others a us) (Reads l ts))
      (a : Expr) (us : List Symbol) → Spells (at l a) ts us → (o : Option (BinaryOp × List Symbol)) → If o (λ x. (s : Symbol) × (us ≡ s ∷ x.1) × (op s ≡ Some x.0)) → If (chain_step operand others a us o) (Reads l ts)
  step_found others ts others_found a us d None h = d
  step_found others ts others_found a us d (Some o) h =
      if_bind (operand o.1) _ (Reads m o.1) (Reads l ts) (operand_found o.1) (λ b f. others_found (e.Binary o.0 a b.0) b.1 (more o.0 h.0 a b.0 ts o.1 b.1 (along d h.1) h.2 f))

  with_found : (n : ℕ) (ts : List Symbol) (a : Expr) (us : List Symbol) → Spells (at l a) ts us → If (chain_with op operand n a us) (Reads l ts)
  unfolding chain_with
  with_found zero ts a us d = d
  with_found (suc n) ts a us d = step_found (chain_with op operand n) ts (with_found n ts) a us d (first op us) (first_found op us)

  chain_found : (ts : List Symbol) → If (chain op operand ts) (Reads l ts)
  unfolding chain
  chain_found ts = if_bind (operand ts) _ (Reads m ts) (Reads l ts) (operand_found ts) (λ a d. with_found (suc (length a.1)) ts a.0 a.1 (one a.0 ts a.1 d))

-- prefixes
pub prefix_len-true : (test : Symbol → Bool) (s : Symbol) (ts : List Symbol) → test s ≡ true → prefix_len test (s ∷ ts) ≡ suc (prefix_len test ts)
prefix_len-true test s ts h = ap (λ b. cond b (1 + prefix_len test ts) 0) h ∙ one-add (prefix_len test ts)

pub prefix_len-false : (test : Symbol → Bool) (s : Symbol) (ts : List Symbol) → test s ≡ false → prefix_len test (s ∷ ts) ≡ 0
prefix_len-false test s ts h = ap (λ b. cond b (1 + prefix_len test ts) 0) h

module _ (test : Symbol → Bool) (l : Level) (step : (s : Symbol) → test s ≡ true → (a : Expr) (ts us : List Symbol) → Spells (at l a) ts us → Spells (at l (after_prefix s a)) (s ∷ ts) us) where
  one_prefix : (s : Symbol) (ts : List Symbol) (a : Expr) (us : List Symbol) → (Spells (at l a) (drop (prefix_len test ts) ts) us → Spells (at l (after_prefixes (take (prefix_len test ts) ts) a)) ts us)
      → (b : Bool) → test s ≡ b → Spells (at l a) (drop (prefix_len test (s ∷ ts)) (s ∷ ts)) us → Spells (at l (after_prefixes (take (prefix_len test (s ∷ ts)) (s ∷ ts)) a)) (s ∷ ts) us
  unfolding after_prefixes
  one_prefix s ts a us rec true h d =
      subst (λ k. Spells (at l a) (drop k (s ∷ ts)) us → Spells (at l (after_prefixes (take k (s ∷ ts)) a)) (s ∷ ts) us)
      (sym (prefix_len-true test s ts h)) (λ f. step s h (after_prefixes (take (prefix_len test ts) ts) a) ts us (rec f)) d
  one_prefix s ts a us rec false h d =
      subst (λ k. Spells (at l a) (drop k (s ∷ ts)) us → Spells (at l (after_prefixes (take k (s ∷ ts)) a)) (s ∷ ts) us)
      (sym (prefix_len-false test s ts h)) (λ f. f) d

  prefixes_found : (ts : List Symbol) (a : Expr) (us : List Symbol) → Spells (at l a) (drop (prefix_len test ts) ts) us → Spells (at l (after_prefixes (take (prefix_len test ts) ts) a)) ts us
  unfolding after_prefixes
  prefixes_found [] a us d = d
  prefixes_found (s ∷ ts) a us d = one_prefix s ts a us (prefixes_found ts a us) (test s) refl d

  prefixed_found : (operand : Reader Expr) → ((ts : List Symbol) → If (operand ts) (Reads l ts)) → (ts : List Symbol) → If (prefixed test operand ts) (Reads l ts)
  unfolding prefixed
  prefixed_found inner h ts =
      if_bind (inner (drop (prefix_len test ts) ts)) _ (Reads l (drop (prefix_len test ts) ts)) (Reads l ts) (h (drop (prefix_len test ts) ts))
      (λ a d. prefixes_found ts a.0 a.1 d)

not_found : (s : Symbol) → is_not s ≡ true → (a : Expr) (ts us : List Symbol) → Spells (at neg a) ts us → Spells (at neg (after_prefix s a)) (s ∷ ts) us
not_found (Key key.Not) h a ts us d = g.not d
not_found _ h a ts us d = absurd (false≢true h)

signed_found : (s : Symbol) → is_sign s ≡ true → (a : Expr) (ts us : List Symbol) → Spells (at unary a) ts us → Spells (at unary (after_prefix s a)) (s ∷ ts) us
signed_found (Sign mark.Minus) h a ts us d = g.signed refl d
signed_found (Sign mark.Plus) h a ts us d = g.signed refl d
signed_found _ h a ts us d = absurd (false≢true h)

-- [NOT]
negation_found_at : (ts : List Symbol) (o : Option (List Symbol)) → If o (λ us. ts ≡ Key key.Not ∷ us) → Spells (negation (negation_of ts o).0) ts (negation_of ts o).1
negation_found_at ts None h = g.plainly
negation_found_at ts (Some us) h = behind h g.negated

negation_found : (ts : List Symbol) → Spells (negation (negation_at ts).0) ts (negation_at ts).1
unfolding negation_at
negation_found ts = negation_found_at ts (after_key key.Not ts) (key_found key.Not ts)

is_null_found : (a : Expr) (ts us : List Symbol) → Spells (at sum a) ts (Key key.Is ∷ us) → If (r.is_null a us) (Reads pred ts)
unfolding r.is_null
is_null_found a ts us d =
    let n = negation_at us in
    if_bind (after_key key.Null n.1) _ (λ vs. n.1 ≡ Key key.Null ∷ vs) (Reads pred ts) (key_found key.Null n.1)
    (λ vs h. g.is_null d (along (negation_found us) h))

text_of_text : (s : Symbol) (content : List ℕ) → r.text_of s ≡ Some content → s ≡ Text content
text_of_text (Text t) content h = cc
text_of_text _ content h = absurd (cc)

like_found : (n : Bool) (a : Expr) (ts us vs : List Symbol) → Spells (at sum a) ts us → Spells (negation n) us (Key key.Like ∷ vs) → If (r.like n a vs) (Reads pred ts)
unfolding r.like
like_found n a ts us vs d m =
    if_bind (first r.text_of vs) _ _ (Reads pred ts) (first_found r.text_of vs)
    (λ x h. g.like d (along m (ap (λ ws. Key key.Like ∷ ws) (h.1 ∙ ap (λ s. s ∷ x.1) (text_of_text h.0 x.0 h.2)))))

qualified_found : (s : Symbol) (q : List ℕ) (ts : List Symbol) → name_of s ≡ Some q → If (r.qualified q ts) (Reads primary (s ∷ Sign mark.Dot ∷ ts))
unfolding r.qualified
qualified_found s q ts h =
    if_bind (first name_of ts) _ _ (Reads primary (s ∷ Sign mark.Dot ∷ ts)) (first_found name_of ts)
    (λ x f. behind (ap (λ us. s ∷ Sign mark.Dot ∷ us) f.1) (g.name_in h f.2))

-- one WHEN and THEN
abbrev pub AWhen : List Symbol → WhenText × List Symbol → Type 0
AWhen ts x = (c r : Expr) × (us : List Symbol) × (x.0 ≡ when_then c r) × Spells (at expr c) ts (Key key.Then ∷ us) × Spells (at expr r) us x.1

-- lists
end_found : {A : Type 0} (o : Option (List Symbol)) (x : A × List Symbol) (others : Reader (List A)) (P : List Symbol → Type 0) (Q : List A × List Symbol → Type 0)
    → If o P → Q (x.0 ∷ [], x.1) → ((us : List Symbol) → P us → If (others us) (λ xs. Q (x.0 ∷ xs.0, xs.1))) → If (list_end x others o) Q
end_found None x others P Q h last more = last
end_found (Some us) x others P Q h last more = if_bind (others us) _ (λ xs. Q (x.0 ∷ xs.0, xs.1)) Q (more us h) (λ xs q. q)

-- where nested expressions that are read are spelled
module _ (inner : Reader Expr) (inner_found : (ts : List Symbol) → If (inner ts) (Reads expr ts)) where
  exprs_within : (n : ℕ) (ts : List Symbol) → If (list_of inner (after_sign mark.Comma) n ts) (λ x. Spells (exprs x.0) ts x.1)
  unfolding list_of
  exprs_within zero ts = tt
  exprs_within (suc n) ts =
      if_bind (inner ts) _ (Reads expr ts) (λ x. Spells (exprs x.0) ts x.1) (inner_found ts)
      (λ a d. end_found (after_sign mark.Comma a.1) a (list_of inner (after_sign mark.Comma) n) (λ us. a.1 ≡ Sign mark.Comma ∷ us)
      (λ x. Spells (exprs x.0) ts x.1) (sign_found mark.Comma a.1) (g.last_expr d)
      (λ us h. if_weaker _ (λ x. Spells (exprs x.0) us x.1) _ (exprs_within n us) (λ xs f. g.more_exprs (along d h) f)))

  pub exprs_found : (ts : List Symbol) → If (r.exprs inner ts) (λ x. Spells (exprs x.0) ts x.1)
  unfolding r.exprs
  exprs_found ts = exprs_within (suc (length ts)) ts

  parens_found : (ts : List Symbol) → If (r.parens inner ts) (Reads primary (Sign mark.Open ∷ ts))
  unfolding r.parens
  parens_found ts =
      if_bind (inner ts) _ (Reads expr ts) (Reads primary (Sign mark.Open ∷ ts)) (inner_found ts) (λ a d.
      if_bind (after_sign mark.Close a.1) _ (λ us. a.1 ≡ Sign mark.Close ∷ us) (Reads primary (Sign mark.Open ∷ ts)) (sign_found mark.Close a.1) (λ us h.
      g.parens (along d h)))

  cast_found : (ts : List Symbol) → If (r.cast inner ts) (Reads primary (Key key.Cast ∷ ts))
  unfolding r.cast
  cast_found ts =
      let Q = Reads primary (Key key.Cast ∷ ts) in
      if_bind (after_sign mark.Open ts) _ (λ us. ts ≡ Sign mark.Open ∷ us) Q (sign_found mark.Open ts) (λ us h.
      if_bind (inner us) _ (Reads expr us) Q (inner_found us) (λ a d.
      if_bind (after_key key.As a.1) _ (λ vs. a.1 ≡ Key key.As ∷ vs) Q (key_found key.As a.1) (λ vs k.
      if_bind (first type_of vs) _ _ Q (first_found type_of vs) (λ t f.
      if_bind (after_sign mark.Close t.1) _ (λ ws. t.1 ≡ Sign mark.Close ∷ ws) Q (sign_found mark.Close t.1) (λ ws c.
      behind (ap (λ x. Key key.Cast ∷ x) h) (g.cast (along d (k ∙ ap (λ x. Key key.As ∷ x) (f.1 ∙ ap (λ x. f.0 ∷ x) c))) f.2))))))

  pub when_found : (ts : List Symbol) → If (r.when inner ts) (AWhen ts)
  unfolding r.when
  when_found ts =
      if_bind (inner ts) _ (Reads expr ts) (AWhen ts) (inner_found ts) (λ a d.
      if_bind (after_key key.Then a.1) _ (λ us. a.1 ≡ Key key.Then ∷ us) (AWhen ts) (key_found key.Then a.1) (λ us h.
      if_bind (inner us) _ (Reads expr us) (AWhen ts) (inner_found us) (λ b f.
      (a.0, b.0, us, refl, along d h, f))))

  last_found : (ts : List Symbol) (x : WhenText × List Symbol) → AWhen ts x → Spells (whens (x.0 ∷ [])) (Key key.When ∷ ts) x.1
  last_found ts x w = subst (λ y. Spells (whens (y ∷ [])) (Key key.When ∷ ts) x.1) (sym w.3) (g.last_when w.4 w.5)

  more_found : (ts : List Symbol) (x : WhenText × List Symbol) (ws : List WhenText) (us : List Symbol) → AWhen ts x → Spells (whens ws) x.1 us → Spells (whens (x.0 ∷ ws)) (Key key.When ∷ ts) us
  more_found ts x ws us w f = subst (λ y. Spells (whens (y ∷ ws)) (Key key.When ∷ ts) us) (sym w.3) (g.more_whens w.4 w.5 f)

  whens_within : (n : ℕ) (ts : List Symbol) → If (list_of (r.when inner) (after_key key.When) n ts) (λ x. Spells (whens x.0) (Key key.When ∷ ts) x.1)
  unfolding list_of
  whens_within zero ts = tt
  whens_within (suc n) ts =
      if_bind (r.when inner ts) _ (AWhen ts) (λ x. Spells (whens x.0) (Key key.When ∷ ts) x.1) (when_found ts)
      (λ a w. end_found (after_key key.When a.1) a (list_of (r.when inner) (after_key key.When) n) (λ us. a.1 ≡ Key key.When ∷ us)
      (λ x. Spells (whens x.0) (Key key.When ∷ ts) x.1) (key_found key.When a.1) (last_found ts a w)
      (λ us h. if_weaker _ (λ x. Spells (whens x.0) (Key key.When ∷ us) x.1) _ (whens_within n us) (λ xs f. more_found ts a xs.0 xs.1 w (behind h f))))

  whens_found : (ts : List Symbol) → If (r.whens inner ts) (λ x. Spells (whens x.0) ts x.1)
  unfolding r.whens
  whens_found ts =
      if_bind (after_key key.When ts) _ (λ us. ts ≡ Key key.When ∷ us) (λ x. Spells (whens x.0) ts x.1) (key_found key.When ts)
      (λ us h. if_weaker _ (λ x. Spells (whens x.0) (Key key.When ∷ us) x.1) _ (whens_within (length ts) us) (λ x f. behind h f))

  operand_found_at : (ts : List Symbol) (o : Option (List Symbol)) → If (r.operand_at inner ts o) (λ x. Spells (operand x.0) ts x.1)
  operand_found_at ts (Some us) = g.no_operand
  operand_found_at ts None = if_bind (inner ts) _ (Reads expr ts) _ (inner_found ts) (λ a d. g.an_operand d)

  case_operand_found : (ts : List Symbol) → If (r.operand inner ts) (λ x. Spells (operand x.0) ts x.1)
  unfolding r.operand
  case_operand_found ts = operand_found_at ts (after_key key.When ts)

  otherwise_found_at : (ts : List Symbol) (o : Option (List Symbol)) → If o (λ us. ts ≡ Key key.Else ∷ us) → If (r.otherwise_at inner ts o) (λ x. Spells (otherwise x.0) ts x.1)
  otherwise_found_at ts None h = g.no_else
  otherwise_found_at ts (Some us) h = if_bind (inner us) _ (Reads expr us) _ (inner_found us) (λ a d. behind h (g.an_else d))

  otherwise_found : (ts : List Symbol) → If (r.otherwise inner ts) (λ x. Spells (otherwise x.0) ts x.1)
  unfolding r.otherwise
  otherwise_found ts = otherwise_found_at ts (after_key key.Else ts) (key_found key.Else ts)

  case_found : (ts : List Symbol) → If (r.case inner ts) (Reads primary (Key key.Case ∷ ts))
  unfolding r.case
  case_found ts =
      let Q = Reads primary (Key key.Case ∷ ts) in
      if_bind (r.operand inner ts) _ (λ x. Spells (operand x.0) ts x.1) Q (case_operand_found ts) (λ x d.
      if_bind (r.whens inner x.1) _ (λ w. Spells (whens w.0) x.1 w.1) Q (whens_found x.1) (λ w f.
      if_bind (r.otherwise inner w.1) _ (λ y. Spells (otherwise y.0) w.1 y.1) Q (otherwise_found w.1) (λ y k.
      if_bind (after_key key.End y.1) _ (λ us. y.1 ≡ Key key.End ∷ us) Q (key_found key.End y.1) (λ us h.
      g.case d f (along k h)))))

  keyed_found : (k : Keyword) (ts : List Symbol) → If (r.keyed inner k ts) (Reads primary (Key k ∷ ts))
  keyed_found key.True ts = g.truth refl
  keyed_found key.False ts = g.truth refl
  keyed_found key.Null ts = g.null
  keyed_found key.Cast ts = cast_found ts
  keyed_found key.Case ts = case_found ts
  keyed_found _ ts = tt

  arguments_found_at : (ts : List Symbol) (o p : Option (List Symbol)) → If p (λ us. ts ≡ Sign mark.Star ∷ us) → If (r.arguments_at inner ts o p) (λ x. Spells (arguments x.0.0 x.0.1) ts x.1)
  arguments_found_at ts (Some us) p h = g.no_arguments
  arguments_found_at ts None (Some us) h = behind h g.star_argument
  arguments_found_at ts None None h = if_bind (r.exprs inner ts) _ (λ x. Spells (exprs x.0) ts x.1) _ (exprs_found ts) (λ x d. g.some_arguments d)

  arguments_found : (ts : List Symbol) → If (r.arguments inner ts) (λ x. Spells (arguments x.0.0 x.0.1) ts x.1)
  unfolding r.arguments
  arguments_found ts = arguments_found_at ts (after_sign mark.Close ts) (after_sign mark.Star ts) (sign_found mark.Star ts)

  call_found : (s : Symbol) (name : List ℕ) (ts : List Symbol) → name_of s ≡ Some name → If (r.call inner name ts) (Reads primary (s ∷ Sign mark.Open ∷ ts))
  unfolding r.call
  call_found s name ts n =
      let Q = Reads primary (s ∷ Sign mark.Open ∷ ts) in
      if_bind (r.arguments inner ts) _ (λ x. Spells (arguments x.0.0 x.0.1) ts x.1) Q (arguments_found ts) (λ x d.
      if_bind (after_sign mark.Close x.1) _ (λ us. x.1 ≡ Sign mark.Close ∷ us) Q (sign_found mark.Close x.1) (λ us h.
      g.call n (along d h)))

  named_found_at : (s : Symbol) (name : List ℕ) (ts : List Symbol) → name_of s ≡ Some name → (o p : Option (List Symbol))
      → If o (λ us. ts ≡ Sign mark.Open ∷ us) → If p (λ us. ts ≡ Sign mark.Dot ∷ us) → If (r.named_at inner name ts o p) (Reads primary (s ∷ ts))
  named_found_at s name ts n (Some us) p h k = if_weaker _ (Reads primary (s ∷ Sign mark.Open ∷ us)) _ (call_found s name us n) (λ x d. behind (ap (λ vs. s ∷ vs) h) d)
  named_found_at s name ts n None (Some us) h k = if_weaker _ (Reads primary (s ∷ Sign mark.Dot ∷ us)) _ (qualified_found s name us n) (λ x d. behind (ap (λ vs. s ∷ vs) k) d)
  named_found_at s name ts n None None h k = g.name n

  named_found : (s : Symbol) (name : List ℕ) (ts : List Symbol) → name_of s ≡ Some name → If (r.named inner name ts) (Reads primary (s ∷ ts))
  unfolding r.named
  named_found s name ts n = named_found_at s name ts n (after_sign mark.Open ts) (after_sign mark.Dot ts) (sign_found mark.Open ts) (sign_found mark.Dot ts)

  primary_found_at : (s : Symbol) (ts : List Symbol) → If (r.primary_at inner s ts) (Reads primary (s ∷ ts))
  primary_found_at (Key k) ts = keyed_found k ts
  primary_found_at (Word word) ts = named_found (Word word) word ts refl
  primary_found_at (Quoted name) ts = named_found (Quoted name) name ts refl
  primary_found_at (Text content) ts = g.text
  primary_found_at (Number n) ts = g.digits
  primary_found_at (Sign mark.Open) ts = parens_found ts
  primary_found_at (Sign _) ts = tt

  primary_found : (ts : List Symbol) → If (r.primary inner ts) (Reads primary ts)
  unfolding r.primary
  primary_found [] = tt
  primary_found (s ∷ ts) = primary_found_at s ts

  pub unary_found : (ts : List Symbol) → If (r.unary inner ts) (Reads unary ts)
  unfolding r.unary
  unary_found ts = prefixed_found is_sign unary signed_found (r.primary inner) (λ us. if_weaker _ (Reads primary us) _ (primary_found us) (λ x d. g.one_primary d)) ts

  pub product_found : (ts : List Symbol) → If (r.product inner ts) (Reads prod ts)
  unfolding r.product
  product_found ts = chain_found product_of prod unary (r.unary inner) unary_found (λ _ _ _ d. g.one_unary d) (λ _ _ _ _ _ _ _ d h f. g.multiplied d h f) ts

  pub sum_found : (ts : List Symbol) → If (r.sum inner ts) (Reads sum ts)
  unfolding r.sum
  sum_found ts = chain_found sum_of sum prod (r.product inner) product_found (λ _ _ _ d. g.one_prod d) (λ _ _ _ _ _ _ _ d h f. g.added d h f) ts

  between_found : (n : Bool) (a : Expr) (ts us vs : List Symbol) → Spells (at sum a) ts us → Spells (negation n) us (Key key.Between ∷ vs) → If (r.between inner n a vs) (Reads pred ts)
  unfolding r.between
  between_found n a ts us vs d m =
      if_bind (r.sum inner vs) _ (Reads sum vs) (Reads pred ts) (sum_found vs) (λ low f.
      if_bind (after_key key.And low.1) _ (λ ws. low.1 ≡ Key key.And ∷ ws) (Reads pred ts) (key_found key.And low.1) (λ ws h.
      if_bind (r.sum inner ws) _ (Reads sum ws) (Reads pred ts) (sum_found ws) (λ high k.
      g.between d m (along f h) k)))

  one_of_found : (n : Bool) (a : Expr) (ts us vs : List Symbol) → Spells (at sum a) ts us → Spells (negation n) us (Key key.In ∷ vs) → If (r.one_of inner n a vs) (Reads pred ts)
  unfolding r.one_of
  one_of_found n a ts us vs d m =
      if_bind (after_sign mark.Open vs) _ (λ ws. vs ≡ Sign mark.Open ∷ ws) (Reads pred ts) (sign_found mark.Open vs) (λ ws h.
      if_bind (r.exprs inner ws) _ (λ x. Spells (exprs x.0) ws x.1) (Reads pred ts) (exprs_found ws) (λ x f.
      if_bind (after_sign mark.Close x.1) _ (λ ys. x.1 ≡ Sign mark.Close ∷ ys) (Reads pred ts) (sign_found mark.Close x.1) (λ ys k.
      g.one_of d (along m (ap (λ y. Key key.In ∷ y) h)) (along f k))))

  ranged_found : (n : Bool) (a : Expr) (ts us vs : List Symbol) → Spells (at sum a) ts us → Spells (negation n) us vs → (n ≡ false → us ≡ vs) → If (r.ranged inner n a vs) (Reads pred ts)
  ranged_found n a ts us (Key key.Between ∷ vs) d m h = between_found n a ts us vs d m
  ranged_found n a ts us (Key key.In ∷ vs) d m h = one_of_found n a ts us vs d m
  ranged_found n a ts us (Key key.Like ∷ vs) d m h = like_found n a ts us vs d m
  ranged_found true a ts us vs d m h = tt
  ranged_found false a ts us vs d m h = g.one_sum (along d (h refl))

  compared_found : (a : Expr) (o : BinaryOp) (s : Symbol) (ts us : List Symbol) → Spells (at sum a) ts (s ∷ us) → comparison_of s ≡ Some o → If (r.compared inner a o us) (Reads pred ts)
  unfolding r.compared
  compared_found a o s ts us d h = if_bind (r.sum inner us) _ (Reads sum us) (Reads pred ts) (sum_found us) (λ b f. g.compared d h f)

  tested_found_at : (a : Expr) (ts us : List Symbol) → Spells (at sum a) ts us → (o : Option (BinaryOp × List Symbol)) (p : Option (List Symbol))
      → If o (λ x. (s : Symbol) × (us ≡ s ∷ x.1) × (comparison_of s ≡ Some x.0)) → If p (λ vs. us ≡ Key key.Is ∷ vs) → If (r.tested_at inner a us o p) (Reads pred ts)
  unfolding negation_at
  tested_found_at a ts us d (Some o) p h k = compared_found a o.0 h.0 ts o.1 (along d h.1) h.2
  tested_found_at a ts us d None (Some vs) h k = is_null_found a ts vs (along d k)
  tested_found_at a ts us d None None h k = ranged_found (negation_at us).0 a ts us (negation_at us).1 d (negation_found us) (plain us (after_key key.Not us))
    where
      plain : (us : List Symbol) (o : Option (List Symbol)) → (negation_of us o).0 ≡ false → us ≡ (negation_of us o).1
      plain us None h = refl
      plain us (Some vs) h = absurd (false≢true (sym h))

  tested_found : (a : Expr) (ts us : List Symbol) → Spells (at sum a) ts us → If (r.tested inner a us) (Reads pred ts)
  unfolding r.tested
  tested_found a ts us d = tested_found_at a ts us d (first comparison_of us) (after_key key.Is us) (first_found comparison_of us) (key_found key.Is us)

  predicate_found : (ts : List Symbol) → If (r.predicate inner ts) (Reads pred ts)
  unfolding r.predicate
  predicate_found ts = if_bind (r.sum inner ts) _ (Reads sum ts) (Reads pred ts) (sum_found ts) (λ a d. tested_found a.0 ts a.1 d)

  pub negations_found : (ts : List Symbol) → If (r.negations inner ts) (Reads neg ts)
  unfolding r.negations
  negations_found ts = prefixed_found is_not neg not_found (r.predicate inner) (λ us. if_weaker _ (Reads pred us) _ (predicate_found us) (λ x d. g.one_pred d)) ts

  pub conjunction_found : (ts : List Symbol) → If (r.conjunction inner ts) (Reads conj ts)
  unfolding r.conjunction
  conjunction_found ts = chain_found and_of conj neg (r.negations inner) negations_found (λ _ _ _ d. g.one_neg d) (λ _ _ _ _ _ _ _ d h f. g.and d h f) ts

  pub disjunction_found : (ts : List Symbol) → If (r.disjunction inner ts) (Reads expr ts)
  unfolding r.disjunction
  disjunction_found ts = chain_found or_of expr conj (r.conjunction inner) conjunction_found (λ _ _ _ d. g.one_conj d) (λ _ _ _ _ _ _ _ d h f. g.or d h f) ts

pub within_found : (n : ℕ) (ts : List Symbol) → If (r.within n ts) (Reads expr ts)
unfolding r.within
within_found zero ts = tt
within_found (suc n) ts = disjunction_found (r.within n) (within_found n) ts
