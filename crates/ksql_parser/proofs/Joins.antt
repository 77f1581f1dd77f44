-- What is spelled as a source or a join is read.
use Rattle.std.proofs.Common.{◌≡◌, ℕ, ◌≤◌, Bool, true, false, List, [], ◌∷◌, Option, Some, None, option_map, Result, Ok, Err, refl, sym, ap, ◌∙◌, subst, arith}
use Rattle.std.specs.Borrow.{Bor}
use Rattle.std.proofs.lemmas.Bool.{false≢true}
use Rattle.std.proofs.lemmas.Option.{none-some, some_pair_parts}
use Rattle.ksql_lexer.specs.declared.token.Mark.TheVariants as mark
use Rattle.ksql_grammar.specs.declared.symbol.Keyword.{Keyword}
use Rattle.ksql_grammar.specs.declared.symbol.Keyword.TheVariants as key
use Rattle.ksql_grammar.specs.declared.symbol.Symbol.{Symbol}
use Rattle.ksql_grammar.specs.declared.symbol.Symbol.TheVariants.{Key, Word, Quoted, Text, Number, Sign}
use Rattle.expression_trees.specs.declared.tree.Expr.{Expr}
use Rattle.statement_trees.specs.declared.tree.Source.{Source}
use Rattle.statement_trees.specs.declared.tree.JoinText.{JoinText}
use Rattle.statement_trees.specs.declared.tree.JoinWord.{JoinWord}
use Rattle.statement_trees.specs.declared.tree.JoinWord.TheVariants as how
use Rattle.ksql_grammar.specs.Symbols.{name_of}
use Rattle.ksql_parser.specs.Grammar as g
use Rattle.ksql_grammar.specs.Grammar.{Spells as SpellsExpr, at, expr}
use Rattle.ksql_parser.specs.Grammar.{Spells}
use Rattle.ksql_grammar.specs.Reading.{EndsExpr}
use Rattle.ksql_grammar.specs.Expressions.{after_key, first}
use Rattle.expression_trees.specs.Options.{◌>>=◌}
use Rattle.ksql_grammar.proofs.Ends.{Rest, rest_weaker}
use Rattle.ksql_grammar.proofs.Only.{key_out, first_out}
use Rattle.ksql_parser.specs.Queries.{after_join}
use Rattle.ksql_parser.specs.Statements as r
use Rattle.ksql_parser.specs.Statements.{place_of, BeginsFrom}
use Rattle.ksql_parser.proofs.Steps.{behind, along, bind_is}
use Rattle.ksql_grammar.proofs.Steps.{if_some, key_found, key_there, first_there}
use Rattle.ksql_parser.proofs.Only.{clause_ends, both}

-- whether an alias begins there
abbrev starts_alias : Symbol → Bool
starts_alias (Word _) = true
starts_alias (Quoted _) = true
starts_alias (Key key.As) = true
starts_alias _ = false

abbrev pub StartsNoAlias : Symbol → Type 0
StartsNoAlias s = starts_alias s ≡ false

no_name : (s : Symbol) → StartsNoAlias s → name_of s ≡ None
no_name (Word w) h = absurd (false≢true (sym h))
no_name (Quoted w) h = absurd (false≢true (sym h))
no_name _ h = refl

as_out : (ts : List Symbol) → Rest StartsNoAlias ts → r.after_as ts ≡ None
unfolding r.after_as
as_out ts h = ap (λ o. o >>= first name_of) (key_out key.As StartsNoAlias ts h (λ e. false≢true (sym e)))

name_out : (ts : List Symbol) → Rest StartsNoAlias ts → first name_of ts ≡ None
name_out ts h = first_out name_of ts (rest_weaker StartsNoAlias (λ s. name_of s ≡ None) no_name ts h)

as_there : (n : Symbol) (name : List ℕ) (ts : List Symbol) → name_of n ≡ Some name → r.after_as (Key key.As ∷ n ∷ ts) ≡ Some (name, ts)
unfolding r.after_as
as_there n name ts h = bind_is (first name_of) (key_there key.As (n ∷ ts)) (first_there name_of n ts name h)

as_missing : (n : Symbol) (name : List ℕ) (ts : List Symbol) → name_of n ≡ Some name → r.after_as (n ∷ ts) ≡ None
unfolding r.after_as
as_missing n name ts h = ap (λ o. o >>= first name_of) (key_out key.As (λ s. name_of s ≡ Some name) (n ∷ ts) h (λ e. none-some name e))

pub alias_only : (a : Option (List ℕ)) (ts rest : List Symbol) → Spells (g.alias a) ts rest → Rest StartsNoAlias rest → r.alias ts ≡ both a rest
unfolding r.alias
alias_only a ts rest g.no_alias h = ap (λ o. r.alias_at ts o (first name_of ts)) (as_out ts h) ∙ ap (r.alias_at ts None) (name_out ts h)
alias_only a ts rest (g.plain_alias {n} {name} e) h =
    ap (λ o. r.alias_at ts o (first name_of ts)) (as_missing n name rest e) ∙ ap (r.alias_at ts None) (first_there name_of n rest name e)
alias_only a ts rest (g.as_alias {n} {name} e) h = ap (λ o. r.alias_at ts o (first name_of ts)) (as_there n name rest e)

pub source_only : (s : Source) (ts rest : List Symbol) → Spells (g.source s) ts rest → Rest StartsNoAlias rest → r.source ts ≡ both s rest
unfolding r.source
source_only s ts rest (g.a_source {n} {name} {a} {ts = us} e d) h =
    bind_is (λ m. r.alias m.1 >>= λ b. let t : Source = record { name = m.0; alias = b.0 } in Some (t, b.1)) (first_there name_of n us name e)
    (bind_is (λ b. let t : Source = record { name = name; alias = b.0 } in Some (t, b.1)) (alias_only a us rest d h) refl)

-- where a clause begins, no alias does
place_no_alias : (s : Symbol) → 1 ≤ place_of s → StartsNoAlias s
place_no_alias (Word _) h = absurd (omega (arith, h))
place_no_alias (Quoted _) h = absurd (omega (arith, h))
place_no_alias (Text _) h = refl
place_no_alias (Number _) h = refl
place_no_alias (Sign _) h = refl
place_no_alias (Key key.As) h = absurd (omega (arith, h))
place_no_alias (Key _) h = refl

pub clause_no_alias : (ts : List Symbol) → BeginsFrom 1 ts → Rest StartsNoAlias ts
clause_no_alias [] h = tt
clause_no_alias (s ∷ ss) h = place_no_alias s h

pub join_words_only : (k : JoinWord) (ts rest : List Symbol) → Spells (g.join_words k) ts rest → r.join_words ts ≡ both k rest
unfolding r.join_words
join_words_only k ts rest g.join = refl
join_words_only k ts rest g.inner_join = refl
join_words_only k ts rest g.left_join = refl
join_words_only k ts rest g.left_outer_join = refl
join_words_only k ts rest g.full_join = refl
join_words_only k ts rest g.full_outer_join = refl

-- a join isn't a later clause
pub join_early : (k : JoinWord) (ts rest : List Symbol) → Spells (g.join_words k) ts rest → BeginsFrom 2 ts → ⊥
join_early k ts rest g.join h = omega (arith, h)
join_early k ts rest g.inner_join h = omega (arith, h)
join_early k ts rest g.left_join h = omega (arith, h)
join_early k ts rest g.left_outer_join h = omega (arith, h)
join_early k ts rest g.full_join h = omega (arith, h)
join_early k ts rest g.full_outer_join h = omega (arith, h)

pub join_absent : (j : Option JoinText) (ts rest : List Symbol) → r.join_words ts ≡ None → Spells (g.joined j) ts rest → both j rest ≡ both None ts
join_absent j ts rest h g.no_join = refl
join_absent j ts rest h (g.a_join {k} {us} w s e) = absurd (none-some (k, us) (sym h ∙ join_words_only k ts us w))

abbrev pub joined_with : Source → Expr → JoinWord → Option JoinText
joined_with s a k = Some (record { kind = k; source = s; on = a })

-- what follows the words of a join
abbrev pub HasJoin : JoinWord → Option JoinText → List Symbol → List Symbol → Type 0
HasJoin k j us rest = (s : Source) × (a : Expr) × (vs : List Symbol) × (j ≡ joined_with s a k)
    × (r.source us ≡ both s (Key key.On ∷ vs)) × SpellsExpr (at expr a) vs rest × EndsExpr rest

pub join_there : (j : Option JoinText) (ts rest : List Symbol) (k : JoinWord) (us : List Symbol) → Spells (g.join_words k) ts us → BeginsFrom 2 rest → Spells (g.joined j) ts rest → HasJoin k j us rest
join_there j ts rest k us w b g.no_join = absurd (join_early k ts us w b)
join_there j ts rest k us w b (g.a_join {k = l} {s} {a} {us = vs} {vs = ws} x d e) =
    let same = some_pair_parts l k vs us (sym (join_words_only l ts vs x) ∙ join_words_only k ts us w) in
    (s, a, ws, ap (joined_with s a) same.0, ap r.source (sym same.1) ∙ source_only s vs (Key key.On ∷ ws) d refl, e, clause_ends 1 rest b)

pub join_read : (j : Option JoinText) (k : JoinWord) (s t : Source) (a b : Expr) (us vs : List Symbol) → j ≡ joined_with s a k → s ≡ t → a ≡ b → us ≡ vs → both j us ≡ both (joined_with t b k) vs
join_read j k s t a b us vs h x y z = ap (λ o. both o us) h ∙ (λ i. both (joined_with (x i) (y i) k) (z i))

-- by its first word
left_words : (ts : List Symbol) → r.join_words (Key key.Left ∷ ts) ≡ option_map (λ us. (how.Left, us)) (after_join key.Outer ts)
unfolding r.join_words after_join after_key
left_words [] = refl
left_words (Key key.Join ∷ ts) = refl
left_words (Key key.Outer ∷ []) = refl
left_words (Key key.Outer ∷ Key key.Join ∷ ts) = refl
left_words (Key key.Outer ∷ _ ∷ ts) = refl
left_words (_ ∷ ts) = refl

full_words : (ts : List Symbol) → r.join_words (Key key.Full ∷ ts) ≡ option_map (λ us. (how.Full, us)) (after_join key.Outer ts)
unfolding r.join_words after_join after_key
full_words [] = refl
full_words (Key key.Join ∷ ts) = refl
full_words (Key key.Outer ∷ []) = refl
full_words (Key key.Outer ∷ Key key.Join ∷ ts) = refl
full_words (Key key.Outer ∷ _ ∷ ts) = refl
full_words (_ ∷ ts) = refl

pub inner_words : (ts : List Symbol) → after_key key.Left ts ≡ None → after_key key.Full ts ≡ None → r.join_words ts ≡ option_map (λ us. (how.Inner, us)) (after_join key.Inner ts)
unfolding r.join_words after_join after_key
inner_words [] h k = refl
inner_words (Key key.Left ∷ ts) h k = absurd (none-some ts (sym h))
inner_words (Key key.Full ∷ ts) h k = absurd (none-some ts (sym k))
inner_words (Key key.Join ∷ ts) h k = refl
inner_words (Key key.Inner ∷ []) h k = refl
inner_words (Key key.Inner ∷ Key key.Join ∷ ts) h k = refl
inner_words (Key key.Inner ∷ _ ∷ ts) h k = refl
inner_words (_ ∷ ts) h k = refl

-- what is read of the words of a join, by what follows the first word
module _ (k : JoinWord) (ts : List Symbol) (o : Option (List Symbol)) (h : r.join_words ts ≡ option_map (λ us. (k, us)) o) where
  pub words_none : None ≡ o → None ≡ r.join_words ts
  words_none e = sym (h ∙ ap (option_map (λ us. (k, us))) (sym e))

  pub words_some : (us : List Symbol) → Some us ≡ o → both k us ≡ r.join_words ts
  words_some us e = sym (h ∙ ap (option_map (λ us. (k, us))) (sym e))

pub left_at : (ts us : List Symbol) → Some us ≡ after_key key.Left ts → r.join_words ts ≡ option_map (λ us. (how.Left, us)) (after_join key.Outer us)
left_at ts us h = ap r.join_words (if_some (after_key key.Left ts) (λ us. ts ≡ Key key.Left ∷ us) us (key_found key.Left ts) (sym h)) ∙ left_words us

pub full_at : (ts us : List Symbol) → Some us ≡ after_key key.Full ts → r.join_words ts ≡ option_map (λ us. (how.Full, us)) (after_join key.Outer us)
full_at ts us h = ap r.join_words (if_some (after_key key.Full ts) (λ us. ts ≡ Key key.Full ∷ us) us (key_found key.Full ts) (sym h)) ∙ full_words us
