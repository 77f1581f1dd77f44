-- What is spelled without an expression is what is read: columns, properties, names with aliases and the words of a
-- join.
use Rattle.std.proofs.Common.{◌≡◌, ℕ, zero, suc, ◌≤◌, Bool, true, false, List, [], ◌∷◌, length, Option, Some, None, codes, refl, sym, ap, ap₂, ◌∙◌, subst, arith}
use Rattle.std.proofs.lemmas.Bool.{false≢true}
use Rattle.std.proofs.lemmas.Option.{none-some}
use Rattle.ksql_types.specs.declared.value.SqlType.{SqlType}
use Rattle.ksql_lexer.specs.declared.token.Mark.TheVariants as mark
use Rattle.ksql_grammar.specs.declared.symbol.Keyword.TheVariants as key
use Rattle.ksql_grammar.specs.declared.symbol.Symbol.{Symbol}
use Rattle.ksql_grammar.specs.declared.symbol.Symbol.TheVariants.{Key, Word, Quoted, Text, Number, Sign}
use Rattle.statement_trees.specs.declared.tree.ColumnText.{ColumnText}
use Rattle.statement_trees.specs.declared.tree.KeyMark.{KeyMark}
use Rattle.statement_trees.specs.declared.tree.Property.{Property}
use Rattle.statement_trees.specs.declared.tree.Source.{Source}
use Rattle.statement_trees.specs.declared.tree.JoinWord.{JoinWord}
use Rattle.ksql_grammar.specs.Symbols.{name_of, type_of}
use Rattle.ksql_parser.specs.Grammar as g
use Rattle.ksql_parser.specs.Grammar.{Spells}
use Rattle.ksql_grammar.specs.Expressions.{Reader, after_sign, first, list_end, list_of}
use Rattle.expression_trees.specs.Options.{◌>>=◌}
use Rattle.ksql_grammar.proofs.Ends.{Rest, rest_weaker}
use Rattle.ksql_grammar.proofs.Only.{key_out, sign_out, first_out}
use Rattle.ksql_parser.specs.Statements as r
use Rattle.ksql_parser.proofs.Steps.{bind_is, word_found, word_there}
use Rattle.ksql_grammar.proofs.Steps.{If, key_there, sign_there, first_there}

-- ---- words

if_none : {A : Type 0} (o : Option A) (P : A → Type 0) → If o P → ((x : A) → P x → ⊥) → o ≡ None
if_none None P h k = refl
if_none (Some x) P h k = absurd (k x h)

word_out : (w : List ℕ) (P : Symbol → Type 0) (ts : List Symbol) → Rest P ts → (P (Word w) → ⊥) → r.after_word w ts ≡ None
word_out w P ts h out = if_none (r.after_word w ts) (λ us. ts ≡ Word w ∷ us) (word_found w ts) (λ us same. out (subst (Rest P) same h))

pub word_at : (w : List ℕ) (s : Symbol) (ts : List Symbol) → s ≡ Word w → r.after_word w (s ∷ ts) ≡ Some ts
word_at w s ts h = ap (λ x. r.after_word w (x ∷ ts)) h ∙ word_there w ts

pub words_at : (v w : List ℕ) (s t : Symbol) (ts : List Symbol) → s ≡ Word v → t ≡ Word w → r.after_words v w (s ∷ t ∷ ts) ≡ Some ts
unfolding r.after_words
words_at v w s t ts h k = bind_is (r.after_word w) (word_at v s (t ∷ ts) h) (word_at w t ts k)

-- ---- lists

module _ {A : Type 0} (item : Reader A) (more : List Symbol → Option (List Symbol)) (n : ℕ) where
  pub list_last : (x : A) (ts us : List Symbol) → item ts ≡ Some (x, us) → more us ≡ None → list_of item more (suc n) ts ≡ Some (x ∷ [], us)
  unfolding list_of
  list_last x ts us h k = bind_is _ h (ap (list_end (x, us) (list_of item more n)) k)

  pub list_more : (x : A) (xs : List A) (ts us vs ws : List Symbol) → item ts ≡ Some (x, us) → more us ≡ Some vs
      → list_of item more n vs ≡ Some (xs, ws) → list_of item more (suc n) ts ≡ Some (x ∷ xs, ws)
  unfolding list_of
  list_more x xs ts us vs ws h k f = bind_is _ h (ap (list_end (x, us) (list_of item more n)) k ∙ bind_is _ f refl)

-- ---- columns

abbrev is_word : Symbol → Bool
is_word (Word w) = true
is_word _ = false

abbrev pub NoWord : Symbol → Type 0
NoWord s = is_word s ≡ false

no_word : (w : List ℕ) (ts : List Symbol) → Rest NoWord ts → r.after_word w ts ≡ None
no_word w ts h = word_out w NoWord ts h (λ p. false≢true (sym p))

primary_no_key : (ts : List Symbol) → r.after_word (codes "KEY") (Word (codes "PRIMARY") ∷ ts) ≡ None
unfolding r.after_word
primary_no_key ts = refl

key_mark_read : {m : KeyMark} {ts us : List Symbol} → Spells (g.key_mark m) ts us → Rest NoWord us → r.key_mark ts ≡ (m, us)
unfolding r.key_mark r.after_words
key_mark_read (g.no_key {ts}) h =
    ap₂ (r.key_mark_at ts) (no_word (codes "KEY") ts h) (ap (λ o. o >>= r.after_word (codes "KEY")) (no_word (codes "PRIMARY") ts h))
key_mark_read (g.key_word {k} {ts} e) h =
    ap (λ o. r.key_mark_at (k ∷ ts) o (r.after_words (codes "PRIMARY") (codes "KEY") (k ∷ ts))) (word_at (codes "KEY") k ts e)
key_mark_read (g.primary_key {p} {k} {ts} e f) h =
    ap₂ (r.key_mark_at (p ∷ k ∷ ts)) (ap (λ x. r.after_word (codes "KEY") (x ∷ k ∷ ts)) e ∙ primary_no_key (k ∷ ts)) (words_at (codes "PRIMARY") (codes "KEY") p k ts e f)

abbrev column_of : List ℕ → SqlType → KeyMark → ColumnText
column_of name ty m = record { name = name; ty = ty; mark = m }

column_read : {c : ColumnText} {ts us : List Symbol} → Spells (g.column c) ts us → Rest NoWord us → r.column ts ≡ Some (c, us)
unfolding r.column
column_read (g.a_column {n} {t} {name} {ty} {m} {ts} {us} h k d) ends =
    bind_is _ (first_there name_of n (t ∷ ts) name h)
    (bind_is _ (first_there type_of t ts ty k)
    (ap (λ x. Some (column_of name ty x.0, x.1)) (key_mark_read d ends)))

-- what ends a list in parentheses
abbrev pub IsClose : Symbol → Type 0
IsClose s = s ≡ Sign mark.Close

close_no_word : (s : Symbol) → IsClose s → NoWord s
close_no_word s h = ap is_word h

close_no_comma : (ts : List Symbol) → Rest IsClose ts → after_sign mark.Comma ts ≡ None
close_no_comma ts h = sign_out mark.Comma IsClose ts h (λ p. cc)

pub columns_read : {cs : List ColumnText} {ts us : List Symbol} → Spells (g.columns cs) ts us → Rest IsClose us → (n : ℕ) → length cs ≤ n
    → list_of r.column (after_sign mark.Comma) n ts ≡ Some (cs, us)
columns_read (g.last_column d) ends zero le = absurd (omega arith)
columns_read (g.last_column {c} {ts} {us} d) ends (suc n) le =
    list_last r.column (after_sign mark.Comma) n c ts us (column_read d (rest_weaker IsClose NoWord close_no_word us ends)) (close_no_comma us ends)
columns_read (g.more_columns d f) ends zero le = absurd (omega arith)
columns_read (g.more_columns {c} {cs} {ts} {us} {vs} d f) ends (suc n) le =
    list_more r.column (after_sign mark.Comma) n c cs ts (Sign mark.Comma ∷ us) us vs (column_read d refl) (sign_there mark.Comma us) (columns_read f ends n (omega arith))

-- ---- properties

property_read : {p : Property} {ts us : List Symbol} → Spells (g.prop p) ts us → r.property ts ≡ Some (p, us)
unfolding r.property r.property_value
property_read (g.text_prop {n} {name} {content} {ts} h) =
    bind_is _ (first_there name_of n (Sign mark.Equal ∷ Text content ∷ ts) name h) (bind_is _ (sign_there mark.Equal (Text content ∷ ts)) refl)
property_read (g.digits_prop {n} {name} {number} {ts} h) =
    bind_is _ (first_there name_of n (Sign mark.Equal ∷ Number number ∷ ts) name h) (bind_is _ (sign_there mark.Equal (Number number ∷ ts)) refl)

listed_read : {ps : List Property} {ts us : List Symbol} → Spells (g.prop_list ps) ts us → Rest IsClose us → (n : ℕ) → length ps ≤ n
    → list_of r.property (after_sign mark.Comma) n ts ≡ Some (ps, us)
listed_read (g.last_prop d) ends zero le = absurd (omega arith)
listed_read (g.last_prop {p} {ts} {us} d) ends (suc n) le =
    list_last r.property (after_sign mark.Comma) n p ts us (property_read d) (close_no_comma us ends)
listed_read (g.more_props d f) ends zero le = absurd (omega arith)
listed_read (g.more_props {p} {ps} {ts} {us} {vs} d f) ends (suc n) le =
    list_more r.property (after_sign mark.Comma) n p ps ts (Sign mark.Comma ∷ us) us vs (property_read d) (sign_there mark.Comma us) (listed_read f ends n (omega arith))

-- "(" prop {"," prop} ")"; the number bounds how many
pub props : ℕ → Reader (List Property)
props n ts = do
  us ← after_sign mark.Open ts
  ps ← list_of r.property (after_sign mark.Comma) n us
  vs ← after_sign mark.Close ps.1
  Some (ps.0, vs)

pub props_read : {ps : List Property} {ts us : List Symbol} → Spells (g.props ps) ts us → (n : ℕ) → length ps ≤ n → props n ts ≡ Some (ps, us)
unfolding props
props_read (g.all_props {ps} {ts} {us} d) n le =
    bind_is _ (sign_there mark.Open ts) (bind_is _ (listed_read d refl n le) (bind_is _ (sign_there mark.Close us) refl))

-- ---- names with aliases

abbrev pub begins_alias : Symbol → Bool
begins_alias (Key key.As) = true
begins_alias (Word w) = true
begins_alias (Quoted w) = true
begins_alias _ = false

abbrev pub NoAlias : Symbol → Type 0
NoAlias s = begins_alias s ≡ false

no_alias_no_name : (s : Symbol) → NoAlias s → name_of s ≡ None
no_alias_no_name (Word w) h = absurd (false≢true (sym h))
no_alias_no_name (Quoted w) h = absurd (false≢true (sym h))
no_alias_no_name _ h = refl

pub alias_read : {a : Option (List ℕ)} {ts us : List Symbol} → Spells (g.alias a) ts us → Rest NoAlias us → r.alias ts ≡ Some (a, us)
unfolding r.alias r.after_as
alias_read (g.no_alias {ts}) h =
    ap₂ (r.alias_at ts) (ap (λ o. o >>= first name_of) (key_out key.As NoAlias ts h (λ p. false≢true (sym p))))
    (first_out name_of ts (rest_weaker NoAlias (λ s. name_of s ≡ None) no_alias_no_name ts h))
alias_read (g.plain_alias {n} {name} {ts} e) h =
    ap₂ (r.alias_at (n ∷ ts)) (ap (λ o. o >>= first name_of) (key_out key.As (λ s. name_of s ≡ Some name) (n ∷ ts) e (none-some name)))
    (first_there name_of n ts name e)
alias_read (g.as_alias {n} {name} {ts} e) h =
    ap (λ o. r.alias_at (Key key.As ∷ n ∷ ts) o (first name_of (Key key.As ∷ n ∷ ts)))
    (bind_is (first name_of) (key_there key.As (n ∷ ts)) (first_there name_of n ts name e))

pub source_read : {s : Source} {ts us : List Symbol} → Spells (g.source s) ts us → Rest NoAlias us → r.source ts ≡ Some (s, us)
unfolding r.source
source_read (g.a_source {n} {name} {a} {ts} {us} h d) ends =
    bind_is _ (first_there name_of n ts name h) (bind_is _ (alias_read d ends) refl)

pub join_words_read : {k : JoinWord} {ts us : List Symbol} → Spells (g.join_words k) ts us → r.join_words ts ≡ Some (k, us)
unfolding r.join_words
join_words_read g.join = refl
join_words_read g.inner_join = refl
join_words_read g.left_join = refl
join_words_read g.left_outer_join = refl
join_words_read g.full_join = refl
join_words_read g.full_outer_join = refl
