-- Columns and properties: what is read is spelled, and what is spelled is read.
use Rattle.std.proofs.Common.{◌≡◌, ℕ, zero, suc, ◌<◌, ◌≤◌, List, ◌∷◌, length, Some, None, codes, refl, sym, ap, ◌∙◌, subst, arith}
use Rattle.ksql_lexer.specs.declared.token.Mark.{Mark}
use Rattle.ksql_lexer.specs.declared.token.Mark.TheVariants as mark
use Rattle.ksql_grammar.specs.declared.symbol.Symbol.{Symbol}
use Rattle.ksql_grammar.specs.declared.symbol.Symbol.TheVariants.{Word, Text, Number, Sign}
use Rattle.statement_trees.specs.declared.tree.ColumnText.{ColumnText}
use Rattle.statement_trees.specs.declared.tree.KeyMark.{KeyMark}
use Rattle.statement_trees.specs.declared.tree.KeyMark.TheVariants as keyed
use Rattle.statement_trees.specs.declared.tree.Property.{Property}
use Rattle.ksql_grammar.specs.Symbols.{name_of, type_of}
use Rattle.ksql_parser.specs.Grammar as g
use Rattle.ksql_parser.specs.Grammar.{Spells}
use Rattle.ksql_grammar.specs.Expressions.{after_sign, first, list_of}
use Rattle.ksql_grammar.proofs.Chains.{then, TakesOne}
use Rattle.ksql_parser.specs.Statements as r
use Rattle.ksql_parser.proofs.Steps.{word_there}
use Rattle.ksql_grammar.proofs.Steps.{If, if_some, sign_there, first_there}
use Rattle.ksql_parser.proofs.Found.{column_found, property_found}
use Rattle.ksql_parser.proofs.Lists.{list_found, last_only, more_only}

-- a sign comes first
abbrev pub Signed : Mark → List Symbol → Type 0
Signed m ts = (us : List Symbol) × (ts ≡ Sign m ∷ us)

mark_takes : {m : KeyMark} {ts us : List Symbol} → Spells (g.key_mark m) ts us → length us ≤ length ts
mark_takes g.no_key = omega arith
mark_takes (g.key_word h) = omega arith
mark_takes (g.primary_key h k) = omega arith

column_fewer : {c : ColumnText} {ts us : List Symbol} → Spells (g.column c) ts us → length us < length ts
column_fewer (g.a_column n t d) = let fewer = mark_takes d in omega arith

property_fewer : {p : Property} {ts us : List Symbol} → Spells (g.prop p) ts us → length us < length ts
property_fewer (g.text_prop n) = omega arith
property_fewer (g.digits_prop n) = omega arith

pub column_takes : TakesOne r.column
column_takes ts x h = column_fewer (if_some (r.column ts) (λ x. Spells (g.column x.0) ts x.1) x (column_found ts) h)

pub property_takes : TakesOne r.property
property_takes ts x h = property_fewer (if_some (r.property ts) (λ x. Spells (g.prop x.0) ts x.1) x (property_found ts) h)

pub columns_found : (n : ℕ) (ts : List Symbol) → If (list_of r.column (after_sign mark.Comma) n ts) (λ x. Spells (g.columns x.0) ts x.1)
columns_found n ts = list_found r.column g.column g.columns column_found (λ x ts us d. g.last_column d) (λ x xs ts us vs d f. g.more_columns d f) n ts

pub properties_found : (n : ℕ) (ts : List Symbol) → If (list_of r.property (after_sign mark.Comma) n ts) (λ x. Spells (g.prop_list x.0) ts x.1)
properties_found n ts = list_found r.property g.prop g.prop_list property_found (λ x ts us d. g.last_prop d) (λ x xs ts us vs d f. g.more_props d f) n ts

-- before a sign
no_key_only : (m : Mark) (ts : List Symbol) → Signed m ts → r.key_mark ts ≡ (keyed.Plain, ts)
unfolding r.key_mark r.after_word r.after_words
no_key_only m ts e = subst (λ us. r.key_mark us ≡ (keyed.Plain, us)) (sym e.1) refl

key_only : (ts : List Symbol) → r.key_mark (Word (codes "KEY") ∷ ts) ≡ (keyed.Key, ts)
unfolding r.key_mark
key_only ts =
    ap (λ o. r.key_mark_at (Word (codes "KEY") ∷ ts) o (r.after_words (codes "PRIMARY") (codes "KEY") (Word (codes "KEY") ∷ ts))) (word_there (codes "KEY") ts)

primary_words : (ts : List Symbol) → r.after_words (codes "PRIMARY") (codes "KEY") (Word (codes "PRIMARY") ∷ Word (codes "KEY") ∷ ts) ≡ Some ts
unfolding r.after_words
primary_words ts =
    then (r.after_word (codes "PRIMARY") (Word (codes "PRIMARY") ∷ Word (codes "KEY") ∷ ts)) _ (Word (codes "KEY") ∷ ts) _ (word_there (codes "PRIMARY") (Word (codes "KEY") ∷ ts)) (word_there (codes "KEY") ts)

no_key_word : (ts : List Symbol) → r.after_word (codes "KEY") (Word (codes "PRIMARY") ∷ ts) ≡ None
unfolding r.after_word
no_key_word ts = refl

primary_key_only : (ts : List Symbol) → r.key_mark (Word (codes "PRIMARY") ∷ Word (codes "KEY") ∷ ts) ≡ (keyed.PrimaryKey, ts)
unfolding r.key_mark
primary_key_only ts =
    λ i. r.key_mark_at (Word (codes "PRIMARY") ∷ Word (codes "KEY") ∷ ts) (no_key_word (Word (codes "KEY") ∷ ts) i) (primary_words ts i)

key_mark_only : (k : KeyMark) (m : Mark) (ts us : List Symbol) → Signed m us → Spells (g.key_mark k) ts us → r.key_mark ts ≡ (k, us)
key_mark_only k m ts us e g.no_key = no_key_only m ts e
key_mark_only k m ts us e (g.key_word h) = ap (λ x. r.key_mark (x ∷ us)) h ∙ key_only us
key_mark_only k m ts us e (g.primary_key h l) = (λ i. r.key_mark (h i ∷ l i ∷ us)) ∙ primary_key_only us

column_only : (c : ColumnText) (m : Mark) (ts us : List Symbol) → Signed m us → Spells (g.column c) ts us → r.column ts ≡ Some (c, us)
unfolding r.column
column_only c m ts us e (g.a_column {n = n} {t = t} {name = name} {ty = ty} {m = marked} {ts = vs} h k d) =
    then (first name_of (n ∷ t ∷ vs)) _ (name, t ∷ vs) _ (first_there name_of n (t ∷ vs) name h)
    (then (first type_of (t ∷ vs)) _ (ty, vs) _ (first_there type_of t vs ty k)
    (ap (λ x. let c : ColumnText = record { name = name; ty = ty; mark = x.0 } in Some (c, x.1)) (key_mark_only marked m vs us e d)))

property_only : (p : Property) (ts us : List Symbol) → Spells (g.prop p) ts us → r.property ts ≡ Some (p, us)
unfolding r.property r.property_value
property_only p ts us (g.text_prop {n = n} {name = name} {content = content} h) =
    then (first name_of (n ∷ Sign mark.Equal ∷ Text content ∷ us)) _ (name, Sign mark.Equal ∷ Text content ∷ us) _ (first_there name_of n (Sign mark.Equal ∷ Text content ∷ us) name h)
    (then (after_sign mark.Equal (Sign mark.Equal ∷ Text content ∷ us)) _ (Text content ∷ us) _ (sign_there mark.Equal (Text content ∷ us)) refl)
property_only p ts us (g.digits_prop {n = n} {name = name} {number = number} h) =
    then (first name_of (n ∷ Sign mark.Equal ∷ Number number ∷ us)) _ (name, Sign mark.Equal ∷ Number number ∷ us) _ (first_there name_of n (Sign mark.Equal ∷ Number number ∷ us) name h)
    (then (after_sign mark.Equal (Sign mark.Equal ∷ Number number ∷ us)) _ (Number number ∷ us) _ (sign_there mark.Equal (Number number ∷ us)) refl)

-- before `)` no comma stands
no_comma : (us : List Symbol) → Signed mark.Close us → after_sign mark.Comma us ≡ None
unfolding after_sign
no_comma us e = subst (λ us. after_sign mark.Comma us ≡ None) (sym e.1) refl

pub columns_only : (cs : List ColumnText) (ts us : List Symbol) (n : ℕ) → length ts < n → Signed mark.Close us → Spells (g.columns cs) ts us
    → list_of r.column (after_sign mark.Comma) n ts ≡ Some (cs, us)
columns_only cs ts us zero h e d = absurd (omega arith)
columns_only cs ts us (suc n) h e (g.last_column {c = c} d) = last_only r.column c ts us n (column_only c mark.Close ts us e d) (no_comma us e)
columns_only cs ts us (suc n) h e (g.more_columns {c = c} {cs = ds} {us = vs} d f) =
    let fewer = column_fewer d in
    more_only r.column c ds ts vs us n (column_only c mark.Comma ts (Sign mark.Comma ∷ vs) (vs, refl) d) (columns_only ds vs us n (omega arith) e f)

pub properties_only : (ps : List Property) (ts us : List Symbol) (n : ℕ) → length ts < n → Signed mark.Close us → Spells (g.prop_list ps) ts us
    → list_of r.property (after_sign mark.Comma) n ts ≡ Some (ps, us)
properties_only ps ts us zero h e d = absurd (omega arith)
properties_only ps ts us (suc n) h e (g.last_prop {p = p} d) = last_only r.property p ts us n (property_only p ts us d) (no_comma us e)
properties_only ps ts us (suc n) h e (g.more_props {p = p} {ps = qs} {us = vs} d f) =
    let fewer = property_fewer d in
    more_only r.property p qs ts vs us n (property_only p ts (Sign mark.Comma ∷ vs) d) (properties_only qs vs us n (omega arith) e f)
