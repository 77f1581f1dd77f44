-- What is read without an expression is spelled.
use Rattle.std.proofs.Common.{◌≡◌, ℕ, Bool, true, false, List, [], ◌∷◌, Option, Some, None, codes, refl, sym, ap, ◌∙◌, arith}
use Rattle.ksql_lexer.specs.declared.token.Mark.TheVariants as mark
use Rattle.ksql_grammar.specs.declared.symbol.Keyword.{Keyword}
use Rattle.ksql_grammar.specs.declared.symbol.Keyword.TheVariants as key
use Rattle.ksql_grammar.specs.declared.symbol.Symbol.{Symbol}
use Rattle.ksql_grammar.specs.declared.symbol.Symbol.TheVariants.{Key, Word, Quoted, Text, Number, Sign}
use Rattle.statement_trees.specs.declared.tree.SelectItem.TheVariants.{StarOf}
use Rattle.statement_trees.specs.declared.tree.Property.{Property}
use Rattle.statement_trees.specs.declared.tree.SpanText.{SpanText}
use Rattle.statement_trees.specs.declared.tree.WindowText.{WindowText}
use Rattle.statement_trees.specs.declared.tree.WindowText.TheVariants.{Tumbling, Hopping}
use Rattle.ksql_grammar.specs.Symbols.{name_of, type_of}
use Rattle.ksql_parser.specs.Grammar.{unit_of}
use Rattle.ksql_parser.specs.Grammar as g
use Rattle.ksql_parser.specs.Grammar.{Spells, table_of}
use Rattle.ksql_grammar.specs.Expressions.{after_key, after_sign, first}
use Rattle.expression_trees.specs.Options.{◌>>=◌}
use Rattle.ksql_parser.specs.Statements as r
use Rattle.ksql_parser.proofs.Steps.{behind, along, First, word_found, words_found, by_found}
use Rattle.ksql_grammar.proofs.Steps.{If, if_bind, if_some, if_weaker, if_from, key_found, sign_found, first_found}

key_mark_found_at : (ts : List Symbol) (o p : Option (List Symbol)) → If o (λ us. ts ≡ Word (codes "KEY") ∷ us)
    → If p (λ us. ts ≡ Word (codes "PRIMARY") ∷ Word (codes "KEY") ∷ us) → Spells (g.key_mark (r.key_mark_at ts o p).0) ts (r.key_mark_at ts o p).1
key_mark_found_at ts (Some us) p h k = behind h (g.key_word refl)
key_mark_found_at ts None (Some us) h k = behind k (g.primary_key refl refl)
key_mark_found_at ts None None h k = g.no_key

key_mark_found : (ts : List Symbol) → Spells (g.key_mark (r.key_mark ts).0) ts (r.key_mark ts).1
unfolding r.key_mark
key_mark_found ts = key_mark_found_at ts (r.after_word (codes "KEY") ts) (r.after_words (codes "PRIMARY") (codes "KEY") ts)
    (word_found (codes "KEY") ts) (words_found (codes "PRIMARY") (codes "KEY") ts)

pub column_found : (ts : List Symbol) → If (r.column ts) (λ x. Spells (g.column x.0) ts x.1)
unfolding r.column
column_found ts =
    if_bind (first name_of ts) _ (First name_of ts) _ (first_found name_of ts) (λ n h.
    if_bind (first type_of n.1) _ (First type_of n.1) _ (first_found type_of n.1) (λ t k.
    behind (h.1 ∙ ap (λ x. h.0 ∷ x) k.1) (g.a_column h.2 k.2 (key_mark_found t.1))))

value_found : (name : List ℕ) (s : Symbol) (ts us : List Symbol) → ts ≡ s ∷ Sign mark.Equal ∷ us → name_of s ≡ Some name
    → If {A = Property × List Symbol} (r.property_value us >>= λ v. let p : Property = record { name = name; value = v.0 } in Some (p, v.1)) (λ x. Spells (g.prop x.0) ts x.1)
unfolding r.property_value
value_found name s ts [] h n = tt
value_found name s ts (Text content ∷ us) h n = behind h (g.text_prop n)
value_found name s ts (Number number ∷ us) h n = behind h (g.digits_prop n)
value_found name s ts (_ ∷ us) h n = tt

pub property_found : (ts : List Symbol) → If (r.property ts) (λ x. Spells (g.prop x.0) ts x.1)
unfolding r.property
property_found ts =
    if_bind (first name_of ts) _ (First name_of ts) _ (first_found name_of ts) (λ n h.
    if_bind (after_sign mark.Equal n.1) _ (λ us. n.1 ≡ Sign mark.Equal ∷ us) _ (sign_found mark.Equal n.1) (λ us k.
    value_found n.0 h.0 ts us (h.1 ∙ ap (λ x. h.0 ∷ x) k) h.2))

as_found : (ts : List Symbol) → If (r.after_as ts) (λ x. (s : Symbol) × (ts ≡ Key key.As ∷ s ∷ x.1) × (name_of s ≡ Some x.0))
unfolding r.after_as
as_found ts =
    if_bind (after_key key.As ts) _ (λ us. ts ≡ Key key.As ∷ us) _ (key_found key.As ts) (λ us h.
    if_weaker (first name_of us) (First name_of us) _ (first_found name_of us) (λ x k. (k.0, h ∙ ap (λ y. Key key.As ∷ y) k.1, k.2)))

alias_found_at : (ts : List Symbol) (o p : Option (List ℕ × List Symbol)) → If o (λ x. (s : Symbol) × (ts ≡ Key key.As ∷ s ∷ x.1) × (name_of s ≡ Some x.0))
    → If p (First name_of ts) → If (r.alias_at ts o p) (λ x. Spells (g.alias x.0) ts x.1)
alias_found_at ts (Some x) p h k = behind h.1 (g.as_alias h.2)
alias_found_at ts None (Some x) h k = behind k.1 (g.plain_alias k.2)
alias_found_at ts None None h k = g.no_alias

pub alias_found : (ts : List Symbol) → If (r.alias ts) (λ x. Spells (g.alias x.0) ts x.1)
unfolding r.alias
alias_found ts = alias_found_at ts (r.after_as ts) (first name_of ts) (as_found ts) (first_found name_of ts)

pub source_found : (ts : List Symbol) → If (r.source ts) (λ x. Spells (g.source x.0) ts x.1)
unfolding r.source
source_found ts =
    if_bind (first name_of ts) _ (First name_of ts) _ (first_found name_of ts) (λ n h.
    if_bind (r.alias n.1) _ (λ x. Spells (g.alias x.0) n.1 x.1) _ (alias_found n.1) (λ a d. behind h.1 (g.a_source h.2 d)))

pub join_words_found : (ts : List Symbol) → If (r.join_words ts) (λ x. Spells (g.join_words x.0) ts x.1)
unfolding r.join_words
join_words_found (Key key.Join ∷ ts) = g.join
join_words_found (Key key.Inner ∷ Key key.Join ∷ ts) = g.inner_join
join_words_found (Key key.Left ∷ Key key.Join ∷ ts) = g.left_join
join_words_found (Key key.Left ∷ Key key.Outer ∷ Key key.Join ∷ ts) = g.left_outer_join
join_words_found (Key key.Full ∷ Key key.Join ∷ ts) = g.full_join
join_words_found (Key key.Full ∷ Key key.Outer ∷ Key key.Join ∷ ts) = g.full_outer_join
join_words_found _ = tt

digits_are : (s : Symbol) (n : ℕ) → r.digits_of s ≡ Some n → s ≡ Number n
digits_are (Number m) n h = ap Number (grind arith)
digits_are (Key _) n h = cc
digits_are (Word _) n h = cc
digits_are (Quoted _) n h = cc
digits_are (Text _) n h = cc
digits_are (Sign _) n h = cc

span_found : (ts : List Symbol) → If (r.span ts) (λ x. Spells (g.span x.0) ts x.1)
unfolding r.span
span_found ts =
    if_bind (first r.digits_of ts) _ (First r.digits_of ts) _ (first_found r.digits_of ts) (λ n h.
    if_bind (first unit_of n.1) _ (First unit_of n.1) _ (first_found unit_of n.1) (λ u k.
    behind (h.1 ∙ ap (λ s. s ∷ n.1) (digits_are h.0 n.0 h.2) ∙ ap (λ x. Number n.0 ∷ x) k.1) (g.a_span k.2)))

retention_at_found : (ts : List Symbol) (o : Option (List Symbol)) → If o (λ us. ts ≡ Sign mark.Comma ∷ Word (codes "RETENTION") ∷ us)
    → If (r.span_at ts o) (λ x. Spells (g.retention x.0) ts x.1)
retention_at_found ts (Some us) h = if_bind (r.span us) _ (λ x. Spells (g.span x.0) us x.1) _ (span_found us) (λ s d. behind h (g.a_retention refl d))
retention_at_found ts None h = g.no_retention

retention_found : (ts : List Symbol) → If (r.after_retention ts) (λ us. ts ≡ Sign mark.Comma ∷ Word (codes "RETENTION") ∷ us)
unfolding r.after_retention
retention_found ts =
    if_bind (after_sign mark.Comma ts) _ (λ us. ts ≡ Sign mark.Comma ∷ us) _ (sign_found mark.Comma ts) (λ us h.
    if_weaker (r.after_word (codes "RETENTION") us) (λ vs. us ≡ Word (codes "RETENTION") ∷ vs) _ (word_found (codes "RETENTION") us) (λ vs k. h ∙ ap (λ x. Sign mark.Comma ∷ x) k))

grace_at_found : (ts : List Symbol) (o : Option (List Symbol)) → If o (λ us. ts ≡ Sign mark.Comma ∷ Word (codes "GRACE") ∷ Word (codes "PERIOD") ∷ us)
    → If (r.span_at ts o) (λ x. Spells (g.grace x.0) ts x.1)
grace_at_found ts (Some us) h = if_bind (r.span us) _ (λ x. Spells (g.span x.0) us x.1) _ (span_found us) (λ s d. behind h (g.a_grace refl refl d))
grace_at_found ts None h = g.no_grace

grace_found : (ts : List Symbol) → If (r.after_grace ts) (λ us. ts ≡ Sign mark.Comma ∷ Word (codes "GRACE") ∷ Word (codes "PERIOD") ∷ us)
unfolding r.after_grace
grace_found ts =
    if_bind (after_sign mark.Comma ts) _ (λ us. ts ≡ Sign mark.Comma ∷ us) _ (sign_found mark.Comma ts) (λ us h.
    if_weaker (r.after_words (codes "GRACE") (codes "PERIOD") us) (λ vs. us ≡ Word (codes "GRACE") ∷ Word (codes "PERIOD") ∷ vs) _ (words_found (codes "GRACE") (codes "PERIOD") us) (λ vs k. h ∙ ap (λ x. Sign mark.Comma ∷ x) k))

-- what the two limits of a window are
abbrev Limits : List Symbol → (Option SpanText × Option SpanText) × List Symbol → Type 0
Limits ts x = (us : List Symbol) × Spells (g.retention x.0.0) ts us × Spells (g.grace x.0.1) us (Sign mark.Close ∷ x.1)

limits_found : (ts : List Symbol) → If (r.limits ts) (Limits ts)
unfolding r.limits
limits_found ts =
    if_bind (r.span_at ts (r.after_retention ts)) _ (λ x. Spells (g.retention x.0) ts x.1) _ (retention_at_found ts (r.after_retention ts) (retention_found ts)) (λ a d.
    if_bind (r.span_at a.1 (r.after_grace a.1)) _ (λ x. Spells (g.grace x.0) a.1 x.1) _ (grace_at_found a.1 (r.after_grace a.1) (grace_found a.1)) (λ b f.
    if_bind (after_sign mark.Close b.1) _ (λ us. b.1 ≡ Sign mark.Close ∷ us) _ (sign_found mark.Close b.1) (λ us h.
    (a.1, d, along f h))))

size_found : (ts : List Symbol) → If (r.size ts) (λ x. (us : List Symbol) × (ts ≡ Sign mark.Open ∷ Word (codes "SIZE") ∷ us) × Spells (g.span x.0) us x.1)
unfolding r.size
size_found ts =
    if_bind (after_sign mark.Open ts) _ (λ us. ts ≡ Sign mark.Open ∷ us) _ (sign_found mark.Open ts) (λ us h.
    if_bind (r.after_word (codes "SIZE") us) _ (λ vs. us ≡ Word (codes "SIZE") ∷ vs) _ (word_found (codes "SIZE") us) (λ vs k.
    if_weaker (r.span vs) (λ x. Spells (g.span x.0) vs x.1) _ (span_found vs) (λ x d. (vs, h ∙ ap (λ y. Sign mark.Open ∷ y) k, d))))

advance_found : (ts : List Symbol) → If (r.advance ts) (λ x. (us : List Symbol) × (ts ≡ Sign mark.Comma ∷ Word (codes "ADVANCE") ∷ Key key.By ∷ us) × Spells (g.span x.0) us x.1)
unfolding r.advance
advance_found ts =
    if_bind (after_sign mark.Comma ts) _ (λ us. ts ≡ Sign mark.Comma ∷ us) _ (sign_found mark.Comma ts) (λ us h.
    if_bind (r.after_word (codes "ADVANCE") us) _ (λ vs. us ≡ Word (codes "ADVANCE") ∷ vs) _ (word_found (codes "ADVANCE") us) (λ vs k.
    if_bind (after_key key.By vs) _ (λ ws. vs ≡ Key key.By ∷ ws) _ (key_found key.By vs) (λ ws m.
    if_weaker (r.span ws) (λ x. Spells (g.span x.0) ws x.1) _ (span_found ws) (λ x d.
    (ws, h ∙ ap (λ y. Sign mark.Comma ∷ y) k ∙ ap (λ y. Sign mark.Comma ∷ Word (codes "ADVANCE") ∷ y) m, d)))))

tumbling_found : (ts : List Symbol) → If (r.tumbling ts) (λ x. Spells (g.window x.0) (Word (codes "TUMBLING") ∷ ts) x.1)
unfolding r.tumbling
tumbling_found ts =
    if_bind (r.size ts) _ (λ x. (us : List Symbol) × (ts ≡ Sign mark.Open ∷ Word (codes "SIZE") ∷ us) × Spells (g.span x.0) us x.1) _ (size_found ts) (λ s h.
    if_bind (r.limits s.1) _ (Limits s.1) _ (limits_found s.1) (λ l k.
    behind (ap (λ y. Word (codes "TUMBLING") ∷ y) h.1) (g.tumbling refl refl h.2 k.1 k.2)))

hopping_found : (ts : List Symbol) → If (r.hopping ts) (λ x. Spells (g.window x.0) (Word (codes "HOPPING") ∷ ts) x.1)
unfolding r.hopping
hopping_found ts =
    if_bind (r.size ts) _ (λ x. (us : List Symbol) × (ts ≡ Sign mark.Open ∷ Word (codes "SIZE") ∷ us) × Spells (g.span x.0) us x.1) _ (size_found ts) (λ s h.
    if_bind (r.advance s.1) _ (λ x. (us : List Symbol) × (s.1 ≡ Sign mark.Comma ∷ Word (codes "ADVANCE") ∷ Key key.By ∷ us) × Spells (g.span x.0) us x.1) _ (advance_found s.1) (λ a m.
    if_bind (r.limits a.1) _ (Limits a.1) _ (limits_found a.1) (λ l k.
    behind (ap (λ y. Word (codes "HOPPING") ∷ y) h.1) (g.hopping refl refl refl (along h.2 m.1) m.2 k.1 k.2))))

window_found_at : (ts : List Symbol) (o p : Option (List Symbol)) → If o (λ us. ts ≡ Word (codes "TUMBLING") ∷ us) → If p (λ us. ts ≡ Word (codes "HOPPING") ∷ us)
    → If (r.window_at o p) (λ x. Spells (g.window x.0) ts x.1)
window_found_at ts (Some us) p h k = if_weaker (r.tumbling us) _ _ (tumbling_found us) (λ x d. behind h d)
window_found_at ts None (Some us) h k = if_weaker (r.hopping us) _ _ (hopping_found us) (λ x d. behind k d)
window_found_at ts None None h k = tt

window_found : (ts : List Symbol) → If (r.window ts) (λ x. Spells (g.window x.0) ts x.1)
unfolding r.window
window_found ts = window_found_at ts (r.after_word (codes "TUMBLING") ts) (r.after_word (codes "HOPPING") ts) (word_found (codes "TUMBLING") ts) (word_found (codes "HOPPING") ts)

windowed_found_at : (ts : List Symbol) (o : Option (List Symbol)) → If o (λ us. ts ≡ Key key.Window ∷ us) → If (r.windowed_at ts o) (λ x. Spells (g.windowed x.0) ts x.1)
windowed_found_at ts (Some us) h = if_bind (r.window us) _ (λ x. Spells (g.window x.0) us x.1) _ (window_found us) (λ w d. behind h (g.a_window d))
windowed_found_at ts None h = g.no_window

pub windowed_found : (ts : List Symbol) → If (r.windowed ts) (λ x. Spells (g.windowed x.0) ts x.1)
unfolding r.windowed
windowed_found ts = windowed_found_at ts (after_key key.Window ts) (key_found key.Window ts)

changes_found : (ts : List Symbol) → If (r.after_changes ts) (λ us. ts ≡ Key key.Emit ∷ Word (codes "CHANGES") ∷ us)
unfolding r.after_changes
changes_found ts =
    if_bind (after_key key.Emit ts) _ (λ us. ts ≡ Key key.Emit ∷ us) _ (key_found key.Emit ts) (λ us h.
    if_weaker (r.after_word (codes "CHANGES") us) (λ vs. us ≡ Word (codes "CHANGES") ∷ vs) _ (word_found (codes "CHANGES") us) (λ vs k. h ∙ ap (λ x. Key key.Emit ∷ x) k))

emit_found_at : (ts : List Symbol) (o : Option (List Symbol)) → If o (λ us. ts ≡ Key key.Emit ∷ Word (codes "CHANGES") ∷ us) → Spells g.emit ts (r.after_or_here ts o)
emit_found_at ts (Some us) h = behind h (g.changes refl)
emit_found_at ts None h = g.no_emit

pub emit_found : (ts : List Symbol) → Spells g.emit ts (r.emit ts)
unfolding r.emit
emit_found ts = emit_found_at ts (r.after_changes ts) (changes_found ts)

pub star_of_found : (ts : List Symbol) → If (r.star_of ts) (λ x. Spells (g.item (StarOf x.0)) ts x.1)
unfolding r.star_of
star_of_found ts =
    if_bind (first name_of ts) _ (First name_of ts) _ (first_found name_of ts) (λ n h.
    if_bind (after_sign mark.Dot n.1) _ (λ us. n.1 ≡ Sign mark.Dot ∷ us) _ (sign_found mark.Dot n.1) (λ us k.
    if_bind (after_sign mark.Star us) _ (λ vs. us ≡ Sign mark.Star ∷ vs) _ (sign_found mark.Star us) (λ vs m.
    behind (h.1 ∙ ap (λ x. h.0 ∷ x) k ∙ ap (λ x. h.0 ∷ Sign mark.Dot ∷ x) m) (g.star_of h.2))))

-- the head of a statement
abbrev pub Head : List Symbol → (Bool × List ℕ) × List Symbol → Type 0
Head ts x = (r n : Symbol) × (ts ≡ Key key.Create ∷ r ∷ n ∷ x.1) × (table_of r ≡ Some x.0.0) × (name_of n ≡ Some x.0.1)

pub head_found : (ts : List Symbol) → If (r.head ts) (Head ts)
unfolding r.head
head_found ts =
    if_bind (after_key key.Create ts) _ (λ us. ts ≡ Key key.Create ∷ us) _ (key_found key.Create ts) (λ us h.
    if_bind (first table_of us) _ (First table_of us) _ (first_found table_of us) (λ t k.
    if_bind (first name_of t.1) _ (First name_of t.1) _ (first_found name_of t.1) (λ n m.
    (k.0, m.0, h ∙ ap (λ x. Key key.Create ∷ x) k.1 ∙ ap (λ x. Key key.Create ∷ k.0 ∷ x) m.1, k.2, m.2))))
