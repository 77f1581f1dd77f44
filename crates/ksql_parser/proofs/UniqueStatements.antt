-- How a statement is read whole, and that what is spelled is what is read. The number bounds how many columns,
-- properties or items stand in a list.
use Rattle.std.proofs.Common.{◌≡◌, ℕ, zero, suc, ◌+◌, ◌≤◌, Bool, true, false, List, [], ◌∷◌, length, Option, Some, None, refl, ap, ap₂, ◌∙◌, arith}
use Rattle.std.proofs.lemmas.Bool.{false≢true}
use Rattle.std.proofs.lemmas.Option.{none-some}
use Rattle.ksql_types.specs.declared.operator.BinaryOp.{BinaryOp}
use Rattle.ksql_lexer.specs.declared.token.Mark.TheVariants as mark
use Rattle.ksql_grammar.specs.declared.symbol.Keyword.TheVariants as key
use Rattle.ksql_grammar.specs.declared.symbol.Symbol.{Symbol}
use Rattle.ksql_grammar.specs.declared.symbol.Symbol.TheVariants.{Key, Word, Quoted, Sign}
use Rattle.expression_trees.specs.declared.tree.Expr.{Expr}
use Rattle.statement_trees.specs.declared.tree.JoinText.{JoinText}
use Rattle.statement_trees.specs.declared.tree.Property.{Property}
use Rattle.statement_trees.specs.declared.tree.Select.{Select}
use Rattle.statement_trees.specs.declared.tree.SelectItem.{SelectItem}
use Rattle.statement_trees.specs.declared.tree.SelectItem.TheVariants.{Star, StarOf, One}
use Rattle.statement_trees.specs.declared.tree.Source.{Source}
use Rattle.statement_trees.specs.declared.tree.Statement.{Statement}
use Rattle.statement_trees.specs.declared.tree.StatementBody.{StatementBody}
use Rattle.statement_trees.specs.declared.tree.StatementBody.TheVariants.{Declared, Query}
use Rattle.statement_trees.specs.declared.tree.WindowText.{WindowText}
use Rattle.ksql_grammar.specs.Symbols.{name_of, or_of, and_of, sum_of, product_of}
use Rattle.ksql_parser.specs.Grammar as g
use Rattle.ksql_parser.specs.Grammar.{Spells, table_of}
use Rattle.ksql_grammar.specs.Reading.{goes_on, EndsExpr}
use Rattle.ksql_grammar.specs.Expressions.{Reader, after_key, after_sign, first, list_of, is_not, is_sign}
use Rattle.expression_trees.specs.Options.{◌>>=◌}
use Rattle.ksql_grammar.specs.Expressions as reading
use Rattle.ksql_grammar.proofs.Begins.{begins, name_begins}
use Rattle.ksql_grammar.proofs.Chains.{prefixed_none}
use Rattle.ksql_grammar.proofs.Ends.{Rest, rest_weaker, BeginsPrimary, BeginsExpr, primary_begins_unary, primary_no_sign, unary_no_not}
use Rattle.ksql_grammar.proofs.Only.{first_rest, key_out, sign_out}
use Rattle.ksql_parser.specs.Statements as r
use Rattle.ksql_parser.specs.Statements.{BeginsFrom, ends_item}
use Rattle.ksql_parser.proofs.Steps.{bind_is}
use Rattle.ksql_grammar.proofs.Steps.{key_there, sign_there, first_there}
use Rattle.ksql_parser.proofs.UniqueParts.{NoAlias, list_last, list_more, columns_read, props, props_read, alias_read, source_read}
use Rattle.ksql_parser.proofs.UniqueClauses.{list_at, expression, joined, filter, group, partition, having, expression_read, joined_read, windowed_read, filter_read, group_read, partition_read, having_read, emit_read, from_no_alias, joined_from, windowed_from, filter_from, group_from, partition_from, having_from, emit_from}

-- ---- items

abbrev IsItemEnd : Symbol → Type 0
IsItemEnd s = ends_item s ≡ true

end_no_alias : (s : Symbol) → IsItemEnd s → NoAlias s
end_no_alias (Key key.As) h = absurd (false≢true h)
end_no_alias (Word w) h = absurd (false≢true h)
end_no_alias (Quoted w) h = absurd (false≢true h)
end_no_alias _ h = refl

end_ends : (s : Symbol) → IsItemEnd s → goes_on s ≡ false
end_ends (Key key.From) h = refl
end_ends (Sign mark.Comma) h = refl
end_ends _ h = absurd (false≢true h)

item_ends : (ts : List Symbol) → Rest IsItemEnd ts → EndsExpr ts
item_ends [] h = tt
item_ends (s ∷ ts) h = end_ends s h

name_ends : (s : Symbol) (name : List ℕ) → name_of s ≡ Some name → goes_on s ≡ false
name_ends (Word w) name h = refl
name_ends (Quoted w) name h = refl
name_ends _ name h = absurd (none-some name h)

alias_ends : {a : Option (List ℕ)} {ts us : List Symbol} → Spells (g.alias a) ts us → Rest IsItemEnd us → EndsExpr ts
alias_ends (g.no_alias {ts}) h = item_ends ts h
alias_ends (g.plain_alias {n} {name} e) h = name_ends n name e
alias_ends (g.as_alias e) h = refl

-- after a name, `.` and `*` are no expression
chain_none : (op : Symbol → Option BinaryOp) (operand : Reader Expr) (ts : List Symbol) → operand ts ≡ None → reading.chain op operand ts ≡ None
unfolding reading.chain
chain_none op operand ts h = ap (λ o. o >>= λ a. reading.chain_with op operand (suc (length a.1)) a.0 a.1) h

module _ (inner : Reader Expr) where
  no_sum : (s : Symbol) (ts : List Symbol) → is_sign s ≡ false → reading.primary inner (s ∷ ts) ≡ None → reading.sum inner (s ∷ ts) ≡ None
  unfolding reading.sum reading.product reading.unary
  no_sum s ts sign h =
      chain_none sum_of (reading.product inner) (s ∷ ts)
      (chain_none product_of (reading.unary inner) (s ∷ ts) (prefixed_none is_sign (reading.primary inner) (s ∷ ts) sign ∙ h))

  no_conjunction : (s : Symbol) (ts : List Symbol) → is_not s ≡ false → reading.sum inner (s ∷ ts) ≡ None → reading.conjunction inner (s ∷ ts) ≡ None
  unfolding reading.conjunction reading.negations reading.predicate
  no_conjunction s ts plain h =
      chain_none and_of (reading.negations inner) (s ∷ ts)
      (prefixed_none is_not (reading.predicate inner) (s ∷ ts) plain ∙ ap (λ o. o >>= λ a. reading.tested inner a.0 a.1) h)

  no_expression : (s : Symbol) (ts : List Symbol) → BeginsPrimary s → reading.primary inner (s ∷ ts) ≡ None → reading.disjunction inner (s ∷ ts) ≡ None
  unfolding reading.disjunction
  no_expression s ts b h =
      chain_none or_of (reading.conjunction inner) (s ∷ ts)
      (no_conjunction s ts (unary_no_not s (primary_begins_unary s b)) (no_sum s ts (primary_no_sign s b) h))

  star_not_named : (w : List ℕ) (ts : List Symbol) → reading.named inner w (Sign mark.Dot ∷ Sign mark.Star ∷ ts) ≡ None
  unfolding reading.named reading.qualified first
  star_not_named w ts =
      ap₂ (reading.named_at inner w (Sign mark.Dot ∷ Sign mark.Star ∷ ts))
      (sign_out mark.Open (λ s. s ≡ Sign mark.Dot) (Sign mark.Dot ∷ Sign mark.Star ∷ ts) refl (λ p. cc)) (sign_there mark.Dot (Sign mark.Star ∷ ts))

  star_no_primary : (s : Symbol) (name : List ℕ) (ts : List Symbol) → name_of s ≡ Some name → reading.primary inner (s ∷ Sign mark.Dot ∷ Sign mark.Star ∷ ts) ≡ None
  unfolding reading.primary
  star_no_primary (Word w) name ts h = star_not_named w ts
  star_no_primary (Quoted w) name ts h = star_not_named w ts
  star_no_primary _ name ts h = absurd (none-some name h)

star_no_expression : (s : Symbol) (name : List ℕ) (ts : List Symbol) → name_of s ≡ Some name → expression (s ∷ Sign mark.Dot ∷ Sign mark.Star ∷ ts) ≡ None
unfolding expression reading.within
star_no_expression s name ts h =
    let inner = reading.within (length (s ∷ Sign mark.Dot ∷ Sign mark.Star ∷ ts)) in
    no_expression inner s (Sign mark.Dot ∷ Sign mark.Star ∷ ts) (name_begins s name h) (star_no_primary inner s name ts h)

abbrev item_at : List Symbol → Option (List Symbol) → Option (Expr × List Symbol) → Option (SelectItem × List Symbol)
item_at ts (Some us) _ = Some (Star, us)
item_at ts None (Some a) = r.alias a.1 >>= λ n. Some (One a.0 n.0, n.1)
item_at ts None None = r.star_of ts >>= λ n. Some (StarOf n.0, n.1)

item : Reader SelectItem
item ts = item_at ts (after_sign mark.Star ts) (expression ts)

name_no_star : (s : Symbol) (name : List ℕ) (ts : List Symbol) → name_of s ≡ Some name → after_sign mark.Star (s ∷ ts) ≡ None
name_no_star s name ts h = sign_out mark.Star (λ x. name_of x ≡ Some name) (s ∷ ts) h (none-some name)

star_of_read : (s : Symbol) (name : List ℕ) (ts : List Symbol) → name_of s ≡ Some name → r.star_of (s ∷ Sign mark.Dot ∷ Sign mark.Star ∷ ts) ≡ Some (name, ts)
unfolding r.star_of
star_of_read s name ts h =
    bind_is _ (first_there name_of s (Sign mark.Dot ∷ Sign mark.Star ∷ ts) name h)
    (bind_is _ (sign_there mark.Dot (Sign mark.Star ∷ ts)) (bind_is _ (sign_there mark.Star ts) refl))

item_read : {i : SelectItem} {ts us : List Symbol} → Spells (g.item i) ts us → Rest IsItemEnd us → item ts ≡ Some (i, us)
unfolding item
item_read (g.star {ts}) ends =
    ap (λ o. item_at (Sign mark.Star ∷ ts) o (expression (Sign mark.Star ∷ ts))) (sign_there mark.Star ts)
item_read (g.star_of {n} {name} {ts} h) ends =
    ap₂ (item_at (n ∷ Sign mark.Dot ∷ Sign mark.Star ∷ ts)) (name_no_star n name (Sign mark.Dot ∷ Sign mark.Star ∷ ts) h) (star_no_expression n name ts h)
    ∙ bind_is _ (star_of_read n name ts h) refl
item_read (g.one {a} {n} {ts} {us} {vs} d f) ends =
    ap₂ (item_at ts) (sign_out mark.Star BeginsExpr ts (first_rest BeginsExpr BeginsExpr (λ s p. p) ts (begins d)) false≢true)
    (expression_read a ts us d (alias_ends f ends))
    ∙ bind_is _ (alias_read f (rest_weaker IsItemEnd NoAlias end_no_alias vs ends)) refl

-- what ends all items
abbrev IsFrom : Symbol → Type 0
IsFrom s = s ≡ Key key.From

items_read : {is : List SelectItem} {ts us : List Symbol} → Spells (g.items is) ts us → Rest IsFrom us → (n : ℕ) → length is ≤ n
    → list_of item (after_sign mark.Comma) n ts ≡ Some (is, us)
items_read (g.last_item d) ends zero le = absurd (omega arith)
items_read (g.last_item {i} {ts} {us} d) ends (suc n) le =
    list_last item (after_sign mark.Comma) n i ts us (item_read d (rest_weaker IsFrom IsItemEnd (λ s h. ap ends_item h) us ends))
    (sign_out mark.Comma IsFrom us ends (λ p. cc))
items_read (g.more_items d f) ends zero le = absurd (omega arith)
items_read (g.more_items {i} {is} {ts} {us} {vs} d f) ends (suc n) le =
    list_more item (after_sign mark.Comma) n i is ts (Sign mark.Comma ∷ us) us vs (item_read d refl) (sign_there mark.Comma us) (items_read f ends n (omega arith))

-- ---- queries

abbrev select_of : List SelectItem → Source → Option JoinText → Option WindowText → Option Expr → List Expr → Option Expr → Option Expr → Select
select_of is s j w f g p h = record { items = is; source = s; join = j; window = w; filter = f; group = g; partition = p; having = h }

select : ℕ → Reader Select
select n ts = do
  us ← after_key key.Select ts
  is ← list_of item (after_sign mark.Comma) n us
  vs ← after_key key.From is.1
  s ← r.source vs
  j ← joined s.1
  w ← r.windowed j.1
  f ← filter w.1
  g ← group f.1
  p ← partition g.1
  h ← having p.1
  Some (select_of is.0 s.0 j.0 w.0 f.0 g.0 p.0 h.0, r.emit h.1)

select_read : {q : Select} {ts us : List Symbol} → Spells (g.select q) ts us → BeginsFrom 8 us → (n : ℕ) → length q.items ≤ n → select n ts ≡ Some (q, us)
unfolding select
select_read (g.a_select {is} {s} {j} {w} {f} {g = es} {p} {h} {s0} {s1} {s2} {s3} {s4} {s5} {s6} {s7} {s8} {s9} di ds dj dw df dg dp dh de) ends n le =
    let b8 = emit_from de ends in
    let b7 = having_from dh b8 in
    let b6 = partition_from dp b7 in
    let b5 = group_from dg b6 in
    let b4 = filter_from df b5 in
    let b3 = windowed_from dw b4 in
    let b2 = joined_from dj b3 in
    bind_is _ (key_there key.Select s0)
    (bind_is _ (items_read di refl n le)
    (bind_is _ (key_there key.From s1)
    (bind_is _ (source_read ds (from_no_alias s2 b2))
    (bind_is _ (joined_read dj b3)
    (bind_is _ (windowed_read dw b4)
    (bind_is _ (filter_read df b5)
    (bind_is _ (group_read dg b6)
    (bind_is _ (partition_read dp b7)
    (bind_is _ (having_read dh b8)
    (ap (λ rest. Some (select_of is s j w f es p h, rest)) (emit_read de ends)))))))))))

-- ---- statements

-- [WITH props]
with_props : ℕ → Reader (List Property)
with_props n ts = list_at (props n) ts (after_key key.With ts)

abbrev IsAs : Symbol → Type 0
IsAs s = s ≡ Key key.As

with_props_read : {ps : List Property} {ts us : List Symbol} → Spells (g.with_props ps) ts us → Rest IsAs us → (n : ℕ) → length ps ≤ n → with_props n ts ≡ Some (ps, us)
unfolding with_props
with_props_read (g.no_props {ts}) ends n le = ap (list_at (props n) ts) (key_out key.With IsAs ts ends (λ p. cc))
with_props_read (g.some_props {ps} {ts} {us} d) ends n le = ap (list_at (props n) (Key key.With ∷ ts)) (key_there key.With ts) ∙ props_read d n le

with_props_no_open : {ps : List Property} {ts us : List Symbol} → Spells (g.with_props ps) ts us → Rest IsAs us → after_sign mark.Open ts ≡ None
with_props_no_open (g.no_props {ts}) ends = sign_out mark.Open IsAs ts ends (λ p. cc)
with_props_no_open (g.some_props {ps} {ts} {us} d) ends = sign_out mark.Open (λ s. s ≡ Key key.With) (Key key.With ∷ ts) refl (λ p. cc)

declared : ℕ → Reader StatementBody
declared n ts = do
  cs ← list_of r.column (after_sign mark.Comma) n ts
  us ← after_sign mark.Close cs.1
  vs ← after_key key.With us
  ps ← props n vs
  Some (Declared cs.0 ps.0, ps.1)

queried : ℕ → Reader StatementBody
queried n ts = do
  ps ← with_props n ts
  us ← after_key key.As ps.1
  q ← select n us
  Some (Query ps.0 q.0, q.1)

abbrev body_at : ℕ → List Symbol → Option (List Symbol) → Option (StatementBody × List Symbol)
body_at n ts (Some us) = declared n us
body_at n ts None = queried n ts

abbrev statement_of : Bool → List ℕ → StatementBody → Statement
statement_of t name body = record { table = t; name = name; body = body }

pub statement : ℕ → Reader Statement
statement n ts = do
  h ← r.head ts
  b ← body_at n h.1 (after_sign mark.Open h.1)
  Some (statement_of h.0.0 h.0.1 b.0, b.1)

head_read : (x s : Symbol) (t : Bool) (name : List ℕ) (ts : List Symbol) → table_of x ≡ Some t → name_of s ≡ Some name → r.head (Key key.Create ∷ x ∷ s ∷ ts) ≡ Some ((t, name), ts)
unfolding r.head
head_read x s t name ts h k =
    bind_is _ (key_there key.Create (x ∷ s ∷ ts)) (bind_is _ (first_there table_of x (s ∷ ts) t h) (bind_is _ (first_there name_of s ts name k) refl))

-- a number that bounds every list
abbrev longest_of : StatementBody → ℕ
longest_of (Declared cs ps) = length cs + length ps
longest_of (Query ps q) = length ps + length q.items

abbrev pub longest : Statement → ℕ
longest s = longest_of s.body

pub statement_read : {s : Statement} {ts us : List Symbol} → Spells (g.statement s) ts us → BeginsFrom 8 us → (n : ℕ) → longest s ≤ n → statement n ts ≡ Some (s, us)
unfolding statement declared queried
statement_read (g.declared {r = x} {n = s} {t} {name} {cs} {ps} {ts} {us} {vs} h k d f) ends n le =
    bind_is _ (head_read x s t name (Sign mark.Open ∷ ts) h k)
    (bind_is _ (ap (body_at n (Sign mark.Open ∷ ts)) (sign_there mark.Open ts)
    ∙ bind_is _ (columns_read d refl n (omega arith))
    (bind_is _ (sign_there mark.Close (Key key.With ∷ us)) (bind_is _ (key_there key.With us) (bind_is _ (props_read f n (omega arith)) refl)))) refl)
statement_read (g.query {r = x} {n = s} {t} {name} {ps} {q} {ts} {us} {vs} h k d f) ends n le =
    bind_is _ (head_read x s t name ts h k)
    (bind_is _ (ap (body_at n ts) (with_props_no_open d refl)
    ∙ bind_is _ (with_props_read d refl n (omega arith)) (bind_is _ (key_there key.As us) (bind_is _ (select_read f ends n (omega arith)) refl))) refl)
