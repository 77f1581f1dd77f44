-- Trees of tokens that keep their limits keep theirs.
use Rattle.std.proofs.Common.{◌≡◌, ℕ, ◌≤◌, Bool, true, false, ◌&&◌, ◌||◌, List, [], ◌∷◌, ◌++◌, map, length, Option, Some, None, IsTrue, nat_le, refl, ap, sym, ◌∙◌, subst}
use Rattle.std.specs.Prelude.{All, ⊤}
use Rattle.std.specs.List.{list_any, flat_map, AllZip, AllByRecursion as Each}
use Rattle.std.specs.Str.Parse.{digits_value}
use Rattle.std.proofs.lemmas.Bool.{ltb-false, le-leb, leb-true}
use Rattle.std.proofs.lemmas.Option.{same_Some}
use Rattle.std.proofs.lemmas.List.Elements.{All-from_recursion, All-nil, All-cons, All-append, All-weaker}
use Rattle.ksql_types.specs.declared.operator.BinaryOp.{BinaryOp}
use Rattle.ksql_types.specs.declared.value.SqlType.{SqlType}
use Rattle.ksql_lexer.specs.declared.token.TokenKind.{TokenKind}
use Rattle.ksql_lexer.specs.declared.token.TokenKind.TheVariants as kind
use Rattle.ksql_grammar.specs.declared.symbol.Keyword.{Keyword}
use Rattle.ksql_grammar.specs.declared.symbol.Symbol.{Symbol}
use Rattle.ksql_grammar.specs.declared.symbol.Symbol.TheVariants as sym
use Rattle.statement_trees.specs.declared.tree.ColumnText.{ColumnText}
use Rattle.expression_trees.specs.declared.tree.Expr.{Expr, out-Expr}
use Rattle.expression_trees.specs.declared.tree.Expr.TheVariants as e
use Rattle.expression_trees.specs.declared.tree.Expr.TheVariants.{outs-Name}
use Rattle.expression_trees.specs.declared.tree.Expr.TheOpen.{Expr-F}
use Rattle.statement_trees.specs.declared.tree.JoinText.{JoinText}
use Rattle.statement_trees.specs.declared.tree.Select.{Select}
use Rattle.statement_trees.specs.declared.tree.SelectItem.{SelectItem}
use Rattle.statement_trees.specs.declared.tree.SelectItem.TheVariants.{Star, StarOf, One}
use Rattle.statement_trees.specs.declared.tree.Source.{Source}
use Rattle.statement_trees.specs.declared.tree.Statement.{Statement}
use Rattle.statement_trees.specs.declared.tree.StatementBody.{StatementBody}
use Rattle.statement_trees.specs.declared.tree.StatementBody.TheVariants.{Declared, Query}
use Rattle.expression_trees.specs.declared.tree.WhenText.{WhenText}
use Rattle.statement_trees.specs.declared.tree.WindowText.{WindowText}
use Rattle.ksql_grammar.specs.Symbols.{symbol_of, word_symbol, keyword_of, name_of}
use Rattle.ksql_grammar.specs.Grammar.{Phrase as PhraseExpr, Spells as SpellsExpr}
use Rattle.ksql_grammar.specs.Grammar as ge
use Rattle.ksql_parser.specs.Grammar as g
use Rattle.ksql_parser.specs.Grammar.{Spells, Phrase}
use Rattle.ksql_parser.specs.Limits.{is_too_large, HasTooLarge}
use Rattle.ksql_parser.specs.Script.{IsTreeOf}
use Rattle.ksql_scopes.specs.Uses.{is_small, IsSmall, small_step, are_small, are_whens_small, is_small_perhaps}
use Rattle.expression_trees.proofs.Folds as f
use Rattle.std.proofs.lemmas.Bool.{and_from, and_parts}
use Rattle.ksql_scopes.proofs.Small.{is_small-OneOf, is_small-Case, is_small-Call}
use Rattle.ksql_clauses.specs.Items.{IsShortName, IsShortItem}
use Rattle.ksql_clauses.specs.Sources.{alias_of, sources, there, item_exprs, on_exprs}
use Rattle.ksql_rules.specs.Limits.{HasShortAlias, IsQueryWithin, IsWithinLimits}
use Rattle.ksql_analyse.specs.Judgement.{AreParsed}
use Rattle.ksql_analyse.proofs.sound.SoundColumns.{each-weaker}

-- ---- tokens and symbols

-- a symbol keeps its limit
abbrev IsSmallSymbol : Symbol → Type 0
IsSmallSymbol (sym.Key k) = ⊤
IsSmallSymbol (sym.Word word) = length word ≤ 128
IsSmallSymbol (sym.Quoted name) = length name ≤ 128
IsSmallSymbol (sym.Text content) = length content ≤ 65536
IsSmallSymbol (sym.Number number) = number ≤ 9223372036854775807
IsSmallSymbol (sym.Sign m) = ⊤

abbrev Small : List Symbol → Type 0
Small = Each IsSmallSymbol

short_name : (n : Symbol) (name : List ℕ) → name_of n ≡ Some name → IsSmallSymbol n → length name ≤ 128
short_name (sym.Word word) name h s = subst (λ x. length x ≤ 128) (same_Some word name h) s
short_name (sym.Quoted word) name h s = subst (λ x. length x ≤ 128) (same_Some word name h) s
short_name (sym.Key k) name h s = absurd (cc (h))
short_name (sym.Text content) name h s = absurd (cc (h))
short_name (sym.Number number) name h s = absurd (cc (h))
short_name (sym.Sign m) name h s = absurd (cc (h))

word_kept : (k : Option Keyword) (word : List ℕ) → length word ≤ 128 → IsSmallSymbol (word_symbol k word)
word_kept None word h = h
word_kept (Some k) word h = tt

symbol_kept : (t : TokenKind) → is_too_large t ≡ false → IsSmallSymbol (symbol_of t)
symbol_kept (kind.Word word) h = word_kept (keyword_of word) word (ltb-false 128 (length word) h)
symbol_kept (kind.Quoted name) h = ltb-false 128 (length name) h
symbol_kept (kind.Text content) h = ltb-false 65536 (length content) h
symbol_kept (kind.Digits digits) h = ltb-false 9223372036854775807 (digits_value 10 digits) h
symbol_kept (kind.Mark m) h = tt

neither : (a b : Bool) → ((a || b) ≡ true → ⊥) → (a ≡ false) × (b ≡ true → ⊥)
neither true b h = absurd (h refl)
neither false b h = (refl, h)

symbols_kept : (ts : List TokenKind) → ¬ HasTooLarge ts → Small (map symbol_of ts)
symbols_kept [] h = tt
symbols_kept (t ∷ ts) h =
    let k = neither (is_too_large t) (list_any is_too_large ts) h in
    (symbol_kept t k.0, symbols_kept ts k.1)

-- ---- literals

all_three : (a b c : Bool) → a ≡ true → b ≡ true → c ≡ true → (a && b && c) ≡ true
all_three a b c h k l = and_from (a && b) c (and_from a b h k) l

digits_small : (n : ℕ) → n ≤ 9223372036854775807 → IsSmall (e.Digits n)
unfolding is_small
digits_small n h = f.fold-Digits Bool Bool small_step (λ w. w.cond && w.result) n ∙ le-leb n 9223372036854775807 h

text_small : (content : List ℕ) → length content ≤ 65536 → IsSmall (e.Text content)
unfolding is_small
text_small content h = f.fold-Text Bool Bool small_step (λ w. w.cond && w.result) content ∙ le-leb (length content) 65536 h

truth_small : (b : Bool) → IsSmall (e.Truth b)
unfolding is_small
truth_small b = f.fold-Truth Bool Bool small_step (λ w. w.cond && w.result) b

pub null_small : IsSmall e.Null
unfolding is_small
null_small = f.fold-Null Bool Bool small_step (λ w. w.cond && w.result)

pub name_small : (q : Option (List ℕ)) (name : List ℕ) → IsSmall (e.Name q name)
unfolding is_small
name_small q name = f.fold-Name Bool Bool small_step (λ w. w.cond && w.result) q name

pub sign_small : (m : Bool) (a : Expr) → IsSmall a → IsSmall (e.Sign m a)
unfolding is_small
sign_small m a h = f.fold-Sign Bool Bool small_step (λ w. w.cond && w.result) m a ∙ h

pub binary_small : (o : BinaryOp) (a b : Expr) → IsSmall a → IsSmall b → IsSmall (e.Binary o a b)
unfolding is_small
binary_small o a b h k = f.fold-Binary Bool Bool small_step (λ w. w.cond && w.result) o a b ∙ and_from (is_small a) (is_small b) h k

pub not_small : (a : Expr) → IsSmall a → IsSmall (e.Not a)
unfolding is_small
not_small a h = f.fold-Not Bool Bool small_step (λ w. w.cond && w.result) a ∙ h

pub is_null_small : (n : Bool) (a : Expr) → IsSmall a → IsSmall (e.IsNull n a)
unfolding is_small
is_null_small n a h = f.fold-IsNull Bool Bool small_step (λ w. w.cond && w.result) n a ∙ h

pub between_small : (n : Bool) (a b c : Expr) → IsSmall a → IsSmall b → IsSmall c → IsSmall (e.Between n a b c)
unfolding is_small
between_small n a b c h k l =
    f.fold-Between Bool Bool small_step (λ w. w.cond && w.result) n a b c ∙ all_three (is_small a) (is_small b) (is_small c) h k l

pub one_of_small : (n : Bool) (a : Expr) (es : List Expr) → IsSmall a → IsTrue (are_small es) → IsSmall (e.OneOf n a es)
one_of_small n a es h k = is_small-OneOf n a es ∙ and_from (is_small a) (are_small es) h k

pub like_small : (n : Bool) (a : Expr) (pattern : List ℕ) → IsSmall a → length pattern ≤ 65536 → IsSmall (e.Like n a pattern)
unfolding is_small
like_small n a pattern h k =
    f.fold-Like Bool Bool small_step (λ w. w.cond && w.result) n a pattern
    ∙ and_from (is_small a) (nat_le (length pattern) 65536) h (le-leb (length pattern) 65536 k)

pub pattern_small : (n : Bool) (a : Expr) (pattern : List ℕ) → IsSmall (e.Like n a pattern) → length pattern ≤ 65536
unfolding is_small
pattern_small n a pattern h =
    leb-true (length pattern) 65536
    (and_parts (is_small a) (nat_le (length pattern) 65536) (sym (f.fold-Like Bool Bool small_step (λ w. w.cond && w.result) n a pattern) ∙ h)).1

pub cast_small : (a : Expr) (to : SqlType) → IsSmall a → IsSmall (e.Cast a to)
unfolding is_small
cast_small a to h = f.fold-Cast Bool Bool small_step (λ w. w.cond && w.result) a to ∙ h

pub case_small : (x : Option Expr) (ws : List WhenText) (z : Option Expr) → IsTrue (is_small_perhaps x) → IsTrue (are_whens_small ws)
    → IsTrue (is_small_perhaps z) → IsSmall (e.Case x ws z)
case_small x ws z h k l = is_small-Case x ws z ∙ all_three (is_small_perhaps x) (are_whens_small ws) (is_small_perhaps z) h k l

pub call_small : (name : List ℕ) (star : Bool) (es : List Expr) → IsTrue (are_small es) → IsSmall (e.Call name star es)
call_small name star es h = is_small-Call name star es ∙ h

-- ---- names

abbrev IsShortForm : Expr-F Expr WhenText → Type 0
IsShortForm (Expr-F.Name q name) = IsShortName q name × (length name ≤ 128)
IsShortForm form = ⊤

-- a name and its qualifier keep their limit, where an expression is a name
abbrev IsNameWithin : Expr → Type 0
IsNameWithin a = (q : Option (List ℕ)) (name : List ℕ) → a ≡ e.Name q name → IsShortName q name × (length name ≤ 128)

name_short : (q : Option (List ℕ)) (name : List ℕ) → IsShortName q name → length name ≤ 128 → IsNameWithin (e.Name q name)
name_short q name h l r other k = subst IsShortForm (sym (outs-Name q name) ∙ ap out-Expr k ∙ outs-Name r other) (h, l)

-- an item that is a plain column has a name of at most 128 bytes
abbrev pub IsPlainShort : SelectItem → Type 0
IsPlainShort (One a alias) = (q : Option (List ℕ)) (name : List ℕ) → a ≡ e.Name q name → length name ≤ 128
IsPlainShort _ = ⊤

abbrev pub HasPlainShort : StatementBody → Type 0
HasPlainShort (Declared cs ps) = ⊤
HasPlainShort (Query ps q) = All IsPlainShort q.items

-- a statement and all that it names keep their limits
pub record IsKept (st : Statement) : Type 0 where
  pub within : IsWithinLimits st
  pub plain : HasPlainShort st.body

-- ---- what a phrase keeps

abbrev IsFit : Expr → Type 0
IsFit a = IsSmall a × IsNameWithin a

abbrev HasShortName : ColumnText → Type 0
HasShortName c = length c.name ≤ 128

abbrev IsShortAlias : Option (List ℕ) → Type 0
IsShortAlias None = ⊤
IsShortAlias (Some name) = length name ≤ 128

abbrev IsItemFit : SelectItem → Type 0
IsItemFit Star = ⊤
IsItemFit (StarOf name) = ⊤
IsItemFit (One a alias) = IsFit a × IsShortAlias alias

abbrev IsJoinFit : Option JoinText → Type 0
IsJoinFit None = ⊤
IsJoinFit (Some j) = (length (alias_of j.source) ≤ 128) × IsSmall j.on

abbrev KeepsExpr : PhraseExpr → Type 0
KeepsExpr (ge.at l a) = IsFit a
KeepsExpr (ge.exprs es) = IsTrue (are_small es)
KeepsExpr (ge.operand x) = IsTrue (is_small_perhaps x)
KeepsExpr (ge.whens ws) = IsTrue (are_whens_small ws)
KeepsExpr (ge.otherwise x) = IsTrue (is_small_perhaps x)
KeepsExpr (ge.arguments star es) = IsTrue (are_small es)
KeepsExpr _ = ⊤

abbrev Keeps : Phrase → Type 0
Keeps (g.statement st) = IsKept st
Keeps (g.columns cs) = Each HasShortName cs
Keeps (g.column c) = HasShortName c
Keeps (g.select q) = IsQueryWithin q × All IsPlainShort q.items
Keeps (g.items is) = Each IsItemFit is
Keeps (g.item i) = IsItemFit i
Keeps (g.alias a) = IsShortAlias a
Keeps (g.source s) = length (alias_of s) ≤ 128
Keeps (g.joined j) = IsJoinFit j
Keeps (g.filter x) = IsTrue (is_small_perhaps x)
Keeps (g.group es) = IsTrue (are_small es)
Keeps (g.partition x) = IsTrue (is_small_perhaps x)
Keeps (g.having x) = IsTrue (is_small_perhaps x)
Keeps _ = ⊤

source_kept : (name : List ℕ) (a : Option (List ℕ)) → length name ≤ 128 → IsShortAlias a → length (alias_of (record { name = name; alias = a })) ≤ 128
source_kept name None h k = h
source_kept name (Some a) h k = k

-- ---- a query

one_small : (x : Option Expr) → IsTrue (is_small_perhaps x) → All IsSmall (there x)
one_small None h = All-nil IsSmall
one_small (Some a) h = All-cons IsSmall a [] h (All-nil IsSmall)

all_small : (es : List Expr) → IsTrue (are_small es) → All IsSmall es
all_small [] h = All-nil IsSmall
all_small (a ∷ es) h =
    let k = and_parts (is_small a) (are_small es) h in
    All-cons IsSmall a es k.0 (all_small es k.1)

short_item : (i : SelectItem) → IsItemFit i → IsShortItem i
short_item Star h = tt
short_item (StarOf name) h = tt
short_item (One a alias) h = λ q name k. (h.0.1 q name k).0

plain_item : (i : SelectItem) → IsItemFit i → IsPlainShort i
plain_item Star h = tt
plain_item (StarOf name) h = tt
plain_item (One a alias) h = λ q name k. (h.0.1 q name k).1

short_alias : (i : SelectItem) → IsItemFit i → HasShortAlias i
short_alias Star h = tt
short_alias (StarOf name) h = tt
short_alias (One a None) h = tt
short_alias (One a (Some alias)) h = h.1

item_small : (i : SelectItem) → IsItemFit i → All IsSmall (item_exprs i)
item_small Star h = All-nil IsSmall
item_small (StarOf name) h = All-nil IsSmall
item_small (One a alias) h = All-cons IsSmall a [] h.0.0 (All-nil IsSmall)

items_small : (is : List SelectItem) → Each IsItemFit is → All IsSmall (flat_map item_exprs is)
items_small [] h = All-nil IsSmall
items_small (i ∷ is) h = All-append IsSmall (item_exprs i) (flat_map item_exprs is) (item_small i h.0) (items_small is h.1)

plain_items : (is : List SelectItem) → Each IsItemFit is → All IsPlainShort is
plain_items is h = All-from_recursion IsPlainShort is (each-weaker IsItemFit IsPlainShort plain_item is h)

abbrev HasShortSource : Source → Type 0
HasShortSource s = length (alias_of s) ≤ 128

abbrev whole : List SelectItem → Source → Option JoinText → Option WindowText → Option Expr → List Expr → Option Expr → Option Expr → Select
whole is s j w x es p h = record { items = is; source = s; join = j; window = w; filter = x; group = es; partition = p; having = h }

sources_kept : (is : List SelectItem) (s : Source) (j : Option JoinText) (w : Option WindowText) (x : Option Expr) (es : List Expr) (p h : Option Expr)
    → HasShortSource s → IsJoinFit j → All HasShortSource (sources (whole is s j w x es p h))
sources_kept is s None w x es p h k l = All-cons HasShortSource s [] k (All-nil HasShortSource)
sources_kept is s (Some j) w x es p h k l = All-cons HasShortSource s (j.source ∷ []) k (All-cons HasShortSource j.source [] l.0 (All-nil HasShortSource))

on_small : (is : List SelectItem) (s : Source) (j : Option JoinText) (w : Option WindowText) (x : Option Expr) (es : List Expr) (p h : Option Expr)
    → IsJoinFit j → All IsSmall (on_exprs (whole is s j w x es p h))
on_small is s None w x es p h l = All-nil IsSmall
on_small is s (Some j) w x es p h l = All-cons IsSmall j.on [] l.1 (All-nil IsSmall)

query_kept : (is : List SelectItem) (s : Source) (j : Option JoinText) (w : Option WindowText) (x : Option Expr) (es : List Expr) (p h : Option Expr)
    → Each IsItemFit is → HasShortSource s → IsJoinFit j → IsTrue (is_small_perhaps x) → IsTrue (are_small es)
    → IsTrue (is_small_perhaps p) → IsTrue (is_small_perhaps h)
    → IsQueryWithin (whole is s j w x es p h)
query_kept is s j w x es p h is_kept s_kept j_kept x_kept es_kept p_kept h_kept = record {
  items_short = All-from_recursion IsShortItem is (each-weaker IsItemFit IsShortItem short_item is is_kept);
  item_aliases_short = All-from_recursion HasShortAlias is (each-weaker IsItemFit HasShortAlias short_alias is is_kept);
  aliases_short = sources_kept is s j w x es p h s_kept j_kept;
  early_small = All-append IsSmall (on_exprs (whole is s j w x es p h) ++ there x ++ es) (there p)
      (All-append IsSmall (on_exprs (whole is s j w x es p h) ++ there x) es
      (All-append IsSmall (on_exprs (whole is s j w x es p h)) (there x) (on_small is s j w x es p h j_kept) (one_small x x_kept)) (all_small es es_kept))
      (one_small p p_kept);
  late_small = All-append IsSmall (flat_map item_exprs is) (there h) (items_small is is_kept) (one_small h h_kept);
}

-- ---- each rule

keeps_expr : {p : PhraseExpr} {ts us : List Symbol} → SpellsExpr p ts us → Small ts → KeepsExpr p × Small us
keeps_expr (ge.one_conj d) s = keeps_expr d s
keeps_expr (ge.or {o = o} {a = a} {b = b} d h f) s =
    let x = keeps_expr d s in
    let y = keeps_expr f x.1.1 in
    ((binary_small o a b x.0.0 y.0.0, λ q n k. absurd (cc (k))), y.1)
keeps_expr (ge.one_neg d) s = keeps_expr d s
keeps_expr (ge.and {o = o} {a = a} {b = b} d h f) s =
    let x = keeps_expr d s in
    let y = keeps_expr f x.1.1 in
    ((binary_small o a b x.0.0 y.0.0, λ q n k. absurd (cc (k))), y.1)
keeps_expr (ge.not {a = a} d) s =
    let x = keeps_expr d s.1 in
    ((not_small a x.0.0, λ q n k. absurd (cc (k))), x.1)
keeps_expr (ge.one_pred d) s = keeps_expr d s
keeps_expr (ge.one_sum d) s = keeps_expr d s
keeps_expr (ge.compared {o = o} {a = a} {b = b} d h f) s =
    let x = keeps_expr d s in
    let y = keeps_expr f x.1.1 in
    ((binary_small o a b x.0.0 y.0.0, λ q n k. absurd (cc (k))), y.1)
keeps_expr (ge.is_null {n = m} {a = a} d f) s =
    let x = keeps_expr d s in
    let y = keeps_expr f x.1.1 in
    ((is_null_small m a x.0.0, λ q n k. absurd (cc (k))), y.1.1)
keeps_expr (ge.between {n = m} {a = a} {low = low} {high = high} d f c b) s =
    let x = keeps_expr d s in
    let y = keeps_expr f x.1 in
    let l = keeps_expr c y.1.1 in
    let r = keeps_expr b l.1.1 in
    ((between_small m a low high x.0.0 l.0.0 r.0.0, λ q n k. absurd (cc (k))), r.1)
keeps_expr (ge.one_of {n = m} {a = a} {es = es} d f c) s =
    let x = keeps_expr d s in
    let y = keeps_expr f x.1 in
    let l = keeps_expr c y.1.1.1 in
    ((one_of_small m a es x.0.0 l.0, λ q n k. absurd (cc (k))), l.1.1)
keeps_expr (ge.like {n = m} {a = a} {pattern = pattern} d f) s =
    let x = keeps_expr d s in
    let y = keeps_expr f x.1 in
    ((like_small m a pattern x.0.0 y.1.1.0, λ q n k. absurd (cc (k))), y.1.1.1)
keeps_expr ge.plainly s = (tt, s)
keeps_expr ge.negated s = (tt, s.1)
keeps_expr (ge.one_prod d) s = keeps_expr d s
keeps_expr (ge.added {o = o} {a = a} {b = b} d h f) s =
    let x = keeps_expr d s in
    let y = keeps_expr f x.1.1 in
    ((binary_small o a b x.0.0 y.0.0, λ q n k. absurd (cc (k))), y.1)
keeps_expr (ge.one_unary d) s = keeps_expr d s
keeps_expr (ge.multiplied {o = o} {a = a} {b = b} d h f) s =
    let x = keeps_expr d s in
    let y = keeps_expr f x.1.1 in
    ((binary_small o a b x.0.0 y.0.0, λ q n k. absurd (cc (k))), y.1)
keeps_expr (ge.signed {m = m} {a = a} h d) s =
    let x = keeps_expr d s.1 in
    ((sign_small m a x.0.0, λ q n k. absurd (cc (k))), x.1)
keeps_expr (ge.one_primary d) s = keeps_expr d s
keeps_expr (ge.digits {n = number}) s = ((digits_small number s.0, λ q n k. absurd (cc (k))), s.1)
keeps_expr (ge.text {content = content}) s = ((text_small content s.0, λ q n k. absurd (cc (k))), s.1)
keeps_expr (ge.truth {b = b} h) s = ((truth_small b, λ q n k. absurd (cc (k))), s.1)
keeps_expr ge.null s = ((null_small, λ q n k. absurd (cc (k))), s.1)
keeps_expr (ge.cast {a = a} {ty = ty} d h) s =
    let x = keeps_expr d s.1.1 in
    ((cast_small a ty x.0.0, λ q n k. absurd (cc (k))), x.1.1.1.1)
keeps_expr (ge.case {x = x} {y = z} {ws = ws} d f c) s =
    let a = keeps_expr d s.1 in
    let b = keeps_expr f a.1 in
    let o = keeps_expr c b.1 in
    ((case_small x ws z a.0 b.0 o.0, λ q n k. absurd (cc (k))), o.1.1)
keeps_expr ge.no_operand s = (refl, s)
keeps_expr (ge.an_operand d) s =
    let a = keeps_expr d s in
    (a.0.0, a.1)
keeps_expr (ge.last_when {c = c} {r = r} d f) s =
    let a = keeps_expr d s.1 in
    let b = keeps_expr f a.1.1 in
    (and_from (is_small c && is_small r) true (and_from (is_small c) (is_small r) a.0.0 b.0.0) refl, b.1)
keeps_expr (ge.more_whens {c = c} {r = r} {ws = ws} d f h) s =
    let a = keeps_expr d s.1 in
    let b = keeps_expr f a.1.1 in
    let l = keeps_expr h b.1 in
    (and_from (is_small c && is_small r) (are_whens_small ws) (and_from (is_small c) (is_small r) a.0.0 b.0.0) l.0, l.1)
keeps_expr ge.no_else s = (refl, s)
keeps_expr (ge.an_else d) s =
    let a = keeps_expr d s.1 in
    (a.0.0, a.1)
keeps_expr (ge.call {name = name} {is_star = star} {es = es} h d) s =
    let x = keeps_expr d s.1.1 in
    ((call_small name star es x.0, λ q n k. absurd (cc (k))), x.1.1)
keeps_expr ge.no_arguments s = (refl, s)
keeps_expr ge.star_argument s = (refl, s.1)
keeps_expr (ge.some_arguments d) s = keeps_expr d s
keeps_expr (ge.name {n = n} {name = name} h) s = ((name_small None name, name_short None name tt (short_name n name h s.0)), s.1)
keeps_expr (ge.name_in {q = q} {n = n} {qualifier = qualifier} {name = name} h k) s =
    ((name_small (Some qualifier) name, name_short (Some qualifier) name (short_name q qualifier h s.0, short_name n name k s.1.1.0) (short_name n name k s.1.1.0)), s.1.1.1)
keeps_expr (ge.parens d) s =
    let x = keeps_expr d s.1 in
    (x.0, x.1.1)
keeps_expr (ge.last_expr {a = a} d) s =
    let x = keeps_expr d s in
    (and_from (is_small a) true x.0.0 refl, x.1)
keeps_expr (ge.more_exprs {a = a} {es = es} d f) s =
    let x = keeps_expr d s in
    let y = keeps_expr f x.1.1 in
    (and_from (is_small a) (are_small es) x.0.0 y.0, y.1)

keeps : {p : Phrase} {ts us : List Symbol} → Spells p ts us → Small ts → Keeps p × Small us
keeps (g.declared {n = n} {name = name} {cs = cs} h k d f) s =
    let c = keeps d s.1.1.1.1 in
    let p = keeps f c.1.1.1 in
    (record { within = record { named = short_name n name k s.1.1.0; body = All-from_recursion HasShortName cs c.0 }; plain = tt }, p.1)
keeps (g.query {n = n} {name = name} h k d f) s =
    let p = keeps d s.1.1.1 in
    let q = keeps f p.1.1 in
    (record { within = record { named = short_name n name k s.1.1.0; body = q.0.0 }; plain = q.0.1 }, q.1)
keeps (g.last_column d) s =
    let c = keeps d s in
    ((c.0, tt), c.1)
keeps (g.more_columns d f) s =
    let c = keeps d s in
    let cs = keeps f c.1.1 in
    ((c.0, cs.0), cs.1)
keeps (g.a_column {n = n} {name = name} h k d) s = (short_name n name h s.0, (keeps d s.1.1).1)
keeps g.no_key s = (tt, s)
keeps (g.key_word h) s = (tt, s.1)
keeps (g.primary_key h k) s = (tt, s.1.1)
keeps g.no_props s = (tt, s)
keeps (g.some_props d) s = (tt, (keeps d s.1).1)
keeps (g.all_props d) s = (tt, (keeps d s.1).1.1)
keeps (g.last_prop d) s = (tt, (keeps d s).1)
keeps (g.more_props d f) s = (tt, (keeps f (keeps d s).1.1).1)
keeps (g.text_prop h) s = (tt, s.1.1.1)
keeps (g.digits_prop h) s = (tt, s.1.1.1)
keeps (g.a_select {is = is} {s = source} {j = j} {w = w} {f = x} {g = es} {p = p} {h = h} d0 d1 d2 d3 d4 d5 d6 d7 d8) s =
    let k0 = keeps d0 s.1 in
    let k1 = keeps d1 k0.1.1 in
    let k2 = keeps d2 k1.1 in
    let k3 = keeps d3 k2.1 in
    let k4 = keeps d4 k3.1 in
    let k5 = keeps d5 k4.1 in
    let k6 = keeps d6 k5.1 in
    let k7 = keeps d7 k6.1 in
    ((query_kept is source j w x es p h k0.0 k1.0 k2.0 k4.0 k5.0 k6.0 k7.0, plain_items is k0.0), (keeps d8 k7.1).1)
keeps (g.last_item d) s =
    let i = keeps d s in
    ((i.0, tt), i.1)
keeps (g.more_items d f) s =
    let i = keeps d s in
    let is = keeps f i.1.1 in
    ((i.0, is.0), is.1)
keeps g.star s = (tt, s.1)
keeps (g.star_of h) s = (tt, s.1.1.1)
keeps (g.one d f) s =
    let a = keeps_expr d s in
    let n = keeps f a.1 in
    ((a.0, n.0), n.1)
keeps g.no_alias s = (tt, s)
keeps (g.plain_alias {n = n} {name = name} h) s = (short_name n name h s.0, s.1)
keeps (g.as_alias {n = n} {name = name} h) s = (short_name n name h s.1.0, s.1.1)
keeps (g.a_source {n = n} {name = name} {a = a} h d) s =
    let k = keeps d s.1 in
    (source_kept name a (short_name n name h s.0) k.0, k.1)
keeps g.no_join s = (tt, s)
keeps (g.a_join d f c) s =
    let k = keeps f (keeps d s).1 in
    let on = keeps_expr c k.1.1 in
    ((k.0, on.0.0), on.1)
keeps g.join s = (tt, s.1)
keeps g.inner_join s = (tt, s.1.1)
keeps g.left_join s = (tt, s.1.1)
keeps g.left_outer_join s = (tt, s.1.1.1)
keeps g.full_join s = (tt, s.1.1)
keeps g.full_outer_join s = (tt, s.1.1.1)
keeps g.no_window s = (tt, s)
keeps (g.a_window d) s = (tt, (keeps d s.1).1)
keeps (g.tumbling h k d f c) s = (tt, (keeps c (keeps f (keeps d s.1.1.1).1).1).1.1)
keeps (g.hopping h k l d f c b) s = (tt, (keeps b (keeps c (keeps f (keeps d s.1.1.1).1.1.1.1).1).1).1.1)
keeps g.no_retention s = (tt, s)
keeps (g.a_retention h d) s = (tt, (keeps d s.1.1).1)
keeps g.no_grace s = (tt, s)
keeps (g.a_grace h k d) s = (tt, (keeps d s.1.1.1).1)
keeps (g.a_span h) s = (tt, s.1.1)
keeps g.no_filter s = (refl, s)
keeps (g.a_filter d) s =
    let a = keeps_expr d s.1 in
    (a.0.0, a.1)
keeps g.no_group s = (refl, s)
keeps (g.a_group d) s = keeps_expr d s.1.1
keeps g.no_partition s = (refl, s)
keeps (g.a_partition d) s =
    let a = keeps_expr d s.1.1 in
    (a.0.0, a.1)
keeps g.no_having s = (refl, s)
keeps (g.a_having d) s =
    let a = keeps_expr d s.1 in
    (a.0.0, a.1)
keeps g.no_emit s = (tt, s)
keeps (g.changes h) s = (tt, s.1.1)

-- ---- statements

tree_kept : (ts : List TokenKind) (st : Statement) → IsTreeOf ts st → IsKept st
tree_kept ts st h = (keeps h.1 (symbols_kept ts h.0.1.1.0)).0

trees_kept : (parts : List (List TokenKind)) (sts : List Statement) → AllZip IsTreeOf parts sts → All IsKept sts
trees_kept [] [] h = All-nil IsKept
trees_kept [] (st ∷ sts) h = absurd h
trees_kept (ts ∷ parts) [] h = absurd h
trees_kept (ts ∷ parts) (st ∷ sts) h = All-cons IsKept st sts (tree_kept ts st h.0) (trees_kept parts sts h.1)

pub parsed-kept : (sts : List Statement) → AreParsed sts → All IsKept sts
parsed-kept sts h = trees_kept h.0 sts h.1

pub parsed-within : (sts : List Statement) → AreParsed sts → All IsWithinLimits sts
parsed-within sts h = All-weaker IsKept IsWithinLimits (λ st k. k.within) sts (parsed-kept sts h)
