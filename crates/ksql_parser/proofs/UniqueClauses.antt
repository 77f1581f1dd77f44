-- How the clauses of a query are read whole, and that what is spelled is what is read. Each ends where a later clause
-- begins, or nothing.
use Rattle.std.proofs.Common.{◌≡◌, ℕ, suc, ◌<◌, ◌≤◌, List, [], ◌∷◌, length, Option, Some, None, codes, refl, ap, ◌∙◌, arith}
use Rattle.ksql_grammar.specs.declared.symbol.Keyword.{Keyword}
use Rattle.ksql_grammar.specs.declared.symbol.Keyword.TheVariants as key
use Rattle.ksql_grammar.specs.declared.symbol.Symbol.{Symbol}
use Rattle.ksql_grammar.specs.declared.symbol.Symbol.TheVariants.{Key, Word, Quoted}
use Rattle.expression_trees.specs.declared.tree.Expr.{Expr}
use Rattle.statement_trees.specs.declared.tree.JoinText.{JoinText}
use Rattle.statement_trees.specs.declared.tree.JoinWord.{JoinWord}
use Rattle.statement_trees.specs.declared.tree.Source.{Source}
use Rattle.statement_trees.specs.declared.tree.WindowText.{WindowText}
use Rattle.ksql_parser.specs.Grammar as g
use Rattle.ksql_grammar.specs.Grammar.{Spells as SpellsExpr, at, expr, exprs}
use Rattle.ksql_parser.specs.Grammar.{Spells}
use Rattle.ksql_grammar.specs.Expressions.{Reader, after_key}
use Rattle.expression_trees.specs.Options.{◌>>=◌}
use Rattle.ksql_grammar.specs.Expressions as reading
use Rattle.ksql_grammar.specs.Reading.{EndsExpr, EndsExprs}
use Rattle.ksql_grammar.proofs.Ends.{Rest, rest_weaker}
use Rattle.ksql_grammar.proofs.Only.{key_out}
use Rattle.ksql_grammar.proofs.Whole.{expression_only, expressions_only}
use Rattle.ksql_parser.specs.Statements as r
use Rattle.ksql_parser.specs.Statements.{place_of, BeginsFrom, after_by}
use Rattle.ksql_parser.proofs.Steps.{bind_is}
use Rattle.ksql_grammar.proofs.Steps.{key_there}
use Rattle.ksql_parser.proofs.Only.{clause_ends, clause_ends_list}
use Rattle.ksql_parser.proofs.UniqueParts.{NoAlias, word_at, source_read, join_words_read}
use Rattle.ksql_parser.proofs.UniqueWindows.{window_read}

-- ---- places

from_rest : (n : ℕ) (ts : List Symbol) → BeginsFrom n ts → Rest (λ s. n ≤ place_of s) ts
from_rest n [] h = tt
from_rest n (s ∷ ts) h = h

pub from_weaker : (m n : ℕ) (ts : List Symbol) → m ≤ n → BeginsFrom n ts → BeginsFrom m ts
from_weaker m n [] le h = tt
from_weaker m n (s ∷ ts) le h = omega (arith, le, h)

key_before : (k : Keyword) (n : ℕ) (ts : List Symbol) → place_of (Key k) < n → BeginsFrom n ts → after_key k ts ≡ None
key_before k n ts lt h = key_out k (λ s. n ≤ place_of s) ts (from_rest n ts h) (λ p. omega (arith, lt, p))

by_before : (k : Keyword) (n : ℕ) (ts : List Symbol) → place_of (Key k) < n → BeginsFrom n ts → after_by k ts ≡ None
unfolding after_by
by_before k n ts lt h = ap (λ o. o >>= after_key key.By) (key_before k n ts lt h)

by_there : (k : Keyword) (ts : List Symbol) → after_by k (Key k ∷ Key key.By ∷ ts) ≡ Some ts
unfolding after_by
by_there k ts = bind_is (after_key key.By) (key_there k (Key key.By ∷ ts)) (key_there key.By ts)

place_no_alias : (s : Symbol) → 1 ≤ place_of s → NoAlias s
place_no_alias (Key key.As) h = absurd (omega (arith, h))
place_no_alias (Word w) h = absurd (omega (arith, h))
place_no_alias (Quoted w) h = absurd (omega (arith, h))
place_no_alias _ h = refl

pub from_no_alias : (ts : List Symbol) → BeginsFrom 1 ts → Rest NoAlias ts
from_no_alias ts h = rest_weaker (λ s. 1 ≤ place_of s) NoAlias place_no_alias ts (from_rest 1 ts h)

-- ---- readers

unfoldable pub expression : Reader Expr
expression ts = reading.within (suc (length ts)) ts

pub expressions : Reader (List Expr)
expressions ts = reading.exprs (reading.within (suc (length ts))) ts

-- an optional part, after its words if they are present
abbrev pub option_at : {A : Type 0} → Reader A → List Symbol → Option (List Symbol) → Option (Option A × List Symbol)
option_at read ts (Some us) = read us >>= λ a. Some (Some a.0, a.1)
option_at read ts None = Some (None, ts)

-- a list that may be left out
abbrev pub list_at : {A : Type 0} → Reader (List A) → List Symbol → Option (List Symbol) → Option (List A × List Symbol)
list_at read ts (Some us) = read us
list_at read ts None = Some ([], ts)

abbrev join_of : JoinWord → Source → Expr → JoinText
join_of k s a = record { kind = k; source = s; on = a }

abbrev join_at : List Symbol → Option (JoinWord × List Symbol) → Option (Option JoinText × List Symbol)
join_at ts (Some k) = do
  s ← r.source k.1
  us ← after_key key.On s.1
  a ← expression us
  Some (Some (join_of k.0 s.0 a.0), a.1)
join_at ts None = Some (None, ts)

pub joined : Reader (Option JoinText)
joined ts = join_at ts (r.join_words ts)

pub filter : Reader (Option Expr)
filter ts = option_at expression ts (after_key key.Where ts)

pub group : Reader (List Expr)
group ts = list_at expressions ts (after_by key.Group ts)

pub partition : Reader (Option Expr)
partition ts = option_at expression ts (after_by key.Partition ts)

pub having : Reader (Option Expr)
having ts = option_at expression ts (after_key key.Having ts)

-- ---- joins

pub expression_read : (a : Expr) (ts us : List Symbol) → SpellsExpr (at expr a) ts us → EndsExpr us → expression ts ≡ Some (a, us)
unfolding expression
expression_read a ts us d ends = expression_only a ts us d ends

expressions_read : (es : List Expr) (ts us : List Symbol) → SpellsExpr (exprs es) ts us → EndsExprs us → expressions ts ≡ Some (es, us)
unfolding expressions
expressions_read es ts us d ends = expressions_only es ts us d ends

no_join_words : (ts : List Symbol) → BeginsFrom 2 ts → r.join_words ts ≡ None
unfolding r.join_words
no_join_words [] h = refl
no_join_words (Key key.Join ∷ ts) h = absurd (omega (arith, h))
no_join_words (Key key.Inner ∷ ts) h = absurd (omega (arith, h))
no_join_words (Key key.Left ∷ ts) h = absurd (omega (arith, h))
no_join_words (Key key.Full ∷ ts) h = absurd (omega (arith, h))
no_join_words (_ ∷ ts) h = refl

pub joined_read : {j : Option JoinText} {ts us : List Symbol} → Spells (g.joined j) ts us → BeginsFrom 2 us → joined ts ≡ Some (j, us)
unfolding joined
joined_read (g.no_join {ts}) ends = ap (join_at ts) (no_join_words ts ends)
joined_read (g.a_join {k} {s} {a} {ts} {us} {vs} {ws} d f h) ends =
    ap (join_at ts) (join_words_read d)
    ∙ bind_is _ (source_read f refl) (bind_is _ (key_there key.On vs) (bind_is _ (expression_read a vs ws h (clause_ends 1 ws ends)) refl))

words_from : {k : JoinWord} {ts us : List Symbol} → Spells (g.join_words k) ts us → BeginsFrom 1 ts
words_from g.join = omega arith
words_from g.inner_join = omega arith
words_from g.left_join = omega arith
words_from g.left_outer_join = omega arith
words_from g.full_join = omega arith
words_from g.full_outer_join = omega arith

pub joined_from : {j : Option JoinText} {ts us : List Symbol} → Spells (g.joined j) ts us → BeginsFrom 2 us → BeginsFrom 1 ts
joined_from (g.no_join {ts}) h = from_weaker 1 2 ts (omega arith) h
joined_from (g.a_join d f k) h = words_from d

-- ---- windows

pub windowed_read : {w : Option WindowText} {ts us : List Symbol} → Spells (g.windowed w) ts us → BeginsFrom 3 us → r.windowed ts ≡ Some (w, us)
unfolding r.windowed
windowed_read (g.no_window {ts}) ends = ap (r.windowed_at ts) (key_before key.Window 3 ts (omega arith) ends)
windowed_read (g.a_window {w} {ts} {us} d) ends =
    ap (r.windowed_at (Key key.Window ∷ ts)) (key_there key.Window ts) ∙ bind_is _ (window_read d) refl

pub windowed_from : {w : Option WindowText} {ts us : List Symbol} → Spells (g.windowed w) ts us → BeginsFrom 3 us → BeginsFrom 2 ts
windowed_from (g.no_window {ts}) h = from_weaker 2 3 ts (omega arith) h
windowed_from (g.a_window d) h = omega arith

-- ---- expressions after their words

pub filter_read : {f : Option Expr} {ts us : List Symbol} → Spells (g.filter f) ts us → BeginsFrom 4 us → filter ts ≡ Some (f, us)
unfolding filter
filter_read (g.no_filter {ts}) ends = ap (option_at expression ts) (key_before key.Where 4 ts (omega arith) ends)
filter_read (g.a_filter {a} {ts} {us} d) ends =
    ap (option_at expression (Key key.Where ∷ ts)) (key_there key.Where ts) ∙ bind_is _ (expression_read a ts us d (clause_ends 3 us ends)) refl

pub filter_from : {f : Option Expr} {ts us : List Symbol} → Spells (g.filter f) ts us → BeginsFrom 4 us → BeginsFrom 3 ts
filter_from (g.no_filter {ts}) h = from_weaker 3 4 ts (omega arith) h
filter_from (g.a_filter d) h = omega arith

pub group_read : {es : List Expr} {ts us : List Symbol} → Spells (g.group es) ts us → BeginsFrom 5 us → group ts ≡ Some (es, us)
unfolding group
group_read (g.no_group {ts}) ends = ap (list_at expressions ts) (by_before key.Group 5 ts (omega arith) ends)
group_read (g.a_group {es} {ts} {us} d) ends =
    ap (list_at expressions (Key key.Group ∷ Key key.By ∷ ts)) (by_there key.Group ts) ∙ expressions_read es ts us d (clause_ends_list 4 us ends)

pub group_from : {es : List Expr} {ts us : List Symbol} → Spells (g.group es) ts us → BeginsFrom 5 us → BeginsFrom 4 ts
group_from (g.no_group {ts}) h = from_weaker 4 5 ts (omega arith) h
group_from (g.a_group d) h = omega arith

pub partition_read : {f : Option Expr} {ts us : List Symbol} → Spells (g.partition f) ts us → BeginsFrom 6 us → partition ts ≡ Some (f, us)
unfolding partition
partition_read (g.no_partition {ts}) ends = ap (option_at expression ts) (by_before key.Partition 6 ts (omega arith) ends)
partition_read (g.a_partition {a} {ts} {us} d) ends =
    ap (option_at expression (Key key.Partition ∷ Key key.By ∷ ts)) (by_there key.Partition ts) ∙ bind_is _ (expression_read a ts us d (clause_ends 5 us ends)) refl

pub partition_from : {f : Option Expr} {ts us : List Symbol} → Spells (g.partition f) ts us → BeginsFrom 6 us → BeginsFrom 5 ts
partition_from (g.no_partition {ts}) h = from_weaker 5 6 ts (omega arith) h
partition_from (g.a_partition d) h = omega arith

pub having_read : {f : Option Expr} {ts us : List Symbol} → Spells (g.having f) ts us → BeginsFrom 7 us → having ts ≡ Some (f, us)
unfolding having
having_read (g.no_having {ts}) ends = ap (option_at expression ts) (key_before key.Having 7 ts (omega arith) ends)
having_read (g.a_having {a} {ts} {us} d) ends =
    ap (option_at expression (Key key.Having ∷ ts)) (key_there key.Having ts) ∙ bind_is _ (expression_read a ts us d (clause_ends 6 us ends)) refl

pub having_from : {f : Option Expr} {ts us : List Symbol} → Spells (g.having f) ts us → BeginsFrom 7 us → BeginsFrom 6 ts
having_from (g.no_having {ts}) h = from_weaker 6 7 ts (omega arith) h
having_from (g.a_having d) h = omega arith

-- ---- EMIT CHANGES

pub emit_read : {ts us : List Symbol} → Spells g.emit ts us → BeginsFrom 8 us → r.emit ts ≡ us
unfolding r.emit r.after_changes
emit_read (g.no_emit {ts}) ends =
    ap (λ o. r.after_or_here ts (o >>= r.after_word (codes "CHANGES"))) (key_before key.Emit 8 ts (omega arith) ends)
emit_read (g.changes {c} {ts} h) ends =
    ap (r.after_or_here (Key key.Emit ∷ c ∷ ts)) (bind_is (r.after_word (codes "CHANGES")) (key_there key.Emit (c ∷ ts)) (word_at (codes "CHANGES") c ts h))

pub emit_from : {ts us : List Symbol} → Spells g.emit ts us → BeginsFrom 8 us → BeginsFrom 7 ts
emit_from (g.no_emit {ts}) h = from_weaker 7 8 ts (omega arith) h
emit_from (g.changes e) h = omega arith
