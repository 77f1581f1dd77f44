-- What is spelled as a query is read.
use Rattle.std.proofs.Common.{◌≡◌, ℕ, ◌≤◌, List, [], ◌∷◌, Option, Some, None, Result, Ok, Err, codes, refl, sym, ap, ◌∙◌, subst, arith}
use Rattle.std.proofs.lemmas.Option.{same_Some}
use Rattle.ksql_grammar.specs.declared.symbol.Keyword.{Keyword}
use Rattle.ksql_grammar.specs.declared.symbol.Keyword.TheVariants as key
use Rattle.ksql_grammar.specs.declared.symbol.Symbol.{Symbol}
use Rattle.ksql_grammar.specs.declared.symbol.Symbol.TheVariants.{Key, Word}
use Rattle.expression_trees.specs.declared.tree.Expr.{Expr}
use Rattle.statement_trees.specs.declared.tree.JoinText.{JoinText}
use Rattle.statement_trees.specs.declared.tree.JoinWord.{JoinWord}
use Rattle.statement_trees.specs.declared.tree.Select.{Select}
use Rattle.statement_trees.specs.declared.tree.SelectItem.{SelectItem}
use Rattle.statement_trees.specs.declared.tree.Source.{Source}
use Rattle.statement_trees.specs.declared.tree.WindowText.{WindowText}
use Rattle.ksql_parser.specs.Grammar as g
use Rattle.ksql_parser.specs.Grammar.{Spells}
use Rattle.ksql_grammar.specs.Expressions.{after_key}
use Rattle.expression_trees.specs.Options.{◌>>=◌}
use Rattle.ksql_parser.specs.declared.statement.queries.Front.{Front}
use Rattle.ksql_parser.specs.declared.statement.queries.Clauses.{Clauses}
use Rattle.ksql_parser.specs.Queries.{SpellsFront, SpellsClauses, select_of}
use Rattle.ksql_parser.specs.Statements as r
use Rattle.ksql_parser.specs.Statements.{BeginsFrom, place_of}
use Rattle.ksql_parser.proofs.Steps.{behind, word_there, bind_is}
use Rattle.ksql_grammar.proofs.Steps.{key_there}
use Rattle.ksql_parser.proofs.Found.{emit_found}
use Rattle.ksql_parser.proofs.Only.{both}
use Rattle.ksql_parser.proofs.Joins.{source_only, clause_no_alias}
use Rattle.ksql_parser.proofs.Windows.{window_only}

-- what begins with a later clause begins from an earlier one on
pub later : (n m : ℕ) (ts : List Symbol) → n ≤ m → BeginsFrom m ts → BeginsFrom n ts
later n m [] h b = tt
later n m (s ∷ ts) h b = omega (arith, h, b)

emit_from : (ts rest : List Symbol) → Spells g.emit ts rest → rest ≡ [] → BeginsFrom 7 ts
emit_from ts rest g.no_emit e = subst (BeginsFrom 7) (sym e) tt
emit_from ts rest (g.changes h) e = omega arith

having_from : (f : Option Expr) (ts rest : List Symbol) → Spells (g.having f) ts rest → BeginsFrom 7 rest → BeginsFrom 6 ts
having_from f ts rest g.no_having b = later 6 7 ts (omega arith) b
having_from f ts rest (g.a_having d) b = omega arith

partition_from : (f : Option Expr) (ts rest : List Symbol) → Spells (g.partition f) ts rest → BeginsFrom 6 rest → BeginsFrom 5 ts
partition_from f ts rest g.no_partition b = later 5 6 ts (omega arith) b
partition_from f ts rest (g.a_partition d) b = omega arith

group_from : (es : List Expr) (ts rest : List Symbol) → Spells (g.group es) ts rest → BeginsFrom 5 rest → BeginsFrom 4 ts
group_from es ts rest g.no_group b = later 4 5 ts (omega arith) b
group_from es ts rest (g.a_group d) b = omega arith

filter_from : (f : Option Expr) (ts rest : List Symbol) → Spells (g.filter f) ts rest → BeginsFrom 4 rest → BeginsFrom 3 ts
filter_from f ts rest g.no_filter b = later 3 4 ts (omega arith) b
filter_from f ts rest (g.a_filter d) b = omega arith

window_from : (w : Option WindowText) (ts rest : List Symbol) → Spells (g.windowed w) ts rest → BeginsFrom 3 rest → BeginsFrom 2 ts
window_from w ts rest g.no_window b = later 2 3 ts (omega arith) b
window_from w ts rest (g.a_window d) b = omega arith

words_from : (k : JoinWord) (ts rest : List Symbol) → Spells (g.join_words k) ts rest → BeginsFrom 1 ts
words_from k ts rest g.join = omega arith
words_from k ts rest g.inner_join = omega arith
words_from k ts rest g.left_join = omega arith
words_from k ts rest g.left_outer_join = omega arith
words_from k ts rest g.full_join = omega arith
words_from k ts rest g.full_outer_join = omega arith

join_from : (j : Option JoinText) (ts rest : List Symbol) → Spells (g.joined j) ts rest → BeginsFrom 2 rest → BeginsFrom 1 ts
join_from j ts rest g.no_join b = later 1 2 ts (omega arith) b
join_from j ts rest (g.a_join {k} {us} w s d) b = words_from k ts us w

-- where the clauses of what was spelled begin
pub front_begins : (f : Front) (ts rest : List Symbol) → (h : SpellsFront f ts rest) → BeginsFrom 3 rest → BeginsFrom 1 h.2 × BeginsFrom 2 h.3
front_begins f ts rest h b =
    let w = window_from f.window h.3 rest h.8 b in
    (join_from f.join h.2 h.3 h.7 w, w)

pub clauses_begin : (c : Clauses) (ts rest : List Symbol) → (h : SpellsClauses c ts rest) → BeginsFrom 7 rest
    → BeginsFrom 3 ts × BeginsFrom 4 h.0 × BeginsFrom 5 h.1 × BeginsFrom 6 h.2
clauses_begin c ts rest h b =
    let last = having_from c.having h.2 rest h.6 b in
    let third = partition_from c.partition h.1 h.2 h.5 last in
    let second = group_from c.group h.0 h.1 h.4 third in
    (filter_from c.filter ts h.0 h.3 second, second, third, last)

changes_there : (c : Symbol) (ts : List Symbol) → c ≡ Word (codes "CHANGES") → r.after_changes (Key key.Emit ∷ c ∷ ts) ≡ Some ts
unfolding r.after_changes
changes_there c ts h = bind_is (r.after_word (codes "CHANGES")) (key_there key.Emit (c ∷ ts)) (ap (λ s. r.after_word (codes "CHANGES") (s ∷ ts)) h ∙ word_there (codes "CHANGES") ts)

no_changes : r.after_changes [] ≡ None
unfolding r.after_changes after_key
no_changes = refl

emit_only : (ts rest : List Symbol) → Spells g.emit ts rest → rest ≡ [] → r.emit ts ≡ []
unfolding r.emit
emit_only ts rest g.no_emit e = ap (λ us. r.after_or_here us (r.after_changes us)) e ∙ ap (r.after_or_here []) no_changes
emit_only ts rest (g.changes {c} h) e = ap (r.after_or_here ts) (changes_there c rest h) ∙ e

-- the parts of a query
abbrev pub front_of : Select → Front
front_of q = record { items = q.items; source = q.source; join = q.join; window = q.window }

abbrev pub clauses_of : Select → Clauses
clauses_of q = record { filter = q.filter; group = q.group; partition = q.partition; having = q.having }

abbrev pub HasParts : Select → List Symbol → Type 0
HasParts q ts = (us vs : List Symbol) × SpellsFront (front_of q) ts us × SpellsClauses (clauses_of q) us vs × BeginsFrom 3 us × BeginsFrom 7 vs × (r.emit vs ≡ [])

pub parts_of : (q : Select) (ts rest : List Symbol) → rest ≡ [] → Spells (g.select q) ts rest → HasParts q ts
parts_of q ts rest e (g.a_select {is} {s} {j} {w} {f} {g = es} {p} {h} {s0} {s1} {s2} {s3} {s4} {s5} {s6} {s7} {s8} items source joined window filter group partition having emit) =
    let front : SpellsFront (record { items = is; source = s; join = j; window = w }) ts s4 = (s0, s1, s2, s3, refl, items, source, joined, window) in
    let clauses : SpellsClauses (record { filter = f; group = es; partition = p; having = h }) s4 s8 = (s5, s6, s7, filter, group, partition, having) in
    let last = emit_from s8 rest emit e in
    let third = partition_from p s6 s7 partition (having_from h s7 s8 having last) in
    let second = group_from es s5 s6 group third in
    (s4, s8, front, clauses, filter_from f s4 s5 filter second, last, emit_only s8 rest emit e)

-- the symbols after a reserved word
pub same_key : (k : Keyword) (ts us vs : List Symbol) → ts ≡ Key k ∷ us → after_key k ts ≡ Some vs → us ≡ vs
same_key k ts us vs e h = same_Some us vs (sym (ap (after_key k) e ∙ key_there k us) ∙ h)

pub key_is : (k : Keyword) (ts us : List Symbol) → ts ≡ Key k ∷ us → after_key k ts ≡ Some us
key_is k ts us e = ap (after_key k) e ∙ key_there k us

-- the steps of reading the first half, by what was read before
module _ (f : Front) (ts rest : List Symbol) (d : SpellsFront f ts rest) where
  pub items_there : (us : List Symbol) → after_key key.Select ts ≡ Some us → Spells (g.items f.items) us (Key key.From ∷ d.1)
  items_there us h = behind (sym (same_key key.Select ts d.0 us d.4 h)) d.5

  pub source_there : (vs us : List Symbol) → Key key.From ∷ d.1 ≡ vs → after_key key.From vs ≡ Some us → BeginsFrom 3 rest → r.source us ≡ both f.source d.2
  source_there vs us e h b =
      ap r.source (sym (same_key key.From vs d.1 us (sym e) h)) ∙ source_only f.source d.1 d.2 d.6 (clause_no_alias d.2 (front_begins f ts rest d b).0)

  pub join_there : (us : List Symbol) → d.2 ≡ us → Spells (g.joined f.join) us d.3
  join_there us e = behind (sym e) d.7

  pub window_there : (us : List Symbol) → d.3 ≡ us → BeginsFrom 3 rest → r.windowed us ≡ both f.window rest
  window_there us e b = ap r.windowed (sym e) ∙ window_only f.window d.3 rest d.8 b

pub front_read : (f : Front) (is : List SelectItem) (s : Source) (j : Option JoinText) (w : Option WindowText) (us vs : List Symbol)
    → f.items ≡ is → f.source ≡ s → f.join ≡ j → f.window ≡ w → us ≡ vs → both f us ≡ both (record { items = is; source = s; join = j; window = w }) vs
front_read f is s j w us vs a b c d e = λ i. let x : Front = record { items = a i; source = b i; join = c i; window = d i } in both x (e i)

pub clauses_read : (c : Clauses) (f : Option Expr) (es : List Expr) (p h : Option Expr) (us vs : List Symbol)
    → c.filter ≡ f → c.group ≡ es → c.partition ≡ p → c.having ≡ h → us ≡ vs → both c us ≡ both (record { filter = f; group = es; partition = p; having = h }) vs
clauses_read c f es p h us vs a b d e k = λ i. let x : Clauses = record { filter = a i; group = b i; partition = d i; having = e i } in both x (k i)

pub select_found : (f : Front) (c : Clauses) (ts us vs : List Symbol) → SpellsFront f ts us → SpellsClauses c us vs
    → Spells (g.select (select_of f c)) ts (r.emit vs)
select_found f c ts us vs h k = behind h.4 (g.a_select h.5 h.6 h.7 h.8 k.3 k.4 k.5 k.6 (emit_found vs))

pub select_read : (q : Select) (f : Front) (c : Clauses) (us vs rest : List Symbol) → front_of q ≡ f → clauses_of q ≡ c → us ≡ vs → r.emit us ≡ [] → rest ≡ r.emit vs
    → both q [] ≡ both (select_of f c) rest
select_read q f c us vs rest a b e k m =
    let same : [] ≡ rest = sym (m ∙ ap r.emit (sym e) ∙ k) in
    (λ i. both (select_of (a i) (b i)) (same i))
