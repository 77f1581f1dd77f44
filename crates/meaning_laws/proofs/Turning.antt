-- Lists of changes where old is the latest new.
use Rattle.std.proofs.Common.{◌≡◌, ◌∙◌, ap, refl, sym, subst, ℕ, List, [], ◌∷◌, ◌++◌, map, Bool, true, false, cond, append_assoc}
use Rattle.std.proofs.lemmas.List.{append-nil, map-append}
use Rattle.std.proofs.lemmas.List.Elements.{filter-append}
use Rattle.std.specs.Prelude.{Option, Some, None, option_and_then}
use Rattle.std.specs.List.{last_or, AllByRecursion}
use Rattle.ksql_types.specs.declared.value.Value.{Value}
use Rattle.ksql_place.specs.Said.{row_in}
use Rattle.ksql_place.specs.declared.change.Body.TheVariants.{Turned}
use Rattle.ksql_place.specs.declared.change.Change.{Change}
use Rattle.ksql_nodes.specs.declared.node.Node.TheVariants.{Table}
use Rattle.ksql_nodes.specs.Entries.{Entry, Row, Step, from_side, is_same_key, of_key, results, row_after, through}
use Rattle.ksql_nodes.specs.Nodes.{gives}
use Rattle.ksql_nodes.specs.Rows.{turned, with_body}
use Rattle.ksql_nodes.specs.Steps.{IsTableFrom}
use Rattle.ksql_nodes.proofs.Keys.{key-decides}
use Rattle.ksql_nodes.proofs.Results.{entry}
use Rattle.meaning_laws.specs.Tables.{IsTurning}

pub last-more : (o : Option Entry) (es : List Entry) (e : Entry) → last_or o (es ++ e ∷ []) ≡ Some e
last-more o [] e = refl
last-more o (x ∷ xs) e = last-more (Some x) xs e

-- the row of a key after one entry more
pub after-more : (key : List Value) (es : List Entry) (e : Entry) →
    row_after (of_key key (es ++ e ∷ [])) ≡ cond (is_same_key e.change.key key) (row_in e.change.body) (row_after (of_key key es))
after-more key es e = ap row_after (filter-append (λ x. is_same_key x.change.key key) es (e ∷ [])) ∙ by (is_same_key e.change.key key)
  where
    by : (b : Bool) → row_after (of_key key es ++ cond b (e ∷ []) []) ≡ cond b (row_in e.change.body) (row_after (of_key key es))
    by true = ap (option_and_then (λ x. row_in x.change.body)) (last-more None (of_key key es) e)
    by false = ap row_after (append-nil (of_key key es))

pub append-table : (b xs ys : List Entry) → IsTableFrom b xs → IsTableFrom (b ++ xs) ys → IsTableFrom b (xs ++ ys)
append-table b [] ys hx hy = subst (λ z. IsTableFrom z ys) (append-nil b) hy
append-table b (x ∷ xs) ys hx hy = (hx.0, append-table (b ++ x ∷ []) xs ys hx.1 (subst (λ z. IsTableFrom z ys) (sym (append_assoc b (x ∷ []) xs)) hy))

-- what one entry gives, before what later ones give
pub table-more : (step : Step) (outs before : List Entry) (e : Entry) (es : List Entry) → IsTableFrom outs (from_side 0 (step before e)) →
    IsTableFrom (outs ++ from_side 0 (step before e)) (from_side 0 (results step (before ++ e ∷ []) es)) → IsTableFrom outs (from_side 0 (results step before (e ∷ es)))
table-more step outs before e es now later =
    subst (IsTableFrom outs) (sym (map-append entry (step before e) (results step (before ++ e ∷ []) es))) (append-table outs (from_side 0 (step before e)) _ now later)

-- ---- a change of a key after others

-- a change from o to n where a table left o
pub record IsStep (outs : List Entry) (key : List Value) (n : Option Row) (cs : List Change) : Type 0 where
  pub table : IsTableFrom outs (from_side 0 cs)
  pub after : (other : List Value) → row_after (of_key other (outs ++ from_side 0 cs)) ≡ cond (is_same_key key other) n (row_after (of_key other outs))

pub step-none : (outs : List Entry) (key : List Value) (n : Option Row) → row_after (of_key key outs) ≡ n → IsStep outs key n []
step-none outs key n left = record {
  table = tt;
  after = λ other. ap (λ es. row_after (of_key other es)) (append-nil outs) ∙ by other (is_same_key key other) refl;
}
  where
    by : (other : List Value) (b : Bool) → is_same_key key other ≡ b → row_after (of_key other outs) ≡ cond b n (row_after (of_key other outs))
    by other true is = ap (λ k. row_after (of_key k outs)) (sym ((key-decides key other).0 is)) ∙ left
    by other false is = refl

pub step-some : (outs : List Entry) (c : Change) (o n : Option Row) → row_after (of_key c.key outs) ≡ o → IsStep outs c.key n (record c { body = Turned o n } ∷ [])
step-some outs c o n left = record {
  table = (ap (λ x. Turned x n) (sym left), tt);
  after = λ other. after-more other outs (entry (record c { body = Turned o n }));
}

pub step-turned : (outs : List Entry) (c : Change) (o n : Option Row) → row_after (of_key c.key outs) ≡ o → IsStep outs c.key n (with_body c (turned o n))
step-turned outs c None None left = step-none outs c.key None left
step-turned outs c None (Some n) left = step-some outs c None (Some n) left
step-turned outs c (Some o) None left = step-some outs c (Some o) None left
step-turned outs c (Some o) (Some n) left = step-some outs c (Some o) (Some n) left

-- ---- the node of a declared table

-- two lists leave the same rows
abbrev SameRows : List Entry → List Entry → Type 0
SameRows xs ys = (key : List Value) → row_after (of_key key xs) ≡ row_after (of_key key ys)

table-from : (n relation : ℕ) (outs before es : List Entry) → SameRows outs before → IsTableFrom outs (from_side 0 (results (gives n (Table relation)) before es))
unfolding gives
table-from n relation outs before [] same = tt
table-from n relation outs before (e ∷ es) same =
    let cs : List Change = gives n (Table relation) before e in
    let k : List Value = e.change.key in
    let step : IsStep outs k (row_in e.change.body) cs = step-turned outs e.change (row_after (of_key k before)) (row_in e.change.body) (same k) in
    table-more (gives n (Table relation)) outs before e es step.table
    (table-from n relation (outs ++ from_side 0 cs) (before ++ e ∷ []) es
    (λ key. step.after key ∙ ap (cond (is_same_key k key) (row_in e.change.body)) (same key) ∙ sym (after-more key before e)))

pub table-turned : (n relation : ℕ) (es : List Entry) → IsTableFrom [] (from_side 0 (results (gives n (Table relation)) [] es))
table-turned n relation es = table-from n relation [] [] es (λ key. refl)

-- ---- steps in a row

pub changed-from-side : (changes : List Change) → map (λ (e : Entry). e.change) (from_side 0 changes) ≡ changes
changed-from-side [] = refl
changed-from-side (c ∷ cs) = ap (λ (rest : List Change). c ∷ rest) (changed-from-side cs)

abbrev pub AreTurned : List Change → Type 0
AreTurned changes = IsTableFrom [] (from_side 0 changes)

-- a step that turns a table into a table
abbrev pub KeepsTable : Step → Type 0
KeepsTable step = (es : List Entry) → IsTableFrom [] es → AreTurned (results step [] es)

pub through-turned : (steps : List Step) → AllByRecursion KeepsTable steps → (changes : List Change) → AreTurned changes → AreTurned (through steps (from_side 0 changes))
through-turned [] keep changes table = subst AreTurned (sym (changed-from-side changes)) table
through-turned (step ∷ steps) keep changes table = through-turned steps keep.1 (results step [] (from_side 0 changes)) (keep.0 (from_side 0 changes) table)

-- steps whose last ones make a table of whatever comes
pub through-ends : (first last : List Step) → ((es : List Entry) → AreTurned (through last es)) → (es : List Entry) → AreTurned (through (first ++ last) es)
through-ends [] last makes es = makes es
through-ends (step ∷ first) last makes es = through-ends first last makes (from_side 0 (results step [] es))

-- ---- what it says

turning-from : (b : List Entry) (before after : List Change) (c : Change) → IsTableFrom b (from_side 0 (before ++ c ∷ after)) →
    c.body ≡ Turned (row_after (of_key c.key (b ++ from_side 0 before))) (row_in c.body)
turning-from b [] after c table = subst (λ es. c.body ≡ Turned (row_after (of_key c.key es)) (row_in c.body)) (sym (append-nil b)) table.0
turning-from b (x ∷ xs) after c table =
    subst (λ es. c.body ≡ Turned (row_after (of_key c.key es)) (row_in c.body)) (append_assoc b (entry x ∷ []) (from_side 0 xs)) (turning-from (b ++ entry x ∷ []) xs after c table.1)

pub turned-turning : (changes : List Change) → AreTurned changes → IsTurning changes
turned-turning changes table before after c is = turning-from [] before after c (subst AreTurned is table)
