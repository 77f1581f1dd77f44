-- The program of the demo's script.
use Rattle.std.proofs.Common.{◌≡◌, ◌∙◌, ap, refl, subst, ℕ, List, [], ◌∷◌, ◌++◌, codes, inl, inr}
use Rattle.std.proofs.lemmas.Option.{same_Some}
use Rattle.std.specs.Prelude.{◌⊎◌}
use Rattle.ksql_types.specs.declared.code.Code.{Code}
use Rattle.ksql_types.specs.declared.relation.Relation.{Relation}
use Rattle.ksql_program.specs.declared.program.Item.{Item}
use Rattle.ksql_program.specs.declared.program.Item.TheVariants.{Declared, Started}
use Rattle.ksql_program.specs.declared.query.Query.{Query}
use Rattle.ksql_program.specs.Program.{relations}
use Rattle.ksql_rules.specs.Lowest.{BreaksFirst, BreaksNone, IsAccepted, codes_in_order}
use Rattle.statement_trees.specs.declared.tree.Statement.{Statement}
use Rattle.ksql_analyse.specs.Judgement.{FirstRefused, IsItemOf, IsProgramOf, Judged, done, here, later, next}
use Rattle.ksql_analyse.proofs.some.SomeJudgement.{program-or-refusal}
use Rattle.ksql_parser.specs.Script.{statements}
use Rattle.schedule_laws.proofs.DemoRules.{hits-accepted, hits_relation, minutes-accepted, pages-accepted}
use Rattle.schedule_laws.proofs.DemoTokens.{demo_kinds}
use Rattle.schedule_laws.proofs.DemoTrees.{demo-trees, demo_trees, hits, minutes, pages}

-- no statement is both accepted and refused
not-both : (catalog : List Relation) (st : Statement) (cs : List Code) (c : Code) → BreaksNone catalog st cs → BreaksFirst catalog st cs c → ⊥
not-both catalog st [] c none first = first
not-both catalog st (d ∷ cs) c none (inl broken) = none.0 broken.0
not-both catalog st (d ∷ cs) c none (inr first) = not-both catalog st cs c none.1 first.1

-- ---- the items

stream-is : (i : Item) → IsItemOf [] hits i → i ≡ Declared hits_relation
stream-is (Declared r) is = ap Declared is
stream-is (Started q) is = absurd is

-- a query whose result has this name, and its topic
abbrev IsNamed : List ℕ → Item → Type 0
IsNamed word (Declared r) = ⊥
IsNamed word (Started q) = (q.out.name ≡ word) × (q.out.topic ≡ word)

pages-are : (i : Item) → IsItemOf (hits_relation ∷ []) pages i → IsNamed (codes "PAGES") i
pages-are (Declared r) is = absurd is
pages-are (Started q) is = (is.gives.named, same_Some q.out.topic (codes "PAGES") is.gives.topic)

-- the items of the script: the stream and two queries
abbrev pub IsDemo : List Item → Type 0
IsDemo items = (first : Query) × (second : Query) × (items ≡ Declared hits_relation ∷ Started first ∷ Started second ∷ [])

-- ---- statement by statement

judged-one : (before : List Item) (st : Statement) (sts : List Statement) (items : List Item) → Judged before (st ∷ sts) items → (i : Item) × IsItemOf (relations before) st i × Judged (before ++ i ∷ []) sts items
judged-one before st sts items (next i accepted is rest) = (i, is, rest)

judged-none : (before items : List Item) → Judged before [] items → items ≡ before
judged-none before items done = refl

refused-one : (before : List Item) (st : Statement) (sts : List Statement) (number : ℕ) (c : Code) → IsAccepted (relations before) st → FirstRefused before (st ∷ sts) number c →
    (i : Item) × IsItemOf (relations before) st i × ((m : ℕ) × FirstRefused (before ++ i ∷ []) sts m c)
refused-one before st sts number c accepted (here refused) = absurd (not-both (relations before) st codes_in_order c accepted refused)
refused-one before st sts number c accepted (later i is_accepted is rest) = (i, is, (_, rest))

refused-none : (before : List Item) (number : ℕ) (c : Code) → FirstRefused before [] number c → ⊥
refused-none before number c refused = elim refused [ ]

-- ---- the program

-- after a query of this name, the last statement isn't refused
last-fine : (i : Item) → IsNamed (codes "PAGES") i → (number : ℕ) (c : Code) → FirstRefused (Declared hits_relation ∷ i ∷ []) (minutes ∷ []) number c → ⊥
last-fine (Declared r) is number c refused = is
last-fine (Started q) is number c refused =
    let third = refused-one (Declared hits_relation ∷ Started q ∷ []) minutes [] number c (minutes-accepted q.out is.0 is.1) refused in
    refused-none (Declared hits_relation ∷ Started q ∷ third.0 ∷ []) third.2.0 c third.2.1

not-refused : (number : ℕ) (c : Code) → FirstRefused [] demo_trees number c → ⊥
not-refused number c refused =
    let first = refused-one [] hits (pages ∷ minutes ∷ []) number c hits-accepted refused in
    let stream : first.0 ≡ Declared hits_relation = stream-is first.0 first.1 in
    let second = refused-one (Declared hits_relation ∷ []) pages (minutes ∷ []) first.2.0 c pages-accepted
    (subst (λ (i : Item). FirstRefused (i ∷ []) (pages ∷ minutes ∷ []) first.2.0 c) stream first.2.1) in
    last-fine second.0 (pages-are second.0 second.1) second.2.0 c second.2.1

query-of : (word : List ℕ) (i : Item) → IsNamed word i → (q : Query) × (i ≡ Started q)
query-of word (Declared r) is = absurd is
query-of word (Started q) is = (q, refl)

query-last : (catalog : List Relation) (i : Item) → IsItemOf catalog minutes i → (q : Query) × (i ≡ Started q)
query-last catalog (Declared r) is = absurd is
query-last catalog (Started q) is = (q, refl)

three-are : (items : List Item) (i j k : Item) (q r : Query) → items ≡ i ∷ j ∷ k ∷ [] → i ≡ Declared hits_relation → j ≡ Started q → k ≡ Started r → IsDemo items
three-are items i j k q r all first second third = (q, r, all ∙ (λ x. first x ∷ second x ∷ third x ∷ []))

items-are : (items : List Item) → IsProgramOf demo_trees items → IsDemo items
items-are items judged =
    let first = judged-one [] hits (pages ∷ minutes ∷ []) items judged in
    let second = judged-one (first.0 ∷ []) pages (minutes ∷ []) items first.2 in
    let third = judged-one (first.0 ∷ second.0 ∷ []) minutes [] items second.2 in
    let stream : first.0 ≡ Declared hits_relation = stream-is first.0 first.1 in
    let groups = query-of (codes "PAGES") second.0 (pages-are second.0 (subst (λ (i : Item). IsItemOf (relations (i ∷ [])) pages second.0) stream second.1)) in
    let windows = query-last (relations (first.0 ∷ second.0 ∷ [])) third.0 third.1 in
    three-are items first.0 second.0 third.0 groups.0 windows.0 (judged-none (first.0 ∷ second.0 ∷ third.0 ∷ []) items third.2) stream groups.1 windows.1

-- the script has a program
pub demo-program : (items : List Item) × IsProgramOf demo_trees items × IsDemo items
demo-program = by (program-or-refusal demo_trees (statements demo_kinds, demo-trees))
  where
    by : ((items : List Item) × IsProgramOf demo_trees items) ⊎ ((number : ℕ) × (c : Code) × FirstRefused [] demo_trees number c) → (items : List Item) × IsProgramOf demo_trees items × IsDemo items
    by (inl found) = (found.0, found.1, items-are found.0 found.1)
    by (inr refused) = absurd (not-refused refused.0 refused.1 refused.2)
