-- Statements have at most one program, or one refusal, and not both.
use Rattle.std.proofs.Common.{◌≡◌, ◌⊎◌, ℕ, suc, List, [], ◌∷◌, ◌++◌, refl, ap, ap₂, sym, ◌∙◌, subst, inl, inr}
use Rattle.std.specs.Prelude.{Result, Ok, Err}
use Rattle.ksql_types.specs.declared.code.Code.{Code}
use Rattle.ksql_types.specs.declared.relation.Relation.{Relation}
use Rattle.statement_trees.specs.declared.tree.Statement.{Statement}
use Rattle.ksql_program.specs.declared.program.Item.{Item}
use Rattle.ksql_program.specs.declared.program.Program.{Program}
use Rattle.ksql_program.specs.Program.{relations}
use Rattle.ksql_rules.specs.Lowest.{BreaksFirst, BreaksNone, IsAccepted, IsRefused, codes_in_order}
use Rattle.ksql_analyse.specs.declared.fault.AnalyseFault.{AnalyseFault}
use Rattle.ksql_analyse.specs.declared.fault.AnalyseFault.TheVariants.{Refused, OutOfMemory}
use Rattle.ksql_analyse.specs.Judgement.{IsItemOf, Judged, done, next, FirstRefused, here, later, IsProgramOf, AreRefused, IsJudgement, Answers}
use Rattle.ksql_analyse.proofs.unique.OneItem.{one-item}

-- ---- one statement

one-code : (catalog : List Relation) (st : Statement) (cs : List Code) (c d : Code) → BreaksFirst catalog st cs c → BreaksFirst catalog st cs d → c ≡ d
one-code catalog st [] c d h k = absurd h
one-code catalog st (b ∷ cs) c d (inl h) (inl k) = h.1 ∙ sym k.1
one-code catalog st (b ∷ cs) c d (inl h) (inr k) = absurd (k.0 h.0)
one-code catalog st (b ∷ cs) c d (inr h) (inl k) = absurd (h.0 k.0)
one-code catalog st (b ∷ cs) c d (inr h) (inr k) = one-code catalog st cs c d h.1 k.1

none-first : (catalog : List Relation) (st : Statement) (cs : List Code) (c : Code) → BreaksNone catalog st cs → BreaksFirst catalog st cs c → ⊥
none-first catalog st [] c h k = k
none-first catalog st (b ∷ cs) c h (inl k) = h.0 k.0
none-first catalog st (b ∷ cs) c h (inr k) = none-first catalog st cs c h.1 k.1

-- ---- some statements

abbrev pub JudgedBy : List Item → List Statement → List Item → Type 0
JudgedBy before [] items = before ≡ items
JudgedBy before (st ∷ sts) items =
    (i : Item) × IsAccepted (relations before) st × IsItemOf (relations before) st i × Judged (before ++ i ∷ []) sts items

pub judged-by : {before items : List Item} {sts : List Statement} → Judged before sts items → JudgedBy before sts items
judged-by done = refl
judged-by (next i a h k) = (i, a, h, k)

abbrev RefusedBy : List Item → List Statement → ℕ → Code → Type 0
RefusedBy before [] number c = ⊥
RefusedBy before (st ∷ sts) number c =
    (IsRefused (relations before) st c × (number ≡ 1))
    ⊎ ((i : Item) × (m : ℕ) × IsAccepted (relations before) st × IsItemOf (relations before) st i × FirstRefused (before ++ i ∷ []) sts m c × (number ≡ suc m))

refused-by : {before : List Item} {sts : List Statement} {number : ℕ} {c : Code} → FirstRefused before sts number c → RefusedBy before sts number c
refused-by (here h) = inl (h, refl)
refused-by (later {number = m} i a h k) = inr (i, m, a, h, k, refl)

one-program : (before : List Item) (sts : List Statement) (a b : List Item) → Judged before sts a → Judged before sts b → a ≡ b
one-program before [] a b h k = sym (judged-by h) ∙ judged-by k
one-program before (st ∷ sts) a b h k =
    let x = judged-by h in
    let y = judged-by k in
    let same : x.0 ≡ y.0 = one-item (relations before) st x.0 y.0 x.2 y.2 in
    one-program (before ++ y.0 ∷ []) sts a b (subst (λ i. Judged (before ++ i ∷ []) sts a) same x.3) y.3

abbrev pub AreOne : ℕ → ℕ → Code → Code → Type 0
AreOne m n c d = (m ≡ n) × (c ≡ d)

one-refusal : (before : List Item) (sts : List Statement) (m n : ℕ) (c d : Code) → FirstRefused before sts m c → FirstRefused before sts n d → AreOne m n c d
one-refusal before [] m n c d h k = absurd (refused-by h)
one-refusal before (st ∷ sts) m n c d h k = at (λ i. one-refusal (before ++ i ∷ []) sts) (refused-by h) (refused-by k)
  where
    at : ((i : Item) (m n : ℕ) (c d : Code) → FirstRefused (before ++ i ∷ []) sts m c → FirstRefused (before ++ i ∷ []) sts n d → AreOne m n c d)
        → RefusedBy before (st ∷ sts) m c → RefusedBy before (st ∷ sts) n d → AreOne m n c d
    at rest (inl x) (inl y) = (x.1 ∙ sym y.1, one-code (relations before) st codes_in_order c d x.0 y.0)
    at rest (inl x) (inr y) = absurd (none-first (relations before) st codes_in_order c y.2 x.0)
    at rest (inr x) (inl y) = absurd (none-first (relations before) st codes_in_order d x.2 y.0)
    at rest (inr x) (inr y) =
        let same : x.0 ≡ y.0 = one-item (relations before) st x.0 y.0 x.3 y.3 in
        let r = rest y.0 x.1 y.1 c d (subst (λ i. FirstRefused (before ++ i ∷ []) sts x.1 c) same x.4) y.4 in
        (x.5 ∙ ap suc r.0 ∙ sym y.5, r.1)

never-both : (before : List Item) (sts : List Statement) (items : List Item) (m : ℕ) (c : Code) → Judged before sts items → FirstRefused before sts m c → ⊥
never-both before [] items m c h k = refused-by k
never-both before (st ∷ sts) items m c h k = at (λ i. never-both (before ++ i ∷ []) sts) (judged-by h) (refused-by k)
  where
    at : ((i : Item) (items : List Item) (m : ℕ) (c : Code) → Judged (before ++ i ∷ []) sts items → FirstRefused (before ++ i ∷ []) sts m c → ⊥)
        → JudgedBy before (st ∷ sts) items → RefusedBy before (st ∷ sts) m c → ⊥
    at rest x (inl y) = none-first (relations before) st codes_in_order c x.1 y.0
    at rest x (inr y) =
        let same : x.0 ≡ y.0 = one-item (relations before) st x.0 y.0 x.2 y.3 in
        rest y.0 items y.1 c (subst (λ i. Judged (before ++ i ∷ []) sts items) same x.3) y.4

-- ---- results

pub unique-program : (sts : List Statement) (a b : List Item) → IsProgramOf sts a → IsProgramOf sts b → a ≡ b
unique-program sts a b h k = one-program [] sts a b h k

pub unique-refusal : (sts : List Statement) (m n : ℕ) (c d : Code) → AreRefused sts m c → AreRefused sts n d → AreOne m n c d
unique-refusal sts m n c d h k = one-refusal [] sts m n c d h k

pub not-both : (sts : List Statement) (items : List Item) (m : ℕ) (c : Code) → IsProgramOf sts items → AreRefused sts m c → ⊥
not-both sts items m c h k = never-both [] sts items m c h k

pub program-answered : (sts : List Statement) (r : Result Program AnalyseFault) → IsJudgement sts r
    → (program : Program) → IsProgramOf sts program.items → Answers r (Ok program)
program-answered sts (Ok p) h program k =
    let same : p.items ≡ program.items = unique-program sts p.items program.items h k in
    λ i. Ok (record { items = same i })
program-answered sts (Err (Refused m c)) h program k = absurd (not-both sts program.items m c k h)
program-answered sts (Err OutOfMemory) h program k = tt

pub refusal-answered : (sts : List Statement) (r : Result Program AnalyseFault) → IsJudgement sts r
    → (m : ℕ) (c : Code) → AreRefused sts m c → Answers r (Err (Refused m c))
refusal-answered sts (Ok p) h m c k = absurd (not-both sts p.items m c h k)
refusal-answered sts (Err (Refused n d)) h m c k =
    let r = unique-refusal sts n m d c h k in
    ap₂ (λ x y. Err (Refused x y)) r.0 r.1
refusal-answered sts (Err OutOfMemory) h m c k = tt
