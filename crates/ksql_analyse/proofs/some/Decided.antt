-- A statement is accepted or refused: whether it breaks a rule is decided.
use Rattle.std.proofs.Common.{◌≡◌, ◌⊎◌, Bool, true, false, List, [], ◌∷◌, IsTrue, refl, inl, inr, ⊎_elim}
use Rattle.std.specs.Prelude.{◌↔◌}
use Rattle.ksql_types.specs.declared.code.Code.{Code}
use Rattle.ksql_types.specs.declared.code.Code.TheVariants as code
use Rattle.ksql_types.specs.declared.relation.Relation.{Relation}
use Rattle.statement_trees.specs.declared.tree.ColumnText.{ColumnText}
use Rattle.statement_trees.specs.declared.tree.Property.{Property}
use Rattle.statement_trees.specs.declared.tree.Select.{Select}
use Rattle.statement_trees.specs.declared.tree.Statement.{Statement}
use Rattle.statement_trees.specs.declared.tree.StatementBody.{StatementBody}
use Rattle.statement_trees.specs.declared.tree.StatementBody.TheVariants.{Declared, Query}
use Rattle.ksql_clauses.specs.declared.sources.Known.{Known}
use Rattle.ksql_clauses.specs.Sources.{all_known}
use Rattle.ksql_rules.specs.Breaks.{Breaks, BodyBreaks, DeclarationBreaks, QueryBreaks, is_full_catalog}
use Rattle.ksql_rules.specs.Lowest.{BreaksFirst, BreaksNone, IsAccepted, IsRefused, codes_in_order}
use Rattle.ksql_rules.proofs.Deciding.{query-decided}

-- ---- what is decided

abbrev Decided : Type 0 → Type 0
Decided P = P ⊎ ¬ P

by-bool : (b : Bool) → Decided (IsTrue b)
by-bool true = inl refl
by-bool false = inr (λ h. cc (h))

by-test : {P : Type 0} (b : Bool) → IsTrue b ↔ P → Decided P
by-test true h = inl (h.0 refl)
by-test false h = inr (λ p. let e : false ≡ true = h.1 p in cc (e))

negated : {P : Type 0} → Decided P → Decided (¬ P)
negated (inl p) = inr (λ h. h p)
negated (inr h) = inl h

one-of : {P Q : Type 0} → Decided P → Decided Q → Decided (P ⊎ Q)
one-of (inl p) k = inl (inl p)
one-of (inr h) (inl q) = inl (inr q)
one-of (inr h) (inr k) = inr (⊎_elim h k)

-- ---- rules

declaration-decided : (catalog : List Relation) (st : Statement) (cs : List ColumnText) (ps : List Property) (c : Code) → Decided (DeclarationBreaks catalog st cs ps c)
declaration-decided catalog st cs ps code.TooLarge = by-bool _
declaration-decided catalog st cs ps code.NameTaken = by-bool _
declaration-decided catalog st cs ps code.DuplicateColumn = by-bool _
declaration-decided catalog st cs ps code.WrongKind = by-bool _
declaration-decided catalog st cs ps code.KeyMissing = by-bool _
declaration-decided catalog st cs ps code.Unsupported = by-bool _
declaration-decided catalog st cs ps code.BadProperty = by-bool _
declaration-decided catalog st cs ps _ = inr (λ h. h)

query-rule-decided : (catalog : List Relation) (st : Statement) (ps : List Property) (q : Select) (ks : List Known) (c : Code) → Decided (QueryBreaks catalog st ps q ks c)
query-rule-decided catalog st ps q ks code.Syntax = inr (λ h. h)
query-rule-decided catalog st ps q ks code.TypeMismatch = negated (by-test _ (query-decided q ks))
query-rule-decided catalog st ps q ks _ = by-bool _

body-decided : (catalog : List Relation) (st : Statement) (b : StatementBody) (c : Code) → Decided (BodyBreaks catalog st b c)
body-decided catalog st (Declared cs ps) c = declaration-decided catalog st cs ps c
body-decided catalog st (Query ps q) c = query-rule-decided catalog st ps q (all_known catalog q) c

rule-decided : (catalog : List Relation) (st : Statement) (c : Code) → Decided (Breaks catalog st c)
rule-decided catalog st c = one-of (by-bool (is_full_catalog catalog c)) (body-decided catalog st st.body c)

-- ---- codes

none-or-first : (catalog : List Relation) (st : Statement) (cs : List Code) → BreaksNone catalog st cs ⊎ ((c : Code) × BreaksFirst catalog st cs c)
none-or-first catalog st [] = inl tt
none-or-first catalog st (c ∷ cs) = at (rule-decided catalog st c) (none-or-first catalog st cs)
  where
    at : Decided (Breaks catalog st c) → BreaksNone catalog st cs ⊎ ((d : Code) × BreaksFirst catalog st cs d)
        → BreaksNone catalog st (c ∷ cs) ⊎ ((d : Code) × BreaksFirst catalog st (c ∷ cs) d)
    at (inl h) rest = inr (c, inl (h, refl))
    at (inr h) (inl none) = inl (h, none)
    at (inr h) (inr first) = inr (first.0, inr (h, first.1))

pub accepted-or-refused : (catalog : List Relation) (st : Statement) → IsAccepted catalog st ⊎ ((c : Code) × IsRefused catalog st c)
accepted-or-refused catalog st = none-or-first catalog st codes_in_order
