-- A script is read in one way, and is accepted as one program or refused once, and not both.
use Rattle.std.proofs.Common.{◌≡◌, refl, ap, subst, ℕ, List, Result, Ok, Err, inl, inr, arith}
use Rattle.ksql_types.specs.declared.code.Code.{Code}
use Rattle.ksql_types.specs.declared.code.Code.TheVariants.{Syntax}
use Rattle.ksql_lexer.specs.declared.token.Token.{Token}
use Rattle.ksql_lexer.specs.Script.{AreTokens, kinds}
use Rattle.ksql_lexer.proofs.Readings.{one_list, one_fault, not_both as tokens_or_fault}
use Rattle.statement_trees.specs.declared.tree.Statement.{Statement}
use Rattle.ksql_parser.specs.Script.{AreTrees, FirstRefused, statements}
use Rattle.ksql_parser.proofs.OneTree.{one_tree}
use Rattle.ksql_parser.proofs.Settling.{one_list_from, one_refusal as one_rule, not_both as tree_or_rule}
use Rattle.ksql_program.specs.declared.program.Program.{Program}
use Rattle.ksql_analyse.specs.Judgement.{AreRefused, IsProgramOf}
use Rattle.ksql_analyse.proofs.unique.Unique.{unique-program as one_items, unique-refusal as one_code, not-both as program_or_code}
use Rattle.ksql_script.specs.Reading.{Refusal, Reads, too_long, not_utf8, no_token, no_tree, all_trees}
use Rattle.ksql_script.specs.Script.{IsAccepted, IsRefused}

module _ (script : List ℕ) where
  -- a property of the tokens of a script holds however they were found
  same : (P : List Token → Type 0) (ts us : List Token) → AreTokens script ts → AreTokens script us → P ts → P us
  same P ts us a b = subst P (one_list script ts us a b)

  one_reading : (a b : Result (List Statement) Refusal) → Reads script a → Reads script b → a ≡ b
  one_reading a b (too_long p) (too_long q) = refl
  one_reading a b (too_long p) (not_utf8 q m) = absurd (omega arith)
  one_reading a b (too_long p) (no_token q y) = absurd (omega arith)
  one_reading a b (too_long p) (no_tree q us y) = absurd (omega arith)
  one_reading a b (too_long p) (all_trees q us y) = absurd (omega arith)
  one_reading a b (not_utf8 p n) (too_long q) = absurd (omega arith)
  one_reading a b (not_utf8 p n) (not_utf8 q m) = refl
  one_reading a b (not_utf8 p n) (no_token q y) = absurd (n q.1)
  one_reading a b (not_utf8 p n) (no_tree q us y) = absurd (n q.1)
  one_reading a b (not_utf8 p n) (all_trees q us y) = absurd (n q.1)
  one_reading a b (no_token p x) (too_long q) = absurd (omega arith)
  one_reading a b (no_token p x) (not_utf8 q m) = absurd (m p.1)
  one_reading a b (no_token {statement = s} p x) (no_token {statement = t} q y) = ap (λ n. Err (n, Syntax)) (one_fault script s t x y)
  one_reading a b (no_token {statement = s} p x) (no_tree {ts} q us y) = absurd (tokens_or_fault script ts s us x)
  one_reading a b (no_token {statement = s} p x) (all_trees {ts} q us y) = absurd (tokens_or_fault script ts s us x)
  one_reading a b (no_tree p ts x) (too_long q) = absurd (omega arith)
  one_reading a b (no_tree p ts x) (not_utf8 q m) = absurd (m p.1)
  one_reading a b (no_tree {ts} p is x) (no_token {statement = t} q y) = absurd (tokens_or_fault script ts t is y)
  one_reading a b (no_tree {ts} {statement = s} {code = c} p is x) (no_tree {ts = us} {statement = t} {code = d} q are y) =
      let r : (s ≡ t) × (c ≡ d) = one_rule (statements (kinds us)) s t c d (same (λ vs. FirstRefused (statements (kinds vs)) s c) ts us is are x) y in
      λ i. Err (r.0 i, r.1 i)
  one_reading a b (no_tree {ts} {statement = s} {code = c} p is x) (all_trees {ts = us} {trees} q are y) =
      absurd (tree_or_rule (statements (kinds us)) trees s c y (same (λ vs. FirstRefused (statements (kinds vs)) s c) ts us is are x))
  one_reading a b (all_trees p ts x) (too_long q) = absurd (omega arith)
  one_reading a b (all_trees p ts x) (not_utf8 q m) = absurd (m p.1)
  one_reading a b (all_trees {ts} p is x) (no_token {statement = t} q y) = absurd (tokens_or_fault script ts t is y)
  one_reading a b (all_trees {ts} {trees} p is x) (no_tree {ts = us} {statement = t} {code = d} q are y) =
      absurd (tree_or_rule (statements (kinds us)) trees t d (same (λ vs. AreTrees (statements (kinds vs)) trees) ts us is are x) y)
  one_reading a b (all_trees {ts} {trees} p is x) (all_trees {ts = us} {trees = others} q are y) =
      ap (λ sts. Ok sts) (one_list_from one_tree (statements (kinds us)) trees others (same (λ vs. AreTrees (statements (kinds vs)) trees) ts us is are x) y)

  one_trees : (a b : List Statement) → Reads script (Ok a) → Reads script (Ok b) → a ≡ b
  one_trees a b x y = cc (one_reading (Ok a) (Ok b) x y)

  trees_or_refusal : (trees : List Statement) (r : Refusal) → Reads script (Ok trees) → Reads script (Err r) → ⊥
  trees_or_refusal trees r x y = cc (one_reading (Ok trees) (Err r) x y)

  -- a script has at most one refusal
  pub one_refusal : (s t : ℕ) (c d : Code) → IsRefused script s c → IsRefused script t d → (s ≡ t) × (c ≡ d)
  one_refusal s t c d (inl a) (inl b) =
      let r : ◌≡◌ {A = Refusal} (s, c) (t, d) = cc (one_reading (Err (s, c)) (Err (t, d)) a b) in grind arith
  one_refusal s t c d (inl a) (inr b) = absurd (trees_or_refusal b.0 (s, c) b.1 a)
  one_refusal s t c d (inr a) (inl b) = absurd (trees_or_refusal a.0 (t, d) a.1 b)
  one_refusal s t c d (inr a) (inr b) =
      one_code b.0 s t c d (subst (λ (sts : List Statement). AreRefused sts s c) (one_trees a.0 b.0 a.1 b.1) a.2) b.2

  -- and none if it is accepted
  pub not_both : (program : Program) (s : ℕ) (c : Code) → IsAccepted script program → IsRefused script s c → ⊥
  not_both program s c is (inl a) = trees_or_refusal is.trees (s, c) is.read a
  not_both program s c is (inr a) =
      program_or_code is.trees program.items s c is.judged (subst (λ (sts : List Statement). AreRefused sts s c) (one_trees a.0 is.trees a.1 is.read) a.2)

  -- a script is accepted as at most one program
  pub one_program : (a b : Program) → IsAccepted script a → IsAccepted script b → a ≡ b
  one_program a b x y =
      let judged : IsProgramOf y.trees a.items = subst (λ (sts : List Statement). IsProgramOf sts a.items) (one_trees x.trees y.trees x.read y.read) x.judged in
      let items : a.items ≡ b.items = one_items y.trees a.items b.items judged y.judged in
      λ i. record { items = items i }
