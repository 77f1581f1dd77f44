-- Statements that are settled, from one to the next.
use Rattle.std.proofs.Common.{◌≡◌, ℕ, suc, ◌+◌, List, [], ◌∷◌, ◌++◌, length, refl, sym, ap, ◌∙◌, subst, append_assoc, length-append, inl, inr, ⊎_elim, arith}
use Rattle.std.specs.Prelude.{◌<◌, filter, Result, Ok, Err}
use Rattle.std.specs.Global.{Vec}
use Rattle.std.proofs.lemmas.List.{append-nil}
use Rattle.ksql_lexer.specs.declared.token.Token.{Token}
use Rattle.ksql_lexer.specs.Script.{kinds}
use Rattle.ksql_lexer.specs.declared.token.TokenKind.{TokenKind}
use Rattle.statement_trees.specs.declared.tree.Statement.{Statement}
use Rattle.ksql_parser.specs.Grammar.{IsSpelledBy}
use Rattle.ksql_types.specs.declared.code.Code.{Code}
use Rattle.ksql_parser.specs.declared.fault.ParseFault.{ParseFault}
use Rattle.ksql_parser.specs.declared.fault.ParseFault.TheVariants.{Refused, OutOfMemory}
use Rattle.ksql_parser.specs.Limits.{Rule, rules, RefusesFirst, NoneRefuses}
use Rattle.ksql_parser.specs.Script.{IsTreeOf, AreTrees, FirstRefused, here, later, is_filled, Answers}
use Rattle.ksql_parser.specs.Settled.{IsOnlyTree, AreOnlyTrees, SettlesOne, Settles}

-- the trees of one more statement
trees_push : (tss : List (List TokenKind)) (trees : List Statement) (ts : List TokenKind) (s : Statement) → AreTrees tss trees → IsTreeOf ts s
    → AreTrees (tss ++ ts ∷ []) (trees ++ s ∷ [])
trees_push [] [] ts s are is_tree = (is_tree, tt)
trees_push [] (x ∷ trees) ts s are is_tree = absurd are
trees_push (us ∷ tss) [] ts s are is_tree = absurd are
trees_push (us ∷ tss) (x ∷ trees) ts s are is_tree = (are.0, trees_push tss trees ts s are.1 is_tree)

-- the last tree of one more statement, and those before it
split_trees : (tss : List (List TokenKind)) (ts : List TokenKind) (others : List Statement) → AreTrees (tss ++ ts ∷ []) others
    → (front : List Statement) × (last : Statement) × (others ≡ front ++ last ∷ []) × AreTrees tss front × IsTreeOf ts last
split_trees [] ts [] are = absurd are
split_trees [] ts (x ∷ []) are = ([], x, refl, tt, are.0)
split_trees [] ts (x ∷ y ∷ others) are = absurd are.1
split_trees (us ∷ tss) ts [] are = absurd are
split_trees (us ∷ tss) ts (x ∷ others) are =
    let r = split_trees tss ts others are.1 in
    (x ∷ r.0, r.1, ap (λ trees. x ∷ trees) r.2, (are.0, r.3), r.4)

-- they are no others
only_push : (tss : List (List TokenKind)) (trees : List Statement) (ts : List TokenKind) (s : Statement)
    → ((others : List Statement) → AreTrees tss others → others ≡ trees) → ((other : Statement) → IsSpelledBy other ts → other ≡ s)
    → (others : List Statement) → AreTrees (tss ++ ts ∷ []) others → others ≡ trees ++ s ∷ []
only_push tss trees ts s firsts last others are =
    let r = split_trees tss ts others are in
    r.2 ∙ (λ i. firsts r.0 r.3 i ++ last r.1 r.4.1 i ∷ [])

-- a refusal after statements with trees
refused_behind : (tss : List (List TokenKind)) (trees : List Statement) (rest : List (List TokenKind)) (n : ℕ) (code : Code)
    → AreTrees tss trees → FirstRefused rest n code → FirstRefused (tss ++ rest) (length tss + n) code
refused_behind [] [] rest n code are refused =
    let same : n ≡ length {A = List TokenKind} [] + n = omega arith in
    subst (λ m. FirstRefused rest m code) same refused
refused_behind [] (x ∷ trees) rest n code are refused = absurd are
refused_behind (us ∷ tss) [] rest n code are refused = absurd are
refused_behind (us ∷ tss) (x ∷ trees) rest n code are refused =
    let same : suc (length tss + n) ≡ length (us ∷ tss) + n = omega arith in
    subst (λ m. FirstRefused (us ∷ (tss ++ rest)) m code) same (later are.0.0 (refused_behind tss trees rest n code are.1 refused))

-- the first statements have these trees, and the rest is left
pub record Reached (all rest : List (List TokenKind)) (trees : List Statement) (number : ℕ) : Type 0 where
  pub done : List (List TokenKind)
  pub whole : all ≡ done ++ rest
  pub settled : AreOnlyTrees done trees
  pub count : number ≡ length done

only_none : (others : List Statement) → AreTrees [] others → others ≡ []
only_none [] are = refl
only_none (x ∷ others) are = absurd are

pub reached_start : (all : List (List TokenKind)) → Reached all all [] 0
reached_start all = record { done = []; whole = refl; settled = (tt, only_none); count = refl }

pub reached_next : (all : List (List TokenKind)) (ts : List TokenKind) (rest : List (List TokenKind)) (trees : List Statement) (number : ℕ) (s : Statement)
    → Reached all (ts ∷ rest) trees number → IsOnlyTree ts s → Reached all rest (trees ++ s ∷ []) (number + 1)
reached_next all ts rest trees number s r one = record {
  done = r.done ++ ts ∷ [];
  whole = r.whole ∙ sym (append_assoc r.done (ts ∷ []) rest);
  settled = (trees_push r.done trees ts s r.settled.0 one.0, only_push r.done trees ts s r.settled.1 one.1);
  count = let count = r.count in omega (arith, length-append r.done (ts ∷ []));
}

pub reached_refusal : (all : List (List TokenKind)) (ts : List TokenKind) (rest : List (List TokenKind)) (trees : List Statement) (number n : ℕ) (code : Code)
    → Reached all (ts ∷ rest) trees number → n ≡ number + 1 → RefusesFirst rules ts code → FirstRefused all n code
reached_refusal all ts rest trees number n code r is refuses =
    let count = r.count in
    let same : length r.done + 1 ≡ n = omega arith in
    subst (λ tss. FirstRefused tss n code) (sym r.whole)
    (subst (λ m. FirstRefused (r.done ++ (ts ∷ rest)) m code) same (refused_behind r.done trees (ts ∷ rest) 1 code r.settled.0 (here refuses)))

pub reached_all : (all : List (List TokenKind)) (trees : List Statement) (number : ℕ) → Reached all [] trees number → AreOnlyTrees all trees
reached_all all trees number r =
    subst (λ tss. AreOnlyTrees tss trees) (sym (r.whole ∙ append-nil r.done)) r.settled

-- a list of tokens that isn't empty is a statement
pub part_filled : (ts : List Token) (tss : List (List TokenKind)) → 0 < length ts → filter is_filled (kinds ts ∷ []) ++ tss ≡ kinds ts ∷ tss
part_filled [] tss some = absurd (omega arith)
part_filled (t ∷ ts) tss some = refl

-- a refusal of one statement is that of all
pub fault_settles : (all : List (List TokenKind)) (ts : List TokenKind) (rest : List (List TokenKind)) (trees : List Statement) (number : ℕ) (fault : ParseFault)
    → Reached all (ts ∷ rest) trees number → SettlesOne (number + 1) ts (Err fault) → Settles all (Err fault)
fault_settles all ts rest trees number (Refused n code) r one = reached_refusal all ts rest trees number n code r one.0 one.1
fault_settles all ts rest trees number OutOfMemory r one = tt

-- one refusal has one number and one code
no_refusal : (rs : List Rule) (ts : List TokenKind) (code : Code) → NoneRefuses rs ts → RefusesFirst rs ts code → ⊥
no_refusal [] ts code none refuses = refuses
no_refusal (r ∷ rs) ts code none refuses = ⊎_elim (λ first. none.0 first.0) (λ further. no_refusal rs ts code none.1 further.1) refuses

one_code : (rs : List Rule) (ts : List TokenKind) (c d : Code) → RefusesFirst rs ts c → RefusesFirst rs ts d → c ≡ d
one_code [] ts c d p q = absurd p
one_code (r ∷ rs) ts c d (inl p) (inl q) = p.1 ∙ sym q.1
one_code (r ∷ rs) ts c d (inl p) (inr q) = absurd (q.0 p.0)
one_code (r ∷ rs) ts c d (inr p) (inl q) = absurd (p.0 q.0)
one_code (r ∷ rs) ts c d (inr p) (inr q) = one_code rs ts c d p.1 q.1

pub one_refusal : (tss : List (List TokenKind)) (m n : ℕ) (c d : Code) → FirstRefused tss m c → FirstRefused tss n d → (m ≡ n) × (c ≡ d)
one_refusal tss m n c d (here {ts} p) (here q) = (refl, one_code rules ts c d p q)
one_refusal tss m n c d (here {ts} p) (later none q) = absurd (no_refusal rules ts c none p)
one_refusal tss m n c d (later {ts} none p) (here q) = absurd (no_refusal rules ts d none q)
one_refusal tss m n c d (later {others} {n = k} none p) (later {n = l} also q) =
    let same = one_refusal others k l c d p q in
    (ap suc same.0, same.1)

pub not_both : (tss : List (List TokenKind)) (trees : List Statement) (n : ℕ) (c : Code) → AreTrees tss trees → FirstRefused tss n c → ⊥
not_both tss [] n c are (here p) = absurd are
not_both tss (x ∷ trees) n c are (here {ts} p) = no_refusal rules ts c are.0.0 p
not_both tss [] n c are (later none p) = absurd are
not_both tss (x ∷ trees) n c are (later {others} {n = k} none p) = not_both others trees k c are.1 p

-- lists of trees that agree for each statement are equal
pub one_list_from : ((ts : List TokenKind) (a b : Statement) → IsSpelledBy a ts → IsSpelledBy b ts → a ≡ b)
    → (tss : List (List TokenKind)) (a b : List Statement) → AreTrees tss a → AreTrees tss b → a ≡ b
one_list_from one [] [] [] p q = refl
one_list_from one [] [] (y ∷ b) p q = absurd q
one_list_from one [] (x ∷ a) b p q = absurd p
one_list_from one (ts ∷ tss) [] b p q = absurd p
one_list_from one (ts ∷ tss) (x ∷ a) [] p q = absurd q
one_list_from one (ts ∷ tss) (x ∷ a) (y ∷ b) p q =
    let first = one ts x y p.0.1 q.0.1 in
    let further = one_list_from one tss a b p.1 q.1 in
    λ i. first i ∷ further i

-- every right result is returned
pub answers_trees : (tss : List (List TokenKind)) (result : Result (Vec Statement) ParseFault) → Settles tss result
    → (trees : List Statement) → AreTrees tss trees → Answers result (Ok trees)
answers_trees tss (Ok found) settled trees are = λ i. Ok (settled.1 trees are i)
answers_trees tss (Err (Refused n code)) settled trees are = absurd (not_both tss trees n code are settled)
answers_trees tss (Err OutOfMemory) settled trees are = tt

pub answers_refusal : (tss : List (List TokenKind)) (result : Result (Vec Statement) ParseFault) → Settles tss result
    → (n : ℕ) (code : Code) → FirstRefused tss n code → Answers result (Err (Refused n code))
answers_refusal tss (Ok found) settled n code refused = absurd (not_both tss found.items n code settled.0 refused)
answers_refusal tss (Err (Refused m other)) settled n code refused =
    let same = one_refusal tss n m code other refused settled in
    λ i. Err (Refused (same.0 i) (same.1 i))
answers_refusal tss (Err OutOfMemory) settled n code refused = tt
