-- Statements that the grammar accepts have a program, or a refusal.
use Rattle.std.proofs.Common.{◌≡◌, ◌⊎◌, ℕ, suc, List, [], ◌∷◌, ◌++◌, All, sym, subst, inl, inr}
use Rattle.std.specs.List.{AllZip}
use Rattle.std.proofs.lemmas.List.{map_push}
use Rattle.std.proofs.lemmas.List.Elements.{All-head, All-nil, All-push}
use Rattle.ksql_types.specs.declared.code.Code.{Code}
use Rattle.ksql_lexer.specs.declared.token.TokenKind.{TokenKind}
use Rattle.statement_trees.specs.declared.tree.Statement.{Statement}
use Rattle.ksql_parser.specs.Script.{AreTrees, IsTreeOf}
use Rattle.ksql_program.specs.declared.program.Item.{Item}
use Rattle.ksql_program.specs.Program.{relation_of, relations}
use Rattle.ksql_rules.specs.Limits.{IsWithinLimits}
use Rattle.ksql_rules.specs.Lowest.{IsAccepted, IsRefused}
use Rattle.ksql_analyse.specs.Judgement.{AreParsed, AreRefused, FirstRefused, IsItemOf, IsProgramOf, Judged, done, here, later, next}
use Rattle.ksql_analyse.specs.Plain.{HasPlainNames}
use Rattle.ksql_analyse.proofs.unique.Behind.{judged-behind}
use Rattle.ksql_analyse.proofs.some.Decided.{accepted-or-refused}
use Rattle.ksql_analyse.proofs.parsed.FewCalls.{tree-few}
use Rattle.ksql_analyse.proofs.sound.Kept.{next_relation}
use Rattle.ksql_analyse.proofs.parsed.Parsed.{parsed-within}
use Rattle.ksql_analyse.proofs.accepted.Refusals.{not-full}
use Rattle.ksql_analyse.proofs.some.SomeItem.{some-item}

-- one statement more
zip-push : (parts : List (List TokenKind)) (sts : List Statement) (ts : List TokenKind) (st : Statement) → AllZip IsTreeOf parts sts → IsTreeOf ts st
    → AllZip IsTreeOf (parts ++ ts ∷ []) (sts ++ st ∷ [])
zip-push [] [] ts st h k = (k, tt)
zip-push [] (o ∷ sts) ts st h k = absurd h
zip-push (us ∷ parts) [] ts st h k = absurd h
zip-push (us ∷ parts) (o ∷ sts) ts st h k = (h.0, zip-push parts sts ts st h.1 k)

-- the facts about the statements that were judged
record Before (front : List Statement) (items : List Item) : Type 0 where
  parsed : AreParsed front
  judged : Judged [] front items
  plain : All HasPlainNames (relations items)

with-one : (front : List Statement) (items : List Item) (ts : List TokenKind) (st : Statement) (i : Item) → Before front items → IsTreeOf ts st
    → IsAccepted (relations items) st → IsItemOf (relations items) st i → Before (front ++ st ∷ []) (items ++ i ∷ [])
with-one front items ts st i b tree accepted is =
    let parsed : AreParsed (front ++ st ∷ []) = (b.parsed.0 ++ ts ∷ [], zip-push b.parsed.0 front ts st b.parsed.1 tree) in
    let judged = judged-behind [] front items st i b.judged accepted is in
    let kept = next_relation (front ++ st ∷ []) items i parsed judged (not-full (relations items) st accepted) in
    let all : relations (items ++ i ∷ []) ≡ relations items ++ relation_of i ∷ [] = map_push relation_of items i in
    record {
      parsed = parsed;
      judged = judged;
      plain = subst (All HasPlainNames) (sym all) (All-push HasPlainNames (relations items) (relation_of i) b.plain kept.plain);
    }

-- the later statements have items, or one of them is refused
abbrev Outcome : List Item → List Statement → Type 0
Outcome items sts = ((found : List Item) × Judged items sts found) ⊎ ((number : ℕ) × (code : Code) × FirstRefused items sts number code)

one-item : (items : List Item) (ts : List TokenKind) (st : Statement) → IsTreeOf ts st → IsAccepted (relations items) st → All HasPlainNames (relations items)
    → (i : Item) × IsItemOf (relations items) st i
one-item items ts st tree accepted plain =
    let limits = All-head IsWithinLimits st [] (parsed-within (st ∷ []) (ts ∷ [], (tree, tt))) in
    some-item (relations items) st accepted limits (tree-few ts st tree) plain

outcome : (parts : List (List TokenKind)) (sts front : List Statement) (items : List Item) → AreTrees parts sts → Before front items → Outcome items sts
outcome [] [] front items h b = inl (items, done)
outcome [] (st ∷ sts) front items h b = absurd h
outcome (ts ∷ parts) [] front items h b = absurd h
outcome (ts ∷ parts) (st ∷ sts) front items h b = at (outcome parts sts) (accepted-or-refused (relations items) st)
  where
    behind : (i : Item) → IsAccepted (relations items) st → IsItemOf (relations items) st i → Outcome (items ++ i ∷ []) sts → Outcome items (st ∷ sts)
    behind i accepted is (inl found) = inl (found.0, next i accepted is found.1)
    behind i accepted is (inr refused) = inr (suc refused.0, refused.1, later i accepted is refused.2)

    at : ((more : List Statement) (others : List Item) → AreTrees parts sts → Before more others → Outcome others sts)
        → IsAccepted (relations items) st ⊎ ((c : Code) × IsRefused (relations items) st c) → Outcome items (st ∷ sts)
    at rest (inl accepted) =
        let i = one-item items ts st h.0 accepted b.plain in
        behind i.0 accepted i.1 (rest (front ++ st ∷ []) (items ++ i.0 ∷ []) h.1 (with-one front items ts st i.0 b h.0 accepted i.1))
    at rest (inr refused) = inr (1, refused.0, here refused.1)

pub program-or-refusal : (sts : List Statement) → AreParsed sts → ((items : List Item) × IsProgramOf sts items) ⊎ ((number : ℕ) × (code : Code) × AreRefused sts number code)
program-or-refusal sts h =
    outcome h.0 sts [] [] h.1
    (record { parsed = ([], tt); judged = done; plain = All-nil HasPlainNames })
