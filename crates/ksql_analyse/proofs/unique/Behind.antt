-- One more statement after those that were judged.
use Rattle.std.proofs.Common.{◌≡◌, ℕ, suc, ◌+◌, ◌<◌, ◌≤◌, List, [], ◌∷◌, ◌++◌, length, take, drop, get_or, refl, ap, sym, ◌∙◌, subst, arith}
use Rattle.std.specs.List.{All}
use Rattle.std.specs.Prelude.{Result, Err}
use Rattle.std.proofs.lemmas.List.{take_more, take_all, drop_more, take-append-drop, map_push, length_push, length-take-le, length-map}
use Rattle.std.proofs.lemmas.List.Elements.{All-nil, All-push}
use Rattle.std.proofs.Math.Numerals.{suc-eq-add-one}
use Rattle.ksql_types.specs.declared.code.Code.{Code}
use Rattle.ksql_types.specs.declared.relation.Relation.{Relation}
use Rattle.statement_trees.specs.declared.tree.Statement.{Statement}
use Rattle.ksql_program.specs.declared.program.Item.{Item}
use Rattle.ksql_program.specs.declared.program.Program.{Program}
use Rattle.ksql_program.specs.Program.{relation_of, relations}
use Rattle.ksql_rules.specs.Limits.{IsRelationWithin}
use Rattle.ksql_rules.specs.Lowest.{IsAccepted, IsRefused}
use Rattle.ksql_analyse.specs.Judgement.{IsItemOf, Judged, done, next, FirstRefused, here, later, IsProgramOf, AreParsed, AreRefused, IsJudgement}
use Rattle.ksql_analyse.specs.Next.{IsFaultOf}
use Rattle.ksql_analyse.specs.declared.fault.AnalyseFault.{AnalyseFault}
use Rattle.ksql_analyse.specs.declared.fault.AnalyseFault.TheVariants.{Refused, OutOfMemory}
use Rattle.ksql_analyse.specs.Plain.{HasPlainNames}
use Rattle.ksql_analyse.proofs.sound.Kept.{IsNext, next_relation, parsed-front}
use Rattle.ksql_analyse.proofs.accepted.Refusals.{not-full}
use Rattle.ksql_analyse.proofs.unique.Unique.{judged-by}

-- an accepted one
pub judged-behind : (before front : _) (items : List Item) (st : Statement) (i : Item) → Judged before front items → IsAccepted (relations items) st
    → IsItemOf (relations items) st i → Judged before (front ++ st ∷ []) (items ++ i ∷ [])
judged-behind before [] items st i h accepted is =
    let same : before ≡ items = judged-by h in
    subst (λ is. Judged is (st ∷ []) (items ++ i ∷ [])) (sym same) (next i accepted is done)
judged-behind before (x ∷ front) items st i h accepted is =
    let r = judged-by h in
    next r.0 r.1 r.2 (judged-behind (before ++ r.0 ∷ []) front items st i r.3 accepted is)

-- one that is refused
pub refused-behind : (before front rest : _) (items : List Item) (st : Statement) (c : Code) → Judged before front items → IsRefused (relations items) st c
    → FirstRefused before (front ++ st ∷ rest) (suc (length front)) c
refused-behind before [] rest items st c h refused =
    let same : before ≡ items = judged-by h in
    here (subst (λ is. IsRefused (relations is) st c) (sym same) refused)
refused-behind before (x ∷ front) rest items st c h refused =
    let r = judged-by h in
    later r.0 r.1 r.2 (refused-behind (before ++ r.0 ∷ []) front rest items st c r.3 refused)

-- ---- the first statements, judged

pub record Done (sts : List Statement) (count : ℕ) (catalog : List Relation) (items : List Item) : Type 0 where
  pub stand : catalog ≡ relations items
  pub judged : Judged [] (take count sts) items
  pub counted : length items ≡ count
  pub few : count ≤ 200
  pub within : All IsRelationWithin catalog
  pub plain : All HasPlainNames catalog

pub none-done : (sts : List Statement) → Done sts 0 [] []
none-done sts = record {
  stand = refl;
  judged = done;
  counted = refl;
  few = omega arith;
  within = All-nil IsRelationWithin;
  plain = All-nil HasPlainNames;
}

-- the number of relations is that of the statements
pub relations-counted : (sts : List Statement) (count : ℕ) (catalog : List Relation) (items : List Item) → Done sts count catalog items → length catalog ≡ count
relations-counted sts count catalog items d = ap length d.stand ∙ length-map items relation_of ∙ d.counted

front-judged : (sts : List Statement) (count : ℕ) (catalog : List Relation) (items : List Item) (st : Statement) (i : Item) → Done sts count catalog items
    → count < length sts → st ≡ get_or sts count st → IsAccepted catalog st → IsItemOf catalog st i → Judged [] (take (count + 1) sts) (items ++ i ∷ [])
front-judged sts count catalog items st i d below at accepted is =
    let front : take (count + 1) sts ≡ take count sts ++ st ∷ [] = take_more sts count st below ∙ ap (λ x. take count sts ++ x ∷ []) (sym at) in
    subst (λ front. Judged [] front (items ++ i ∷ [])) (sym front)
    (judged-behind [] (take count sts) items st i d.judged (subst (λ rs. IsAccepted rs st) d.stand accepted) (subst (λ rs. IsItemOf rs st i) d.stand is))

-- its relation can be put after the others
pub one-next : (sts : List Statement) (count : ℕ) (catalog : List Relation) (items : List Item) (st : Statement) (i : Item) → AreParsed sts → Done sts count catalog items
    → count < length sts → st ≡ get_or sts count st → IsAccepted catalog st → IsItemOf catalog st i → IsNext catalog (relation_of i)
one-next sts count catalog items st i parsed d below at accepted is =
    subst (λ rs. IsNext rs (relation_of i)) (sym d.stand)
    (next_relation (take (count + 1) sts) items i (parsed-front (count + 1) sts parsed) (front-judged sts count catalog items st i d below at accepted is)
    (not-full (relations items) st (subst (λ rs. IsAccepted rs st) d.stand accepted)))

pub one-more : (sts : List Statement) (count : ℕ) (catalog more : List Relation) (items : List Item) (st : Statement) (i : Item) → AreParsed sts → Done sts count catalog items
    → count < length sts → st ≡ get_or sts count st → IsAccepted catalog st → IsItemOf catalog st i
    → more ≡ catalog ++ relation_of i ∷ [] → Done sts (count + 1) more (items ++ i ∷ [])
one-more sts count catalog more items st i parsed d below at accepted is pushed =
    let kept = one-next sts count catalog items st i parsed d below at accepted is in
    let counted = relations-counted sts count catalog items d in
    let room = kept.room in
    record {
      stand = pushed ∙ ap (λ rs. rs ++ relation_of i ∷ []) d.stand ∙ sym (map_push relation_of items i);
      judged = front-judged sts count catalog items st i d below at accepted is;
      counted = length_push items i ∙ ap (λ n. n + 1) d.counted;
      few = omega arith;
      within = subst (All IsRelationWithin) (sym pushed) (All-push IsRelationWithin catalog (relation_of i) d.within kept.within);
      plain = subst (All HasPlainNames) (sym pushed) (All-push HasPlainNames catalog (relation_of i) d.plain kept.plain);
    }

-- the next one is refused
pub next-refused : (sts : List Statement) (count : ℕ) (catalog : List Relation) (items : List Item) (st : Statement) (c : Code) → Done sts count catalog items
    → count < length sts → st ≡ get_or sts count st → IsRefused catalog st c → AreRefused sts (count + 1) c
next-refused sts count catalog items st c d below at refused =
    let whole : take count sts ++ st ∷ drop (count + 1) sts ≡ sts =
    ap (λ rest. take count sts ++ rest) (ap (λ x. x ∷ drop (count + 1) sts) at ∙ sym (drop_more sts count st below)) ∙ take-append-drop count sts in
    let r = refused-behind [] (take count sts) (drop (count + 1) sts) items st c d.judged (subst (λ rs. IsRefused rs st c) d.stand refused) in
    let number : suc (length (take count sts)) ≡ count + 1 = ap suc (length-take-le count sts (omega arith)) ∙ suc-eq-add-one count in
    subst (λ all. FirstRefused [] all (count + 1) c) whole (subst (λ n. FirstRefused [] (take count sts ++ st ∷ drop (count + 1) sts) n c) number r)

-- all are judged
pub all-done : (sts : List Statement) (count : ℕ) (catalog : List Relation) (items : List Item) → Done sts count catalog items → length sts ≤ count → IsProgramOf sts items
all-done sts count catalog items d whole = subst (λ front. Judged [] front items) (take_all count sts whole) d.judged

-- why the next one has no item
pub fault-judged : (sts : List Statement) (count : ℕ) (catalog : List Relation) (items : List Item) (st : Statement) (fault : AnalyseFault) → Done sts count catalog items
    → count < length sts → st ≡ get_or sts count st → IsFaultOf catalog st (count + 1) fault → (r : Result Program AnalyseFault) → r ≡ Err fault → IsJudgement sts r
fault-judged sts count catalog items st (Refused number c) d below at refused r is =
    subst (IsJudgement sts) (sym is) (subst (λ m. AreRefused sts m c) (sym refused.0) (next-refused sts count catalog items st c d below at refused.1))
fault-judged sts count catalog items st OutOfMemory d below at refused r is = subst (IsJudgement sts) (sym is) tt

pub judged-whole : (sts : List Statement) (count : ℕ) (catalog : List Relation) (items found : List Item) → Done sts count catalog items → length sts ≤ count
    → found ≡ items → IsProgramOf sts found
judged-whole sts count catalog items found d whole is = subst (IsProgramOf sts) (sym is) (all-done sts count catalog items d whole)
