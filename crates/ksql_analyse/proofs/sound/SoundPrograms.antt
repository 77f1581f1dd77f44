-- The program of parsed statements is sound.
use Rattle.std.proofs.Common.{◌≡◌, ℕ, ◌+◌, ◌-◌, ◌^◌, ◌≤◌, arith, Bool, false, ◌||◌, List, [], ◌∷◌, ◌++◌, length, map, Option, Some, None, refl, ap, ap₂, sym, ◌∙◌, subst, inl, inr}
use Rattle.std.specs.Prelude.{◌⊎◌, All, Result, Ok, Err, IfOk, bytes_eq, unwrap_or}
use Rattle.std.specs.List.{list_any, AllByRecursion as Each}
use Rattle.std.proofs.lemmas.List.{append-nil, append_assoc, length-append, length-map, map-append}
use Rattle.std.proofs.lemmas.List.Elements.{All-head, All-tail}
use Rattle.ksql_types.specs.Catalog.{has_name, has_topic}
use Rattle.ksql_types.specs.declared.relation.Relation.{Relation}
use Rattle.statement_trees.specs.declared.tree.Property.{Property}
use Rattle.statement_trees.specs.declared.tree.Select.{Select}
use Rattle.statement_trees.specs.declared.tree.Statement.{Statement}
use Rattle.statement_trees.specs.declared.tree.StatementBody.{StatementBody}
use Rattle.statement_trees.specs.declared.tree.StatementBody.TheVariants as body
use Rattle.ksql_expr.specs.declared.typed.Typed.{Typed}
use Rattle.ksql_program.specs.declared.program.Item.{Item}
use Rattle.ksql_program.specs.declared.program.Item.TheVariants.{Declared, Started}
use Rattle.ksql_program.specs.declared.program.Program.{Program}
use Rattle.ksql_program.specs.declared.query.From.{From}
use Rattle.ksql_program.specs.declared.query.Query.{Query as OneQuery}
use Rattle.ksql_program.specs.declared.query.Shape.{Shape}
use Rattle.ksql_program.specs.declared.query.Shape.TheVariants as shape
use Rattle.ksql_types.specs.Names.{are_distinct, is_among}
use Rattle.ksql_program.specs.Program.{relation_of, relations}
use Rattle.ksql_program.specs.Sound.{IsSound, IsSoundItem, AreSoundItems, IsSoundRelation, IsSoundQuery, IsSoundDeclaration, IsKeyed, Makes, HasItsKey, HasFewAggregates, ItemHasFewAggregates}
use Rattle.ksql_clauses.specs.declared.sources.Known.{Known}
use Rattle.ksql_clauses.specs.Items.{result_columns}
use Rattle.ksql_clauses.specs.Properties.{topic_in}
use Rattle.ksql_clauses.specs.Sources.{all_known, have_one_alias, item_scope, is_windowed}
use Rattle.ksql_clauses.specs.Keys.{key_columns}
use Rattle.ksql_rules.specs.Breaks.{is_topic_taken, topic_of, is_grouped, group_exprs}
use Rattle.ksql_rules.specs.Limits.{IsQueryWithin}
use Rattle.ksql_rules.specs.Lowest.{IsAccepted}
use Rattle.ksql_analyse.specs.declared.fault.AnalyseFault.{AnalyseFault}
use Rattle.ksql_analyse.specs.Few.{HasFewCalls}
use Rattle.ksql_analyse.specs.Judgement.{AreParsed, IsJudgement, IsProgramOf, Judged, done, next, IsItemOf, IsQuery, IsShape, IsResult, AreTypedTrees, agg_form, aggregate_exprs, exprs, declared_relation}
use Rattle.ksql_analyse.proofs.lists.Distinct.{distinct-push, or-false, true-not}
use Rattle.ksql_analyse.proofs.parsed.FewCalls.{parsed-few}
use Rattle.ksql_analyse.proofs.parsed.Parsed.{IsKept, IsPlainShort, parsed-kept}
use Rattle.ksql_analyse.proofs.accepted.FewAggregates.{few-columns}
use Rattle.ksql_analyse.proofs.accepted.Refusals.{KeepsQuery, stated, not-taken, not-full, declaration-kept, query-kept}
use Rattle.ksql_analyse.proofs.sound.SoundColumns.{each-append}
use Rattle.ksql_analyse.proofs.sound.SoundDeclared.{declaration-sound, topic-there}
use Rattle.ksql_analyse.proofs.sound.SoundGrouped.{makes-grouped}
use Rattle.ksql_analyse.proofs.forms.Reserved.{AreSound}
use Rattle.ksql_analyse.proofs.forms.ValuedTrees.{trees-counted}
use Rattle.ksql_analyse.proofs.sound.SoundPlain.{keyed-one}
use Rattle.ksql_analyse.proofs.sound.SoundQuery.{IsRead, early-plain, makes-plain, query-sound}
use Rattle.ksql_analyse.proofs.sound.SoundReading.{read-one, read-two, keyed-two}
use Rattle.ksql_analyse.proofs.sound.SoundResult.{HasShortName, names-short-one, names-short-two}
use Rattle.ksql_analyse.proofs.sound.SoundSources.{IsThere, named-there, ReadsOne, ReadsTwo, what-is-read}

-- ---- a query

-- what a query makes, and its key
module _ (before : List Item) (catalog : List Relation) (table : Bool) (name : List ℕ) (ps : List Property) (q : Select) (ks : List Known)
    (keeps : KeepsQuery catalog table name ps q ks) (within : IsQueryWithin q) (relations_sound : AreSound ks) where
  made-sound : (f : From) (sh : Shape) (number : ℕ) (out : Relation) (read : IsRead before q ks f) → IsShape q ks sh → IsResult number (stated table name (body.Query ps q)) ps q ks sh out
      → (is_grouped q ≡ false → (xs : List Typed) → AreTypedTrees (item_scope q ks) (exprs (key_columns q ks)) xs → IsKeyed before f xs)
      → Makes read.left read.types sh out × HasItsKey before f sh
  made-sound f (shape.Plain keys values) number out read h r key =
      (makes-plain before catalog table name ps q ks keeps within f keys values number out read h r, key (true-not (is_grouped q) h.0) keys h.1)
  made-sound f (shape.Group keys window gs having values) number out read h r key =
      (makes-grouped before catalog table name ps q ks keeps within relations_sound h.0 f keys values window gs having number out read h r, tt)

  started-sound : (number : ℕ) (made : OneQuery) → length name ≤ 128 → Each HasShortName (result_columns q ks) → IsQuery number (stated table name (body.Query ps q)) ps q ks made
      → (read : IsRead before q ks made.from)
      → (is_grouped q ≡ false → (xs : List Typed) → AreTypedTrees (item_scope q ks) (exprs (key_columns q ks)) xs → IsKeyed before made.from xs)
      → IsSoundRelation number made.out × IsSoundQuery before made
  started-sound number made short shorts h read key =
      let m = made-sound made.from made.shape number made.out read h.makes h.gives key in
      query-sound before catalog table name ps q ks keeps within number made read h short shorts m.0 m.1

module _ (before : List Item) (sound : AreSoundItems [] before) (table : Bool) (name : List ℕ) (ps : List Property) (q : Select)
    (within : IsQueryWithin q) (plain : All IsPlainShort q.items) (short : length name ≤ 128) (number : ℕ) (made : OneQuery) where
  abbrev catalog : List Relation
  catalog = relations before

  over-one : (k : Known) → IsThere before k.relation → q.join ≡ None → KeepsQuery catalog table name ps q (k ∷ [])
      → IsQuery number (stated table name (body.Query ps q)) ps q (k ∷ []) made → IsSoundRelation number made.out × IsSoundQuery before made
  over-one k there join keeps h =
      let w = (or-false (is_windowed k.relation) false keeps.not_windowed).0 in
      started-sound before catalog table name ps q (k ∷ []) keeps within (there.sound, tt) number made short
      (names-short-one q k k.relation.number there.sound keeps.few within.item_aliases_short plain) h (read-one before q k made.from h.reads join there w)
      (λ g xs t. keyed-one before q k made.from xs h.reads join g there keeps.partitioned keeps.keyed t)

  over-two : (l r : Known) (reads : ReadsTwo catalog q) → l ≡ reads.left → r ≡ reads.right → IsThere before l.relation → IsThere before r.relation
      → KeepsQuery catalog table name ps q (l ∷ r ∷ []) → IsQuery number (stated table name (body.Query ps q)) ps q (l ∷ r ∷ []) made
      → IsSoundRelation number made.out × IsSoundQuery before made
  over-two l r reads is-l is-r left-there right-there keeps h =
      let apart : bytes_eq l.alias r.alias ≡ false =
      ap₂ bytes_eq (ap (λ k. k.alias) is-l ∙ reads.left_is.alias) (ap (λ k. k.alias) is-r ∙ reads.right_is.alias)
      ∙ sym (ap (λ o. have_one_alias (record q { join = o })) reads.join) ∙ keeps.aliases in
      started-sound before catalog table name ps q (l ∷ r ∷ []) keeps within (left-there.sound, (right-there.sound, tt)) number made short
      (names-short-two q l r keeps.short) h
      (read-two before q l r reads.text reads.join catalog table name ps keeps left-there right-there (early-plain q keeps.early_plain within) apart made.from h.reads)
      (λ g xs t. keyed-two before q l r reads.text reads.join catalog table name ps keeps left-there right-there g made.from h.reads xs t)

  query-item : IsAccepted catalog (stated table name (body.Query ps q)) → IsQuery number (stated table name (body.Query ps q)) ps q (all_known catalog q) made
      → IsSoundRelation number made.out × IsSoundQuery before made
  query-item accepted h = at (what-is-read catalog q keeps.all_known)
    where
      keeps : KeepsQuery catalog table name ps q (all_known catalog q)
      keeps = query-kept catalog table name ps q accepted

      at : ReadsOne catalog q ⊎ ReadsTwo catalog q → IsSoundRelation number made.out × IsSoundQuery before made
      at (inl o) =
          over-one o.one (named-there before sound q.source.name o.one.relation o.is.found) o.join
          (subst (KeepsQuery catalog table name ps q) o.all keeps) (subst (λ ks. IsQuery number (stated table name (body.Query ps q)) ps q ks made) o.all h)
      at (inr o) =
          over-two o.left o.right o refl refl (named-there before sound q.source.name o.left.relation o.left_is.found)
          (named-there before sound o.text.source.name o.right.relation o.right_is.found)
          (subst (KeepsQuery catalog table name ps q) o.all keeps) (subst (λ ks. IsQuery number (stated table name (body.Query ps q)) ps q ks made) o.all h)

-- ---- how many aggregates there are

-- the aggregates of a grouping are counted by the expressions that they stand for
shape-few : (q : Select) (ks : List Known) (sh : Shape) → length (group_exprs q ks) + length (aggregate_exprs q ks) ≤ 2 ^ 32 - 2 → IsShape q ks sh → HasFewAggregates sh
shape-few q ks (shape.Plain keys values) few h = tt
shape-few q ks (shape.Group keys window gs having values) few h =
    let xs : List Typed = h.3.0 in
    let trees : length (aggregate_exprs q ks) ≡ length xs = trees-counted (item_scope q ks) (aggregate_exprs q ks) xs h.3.1 in
    let forms : length xs ≡ length gs = sym (length-map xs (λ (x : Typed). x.node)) ∙ ap length h.3.2 ∙ length-map gs agg_form in
    omega (arith, few, trees, forms)

query-few : (catalog : List Relation) (table : Bool) (name : List ℕ) (ps : List Property) (q : Select) → IsAccepted catalog (stated table name (body.Query ps q))
    → HasFewCalls (body.Query ps q) → (sh : Shape) → IsShape q (all_known catalog q) sh → HasFewAggregates sh
query-few catalog table name ps q accepted few sh h =
    let ks : List Known = all_known catalog q in
    shape-few q ks sh (few-columns catalog table name ps q ks (query-kept catalog table name ps q accepted) few) h

-- ---- an item

-- an item that is sound after others, with a name and a topic of its own, and few aggregates
pub record IsNew (before : List Item) (i : Item) : Type 0 where
  pub sound : IsSoundItem before i
  pub name : list_any (has_name (relation_of i).name) (relations before) ≡ false
  pub topic : list_any (has_topic (relation_of i).topic) (relations before) ≡ false
  pub few : ItemHasFewAggregates i

new-topic : (catalog : List Relation) (o : Option (List ℕ)) (topic : List ℕ) → o ≡ Some topic → is_topic_taken catalog o ≡ false → list_any (has_topic topic) catalog ≡ false
new-topic catalog o topic is h = sym (ap (is_topic_taken catalog) is) ∙ h

item-new : (before : List Item) → IsSound before → (table : Bool) (name : List ℕ) (b : StatementBody) → IsKept (stated table name b)
    → HasFewCalls b → IsAccepted (relations before) (stated table name b) → (i : Item) → IsItemOf (relations before) (stated table name b) i → IsNew before i
item-new before sound table name (body.Declared cs ps) kept few accepted (Declared r) h =
    let keeps = declaration-kept (relations before) table name cs ps accepted in
    let count : length (relations before) ≡ length before = length-map before relation_of in
    let made = declared_relation (length (relations before)) (stated table name (body.Declared cs ps)) cs ps in
    let s = declaration-sound (length (relations before)) table name cs ps keeps kept.within.named kept.within.body in
    let free = or-false (list_any (has_name name) (relations before)) (is_topic_taken (relations before) (topic_in ps))
    (not-taken (relations before) table name (body.Declared cs ps) accepted) in
    let topic = topic-there (topic_in ps) keeps.topic in
    record {
      sound = (subst (λ n. IsSoundRelation n r) count (subst (IsSoundRelation (length (relations before))) (sym h) s.0), subst IsSoundDeclaration (sym h) s.1);
      name = ap (λ o. list_any (has_name o.name) (relations before)) h ∙ free.0;
      topic = ap (λ o. list_any (has_topic o.topic) (relations before)) h ∙ ap (λ o. list_any (has_topic (unwrap_or o [])) (relations before)) topic.1
          ∙ new-topic (relations before) (topic_in ps) topic.0 topic.1 free.1;
      few = tt;
    }
item-new before sound table name (body.Declared cs ps) kept few accepted (Started made) h = absurd h
item-new before sound table name (body.Query ps q) kept few accepted (Declared r) h = absurd h
item-new before sound table name (body.Query ps q) kept few accepted (Started made) h =
    let count : length (relations before) ≡ length before = length-map before relation_of in
    let s = query-item before sound.sound table name ps q kept.within.body kept.plain kept.within.named (length (relations before)) made accepted h in
    let free = or-false (list_any (has_name name) (relations before)) (is_topic_taken (relations before) (topic_of name (body.Query ps q)))
    (not-taken (relations before) table name (body.Query ps q) accepted) in
    record {
      sound = (subst (λ n. IsSoundRelation n made.out) count s.0, s.1);
      name = ap (λ n. list_any (has_name n) (relations before)) h.gives.named ∙ free.0;
      topic = new-topic (relations before) (topic_of name (body.Query ps q)) made.out.topic (sym h.gives.topic) free.1;
      few = query-few (relations before) table name ps q accepted few made.shape h.makes;
    }

-- ---- one item more

push-sound : (before items : List Item) (i : Item) → AreSoundItems before items → IsSoundItem (before ++ items) i → AreSoundItems before (items ++ i ∷ [])
push-sound before [] i h k = (subst (λ b. IsSoundItem b i) (append-nil before) k, tt)
push-sound before (x ∷ items) i h k =
    (h.0, push-sound (before ++ x ∷ []) items i h.1 (subst (λ b. IsSoundItem b i) (sym (append_assoc before (x ∷ []) items)) k))

pub among-mapped : (f : Relation → List ℕ) (name : List ℕ) (rs : List Relation) → is_among (map f rs) name ≡ list_any (λ r. bytes_eq name (f r)) rs
among-mapped f name [] = refl
among-mapped f name (r ∷ rs) = ap (λ b. bytes_eq name (f r) || b) (among-mapped f name rs)

one-more : (f : Relation → List ℕ) (before : List Item) (i : Item) → map f (relations (before ++ i ∷ [])) ≡ map f (relations before) ++ f (relation_of i) ∷ []
one-more f before i = ap (map f) (map-append relation_of before (i ∷ [])) ∙ map-append f (relations before) (relation_of i ∷ [])

pushed : (before : List Item) (i : Item) → IsSound before → length (relations before) ≤ 199 → IsNew before i → IsSound (before ++ i ∷ [])
pushed before i sound few new =
    let count : length (relations before) ≡ length before = length-map before relation_of in
    record {
      few = omega (arith, length-append before (i ∷ []));
      names_differ = ap are_distinct (one-more (λ r. r.name) before i)
          ∙ distinct-push (relation_of i).name (map (λ r. r.name) (relations before)) sound.names_differ
          (among-mapped (λ r. r.name) (relation_of i).name (relations before) ∙ new.name);
      topics_differ = ap are_distinct (one-more (λ r. r.topic) before i)
          ∙ distinct-push (relation_of i).topic (map (λ r. r.topic) (relations before)) sound.topics_differ
          (among-mapped (λ r. r.topic) (relation_of i).topic (relations before) ∙ new.topic);
      sound = push-sound [] before i sound.sound (subst (λ b. IsSoundItem b i) (sym (nothing-before before)) new.sound);
      few_aggregates = each-append ItemHasFewAggregates before (i ∷ []) sound.few_aggregates (new.few, tt);
    }
  where
    nothing-before : (xs : List Item) → [] ++ xs ≡ xs
    nothing-before xs = refl

judged-sound : {before : List Item} {sts : List Statement} {items : List Item} → Judged before sts items → IsSound before → All IsKept sts → All (λ st. HasFewCalls st.body) sts → IsSound items
judged-sound done sound kept few = sound
judged-sound (next {before = before} {st = st} {sts = sts} i accepted item rest) sound kept few =
    let own : HasFewCalls st.body = All-head (λ (s : Statement). HasFewCalls s.body) st sts few in
    judged-sound rest
    (pushed before i sound (not-full (relations before) st accepted) (item-new before sound st.table st.name st.body (All-head IsKept st sts kept) own accepted i item))
    (All-tail IsKept st sts kept) (All-tail (λ (s : Statement). HasFewCalls s.body) st sts few)

nothing-sound : IsSound []
nothing-sound = record { few = omega arith; names_differ = refl; topics_differ = refl; sound = tt; few_aggregates = tt }

-- the program of parsed statements is sound
pub sound : (sts : List Statement) (items : List Item) → AreParsed sts → IsProgramOf sts items → IsSound items
sound sts items parsed program = judged-sound program nothing-sound (parsed-kept sts parsed) (parsed-few sts parsed)

-- the program of parsed statements, if they have one, is sound
pub judgement-sound : (sts : List Statement) (answer : Result Program AnalyseFault) → AreParsed sts → IsJudgement sts answer
    → IfOk answer (λ program. IsSound program.items)
judgement-sound sts (Ok program) parsed found = sound sts program.items parsed found
judgement-sound sts (Err fault) parsed found = tt
