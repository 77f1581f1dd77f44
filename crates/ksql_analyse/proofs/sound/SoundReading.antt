-- What a query reads is sound, and a query that groups nothing has its key.
use Rattle.std.proofs.Common.{◌≡◌, ◌≢◌, ℕ, ◌+◌, ◌==◌, arith, Bool, true, false, not, ◌&&◌, ◌||◌, if◌then◌else◌, List, [], ◌∷◌, ◌++◌, length, map, Option, Some, None, is_some, refl, ap, ap₂, sym, ◌∙◌, subst, inl, inr}
use Rattle.std.specs.Prelude.{◌⊎◌, slice_get, is_none, bytes_eq, codes, option_map}
use Rattle.std.specs.List.{list_any, AllByRecursion as Each}
use Rattle.std.proofs.lemmas.Bool.{false≢true}
use Rattle.std.proofs.lemmas.Bool.Decides.{Decides-eqb}
use Rattle.std.proofs.lemmas.Option.{same_Some}
use Rattle.std.proofs.lemmas.Slice.Eq.{bytes_eq-Decides}
use Rattle.ksql_types.specs.declared.operator.BinaryOp.{BinaryOp}
use Rattle.ksql_types.specs.declared.operator.BinaryOp.TheVariants as op
use Rattle.ksql_types.specs.declared.relation.Column.{Column}
use Rattle.ksql_types.specs.declared.relation.Kind.TheVariants as kind
use Rattle.ksql_types.specs.declared.relation.Relation.{Relation}
use Rattle.expression_trees.specs.declared.tree.Expr.{Expr}
use Rattle.expression_trees.specs.declared.tree.Expr.TheVariants as e
use Rattle.statement_trees.specs.declared.tree.JoinText.{JoinText}
use Rattle.statement_trees.specs.declared.tree.JoinWord.{JoinWord}
use Rattle.statement_trees.specs.declared.tree.JoinWord.TheVariants as word
use Rattle.statement_trees.specs.declared.tree.Property.{Property}
use Rattle.statement_trees.specs.declared.tree.Select.{Select}
use Rattle.ksql_expr.specs.declared.typed.Typed.{Typed}
use Rattle.ksql_expr.specs.declared.typed.TypedNode.TheVariants as n
use Rattle.ksql_program.specs.declared.program.Item.{Item}
use Rattle.ksql_program.specs.declared.query.From.{From}
use Rattle.ksql_program.specs.declared.query.From.TheVariants as from
use Rattle.ksql_program.specs.declared.query.JoinKind.{JoinKind}
use Rattle.ksql_program.specs.declared.query.JoinKind.TheVariants as join
use Rattle.ksql_program.specs.Program.{relation_at}
use Rattle.ksql_program.specs.Sound as sound
use Rattle.ksql_types.specs.Columns.{columns}
use Rattle.ksql_program.specs.Sound.{IsKeyed, IsTablesKey}
use Rattle.ksql_scopes.specs.Functions.{is_aggregate}
use Rattle.ksql_scopes.specs.Uses.{calls}
use Rattle.ksql_typing.specs.Standing.{CanAgree}
use Rattle.ksql_scopes.proofs.Equations as equation
use Rattle.ksql_scopes.proofs.Small as small
use Rattle.ksql_typing.specs.Standing as st
use Rattle.ksql_typing.specs.Standing.{Stands}
use Rattle.expression_trees.specs.Same.{same_expr}
use Rattle.ksql_clauses.specs.declared.items.Named.{Named}
use Rattle.ksql_clauses.specs.declared.sources.Known.{Known}
use Rattle.ksql_scopes.specs.Resolved.{resolved}
use Rattle.ksql_clauses.specs.Items.{result_columns}
use Rattle.ksql_clauses.specs.Sources.{is_stream, is_windowed, is_full, is_full_word, joined_streams, from_scope, item_scope, on_scope, on_exprs, early_exprs, rowkey_of}
use Rattle.ksql_clauses.specs.Keys.{key_columns}
use Rattle.ksql_rules.specs.Breaks.{same, is_grouped, is_not_on_key, is_stream_join, has_stream_side, IfThere}
use Rattle.ksql_clauses.specs.Keys.{on_sides, join_key, key_sides, needs, alone, key_exprs, key_places, is_only_key, is_of_left, tables_need, stream_needs, sources_need, beside}
use Rattle.expression_trees.proofs.Equality.{equal}
use Rattle.ksql_analyse.specs.Judgement.{IsFrom, AreTypedTrees, exprs, join_kind}
use Rattle.ksql_analyse.proofs.forms.KeySides.{only-key, AreSides, sides-are, equation-is}
use Rattle.ksql_analyse.proofs.forms.Meant.{meant-known}
use Rattle.ksql_analyse.proofs.accepted.Refusals.{KeepsQuery, not-not}
use Rattle.ksql_analyse.proofs.sound.SoundColumns.{AreKeys, keys-are}
use Rattle.ksql_analyse.proofs.sound.SoundJoin.{left-at, right-at, rowkey-at, types-two}
use Rattle.ksql_analyse.proofs.sound.SoundOn.{by-kind}
use Rattle.ksql_analyse.proofs.sound.SoundPlain.{kind-kept, stream-kind, table-kind, reads-one, from-types-one, no-group, same-one, column-tree}
use Rattle.ksql_analyse.proofs.sound.SoundQuery.{IsRead, on-part}
use Rattle.ksql_analyse.proofs.sound.SoundSources.{IsThere}
use Rattle.ksql_analyse.proofs.sound.SoundTrees.{IsPlain}
use Rattle.ksql_analyse.proofs.forms.Stood.{stood-name}
use Rattle.ksql_analyse.proofs.lists.Distinct.{or-false}

-- ---- one relation

pub read-one : (before : List Item) (q : Select) (k : Known) (f : From) → IsFrom q (k ∷ []) f → q.join ≡ None → IsThere before k.relation → is_windowed k.relation ≡ false
    → IsRead before q (k ∷ []) f
read-one before q k f h join there w = record {
  types = sound.column_types (columns k.relation);
  left = k.relation;
  reads = reads-one before q k f h there w;
  scoped = from-types-one q k join;
  kinded = kind-kept k.relation w;
  some_partition = there.sound.some_partition;
  few_partitions = there.sound.partitions_few;
}

-- ---- two relations

plain-sides : (o : BinaryOp) (x y : Expr) → IsPlain (e.Binary o x y) → IsPlain x × IsPlain y
plain-sides o x y p =
    let c = none-of (calls x) (calls y) (sym (ap (list_any is_aggregate) (equation.calls-Binary o x y)) ∙ p.0) in
    let s = small.small-Binary (e.Binary o x y) p.1 o x y refl in
    ((c.0, s.0), (c.1, s.1))
  where
    none-of : (cs ds : List (List ℕ)) → list_any is_aggregate (cs ++ ds) ≡ false → (list_any is_aggregate cs ≡ false) × (list_any is_aggregate ds ≡ false)
    none-of [] ds k = (refl, k)
    none-of (c ∷ cs) ds k =
        let r = or-false (is_aggregate c) (list_any is_aggregate (cs ++ ds)) k in
        let l = none-of cs ds r.1 in
        (ap₂ (λ a b. a || b) r.0 l.0, l.1)

-- the left relation of a FULL join has one key column
full-key : (k : JoinKind) (on : Typed) (l r : Relation) → sound.IsJoined k on l r → k ≡ join.Full → length l.schema.keys ≡ 1
full-key join.Inner on l r h full = absurd (cc (full))
full-key join.Left on l r h full = absurd (cc (full))
full-key join.Full on l r h full = h.one_key_left

same-left : (l r a b : Known) → l ∷ r ∷ [] ≡ a ∷ b ∷ [] → a ≡ l
same-left l r a b h = cc (h)

same-right : (l r a b : Known) → l ∷ r ∷ [] ≡ a ∷ b ∷ [] → b ≡ r
same-right l r a b h = cc (h)

module _ (before : List Item) (q : Select) (l r : Known) (j : JoinText) (joins : q.join ≡ Some j) where
  on-is : on_exprs q ≡ j.on ∷ []
  on-is = ap (λ o. on_exprs (record q { join = o })) joins

  full-is : is_full q ≡ is_full_word j.kind
  full-is = ap (λ o. is_full (record q { join = o })) joins

  key-is : join_key q (l ∷ r ∷ []) ≡ key_sides (on_scope q (l ∷ r ∷ [])) l r (on_sides j.on)
  key-is = subst (λ o. join_key (record q { join = o }) (l ∷ r ∷ []) ≡ key_sides (on_scope (record q { join = o }) (l ∷ r ∷ [])) l r (on_sides j.on)) (sym joins) refl

  kind-is : (k : JoinKind) → option_map (λ j. join_kind j.kind) q.join ≡ Some k → k ≡ join_kind j.kind
  kind-is k h = sym (same_Some (join_kind j.kind) k (sym (ap (option_map (λ j. join_kind j.kind)) joins) ∙ h))

  sides-of : (key : Expr × Expr) → join_key q (l ∷ r ∷ []) ≡ Some key → AreSides (on_scope q (l ∷ r ∷ [])) l r (on_sides j.on) key.0
  sides-of key h = sides-are (on_scope q (l ∷ r ∷ [])) l r (on_sides j.on) key (sym key-is ∙ h)

  on-plain : Each IsPlain (early_exprs q) → IsPlain j.on
  on-plain h = (subst (Each IsPlain) on-is (on-part IsPlain q h)).0

  side-plain : (a : Expr) → AreSides (on_scope q (l ∷ r ∷ [])) l r (on_sides j.on) a → IsPlain j.on → IsPlain a
  side-plain a d p = at d.are
    where
      at : (on_sides j.on ≡ Some (a, d.other)) ⊎ (on_sides j.on ≡ Some (d.other, a)) → IsPlain a
      at (inl k) = (plain-sides op.Eq a d.other (subst IsPlain (equation-is j.on a d.other k) p)).0
      at (inr k) = (plain-sides op.Eq d.other a (subst IsPlain (equation-is j.on d.other a k) p)).1

  module _ (catalog : List Relation) (table : Bool) (name : List ℕ) (ps : List Property) (keeps : KeepsQuery catalog table name ps q (l ∷ r ∷ []))
      (left-there : IsThere before l.relation) (right-there : IsThere before r.relation) where
    windows : (is_windowed l.relation ≡ false) × (is_windowed r.relation ≡ false)
    windows =
        let a = or-false (is_windowed l.relation) (is_windowed r.relation || false) keeps.not_windowed in
        (a.0, (or-false (is_windowed r.relation) false a.1).0)

    right-table : is_stream r.relation ≡ false
    right-table = at (is_stream l.relation) (is_stream r.relation) keeps.no_streams (or-false _ _ keeps.joinable).0
      where
        at : (a b : Bool) → (a && b) ≡ false → (not a && b) ≡ false → b ≡ false
        at true b h k = h
        at false b h k = k

    -- FULL isn't between a stream and a table
    no-full-stream : is_stream l.relation ≡ true → (k : JoinKind) → k ≡ join_kind j.kind → k ≡ join.Full → ⊥
    no-full-stream stream k is full = at j.kind refl
      where
        wrong : (is_full q && not (same (is_stream l.relation) (is_stream r.relation))) ≡ false
        wrong = (or-false (not (is_stream l.relation) && is_stream r.relation) (is_full q && not (same (is_stream l.relation) (is_stream r.relation))) keeps.joinable).1

        at : (w : JoinWord) → j.kind ≡ w → ⊥
        at word.Inner h = cc (sym full ∙ is ∙ ap join_kind h)
        at word.Left h = cc (sym full ∙ is ∙ ap join_kind h)
        at word.Full h =
            let f : is_full q ≡ true = full-is ∙ ap is_full_word h in
            false≢true (sym wrong ∙ ap₂ (λ a b. a && b) f (ap₂ (λ a b. not (same a b)) stream right-table))

    pub read-two : Each IsPlain (early_exprs q) → bytes_eq l.alias r.alias ≡ false → (f : From) → IsFrom q (l ∷ r ∷ []) f → IsRead before q (l ∷ r ∷ []) f
    read-two early apart (from.One number) h = absurd (cc (h.1))
    read-two early apart (from.Join k left right on) h =
        let mine = same-left l r h.0 h.1 h.2 in
        let theirs = same-right l r h.0 h.1 h.2 in
        let kinds = kind-is k h.3 in
        let sides = sides-of h.6 h.7 in
        let p = side-plain h.6.0 sides (on-plain early) in
        let joined = by-kind q l r (on_sides j.on) h.6.0 on sides apart p h.8 agrees k windows.0 (λ stream full. no-full-stream stream k kinds full) in
        let at-left : relation_at before left ≡ Some l.relation = ap (relation_at before) (h.4 ∙ ap (λ o. o.relation.number) mine) ∙ left-there.at in
        let at-right : relation_at before right ≡ Some r.relation = ap (relation_at before) (h.5 ∙ ap (λ o. o.relation.number) theirs) ∙ right-there.at in
        record {
          types = sound.column_types (columns l.relation) ++ sound.column_types (columns r.relation) ++ sound.rowkey_types k l.relation;
          left = l.relation;
          reads = sound.joined at-left at-right (differ left right at-left at-right) (table-kind r.relation right-table windows.1) equal joined;
          scoped = types-two q l r k j.kind (full-key k on l.relation r.relation joined) full-is kinds;
          kinded = kind-kept l.relation windows.0;
          some_partition = left-there.sound.some_partition;
          few_partitions = left-there.sound.partitions_few;
        }
      where
        equal : l.relation.partitions ≡ r.relation.partitions
        equal = (Decides-eqb l.relation.partitions r.relation.partitions).0 (not-not (l.relation.partitions == r.relation.partitions) keeps.alike)

        differ : (a b : ℕ) → relation_at before a ≡ Some l.relation → relation_at before b ≡ Some r.relation → a ≢ b
        differ a b at-a at-b is =
            let one : l.relation ≡ r.relation = same_Some l.relation r.relation (sym at-a ∙ ap (relation_at before) is ∙ at-b) in
            false≢true (sym keeps.apart ∙ (bytes_eq-Decides l.relation.name r.relation.name).1 (ap (λ o. o.name) one))

        agrees : ¬ ¬ IfThere (CanAgree (on_scope q (l ∷ r ∷ []))) (on_sides j.on)
        agrees never = keeps.typed (λ t. never (subst (Each (λ on. IfThere (CanAgree (on_scope q (l ∷ r ∷ []))) (on_sides on))) on-is t.on_agrees).0)

    -- ---- the key

    all-there : is_grouped q ≡ false → list_any is_none (key_places q (l ∷ r ∷ [])) ≡ false
    all-there g =
        last (is_stream_join (joined_streams (l ∷ r ∷ []))) (has_stream_side (joined_streams (l ∷ r ∷ []))) (is_not_on_key q (l ∷ r ∷ [])) (is_grouped q) (is_some q.partition)
        (list_any is_none (key_places q (l ∷ r ∷ []))) keeps.no_streams keeps.on_key g keeps.keyed
      where
        last : (a b c d f x : Bool) → a ≡ false → c ≡ false → d ≡ false → (not a && not (b && c) && not (d && f) && x) ≡ false → x ≡ false
        last true b c d f x h k m n = absurd (cc (h))
        last false b true d f x h k m n = absurd (cc (k))
        last false b c true f x h k m n = absurd (cc (m))
        last false true false false f x h k m n = n
        last false false false false f x h k m n = n

    keys : is_grouped q ≡ false → AreKeys (needs q (l ∷ r ∷ [])) (key_columns q (l ∷ r ∷ []))
    keys g = keys-are (result_columns q (l ∷ r ∷ [])) (needs q (l ∷ r ∷ [])) (all-there g)

    -- one column with a known property
    one-key : (f : From) (es : List Expr) (found : List Named) (xs : List Typed) → AreKeys (es ∷ []) found → AreTypedTrees (item_scope q (l ∷ r ∷ [])) (exprs found) xs
        → ((c : Named) (x : Typed) → list_any (same_expr c.expr) es ≡ true → Stands (item_scope q (l ∷ r ∷ [])) (st.one c.expr x) → IsKeyed before f (x ∷ [])) → IsKeyed before f xs
    one-key f es [] xs m v k = absurd m
    one-key f es (d ∷ []) [] m v k = absurd v
    one-key f es (d ∷ []) (y ∷ []) m v k = k d y m.0 v.0.0
    one-key f es (d ∷ []) (y ∷ z ∷ ys) m v k = absurd v.1
    one-key f es (d ∷ c ∷ found) xs m v k = absurd m.1

    key-column : (o : Column) → l.relation.schema.keys ≡ o ∷ [] → (c : Named) (x : Typed) → list_any (same_expr c.expr) (e.Name (Some l.alias) o.name ∷ []) ≡ true
        → Stands (item_scope q (l ∷ r ∷ [])) (st.one c.expr x) → x.node ≡ n.Column 0
    key-column o h c x m v =
        column-tree (item_scope q (l ∷ r ∷ [])) l.alias o 0 (left-at q l r 0 o (ap (λ cs. slice_get (cs ++ l.relation.schema.values) 0) h)) c.expr x
        (same-one c (e.Name (Some l.alias) o.name) m) v

    either-key : (o p : Column) → l.relation.schema.keys ≡ o ∷ [] → r.relation.schema.keys ≡ p ∷ [] → (c : Named) (x : Typed)
        → list_any (same_expr c.expr) (e.Name (Some l.alias) o.name ∷ e.Name (Some r.alias) p.name ∷ []) ≡ true → Stands (item_scope q (l ∷ r ∷ [])) (st.one c.expr x)
        → (x.node ≡ n.Column 0) ⊎ (x.node ≡ n.Column (length (columns l.relation)))
    either-key o p h k c x m v = at (same_expr c.expr (e.Name (Some l.alias) o.name)) refl m
      where
        at : (b : Bool) → same_expr c.expr (e.Name (Some l.alias) o.name) ≡ b → (b || list_any (same_expr c.expr) (e.Name (Some r.alias) p.name ∷ [])) ≡ true
            → (x.node ≡ n.Column 0) ⊎ (x.node ≡ n.Column (length (columns l.relation)))
        at true g u = inl (column-tree (item_scope q (l ∷ r ∷ [])) l.alias o 0 (left-at q l r 0 o (ap (λ cs. slice_get (cs ++ l.relation.schema.values) 0) h)) c.expr x
            (equal c.expr (e.Name (Some l.alias) o.name) g) v)
        at false g u =
            let z : length (columns l.relation) + 0 ≡ length (columns l.relation) = omega arith in
            inr (column-tree (item_scope q (l ∷ r ∷ [])) r.alias p (length (columns l.relation) + 0)
            (right-at q l r 0 p (ap (λ cs. slice_get (cs ++ r.relation.schema.values) 0) k)) c.expr x (same-one c (e.Name (Some r.alias) p.name) u) v ∙ ap n.Column z)

    rowkey-column : (o : Column) → is_full q ≡ true → l.relation.schema.keys ≡ o ∷ [] → (c : Named) (x : Typed)
        → list_any (same_expr c.expr) (e.Name None (codes "ROWKEY") ∷ []) ≡ true → Stands (item_scope q (l ∷ r ∷ [])) (st.one c.expr x)
        → x.node ≡ n.Column (length (columns l.relation) + length (columns r.relation))
    rowkey-column o full h c x m v =
        let g = stood-name (item_scope q (l ∷ r ∷ [])) c.expr x None (codes "ROWKEY") (same-one c (e.Name None (codes "ROWKEY")) m) v in
        ap (λ y. y.node) g.3
        ∙ (meant-known (item_scope q (l ∷ r ∷ [])) None (codes "ROWKEY") g.0 g.1 g.2 (length (columns l.relation) + length (columns r.relation)) (rowkey_of o)
        (rowkey-at q l r o full h) ((bytes_eq-Decides (codes "ROWKEY") (codes "ROWKEY")).1 refl)).0

    -- the left side of ON, with resolved names
    abbrev left-of : Expr × Expr → Expr
    left-of key = resolved (on_scope q (l ∷ r ∷ [])) key.0

    abbrev Needed : Expr × Expr → Option JoinText → Type 0
    Needed key o =
        join_key (record q { join = o }) (l ∷ r ∷ []) ≡ Some key
        → sources_need (record q { join = o }) (l ∷ r ∷ [])
        ≡ (if is_stream l.relation then stream_needs j.kind r (Some (resolved (on_scope (record q { join = o }) (l ∷ r ∷ [])) key.0)) else tables_need j.kind l r)

    joined-needs : (key : Expr × Expr) → Needed key (Some j)
    joined-needs key is = rw is

    -- what a join needs if there is no PARTITION BY
    plain-needs : (key : Expr × Expr) → is_grouped q ≡ false → q.partition ≡ None → join_key q (l ∷ r ∷ []) ≡ Some key
        → needs q (l ∷ r ∷ []) ≡ (if is_stream l.relation then stream_needs j.kind r (Some (left-of key)) else tables_need j.kind l r)
    plain-needs key g none is =
        ap₂ (λ es w. needs (record q { group = es; partition = w }) (l ∷ r ∷ [])) (no-group q g) none ∙ subst (Needed key) (sym joins) (joined-needs key) is

    pub keyed-two : is_grouped q ≡ false → (f : From) → IsFrom q (l ∷ r ∷ []) f → (xs : List Typed)
        → AreTypedTrees (item_scope q (l ∷ r ∷ [])) (exprs (key_columns q (l ∷ r ∷ []))) xs → IsKeyed before f xs
    keyed-two g (from.One number) h xs t = absurd (cc (h.1))
    keyed-two g (from.Join k left right on) h xs t = by-side (is_stream l.relation) refl
      where
        f : From
        f = from.Join k left right on

        at-left : relation_at before left ≡ Some l.relation
        at-left = ap (relation_at before) (h.4 ∙ ap (λ o. o.relation.number) (same-left l r h.0 h.1 h.2)) ∙ left-there.at

        at-right : relation_at before right ≡ Some r.relation
        at-right = ap (relation_at before) (h.5 ∙ ap (λ o. o.relation.number) (same-right l r h.0 h.1 h.2)) ∙ right-there.at

        found : List Named
        found = key_columns q (l ∷ r ∷ [])

        -- the needs, with and without PARTITION BY
        partitioned : (p : Expr) → q.partition ≡ Some p → needs q (l ∷ r ∷ []) ≡ (resolved (from_scope q (l ∷ r ∷ [])) p ∷ []) ∷ []
        partitioned p m = ap₂ (λ es w. needs (record q { group = es; partition = w }) (l ∷ r ∷ [])) (no-group q g) m

        of-stream : is_stream l.relation ≡ true → (es : List Expr) → needs q (l ∷ r ∷ []) ≡ es ∷ [] → IsKeyed before f xs
        of-stream m es need =
            one-key f es found xs (subst (λ ns. AreKeys ns found) need (keys g)) t (λ c x u v. sound.of_stream at-left (stream-kind l.relation m))

        stream-kind-needs : (w : JoinWord) (a : Expr) → (es : List Expr) × (stream_needs w r (Some a) ≡ es ∷ [])
        stream-kind-needs word.Inner a = (a ∷ key_exprs r, refl)
        stream-kind-needs word.Left a = (a ∷ [], refl)
        stream-kind-needs word.Full a = (a ∷ [], refl)

        stream-side : is_stream l.relation ≡ true → (o : Option Expr) → q.partition ≡ o → IsKeyed before f xs
        stream-side m None p =
            let z = stream-kind-needs j.kind (left-of h.6) in
            of-stream m z.0 (plain-needs h.6 g p h.7
            ∙ ap (λ b. if b then stream_needs j.kind r (Some (left-of h.6)) else tables_need j.kind l r) m ∙ z.1)
        stream-side m (Some p) w = of-stream m (resolved (from_scope q (l ∷ r ∷ [])) p ∷ []) (partitioned p w)

        -- two tables
        table-side : is_stream l.relation ≡ false → (o : Option Expr) → q.partition ≡ o → IsKeyed before f xs
        table-side m (Some p) w = absurd (false≢true (sym (sym (ap₂ (λ o b. is_some o && not b) w m) ∙ keeps.partitioned)))
        table-side m None w =
            let sides = sides-of h.6 h.7 in
            let mine = only-key (on_scope q (l ∷ r ∷ [])) l h.6.0
            (sym (ap (λ b. if b then is_of_left (on_scope q (l ∷ r ∷ [])) l h.6.0 else is_only_key (on_scope q (l ∷ r ∷ [])) l h.6.0) m) ∙ sides.left) in
            let theirs = only-key (on_scope q (l ∷ r ∷ [])) r sides.other sides.right in
            tables j.kind refl mine.column theirs.column mine.keys theirs.keys
            (plain-needs h.6 g w h.7 ∙ ap (λ b. if b then stream_needs j.kind r (Some (left-of h.6)) else tables_need j.kind l r) m)
          where
            left-table : l.relation.kind ≡ kind.Table
            left-table = table-kind l.relation m windows.0

            exprs-of : (o : Known) (c : Column) → o.relation.schema.keys ≡ c ∷ [] → key_exprs o ≡ e.Name (Some o.alias) c.name ∷ []
            exprs-of o c u = ap (map (λ d. e.Name (Some o.alias) d.name)) u

            tables : (w : JoinWord) → j.kind ≡ w → (a b : Column) → l.relation.schema.keys ≡ a ∷ [] → r.relation.schema.keys ≡ b ∷ []
                → needs q (l ∷ r ∷ []) ≡ tables_need j.kind l r → IsKeyed before f xs
            tables word.Inner u a b ka kb need =
                let n : needs q (l ∷ r ∷ []) ≡ (e.Name (Some l.alias) a.name ∷ e.Name (Some r.alias) b.name ∷ []) ∷ [] =
                need ∙ ap (λ w. tables_need w l r) u ∙ ap₂ beside (exprs-of l a ka) (exprs-of r b kb) in
                one-key f (e.Name (Some l.alias) a.name ∷ e.Name (Some r.alias) b.name ∷ []) found xs (subst (λ ns. AreKeys ns found) n (keys g)) t
                (λ c x m v. sound.of_tables at-left at-right left-table (subst (λ y. IsTablesKey y l.relation r.relation x) (sym (kind-is k h.3 ∙ ap join_kind u))
                (either-key a b ka kb c x m v)))
            tables word.Left u a b ka kb need =
                let n : needs q (l ∷ r ∷ []) ≡ (e.Name (Some l.alias) a.name ∷ []) ∷ [] = need ∙ ap (λ w. tables_need w l r) u ∙ ap alone (exprs-of l a ka) in
                one-key f (e.Name (Some l.alias) a.name ∷ []) found xs (subst (λ ns. AreKeys ns found) n (keys g)) t
                (λ c x m v. sound.of_tables at-left at-right left-table (subst (λ y. IsTablesKey y l.relation r.relation x) (sym (kind-is k h.3 ∙ ap join_kind u))
                (key-column a ka c x m v)))
            tables word.Full u a b ka kb need =
                let n : needs q (l ∷ r ∷ []) ≡ (e.Name None (codes "ROWKEY") ∷ []) ∷ [] = need ∙ ap (λ w. tables_need w l r) u in
                one-key f (e.Name None (codes "ROWKEY") ∷ []) found xs (subst (λ ns. AreKeys ns found) n (keys g)) t
                (λ c x m v. sound.of_tables at-left at-right left-table (subst (λ y. IsTablesKey y l.relation r.relation x) (sym (kind-is k h.3 ∙ ap join_kind u))
                (rowkey-column a (full-is ∙ ap is_full_word u) ka c x m v)))

        by-side : (b : Bool) → is_stream l.relation ≡ b → IsKeyed before f xs
        by-side true m = stream-side m q.partition refl
        by-side false m = table-side m q.partition refl
