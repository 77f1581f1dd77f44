-- What a query over two relations reads is sound.
use Rattle.std.proofs.Common.{◌≡◌, ℕ, zero, suc, ◌+◌, ◌<◌, arith, Bool, true, false, if◌then◌else◌, List, [], ◌∷◌, ◌++◌, length, map, Option, Some, refl, ap, ap₂, sym, ◌∙◌, inl, inr}
use Rattle.std.specs.Prelude.{◌⊎◌, slice_get, bytes_eq, take}
use Rattle.std.specs.List.{AllByRecursion as Each}
use Rattle.std.proofs.lemmas.Bool.{false≢true}
use Rattle.std.proofs.lemmas.List.{append-nil, append_assoc, length-map, map-append}
use Rattle.std.proofs.lemmas.Option.{same_Some}
use Rattle.std.proofs.lemmas.Slice.Eq.{bytes_eq-Decides}
use Rattle.ksql_types.specs.declared.relation.Column.{Column}
use Rattle.ksql_types.specs.declared.value.SqlType.{SqlType}
use Rattle.statement_trees.specs.declared.tree.JoinWord.{JoinWord}
use Rattle.statement_trees.specs.declared.tree.JoinWord.TheVariants as word
use Rattle.statement_trees.specs.declared.tree.Select.{Select}
use Rattle.ksql_program.specs.declared.query.JoinKind.{JoinKind}
use Rattle.ksql_program.specs.declared.query.JoinKind.TheVariants as join
use Rattle.ksql_program.specs.Sound as sound
use Rattle.ksql_types.specs.Columns.{columns}
use Rattle.ksql_program.specs.Sound.{rowkey_types}
use Rattle.ksql_scopes.specs.declared.scope.ScopeColumn.{ScopeColumn}
use Rattle.ksql_scopes.specs.Scope.{column_types}
use Rattle.ksql_clauses.specs.declared.sources.Known.{Known}
use Rattle.ksql_clauses.specs.Sources.{is_full, is_full_word, key_columns_of, scope_column, scope_columns, rowkey_of, rowkey, from_scope, from_columns}
use Rattle.ksql_analyse.specs.Judgement.{join_kind}
use Rattle.ksql_analyse.proofs.lists.Appended.{front-at, behind-at}
use Rattle.ksql_analyse.proofs.sound.SoundColumns.{each-at, each-append}
use Rattle.ksql_analyse.proofs.sound.SoundPlain.{types-of, scoped-at, typed_column}

-- ---- the columns of two relations

in-front-or-behind : {A : Type 0} (xs ys : List A) (j : ℕ) (x : A) → slice_get (xs ++ ys) j ≡ Some x → (j < length xs) ⊎ ((i : ℕ) × (slice_get ys i ≡ Some x))
in-front-or-behind [] ys j x h = inr (j, h)
in-front-or-behind (y ∷ xs) ys zero x h = inl (omega arith)
in-front-or-behind (y ∷ xs) ys (suc j) x h = elim (in-front-or-behind xs ys j x h) [ inl k ↦ inl (omega arith) | inr k ↦ inr k ]

module _ (q : Select) (l r : Known) where
  pub columns-two : from_columns q (l ∷ r ∷ []) ≡ scope_columns l ++ (scope_columns r ++ rowkey q (l ∷ r ∷ []))
  columns-two =
      ap (λ cs. (scope_columns l ++ cs) ++ rowkey q (l ∷ r ∷ [])) (append-nil (scope_columns r)) ∙ append_assoc (scope_columns l) (scope_columns r) (rowkey q (l ∷ r ∷ []))

  -- the left relation's columns come first
  pub left-at : (j : ℕ) (c : Column) → slice_get (columns l.relation) j ≡ Some c → slice_get (from_columns q (l ∷ r ∷ [])) j ≡ Some (scope_column l.alias c)
  left-at j c h =
      ap (λ cs. slice_get cs j) columns-two
      ∙ front-at (scope_columns l) (scope_columns r ++ rowkey q (l ∷ r ∷ [])) j (scope_column l.alias c) (scoped-at l.alias (columns l.relation) j c h)

  pub right-at : (j : ℕ) (c : Column) → slice_get (columns r.relation) j ≡ Some c
      → slice_get (from_columns q (l ∷ r ∷ [])) (length (columns l.relation) + j) ≡ Some (scope_column r.alias c)
  right-at j c h =
      ap (λ cs. slice_get cs (length (columns l.relation) + j)) columns-two
      ∙ ap (λ k. slice_get (scope_columns l ++ (scope_columns r ++ rowkey q (l ∷ r ∷ []))) (k + j)) (sym (length-map (columns l.relation) (scope_column l.alias)))
      ∙ behind-at (scope_columns l) (scope_columns r ++ rowkey q (l ∷ r ∷ [])) j
      ∙ front-at (scope_columns r) (rowkey q (l ∷ r ∷ [])) j (scope_column r.alias c) (scoped-at r.alias (columns r.relation) j c h)

  -- and ROWKEY last
  pub rowkey-at : (c : Column) → is_full q ≡ true → l.relation.schema.keys ≡ c ∷ []
      → slice_get (from_columns q (l ∷ r ∷ [])) (length (columns l.relation) + length (columns r.relation)) ≡ Some (rowkey_of c)
  rowkey-at c full keys =
      let rk : rowkey q (l ∷ r ∷ []) ≡ rowkey_of c ∷ [] =
      ap₂ (λ (b : Bool) ks. if b then map rowkey_of (take 1 (ks ++ (r.relation.schema.keys ++ []))) else []) full keys in
      let z : length (columns r.relation) ≡ length (scope_columns r) + 0 = omega (arith, length-map (columns r.relation) (scope_column r.alias)) in
      ap (λ cs. slice_get cs (length (columns l.relation) + length (columns r.relation))) columns-two
      ∙ ap₂ (λ k i. slice_get (scope_columns l ++ (scope_columns r ++ rowkey q (l ∷ r ∷ []))) (k + i)) (sym (length-map (columns l.relation) (scope_column l.alias))) z
      ∙ behind-at (scope_columns l) (scope_columns r ++ rowkey q (l ∷ r ∷ [])) (length (scope_columns r) + 0)
      ∙ behind-at (scope_columns r) (rowkey q (l ∷ r ∷ [])) 0 ∙ ap (λ cs. slice_get cs 0) rk

  -- a column with the left relation's alias is one of the left relation's
  pub left-bound : bytes_eq l.alias r.alias ≡ false → (j : ℕ) (c : ScopeColumn) → slice_get (from_columns q (l ∷ r ∷ [])) j ≡ Some c → c.alias ≡ Some l.alias
      → j < length (columns l.relation)
  left-bound apart j c at alias =
      elim (in-front-or-behind (scope_columns l) (scope_columns r ++ rowkey q (l ∷ r ∷ [])) j c (sym (ap (λ cs. slice_get cs j) columns-two) ∙ at)) [
        | inl k ↦ (let z = length-map (columns l.relation) (scope_column l.alias) in omega arith)
        | inr k ↦ absurd (each-at (λ d. d.alias ≡ Some l.alias → ⊥) (scope_columns r ++ rowkey q (l ∷ r ∷ []))
            (each-append (λ d. d.alias ≡ Some l.alias → ⊥) (scope_columns r) (rowkey q (l ∷ r ∷ [])) (of-right (columns r.relation)) (of-rowkey (is_full q))) k.0 c k.1 alias)
      ]
    where
      of-right : (cs : List Column) → Each (λ d. d.alias ≡ Some l.alias → ⊥) (map (scope_column r.alias) cs)
      of-right [] = tt
      of-right (d ∷ cs) = (λ same. false≢true (sym apart ∙ (bytes_eq-Decides l.alias r.alias).1 (sym (same_Some r.alias l.alias same))), of-right cs)

      of-keys : (cs : List Column) → Each (λ d. d.alias ≡ Some l.alias → ⊥) (map rowkey_of cs)
      of-keys [] = tt
      of-keys (d ∷ cs) = (λ same. cc (same), of-keys cs)

      of-rowkey : (b : Bool) → Each (λ d. d.alias ≡ Some l.alias → ⊥) (if b then map rowkey_of (take 1 (key_columns_of (l ∷ r ∷ []))) else [])
      of-rowkey true = of-keys (take 1 (key_columns_of (l ∷ r ∷ [])))
      of-rowkey false = tt

  -- the types of a row
  map-take : (cs ds : List Column) → length cs ≡ 1 → map typed_column (map rowkey_of (take 1 (cs ++ ds))) ≡ take 1 (sound.column_types cs)
  map-take [] ds one = absurd (cc (one))
  map-take (c ∷ cs) ds one = refl

  -- in a FULL join the left relation has one key column
  abbrev pub HasLeftKey : JoinKind → Type 0
  HasLeftKey k = k ≡ join.Full → length l.relation.schema.keys ≡ 1

  rowkey-where : Bool → List (Option SqlType)
  rowkey-where b = map typed_column (if b then map rowkey_of (take 1 (key_columns_of (l ∷ r ∷ []))) else [])

  rowkey-types : (k : JoinKind) (w : JoinWord) → HasLeftKey k → is_full q ≡ is_full_word w → k ≡ join_kind w → map typed_column (rowkey q (l ∷ r ∷ [])) ≡ rowkey_types k l.relation
  unfolding rowkey-where
  rowkey-types k word.Inner one f g = ap rowkey-where f ∙ ap (λ x. rowkey_types x l.relation) (sym g)
  rowkey-types k word.Left one f g = ap rowkey-where f ∙ ap (λ x. rowkey_types x l.relation) (sym g)
  rowkey-types k word.Full one f g =
      ap rowkey-where f ∙ map-take l.relation.schema.keys (r.relation.schema.keys ++ []) (one g) ∙ ap (λ x. rowkey_types x l.relation) (sym g)

  -- the left relation's and then the others
  pub types-apart : column_types (from_scope q (l ∷ r ∷ [])) ≡ sound.column_types (columns l.relation) ++ (sound.column_types (columns r.relation) ++ map typed_column (rowkey q (l ∷ r ∷ [])))
  types-apart =
      append-nil (map typed_column (from_columns q (l ∷ r ∷ []))) ∙ ap (map typed_column) columns-two
      ∙ map-append typed_column (scope_columns l) (scope_columns r ++ rowkey q (l ∷ r ∷ []))
      ∙ ap₂ (λ x y. x ++ y) (types-of l.alias (columns l.relation))
      (map-append typed_column (scope_columns r) (rowkey q (l ∷ r ∷ []))
      ∙ ap (λ x. x ++ map typed_column (rowkey q (l ∷ r ∷ []))) (types-of r.alias (columns r.relation)))

  pub types-two : (k : JoinKind) (w : JoinWord) → HasLeftKey k → is_full q ≡ is_full_word w → k ≡ join_kind w → column_types (from_scope q (l ∷ r ∷ []))
      ≡ sound.column_types (columns l.relation) ++ sound.column_types (columns r.relation) ++ rowkey_types k l.relation
  types-two k w one f g =
      types-apart ∙ sym (append_assoc (sound.column_types (columns l.relation)) (sound.column_types (columns r.relation)) (map typed_column (rowkey q (l ∷ r ∷ []))))
      ∙ ap (λ x. (sound.column_types (columns l.relation) ++ sound.column_types (columns r.relation)) ++ x) (rowkey-types k w one f g)
