-- What two relations are joined by is sound.
use Rattle.std.proofs.Common.{◌≡◌, ℕ, zero, suc, ◌+◌, ◌<◌, arith, Bool, true, false, not, if◌then◌else◌, nat_lt, List, [], ◌∷◌, ◌++◌, length, map, Option, Some, None, refl, ap, sym, ◌∙◌, subst, inl, inr}
use Rattle.std.specs.Prelude.{◌⊎◌, slice_get, bytes_eq, filter, take, IfSome}
use Rattle.std.specs.List.{list_all}
use Rattle.std.proofs.lemmas.Bool.{false≢true, lt-ltb, ltb-true}
use Rattle.std.proofs.lemmas.List.{length-map}
use Rattle.std.proofs.lemmas.Option.{same_Some}
use Rattle.std.proofs.lemmas.Slice.Eq.{bytes_eq-Decides}
use Rattle.ksql_types.specs.declared.relation.Column.{Column}
use Rattle.ksql_types.specs.declared.relation.Kind.TheVariants as kind
use Rattle.ksql_types.specs.declared.relation.Relation.{Relation}
use Rattle.ksql_types.specs.declared.value.SqlType.{SqlType}
use Rattle.expression_trees.specs.declared.tree.Expr.{Expr}
use Rattle.statement_trees.specs.declared.tree.Select.{Select}
use Rattle.ksql_expr.specs.declared.typed.Typed.{Typed}
use Rattle.ksql_expr.specs.Aggregates.{holds, is_aggregate}
use Rattle.ksql_expr.specs.Rules.{same_type}
use Rattle.ksql_expr.specs.Typing as w
use Rattle.ksql_expr.specs.Typing.{HasTypes, of}
use Rattle.ksql_program.specs.declared.query.JoinKind.{JoinKind}
use Rattle.ksql_program.specs.declared.query.JoinKind.TheVariants as join
use Rattle.ksql_program.specs.Sound as sound
use Rattle.ksql_types.specs.Columns.{columns}
use Rattle.ksql_program.specs.Sound.{IsJoined, JoinsStream, JoinsTable, IsSoundOver, row_key}
use Rattle.ksql_scopes.specs.declared.scope.Scope.{Scope}
use Rattle.ksql_scopes.specs.declared.scope.ScopeColumn.{ScopeColumn}
use Rattle.ksql_scopes.specs.Scope.{is_known_as}
use Rattle.ksql_typing.specs.Standing.{HasType, Agree, CanAgree}
use Rattle.ksql_scopes.specs.Uses.{names}
use Rattle.std.proofs.lemmas.Bool.{and_parts}
use Rattle.ksql_typing.specs.Standing.{IsTypedTree}
use Rattle.ksql_typing.proofs.OneTyping.{checked}
use Rattle.ksql_clauses.specs.declared.sources.Known.{Known}
use Rattle.ksql_clauses.specs.Sources.{is_stream, is_windowed, from_scope, rowkey, scope_column}
use Rattle.ksql_rules.specs.Breaks.{IfThere}
use Rattle.ksql_clauses.specs.Keys.{is_of_left, is_left_name, is_only_key}
use Rattle.ksql_type_sets.proofs.Sets.{type-same}
use Rattle.ksql_types.specs.declared.value.SqlType.TheVariants as sql
use Rattle.ksql_analyse.proofs.forms.Bearing.{reach, plain_use, bears, column-is-held, no-aggregate-held, short-texts-held, AreNear, some}
use Rattle.ksql_analyse.proofs.forms.Holding as hold
use Rattle.ksql_analyse.proofs.forms.KeySides.{IsOnlyKey, only-key, key-tree, key-type, AreSides, first-passes}
use Rattle.ksql_analyse.proofs.forms.Meant.{IsMeant, meant, meant-known, same-column}
use Rattle.ksql_analyse.proofs.forms.Narrowing.{narrowed-front, is_past}
use Rattle.ksql_analyse.proofs.sound.SoundJoin.{left-at, right-at, left-bound, types-apart}
use Rattle.ksql_analyse.proofs.sound.SoundPlain.{stream-kind, table-kind}
use Rattle.ksql_analyse.proofs.sound.SoundTrees.{IsPlain, stable, type-is}
use Rattle.ksql_analyse.proofs.sound.SoundPlain.{typed_column}

-- what passes isn't left out
not-left-out : {A : Type 0} (p : A → Bool) (xs : List A) (j : ℕ) (x : A) → slice_get xs j ≡ Some x → p x ≡ true → filter p xs ≡ [] → ⊥
not-left-out p [] j x at h none = cc (at)
not-left-out p (y ∷ xs) zero x at h none = here (p y) (ap p (same_Some y x at) ∙ h) none
  where
    here : (b : Bool) → b ≡ true → (if b then y ∷ filter p xs else filter p xs) ≡ [] → ⊥
    here true k l = cc (l)
    here false k l = cc (k)
not-left-out p (y ∷ xs) (suc j) x at h none = here (p y) none (not-left-out p xs j x at h)
  where
    here : (b : Bool) → (if b then y ∷ filter p xs else filter p xs) ≡ [] → (filter p xs ≡ [] → ⊥) → ⊥
    here true l rest = cc (l)
    here false l rest = rest l

type-itself : (t : SqlType) → same_type t t ≡ true
type-itself sql.Int = refl
type-itself sql.Big = refl
type-itself sql.Text = refl
type-itself sql.Bool = refl

module _ (q : Select) (l r : Known) where
  abbrev s : Scope
  s = from_scope q (l ∷ r ∷ [])

  abbrev left_types : List (Option SqlType)
  left_types = sound.column_types (columns l.relation)

  -- the first column that a left name stands for is one of the left relation's
  first-left : (p : Option (List ℕ)) (name : List ℕ) (c : ScopeColumn) (cs : List ScopeColumn) → filter (is_known_as p name) s.columns ≡ c ∷ cs
      → is_left_name s l (plain_use p name) ≡ true → c.alias ≡ Some l.alias
  first-left p name c cs f h = at c.alias refl
    where
      at : (o : Option (List ℕ)) → c.alias ≡ o → c.alias ≡ Some l.alias
      at None g = absurd (false≢true (rw (f, g) at h))
      at (Some alias) g = g ∙ ap Some ((bytes_eq-Decides alias l.alias).0 (rw (f, g) at h))

  left-near : bytes_eq l.alias r.alias ≡ false → AreNear (is_past (length left_types)) (is_left_name s l) s
  left-near apart p name form t ok m i is = at (meant s p name form t m)
    where
      near : (j : ℕ) → i ≡ j → j < length (columns l.relation) → is_past (length left_types) i ≡ false
      near j same less =
          let z = length-map (columns l.relation) (λ (c : Column). Some c.ty) in
          let k : i < length left_types = omega arith in
          ap not (lt-ltb i (length left_types) k)

      first : (j : ℕ) (found : ScopeColumn) → slice_get s.columns j ≡ Some found → is_known_as p name found ≡ true → (cs : List ScopeColumn)
          → filter (is_known_as p name) s.columns ≡ cs → is_past (length left_types) i ≡ false
      first j found got known [] f = absurd (not-left-out (is_known_as p name) s.columns j found got known f)
      first j found got known (c ∷ cs) f =
          let g = first-passes (is_known_as p name) s.columns c cs f in
          let same = meant-known s p name form t m g.0 c g.1 g.2 in
          near g.0 (same-column i g.0 (sym is ∙ same.0)) (left-bound q l r apart g.0 c g.1 (first-left p name c cs f ok))

      at : IsMeant s p name form t → is_past (length left_types) i ≡ false
      at (inl k) = first k.index k.found k.at k.known (filter (is_known_as p name) s.columns) refl
      at (inr (inl k)) = absurd (cc (sym k.is ∙ is))
      at (inr (inr k)) = absurd (false≢true k.windowed)

  some-names : {A : Type 0} (xs : List A) → nat_lt 0 (length xs) ≡ true → some xs ≡ true
  some-names [] h = let z : 0 < 0 = ltb-true 0 0 h in absurd (omega arith)
  some-names (x ∷ xs) h = refl

  -- an expression of the left relation's columns
  over-left : bytes_eq l.alias r.alias ≡ false → (a : Expr) (x : Typed) → IsPlain a → IsTypedTree s a x → is_of_left s l a ≡ true → IsSoundOver kind.Stream left_types x
  over-left apart a x p h ok =
      let held = bears (is_past (length left_types)) (is_left_name s l) (left-near apart) h.0 h.1 in
      let all = (and_parts (nat_lt 0 (length (names a))) (list_all (is_left_name s l) (names a)) ok).1 in
      record {
        typed = narrowed-front left_types (sound.column_types (columns r.relation) ++ map typed_column (rowkey q (l ∷ r ∷ []))) x
            (subst (λ ts. HasTypes ts (w.one x)) (types-apart q l r) (checked s a x h)) (held.aggregates p.0) (held.near p.0 all);
        plain = no-aggregate-held s a x h p.0;
        short = short-texts-held s a x h p.1;
        timeless = λ other. absurd (other refl);
      }

  -- ---- the type of the other side

  agree-other : (x y : Option SqlType) → Agree x y → Agree y x
  agree-other None None k = tt
  agree-other None (Some y) k = tt
  agree-other (Some x) None k = tt
  agree-other (Some x) (Some y) k = sym k

  abbrev Agreed : Expr → Expr → Type 0
  Agreed a b = (x y : Option SqlType) × HasType s a x × HasType s b y × Agree x y

  agreed : (sides : Option (Expr × Expr)) (a : Expr) (d : AreSides s l r sides a) → IfThere (CanAgree s) sides → Agreed a d.other
  agreed sides a d h = at d.are
    where
      at : (sides ≡ Some (a, d.other)) ⊎ (sides ≡ Some (d.other, a)) → Agreed a d.other
      at (inl k) = subst (IfThere (CanAgree s)) k h
      at (inr k) = let g = subst (IfThere (CanAgree s)) k h in (g.1, g.0, g.3, g.2, agree-other g.0 g.1 g.4)

  -- if both sides have types, these are the same
  type-agrees : (sides : Option (Expr × Expr)) (a : Expr) (d : AreSides s l r sides a) → ¬ ¬ IfThere (CanAgree s) sides → (o : IsOnlyKey s r d.other) (i : ℕ)
      → slice_get s.columns i ≡ Some (scope_column r.alias o.column) → (t : SqlType) → ((u : Option SqlType) → HasType s a u → u ≡ Some t) → t ≡ o.column.ty
  type-agrees sides a d h o i at t typed =
      type-same t o.column.ty (stable (same_type t o.column.ty) (λ no. h (λ can.
      let g = agreed sides a d can in
      no (one (typed g.0 g.2) (key-type s r d.other o i at g.1 g.3) g.4))))
    where
      one : {x y : Option SqlType} → x ≡ Some t → y ≡ Some o.column.ty → Agree x y → same_type t o.column.ty ≡ true
      one {x} {y} k m g =
          let same : t ≡ o.column.ty = subst (λ z. Agree (Some t) z) m (subst (λ z. Agree z y) k g) in
          subst (λ z. same_type t z ≡ true) same (type-itself t)

  -- ---- joins

  one-row_key : (rel : Relation) (c : Column) → rel.schema.keys ≡ c ∷ [] → row_key rel ≡ Some c.ty ∷ []
  one-row_key rel c h = ap (λ cs. take 1 (sound.column_types cs)) h

  right-key-at : (o : Column) → r.relation.schema.keys ≡ o ∷ [] → slice_get s.columns (length (columns l.relation) + 0) ≡ Some (scope_column r.alias o)
  right-key-at o h = right-at q l r 0 o (ap (λ cs. slice_get (cs ++ r.relation.schema.values) 0) h)

  left-key-at : (o : Column) → l.relation.schema.keys ≡ o ∷ [] → slice_get s.columns 0 ≡ Some (scope_column l.alias o)
  left-key-at o h = left-at q l r 0 o (ap (λ cs. slice_get (cs ++ l.relation.schema.values) 0) h)

  module _ (sides : Option (Expr × Expr)) (a : Expr) (on : Typed) (d : AreSides s l r sides a) (apart : bytes_eq l.alias r.alias ≡ false) (p : IsPlain a)
      (h : IsTypedTree s a on) (agrees : ¬ ¬ IfThere (CanAgree s) sides) where
    other : IsOnlyKey s r d.other
    other = only-key s r d.other d.right

    joins-stream : is_stream l.relation ≡ true → JoinsStream on l.relation r.relation
    joins-stream stream =
        let ok : is_of_left s l a ≡ true = sym (ap (λ b. if b then is_of_left s l a else is_only_key s l a) stream) ∙ d.left in
        record {
          left_stream = stream-kind l.relation stream;
          over_left = over-left apart a on p h ok;
          some_column = column-is-held s a on h p.0 (some-names (names a) (and_parts (nat_lt 0 (length (names a))) (list_all (is_left_name s l) (names a)) ok).0);
          one_key = ap length other.keys;
          like_key = like on.ty refl;
        }
      where
        like : (o : Option SqlType) → on.ty ≡ o → IfSome o (λ t. row_key r.relation ≡ Some t ∷ [])
        like None e = tt
        like (Some t) e =
            let same = type-agrees sides a d agrees other (length (columns l.relation) + 0) (right-key-at other.column other.keys) t
            (λ u k. sym (type-is s a on u h k) ∙ e) in
            one-row_key r.relation other.column other.keys ∙ ap (λ x. Some x ∷ []) (sym same)

    joins-table : is_stream l.relation ≡ false → is_windowed l.relation ≡ false → JoinsTable on l.relation r.relation
    joins-table stream windowed =
        let ok : is_only_key s l a ≡ true = sym (ap (λ b. if b then is_of_left s l a else is_only_key s l a) stream) ∙ d.left in
        let mine = only-key s l a ok in
        let tree = key-tree s l a mine 0 (left-key-at mine.column mine.keys) on h.0 in
        let same = type-agrees sides a d agrees other (length (columns l.relation) + 0) (right-key-at other.column other.keys) mine.column.ty
        (λ u k. key-type s l a mine 0 (left-key-at mine.column mine.keys) u k) in
        let some-left : 0 < length left_types = key-first mine.column mine.keys in
        record {
          left_table = table-kind l.relation stream windowed;
          by_key = ap (λ y. y.node) tree.1;
          typed = narrowed-front left_types (sound.column_types (columns r.relation) ++ map typed_column (rowkey q (l ∷ r ∷ []))) on
              (subst (λ ts. HasTypes ts (w.one on)) (types-apart q l r) (checked s a on h))
              (ap (holds is_aggregate) tree.1 ∙ hold.holds-Column is_aggregate tree.0 0)
              (ap (holds (reach (is_past (length left_types)))) tree.1 ∙ hold.holds-Column (reach (is_past (length left_types))) tree.0 0
              ∙ ap not (lt-ltb 0 (length left_types) some-left));
          one_key_left = ap length mine.keys;
          one_key_right = ap length other.keys;
          like_key = one-row_key l.relation mine.column mine.keys ∙ ap (λ x. Some x ∷ []) same ∙ sym (one-row_key r.relation other.column other.keys);
        }
      where
        key-first : (c : Column) → l.relation.schema.keys ≡ c ∷ [] → 0 < length left_types
        key-first c k = let z = ap (λ cs. length (sound.column_types (cs ++ l.relation.schema.values))) k in omega arith

    pub by-kind : (k : JoinKind) → is_windowed l.relation ≡ false → (is_stream l.relation ≡ true → k ≡ join.Full → ⊥) → IsJoined k on l.relation r.relation
    by-kind k windowed full = at (is_stream l.relation) refl k full
      where
        as-stream : JoinsStream on l.relation r.relation → JoinsStream on (record l.relation { kind = kind.Stream }) r.relation
        as-stream j = record { left_stream = refl; over_left = j.over_left; some_column = j.some_column; one_key = j.one_key; like_key = j.like_key }

        as-table : JoinsTable on l.relation r.relation → JoinsTable on (record l.relation { kind = kind.Table }) r.relation
        as-table j = record {
          left_table = refl;
          by_key = j.by_key;
          typed = j.typed;
          one_key_left = j.one_key_left;
          one_key_right = j.one_key_right;
          like_key = j.like_key;
        }

        at : (b : Bool) → is_stream l.relation ≡ b → (m : JoinKind) → (is_stream l.relation ≡ true → m ≡ join.Full → ⊥) → IsJoined m on l.relation r.relation
        at true e join.Full never = absurd (never e refl)
        at true e join.Inner never =
            subst (λ x. IsJoined join.Inner on (record l.relation { kind = x }) r.relation) (sym (stream-kind l.relation e)) (as-stream (joins-stream e))
        at true e join.Left never =
            subst (λ x. IsJoined join.Left on (record l.relation { kind = x }) r.relation) (sym (stream-kind l.relation e)) (as-stream (joins-stream e))
        at false e join.Full never = joins-table e windowed
        at false e join.Inner never =
            subst (λ x. IsJoined join.Inner on (record l.relation { kind = x }) r.relation) (sym (table-kind l.relation e windowed)) (as-table (joins-table e windowed))
        at false e join.Left never =
            subst (λ x. IsJoined join.Left on (record l.relation { kind = x }) r.relation) (sym (table-kind l.relation e windowed)) (as-table (joins-table e windowed))
