-- What an accepted query reads is there.
use Rattle.std.proofs.Common.{◌≡◌, ◌⊎◌, ℕ, Bool, true, false, not, ◌&&◌, List, [], ◌∷◌, ◌++◌, Option, Some, None, is_some, refl, ap, sym, ◌∙◌, subst, inl, inr}
use Rattle.std.specs.List.{list_any, AllByRecursion as Each}
use Rattle.ksql_types.specs.declared.relation.Relation.{Relation}
use Rattle.ksql_types.specs.declared.operator.BinaryOp.TheVariants as op
use Rattle.expression_trees.specs.declared.tree.Expr.{Expr}
use Rattle.statement_trees.specs.declared.tree.JoinText.{JoinText}
use Rattle.statement_trees.specs.declared.tree.Property.{Property}
use Rattle.statement_trees.specs.declared.tree.Select.{Select}
use Rattle.ksql_scopes.specs.declared.scope.Scope.{Scope}
use Rattle.ksql_scopes.specs.Functions.{is_unknown}
use Rattle.ksql_scopes.specs.Uses.{calls}
use Rattle.ksql_typing.specs.Standing.{CanAgree}
use Rattle.ksql_scopes.proofs.Equations as equation
use Rattle.ksql_scopes.proofs.NameFlags.{none-of}
use Rattle.ksql_typing.proofs.TypeLaws as laws
use Rattle.ksql_clauses.specs.declared.sources.Known.{Known}
use Rattle.ksql_clauses.specs.Items.{is_join}
use Rattle.ksql_clauses.specs.Sources.{all_known, from_scope, item_scope, on_scope, on_exprs, joined_streams}
use Rattle.ksql_rules.specs.Breaks as rules
use Rattle.ksql_rules.specs.Breaks.{IfThere, is_stream_join}
use Rattle.ksql_clauses.specs.Keys.{on_sides, join_key, key_sides}
use Rattle.ksql_rules.specs.Limits.{IsQueryWithin}
use Rattle.ksql_rules.proofs.Smallness.{on-small}
use Rattle.ksql_analyse.specs.Readable.{HasJoin, IsReadable}
use Rattle.ksql_analyse.specs.Typable.{IsTypable}
use Rattle.ksql_analyse.proofs.forms.KeySides.{AreSides, sides-are, equation-is}
use Rattle.ksql_analyse.proofs.accepted.PlainColumns.{HasPlainColumns}
use Rattle.ksql_analyse.proofs.accepted.Refusals.{KeepsQuery}
use Rattle.ksql_analyse.proofs.sound.SoundQuery.{on-part}
use Rattle.ksql_analyse.proofs.sound.SoundSources.{ReadsOne, ReadsTwo, what-is-read}
use Rattle.ksql_analyse.proofs.accepted.TypedQueries as typing

-- the sides of an equation
both-typable : (s : Scope) (on x y : Expr) → on_sides on ≡ Some (x, y) → IsTypable s on → IfThere (CanAgree s) (on_sides on) → IsTypable s x × IsTypable s y
both-typable s on x y is h agree =
    let k = subst (IfThere (CanAgree s)) is agree in
    let small = on-small on x y is h.small in
    let called : calls on ≡ calls x ++ calls y = ap calls (equation-is on x y is) ∙ equation.calls-Binary op.Eq x y in
    let known = none-of is_unknown (calls x) (calls y) (ap (list_any is_unknown) (sym called) ∙ laws.known s on h.tree h.is) in
    (typing.typable s x small.0 known.0 (k.0, k.2), typing.typable s y small.1 known.1 (k.1, k.3))

pub is-there : {A : Type 0} (o : Option A) → is_some o ≡ true → (a : A) × (o ≡ Some a)
is-there None h = absurd (cc (h))
is-there (Some a) h = (a, refl)

has-key : (k s : Bool) → (not k && not s) ≡ false → s ≡ false → k ≡ true
has-key true s h l = refl
has-key false s h l = let e : not s ≡ true = ap not l in let z : true ≡ false = sym e ∙ h in absurd (cc (z))

on-is : (q : Select) (j : JoinText) → q.join ≡ Some j → on_exprs q ≡ j.on ∷ []
on-is q j joins = ap (λ o. on_exprs (record q { join = o })) joins

key-is : (q : Select) (l r : Known) (j : JoinText) → q.join ≡ Some j → join_key q (l ∷ r ∷ []) ≡ key_sides (on_scope q (l ∷ r ∷ [])) l r (on_sides j.on)
key-is q l r j joins =
    subst (λ o. join_key (record q { join = o }) (l ∷ r ∷ []) ≡ key_sides (on_scope (record q { join = o }) (l ∷ r ∷ [])) l r (on_sides j.on)) (sym joins) refl

sides-of : (q : Select) (l r : Known) (j : JoinText) → q.join ≡ Some j → (key : Expr × Expr) → join_key q (l ∷ r ∷ []) ≡ Some key
    → AreSides (on_scope q (l ∷ r ∷ [])) l r (on_sides j.on) key.0
sides-of q l r j joins key h = sides-are (on_scope q (l ∷ r ∷ [])) l r (on_sides j.on) key (sym (key-is q l r j joins) ∙ h)

module _ (catalog : List Relation) (table : Bool) (name : List ℕ) (ps : List Property) (q : Select)
    (keeps : KeepsQuery catalog table name ps q (all_known catalog q)) (within : IsQueryWithin q)
    (from_plain : HasPlainColumns (from_scope q (all_known catalog q))) (item_plain : HasPlainColumns (item_scope q (all_known catalog q))) where
  abbrev ks : List Known
  ks = all_known catalog q

  joined : ReadsTwo catalog q → HasJoin q ks
  joined two =
      let l = two.left in
      let r = two.right in
      let all : ks ≡ l ∷ r ∷ [] = two.all in
      let on_key : (not (is_some (join_key q (l ∷ r ∷ []))) && not (is_stream_join (joined_streams (l ∷ r ∷ [])))) ≡ false =
      subst (λ xs. (is_join xs && not (is_some (join_key q xs)) && not (is_stream_join (joined_streams xs))) ≡ false) all keeps.on_key in
      let no_streams : is_stream_join (joined_streams (l ∷ r ∷ [])) ≡ false = subst (λ xs. is_stream_join (joined_streams xs) ≡ false) all keeps.no_streams in
      let key = is-there (join_key q (l ∷ r ∷ [])) (has-key (is_some (join_key q (l ∷ r ∷ []))) (is_stream_join (joined_streams (l ∷ r ∷ []))) on_key no_streams) in
      let sides = sides-of q l r two.text two.join key.0 key.1 in
      let on_is : on_exprs q ≡ two.text.on ∷ [] = on-is q two.text two.join in
      let on = (subst (Each (IsTypable (on_scope q ks))) on_is (on-part (IsTypable (on_scope q ks)) q (typing.early catalog table name ps q ks keeps within from_plain item_plain))).0 in
      let agree = (subst (rules.Each (λ o. IfThere (CanAgree (on_scope q ks)) (on_sides o))) on_is (typing.query-typed q ks keeps.typed).on_agrees).0 in
      record {
        text = two.text;
        joined = two.join;
        sides = key.0;
        keyed = ap (join_key q) all ∙ key.1;
        typable = at (on_scope q ks) two.text.on key.0.0 sides.other sides.are on agree;
      }
    where
      at : (s : Scope) (on a other : Expr) → (on_sides on ≡ Some (a, other)) ⊎ (on_sides on ≡ Some (other, a)) → IsTypable s on → IfThere (CanAgree s) (on_sides on) → IsTypable s a
      at s on a other (inl is) h k = (both-typable s on a other is h k).0
      at s on a other (inr is) h k = (both-typable s on other a is h k).1

  pub readable : IsReadable q ks
  readable = at (what-is-read catalog q keeps.all_known)
    where
      at : ReadsOne catalog q ⊎ ReadsTwo catalog q → IsReadable q ks
      at (inl one) = subst (IsReadable q) (sym one.all) one.join
      at (inr two) = subst (IsReadable q) (sym two.all) (subst (HasJoin q) two.all (joined two))
