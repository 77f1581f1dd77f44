use Rattle.std.proofs.Common.{◌∙◌, Some, Bor, refl, ap, subst, sym}
use Rattle.std.specs.Prelude.{option_map}
use Rattle.std.proofs.lemmas.Option.{same_Some}
use Rattle.expression_trees.specs.declared.tree.Expr.{Expr}
use Rattle.ksql_scopes.specs.declared.scope.Scope.{Scope}
use Rattle.ksql_typing.specs.Standing.{IsTypedTree}
use Rattle.ksql_clauses.specs.Sources.{on_scope}
use Rattle.ksql_clauses.specs.Keys.{join_key}
use Rattle.ksql_analyse.specs.Judgement.{join_kind}
use Rattle.ksql_analyse.specs.Readable.{IsReadable}
use Rattle.ksql_analyse.specs.Typable.{IsTypable}
use Rattle.ksql_analyse.proofs.lists.Moving.{moved-two}
use Rattle.ksql_analyse.proofs.from.joined.Goals as goal

pub tree_of-requires-clause-typable : goal.tree_of-requires-clause-typable
tree_of-requires-clause-typable c =
    let q = c.args.findings.now.select.now in
    let join = subst (IsReadable q) c.requires.two c.requires.readable in
    let same = same_Some join.sides _
    (sym join.keyed ∙ sym (ap (join_key q) c.requires.two) ∙ sym c.requires.found.key_is ∙ ap (option_map (λ (sides : Bor Expr × Bor Expr). (sides.0.now, sides.1.now))) c.in-Some-key.is) in
    moved-two IsTypable _ _ _ _ (sym (c.requires.found.on_scope_is ∙ ap (on_scope q) c.requires.two)) (ap (λ p. p.0) same) join.typable

pub returns : goal.returns
returns c = (
  c.args.left.now,
  c.args.right.now,
  c.requires.two,
  ap (option_map (λ j. join_kind j.kind)) c.in-Some.is ∙ ap Some (sym c.join_kind.ensures),
  refl,
  refl,
  (c.in-Some-key.side.now, c.in-Some-key.field-0-1.now),
  sym c.requires.found.key_is ∙ ap (option_map (λ (sides : Bor Expr × Bor Expr). (sides.0.now, sides.1.now))) c.in-Some-key.is,
  subst (λ (s : Scope). IsTypedTree s c.in-Some-key.side.now c.in_ok-tree_of.field-0) c.requires.found.on_scope_is c.in_ok-tree_of.ensures,
)
