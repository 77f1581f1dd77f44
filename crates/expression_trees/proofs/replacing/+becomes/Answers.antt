use Rattle.std.proofs.Common.{◌∙◌, map, sym}
use Rattle.std.specs.Prelude.{option_map}
use Rattle.expression_trees.specs.Parts.{becomes, when_becomes}
use Rattle.expression_trees.proofs.Becoming.{moved, becomes-decided, becomes-Digits, becomes-Text, becomes-Truth, becomes-Null, becomes-Name, becomes-Sign, becomes-Binary, becomes-Not, becomes-IsNull, becomes-Between, becomes-OneOf, becomes-Like, becomes-Cast, becomes-Case, becomes-Call}
use Rattle.expression_trees.proofs.replacing.+becomes.Goals as goal

pub becomes-returns-in-Some : goal.becomes-returns-in-Some
becomes-returns-in-Some g t c = sym (becomes-decided (g.R.Replaces.decide c.args.replaces.now) c.args.expr.now c.in-Some.part (sym c.in_ok-part.ensures ∙ c.in-Some.is))

pub becomes-returns-in-Digits : goal.becomes-returns-in-Digits
becomes-returns-in-Digits g t c = sym (becomes-Digits (g.R.Replaces.decide c.args.replaces.now) c.args.expr.now c.in-Digits.number c.in-Digits.is (sym c.in_ok-part.ensures ∙ c.in_default.is))

pub becomes-returns-in-Text : goal.becomes-returns-in-Text
becomes-returns-in-Text g t c =
    moved _ _ _ (becomes-Text (g.R.Replaces.decide c.args.replaces.now) c.args.expr.now c.in-Text.content c.in-Text.is (sym c.in_ok-part.ensures ∙ c.in_default.is))
    (c.text_of.ensures c.in-Text.content c.copy.ensures)

pub becomes-returns-in-Truth : goal.becomes-returns-in-Truth
becomes-returns-in-Truth g t c = sym (becomes-Truth (g.R.Replaces.decide c.args.replaces.now) c.args.expr.now c.in-Truth.truth c.in-Truth.is (sym c.in_ok-part.ensures ∙ c.in_default.is))

pub becomes-returns-in-Null : goal.becomes-returns-in-Null
becomes-returns-in-Null g t c = sym (becomes-Null (g.R.Replaces.decide c.args.replaces.now) c.args.expr.now c.in-Null.is (sym c.in_ok-part.ensures ∙ c.in_default.is))

pub becomes-returns-in-Name : goal.becomes-returns-in-Name
becomes-returns-in-Name g t c =
    moved _ _ _ (becomes-Name (g.R.Replaces.decide c.args.replaces.now) c.args.expr.now c.in-Name.qualifier c.in-Name.name c.in-Name.is (sym c.in_ok-part.ensures ∙ c.in_default.is))
    (c.name_of.ensures c.in-Name.qualifier c.in-Name.name c.copy-in-Name.ensures c.copy-in-Name-2.ensures)

pub becomes-returns-in-Sign : goal.becomes-returns-in-Sign
becomes-returns-in-Sign g t c =
    moved _ _ _ (becomes-Sign (g.R.Replaces.decide c.args.replaces.now) c.args.expr.now c.in-Sign.minus c.in-Sign.arg c.in-Sign.is (sym c.in_ok-part.ensures ∙ c.in_default.is))
    (c.sign_of.ensures (becomes (g.R.Replaces.decide c.args.replaces.now) c.in-Sign.arg) c.boxed_becomes.ensures)

pub becomes-returns-in-Binary : goal.becomes-returns-in-Binary
becomes-returns-in-Binary g t c =
    moved _ _ _ (becomes-Binary (g.R.Replaces.decide c.args.replaces.now) c.args.expr.now c.in-Binary.op c.in-Binary.left c.in-Binary.right c.in-Binary.is (sym c.in_ok-part.ensures ∙ c.in_default.is))
    (c.binary_of.ensures (becomes (g.R.Replaces.decide c.args.replaces.now) c.in-Binary.left) (becomes (g.R.Replaces.decide c.args.replaces.now) c.in-Binary.right) c.boxed_becomes-in-Binary.ensures c.boxed_becomes-in-Binary-2.ensures)

pub becomes-returns-in-Not : goal.becomes-returns-in-Not
becomes-returns-in-Not g t c =
    moved _ _ _ (becomes-Not (g.R.Replaces.decide c.args.replaces.now) c.args.expr.now c.in-Not.arg c.in-Not.is (sym c.in_ok-part.ensures ∙ c.in_default.is))
    (c.not_of.ensures (becomes (g.R.Replaces.decide c.args.replaces.now) c.in-Not.arg) c.boxed_becomes-in-Not.ensures)

pub becomes-returns-in-IsNull : goal.becomes-returns-in-IsNull
becomes-returns-in-IsNull g t c =
    moved _ _ _ (becomes-IsNull (g.R.Replaces.decide c.args.replaces.now) c.args.expr.now c.in-IsNull.negated c.in-IsNull.arg c.in-IsNull.is (sym c.in_ok-part.ensures ∙ c.in_default.is))
    (c.is_null_of.ensures (becomes (g.R.Replaces.decide c.args.replaces.now) c.in-IsNull.arg) c.boxed_becomes-in-IsNull.ensures)

pub becomes-returns-in-Between : goal.becomes-returns-in-Between
becomes-returns-in-Between g t c =
    moved _ _ _ (becomes-Between (g.R.Replaces.decide c.args.replaces.now) c.args.expr.now c.in-Between.negated c.in-Between.arg c.in-Between.low c.in-Between.high c.in-Between.is (sym c.in_ok-part.ensures ∙ c.in_default.is))
    (c.between_of.ensures (becomes (g.R.Replaces.decide c.args.replaces.now) c.in-Between.arg) (becomes (g.R.Replaces.decide c.args.replaces.now) c.in-Between.low) (becomes (g.R.Replaces.decide c.args.replaces.now) c.in-Between.high) c.boxed_becomes-in-Between.ensures c.boxed_becomes-in-Between-2.ensures c.boxed_becomes-in-Between-3.ensures)

pub becomes-returns-in-OneOf : goal.becomes-returns-in-OneOf
becomes-returns-in-OneOf g t c =
    moved _ _ _ (becomes-OneOf (g.R.Replaces.decide c.args.replaces.now) c.args.expr.now c.in-OneOf.negated c.in-OneOf.arg c.in-OneOf.choices c.in-OneOf.is (sym c.in_ok-part.ensures ∙ c.in_default.is))
    (c.one_of.ensures (becomes (g.R.Replaces.decide c.args.replaces.now) c.in-OneOf.arg) (map (becomes (g.R.Replaces.decide c.args.replaces.now)) c.in-OneOf.choices) c.boxed_becomes-in-OneOf.ensures c.each_becomes.ensures)

pub becomes-returns-in-Like : goal.becomes-returns-in-Like
becomes-returns-in-Like g t c =
    moved _ _ _ (becomes-Like (g.R.Replaces.decide c.args.replaces.now) c.args.expr.now c.in-Like.negated c.in-Like.arg c.in-Like.pattern c.in-Like.is (sym c.in_ok-part.ensures ∙ c.in_default.is))
    (c.like_of.ensures (becomes (g.R.Replaces.decide c.args.replaces.now) c.in-Like.arg) c.in-Like.pattern c.boxed_becomes-in-Like.ensures c.copy-in-Like.ensures)

pub becomes-returns-in-Cast : goal.becomes-returns-in-Cast
becomes-returns-in-Cast g t c =
    moved _ _ _ (becomes-Cast (g.R.Replaces.decide c.args.replaces.now) c.args.expr.now c.in-Cast.arg c.in-Cast.to c.in-Cast.is (sym c.in_ok-part.ensures ∙ c.in_default.is))
    (c.cast_of.ensures (becomes (g.R.Replaces.decide c.args.replaces.now) c.in-Cast.arg) c.boxed_becomes-in-Cast.ensures)

pub becomes-returns-in-Case : goal.becomes-returns-in-Case
becomes-returns-in-Case g t c =
    moved _ _ _ (becomes-Case (g.R.Replaces.decide c.args.replaces.now) c.args.expr.now c.in-Case.arg c.in-Case.whens c.in-Case.otherwise c.in-Case.is (sym c.in_ok-part.ensures ∙ c.in_default.is))
    (c.case_of.ensures (option_map (becomes (g.R.Replaces.decide c.args.replaces.now)) c.in-Case.arg) (option_map (becomes (g.R.Replaces.decide c.args.replaces.now)) c.in-Case.otherwise) (map (when_becomes (g.R.Replaces.decide c.args.replaces.now)) c.in-Case.whens) c.part_becomes.ensures c.each_when_becomes.ensures c.part_becomes-in-Case.ensures)

pub becomes-returns-in-Call : goal.becomes-returns-in-Call
becomes-returns-in-Call g t c =
    moved _ _ _ (becomes-Call (g.R.Replaces.decide c.args.replaces.now) c.args.expr.now c.in-Call.name c.in-Call.star c.in-Call.args c.in-Call.is (sym c.in_ok-part.ensures ∙ c.in_default.is))
    (c.call_of.ensures c.in-Call.name (map (becomes (g.R.Replaces.decide c.args.replaces.now)) c.in-Call.args) c.copy-in-Call.ensures c.each_becomes-in-Call.ensures)
