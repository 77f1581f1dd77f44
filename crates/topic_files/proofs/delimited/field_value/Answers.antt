-- A non-empty field has the value that it spells, if it is UTF-8.
use Rattle.std.proofs.Common.{Some, None, sym, ap, ◌∙◌, ◌==◌, length, cond}
use Rattle.std.specs.Str.{is_utf8}
use Rattle.std.proofs.lemmas.Bool.{cond-true, cond-false, false_from_ne_true}
use Rattle.std.proofs.lemmas.Result.{IfOk-weaker}
use Rattle.std.proofs.lemmas.Str.{IsUtf8-from_is_utf8, is_utf8-from_IsUtf8}
use Rattle.ksql_types.specs.declared.value.Value.TheVariants.{Null}
use Rattle.topic_files.specs.Delimited.{written}
use Rattle.topic_files.proofs.delimited.field_value.Goals as goal

pub returns-in-Ok : goal.returns-in-Ok
returns-in-Ok c =
    let field = c.args.field.now in
    let read = cond (is_utf8 field) (written c.args.ty field) None in
    let some = cond-false (length field == 0) (Some Null) read (sym c.if-is_empty.ensures) in
    let text = cond-true (is_utf8 field) (written c.args.ty field) None (is_utf8-from_IsUtf8 field c.in-Ok.ensures.cases.1) in
    IfOk-weaker c.written.result _ _ (λ value is. is ∙ ap (written c.args.ty) c.in-Ok.ensures.cases.0 ∙ sym (some ∙ text)) c.written.ensures

pub returns-in-Err : goal.returns-in-Err
returns-in-Err c =
    let field = c.args.field.now in
    let read = cond (is_utf8 field) (written c.args.ty field) None in
    let some = cond-false (length field == 0) (Some Null) read (sym c.if-is_empty.ensures) in
    let none = false_from_ne_true (is_utf8 field) (λ is. c.in-Err.ensures.cases.0 (IsUtf8-from_is_utf8 field is)) in
    sym (some ∙ cond-false (is_utf8 field) (written c.args.ty field) None none)
