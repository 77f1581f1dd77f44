-- What is read of a text of UTF-8 is what a line says.
use Rattle.std.proofs.Common.{◌≡◌, option_and_then, sym, ap, ◌∙◌}
use Rattle.std.proofs.lemmas.Result.{IfOk-weaker}
use Rattle.serde_json.specs.Read.{read}
use Rattle.topic_files.specs.LineFields.{fields_of}
use Rattle.topic_files.proofs.LineLemmas.{data_of-read, data_of-none}
use Rattle.topic_files.proofs.read.read_line.Goals as goal

pub returns-in-Ok : goal.returns-in-Ok
returns-in-Ok c =
    let is = sym (data_of-read c.args.line.now c.in-Ok.ensures.cases.1) in
    let text : read c.in-Ok.text.now ≡ read c.args.line.now = ap read c.in-Ok.ensures.cases.0 in
    IfOk-weaker c.read_text.result _ _ (λ fields read. read ∙ ap (option_and_then fields_of) (text ∙ is)) c.read_text.ensures

pub returns-in-Err : goal.returns-in-Err
returns-in-Err c = sym (ap (option_and_then fields_of) (data_of-none c.args.line.now (λ utf8. absurd (c.in-Err.ensures.cases.0 utf8))))
