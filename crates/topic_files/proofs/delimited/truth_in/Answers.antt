-- A field matches one of the two texts if it equals it in lower case.
use Rattle.std.proofs.Common.{Bool, true, false, cond, Option, Some, None, codes, sym, ap, ap₂}
use Rattle.topic_files.specs.Cells.{is_like}
use Rattle.topic_files.proofs.FieldLemmas.{is_like-text}
use Rattle.topic_files.proofs.delimited.truth_in.Goals as goal

truth : Bool → Bool → Option Bool
truth is_true is_false = cond is_true (Some true) (cond is_false (Some false) None)

pub returns-then-eq_ignore_ascii_case : goal.returns-then-eq_ignore_ascii_case
unfolding truth
returns-then-eq_ignore_ascii_case c =
    let field = c.args.field.now in
    let yes = is_like-text (codes "true") field true c.if-eq_ignore_ascii_case.ensures.test in
    sym (ap (λ is_true. truth is_true (is_like (codes "false") field)) yes)

pub returns-then-eq_ignore_ascii_case-2 : goal.returns-then-eq_ignore_ascii_case-2
unfolding truth
returns-then-eq_ignore_ascii_case-2 c =
    let field = c.args.field.now in
    let no = is_like-text (codes "true") field false c.if-eq_ignore_ascii_case.ensures.test in
    let yes = is_like-text (codes "false") field true c.if-eq_ignore_ascii_case-2.ensures.test in
    sym (ap₂ truth no yes)

pub returns-else-eq_ignore_ascii_case-2 : goal.returns-else-eq_ignore_ascii_case-2
unfolding truth
returns-else-eq_ignore_ascii_case-2 c =
    let field = c.args.field.now in
    let no = is_like-text (codes "true") field false c.if-eq_ignore_ascii_case.ensures.test in
    let neither = is_like-text (codes "false") field false c.if-eq_ignore_ascii_case-2.ensures.test in
    sym (ap₂ truth no neither)
