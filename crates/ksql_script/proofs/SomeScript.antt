-- Each script is read as trees or refused, and so each is accepted or refused.
use Rattle.std.proofs.Common.{ℕ, ◌⊎◌, inl, inr, ⊎_elim, List, length, Ok}
use Rattle.std.specs.Str.{is_utf8}
use Rattle.std.proofs.lemmas.Bool.{cases_lt, cases_Bool, both_ways}
use Rattle.std.proofs.lemmas.Str.{IsUtf8-from_is_utf8, is_utf8-from_IsUtf8}
use Rattle.ksql_types.specs.Text.{longest_text}
use Rattle.ksql_types.specs.declared.code.Code.{Code}
use Rattle.ksql_types.specs.declared.code.Code.TheVariants.{Syntax, TooLarge}
use Rattle.ksql_lexer.specs.Script.{kinds}
use Rattle.statement_trees.specs.declared.tree.Statement.{Statement}
use Rattle.ksql_parser.specs.Script.{statements}
use Rattle.ksql_program.specs.declared.program.Program.{Program}
use Rattle.ksql_analyse.specs.Judgement.{AreParsed}
use Rattle.ksql_analyse.proofs.some.SomeJudgement.{program-or-refusal}
use Rattle.ksql_script.specs.Reading.{IsText, Reads, too_long, not_utf8, no_token, no_tree, all_trees}
use Rattle.ksql_script.specs.Script.{IsAccepted, IsRefused}
use Rattle.ksql_script.proofs.SomeTokens.{some_tokens}
use Rattle.ksql_script.proofs.SomeTrees.{some_trees}

-- a program, or a refusal
abbrev IsAnswered : List ℕ → Type 0
IsAnswered script = ((p : Program) × IsAccepted script p) ⊎ ((s : ℕ) × (c : Code) × IsRefused script s c)

of_trees : (script : List ℕ) (trees : List Statement) → Reads script (Ok trees) → AreParsed trees → IsAnswered script
of_trees script trees read parsed =
    ⊎_elim
    (λ p. inl (record { items = p.0 }, record { trees = trees; read = read; judged = p.1 }))
    (λ r. inr (r.0, r.1, inr (trees, read, r.2)))
    (program-or-refusal trees parsed)

of_text : (script : List ℕ) → IsText script → IsAnswered script
of_text script text =
    ⊎_elim
    (λ tokens. ⊎_elim
    (λ trees. of_trees script trees.0 (all_trees text tokens.1 trees.1) (statements (kinds tokens.0), trees.1))
    (λ r. inr (r.0, r.1, inl (no_tree text tokens.1 r.2)))
    (some_trees (statements (kinds tokens.0))))
    (λ bad. inr (bad.0, Syntax, inl (no_token text bad.1)))
    (some_tokens script)

pub some_script : (script : List ℕ) → IsAnswered script
some_script script =
    ⊎_elim
    (λ long. inr (0, TooLarge, inl (too_long long)))
    (λ short. ⊎_elim
    (λ is. of_text script (short, IsUtf8-from_is_utf8 script is))
    (λ isnt. inr (0, Syntax, inl (not_utf8 short (λ utf8. both_ways (is_utf8 script) isnt (is_utf8-from_IsUtf8 script utf8)))))
    (cases_Bool (is_utf8 script)))
    (cases_lt longest_text (length script))
