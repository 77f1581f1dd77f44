-- The number of the statement, from token to token.
use Rattle.std.specs.Prelude.{◌+◌, ◌&&◌, not, if◌then◌else◌}
use Rattle.ksql_lexer.specs.declared.script.Numbering.{Numbering}
use Rattle.ksql_lexer.specs.declared.token.TokenKind.{TokenKind}
use Rattle.ksql_lexer.specs.Script.{is_semicolon}

-- a `;` ends a statement that has tokens
abbrev pub moved : Numbering → TokenKind → Numbering
moved n k = record {
  statement = if is_semicolon k && n.begun then n.statement + 1 else n.statement;
  begun = not (is_semicolon k);
}
