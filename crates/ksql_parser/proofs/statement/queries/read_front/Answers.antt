use Rattle.std.proofs.Common.{◌≡◌, List, [], ◌∷◌, Option, Some, sym}
use Rattle.std.specs.Borrow.{Bor}
use Rattle.std.proofs.lemmas.Result.{err_from_is_err_and}
use Rattle.ksql_grammar.specs.declared.symbol.Keyword.TheVariants as key
use Rattle.ksql_grammar.specs.declared.symbol.Symbol.{Symbol}
use Rattle.ksql_grammar.specs.declared.symbol.Symbol.TheVariants.{Key}
use Rattle.expression_trees.specs.declared.tree.Expr.{Expr}
use Rattle.statement_trees.specs.declared.tree.JoinText.{JoinText}
use Rattle.statement_trees.specs.declared.tree.SelectItem.{SelectItem}
use Rattle.statement_trees.specs.declared.tree.Source.{Source}
use Rattle.statement_trees.specs.declared.tree.WindowText.{WindowText}
use Rattle.ksql_parser.specs.Grammar as g
use Rattle.ksql_parser.specs.Grammar.{Spells}
use Rattle.ksql_grammar.specs.Reading.{with_rest}
use Rattle.ksql_grammar.specs.Expressions.{after_key}
use Rattle.ksql_parser.specs.declared.statement.queries.Front.{Front}
use Rattle.ksql_parser.specs.Queries.{SpellsFront}
use Rattle.ksql_parser.specs.Statements as r
use Rattle.ksql_parser.specs.Statements.{BeginsFrom}
use Rattle.ksql_parser.proofs.Steps.{along, failed, same_read}
use Rattle.ksql_grammar.proofs.Steps.{if_some, key_found}
use Rattle.ksql_parser.proofs.Found.{source_found, windowed_found}
use Rattle.ksql_parser.proofs.Calls.{failed_at, same_at}
use Rattle.ksql_parser.proofs.Selects.{front_begins, items_there, source_there, join_there, window_there, front_read, key_is}
use Rattle.ksql_parser.proofs.statement.queries.read_front.Goals as goal
use Rattle.ksql_parser.proofs.statement.queries.read_front.Goals.{In_ok-items, In_ok-source, In_ok-join}

-- the items that are there are those that were read
items_read : (c : In_ok-items) (f : Front) (rest : List Symbol) (d : SpellsFront f c.args.symbols.now rest) → (f.items ≡ c.in_ok-items.items) × (Key key.From ∷ d.1 ≡ c.in_ok-items.rest.now)
items_read c f rest d =
    same_read (c.in_ok-items.items, c.in_ok-items.rest) f.items (Key key.From ∷ d.1)
    (c.in_ok-items.ensures.only f.items d.1 (items_there f c.args.symbols.now rest d c.in_ok-rest.rest.now c.in_ok-rest.ensures))

-- and so the source
source_read : (c : In_ok-source) (f : Front) (rest : List Symbol) (d : SpellsFront f c.args.symbols.now rest) → BeginsFrom 3 rest → Key key.From ∷ d.1 ≡ c.in_ok-items.rest.now
    → (f.source ≡ c.in_ok-source.source) × (d.2 ≡ c.in_ok-source.rest.now)
source_read c f rest d b e =
    let us = c.in_ok-rest-2.rest.now in
    let s = source_there f c.args.symbols.now rest d c.in_ok-items.rest.now us e c.in_ok-rest-2.ensures b in
    same_at (r.source us) (c.in_ok-source.source, c.in_ok-source.rest) f.source d.2 s c.in_ok-source.ensures

-- and the join
join_read : (c : In_ok-join) (f : Front) (rest : List Symbol) (d : SpellsFront f c.args.symbols.now rest) → BeginsFrom 3 rest → d.2 ≡ c.in_ok-source.rest.now
    → (f.join ≡ c.in_ok-join.join) × (d.3 ≡ c.in_ok-join.rest.now)
join_read c f rest d b e =
    let ts = c.args.symbols.now in
    let j = join_there f ts rest d c.in_ok-source.rest.now e in
    same_read (c.in_ok-join.join, c.in_ok-join.rest) f.join d.3 (c.in_ok-join.ensures.only f.join d.3 j (front_begins f ts rest d b).1)

pub returns-clause-found : goal.returns-clause-found
returns-clause-found c =
    let ts = c.args.symbols.now in
    let vs = c.in_ok-items.rest.now in
    let us = c.in_ok-rest-2.rest.now in
    let ws = c.in_ok-join.rest.now in (
      c.in_ok-rest.rest.now,
      us,
      c.in_ok-source.rest.now,
      ws,
      if_some (after_key key.Select ts) (λ us. ts ≡ Key key.Select ∷ us) c.in_ok-rest.rest.now (key_found key.Select ts) c.in_ok-rest.ensures,
      along c.in_ok-items.ensures.found (if_some (after_key key.From vs) (λ us. vs ≡ Key key.From ∷ us) us (key_found key.From vs) c.in_ok-rest-2.ensures),
      if_some (r.source us) (λ x. Spells (g.source x.0) us x.1) (c.in_ok-source.source, c.in_ok-source.rest.now) (source_found us) c.in_ok-source.ensures,
      c.in_ok-join.ensures.found,
      if_some (r.windowed ws) (λ x. Spells (g.windowed x.0) ws x.1) (c.in_ok-window.window, c.in_ok-window.rest.now) (windowed_found ws) c.in_ok-window.ensures,
    )

pub returns-in_err-rest-clause-only : goal.returns-in_err-rest-clause-only
returns-in_err-rest-clause-only c = λ f rest d b.
    let ts = c.args.symbols.now in
    let p = err_from_is_err_and c.from_residual.result c.from_residual.ensures.1 in
    rw (p.1, p.2) (failed_at (λ (x : Bor (List Symbol)). x.now) (with_rest {A = Front}) c.in_err-rest.field-0.0 (after_key key.Select ts) d.0 (f, rest) (key_is key.Select ts d.0 d.4) c.in_err-rest.ensures)

pub returns-in_err-items-clause-only : goal.returns-in_err-items-clause-only
returns-in_err-items-clause-only c = λ f rest d b.
    let ts = c.args.symbols.now in
    let us = c.in_ok-rest.rest.now in
    let is = items_there f ts rest d us c.in_ok-rest.ensures in
    let p = err_from_is_err_and c.from_residual-in_err-items.result c.from_residual-in_err-items.ensures.1 in
    rw (p.1, p.2) (failed (with_rest {A = List SelectItem}) (with_rest {A = Front}) c.in_err-items.field-0.0 (f.items, Key key.From ∷ d.1) (f, rest) (c.in_err-items.ensures.only f.items d.1 is))

pub returns-in_err-rest-2-clause-only : goal.returns-in_err-rest-2-clause-only
returns-in_err-rest-2-clause-only c = λ f rest d b.
    let x = items_read (goal.at.returns-in_err-rest-2-clause-only c).In_ok-items f rest d in
    let vs = c.in_ok-items.rest.now in
    let p = err_from_is_err_and c.from_residual-in_err-rest-2.result c.from_residual-in_err-rest-2.ensures.1 in
    rw (p.1, p.2) (failed_at (λ (x : Bor (List Symbol)). x.now) (with_rest {A = Front}) c.in_err-rest-2.field-0.0 (after_key key.From vs) d.1 (f, rest) (key_is key.From vs d.1 (sym x.1)) c.in_err-rest-2.ensures)

pub returns-in_err-source-clause-only : goal.returns-in_err-source-clause-only
returns-in_err-source-clause-only c = λ f rest d b.
    let x = items_read (goal.at.returns-in_err-source-clause-only c).In_ok-items f rest d in
    let us = c.in_ok-rest-2.rest.now in
    let s = source_there f c.args.symbols.now rest d c.in_ok-items.rest.now us x.1 c.in_ok-rest-2.ensures b in
    let p = err_from_is_err_and c.from_residual-in_err-source.result c.from_residual-in_err-source.ensures.1 in
    rw (p.1, p.2) (failed_at (with_rest {A = Source}) (with_rest {A = Front}) c.in_err-source.field-0.0 (r.source us) (f.source, d.2) (f, rest) s c.in_err-source.ensures)

pub returns-in_err-join-clause-only : goal.returns-in_err-join-clause-only
returns-in_err-join-clause-only c = λ f rest d b.
    let ts = c.args.symbols.now in
    let at = goal.at.returns-in_err-join-clause-only c in
    let x = items_read at.In_ok-items f rest d in
    let y = source_read at.In_ok-source f rest d b x.1 in
    let j = join_there f ts rest d c.in_ok-source.rest.now y.1 in
    let p = err_from_is_err_and c.from_residual-in_err-join.result c.from_residual-in_err-join.ensures.1 in
    rw (p.1, p.2) (failed (with_rest {A = Option JoinText}) (with_rest {A = Front}) c.in_err-join.field-0.0 (f.join, d.3) (f, rest) (c.in_err-join.ensures.only f.join d.3 j (front_begins f ts rest d b).1))

pub returns-in_err-window-clause-only : goal.returns-in_err-window-clause-only
returns-in_err-window-clause-only c = λ f rest d b.
    let at = goal.at.returns-in_err-window-clause-only c in
    let x = items_read at.In_ok-items f rest d in
    let y = source_read at.In_ok-source f rest d b x.1 in
    let z = join_read at.In_ok-join f rest d b y.1 in
    let us = c.in_ok-join.rest.now in
    let p = err_from_is_err_and c.from_residual-in_err-window.result c.from_residual-in_err-window.ensures.1 in
    rw (p.1, p.2) (failed_at (with_rest {A = Option WindowText}) (with_rest {A = Front}) c.in_err-window.field-0.0 (r.windowed us) (f.window, rest) (f, rest) (window_there f c.args.symbols.now rest d us z.1 b) c.in_err-window.ensures)

pub returns-clause-only : goal.returns-clause-only
returns-clause-only c = λ f rest d b.
    let at = goal.at.returns-clause-only c in
    let x = items_read at.In_ok-items f rest d in
    let y = source_read at.In_ok-source f rest d b x.1 in
    let z = join_read at.In_ok-join f rest d b y.1 in
    let us = c.in_ok-join.rest.now in
    let w = same_at (r.windowed us) (c.in_ok-window.window, c.in_ok-window.rest) f.window rest (window_there f c.args.symbols.now rest d us z.1 b) c.in_ok-window.ensures in
    front_read f c.in_ok-items.items c.in_ok-source.source c.in_ok-join.join c.in_ok-window.window rest c.in_ok-window.rest.now x.0 y.0 z.0 w.0 w.1
