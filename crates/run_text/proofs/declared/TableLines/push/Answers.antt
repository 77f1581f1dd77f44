use Rattle.std.proofs.Common.{◌≡◌, ◌∙◌, ◌++◌, ap, sym, eq-eqb, List, [], ◌∷◌, Bool, true, false, map}
use Rattle.std.specs.Prelude.{◌==◌, ◌||◌, if◌then◌else◌, is_some, option_map, Option, Some, None}
use Rattle.std.proofs.lemmas.List.{append-nil, map-append}
use Rattle.ksql_types.specs.declared.relation.Kind.TheVariants.{Table}
use Rattle.ksql_types.specs.declared.value.Value.{Value}
use Rattle.ksql_place.specs.declared.change.Body.TheVariants.{Turned}
use Rattle.query_meaning.specs.Parts.{said_to}
use Rattle.run_text.specs.Lines.{shown_of}
use Rattle.run_text.specs.Printed.{Shown}
use Rattle.run_text.proofs.TableLemmas.{change_by, is_some-lent, lines-more, row_before, row_brought-said, row_keys-more, said_to-table, shown_by}
use Rattle.run_text.proofs.declared.TableLines.push.Goals as goal
use Rattle.run_text.proofs.declared.TableLines.push.Goals.{then-had-via-then-had, then-had-via-else-had+then-is_some}

either-left : (a b : Bool) → a ≡ true → (a || b) ≡ true
either-left a b is = ap (λ (t : Bool). t || b) is

either-right : (a b : Bool) → b ≡ true → (a || b) ≡ true
either-right true b is = cc
either-right false b is = is

pub returns-in_ok-push : goal.returns-in_ok-push
returns-in_ok-push c before so =
    let x = c.args.fed.now in
    let number = c.args.number in
    let row : Option (List Value) = option_map (λ r. r.now) c.in-Some.row in
    let here : (x.stamp.topic == number) ≡ true = eq-eqb x.stamp.topic number c.if-fed-number.false in
    let one : said_to Table number (x ∷ []) ≡ change_by x (Turned None row) ∷ [] = said_to-table number x (Some row) here c.in-Some.ensures in
    let key : c.items.result.now ≡ x.key = c.items.ensures.value in
    let had : c.in_ok-had.had ≡ is_some (row_before number before x.key) =
    c.in_ok-had.ensures.had ∙ so.rows (record { cells = c.items.result }) ∙ ap (λ (k : List Value). is_some (row_before number before k)) key in
    let stays : c.is_some.result ≡ is_some row = c.is_some.ensures ∙ sym (is_some-lent _ c.in-Some.row) in
    let some : (c.in_ok-had.had || is_some row) ≡ true =
    elim c.then-had.branch [
      | then-had-via-then-had w ↦ either-left c.in_ok-had.had (is_some row) w.if-had.true
      | then-had-via-else-had+then-is_some w ↦ either-right c.in_ok-had.had (is_some row) (is_some-lent _ c.in-Some.row ∙ sym w.is_some-else-had.ensures ∙ w.if-is_some.true)
    ] in
    let line : map shown_of c.push.new.self.items ≡ map shown_of c.args.self.now.lines.items ++ shown_by x row ∷ [] =
    ap (map shown_of) c.in_ok-push.ensures.items ∙ map-append shown_of c.args.self.now.lines.items (c.of_record.result ∷ [])
    ∙ ap (λ (s : Shown). map shown_of c.args.self.now.lines.items ++ s ∷ [])
    (c.of_record.ensures ∙ ap (shown_by x) (row_brought-said Table x.key x.value row c.in-Some.ensures)) in
    record {
      lines =
          line
          ∙ ap (λ (b : Bool). map shown_of c.args.self.now.lines.items ++ (if b then shown_by x row ∷ [] else [])) (sym some)
          ∙ lines-more number before x row c.in_ok-had.had (map shown_of c.args.self.now.lines.items) one had so.lines;
      rows = row_keys-more number before x row c.args.self.now.rows c.turn.new.rows (record { cells = c.items.result }) c.is_some.result one key stays so.rows c.in_ok-had.ensures.turned;
    }

pub returns-else-is_some : goal.returns-else-is_some
returns-else-is_some c before so =
    let x = c.args.fed.now in
    let number = c.args.number in
    let row : Option (List Value) = option_map (λ r. r.now) c.in-Some.row in
    let here : (x.stamp.topic == number) ≡ true = eq-eqb x.stamp.topic number c.if-fed-number.false in
    let one : said_to Table number (x ∷ []) ≡ change_by x (Turned None row) ∷ [] = said_to-table number x (Some row) here c.in-Some.ensures in
    let key : c.items.result.now ≡ x.key = c.items.ensures.value in
    let had : c.in_ok-had.had ≡ is_some (row_before number before x.key) =
    c.in_ok-had.ensures.had ∙ so.rows (record { cells = c.items.result }) ∙ ap (λ (k : List Value). is_some (row_before number before k)) key in
    let stays : c.is_some.result ≡ is_some row = c.is_some.ensures ∙ sym (is_some-lent _ c.in-Some.row) in
    let none : (c.in_ok-had.had || is_some row) ≡ false =
    ap (λ (b : Bool). b || is_some row) c.if-had.false ∙ is_some-lent _ c.in-Some.row ∙ sym c.is_some-else-had.ensures ∙ c.if-is_some.false in
    record {
      lines =
          sym (append-nil (map shown_of c.args.self.now.lines.items))
          ∙ ap (λ (b : Bool). map shown_of c.args.self.now.lines.items ++ (if b then shown_by x row ∷ [] else [])) (sym none)
          ∙ lines-more number before x row c.in_ok-had.had (map shown_of c.args.self.now.lines.items) one had so.lines;
      rows = row_keys-more number before x row c.args.self.now.rows c.turn.new.rows (record { cells = c.items.result }) c.is_some.result one key stays so.rows c.in_ok-had.ensures.turned;
    }
