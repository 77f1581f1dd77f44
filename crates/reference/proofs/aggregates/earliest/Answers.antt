use Rattle.std.proofs.Common.{◌≡◌, ◌∙◌, ap, sym, rules, tests}
use Rattle.std.specs.Prelude.{Option, unwrap_or, find, not}
use Rattle.std.proofs.lemmas.Iterator.Adapters.{YieldsList-from_vec, option_map_id}
use Rattle.std.proofs.lemmas.Iterator.Search.{find_from_yields_List}
use Rattle.ksql_types.specs.Key.{is_null}
use Rattle.ksql_types.specs.declared.value.Value.{Value}
use Rattle.ksql_types.specs.declared.value.Value.TheVariants.{Null}
use Rattle.reference.proofs.Lists.{first_found}
use Rattle.reference.proofs.aggregates.earliest.Goals as goal

pub returns : goal.returns
returns c =
    let values = c.args.values.items in
    let found : c.find.result ≡ find (λ v. not (is_null v)) values =
    sym (option_map_id c.find.result)
    ∙ find_from_yields_List (λ (v : Value). not (is_null v)) c.find.new.self _ c.find.result c.find.ensures.ran
    (YieldsList-from_vec values c.into_iter.ensures.rest (c.into_iter.ensures.len ∙ c.args.values.ok.0)) (λ x b q k. search (rules, tests)) in
    c.unwrap_or.ensures ∙ ap (λ (o : Option Value). unwrap_or o Null) found ∙ sym (first_found values)
