-- What a change under its join key gives, if it has one.
use Rattle.std.proofs.Common.{◌≡◌, ◌∙◌, ap, sym, List, []}
use Rattle.std.specs.Prelude.{Option, Some, None, flat_map}
use Rattle.std.specs.Option.{option_to_list}
use Rattle.std.proofs.lemmas.List.{append-nil}
use Rattle.ksql_place.specs.declared.change.Change.{Change}

pub keyed_some : (f : Change → List Change) (keyed : Option Change) (cs : List Change) (c : Change) → option_to_list keyed ≡ cs → keyed ≡ Some c → flat_map f cs ≡ f c
keyed_some f keyed cs c is some = ap (flat_map f) (sym is ∙ ap option_to_list some) ∙ append-nil (f c)

pub keyed_none : (f : Change → List Change) (keyed : Option Change) (cs : List Change) → option_to_list keyed ≡ cs → keyed ≡ None → flat_map f cs ≡ []
keyed_none f keyed cs is none = ap (flat_map f) (sym is ∙ ap option_to_list none)
