-- What records say has their stamps.
use Rattle.std.proofs.Common.{◌≡◌, sym, subst, refl, List, [], ◌∷◌}
use Rattle.std.specs.Prelude.{flat_map, Option, Some, None}
use Rattle.std.specs.List.{AllByRecursion}
use Rattle.ksql_types.specs.declared.relation.Kind.{Kind}
use Rattle.ksql_place.specs.Said.{said_by, saying}
use Rattle.ksql_place.specs.declared.change.Body.{Body}
use Rattle.ksql_place.specs.declared.change.Change.{Change}
use Rattle.ksql_place.specs.declared.change.SourceRecord.{SourceRecord}
use Rattle.ksql_place.specs.declared.stamp.Stamp.{Stamp}
use Rattle.ksql_nodes.proofs.Lists.{All-append}
use Rattle.meaning_laws.proofs.Lists.{All-weaker}

-- what is said at the place of a record
abbrev pub placed_at : SourceRecord → Option Body → List Change
placed_at r None = []
placed_at r (Some body) = record { place = record { stamp = r.stamp; path = [] }; time = r.time; key = r.key; span = None; body = body } ∷ []

placed-keeps : (r : SourceRecord) (o : Option Body) → AllByRecursion (λ c. c.place.stamp ≡ r.stamp) (placed_at r o)
placed-keeps r None = tt
placed-keeps r (Some body) = (refl, tt)

pub saying-keeps : (kind : Kind) (r : SourceRecord) → AllByRecursion (λ c. c.place.stamp ≡ r.stamp) (saying kind r)
saying-keeps kind r = placed-keeps r (said_by kind r.key r.value)

pub flat-each : (P : Stamp → Type 0) (kind : Kind) (order : List SourceRecord) → AllByRecursion (λ r. P r.stamp) order →
    AllByRecursion (λ c. P c.place.stamp) (flat_map (saying kind) order)
flat-each P kind [] each = tt
flat-each P kind (r ∷ rs) each =
    All-append (λ c. P c.place.stamp) (saying kind r) (flat_map (saying kind) rs)
    (All-weaker (λ (c : Change). c.place.stamp ≡ r.stamp) (λ c. P c.place.stamp) (λ c is. subst P (sym is) each.0) (saying kind r) (saying-keeps kind r))
    (flat-each P kind rs each.1)
