use Rattle.std.proofs.Common.{ap, subst, ◌∙◌, is_none}
use Rattle.ksql_types.specs.Catalog.{find_named, has_name, IsCatalog}
use Rattle.ksql_types.proofs.CatalogLemmas.{IfSome-numbered, is_none-copied, is_none-find, lookup-named}
use Rattle.ksql_types.proofs.catalog.Catalog.find.Goals as goal

pub returns-clause-value : goal.returns-clause-value
returns-clause-value c =
    c.get.ensures.value
    ∙ lookup-named c.args.name.now c.self.inside.by_name.entries c.self.invariant.1
    ∙ ap (find_named c.args.name.now) c.self.view_is

pub returns-clause-none : goal.returns-clause-none
returns-clause-none c =
    is_none-copied c.get.result
    ∙ ap is_none (returns-clause-value c)
    ∙ is_none-find (has_name c.args.name.now) c.args.self.now

pub returns-clause-numbered : goal.returns-clause-numbered
returns-clause-numbered c =
    IfSome-numbered (has_name c.args.name.now) c.args.self.now c.get.result (subst IsCatalog c.self.view_is c.self.invariant.0) (returns-clause-value c)
