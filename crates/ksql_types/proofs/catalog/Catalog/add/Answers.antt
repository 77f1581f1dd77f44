use Rattle.std.proofs.Common.{◌≡◌, ◌++◌, ◌∷◌, [], List, ℕ, false, length, sym, ap, subst, ◌∙◌}
use Rattle.std.specs.HashMap.{values}
use Rattle.std.specs.Map.{values_of}
use Rattle.std.specs.Str.{bytes_eq}
use Rattle.indexmap.specs.IndexMap.{insert_entry}
use Rattle.ksql_types.specs.declared.relation.Relation.{Relation}
use Rattle.ksql_types.specs.Catalog.{is_taken, AreNamed, IsCatalog}
use Rattle.ksql_types.proofs.CatalogLemmas.{insert_entry-free, values-push, AreNamed-push, IsCatalog-push}
use Rattle.ksql_types.proofs.catalog.Catalog.add.Goals as goal

-- a relation inserted under its own name, which is new, comes last
last : (es after : List (List ℕ × Relation)) (name : List ℕ) (r : Relation) → AreNamed es → is_taken r.name r.topic (values_of es) ≡ false → name ≡ r.name → after ≡ insert_entry bytes_eq es name r → after ≡ es ++ (r.name, r) ∷ []
last es after name r named free same e =
    e ∙ ap (λ n. insert_entry bytes_eq es n r) same ∙ insert_entry-free r es named free

free_before : (c : goal.Joined-branch-3) → is_taken c.args.relation.name c.args.relation.topic (values c.self.inside.by_name) ≡ false
free_before c = ap (is_taken c.args.relation.name c.args.relation.topic) c.self.view_is ∙ sym c.is_taken.ensures ∙ c.if-is_taken.false

entries_after : (c : goal.Joined-branch-3) → c.insert.new.self.entries ≡ c.self.inside.by_name.entries ++ (c.args.relation.name, c.args.relation) ∷ []
entries_after c =
    last c.self.inside.by_name.entries c.insert.new.self.entries c.in_ok-name.name c.args.relation c.self.invariant.1 (free_before c) c.in_ok-name.ensures c.in_ok-insert.ensures.entries

values_after : (c : goal.Joined-branch-3) → values c.insert.new.self ≡ values c.self.inside.by_name ++ c.args.relation ∷ []
values_after c = ap values_of (entries_after c) ∙ values-push c.args.relation c.self.inside.by_name.entries

pub invariant_of-self-2 : goal.invariant_of-self-2
invariant_of-self-2 c =
    let relation = c.args.relation in
    let number : relation.number ≡ length (values c.self.inside.by_name) = c.requires ∙ sym (ap length c.self.view_is) in (
      subst IsCatalog (sym (values_after c)) (IsCatalog-push relation (values c.self.inside.by_name) c.self.invariant.0 number (free_before c)),
      subst AreNamed (sym (entries_after c)) (AreNamed-push relation c.self.inside.by_name.entries c.self.invariant.1),
    )

pub returns-clause-added : goal.returns-clause-added
returns-clause-added c = values_after c ∙ ap (λ rs. rs ++ c.args.relation ∷ []) c.self.view_is
