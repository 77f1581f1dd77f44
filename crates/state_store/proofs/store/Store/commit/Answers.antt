use Rattle.std.proofs.Common.{◌≡◌, All, refl, subst, sym}
use Rattle.std.proofs.lemmas.List.Elements.{All-map}
use Rattle.std.specs.FinMap as finite
use Rattle.std.specs.Str.{bytes_eq}
use Rattle.ksql_types.specs.declared.relation.StoreEntry.{StoreEntry}
use Rattle.state_store.specs.Store.{Content, last_of_each, change_of}
use Rattle.state_store.proofs.store.Store.commit.Goals as goal

pub remove_deleted-requires : goal.remove_deleted-requires
remove_deleted-requires c =
    let content = c.args.self.now in
    let P : Content → StoreEntry → Type 0 = λ content change. finite.get content.map change.key ≡ change.value in
    let all : All (P content) c.args.changes.now =
    subst (All (P content)) (sym c.requires) (All-map (P content) (change_of content.map) (last_of_each bytes_eq content.written) (λ k d within. refl)) in
    subst (λ (content : Content). All (P content) c.args.changes.now) (sym c.self.view_is) all
