use Rattle.std.proofs.Common.{IfSome, IsSome, subst, sym}
use Rattle.std.specs.FinMap as finite
use Rattle.window_store.specs.Windows.{Windows}
use Rattle.window_store.proofs.IndexLemmas.{IsIndex-after_set}
use Rattle.window_store.proofs.store.WStore.set_at.Goals as goal

pub invariant_of-self-2 : goal.invariant_of-self-2
invariant_of-self-2 c =
    IsIndex-after_set c.write_at.result c.note_new.new.starts c.self.inside.kept c.write_at.new.self c.args.at.now c.args.value c.requires.window c.in_ok-note_new.ensures.noted c.write_at.ensures.map c.write_at.ensures.written c.write_at.ensures.kept c.note_new.ensures.index

pub note_new-requires-clause-held : goal.note_new-requires-clause-held
note_new-requires-clause-held c =
    let is_held : Windows → Type 0 = λ windows. IfSome c.args.place (λ _. IsSome (finite.get windows.content.map c.args.at.now)) in
    subst is_held (sym c.self.view_is) c.requires.held
