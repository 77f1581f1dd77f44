use Rattle.window_store.proofs.IndexLemmas.{IsIndex-after_set}
use Rattle.window_store.proofs.store.WStore.set.Goals as goal

pub invariant_of-self-2 : goal.invariant_of-self-2
invariant_of-self-2 c =
    IsIndex-after_set c.set.result c.note_new.new.starts c.self.inside.kept c.set.new.self c.args.at.now c.args.value.now c.requires c.in_ok-note_new.ensures.noted c.set.ensures.map c.set.ensures.written c.set.ensures.kept c.note_new.ensures.index
