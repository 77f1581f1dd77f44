-- What a partition shows once more is fed or sent to it.
use Rattle.std.proofs.Common.{◌≡◌, ◌∙◌, ◌⊎◌, List, [], ◌++◌, map, ap, refl, sym, inl, inr, append-nil, append_assoc}
use Rattle.std.specs.Global.{Vec}
use Rattle.std.proofs.lemmas.List.{map-append}
use Rattle.ksql_place.specs.declared.change.Change.{Change}
use Rattle.ksql_place.specs.declared.change.SourceRecord.{SourceRecord}
use Rattle.core_state.specs.declared.log.LogEntry.{LogEntry}
use Rattle.core_state.specs.declared.log.LogEntry.TheVariants.{Fed, Said}
use Rattle.topic_log.specs.Entries.{entries_of, shown_in}
use Rattle.topic_log.specs.declared.shelves.PartShelf.{PartShelf}

same-entries : (rs ss : List SourceRecord) (xs ys : List Change) → rs ≡ ss → xs ≡ ys → entries_of rs xs ≡ entries_of ss ys
same-entries rs ss xs ys fed said = cc

more-fed : (rs more : List SourceRecord) (xs : List Change) → xs ≡ [] → entries_of (rs ++ more) xs ≡ entries_of rs xs ++ map Fed more
more-fed rs more xs none =
    same-entries (rs ++ more) (rs ++ more) xs [] refl none
    ∙ append-nil (map Fed (rs ++ more)) ∙ map-append Fed rs more
    ∙ ap (λ (es : List LogEntry). es ++ map Fed more) (sym (append-nil (map Fed rs)) ∙ same-entries rs rs [] xs refl (sym none))

more-said : (rs : List SourceRecord) (xs more : List Change) → entries_of rs (xs ++ more) ≡ entries_of rs xs ++ map Said more
more-said rs xs more =
    ap (λ (es : List LogEntry). map Fed rs ++ es) (map-append Said xs more) ∙ sym (append_assoc (map Fed rs) (map Said xs) (map Said more))

-- records that are fed, if any and no change is there
pub shows-fed : (was now : PartShelf) (more : List SourceRecord) → (more ≡ []) ⊎ (was.said.items ≡ []) → now.fed.items ≡ was.fed.items ++ more → now.said ≡ was.said →
    shown_in now ≡ shown_in was ++ map Fed more
shows-fed was now more (inl none) fed said =
    same-entries now.fed.items was.fed.items now.said.items was.said.items (fed ∙ ap (λ (rs : List SourceRecord). was.fed.items ++ rs) none ∙ append-nil was.fed.items)
    (ap (λ (v : Vec Change). v.items) said)
    ∙ sym (ap (λ (rs : List SourceRecord). shown_in was ++ map Fed rs) none ∙ append-nil (shown_in was))
shows-fed was now more (inr none) fed said =
    same-entries now.fed.items (was.fed.items ++ more) now.said.items was.said.items fed (ap (λ (v : Vec Change). v.items) said)
    ∙ more-fed was.fed.items more was.said.items none

-- changes that are sent
pub shows-sent : (was now : PartShelf) (more : List Change) → now.fed ≡ was.fed → now.said.items ≡ was.said.items ++ more → shown_in now ≡ shown_in was ++ map Said more
shows-sent was now more fed said =
    same-entries now.fed.items was.fed.items now.said.items (was.said.items ++ more) (ap (λ (v : Vec SourceRecord). v.items) fed) said
    ∙ more-said was.fed.items was.said.items more
