-- The topics that sub-topologies write, noted from the last topic to the first.
use Rattle.std.proofs.Common.{◌≡◌, ◌∙◌, ap, ap₂, sym, refl, ℕ, suc, ◌+◌, ◌<◌, Bool, true, false, cond, List, ◌∷◌, drop, length, get_or, arith, Option, Some}
use Rattle.std.specs.Prelude.{slice_get, unwrap_or}
use Rattle.std.proofs.lemmas.List.{drop_more}
use Rattle.std.proofs.lemmas.Option.{slice_get_read}
use Rattle.ksql_types.specs.declared.topic.TopicSpec.{TopicSpec}
use Rattle.core_state.specs.Routes.{is_written_by, topic_from}
use Rattle.topic_log.specs.Shelves.{AreTopics}
use Rattle.topic_log.proofs.OneTopic.{IfSome-at}

chosen : (b : Bool) (n none : ℕ) (o : Option ℕ) → unwrap_or (cond b (Some n) o) none ≡ cond b n (unwrap_or o none)
chosen true n none o = refl
chosen false n none o = refl

-- one topic more, before those that were noted
pub noted-more : (topics : List TopicSpec) → AreTopics topics → (i after : ℕ) → after ≡ suc i → i < length topics → (t : TopicSpec) → t ≡ get_or topics i t → (known next : ℕ → Option ℕ) →
    ((sub : ℕ) → unwrap_or (known sub) (length topics) ≡ topic_from after (drop after topics) sub) →
    ((sub : ℕ) → next sub ≡ cond (is_written_by sub t.writer) (Some t.number) (known sub)) →
    (sub : ℕ) → unwrap_or (next sub) (length topics) ≡ topic_from i (drop i topics) sub
noted-more topics are i after step inside t read known next noted more sub =
    let written : Bool = is_written_by sub t.writer in
    let at : slice_get topics i ≡ Some t = slice_get_read topics (length topics) i t refl inside read in
    let number : t.number ≡ i = IfSome-at (λ (t : TopicSpec). t.number ≡ i) (slice_get topics i) t at (are.numbered i) in
    let one : i + 1 ≡ suc i = omega arith in
    let front : drop i topics ≡ t ∷ drop (suc i) topics =
    drop_more topics i t inside ∙ ap₂ (λ (x : TopicSpec) (n : ℕ). x ∷ drop n topics) (sym read) one in
    let rest : unwrap_or (known sub) (length topics) ≡ topic_from (suc i) (drop (suc i) topics) sub =
    noted sub ∙ ap (λ (n : ℕ). topic_from n (drop n topics) sub) step in
    ap (λ (o : Option ℕ). unwrap_or o (length topics)) (more sub)
    ∙ chosen written t.number (length topics) (known sub)
    ∙ ap₂ (λ (n m : ℕ). cond written n m) number rest
    ∙ ap (λ (ts : List TopicSpec). topic_from i ts sub) (sym front)
