use Rattle.std.proofs.Common.{◌≡◌, ◌≢◌, ◌∙◌, List, ◌∷◌, ◌++◌, Bool, true, false, cond, ap, sym, subst, refl, arith, eqb-true, ◌==◌}
use Rattle.std.specs.Prelude.{All, filter}
use Rattle.std.proofs.lemmas.Bool.{and_parts}
use Rattle.std.proofs.lemmas.List.Elements.{All-weaker}
use Rattle.ksql_place.specs.Ascending.{Rises}
use Rattle.ksql_place.specs.Order.{record_cmp}
use Rattle.ksql_place.specs.declared.change.SourceRecord.{SourceRecord}
use Rattle.ksql_place.specs.declared.stamp.Stamp.{Stamp}
use Rattle.core_state.specs.State.{is_in}
use Rattle.topic_log.specs.Feeding.{RiseApart}
use Rattle.topic_log.proofs.Fed.{filter-none, not-in, rise_apart}
use Rattle.store_tests.proofs.feeds.three_records.Goals as goal

-- a record of another partition may come before some that rise
apart-first : (r : SourceRecord) (rs : List SourceRecord) → Rises record_cmp rs → All (λ x. x.stamp.part ≢ r.stamp.part) rs → RiseApart (r ∷ rs)
apart-first r rs rises others topic q = by (is_in topic q r) refl
  where
    own : List SourceRecord
    own = filter (is_in topic q) rs

    by : (b : Bool) → is_in topic q r ≡ b → Rises record_cmp (cond b (r ∷ own) own)
    by false is = rise_apart rs rises topic q
    by true is =
        let part : r.stamp.part ≡ q = eqb-true r.stamp.part q (and_parts (r.stamp.topic == topic) (r.stamp.part == q) is).1 in
        subst (λ (us : List SourceRecord). Rises record_cmp (r ∷ us))
        (sym (filter-none (is_in topic q) rs (All-weaker (λ (x : SourceRecord). x.stamp.part ≢ r.stamp.part) (λ x. is_in topic q x ≡ false)
        (λ x other. not-in topic q x (λ _ same. other (same ∙ sym part))) rs others)))
        (λ i j d low below. absurd (omega (arith, low, below)))

pub returns-clause-apart : goal.returns-clause-apart
returns-clause-apart c =
    let first : SourceRecord = c.source_record.result in
    let others : List SourceRecord = c.in_ok-others.others.items in
    subst RiseApart (sym (c.in_ok-append.ensures.items ∙ ap (λ (rs : List SourceRecord). rs ++ others) c.in_ok-records.ensures.items))
    (apart-first first others c.in_ok-others.ensures.rises
    (All-weaker (λ (x : SourceRecord). x.stamp.part ≡ 0) (λ (x : SourceRecord). x.stamp.part ≢ first.stamp.part)
    (λ x zero same. absurd (omega (arith, zero, same, ap (λ (at : Stamp). at.part) c.source_record.ensures, c.stamp.ensures.part))) others c.in_ok-others.ensures.part))
