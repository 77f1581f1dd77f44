-- What the store of a windowed aggregate holds: at a later stream time, and window by window while one more entry is
-- added.
use Rattle.std.proofs.Common.{◌≡◌, ◌∙◌, ap, ap₂, refl, sym, subst, ℕ, ◌+◌, ◌-◌, ◌<◌, ◌≤◌, ◌^◌, List, [], ◌∷◌, ◌++◌, Bool, true, false, cond, arith}
use Rattle.std.proofs.Math.Bool.{or-false}
use Rattle.std.proofs.lemmas.List.{append-nil}
use Rattle.std.proofs.lemmas.List.Folds.{list_any-append}
use Rattle.std.proofs.lemmas.Slice.Eq.{bytes_eq-Decides}
use Rattle.std.specs.Cmp.Derive.{both_true}
use Rattle.std.specs.FinMap.{get}
use Rattle.std.specs.List.{AllByRecursion, list_any}
use Rattle.std.specs.Prelude.{None, Some, IfSome, IsTrue, nat_lt, ◌&&◌, ◌||◌, if◌then◌else◌, option_map}
use Rattle.std.specs.Str.{bytes_eq}
use Rattle.ksql_types.specs.declared.relation.Kind.TheVariants.{Stream}
use Rattle.ksql_types.specs.declared.relation.Span.{Span}
use Rattle.ksql_types.specs.declared.relation.Window.{Window}
use Rattle.ksql_types.specs.declared.value.Value.{Value}
use Rattle.ksql_program.specs.declared.query.Agg.{Agg}
use Rattle.ksql_nodes.specs.Aggregates.{group_change}
use Rattle.ksql_nodes.specs.Entries.{Entry, latest_time}
use Rattle.ksql_nodes.specs.Rows.{at_path}
use Rattle.ksql_nodes.specs.Windows.{added, is_same_span, timed, window_change, windows_of, with_times}
use Rattle.ksql_nodes.proofs.Lists.{All-append}
use Rattle.record_codec.specs.Spelling.{AreSpellable, values}
use Rattle.state_store.specs.Store.{Values, with_value}
use Rattle.state_store.proofs.ReplayLemmas.{get-with_value}
use Rattle.operator.specs.Kept.{totals}
use Rattle.operator.specs.StandsFor.{HasSpelledKey}
use Rattle.agg_ops.specs.Totals.{is_sound_window}
use Rattle.window_store.specs.Windows.{under, has_ended}
use Rattle.agg_ops.specs.WindowGroups.{HoldsPartly, HoldsWindows, added_partly, added_upto, is_one_of}
use Rattle.agg_ops.proofs.WindowStarts.{Rise, StandsAt, bytes-start, rise-at, span-among, sound-parts, windows-rise}
use Rattle.agg_ops.proofs.WindowTimes.{time-at}
use Rattle.agg_ops.proofs.WindowAdded.{added-later, added-more, added-under, is_open_at, open-bytes}

-- ---- a later stream time

pub windows-expired : (aggs : List Agg) (w : Window) (m n : Values) (time later : ℕ) (es : List Entry) → IsTrue (is_sound_window w) → later < 2 ^ 64 → time ≤ later → HoldsWindows aggs w m time es →
    ((b : List ℕ) → get n b ≡ (if has_ended w.size (later - w.grace) b then None else get m b)) → HoldsWindows aggs w n later es
windows-expired aggs w m n time later es sound small le h left = record {
  keys = h.keys;
  spelled = λ b. subst (λ es. IfSome (totals Stream aggs es) AreSpellable) (sym (same b)) (both b (has_ended w.size (later - w.grace) b));
  windows = λ b. left b ∙ value b (has_ended w.size (later - w.grace) b) ∙ sym (ap (λ es. option_map values (totals Stream aggs es)) (same b));
  late = omega (arith, h.late);
}
  where
    same : (b : List ℕ) → added_upto later w es b ≡ cond (has_ended w.size (later - w.grace) b) [] (added_upto time w es b)
    same b = let s = sound-parts w sound in added-later w time later es b s.moves s.lasts le small h.late

    both : (b : List ℕ) (c : Bool) → IfSome (totals Stream aggs (cond c [] (added_upto time w es b))) AreSpellable
    both b true = tt
    both b false = h.spelled b

    value : (b : List ℕ) (c : Bool) → cond c None (get m b) ≡ option_map values (totals Stream aggs (cond c [] (added_upto time w es b)))
    value b true = refl
    value b false = h.windows b

-- ---- one more entry

-- before the first window of an entry
pub windows-begun : (aggs : List Agg) (w : Window) (m : Values) (time : ℕ) (es : List Entry) (e : Entry) → HoldsWindows aggs w m time es → HasSpelledKey e → HoldsPartly aggs w m time es e []
windows-begun aggs w m time es e h key = record {
  keys = h.keys;
  key = key;
  spelled = λ b. subst (λ es. IfSome (totals Stream aggs es) AreSpellable) (sym (append-nil (added_upto time w es b))) (h.spelled b);
  windows = λ b. h.windows b ∙ sym (ap (λ es. option_map values (totals Stream aggs es)) (append-nil (added_upto time w es b)));
  late = h.late;
}

-- a window of an entry, after some of its windows and before the others
pub record IsNext (w : Window) (time : ℕ) (e : Entry) (earlier : List Span) (s : Span) (later : List Span) : Type 0 where
  pub sound : IsTrue (is_sound_window w)
  pub small : time < 2 ^ 64
  pub early : e.change.time ≤ time
  pub windows : windows_of w e.change.time ≡ earlier ++ s ∷ later

pub next-at : (w : Window) (time : ℕ) (e : Entry) (earlier : List Span) (s : Span) (later : List Span) → IsNext w time e earlier s later → StandsAt w 0 e.change.time earlier s
next-at w time e earlier s later at =
    rise-at w 0 e.change.time earlier later s (subst (Rise w 0 e.change.time) at.windows (windows-rise w e.change.time (sound-parts w at.sound).moves))

-- none of the earlier windows has its bytes
none-earlier : (time : ℕ) (w : Window) (key : List Value) (start : ℕ) (spans : List Span) → start < 2 ^ 64 → AllByRecursion (λ a. a.start < start) spans →
    is_one_of time w key spans (under (values key) start) ≡ false
none-earlier time w key start [] small h = refl
none-earlier time w key start (a ∷ spans) small h =
    ap (λ x. x || is_one_of time w key spans (under (values key) start)) (other (is_open_at w time (under (values key) start) key a) refl) ∙ none-earlier time w key start spans small h.1
  where
    other : (x : Bool) → is_open_at w time (under (values key) start) key a ≡ x → is_open_at w time (under (values key) start) key a ≡ false
    other true is =
        let same : start ≡ a.start = bytes-start (under (values key) start) (values key) start a.start small (omega (arith, h.0)) ((bytes_eq-Decides (under (values key) start) (under (values key) start)).1 refl)
        (open-bytes w time (under (values key) start) key a is) in
        absurd (omega (arith, h.0))
    other false is = is

-- ---- a window of the entry

module _ (aggs : List Agg) (w : Window) (m : Values) (time : ℕ) (es : List Entry) (e : Entry) (earlier : List Span) (s : Span) (later : List Span) (at : IsNext w time e earlier s later)
    (is_open : IsTrue (nat_lt time (s.end + w.grace))) (h : HoldsPartly aggs w m time es e earlier) where
  none-before : is_one_of time w e.change.key earlier (under (values e.change.key) s.start) ≡ false
  none-before =
      let here = next-at w time e earlier s later at in
      none-earlier time w e.change.key s.start earlier (omega (arith, here.last, at.early, at.small)) here.before

  all-under : added_upto time w es (under (values e.change.key) s.start) ≡ added w s e.change.key (with_times 1 es)
  all-under =
      let here = next-at w time e earlier s later at in
      added-under w time es e.change.key s (sound-parts w at.sound).moves at.small h.late h.keys h.key (omega (arith, here.last, at.early)) here.end is_open

  so-far : added_partly time w es e earlier (under (values e.change.key) s.start) ≡ added w s e.change.key (with_times 1 es)
  so-far =
      ap (λ c. added_upto time w es (under (values e.change.key) s.start) ++ cond c (e ∷ []) []) none-before
      ∙ append-nil (added_upto time w es (under (values e.change.key) s.start)) ∙ all-under

  -- the value under its bytes
  pub windows-read : get m (under (values e.change.key) s.start) ≡ option_map values (totals Stream aggs (added w s e.change.key (with_times 1 es)))
  windows-read = h.windows (under (values e.change.key) s.start) ∙ ap (λ es. option_map values (totals Stream aggs es)) so-far

  pub windows-spelled : IfSome (totals Stream aggs (added w s e.change.key (with_times 1 es))) AreSpellable
  windows-spelled = subst (λ es. IfSome (totals Stream aggs es) AreSpellable) so-far (h.spelled (under (values e.change.key) s.start))

  totals-next : (after : List Value) → totals Stream aggs (added w s e.change.key (with_times 1 es) ++ e ∷ []) ≡ Some after → (b : List ℕ) →
      totals Stream aggs (added_partly time w es e (earlier ++ s ∷ []) b) ≡ cond (bytes_eq b (under (values e.change.key) s.start)) (Some after) (totals Stream aggs (added_partly time w es e earlier b))
  totals-next after is b = by (bytes_eq b (under (values e.change.key) s.start)) refl
    where
      own : List ℕ
      own = under (values e.change.key) s.start

      one_more : (b : List ℕ) → is_one_of time w e.change.key (earlier ++ s ∷ []) b ≡ (is_one_of time w e.change.key earlier b || (is_open_at w time b e.change.key s || false))
      one_more b = list_any-append (is_open_at w time b e.change.key) earlier (s ∷ [])

      yes : is_one_of time w e.change.key (earlier ++ s ∷ []) own ≡ true
      yes =
          one_more own ∙ ap₂ (λ x y. x || (y || false)) none-before (both_true is_open ((bytes_eq-Decides own own).1 refl))

      by : (c : Bool) → bytes_eq b own ≡ c → totals Stream aggs (added_partly time w es e (earlier ++ s ∷ []) b) ≡ cond c (Some after) (totals Stream aggs (added_partly time w es e earlier b))
      by true same =
          ap (λ b. totals Stream aggs (added_partly time w es e (earlier ++ s ∷ []) b)) ((bytes_eq-Decides b own).0 same)
          ∙ ap₂ (λ (mine : List Entry) c. totals Stream aggs (mine ++ cond c (e ∷ []) [])) all-under yes ∙ is
      by false other =
          ap (λ c. totals Stream aggs (added_upto time w es b ++ cond c (e ∷ []) []))
          (one_more b ∙ ap (λ x. is_one_of time w e.change.key earlier b || ((nat_lt time (s.end + w.grace) && x) || false)) other
          ∙ ap (λ x. is_one_of time w e.change.key earlier b || ((x && false) || false)) is_open ∙ or-false (is_one_of time w e.change.key earlier b))

  -- with one more entry in it
  pub windows-more : (n : Values) (after : List Value) → totals Stream aggs (added w s e.change.key (with_times 1 es) ++ e ∷ []) ≡ Some after → AreSpellable after →
      n ≡ with_value m (under (values e.change.key) s.start) (Some (values after)) → HoldsPartly aggs w n time es e (earlier ++ s ∷ [])
  windows-more n after is fits new = record {
    keys = h.keys;
    key = h.key;
    spelled = λ b. subst (λ o. IfSome o AreSpellable) (sym (totals-next after is b)) (both b (bytes_eq b (under (values e.change.key) s.start)));
    windows = λ b.
        ap (λ m. get m b) new ∙ get-with_value m (under (values e.change.key) s.start) (Some (values after)) b
        ∙ value b (bytes_eq b (under (values e.change.key) s.start)) ∙ sym (ap (option_map values) (totals-next after is b));
    late = h.late;
  }
    where
      both : (b : List ℕ) (c : Bool) → IfSome (cond c (Some after) (totals Stream aggs (added_partly time w es e earlier b))) AreSpellable
      both b true = fits
      both b false = h.spelled b

      value : (b : List ℕ) (c : Bool) → cond c (Some (values after)) (get m b) ≡ option_map values (cond c (Some after) (totals Stream aggs (added_partly time w es e earlier b)))
      value b true = refl
      value b false = h.windows b

-- a window that is open no longer takes no entry
pub windows-passed : (aggs : List Agg) (w : Window) (m : Values) (time : ℕ) (es : List Entry) (e : Entry) (earlier : List Span) (s : Span) → nat_lt time (s.end + w.grace) ≡ false →
    HoldsPartly aggs w m time es e earlier → HoldsPartly aggs w m time es e (earlier ++ s ∷ [])
windows-passed aggs w m time es e earlier s shut h = record {
  keys = h.keys;
  key = h.key;
  spelled = λ b. subst (λ es. IfSome (totals Stream aggs es) AreSpellable) (sym (same b)) (h.spelled b);
  windows = λ b. h.windows b ∙ sym (ap (λ es. option_map values (totals Stream aggs es)) (same b));
  late = h.late;
}
  where
    same : (b : List ℕ) → added_partly time w es e (earlier ++ s ∷ []) b ≡ added_partly time w es e earlier b
    same b =
        ap (λ c. added_upto time w es b ++ cond c (e ∷ []) [])
        (list_any-append (is_open_at w time b e.change.key) earlier (s ∷ [])
        ∙ ap (λ x. is_one_of time w e.change.key earlier b || ((x && bytes_eq b (under (values e.change.key) s.start)) || false)) shut
        ∙ or-false (is_one_of time w e.change.key earlier b))

-- after the last window of the entry
pub windows-done : (aggs : List Agg) (w : Window) (m : Values) (time : ℕ) (es : List Entry) (e : Entry) → IsTrue (is_sound_window w) → time < 2 ^ 64 → time ≡ latest_time (es ++ e ∷ []) → e.change.time ≤ time →
    HoldsPartly aggs w m time es e (windows_of w e.change.time) → HoldsWindows aggs w m time (es ++ e ∷ [])
windows-done aggs w m time es e sound small now early h = record {
  keys = All-append HasSpelledKey es (e ∷ []) h.keys (h.key, tt);
  spelled = λ b. subst (λ es. IfSome (totals Stream aggs es) AreSpellable) (sym (more b)) (h.spelled b);
  windows = λ b. h.windows b ∙ sym (ap (λ es. option_map values (totals Stream aggs es)) (more b));
  late = omega arith;
}
  where
    more : (b : List ℕ) → added_upto time w (es ++ e ∷ []) b ≡ added_partly time w es e (windows_of w e.change.time) b
    more b = added-more w time es e b (sound-parts w sound).moves (omega arith) now

-- the change of a window of an entry
pub windows-change : (aggs : List Agg) (w : Window) (time : ℕ) (es : List Entry) (e : Entry) (earlier : List Span) (s : Span) (later : List Span) (i : ℕ) → windows_of w e.change.time ≡ earlier ++ s ∷ later →
    time ≡ latest_time (es ++ e ∷ []) →
    window_change Stream aggs w (with_times 1 es) (timed 1 es e) (i, s)
    ≡ (if nat_lt time (s.end + w.grace) then at_path (e.change.place.path ++ i ∷ []) (group_change Stream aggs (Some s) (added w s e.change.key (with_times 1 es)) e) ∷ [] else [])
windows-change aggs w time es e earlier s later i at now =
    ap₂ (λ any (t : ℕ). cond (any && nat_lt t (s.end + w.grace)) (at_path (e.change.place.path ++ i ∷ []) (group_change Stream aggs (Some s) (added w s e.change.key (with_times 1 es)) e) ∷ []) [])
    (ap (list_any (is_same_span s)) at ∙ span-among earlier later s) (time-at es e ∙ sym now)
