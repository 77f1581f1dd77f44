use Rattle.std.proofs.Common.{◌≡◌, ◌∙◌, ap, refl, sym, subst, ℕ, ◌+◌, ◌-◌, ◌<◌, ◌≤◌, ◌^◌, List, [], ◌∷◌, ◌++◌, get_or, take, append_assoc, Vec, Global, true, false, cond, arith}
use Rattle.std.specs.Prelude.{None, max, nat_lt}
use Rattle.std.specs.FinMap.{get}
use Rattle.std.proofs.lemmas.Bool.{lt-ltb, le-ltb}
use Rattle.std.proofs.lemmas.List.{append-nil, take_all}
use Rattle.ksql_types.specs.declared.relation.Span.{Span}
use Rattle.ksql_place.specs.declared.change.Change.{Change}
use Rattle.ksql_nodes.specs.Entries.{Entry, latest_time}
use Rattle.ksql_nodes.specs.Windows.{windows_of}
use Rattle.record_codec.specs.Spelling.{values}
use Rattle.state_store.specs.Store.{IsBase}
use Rattle.window_store.specs.Windows.{has_ended, under, Windows}
use Rattle.std.proofs.lemmas.Result.{err_from_is_err_and}
use Rattle.agg_ops.specs.WindowGroups.{HoldsPartly}
use Rattle.agg_ops.proofs.TotalsLemmas.{time-more}
use Rattle.agg_ops.proofs.WindowLemmas.{windows-begun, windows-done, windows-expired}
use Rattle.agg_ops.proofs.WindowSpans.{size-short, grace-short}
use Rattle.agg_ops.proofs.WindowSteps.{given_of, added-along, added-front, span-bounds, shut-step, open-step, IsTurnOf}
use Rattle.agg_ops.proofs.window_agg_op.give.Goals as goal
use Rattle.agg_ops.proofs.window_agg_op.give.Goals.{then-time-span+in_ok-put_window_key+in_ok-reserve+in_ok-given, else-time-span}

abbrev none : Span
none = record { start = 0; end = 0 }

pub loop-index-init : goal.loop-index-init
loop-index-init c =
    let w = c.args.window in
    let old = c.args.windows.now in
    let new = c.expire.new.self in
    let size : c.advance_time.new.self.size ≡ old.size = ap (λ (s : Windows). s.size) c.advance_time.ensures in
    let time : new.time ≡ max old.time c.args.change.now.time = c.expire.ensures.same_time ∙ ap (λ (s : Windows). s.time) c.advance_time.ensures in
    let map : c.advance_time.new.self.content.map ≡ old.content.map = ap (λ (s : Windows). s.content.map) c.advance_time.ensures in
    let content : c.advance_time.new.self.content ≡ old.content = ap (λ (s : Windows). s.content) c.advance_time.ensures in
    let now : c.time.result ≡ new.time = c.time.ensures ∙ sym c.expire.ensures.same_time in
    let moment : c.saturating_sub.result ≡ new.time - w.grace = c.saturating_sub.ensures ∙ ap (λ (n : ℕ). n - w.grace) now in
    let small : new.time < 2 ^ 64 = omega (arith, now) in
    let later : old.time ≤ new.time = omega (arith, time) in
    record {
      size = c.expire.ensures.same_size ∙ size;
      time = time;
      base = λ base h. c.expire.ensures.base base (subst (IsBase base) (sym content) h);
      out = ([], sym (append-nil c.args.out.now.items));
      next = λ side es at h. record {
        out = sym (append-nil c.args.out.now.items);
        holds =
            windows-begun c.args.aggs.now w new.content.map new.time es (record { side = side; change = c.args.change.now })
            (windows-expired c.args.aggs.now w old.content.map new.content.map old.time new.time es c.requires.sound small later h
            (λ b. c.in_ok-expire.ensures.gone b ∙ (λ i. cond (has_ended ((size ∙ c.requires.size) i) (moment i) b) None (get (map i) b))))
            c.in_ok-spelled.ensures.spellable;
      };
    }

pub overflow_add-span : goal.overflow_add-span
overflow_add-span c =
    let w = c.args.window in
    let time = c.args.change.now.time in
    let s : Span = get_or c.deref-span-items.result.now c.loop-index.index none in
    let at : (s.start ≤ time) × (s.end ≡ s.start + w.size) =
    span-bounds w time c.deref-span-items.result.now c.loop-index.index none s (c.deref-span-items.ensures.value ∙ c.in_ok-spans.ensures.spans) c.loop-index-test.true refl c.requires.sound in
    record { fits = omega (arith, size-short w c.requires.sound, grace-short w c.requires.sound) }

pub add_to-requires-clause-window : goal.add_to-requires-clause-window
add_to-requires-clause-window c =
    let w = c.args.window in
    let time = c.args.change.now.time in
    let s : Span = get_or c.deref-span-items.result.now c.loop-index.index none in
    let at : (s.start ≤ time) × (s.end ≡ s.start + w.size) =
    span-bounds w time c.deref-span-items.result.now c.loop-index.index none s (c.deref-span-items.ensures.value ∙ c.in_ok-spans.ensures.spans) c.loop-index-test.true refl c.requires.sound in
    let low : s.start ≤ 2 ^ 56 = omega arith in
    (c.items-key.result.now, s.start, c.as_slice.ensures.value ∙ c.in_ok-put_window_key.ensures, low)

pub add_to-requires-clause-bounds : goal.add_to-requires-clause-bounds
add_to-requires-clause-bounds c =
    let w = c.args.window in
    let time = c.args.change.now.time in
    let s : Span = get_or c.deref-span-items.result.now c.loop-index.index none in
    let at : (s.start ≤ time) × (s.end ≡ s.start + w.size) =
    span-bounds w time c.deref-span-items.result.now c.loop-index.index none s (c.deref-span-items.ensures.value ∙ c.in_ok-spans.ensures.spans) c.loop-index-test.true refl c.requires.sound in
    (omega arith, omega (arith, size-short w c.requires.sound))

pub returns-in_err-put_window_key-clause-out : goal.returns-in_err-put_window_key-clause-out
returns-in_err-put_window_key-clause-out c =
    let so_far = c.loop-index.invariant in
    let all = c.deref-span-items.ensures.value ∙ c.in_ok-spans.ensures.spans in
    let p = err_from_is_err_and c.from_residual-in_err-put_window_key.result c.from_residual-in_err-put_window_key.ensures.1 in
    rw p.1 (
      so_far.out.0,
      so_far.out.1,
      λ side es at h. added-front c.args.aggs.now c.args.window es (record { side = side; change = c.args.change.now }) c.deref-span-items.result.now c.loop-index.index so_far.out.0 c.args.out.now.items
          c.loop-index.out.items all so_far.out.1 (so_far.next side es at h).out,
    )

pub returns-in_err-reserve-clause-out : goal.returns-in_err-reserve-clause-out
returns-in_err-reserve-clause-out c =
    let so_far = c.loop-index.invariant in
    let all = c.deref-span-items.ensures.value ∙ c.in_ok-spans.ensures.spans in
    let p = err_from_is_err_and c.from_residual-in_err-reserve.result c.from_residual-in_err-reserve.ensures.1 in
    rw p.1 (
      so_far.out.0,
      c.reserve.ensures.items ∙ so_far.out.1,
      λ side es at h. added-front c.args.aggs.now c.args.window es (record { side = side; change = c.args.change.now }) c.deref-span-items.result.now c.loop-index.index so_far.out.0 c.args.out.now.items
          c.loop-index.out.items all so_far.out.1 (so_far.next side es at h).out,
    )

pub returns-in_err-given-clause-out : goal.returns-in_err-given-clause-out
returns-in_err-given-clause-out c =
    let so_far = c.loop-index.invariant in
    let all = c.deref-span-items.ensures.value ∙ c.in_ok-spans.ensures.spans in
    let p = err_from_is_err_and c.from_residual-in_err-given.result c.from_residual-in_err-given.ensures.1 in
    rw p.1 (
      so_far.out.0,
      c.reserve.ensures.items ∙ so_far.out.1,
      λ side es at h. added-front c.args.aggs.now c.args.window es (record { side = side; change = c.args.change.now }) c.deref-span-items.result.now c.loop-index.index so_far.out.0 c.args.out.now.items
          c.loop-index.out.items all so_far.out.1 (so_far.next side es at h).out,
    )

pub loop-index-preserved : goal.loop-index-preserved
loop-index-preserved c =
    let window = c.args.window in
    let change = c.args.change.now in
    let spans = c.deref-span-items.result.now in
    let i = c.loop-index.index in
    let s : Span = get_or spans i none in
    let old = c.loop-index.windows in
    let so_far = c.loop-index.invariant in
    let all = c.deref-span-items.ensures.value ∙ c.in_ok-spans.ensures.spans in
    let small : old.time < 2 ^ 64 = omega (arith, c.time-in-loop-index.ensures) in
    let early : change.time ≤ old.time = omega (arith, so_far.time) in
    let now : (side : ℕ) (es : List Entry) → c.args.windows.now.time ≡ latest_time es → old.time ≡ latest_time (es ++ record { side = side; change = change } ∷ []) =
    λ side es at. so_far.time ∙ ap (λ (n : ℕ). max n change.time) at ∙ sym (time-more es (record { side = side; change = change })) in
    elim c.if-time-span.branch [
      | then-time-span+in_ok-put_window_key+in_ok-reserve+in_ok-given w ↦ (
          let new = w.add_to.new.windows in
          let made = w.in_ok-given.given in
          let is_open : nat_lt old.time (s.end + window.grace) ≡ true =
          ap (λ (n : ℕ). nat_lt n (s.end + window.grace)) (sym c.time-in-loop-index.ensures) ∙ lt-ltb c.time-in-loop-index.result (s.end + window.grace) w.if-time-span.true in
          let at : w.as_slice.result.now ≡ under (values change.key) s.start =
          w.as_slice.ensures.value ∙ w.in_ok-put_window_key.ensures ∙ ap (λ (key : List ℕ). under key s.start) (c.items-key.ensures ∙ c.in_ok-spelled.ensures.bytes) in
          let turn : IsTurnOf c.args.aggs.now change (under (values change.key) s.start) i s old.content.map new.content.map made =
          subst (λ (at : List ℕ). IsTurnOf c.args.aggs.now change at i s old.content.map new.content.map made) at w.in_ok-given.ensures.next in
          let time : c.if-time-span.windows.time ≡ old.time = ap (λ (s : Windows). s.time) w.windows-is ∙ w.in_ok-given.ensures.time in
          let out : c.if-time-span.out.items ≡ c.loop-index.out.items ++ made ∷ [] = ap (λ (v : Vec Change Global). v.items) w.out-is
          ∙ w.push_reserved.ensures.items ∙ ap (λ (before : List Change). before ++ made ∷ []) w.reserve.ensures.items in
          record {
            size = ap (λ (s : Windows). s.size) w.windows-is ∙ w.in_ok-given.ensures.size ∙ so_far.size;
            time = time ∙ so_far.time;
            base = λ base h. subst (λ (s : Windows). IsBase base s.content) (sym w.windows-is) (w.in_ok-given.ensures.base base (so_far.base base h));
            out = (
              so_far.out.0 ++ made ∷ [],
              out ∙ ap (λ (before : List Change). before ++ made ∷ []) so_far.out.1 ∙ append_assoc c.args.out.now.items so_far.out.0 (made ∷ []),
            );
            next = λ side es at h.
                let e : Entry = record { side = side; change = change } in
                added-along c.args.aggs.now window new.content.map c.if-time-span.windows.content.map old.time c.if-time-span.windows.time es e (take (i + 1) spans) c.args.out.now.items c.if-time-span.out.items
                c.if-time-span.out.items (ap (λ (s : Windows). s.content.map) w.windows-is) time refl
                (open-step c.args.aggs.now window old.time es e spans i none s c.requires.sound small (now side es at) early all c.loop-index-test.true refl old.content.map new.content.map c.args.out.now.items
                c.loop-index.out.items c.if-time-span.out.items made is_open (so_far.next side es at h) turn out);
          }
          )
      | else-time-span w ↦ (
          let shut : nat_lt old.time (s.end + window.grace) ≡ false =
          ap (λ (n : ℕ). nat_lt n (s.end + window.grace)) (sym c.time-in-loop-index.ensures) ∙ le-ltb c.time-in-loop-index.result (s.end + window.grace) w.if-time-span.false in
          let time : c.if-time-span.windows.time ≡ old.time = ap (λ (s : Windows). s.time) w.windows-is in
          let out : c.if-time-span.out.items ≡ c.loop-index.out.items = ap (λ (v : Vec Change Global). v.items) w.out-is in
          record {
            size = ap (λ (s : Windows). s.size) w.windows-is ∙ so_far.size;
            time = time ∙ so_far.time;
            base = λ base h. subst (λ (s : Windows). IsBase base s.content) (sym w.windows-is) (so_far.base base h);
            out = (so_far.out.0, out ∙ so_far.out.1);
            next = λ side es at h.
                let e : Entry = record { side = side; change = change } in
                added-along c.args.aggs.now window old.content.map c.if-time-span.windows.content.map old.time c.if-time-span.windows.time es e (take (i + 1) spans) c.args.out.now.items c.loop-index.out.items
                c.if-time-span.out.items (ap (λ (s : Windows). s.content.map) w.windows-is) time out
                (shut-step c.args.aggs.now window old.time es e spans i none s c.requires.sound small (now side es at) early all c.loop-index-test.true refl old.content.map c.args.out.now.items
                c.loop-index.out.items shut (so_far.next side es at h));
          }
          )
    ]

pub returns-clause-next : goal.returns-clause-next
returns-clause-next c = λ side es at h.
    let w = c.args.window in
    let e : Entry = record { side = side; change = c.args.change.now } in
    let new = c.loop-index.windows in
    let spans = c.deref-span-items.result.now in
    let added = c.loop-index.invariant.next side es at h in
    let time = c.loop-index.invariant.time in
    let whole : take c.loop-index.index spans ≡ windows_of w c.args.change.now.time = take_all c.loop-index.index spans c.loop-index-test.false ∙ c.deref-span-items.ensures.value ∙ c.in_ok-spans.ensures.spans in
    let now : new.time ≡ latest_time (es ++ e ∷ []) = omega (arith, time, at, time-more es e) in
    let small : new.time < 2 ^ 64 = omega (arith, c.time.ensures, ap (λ (s : Windows). s.time) c.advance_time.ensures, time) in
    let early : c.args.change.now.time ≤ new.time = omega (arith, time) in (
      added.out ∙ ap (λ (spans : List Span). c.args.out.now.items ++ given_of c.args.aggs.now w es e spans) whole,
      now,
      windows-done c.args.aggs.now w new.content.map new.time es e c.requires.sound small now early (subst (HoldsPartly c.args.aggs.now w new.content.map new.time es e) whole added.holds),
    )
