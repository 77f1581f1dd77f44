use Rattle.std.proofs.Common.{◌≡◌, ◌+◌, ◌≤◌, ◌⊎◌, [], length, inl, inr, arith}
use Rattle.std.specs.VecDeque.{deque_capacity}
use Rattle.std.proofs.lemmas.List.{nil_from_length}
use Rattle.std.proofs.lemmas.Bool.Decides.{nat_tests}
use Rattle.topic_log.proofs.KeptRoom.{zip-same, zip-written}
use Rattle.topic_log.proofs.EachPlace.{IfSome-written, IfSome-past, map-written}
use Rattle.topic_log.proofs.prepared.reserve_waiting.Goals as goal

pub returns-in_err-reserve-clause-items : goal.returns-in_err-reserve-clause-items
returns-in_err-reserve-clause-items c =
    map-written (λ w. w.items) c.args.waiting.now.items c.args.writer c.index_mut-own.result.now c.reserve.new.self (omega (arith, c.args.waiting.now.ok.0)) c.index_mut-own.ensures.value
    c.reserve.ensures.items

pub returns-in_ok-reserve-clause-items : goal.returns-in_ok-reserve-clause-items
returns-in_ok-reserve-clause-items c =
    map-written (λ w. w.items) c.args.waiting.now.items c.args.writer c.index_mut-own.result.now c.reserve.new.self (omega (arith, c.args.waiting.now.ok.0)) c.index_mut-own.ensures.value
    c.reserve.ensures.items

pub returns-in_ok-reserve-clause-room : goal.returns-in_ok-reserve-clause-room
returns-in_ok-reserve-clause-room c =
    IfSome-written (λ w. (w.items ≡ []) ⊎ (length w.items + c.args.more ≤ deque_capacity w)) c.args.waiting.now.items c.args.writer c.index_mut-own.result.now c.reserve.new.self
    (omega (arith, c.args.waiting.now.ok.0)) c.index_mut-own.ensures.value
    (inr (omega (arith, c.in_ok-reserve.ensures.ok, c.reserve.new.self.ok.0)))

pub returns-else-not-is_empty-clause-room : goal.returns-else-not-is_empty-clause-room
returns-else-not-is_empty-clause-room c =
    IfSome-written (λ w. (w.items ≡ []) ⊎ (length w.items + c.args.more ≤ deque_capacity w)) c.args.waiting.now.items c.args.writer c.index_mut-own.result.now c.index_mut-own.result.now
    (omega (arith, c.args.waiting.now.ok.0)) c.index_mut-own.ensures.value
    (inl (nil_from_length c.index_mut-own.result.now.items (let h = c.if-not-is_empty in let e = c.is_empty.ensures in let k = c.index_mut-own.result.now.ok.0 in grind (arith, nat_tests))))

pub returns-else-writer-len-clause-room : goal.returns-else-writer-len-clause-room
returns-else-writer-len-clause-room c =
    IfSome-past (λ w. (w.items ≡ []) ⊎ (length w.items + c.args.more ≤ deque_capacity w)) c.args.waiting.now.items c.args.writer (omega (arith, c.args.waiting.now.ok.0))

pub returns-in_err-reserve-clause-kept : goal.returns-in_err-reserve-clause-kept
returns-in_err-reserve-clause-kept c =
    zip-written (λ w v. deque_capacity w ≤ deque_capacity v) (λ x y z h m. omega (arith, h, m)) c.args.waiting.now.items c.args.waiting.now.items c.args.writer c.index_mut-own.result.now c.reserve.new.self
    (omega (arith, c.args.waiting.now.ok.0)) c.index_mut-own.ensures.value c.reserve.ensures.capacity (zip-same (λ w v. deque_capacity w ≤ deque_capacity v) (λ w. omega arith) c.args.waiting.now.items)

pub returns-in_ok-reserve-clause-kept : goal.returns-in_ok-reserve-clause-kept
returns-in_ok-reserve-clause-kept c =
    zip-written (λ w v. deque_capacity w ≤ deque_capacity v) (λ x y z h m. omega (arith, h, m)) c.args.waiting.now.items c.args.waiting.now.items c.args.writer c.index_mut-own.result.now c.reserve.new.self
    (omega (arith, c.args.waiting.now.ok.0)) c.index_mut-own.ensures.value c.reserve.ensures.capacity (zip-same (λ w v. deque_capacity w ≤ deque_capacity v) (λ w. omega arith) c.args.waiting.now.items)

pub returns-else-not-is_empty-clause-kept : goal.returns-else-not-is_empty-clause-kept
returns-else-not-is_empty-clause-kept c =
    zip-written (λ w v. deque_capacity w ≤ deque_capacity v) (λ x y z h m. omega (arith, h, m)) c.args.waiting.now.items c.args.waiting.now.items c.args.writer c.index_mut-own.result.now c.index_mut-own.result.now
    (omega (arith, c.args.waiting.now.ok.0)) c.index_mut-own.ensures.value (omega arith) (zip-same (λ w v. deque_capacity w ≤ deque_capacity v) (λ w. omega arith) c.args.waiting.now.items)

pub returns-else-writer-len-clause-kept : goal.returns-else-writer-len-clause-kept
returns-else-writer-len-clause-kept c = zip-same (λ w v. deque_capacity w ≤ deque_capacity v) (λ w. omega arith) c.args.waiting.now.items
