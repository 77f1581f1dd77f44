use Rattle.std.proofs.Common.{◌+◌, ◌≤◌, length, refl, arith}
use Rattle.std.specs.Prelude.{vec_capacity}
use Rattle.topic_log.specs.declared.shelves.TaskShelf.{TaskShelf}
use Rattle.topic_log.specs.Taking.{KeepsLogRoom}
use Rattle.topic_log.specs.Views.{task_view}
use Rattle.topic_log.proofs.EachPlace.{IfSome-written, IfSome-past, map-written}
use Rattle.topic_log.proofs.KeptRoom.{zip-same, zip-written}
use Rattle.topic_log.proofs.ViewLemmas.{task_view-same}
use Rattle.topic_log.proofs.prepared.reserve_logs.Goals as goal

pub returns-in_err-reserve-clause-views : goal.returns-in_err-reserve-clause-views
returns-in_err-reserve-clause-views c =
    let k = c.index_mut-own.result.now in
    let changed : TaskShelf = record { done = k.done; newest = k.newest; logs = c.reserve.new.self } in
    map-written task_view c.args.tasks.now.items c.args.writer k changed (omega (arith, c.args.tasks.now.ok.0)) c.index_mut-own.ensures.value
    (task_view-same changed k refl refl c.reserve.ensures.items)

pub returns-in_ok-reserve-clause-views : goal.returns-in_ok-reserve-clause-views
returns-in_ok-reserve-clause-views c =
    let k = c.index_mut-own.result.now in
    let changed : TaskShelf = record { done = k.done; newest = k.newest; logs = c.reserve.new.self } in
    map-written task_view c.args.tasks.now.items c.args.writer k changed (omega (arith, c.args.tasks.now.ok.0)) c.index_mut-own.ensures.value
    (task_view-same changed k refl refl c.reserve.ensures.items)

pub returns-in_ok-reserve-clause-room : goal.returns-in_ok-reserve-clause-room
returns-in_ok-reserve-clause-room c =
    let k = c.index_mut-own.result.now in
    let changed : TaskShelf = record { done = k.done; newest = k.newest; logs = c.reserve.new.self } in
    IfSome-written (λ k. length k.logs.items + c.args.more ≤ vec_capacity k.logs) c.args.tasks.now.items c.args.writer k changed (omega (arith, c.args.tasks.now.ok.0)) c.index_mut-own.ensures.value
    (omega (arith, c.in_ok-reserve.ensures.ok, c.reserve.new.self.ok.0))

pub returns-else-writer-len-clause-room : goal.returns-else-writer-len-clause-room
returns-else-writer-len-clause-room c =
    IfSome-past (λ k. length k.logs.items + c.args.more ≤ vec_capacity k.logs) c.args.tasks.now.items c.args.writer (omega (arith, c.args.tasks.now.ok.0))

pub returns-in_err-reserve-clause-kept : goal.returns-in_err-reserve-clause-kept
returns-in_err-reserve-clause-kept c =
    let k = c.index_mut-own.result.now in
    let changed : TaskShelf = record { done = k.done; newest = k.newest; logs = c.reserve.new.self } in
    zip-written KeepsLogRoom (λ x y z h m. omega (arith, h, m)) c.args.tasks.now.items c.args.tasks.now.items c.args.writer k changed (omega (arith, c.args.tasks.now.ok.0)) c.index_mut-own.ensures.value
    c.reserve.ensures.capacity (zip-same KeepsLogRoom (λ k. omega arith) c.args.tasks.now.items)

pub returns-in_ok-reserve-clause-kept : goal.returns-in_ok-reserve-clause-kept
returns-in_ok-reserve-clause-kept c =
    let k = c.index_mut-own.result.now in
    let changed : TaskShelf = record { done = k.done; newest = k.newest; logs = c.reserve.new.self } in
    zip-written KeepsLogRoom (λ x y z h m. omega (arith, h, m)) c.args.tasks.now.items c.args.tasks.now.items c.args.writer k changed (omega (arith, c.args.tasks.now.ok.0)) c.index_mut-own.ensures.value
    c.reserve.ensures.capacity (zip-same KeepsLogRoom (λ k. omega arith) c.args.tasks.now.items)

pub returns-else-writer-len-clause-kept : goal.returns-else-writer-len-clause-kept
returns-else-writer-len-clause-kept c = zip-same KeepsLogRoom (λ k. omega arith) c.args.tasks.now.items
