use Rattle.std.proofs.Common.{◌≡◌, drop, map}
use Rattle.std.specs.List.{list_any}
use Rattle.schedule_text.specs.Words.{is_empty}
use Rattle.schedule_text.proofs.words.has_empty.Given as goal

-- the pieces so far have a byte
abbrev pub invariant-loop-piece : goal.invariant-loop-piece
invariant-loop-piece l = list_any is_empty (map (λ piece. piece.now) l.pieces) ≡ list_any is_empty (map (λ piece. piece.now) (drop l.piece-index l.pieces))
