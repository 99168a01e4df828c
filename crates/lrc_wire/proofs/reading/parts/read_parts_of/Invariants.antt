use Rattle.std.proofs.Common.{◌≡◌, ◌-◌, Some, None}
use Rattle.lrc_wire.specs.Reading.{elements_at, next_part_at}
use Rattle.lrc_wire.proofs.Elements.{with_front}
use Rattle.lrc_wire.proofs.reading.parts.read_parts_of.Given as goal

abbrev pub invariant-loop : goal.invariant-loop
invariant-loop l = with_front l.parts.items
    (elements_at (next_part_at l.version) (λ _ part. Some part.index) (l.count - l.counter) l.before l.bytes.now) ≡ elements_at (next_part_at l.version)
    (λ _ part. Some part.index) l.count None l.fn.bytes.now
