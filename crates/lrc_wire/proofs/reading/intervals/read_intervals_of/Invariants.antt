use Rattle.std.proofs.Common.{◌≡◌, ◌-◌, Some, None}
use Rattle.lrc_wire.specs.Reading.{elements_at, next_interval_at, known_by}
use Rattle.lrc_wire.proofs.Elements.{with_front}
use Rattle.lrc_wire.proofs.reading.intervals.read_intervals_of.Given as goal

abbrev pub invariant-loop : goal.invariant-loop
invariant-loop l = with_front l.intervals.items
    (elements_at (next_interval_at l.version l.nodes) (λ _ interval. Some (known_by interval)) (l.count - l.counter) l.before l.rest) ≡ elements_at
    (next_interval_at l.version l.nodes) (λ _ interval. Some (known_by interval)) l.count None l.fn.bytes.now
