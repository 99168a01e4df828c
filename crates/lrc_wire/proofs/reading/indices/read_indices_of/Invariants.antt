use Rattle.std.proofs.Common.{◌≡◌, ◌-◌, Some, None}
use Rattle.lrc_wire.specs.Reading.{elements_at, next_index_at}
use Rattle.lrc_wire.proofs.Elements.{with_front}
use Rattle.lrc_wire.proofs.reading.indices.read_indices_of.Given as goal

abbrev pub invariant-loop : goal.invariant-loop
invariant-loop l = with_front l.indices.items
    (elements_at next_index_at (λ _ index. Some index) (l.count - l.counter) l.before l.bytes.now) ≡ elements_at next_index_at
    (λ _ index. Some index) l.count None l.fn.bytes.now
