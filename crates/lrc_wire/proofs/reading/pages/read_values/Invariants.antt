use Rattle.std.proofs.Common.{◌≡◌, ◌-◌, length, take}
use Rattle.std.specs.Int.{w64}
use Rattle.lrc_wire.specs.Reading.{elements_at, number_at, values_at}
use Rattle.lrc_wire.proofs.Elements.{with_front}
use Rattle.lrc_wire.proofs.reading.pages.read_values.Given as goal

abbrev pub invariant-loop-offset : goal.invariant-loop-offset
invariant-loop-offset l = record {
  long : length l.page ≡ l.words;
  read : with_front (take l.offset l.page)
      (elements_at (λ _ rest. number_at w64 rest) (λ state _. state) (l.words - l.offset) (tt {0}) l.bytes.now) ≡ values_at l.words l.fn.bytes.now;
}
