use Rattle.std.proofs.Common.{◌≡◌, ◌++◌, ◌-◌, map, take, drop}
use Rattle.std.specs.Prelude.{All}
use Rattle.std.specs.Int.{w64}
use Rattle.lrc_wire.specs.Ranges.{HasBits}
use Rattle.lrc_wire.specs.Spelling.{numbers}
use Rattle.lrc_wire.proofs.writing.runs.put_run_values.Given as goal

abbrev pub invariant-loop-place : goal.invariant-loop-place
invariant-loop-place l = record {
  written : l.out.items ≡ l.fn.out.items ++ numbers w64 (map (λ c. c.value) (take (l.place - l.start) (drop l.start l.changes)));
  bits : All (λ c. HasBits 64 c.value) (take l.place l.changes);
}
