use Rattle.std.proofs.Common.{◌≡◌, ℕ, ◌+◌, ◌-◌, ◌<◌, ◌++◌, List, length}
use Rattle.std.specs.Int.{w64}
use Rattle.std.specs.Option.{ForSome}
use Rattle.lrc_page.specs.Changes.{last_change}
use Rattle.lrc_wire.specs.Runs.{changes_in_run}
use Rattle.lrc_wire.specs.Reading.{elements_at, number_at, values_at}
use Rattle.lrc_wire.proofs.Elements.{with_front}
use Rattle.lrc_wire.proofs.reading.changes.read_run_values.Given as goal

abbrev pub invariant-loop-offset : goal.invariant-loop-offset
invariant-loop-offset l = record {
  values : List ℕ;
  long : length values ≡ l.offset - l.first;
  put : l.changes ≡ l.fn.changes ++ changes_in_run (record { first = l.first; values = values });
  last : ForSome (last_change l.changes) (λ c. c.offset < l.offset);
  read : with_front values (elements_at (λ _ rest. number_at w64 rest) (λ state _. state) (l.more + 1 - (l.offset - l.first)) (tt {0}) l.bytes.now) ≡ values_at
      (l.more + 1) l.fn.bytes.now;
}
