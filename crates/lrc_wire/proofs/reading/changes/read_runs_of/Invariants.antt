use Rattle.std.proofs.Common.{◌≡◌, ◌-◌, ◌≤◌, List, Some, None}
use Rattle.std.specs.Prelude.{IsSomeAnd}
use Rattle.std.specs.List.{flat_map}
use Rattle.std.specs.Option.{ForSome}
use Rattle.lrc_page.specs.Changes.{last_change}
use Rattle.lrc_wire.specs.Runs.{Run, changes_in_run}
use Rattle.lrc_wire.specs.Reading.{elements_at, next_run_at, last_of}
use Rattle.lrc_wire.proofs.Elements.{with_front}
use Rattle.lrc_wire.proofs.reading.changes.read_runs_of.Given as goal

abbrev pub invariant-loop : goal.invariant-loop
invariant-loop l = record {
  runs : List Run;
  put : l.changes ≡ flat_map changes_in_run runs;
  last : ForSome (last_change l.changes) (λ c. IsSomeAnd l.before (λ last. c.offset ≤ last));
  read : with_front runs (elements_at next_run_at (λ _ run. Some (last_of run)) (l.count - l.counter) l.before l.bytes.now) ≡ elements_at next_run_at
      (λ _ run. Some (last_of run)) l.count None l.fn.bytes.now;
}
