use Rattle.std.proofs.Common.{◌≡◌, ◌-◌, Some, None}
use Rattle.lrc_page.specs.declared.changes.Change.{Change}
use Rattle.lrc_page.specs.Changes.{last_change}
use Rattle.lrc_wire.specs.Reading.{elements_at, next_change_at}
use Rattle.lrc_wire.proofs.Elements.{with_front}
use Rattle.lrc_wire.proofs.reading.changes.read_changes_of.Given as goal

abbrev pub invariant-loop : goal.invariant-loop
invariant-loop l = record {
  last : (change : Change) → last_change l.changes ≡ Some change → l.before ≡ Some change.offset;
  read : with_front l.changes
      (elements_at next_change_at (λ _ change. Some change.offset) (l.count - l.counter) l.before l.bytes.now) ≡ elements_at next_change_at
      (λ _ change. Some change.offset) l.count None l.fn.bytes.now;
}
