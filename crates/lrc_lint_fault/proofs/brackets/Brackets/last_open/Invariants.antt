-- Of the brackets that are open behind the tokens that are left, as many are closed behind them as stand before the last one that is open.
use Rattle.std.proofs.Common.{◌≡◌, ◌≤◌, ◌+◌, length}
use Rattle.std.specs.Prelude.{slice_get}
use Rattle.lrc_lint_fault.proofs.Opened.{open_at}
use Rattle.lrc_lint_fault.proofs.brackets.Brackets.last_open.Given as goal

abbrev pub invariant-loop-place : goal.invariant-loop-place
invariant-loop-place l = record {
  same : slice_get (open_at l.self l.before l.place) l.closed ≡ slice_get (open_at l.self l.before (length l.before)) 0;
  few : l.closed + l.place ≤ length l.before;
}
