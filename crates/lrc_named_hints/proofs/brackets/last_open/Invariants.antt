-- Of the brackets that are open behind the tokens that are left, as many are closed behind them as stand before the last one that is open.
use Rattle.std.proofs.Common.{◌≡◌, ◌≤◌, ◌+◌, length}
use Rattle.std.specs.Prelude.{slice_get}
use Rattle.lrc_named_hints.proofs.Opened.{open_at}
use Rattle.lrc_named_hints.proofs.brackets.last_open.Given as goal

abbrev pub invariant-loop-place : goal.invariant-loop-place
invariant-loop-place l = record {
  same : slice_get (open_at l.brackets l.before l.place) l.closed ≡ slice_get (open_at l.brackets l.before (length l.before)) 0;
  few : l.closed + l.place ≤ length l.before;
}
