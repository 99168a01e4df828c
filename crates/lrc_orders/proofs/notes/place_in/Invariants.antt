-- The notes so far are of nodes up to this one.
use Rattle.std.proofs.Common.{◌≡◌, ℕ, ◌<◌, false, get_or}
use Rattle.std.specs.Prelude.{nat_lt}
use Rattle.lrc_trace.specs.declared.act.Act.{Act}
use Rattle.lrc_orders.proofs.notes.place_in.Given as goal

abbrev pub invariant-loop-place : goal.invariant-loop-place
invariant-loop-place l = (k : ℕ) (d : Act) → k < l.place → nat_lt l.node (get_or l.notes k d).node ≡ false
