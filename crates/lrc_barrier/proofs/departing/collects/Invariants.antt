use Rattle.std.proofs.Common.{ℕ, ◌≡◌, ◌<◌, false, Option, get_or}
use Rattle.std.specs.Option.{unwrap_or}
use Rattle.lrc_barrier.specs.declared.arrival.Arrival.{Arrival}
use Rattle.lrc_barrier.proofs.departing.collects.Given as goal

abbrev pub invariant-loop-place : goal.invariant-loop-place
invariant-loop-place l =
    (k : ℕ) (d : Option Arrival) → k < l.place-index → (unwrap_or (get_or l.kept k d) l.last).ask ≡ false
