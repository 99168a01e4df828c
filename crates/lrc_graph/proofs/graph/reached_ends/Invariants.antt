-- Of the places so far those at which the table says yes are reached.
use Rattle.std.proofs.Common.{◌≡◌, ℕ, ◌<◌, length, get_or, true, false}
use Rattle.std.specs.Prelude.{◌↔◌}
use Rattle.lrc_graph.specs.Reached.{AreListed, Has}
use Rattle.lrc_graph.proofs.graph.reached_ends.Given as goal

abbrev pub invariant-loop-place : goal.invariant-loop-place
invariant-loop-place l = record {
  listed : AreListed l.reached;
  count : length l.reached.is.items ≡ length l.ends;
  exact : (place : ℕ) → (Has l.reached place ↔ ((place < l.place) × (get_or l.ends place false ≡ true)));
}
