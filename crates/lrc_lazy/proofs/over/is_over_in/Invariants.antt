-- The acts so far have led the machine where it stands.
use Rattle.std.proofs.Common.{◌≤◌, ℕ, take}
use Rattle.std.specs.Prelude.{slice_index}
use Rattle.lrc_exec.specs.States.{plain_at, IsStateOf}
use Rattle.lrc_lazy.proofs.Following.{StandsAt}
use Rattle.lrc_lazy.proofs.over.is_over_in.Given as goal

abbrev pub invariant-loop-act : goal.invariant-loop-act
invariant-loop-act l = record {
  valid : IsStateOf l.flat l.state;
  stands : StandsAt l.program l.flat.nodes (take l.act-index l.acts) (plain_at l.flat l.state);
  counted : (node : ℕ) → slice_index l.state.arrivals.items node ≤ l.act-index;
}
