-- The turns so far.
use Rattle.std.proofs.Common.{◌≡◌, ℕ, ◌≤◌, Some, List, ◌++◌, length}
use Rattle.std.specs.Prelude.{slice_index}
use Rattle.std.specs.List.{range_with_len}
use Rattle.lrc_trace.specs.declared.act.Act.{Act}
use Rattle.lrc_exec.specs.Plain.{plain_from}
use Rattle.lrc_exec.specs.Rounds.{Paced, turns}
use Rattle.lrc_exec.specs.RoundsCode.{paced_of}
use Rattle.lrc_exec.specs.States.{IsStateOf}
use Rattle.lrc_exec.proofs.rounds.Pace.round.Given as goal

-- the turns of the nodes below this one are made
pub record HasTurned (node : ℕ) (old now : Paced) (acts after : List Act) : Type 0 where
  pub made : List Act
  pub acts_are : after ≡ acts ++ made
  pub plainly : plain_from old.machine (turns old (range_with_len 0 node)).0 ≡ Some (made, now.machine)
  pub now_is : now ≡ (turns old (range_with_len 0 node)).1
  pub long : length now.left ≡ length old.left
  pub few_arrivals : (k : ℕ) → slice_index now.machine.arrivals k ≤ length after

abbrev pub invariant-loop-node : goal.invariant-loop-node
invariant-loop-node l = record {
  turned : HasTurned l.node (paced_of l.flat l.initial.self) (paced_of l.flat l.self) l.initial.acts.items l.acts.items;
  state : IsStateOf l.flat l.self.state;
}
