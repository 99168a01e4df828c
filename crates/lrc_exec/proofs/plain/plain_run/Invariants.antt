-- The acts so far are those for the order so far.
use Rattle.std.proofs.Common.{◌≡◌, ℕ, ◌≤◌, Some, List, length, take}
use Rattle.std.specs.Prelude.{slice_index}
use Rattle.lrc_trace.specs.declared.act.Act.{Act}
use Rattle.lrc_exec.specs.Plain.{Plain, plain_start, plain_from}
use Rattle.lrc_exec.specs.States.{plain_at, IsStateOf}
use Rattle.lrc_exec.proofs.plain.plain_run.Given as goal

-- the machine has come so far in an order
pub record HasCome (start : Plain) (order : List ℕ) (nodes index : ℕ) (acts : List Act) (machine : Plain) : Type 0 where
  pub acts_are : plain_from start (take index order) ≡ Some (acts, machine)
  pub all_nodes : length machine.threads ≡ nodes
  pub few_arrivals : (k : ℕ) → slice_index machine.arrivals k ≤ index

abbrev pub invariant-loop-node : goal.invariant-loop-node
invariant-loop-node l = record {
  come : HasCome (plain_start l.program l.nodes) l.order l.nodes l.node-index l.acts.items (plain_at l.flat l.state);
  state : IsStateOf l.flat l.state;
}
