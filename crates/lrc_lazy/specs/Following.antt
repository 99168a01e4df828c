-- Acts of a lazy run that are followed on the plain machine, each read with the value that it gave.
use Rattle.std.specs.Prelude.{◌≡◌, ◌≤◌, ◌<◌, ◌^◌, ◌-◌, ℕ, List, Some, length, slice_index, slice_set}
use Rattle.lrc_program.specs.declared.Program.{Program}
use Rattle.lrc_trace.specs.declared.act.Act.{Act}
use Rattle.lrc_trace.specs.declared.act.Deed.{Deed}
use Rattle.lrc_trace.specs.declared.act.Deed.TheVariants.{Read}
use Rattle.lrc_exec.specs.declared.spot.Flat.{Flat}
use Rattle.lrc_exec.specs.Plain.{Plain, plain_start, plain_step}
use Rattle.lrc_exec.specs.Spots.{IsFlat}
use Rattle.lrc_exec.specs.declared.state.State.{State}
use Rattle.lrc_exec.specs.States.{plain_at, machine_begun, IsStateOf}
use Rattle.lrc_lazy.specs.Standing.{with_memory}

-- the flat code is the program's, for so many nodes, and begins at this place
pub record IsFlatOf (program : Program) (nodes : ℕ) (flat : Flat) (start : ℕ) : Type 0 where
  pub sound : IsFlat flat
  pub placed : start ≤ length flat.code.now
  pub words : flat.words ≡ program.words
  pub locks : flat.locks ≡ program.locks
  pub count : flat.nodes ≡ nodes
  pub begun : machine_begun flat start ≡ plain_start program nodes

-- the words, where a read finds the value that it gives
abbrev pub poked : Deed → List ℕ → List ℕ
poked (Read w v) memory = slice_set memory w v
poked _ memory = memory

-- the machine, where a read finds the value that it gives
abbrev pub machine_for : Flat → State → Deed → Plain
machine_for flat state deed = with_memory (plain_at flat state) (poked deed state.memory.items)

-- the act may come next in the state
pub record MayFollow (flat : Flat) (state : State) (act : Act) : Type 0 where
  pub valid : IsStateOf flat state
  pub within : (w v : ℕ) → act.deed ≡ Read w v → w < flat.words
  pub after : Plain
  pub makes : plain_step (machine_for flat state act.deed) act.node ≡ Some (act.deed, after)
  pub room : slice_index state.arrivals.items act.node < 2 ^ 64 - 1

-- it came
pub record IsFollowed (flat : Flat) (before : State) (act : Act) (after : State) : Type 0 where
  pub valid : IsStateOf flat after
  pub made : plain_step (machine_for flat before act.deed) act.node ≡ Some (act.deed, plain_at flat after)
