-- Orders after which a program cannot go on.
use Rattle.std.specs.Prelude.{◌≡◌, ℕ, Some, None, IsSome, List}
use Rattle.lrc_program.specs.declared.Program.{Program}
use Rattle.lrc_trace.specs.declared.act.Act.{Act}
use Rattle.lrc_exec.specs.Plain.{Plain, thread_in, plain_step, plain_start, plain_from}

-- no node can make an act
abbrev pub IsAtRest : Plain → Type 0
IsAtRest machine = (node : ℕ) → plain_step machine node ≡ None

-- some node has neither ended nor trapped
abbrev pub IsUnfinished : Plain → Type 0
IsUnfinished machine = (node : ℕ) × IsSome (thread_in machine node)

-- no node can make an act, and some node has neither ended nor trapped
abbrev pub IsStuck : Plain → Type 0
IsStuck machine = IsAtRest machine × IsUnfinished machine

-- after this order the program is stuck
pub record GetsStuck (program : Program) (nodes : ℕ) (order : List ℕ) : Type 0 where
  pub acts : List Act
  pub machine : Plain
  pub led : plain_from (plain_start program nodes) order ≡ Some (acts, machine)
  pub stuck : IsStuck machine
