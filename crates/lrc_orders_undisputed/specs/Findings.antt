-- What is looked for among the states of a program, and what is still to come from a state.
use Rattle.std.specs.Prelude.{◌≡◌, ◌≤◌, ◌⊎◌, ℕ, List, [], ◌∷◌, ◌++◌, Some, length}
use Rattle.lrc_program.specs.declared.Program.{Program}
use Rattle.lrc_trace.specs.declared.act.Act.{Act}
use Rattle.lrc_trace.specs.declared.act.Cause.{Cause}
use Rattle.lrc_trace.specs.declared.act.Deed.TheVariants.{Trap}
use Rattle.lrc_trace.specs.Run.{act_of}
use Rattle.lrc_exec.specs.Plain.{Plain, plain_from, plain_start}
use Rattle.lrc_orders.specs.Meeting.{Meet}
use Rattle.lrc_orders.specs.Notes.{notes_of}
use Rattle.lrc_orders.specs.Stuck.{IsAtRest, IsStuck}

-- what is looked for: two nodes that meet, a stuck state, a node that has trapped, a state from which no end is reached, an outcome
pub data Finding : Type 0 where
  meeting : Finding
  stuck : Finding
  trap : (node : ℕ) → Cause → Finding
  no_end : Finding
  outcome : (nodes : ℕ) → (notes : List Act) → Finding

-- some order leads from the state to one at which no node can make an act
pub record CanEnd (machine : Plain) : Type 0 where
  pub order : List ℕ
  pub acts : List Act
  pub final : Plain
  pub led : plain_from machine order ≡ Some (acts, final)
  pub still : IsAtRest final

-- the act is one of the acts
abbrev pub IsMade : Act → List Act → Type 0
IsMade act [] = ⊥
IsMade act (first ∷ acts) = (first ≡ act) ⊎ IsMade act acts

-- the state shows it, and the acts that led there
abbrev pub Shows : Finding → List Act → Plain → Type 0
Shows meeting acts machine = (p : ℕ) × (q : ℕ) × Meet machine p q
Shows stuck acts machine = IsStuck machine
Shows (trap node cause) acts machine = IsMade (act_of node (Trap cause)) acts
Shows no_end acts machine = ¬ CanEnd machine
Shows (outcome nodes notes) acts machine = IsAtRest machine × (notes_of nodes acts ≡ notes)

-- after what was done, it is to come from the state by at most so many acts more
pub record Comes (past : List Act) (machine : Plain) (most : ℕ) (finding : Finding) : Type 0 where
  pub order : List ℕ
  pub acts : List Act
  pub final : Plain
  pub led : plain_from machine order ≡ Some (acts, final)
  pub short : length order ≤ most
  pub shows : Shows finding (past ++ acts) final

-- all that is to come from a state after what was done there is to come from another, by no more acts
abbrev pub StandsFor : Finding → (past : List Act) → (machine : Plain) → (other : List Act) → (there : Plain) → Type 0
StandsFor finding past machine other there = (most : ℕ) → Comes past machine most finding → Comes other there most finding

-- some order of the program shows it
pub record SomeOrderShows (program : Program) (nodes : ℕ) (finding : Finding) : Type 0 where
  pub order : List ℕ
  pub acts : List Act
  pub machine : Plain
  pub led : plain_from (plain_start program nodes) order ≡ Some (acts, machine)
  pub shows : Shows finding acts machine
