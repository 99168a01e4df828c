-- What the code of the rounds does to the plain machine.
use Rattle.std.specs.Prelude.{◌≡◌, ℕ, Option, Some, None, List, ◌++◌}
use Rattle.lrc_trace.specs.declared.act.Act.{Act}
use Rattle.lrc_trace.specs.declared.act.Deed.{Deed}
use Rattle.lrc_exec.specs.declared.rounds.Pace.{Pace}
use Rattle.lrc_exec.specs.declared.spot.Flat.{Flat}
use Rattle.lrc_exec.specs.Plain.{plain_step, plain_from}
use Rattle.lrc_exec.specs.Rounds.{Paced, turn, round}
use Rattle.lrc_exec.specs.States.{plain_at}

-- the code's state with the steps left
abbrev pub paced_of : Flat → Pace → Paced
paced_of flat pace = record { machine = plain_at flat pace.state; left = pace.left.items }

-- what a turn did, if anything
abbrev pub MakesTurn : Paced → Paced → ℕ → Option Deed → Type 0
MakesTurn old new node None = (turn old node ≡ None) × (new ≡ old)
MakesTurn old new node (Some deed) = (turn old node ≡ Some new) × (plain_step old.machine node ≡ Some (deed, new.machine))

-- what a round did, with the acts that it made
pub record MakesRound (nodes : ℕ) (old new : Paced) (acts after : List Act) : Type 0 where
  pub made : List Act
  pub acts_are : after ≡ acts ++ made
  pub plainly : plain_from old.machine (round nodes old).0 ≡ Some (made, new.machine)
  pub new_is : new ≡ (round nodes old).1
