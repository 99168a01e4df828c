-- What is printed of every order of a program, and the status after it.
use Rattle.std.specs.Prelude.{◌≡◌, ℕ, Bool, true, false, List, not}
use Rattle.lrc_program.specs.declared.Program.{Program}
use Rattle.lrc_explain_waits.specs.Traps.{Wording}
use Rattle.lrc_explore.specs.Answers.{MetTooMany}
use Rattle.lrc_explore_text.specs.Met.{TellsMet}
use Rattle.lrc_explore_text.specs.Orders.{TellsOrders}
use Rattle.lrc_explore_text.specs.Outcomes.{TellsOutcomes}

-- whether an order races or gets stuck, and whether a node traps in one; where outcomes are asked for, the outcomes
pub data Explores (wording : Wording) (program : Program) (nodes : ℕ) (lines : List ℕ) : (outcomes : Bool) → (out : List ℕ) → (status : ℕ) → Type 0 where
  tells_orders : {out : List ℕ} {status : ℕ} → TellsOrders wording program nodes lines out status → Explores wording program nodes lines false out status
  tells_outcomes : {out : List ℕ} → TellsOutcomes program nodes out → Explores wording program nodes lines true out 0

-- the search met more states than it may, or looked at more acts; where outcomes are asked for, its states are told apart by their notes too
abbrev pub MeetsTooMany : Program → (nodes most : ℕ) → (outcomes : Bool) → Type 0
MeetsTooMany program nodes most outcomes = MetTooMany program nodes most outcomes (not outcomes)

-- what a search met that was cut short is told, where no outcomes are asked for
abbrev pub MeetsMany : Wording → Program → (nodes : ℕ) → (lines : List ℕ) → (most : ℕ) → (outcomes : Bool) → List ℕ → Type 0
MeetsMany wording program nodes lines most outcomes out = (outcomes ≡ false) × TellsMet wording program nodes lines most true out
