-- Whether an order of a program races or gets stuck, and whether a node traps in one, as it is printed.
use Rattle.std.specs.Prelude.{◌≡◌, ◌+◌, ◌||◌, ℕ, Bool, true, false, None, Some, List, ◌++◌, codes, if◌then◌else◌, length}
use Rattle.lrc_program.specs.declared.Program.{Program}
use Rattle.lrc_explain_waits.specs.Traps.{Wording, traps_told}
use Rattle.lrc_trace.specs.declared.act.Act.{Act}
use Rattle.lrc_trace.specs.declared.race.Race.{Race}
use Rattle.lrc_text.specs.RaceText.{first_race_text, races_text}
use Rattle.lrc_exec.specs.Plain.{plain}
use Rattle.lrc_acts_text.specs.ActsText.{acts_text}
use Rattle.lrc_lines.specs.Walks.{act_lines}
use Rattle.lrc_explain_waits.specs.Stand.{stands_of}
use Rattle.lrc_explain_waits.specs.Stuck.{stuck_text}
use Rattle.lrc_consistency_laws.specs.Racing.{HasNoRace}
use Rattle.lrc_orders.specs.Stuck.{GetsStuck}
use Rattle.lrc_orders.specs.Traps.{NeverTraps, NodeTraps}
use Rattle.lrc_orders.specs.Verdict.{NeverStuck}
use Rattle.lrc_explore_causes.specs.Told.{TellsRace}
use Rattle.lrc_explore_text.specs.LastRaces.{AreRacesAt}
use Rattle.lrc_explore_text.specs.Trapped.{trapped_text}

-- a line for each act, with the line of the text that it is of
abbrev pub order_text : Program → (nodes : ℕ) → (lines : List ℕ) → List Act → List ℕ
order_text program nodes lines acts = acts_text acts (act_lines program nodes lines acts)

-- of each node that is unfinished after the acts how it ended and what comes next of it, with the labels of words and of locks and what the
-- text says of traps, and the circles of waiting
abbrev pub ends_text : Wording → Program → (nodes : ℕ) → (lines : List ℕ) → List Act → List ℕ
ends_text wording program nodes lines acts =
    stuck_text wording.labels (traps_told wording.traps program nodes acts) (stands_of program nodes lines None acts)

-- What is printed of stuck orders, and whether one is told:
pub data SaysStuck (wording : Wording) (program : Program) (nodes : ℕ) (lines : List ℕ) : (told : Bool) → (out : List ℕ) → Type 0 where
  -- none gets stuck;
  no_stuck : NeverStuck program nodes → SaysStuck wording program nodes lines false (codes "no order gets stuck\n")
  -- or this one does
  some_stuck : {order : List ℕ} → (gets : GetsStuck program nodes order)
      → SaysStuck wording program nodes lines true
      (codes "some order gets stuck:\n" ++ order_text program nodes lines gets.acts ++ ends_text wording program nodes lines gets.acts)

-- What is printed of orders in which a node traps, and whether one is told:
pub data SaysTrap (wording : Wording) (program : Program) (nodes : ℕ) (lines : List ℕ) : (told : Bool) → (out : List ℕ) → Type 0 where
  -- none does;
  no_trap : NeverTraps program nodes → SaysTrap wording program nodes lines false (codes "no node traps\n")
  -- or in this order one does
  some_trap : {order : List ℕ} → (traps : NodeTraps program nodes order)
      → SaysTrap wording program nodes lines true
      (codes "some order traps:\n" ++ order_text program nodes lines traps.acts ++ trapped_text wording program nodes lines traps.acts)

-- the status where an order that gets stuck is told or not, and one in which a node traps
abbrev pub findings_status : (stuck traps : Bool) → ℕ
findings_status stuck traps = if stuck || traps then 4 else 0

-- What is printed of both, and the status after it
pub data TellsFindings (wording : Wording) (program : Program) (nodes : ℕ) (lines : List ℕ) : (out : List ℕ) → (status : ℕ) → Type 0 where
  tells_findings : {stuck traps : Bool} {first second : List ℕ} → SaysStuck wording program nodes lines stuck first
      → SaysTrap wording program nodes lines traps second
      → TellsFindings wording program nodes lines (first ++ second) (findings_status stuck traps)

-- What is printed of the orders of a program, and the status after it:
pub data TellsOrders (wording : Wording) (program : Program) (nodes : ℕ) (lines : List ℕ) : (out : List ℕ) → (status : ℕ) → Type 0 where
  -- no order races, and what is found besides;
  free : {out : List ℕ} {status : ℕ} → HasNoRace program nodes → TellsFindings wording program nodes lines out status
      → TellsOrders wording program nodes lines (codes "race free in every order\n" ++ out) status
  -- or one races: what its earliest race comes of, whose last act is its first race, with these races
  racy : (order : List ℕ) {run told : List Act} {races : List Race} → plain program nodes order ≡ Some run → (tells : TellsRace program nodes run told)
      → AreRacesAt told (length tells.before + 1) races
      → TellsOrders wording program nodes lines (order_text program nodes lines told ++ races_text races ++ first_race_text (Some (length tells.before + 1))) 3
