-- Events along the order that a search of every order tells.
use Rattle.std.specs.Prelude.{◌≡◌, ℕ, Bool, true, false, List, [], Option, None, Some, is_some}
use Rattle.lrc_program.specs.declared.Program.{Program}
use Rattle.lrc_trace.specs.declared.act.Act.{Act}
use Rattle.lrc_page.specs.declared.size.Size.TheVariants.{Words64}
use Rattle.lrc_exec.specs.Plain.{plain}
use Rattle.lrc_consistency_laws.specs.Racing.{HasNoRace}
use Rattle.lrc_orders.specs.Verdict.{EndsInRace, TellsStuck, TellsTrap}
use Rattle.lrc_orders_ends.specs.Ends.{TellsEnd}
use Rattle.lrc_protocol.specs.declared.event.Event.{Event}
use Rattle.lrc_protocol.specs.Node.{OptionsRecord}
use Rattle.lrc_events.specs.Writing.{events_text}
use Rattle.lrc_explore_causes.specs.Told.{TellsRace}
use Rattle.lrc_explore_text.specs.Ends.{ends_status}
use Rattle.lrc_explore_text.specs.Orders.{findings_status}
use Rattle.lrc_explore_text.specs.OutcomeRun.{HasFewerOutcomes, IsNumberedRun}
use Rattle.lrc_along.specs.Along.{LeadsAlong}
use Rattle.lrc_explore_events_text.specs.declared.told.Line.{Line}
use Rattle.lrc_explore_events_text.specs.declared.told.Line.TheVariants.{End, First, Stuck, Trap}

-- the options of a run of which none is named: a node may make 1,000,000 steps and never asks for a collection, messages are numbered from 0,
-- and a page has 64 words
abbrev pub bare_options : OptionsRecord
bare_options = record { steps = 1000000; collect = 0; first = 0; size = Words64 }

-- the text has a line for each of some events, which lead the nodes along these acts
pub record ShowsEvents (program : Program) (nodes : ℕ) (acts : List Act) (out : List ℕ) : Type 0 where
  pub events : List Event
  pub leads : LeadsAlong program nodes bare_options acts events
  pub is : out ≡ events_text events

-- so it does of the acts that the plain machine makes in an order; it is empty where there is none
abbrev pub ShowsOrder : Program → (nodes : ℕ) → Option (List ℕ) → List ℕ → Type 0
ShowsOrder program nodes None out = out ≡ []
ShowsOrder program nodes (Some order) out = (acts : List Act) × (plain program nodes order ≡ Some acts) × ShowsEvents program nodes acts out

-- the order of the line that is asked for, of those that get stuck, in which a node traps, and that can no longer end; the first line that has
-- one, where none is asked for
abbrev pub chosen : Line → (stuck trap end : Option (List ℕ)) → Option (List ℕ)
chosen First (Some order) trap end = Some order
chosen First None (Some order) end = Some order
chosen First None None end = end
chosen Stuck stuck trap end = stuck
chosen Trap stuck trap end = trap
chosen End stuck trap end = end

-- of ends it is told where they are asked for
abbrev pub TellsEndIf : Program → (nodes : ℕ) → (ends : Bool) → Option (List ℕ) → Type 0
TellsEndIf program nodes true end = TellsEnd program nodes end
TellsEndIf program nodes false end = end ≡ None

-- what is shown of what was found besides races, and the status
pub record ShowsFound (program : Program) (nodes : ℕ) (ends : Bool) (line : Line) (out : List ℕ) (status : ℕ) : Type 0 where
  pub stuck : Option (List ℕ)
  pub trap : Option (List ℕ)
  pub end : Option (List ℕ)
  pub tells_stuck : TellsStuck program nodes stuck
  pub tells_trap : TellsTrap program nodes trap
  pub tells_end : TellsEndIf program nodes ends end
  pub shows : ShowsOrder program nodes (chosen line stuck trap end) out
  pub ended : status ≡ ends_status (findings_status (is_some stuck) (is_some trap)) (is_some end)

-- what is told of a race is shown where no other line is asked for
pub record ShowsCauses (program : Program) (nodes : ℕ) (out : List ℕ) : Type 0 where
  pub order : List ℕ
  pub run : List Act
  pub led : plain program nodes order ≡ Some run
  pub told : List Act
  pub tells : TellsRace program nodes run told
  pub shows : ShowsEvents program nodes told out

abbrev pub ShowsRace : Program → (nodes : ℕ) → Line → List ℕ → Type 0
ShowsRace program nodes First out = ShowsCauses program nodes out
ShowsRace program nodes _ out = out ≡ []

-- What is shown of the orders of a program, and the status, where races are looked for or not, and ends are asked for or not:
pub data ShowsLine (program : Program) (nodes : ℕ) (races ends : Bool) (line : Line) (out : List ℕ) : (status : ℕ) → Type 0 where
  -- no order races, if that is looked for, and what is found besides;
  free : {status : ℕ} → (races ≡ true → HasNoRace program nodes) → ShowsFound program nodes ends line out status
      → ShowsLine program nodes races ends line out status
  -- or that is looked for, and this one races
  racy : (order : List ℕ) → races ≡ true → EndsInRace program nodes order → ShowsRace program nodes line out → ShowsLine program nodes races ends line out 3

-- of a run that has the outcome of this number, where there are as many
pub record ShowsNumberedRun (program : Program) (nodes number : ℕ) (out : List ℕ) : Type 0 where
  pub acts : List Act
  pub is : IsNumberedRun program nodes number acts
  pub shows : ShowsEvents program nodes acts out

abbrev pub ShowsRunOfNumber : Program → (nodes number : ℕ) → Option (List ℕ) → Type 0
ShowsRunOfNumber program nodes number (Some out) = ShowsNumberedRun program nodes number out
ShowsRunOfNumber program nodes number None = HasFewerOutcomes program nodes number
