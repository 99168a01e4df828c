-- What is kept of the lines of a trace whose pairs of locations are told, and what is told of them.
use Rattle.std.specs.Prelude.{◌≡◌, ℕ, ◌==◌, if◌then◌else◌, List, [], ◌∷◌, ◌++◌, Option, length}
use Rattle.lrc_races_trace.specs.declared.event.Event.{Event}
use Rattle.lrc_races_trace.specs.declared.event.Pair.{Pair}
use Rattle.lrc_races_trace.specs.declared.fault.Fault.{Fault}
use Rattle.lrc_races_trace.specs.Formed.{IsFirstFault}
use Rattle.lrc_races_detector.specs.Finding.{HasLooked}
use Rattle.lrc_races_text.specs.declared.asked.Layout.{Layout}
use Rattle.lrc_races_text.specs.declared.asked.Sought.{Sought}
use Rattle.lrc_races_text.specs.declared.form.Form.{Form}
use Rattle.lrc_races_text.specs.Layouts.{end_lines}
use Rattle.lrc_races_text.specs.Naming.{AreEvents, IsNaming, IsTrace, Naming}
use Rattle.lrc_races_text.specs.Says.{Said, Say}
use Rattle.lrc_races_text.specs.Tables.{naming_of}
use Rattle.lrc_races_locations.specs.declared.located.Located.{Located}
use Rattle.lrc_races_locations.specs.Located.{AreShown}
use Rattle.lrc_races_locations.specs.Layouts.{location_lines}
use Rattle.lrc_races_locations.specs.Taking.{HasLocated}

-- this is kept of events, whatever follows
pub record HasKept (sought : Sought) (said : List Said) (located : Located) : Type 0 where
  pub naming : IsNaming said (naming_of located.names)
  pub events : List Event
  pub are : AreEvents (naming_of located.names) said events
  pub taken : (more : List Event) → HasLocated sought (events ++ more) (length events) located.detector
  pub looked : (more : List Event) → HasLooked (events ++ more) (length events) located.finder

-- one event more is kept
abbrev pub HasLocatedOne : Said → Located → Located → Type 0
HasLocatedOne one before after = (sought : Sought) (said : List Said) → HasKept sought said before → HasKept sought (said ++ one ∷ []) after

-- the lines are good, and this is kept of what they say
pub record IsLocated (sought : Sought) (form : Form) (lines : List (List ℕ)) (located : Located) : Type 0 where
  pub said : List Said
  pub says : Say form 1 lines said
  pub kept : HasKept sought said located

-- All that is told of what is said: a line for each pair of locations that race, of all pairs of accesses that do, the first event
-- that no program would give, and how many there are of all; and the status.
pub record IsReport (sought : Sought) (form : Form) (layout : Layout) (said : List Said) (status : ℕ) (told : List ℕ) : Type 0 where
  pub naming : Naming
  pub events : List Event
  pub pairs : List Pair
  pub fault : Option Fault
  pub trace : IsTrace said naming events
  pub are_shown : AreShown sought events pairs
  pub first_fault : IsFirstFault events (length events) fault
  pub text : told ≡ location_lines layout form naming pairs ++ end_lines layout form naming [] fault (length pairs) (length events)
  pub answer : status ≡ (if length pairs == 0 then 0 else 3)

-- all is told of these lines
pub record IsTold (sought : Sought) (form : Form) (layout : Layout) (lines : List (List ℕ)) (status : ℕ) (told : List ℕ) : Type 0 where
  pub said : List Said
  pub says : Say form 1 lines said
  pub report : IsReport sought form layout said status told

-- it is added
abbrev pub HasToldAll : Sought → Form → Layout → List (List ℕ) → List ℕ → ℕ → List ℕ → Type 0
HasToldAll sought form layout lines old status new = (told : List ℕ) × (new ≡ old ++ told) × IsTold sought form layout lines status told
