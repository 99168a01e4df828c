-- What is kept of the events of a trace, and what is told by it.
use Rattle.std.specs.Prelude.{◌≡◌, ◌≢◌, ℕ, if◌then◌else◌, true, List, [], ◌∷◌, ◌++◌, None, Some, Vec, length}
use Rattle.std.specs.declared.alloc.Global.{Global}
use Rattle.lrc_races_trace.specs.declared.event.Event.{Event}
use Rattle.lrc_races_trace.specs.declared.event.Pair.{Pair}
use Rattle.lrc_races_trace.specs.declared.fault.Fault.{Fault}
use Rattle.lrc_races_trace.specs.Formed.{IsFirstFault}
use Rattle.lrc_races_detector.specs.declared.fault_finder.FaultFinder.{FaultFinder}
use Rattle.lrc_races_detector.specs.declared.groups.Groups.{Groups}
use Rattle.lrc_races_detector.specs.Finding.{HasLooked}
use Rattle.lrc_races_detector.specs.Grouping.{AreGrouped}
use Rattle.lrc_races_text.specs.declared.asked.Asked.{Asked}
use Rattle.lrc_races_text.specs.declared.form.Form.{Form}
use Rattle.lrc_races_text.specs.declared.halt.Halt.{Halt}
use Rattle.lrc_races_text.specs.declared.halt.Halt.TheVariants.{BadEvent, IllFormed, NoMemory}
use Rattle.lrc_races_text.specs.declared.ill.Ill.{Ill}
use Rattle.lrc_races_text.specs.declared.judged.Judged.{Judged}
use Rattle.lrc_races_text.specs.Says.{Said}
use Rattle.lrc_races_text.specs.Sought.{AreSought}
use Rattle.lrc_races_text.specs.Detecting.{HasTaken}
use Rattle.lrc_races_text.specs.Ill.{IsFirstIll, IsIllOf}
use Rattle.lrc_races_text.specs.Naming.{Naming, IsNaming, AreEvents}
use Rattle.lrc_races_text.specs.Tables.{naming_of}
use Rattle.lrc_races_text.specs.Layouts.{pair_lines}
use Rattle.lrc_races_text.specs.Told.{ArePermitted, IsWholeOf}

-- These events are judged, and this is told of them.
pub record HasJudged (form : Form) (asked : Asked) (said : List Said) (told : List ℕ) (judged : Judged) : Type 0 where
  pub naming : IsNaming said (naming_of judged.names)
  pub events : List Event
  pub are : AreEvents (naming_of judged.names) said events
  pub taken : (more : List Event) → HasTaken asked.sought (events ++ more) (length events) judged.detector
  pub looked : (more : List Event) → HasLooked (events ++ more) (length events) judged.finder
  pub permitted : ArePermitted asked events
  pub pairs : List Pair
  pub are_told : AreSought asked.sought events pairs
  pub counted : judged.races ≡ length pairs
  pub grouped : AreGrouped (if asked.group then pairs else []) judged.groups
  pub text : told ≡ (if asked.group then [] else pair_lines asked.layout form (naming_of judged.names) pairs)

-- The pairs that are told of an event are put into their groups, or their lines are added.
pub record IsTelling (form : Form) (asked : Asked) (naming : Naming) (told : List Pair) (before after : Groups) (old new : List ℕ) : Type 0 where
  pub grouped : (pairs : List Pair) → AreGrouped (if asked.group then pairs else []) before
      → AreGrouped (if asked.group then pairs ++ told else []) after
  pub text : new ≡ old ++ (if asked.group then [] else pair_lines asked.layout form naming told)

-- One event more is judged, and this is told more.
abbrev pub HasJudgedOne : Form → Asked → Said → Judged → List ℕ → Judged → List ℕ → Type 0
HasJudgedOne form asked one before old after new = (said : List Said) (told : List ℕ) → HasJudged form asked said told before
    → (more : List ℕ) × (new ≡ old ++ more) × HasJudged form asked (said ++ one ∷ []) (told ++ more) after

-- the finder has found no event that no program would give
abbrev pub FindsNone : FaultFinder → Type 0
FindsNone finder = (events : List Event) (n : ℕ) → HasLooked events n finder → IsFirstFault events n None

-- Strictness is asked for, and the finder has found this one, or memory ran out.
abbrev pub FindsIll : Asked → Naming → FaultFinder → Halt → Type 0
FindsIll asked naming finder (BadEvent line why) = ⊥
FindsIll asked naming finder (IllFormed ill) = (asked.strict ≡ true)
    × ((fault : Fault) × ((events : List Event) (n : ℕ) → HasLooked events n finder → IsFirstFault events n (Some fault)) × IsIllOf naming fault ill)
FindsIll asked naming finder NoMemory = Unit {0}

-- Strictness is asked for, and behind what is said this event is the first that no program would give, for this reason.
pub record IsIllOne (asked : Asked) (said : List Said) (one : Said) (number : ℕ) (text : List ℕ) : Type 0 where
  pub strict : asked.strict ≡ true
  pub on_line : number ≡ one.line
  pub first : IsFirstIll (said ++ one ∷ []) number text

-- this is the halt at the event of a fault, or memory ran out
abbrev pub IsHaltFor : Naming → Fault → Halt → Type 0
IsHaltFor naming fault (BadEvent line why) = ⊥
IsHaltFor naming fault (IllFormed ill) = IsIllOf naming fault ill
IsHaltFor naming fault NoMemory = Unit {0}

-- it is none at a bad line
abbrev pub NeverBad : Halt → Type 0
NeverBad halt = (line : ℕ) (why : Vec ℕ Global) → halt ≢ BadEvent line why

-- where one event more is not judged since it is one that no program would give, it is
abbrev pub HasHaltedOne : Form → Asked → Said → Judged → Halt → Type 0
HasHaltedOne form asked one before halt = (said : List Said) (told : List ℕ) → HasJudged form asked said told before
    → (ill : Ill) → halt ≡ IllFormed ill → IsIllOne asked said one ill.line ill.why.items

-- All is told, and this is the status.
abbrev pub HasToldAll : Form → Asked → Judged → List ℕ → List ℕ → ℕ → Type 0
HasToldAll form asked judged old new status = (said : List Said) (told : List ℕ) → HasJudged form asked said told judged
    → (more : List ℕ) × (new ≡ old ++ more) × IsWholeOf form asked said status (told ++ more)
