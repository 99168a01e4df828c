-- A search that joins runs that stand alike.
use Rattle.std.specs.Prelude.{◌≡◌, ℕ, zero, ◌<◌, ◌≤◌, ◌⊎◌, List, [], ◌∷◌, ◌++◌, length}
use Rattle.lrc_program.specs.declared.Program.{Program}
use Rattle.lrc_trace.specs.declared.act.Act.{Act}
use Rattle.lrc_trace.specs.declared.act.Deed.{Deed}
use Rattle.lrc_trace.specs.declared.act.Deed.TheVariants.{Quiet, Print, Read}
use Rattle.lrc_orders.specs.Notes.{notes_of}
use Rattle.lrc_lazy.specs.Lazy.{IsOver}
use Rattle.lrc_lazy.specs.Swapped.{IsNoAcquire}
use Rattle.lrc_exact.specs.Rule.{Shape, State, KeepsExact}
use Rattle.lrc_exact_laws.specs.Laws.{IsExactRun}
use Rattle.lrc_exact_states.specs.Goes.{AreAlike}
use Rattle.lrc_exact_states.specs.Runs.{Base, begun, IsDecidedDeed, IsLevel}

-- a run that the search looks at, and from where it sees it
pub record Seen : Type 0 where
  pub acts : List Act
  pub base : Base

-- it is one of those
abbrev pub IsAmong : List Seen → Seen → Type 0
IsAmong [] seen = ⊥
IsAmong (one ∷ more) seen = (one ≡ seen) ⊎ IsAmong more seen

-- where a search begins
abbrev pub first_seen : ℕ → Seen
first_seen nodes = record { acts = []; base = begun nodes }

-- a run, seen from a base, stands as one that is looked at
pub record StandsAs (program : Program) (shape : Shape) (cap : ℕ) (run : List Act) (base : Base) (seen : Seen) : Type 0 where
  pub states : List State
  pub states' : List State
  pub alike : AreAlike program shape cap base seen.base run seen.acts states states'

-- a run is seen from the base as before, or from where it is, if it is level
pub data IsSeenFrom (shape : Shape) (run : List Act) (before : Base) : Base → Type 0 where
  as_before : IsSeenFrom shape run before before
  from_level : {now : Base} (states : List State) → KeepsExact shape run states → IsLevel shape now run states → zero < shape.nodes → IsSeenFrom shape run before now

-- a run that acts lead to from the beginning, and from where it is seen
pub data IsReached (program : Program) (shape : Shape) : List Act → Base → Type 0 where
  begins : IsReached program shape [] (begun shape.nodes)
  goes_on : {run : List Act} {before now : Base} (act : Act) → IsReached program shape run before → IsExactRun program shape (run ++ act ∷ [])
      → IsSeenFrom shape (run ++ act ∷ []) before now → IsReached program shape (run ++ act ∷ []) now

-- an act leads to a run that is looked at, or to one that stands as such a run; what the act compares is decided
pub record LeadsOn (program : Program) (shape : Shape) (cap : ℕ) (Looked : Seen → Type 0) (seen : Seen) (act : Act) : Type 0 where
  pub decided : (states : List State) → KeepsExact shape seen.acts states
      → IsDecidedDeed shape cap seen.base.floor seen.acts states act.node act.deed
  pub base : Base
  pub from : IsSeenFrom shape (seen.acts ++ act ∷ []) seen.base base
  pub later : Seen
  pub looked : Looked later
  pub stands : StandsAs program shape cap (seen.acts ++ act ∷ []) base later

-- a deed that changes nothing but where its node stands, and which words it has looked at
abbrev pub IsLook : Deed → Type 0
IsLook Quiet = Unit {0}
IsLook (Print value) = Unit {0}
IsLook (Read word value) = Unit {0}
IsLook _ = ⊥

-- such acts, one after another, lead from one run to another,
pub data AreLooks (program : Program) (shape : Shape) (acts : List Act) : List Act → Type 0 where
  still : AreLooks program shape acts acts
  onward : {mid : List Act} (act : Act) → AreLooks program shape acts mid → IsLook act.deed → IsExactRun program shape (mid ++ act ∷ [])
      → AreLooks program shape acts (mid ++ act ∷ [])

-- and to runs that are as long as you like
abbrev pub IsLookingForEver : Program → Shape → List Act → Type 0
IsLookingForEver program shape acts = (many : ℕ) → (ahead : List Act) × AreLooks program shape acts ahead × (many ≤ length ahead)

-- Each act that may come next leads on, or one that acquires no lock does, or some node looks round for ever.
pub data IsLookedAt (program : Program) (shape : Shape) (cap : ℕ) (Looked : Seen → Type 0) (seen : Seen) : Type 0 where
  by_all : ((act : Act) → IsExactRun program shape (seen.acts ++ act ∷ []) → LeadsOn program shape cap Looked seen act)
      → IsLookedAt program shape cap Looked seen
  by_one : (act : Act) → IsNoAcquire act.deed → IsExactRun program shape (seen.acts ++ act ∷ []) → LeadsOn program shape cap Looked seen act
      → IsLookedAt program shape cap Looked seen
  for_ever : IsLookingForEver program shape seen.acts → IsLookedAt program shape cap Looked seen

-- so it is with all that are looked at, and the run without acts is one
pub record IsClosedSearch (program : Program) (shape : Shape) (cap : ℕ) (Looked : Seen → Type 0) : Type 0 where
  pub first : Looked (first_seen shape.nodes)
  pub all : (seen : Seen) → Looked seen → IsLookedAt program shape cap Looked seen

-- a run that was looked at, after which no node can act, has these notes
pub record IsFound (program : Program) (shape : Shape) (Looked : Seen → Type 0) (notes : List Act) : Type 0 where
  pub seen : Seen
  pub looked : Looked seen
  pub run : IsExactRun program shape seen.acts
  pub over : IsOver program shape.nodes seen.acts
  pub are : notes_of shape.nodes seen.acts ≡ notes
