-- States of the machine that makes lazy runs, and how they were found.
use Rattle.std.specs.Prelude.{◌≡◌, ◌≢◌, ◌+◌, ◌<◌, ◌≤◌, ◌^◌, ℕ, List, [], ◌++◌, Option, Some, None, length, reverse, slice_get}
use Rattle.std.specs.List.{IsDistinct}
use Rattle.lrc_program.specs.declared.Program.{Program}
use Rattle.lrc_trace.specs.declared.act.Act.{Act}
use Rattle.lrc_trace.specs.declared.act.Deed.{Deed}
use Rattle.lrc_exec.specs.declared.spot.Flat.{Flat}
use Rattle.lrc_exec.specs.Flat.{IsCodeOf}
use Rattle.lrc_exec.specs.Plain.{plain_start}
use Rattle.lrc_exec.specs.Spots.{IsFlat}
use Rattle.lrc_orders.specs.declared.search.ExploreFault.{ExploreFault}
use Rattle.lrc_orders.specs.declared.search.ExploreFault.TheVariants.{BadNodes, TooMany}
use Rattle.lrc_orders.specs.Notes.{notes_of}
use Rattle.lrc_exec.specs.States.{machine_begun, plain_at, IsStateOf}
use Rattle.lrc_lazy.specs.Lazy.{IsLazyOutcome}
use Rattle.lrc_lazy.specs.Standing.{CanMake, Stands}
use Rattle.lrc_lazy.specs.Swapped.{IsNoAcquire}
use Rattle.lrc_lazy_search.specs.declared.state.LazyState.{LazyState}
use Rattle.lrc_lazy_search.specs.contracts.state.LazyStatePartialEq.TheImpl.{eq-value}
use Rattle.lrc_lazy_search.specs.Searching.{AreReached, HasKey, IsAhead, IsFresh, IsNeat, MeetsMore, Steps}
use Rattle.lrc_lazy_run.specs.declared.sought.Sought.{Sought}
use Rattle.lrc_lazy_run.specs.declared.ways.Origin.{Origin}
use Rattle.lrc_lazy_run.specs.declared.ways.Ways.{Ways}

-- the code is the program's, and there are nodes
pub record IsSought (sought : Sought) : Type 0 where
  pub flat : IsFlat sought.flat
  pub code : IsCodeOf sought.flat.code.now sought.start sought.program.now.statements.items
  pub placed : sought.start ≤ length sought.flat.code.now
  pub words : sought.flat.words ≡ sought.program.now.words
  pub locks : sought.flat.locks ≡ sought.program.now.locks
  pub some : 0 < sought.flat.nodes
  pub few : sought.flat.nodes ≤ 16
  pub begun : machine_begun sought.flat sought.start ≡ plain_start sought.program.now sought.flat.nodes

-- these acts lead to the state
pub record LeadsTo (program : Program) (flat : Flat) (acts : List Act) (key : LazyState) : Type 0 where
  pub stands : Stands program flat.nodes acts (plain_at flat key.state) key.knowledge
  pub noted : notes_of flat.nodes acts ≡ key.notes.items

-- These acts lead on from one state to another: behind all acts that lead to the first.
abbrev pub LeadOn : Sought → (before : LazyState) → List Act → (after : LazyState) → Type 0
LeadOn sought before acts after =
    (front : List Act) → LeadsTo sought.program.now sought.flat front before → LeadsTo sought.program.now sought.flat (front ++ acts) after

-- a state that was found at a place is one to which acts lead on from an earlier state
pub record ComesFrom (sought : Sought) (keys : List LazyState) (place : ℕ) (origin : Origin) (key : LazyState) : Type 0 where
  pub before : origin.parent < place
  pub parent : LazyState
  pub there : slice_get keys origin.parent ≡ Some parent
  pub leads : LeadOn sought parent origin.acts.items key

-- no acts lead to the first state
pub record BeginsThere (program : Program) (flat : Flat) (keys : List LazyState) : Type 0 where
  pub first : LazyState
  pub there : slice_get keys 0 ≡ Some first
  pub led : LeadsTo program flat [] first

-- To each state a lazy run leads, no two are equal, the first is the beginning, and each other one comes from an earlier one. Steps lead on
-- from some of them.
pub record AreKeptIn (sought : Sought) (keys : List LazyState) (origins : List Origin) (settled : List ℕ) : Type 0 where
  pub reached : AreReached sought.program.now sought.flat keys
  pub distinct : IsDistinct eq-value.it keys
  pub begun : BeginsThere sought.program.now sought.flat keys
  pub count : length origins ≡ length keys
  pub come : (place : ℕ) (key : LazyState) (origin : Origin) → 0 < place → slice_get keys place ≡ Some key → slice_get origins place ≡ Some origin
      → ComesFrom sought keys place origin key
  pub within : (k place : ℕ) → slice_get settled k ≡ Some place → place < length keys
  pub room : length settled ≤ length keys

abbrev pub AreKept : Sought → Ways → Type 0
AreKept sought ways = AreKeptIn sought ways.states.keys ways.origins.items ways.settled.items

-- so they are for a task, and there are no more than one past the most
pub record AreWays (sought : Sought) (ways : Ways) : Type 0 where
  pub task : IsSought sought
  pub kept : AreKept sought ways
  pub few : length ways.states.keys ≤ sought.most + 1
  pub small : length ways.states.keys < 2 ^ 63

-- The search for the task may fail so: it has nodes, and it meets too many states only where lazy runs lead to more than the most.
abbrev pub MayFail : Sought → ExploreFault → Type 0
MayFail sought fault = (fault ≢ BadNodes) × (fault ≡ TooMany → MeetsMore sought.program.now sought.flat.nodes sought.most)

-- a node can do this at the state at a place
abbrev pub CanMakeAt : Flat → List LazyState → (place node : ℕ) → Deed → Type 0
CanMakeAt flat keys place node deed =
    (key : LazyState) → slice_get keys place ≡ Some key → CanMake flat.words (plain_at flat key.state) key.knowledge node deed

-- the state is one after that at a place, by a deed of one of the nodes
pub record IsAfterAt (sought : Sought) (keys : List LazyState) (place node : ℕ) (deed : Deed) (after : LazyState) : Type 0 where
  pub key : LazyState
  pub there : slice_get keys place ≡ Some key
  pub steps : Steps sought.flat key node deed after
  pub valid : IsStateOf sought.flat after.state
  pub neat : IsNeat sought.flat after
  pub below : node < sought.flat.nodes

-- a node's deed leads to a state that is among them
pub record HasAfter (flat : Flat) (keys : List LazyState) (key : LazyState) (node : ℕ) (deed : Deed) : Type 0 where
  pub after : LazyState
  pub steps : Steps flat key node deed after
  pub left : LazyState
  pub fresh : IsFresh flat after left
  pub has : HasKey keys left

-- so does a deed at the state at a place
abbrev pub HasStepAt : Flat → List LazyState → (place node : ℕ) → Deed → Type 0
HasStepAt flat keys place node deed = (key : LazyState) → slice_get keys place ≡ Some key → HasAfter flat keys key node deed

-- a place that was found is that of a state that is new, and there are no more than the most
pub record IsNewAt (most : ℕ) (old new : List LazyState) (place : ℕ) : Type 0 where
  pub within : place < length new
  pub more : length old < length new
  pub few : length new ≤ most

abbrev pub IsPut : (old new : List LazyState) → Option ℕ → Type 0
IsPut old new (Some place) = (place < length new) × (length new ≡ length old + 1)
IsPut old new None = new ≡ old

abbrev pub IsFound : (most : ℕ) → (old new : List LazyState) → Option ℕ → Type 0
IsFound most old new (Some place) = IsNewAt most old new place
IsFound most old new None = new ≡ old

-- no node can act at the state at a place
abbrev pub IsStillAt : Flat → List LazyState → (place : ℕ) → Type 0
IsStillAt flat keys place = (node : ℕ) (deed : Deed) → ¬ CanMakeAt flat keys place node deed

-- the state at a place has these notes
abbrev pub HasNotesAt : List LazyState → (place : ℕ) → (notes : List Act) → Type 0
HasNotesAt keys place notes = (key : LazyState) → slice_get keys place ≡ Some key → key.notes.items ≡ notes

-- both
abbrev pub IsEndWith : Flat → List LazyState → (place : ℕ) → (notes : List Act) → Type 0
IsEndWith flat keys place notes = IsStillAt flat keys place × HasNotesAt keys place notes

-- the acts lead to the state at a place
abbrev pub LeadTo : Sought → List LazyState → List Act → (place : ℕ) → Type 0
LeadTo sought keys acts place = (key : LazyState) → slice_get keys place ≡ Some key → LeadsTo sought.program.now sought.flat acts key

-- the place, if there is one, is that of a state at which no node can act, with these notes; else no lazy run has them
abbrev pub IsEndFor : Sought → List LazyState → (notes : List Act) → Option ℕ → Type 0
IsEndFor sought keys notes (Some place) = (place < length keys) × IsEndWith sought.flat keys place notes
IsEndFor sought keys notes None = ¬ IsLazyOutcome sought.program.now sought.flat.nodes notes

-- the same of some of the states
abbrev pub IsEndIfFound : Sought → List LazyState → (notes : List Act) → Option ℕ → Type 0
IsEndIfFound sought keys notes (Some place) = (place < length keys) × IsEndWith sought.flat keys place notes
IsEndIfFound sought keys notes None = Unit {0}

-- a state at which some node can act or whose notes are others, and after which all are there
pub record IsPassed (flat : Flat) (keys : List LazyState) (notes : List Act) (key : LazyState) : Type 0 where
  pub next : (node : ℕ) (deed : Deed) → CanMake flat.words (plain_at flat key.state) key.knowledge node deed → HasAfter flat keys key node deed
  pub other : ((node : ℕ) (deed : Deed) → ¬ CanMake flat.words (plain_at flat key.state) key.knowledge node deed) → key.notes.items ≢ notes

-- so are those before a place
abbrev pub ArePassed : Flat → List LazyState → (notes : List Act) → (index : ℕ) → Type 0
ArePassed flat keys notes index = (k : ℕ) (key : LazyState) → k < index → slice_get keys k ≡ Some key → IsPassed flat keys notes key

-- the states after what a node can do at the state at a place are there
abbrev pub HasAllStepsAt : Flat → List LazyState → (place node : ℕ) → Type 0
HasAllStepsAt flat keys place node = (deed : Deed) → CanMakeAt flat keys place node deed → HasStepAt flat keys place node deed

-- what a node can do, if there is something
abbrev pub CanMakeIfAny : Flat → List LazyState → (place : ℕ) → Option (ℕ × Deed) → Type 0
CanMakeIfAny flat keys place (Some act) = CanMakeAt flat keys place act.0 act.1
CanMakeIfAny flat keys place None = Unit {0}

-- the node can do this alone, and no other node's act changes that
pub record IsFree (flat : Flat) (key : LazyState) (node : ℕ) (deed : Deed) : Type 0 where
  pub can : CanMake flat.words (plain_at flat key.state) key.knowledge node deed
  pub only : (other : Deed) → CanMake flat.words (plain_at flat key.state) key.knowledge node other → other ≡ deed
  pub free : IsNoAcquire deed

abbrev pub IsFreeIfAny : Flat → LazyState → Option (ℕ × Deed) → Type 0
IsFreeIfAny flat key (Some act) = IsFree flat key act.0 act.1
IsFreeIfAny flat key None = Unit {0}

-- Such acts lead from one state to another that lies ahead of it. Those that lead on to the first, and these behind them, lead on to the other.
pub record IsAlong (sought : Sought) (before : LazyState) (acts : List Act) (after : LazyState) (more : List Act) : Type 0 where
  pub ahead : IsAhead sought.flat before after
  pub leads : (first : LazyState) → LeadOn sought first acts before → LeadOn sought first more after

-- these acts, turned round, lead from the state at one place to that at another
abbrev pub LeadsFrom : Sought → List LazyState → (from : ℕ) → (back : List Act) → (place : ℕ) → Type 0
LeadsFrom sought keys from back place = (front : List Act) (key last : LazyState) → slice_get keys from ≡ Some key → slice_get keys place ≡ Some last
    → LeadsTo sought.program.now sought.flat front key → LeadsTo sought.program.now sought.flat (front ++ reverse back) last
