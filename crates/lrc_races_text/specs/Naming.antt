-- Names and numbers: the events of a trace name threads, variables, locks, barriers and locations as they like, and each name
-- has the number of names of its kind that were named before it.
use Rattle.std.specs.Prelude.{◌≡◌, ◌≢◌, ◌↔◌, ℕ, ◌≤◌, List, [], ◌∷◌, Option, Some, None, AllPairs, Contains, flat_map, length, slice_get, take}
use Rattle.lrc_races_lines.specs.declared.line.Kind.{Kind}
use Rattle.lrc_races_lines.specs.declared.line.Kind.TheVariants.{Read, Write, Acquire, Release, Post, Wait, Fork, Join, Arrive, Depart, Idle}
use Rattle.lrc_races_trace.specs.declared.event.Event.{Event}
use Rattle.lrc_races_trace.specs.declared.event.Operation.{Operation}
use Rattle.lrc_races_trace.specs.declared.event.Operation.TheVariants as Op
use Rattle.lrc_races_text.specs.Says.{Said}

-- The names are those mentioned, each once, in the order in which they are first mentioned: the first so many mentions are of
-- just the first so many names.
pub record AreFirstNamed (mentions names : List (List ℕ)) : Type 0 where
  pub distinct : AllPairs (λ x y. x ≢ y) names
  pub exact : (name : List ℕ) → Contains names name ↔ Contains mentions name
  pub in_order : (n : ℕ) → (k : ℕ) × (k ≤ length names) × ((name : List ℕ) → Contains (take k names) name ↔ Contains (take n mentions) name)

-- the thread that is forked or joined, the variable that is accessed, the lock, and the barrier, if there is one
abbrev pub forked : Kind → List ℕ → List (List ℕ)
forked Fork target = target ∷ []
forked Join target = target ∷ []
forked _ target = []

abbrev pub accessed : Kind → List ℕ → List (List ℕ)
accessed Read target = target ∷ []
accessed Write target = target ∷ []
accessed _ target = []

abbrev pub locked : Kind → List ℕ → List (List ℕ)
locked Acquire target = target ∷ []
locked Release target = target ∷ []
locked Post target = target ∷ []
locked Wait target = target ∷ []
locked _ target = []

abbrev pub gathered : Kind → List ℕ → List (List ℕ)
gathered Arrive target = target ∷ []
gathered Depart target = target ∷ []
gathered _ target = []

-- a location, where there is one
abbrev pub located : List ℕ → List (List ℕ)
located [] = []
located (byte ∷ rest) = (byte ∷ rest) ∷ []

-- The names that an event mentions: its thread first.
abbrev pub threads_in : Said → List (List ℕ)
threads_in said = said.saying.thread ∷ forked said.saying.kind said.saying.target

abbrev pub variables_in : Said → List (List ℕ)
variables_in said = accessed said.saying.kind said.saying.target

abbrev pub locks_in : Said → List (List ℕ)
locks_in said = locked said.saying.kind said.saying.target

abbrev pub barriers_in : Said → List (List ℕ)
barriers_in said = gathered said.saying.kind said.saying.target

abbrev pub locations_in : Said → List (List ℕ)
locations_in said = located said.saying.location

-- the names of each kind
pub record Naming : Type 0 where
  pub threads : List (List ℕ)
  pub variables : List (List ℕ)
  pub locks : List (List ℕ)
  pub barriers : List (List ℕ)
  pub locations : List (List ℕ)

-- they are those of the trace
pub record IsNaming (said : List Said) (naming : Naming) : Type 0 where
  pub threads : AreFirstNamed (flat_map threads_in said) naming.threads
  pub variables : AreFirstNamed (flat_map variables_in said) naming.variables
  pub locks : AreFirstNamed (flat_map locks_in said) naming.locks
  pub barriers : AreFirstNamed (flat_map barriers_in said) naming.barriers
  pub locations : AreFirstNamed (flat_map locations_in said) naming.locations

-- The name has this number: so many stand before it.
pub record Numbers (names : List (List ℕ)) (name : List ℕ) (number : ℕ) : Type 0 where
  pub at : slice_get names number ≡ Some name

-- what a thread does, by the number of its target
pub data IsOperation (naming : Naming) (target : List ℕ) : Kind → Operation → Type 0 where
  read : {v : ℕ} → Numbers naming.variables target v → IsOperation naming target Read (Op.Read v)
  write : {v : ℕ} → Numbers naming.variables target v → IsOperation naming target Write (Op.Write v)
  acquire : {l : ℕ} → Numbers naming.locks target l → IsOperation naming target Acquire (Op.Acquire l)
  release : {l : ℕ} → Numbers naming.locks target l → IsOperation naming target Release (Op.Release l)
  post : {l : ℕ} → Numbers naming.locks target l → IsOperation naming target Post (Op.Post l)
  wait : {l : ℕ} → Numbers naming.locks target l → IsOperation naming target Wait (Op.Wait l)
  fork : {u : ℕ} → Numbers naming.threads target u → IsOperation naming target Fork (Op.Fork u)
  join : {u : ℕ} → Numbers naming.threads target u → IsOperation naming target Join (Op.Join u)
  arrive : {x : ℕ} → Numbers naming.barriers target x → IsOperation naming target Arrive (Op.Arrive x)
  depart : {x : ℕ} → Numbers naming.barriers target x → IsOperation naming target Depart (Op.Depart x)
  idle : IsOperation naming target Idle Op.Idle

abbrev pub IsLocated : List (List ℕ) → List ℕ → Option ℕ → Type 0
IsLocated names location None = location ≡ []
IsLocated names location (Some number) = (location ≢ []) × Numbers names location number

-- The event is what is said, by numbers.
pub record IsEvent (naming : Naming) (said : Said) (event : Event) : Type 0 where
  pub thread : Numbers naming.threads said.saying.thread event.thread
  pub operation : IsOperation naming said.saying.target said.saying.kind event.operation
  pub line : event.line ≡ said.line
  pub location : IsLocated naming.locations said.saying.location event.location

-- The events are what is said, one for one.
pub data AreEvents (naming : Naming) : List Said → List Event → Type 0 where
  no_events : AreEvents naming [] []
  event_more : {said : Said} {all : List Said} {event : Event} {events : List Event} → IsEvent naming said event → AreEvents naming all events
      → AreEvents naming (said ∷ all) (event ∷ events)

-- The trace of what is said: its names, and its events by their numbers.
pub record IsTrace (said : List Said) (naming : Naming) (events : List Event) : Type 0 where
  pub names : IsNaming said naming
  pub numbered : AreEvents naming said events
