-- A trace in the form of RAPID as events of a trace of threads.
use Rattle.std.specs.Prelude.{◌≡◌, ℕ, ◌≤◌, List, Some, Contains, length, slice_get}
use Rattle.lrc_trace.specs.declared.act.Act.{Act}
use Rattle.lrc_trace.specs.declared.act.Deed.{Deed}
use Rattle.lrc_trace.specs.declared.act.Deed.TheVariants.{Read as Reading, Write as Writing}
use Rattle.lrc_trace.specs.Run.{Does}
use Rattle.lrc_trace.specs.Conflict.{Races}
use Rattle.lrc_races_trace.specs.declared.event.Event.{Event}
use Rattle.lrc_races_trace.specs.declared.event.Pair.{Pair}
use Rattle.lrc_races_trace.specs.Trace.{At}
use Rattle.lrc_acts_text.specs.Rapid.{RapidStep}
use Rattle.lrc_acts_text_laws.specs.Traces.{DoesStep}
use Rattle.lrc_races_laws.specs.Traces.{Numbers, Locks, operation_of}

-- the word that a deed accesses
abbrev pub Words : Deed → ℕ → Type 0
Words (Reading other value) w = other ≡ w
Words (Writing other value) w = other ≡ w
Words _ w = ⊥

-- The events stand for the steps: one for each, with the step's node and what it does, whatever their lines and locations. What
-- differs has different numbers.
pub record AreEventsOfSteps (numbers : Numbers) (steps : List RapidStep) (events : List Event) : Type 0 where
  pub long : length events ≡ length steps
  pub same : (k node : ℕ) (deed : Deed) → DoesStep steps k node deed
      → (a : Event) × At events k a × (a.thread ≡ numbers.thread node) × (a.operation ≡ operation_of numbers deed)
  pub threads : (k m p q : ℕ) (a b : Deed) → DoesStep steps k p a → DoesStep steps m q b → numbers.thread p ≡ numbers.thread q → p ≡ q
  pub variables : (k m p q v w : ℕ) (a b : Deed) → DoesStep steps k p a → DoesStep steps m q b → Words a v → Words b w
      → numbers.variable v ≡ numbers.variable w → v ≡ w
  pub locks : (k m p q l n : ℕ) (a b : Deed) → DoesStep steps k p a → DoesStep steps m q b → Locks a l → Locks b n
      → numbers.lock l ≡ numbers.lock n → l ≡ n

-- the steps of a pair
pub record HasSteps (steps : List RapidStep) (pair : Pair) (first second : RapidStep) : Type 0 where
  pub first_at : slice_get steps pair.earlier.position ≡ Some first
  pub second_at : slice_get steps pair.later.position ≡ Some second

-- The acts of the pairs race, of each access and node the last act, and each race has a pair.
pub record AreToldOfSteps (acts : List Act) (steps : List RapidStep) (pairs : List Pair) : Type 0 where
  pub races : (pair : Pair) → Contains pairs pair → (s t : RapidStep) → HasSteps steps pair s t → Races acts s.position t.position
  pub last : (pair : Pair) → Contains pairs pair → (s t : RapidStep) → HasSteps steps pair s t → (i : ℕ) (e : Deed) → Does acts i s.node e
      → Races acts i t.position → i ≤ s.position
  pub each : (i j p : ℕ) (d : Deed) → Does acts i p d → Races acts i j → (pair : Pair) × Contains pairs pair
      × ((s : RapidStep) × (t : RapidStep) × HasSteps steps pair s t × (t.position ≡ j) × (s.node ≡ p) × (i ≤ s.position))
