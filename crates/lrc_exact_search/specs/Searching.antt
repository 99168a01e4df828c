-- How the exact runs of a program are searched.
use Rattle.std.specs.Prelude.{◌≡◌, ℕ, ◌+◌, ◌*◌, ◌<◌, ◌≤◌, ◌⊎◌, List, [], ◌∷◌, ◌++◌, Some, length, slice_get}
use Rattle.std.specs.List.{IsDistinct}
use Rattle.lrc_program.specs.declared.Program.{Program}
use Rattle.lrc_trace.specs.declared.act.Act.{Act}
use Rattle.lrc_orders.specs.declared.outcomes.Outcome.{Outcome}
use Rattle.lrc_orders.specs.Notes.{notes_of}
use Rattle.lrc_orders.specs.Outcome.{HasOutcome}
use Rattle.lrc_lazy.specs.Lazy.{IsOver}
use Rattle.lrc_exact.specs.Rule.{Shape}
use Rattle.lrc_exact_laws.specs.Laws.{IsExactRun}
use Rattle.lrc_exact_search.specs.declared.search.Met.{Met}
use Rattle.lrc_exact_search.specs.contracts.search.MetPartialEq.TheImpl.{eq-value}
use Rattle.lrc_exact_search.specs.Run.{IsAhead, IsEndless}

-- the acts are those of an exact run after which no node can act, and which has these notes
pub record IsEndedExactRun (program : Program) (shape : Shape) (notes acts : List Act) : Type 0 where
  pub run : IsExactRun program shape acts
  pub over : IsOver program shape.nodes acts
  pub are : notes_of shape.nodes acts ≡ notes

-- an outcome has a run at its place
pub record HasRunAt (program : Program) (shape : Shape) (runs : List Met) (place : ℕ) (notes : List Act) : Type 0 where
  pub met : Met
  pub there : slice_get runs place ≡ Some met
  pub is : IsEndedExactRun program shape notes met.acts.items

-- there is one run for each outcome, which has it
pub record AreRunsOf (program : Program) (shape : Shape) (outcomes : List Outcome) (runs : List Met) : Type 0 where
  pub many : length runs ≡ length outcomes
  pub each : (place : ℕ) (outcome : Outcome) → slice_get outcomes place ≡ Some outcome → HasRunAt program shape runs place outcome.notes.items

-- all of these are exact runs
abbrev pub AreExact : Program → Shape → List Met → Type 0
AreExact program shape runs = (place : ℕ) (met : Met) → slice_get runs place ≡ Some met → IsExactRun program shape met.acts.items

-- a run with these acts is among them
pub record IsMet (runs : List Met) (acts : List Act) : Type 0 where
  pub place : ℕ
  pub met : Met
  pub there : slice_get runs place ≡ Some met
  pub same : met.acts.items ≡ acts

-- each act that may come next leads to a run that is met, and where none may, the outcome is there
pub record Parts (program : Program) (shape : Shape) (runs : List Met) (outcomes : List Outcome) (acts : List Act) : Type 0 where
  pub nexts : (act : Act) → IsExactRun program shape (acts ++ act ∷ []) → IsMet runs (acts ++ act ∷ [])
  pub gathered : IsOver program shape.nodes acts → HasOutcome outcomes (notes_of shape.nodes acts)

-- the run that lies ahead of one is met, and longer, or it parts, or it goes on for ever by acts that need no other node, so that it never ends
pub data GoesOn (program : Program) (shape : Shape) (runs : List Met) (outcomes : List Outcome) (acts ahead : List Act) : Type 0 where
  further : length acts < length ahead → IsMet runs ahead → GoesOn program shape runs outcomes acts ahead
  parts : Parts program shape runs outcomes ahead → GoesOn program shape runs outcomes acts ahead
  endless : IsEndless program shape ahead → GoesOn program shape runs outcomes acts ahead

-- a run was looked at
pub record IsSearched (program : Program) (shape : Shape) (runs : List Met) (outcomes : List Outcome) (acts : List Act) : Type 0 where
  pub ahead : List Act
  pub goes : IsAhead program shape acts ahead
  pub then : GoesOn program shape runs outcomes acts ahead

-- so were those before a place
abbrev pub AreSearched : Program → Shape → List Met → List Outcome → (place : ℕ) → Type 0
AreSearched program shape runs outcomes place =
    (k : ℕ) (met : Met) → k < place → slice_get runs k ≡ Some met → IsSearched program shape runs outcomes met.acts.items

-- all are exact runs, each once, and the run without acts is one
pub record AreInOrder (program : Program) (shape : Shape) (runs : List Met) : Type 0 where
  pub exact : AreExact program shape runs
  pub distinct : IsDistinct eq-value.it runs
  pub begun : IsMet runs []

-- how many acts runs have together
abbrev pub acts_in : List Met → ℕ
acts_in [] = 0
acts_in (met ∷ runs) = length met.acts.items + acts_in runs

-- A search met more exact runs of the program than a bound, no two of them equal, or runs with too many acts together.
pub record MeetsMore (program : Program) (shape : Shape) (most : ℕ) : Type 0 where
  pub runs : List Met
  pub distinct : IsDistinct eq-value.it runs
  pub exact : AreExact program shape runs
  pub many : (most < length runs) ⊎ (1000000 + 20 * most < acts_in runs)

-- No more runs than a bound are enough: the run without acts is among them, and what comes after each, and all outcomes are gathered.
pub record FitsExactly (program : Program) (shape : Shape) (most : ℕ) (outcomes : List Outcome) : Type 0 where
  pub runs : List Met
  pub few : length runs ≤ most
  pub order : AreInOrder program shape runs
  pub searched : AreSearched program shape runs outcomes (length runs)
