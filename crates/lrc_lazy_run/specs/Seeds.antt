-- Runs in the random orders of seeds, and the outcomes that they have.
use Rattle.std.specs.Prelude.{◌≡◌, ◌≢◌, ◌<◌, ◌⊎◌, ◌↔◌, ℕ, List, Option, Some, None, length, slice_get}
use Rattle.lrc_program.specs.declared.Program.{Program}
use Rattle.lrc_trace.specs.declared.act.Act.{Act}
use Rattle.lrc_page.specs.declared.size.Size.TheVariants.{Words64}
use Rattle.lrc_protocol.specs.Node.{OptionsRecord}
use Rattle.lrc_world.specs.declared.keep.Keep.{Keep}
use Rattle.lrc_world.specs.declared.run.Order.TheVariants.{Random}
use Rattle.lrc_world.specs.declared.run.Run.{Run}
use Rattle.lrc_world.specs.Runs.{IsRunIn}
use Rattle.lrc_orders.specs.Notes.{notes_of}
use Rattle.lrc_orders.specs.declared.outcomes.Outcome.{Outcome}
use Rattle.lrc_lazy.specs.Lazy.{IsOver}

-- what the command `sim` runs with where nothing else is said: 1,000,000 steps, no collection, and pages of 64 words
unfoldable pub seed_options : OptionsRecord
seed_options = record { steps = 1000000; collect = 0; first = 0; size = Words64 }

-- There is a run in the random order of this seed: it answers no fault. No node can act after it, by the text, locks and barriers, and it
-- has these notes.
pub record IsOutcomeOfSeed (program : Program) (nodes seed : ℕ) (notes : List Act) : Type 0 where
  pub run : Run
  pub keep : Keep
  pub made : IsRunIn (Random seed) program nodes seed_options keep run
  pub over : IsOver program nodes run.report.acts.items
  pub are : notes_of nodes run.report.acts.items ≡ notes

-- the seed's run has these notes, and no others, if any
abbrev pub IsAllOfSeed : Program → (nodes seed : ℕ) → Option (List Act) → Type 0
IsAllOfSeed program nodes seed found = (notes : List Act) → IsOutcomeOfSeed program nodes seed notes ↔ (found ≡ Some notes)

-- of so many seeds, from 0 on, this is the least whose run has these notes, or none has them
abbrev pub IsLeastSeed : Program → (nodes tries : ℕ) → (notes : List Act) → Option ℕ → Type 0
IsLeastSeed program nodes tries notes (Some seed) =
    (seed < tries) × IsOutcomeOfSeed program nodes seed notes × ((less : ℕ) → less < seed → ¬ IsOutcomeOfSeed program nodes less notes)
IsLeastSeed program nodes tries notes None = (seed : ℕ) → seed < tries → ¬ IsOutcomeOfSeed program nodes seed notes

-- so it is of each outcome
pub record AreLeastSeeds (program : Program) (nodes tries : ℕ) (outcomes : List Outcome) (seeds : List (Option ℕ)) : Type 0 where
  pub count : length seeds ≡ length outcomes
  pub each : (k : ℕ) (outcome : Outcome) (seed : Option ℕ) → slice_get outcomes k ≡ Some outcome → slice_get seeds k ≡ Some seed
      → IsLeastSeed program nodes tries outcome.notes.items seed

-- the notes of acts, if no node can act after them
abbrev pub AreNotesIfOver : Program → (nodes : ℕ) → List Act → Option (List Act) → Type 0
AreNotesIfOver program nodes acts (Some notes) = IsOver program nodes acts × (notes ≡ notes_of nodes acts)
AreNotesIfOver program nodes acts None = ¬ IsOver program nodes acts

-- an outcome's seed, where it may be marked with one: with this one, where it has these notes and no seed yet
abbrev pub IsMarked : Outcome → (notes : List Act) → (seed : ℕ) → (old new : Option ℕ) → Type 0
IsMarked outcome notes seed (Some before) new = new ≡ Some before
IsMarked outcome notes seed None new =
    ((outcome.notes.items ≡ notes) × (new ≡ Some seed)) ⊎ ((outcome.notes.items ≢ notes) × (new ≡ None))

pub record AreMarked (outcomes : List Outcome) (notes : List Act) (seed : ℕ) (old new : List (Option ℕ)) : Type 0 where
  pub count : length new ≡ length old
  pub each : (k : ℕ) (outcome : Outcome) (before after : Option ℕ) → slice_get outcomes k ≡ Some outcome → slice_get old k ≡ Some before
      → slice_get new k ≡ Some after → IsMarked outcome notes seed before after
