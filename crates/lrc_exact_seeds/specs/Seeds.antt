-- Runs in the random orders of seeds, and the outcomes that they have.
use Rattle.std.specs.Prelude.{◌≡◌, ◌≢◌, ◌<◌, ◌⊎◌, ◌↔◌, ℕ, List, Option, Some, None, length, replicate, slice_get}
use Rattle.lrc_program.specs.declared.Program.{Program}
use Rattle.lrc_trace.specs.declared.act.Act.{Act}
use Rattle.lrc_protocol.specs.Node.{OptionsRecord}
use Rattle.lrc_world.specs.declared.keep.Keep.{Keep}
use Rattle.lrc_world.specs.declared.run.Order.TheVariants.{Random}
use Rattle.lrc_world.specs.declared.run.Run.{Run}
use Rattle.lrc_world.specs.Runs.{IsRunIn}
use Rattle.lrc_orders.specs.Notes.{notes_of}
use Rattle.lrc_orders.specs.declared.outcomes.Outcome.{Outcome}
use Rattle.lrc_lazy.specs.Lazy.{IsOver}

-- There is a run with these options in the random order of this seed: it answers no fault. No node can act after it, by the text, locks and
-- barriers, and it has these notes.
pub record IsOutcomeOfSeed (program : Program) (nodes : ℕ) (options : OptionsRecord) (seed : ℕ) (notes : List Act) : Type 0 where
  pub run : Run
  pub keep : Keep
  pub made : IsRunIn (Random seed) program nodes options keep run
  pub over : IsOver program nodes run.report.acts.items
  pub are : notes_of nodes run.report.acts.items ≡ notes

-- the seed's run has these notes, and no others, if any
abbrev pub IsAllOfSeed : Program → (nodes : ℕ) → OptionsRecord → (seed : ℕ) → Option (List Act) → Type 0
IsAllOfSeed program nodes options seed found = (notes : List Act) → IsOutcomeOfSeed program nodes options seed notes ↔ (found ≡ Some notes)

-- of so many seeds, from 0 on, this is the least whose run has these notes, or none has them
abbrev pub IsLeastSeed : Program → (nodes : ℕ) → OptionsRecord → (tries : ℕ) → (notes : List Act) → Option ℕ → Type 0
IsLeastSeed program nodes options tries notes (Some seed) =
    (seed < tries) × IsOutcomeOfSeed program nodes options seed notes
    × ((less : ℕ) → less < seed → ¬ IsOutcomeOfSeed program nodes options less notes)
IsLeastSeed program nodes options tries notes None = (seed : ℕ) → seed < tries → ¬ IsOutcomeOfSeed program nodes options seed notes

-- so it is of each outcome
pub record AreLeastSeeds (program : Program) (nodes : ℕ) (options : OptionsRecord) (tries : ℕ) (outcomes : List Outcome) (seeds : List (Option ℕ)) : Type 0
  where
    pub count : length seeds ≡ length outcomes
    pub each : (k : ℕ) (outcome : Outcome) (seed : Option ℕ) → slice_get outcomes k ≡ Some outcome → slice_get seeds k ≡ Some seed
        → IsLeastSeed program nodes options tries outcome.notes.items seed

-- where the runs of so many seeds are tried, each outcome has the least seed whose run has it, if there is one; else none has a seed
abbrev pub AreSeedsFor : Program → (nodes : ℕ) → OptionsRecord → (tries : Option ℕ) → List Outcome → List (Option ℕ) → Type 0
AreSeedsFor program nodes options (Some tries) outcomes seeds = AreLeastSeeds program nodes options tries outcomes seeds
AreSeedsFor program nodes options None outcomes seeds = seeds ≡ replicate (length outcomes) None

-- the notes of acts, if no node can act after them
abbrev pub AreNotesIfOver : Program → (nodes : ℕ) → List Act → Option (List Act) → Type 0
AreNotesIfOver program nodes acts (Some notes) = IsOver program nodes acts × (notes ≡ notes_of nodes acts)
AreNotesIfOver program nodes acts None = ¬ IsOver program nodes acts

-- an outcome's seed, where it may be marked with one: with this one, where it has these notes and no seed yet
abbrev pub IsMarked : Outcome → (notes : List Act) → (seed : ℕ) → (old new : Option ℕ) → Type 0
IsMarked outcome notes seed (Some before) new = new ≡ Some before
IsMarked outcome notes seed None new =
    ((outcome.notes.items ≡ notes) × (new ≡ Some seed)) ⊎ ((outcome.notes.items ≢ notes) × (new ≡ None))

pub record AreMarked (outcomes : List Outcome) (notes : List Act) (seed : ℕ) (old new : List (Option ℕ)) : Type 0 where
  pub count : length new ≡ length old
  pub each : (k : ℕ) (outcome : Outcome) (before after : Option ℕ) → slice_get outcomes k ≡ Some outcome → slice_get old k ≡ Some before
      → slice_get new k ≡ Some after → IsMarked outcome notes seed before after
