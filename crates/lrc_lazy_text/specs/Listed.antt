-- Every outcome of the lazy runs of a program, as it is printed.
use Rattle.std.specs.Prelude.{◌≡◌, ◌↔◌, ◌-◌, ℕ, List, [], ◌∷◌, ◌++◌, Option, Some, None, codes, decimal, length, map, replicate, take}
use Rattle.std.specs.Cmp.Lexicographic.{slice_cmp}
use Rattle.std.specs.List.{IsDistinct, flat_map}
use Rattle.std.specs.List.Sorted.{IsPermutation, IsSorted}
use Rattle.std.specs.Ordering.{nat_cmp}
use Rattle.lrc_program.specs.declared.Program.{Program}
use Rattle.lrc_trace.specs.declared.act.Act.{Act}
use Rattle.lrc_orders.specs.declared.outcomes.Outcome.{Outcome}
use Rattle.lrc_orders.specs.contracts.outcomes.OutcomePartialEq.TheImpl.{eq-value}
use Rattle.lrc_orders.specs.Outcome.{HasOutcome}
use Rattle.lrc_explore_text.specs.Outcomes.{none_ends, outcome_line}
use Rattle.lrc_lazy.specs.Lazy.{IsLazyOutcome}
use Rattle.lrc_lazy_search.specs.Searching.{FitsLazily, MeetsMore}
use Rattle.lrc_lazy_run.specs.Seeds.{AreLeastSeeds}
use Rattle.lrc_lazy_text.specs.declared.listed.ToldOutcome.{ToldOutcome}

-- these are exactly the outcomes of the lazy runs after which no node can act, each once
pub record AreLazyOutcomes (program : Program) (nodes : ℕ) (outcomes : List Outcome) : Type 0 where
  pub exact : (notes : List Act) → HasOutcome outcomes notes ↔ IsLazyOutcome program nodes notes
  pub once : IsDistinct eq-value.it outcomes

-- where the runs of so many seeds are tried, each outcome has the least seed whose run has it, if there is one; else none has a seed
abbrev pub AreSeedsFor : Program → (nodes : ℕ) → (tries : Option ℕ) → List Outcome → List (Option ℕ) → Type 0
AreSeedsFor program nodes (Some tries) outcomes seeds = AreLeastSeeds program nodes tries outcomes seeds
AreSeedsFor program nodes None outcomes seeds = seeds ≡ replicate (length outcomes) None

-- the line that counts the outcomes; where there are none, no run ends
abbrev pub lazy_head : ℕ → List ℕ
lazy_head count = codes "outcomes " ++ decimal count ++ codes " in all lazy runs\n" ++ none_ends count

-- the seed behind an outcome, if there is one
abbrev pub seed_mark : Option ℕ → List ℕ
seed_mark None = []
seed_mark (Some seed) = codes " # seed " ++ decimal seed

-- the line of an outcome, with its seed in front of the line feed
abbrev pub marked_line : List ℕ × Option ℕ → List ℕ
marked_line told = take (length told.0 - 1) told.0 ++ seed_mark told.1 ++ codes "\n"

-- the lines of outcomes, each with its seed
abbrev pub lines_with : (nodes : ℕ) → List Outcome → List (Option ℕ) → List (List ℕ × Option ℕ)
lines_with nodes [] seeds = []
lines_with nodes (outcome ∷ outcomes) [] = []
lines_with nodes (outcome ∷ outcomes) (seed ∷ seeds) = (outcome_line nodes outcome.notes.items, seed) ∷ lines_with nodes outcomes seeds

-- these, ascending as texts without the seeds
pub record AreAscending (nodes : ℕ) (outcomes : List Outcome) (seeds : List (Option ℕ)) (told : List (List ℕ × Option ℕ)) : Type 0 where
  pub same : IsPermutation (lines_with nodes outcomes seeds) told
  pub ascending : IsSorted (slice_cmp nat_cmp) (map (λ (line : List ℕ × Option ℕ). line.0) told)

-- the text has these lines behind the line that counts them
pub record ListsLazyOutcomes (nodes : ℕ) (outcomes : List Outcome) (seeds : List (Option ℕ)) (out : List ℕ) : Type 0 where
  pub told : List (List ℕ × Option ℕ)
  pub are : AreAscending nodes outcomes seeds told
  pub whole : out ≡ lazy_head (length outcomes) ++ flat_map marked_line told

-- the text has the lines of the outcomes of the program's lazy runs
pub record TellsLazyOutcomes (program : Program) (nodes : ℕ) (tries : Option ℕ) (out : List ℕ) : Type 0 where
  pub outcomes : List Outcome
  pub are : AreLazyOutcomes program nodes outcomes
  pub seeds : List (Option ℕ)
  pub seeded : AreSeedsFor program nodes tries outcomes seeds
  pub listed : ListsLazyOutcomes nodes outcomes seeds out

-- the search through the lazy runs met more states than it might
abbrev pub MetTooManyLazily : Program → (nodes most : ℕ) → Type 0
MetTooManyLazily program nodes most = MeetsMore program nodes most

-- no more states than a bound were enough for the outcomes of the lazy runs
abbrev pub FitLazyRuns : Program → (nodes most : ℕ) → Type 0
FitLazyRuns program nodes most = (outcomes : List Outcome) × FitsLazily program nodes most outcomes

-- ---- lines as they are kept

abbrev pub told_pair : ToldOutcome → List ℕ × Option ℕ
told_pair told = (told.line.items, told.seed)

abbrev pub marked_lines : List ToldOutcome → List ℕ
marked_lines told = flat_map (λ one. marked_line (told_pair one)) told

abbrev pub AreToldOf : (nodes : ℕ) → List Outcome → List (Option ℕ) → List ToldOutcome → Type 0
AreToldOf nodes outcomes seeds told = AreAscending nodes outcomes seeds (map told_pair told)
