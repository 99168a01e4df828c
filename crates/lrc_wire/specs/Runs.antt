-- Changes of a page cut into runs: changes of neighbouring offsets, which the bytes of a message give one header.
use Rattle.std.specs.Prelude.{◌≡◌, ℕ, suc, ◌+◌, ◌<◌, ◌≤◌, ◌==◌, List, [], ◌∷◌, length, take, map, All, AllPairs, if◌then◌else◌}
use Rattle.std.specs.List.{enumerate_from, flat_map}
use Rattle.lrc_page.specs.declared.changes.Change.{Change}

-- the values of neighbouring offsets, and the first of the offsets
pub record Run : Type 0 where
  pub first : ℕ
  pub values : List ℕ

-- the changes of a run
abbrev pub changes_in_run : Run → List Change
changes_in_run run = map (λ word. record { offset = word.0; value = word.1 }) (enumerate_from run.first run.values)

-- the offset behind a run
abbrev pub behind_run : Run → ℕ
behind_run run = run.first + length run.values

-- all of the changes in maximal runs, in order: no run is empty, and between two lies an offset that is not changed
pub record AreRuns (changes : List Change) (runs : List Run) : Type 0 where
  pub whole : flat_map changes_in_run runs ≡ changes
  pub some : All (λ run. 1 ≤ length run.values) runs
  pub apart : AllPairs (λ a b. behind_run a < b.first) runs

-- ---- the same as a function

abbrev alone : Change → Run
alone c = record { first = c.offset; values = c.value ∷ [] }

-- one more change in front of runs: at the front of the first where that is its neighbour, else alone
abbrev pub in_front : Change → List Run → List Run
in_front c [] = alone c ∷ []
in_front c (run ∷ runs) =
    if run.first == c.offset + 1
    then record { first = c.offset; values = c.value ∷ run.values } ∷ runs
    else alone c ∷ run ∷ runs

abbrev pub runs_of : List Change → List Run
runs_of [] = []
runs_of (c ∷ cs) = in_front c (runs_of cs)

-- how many changes at the front have neighbouring offsets
abbrev pub lead : List Change → ℕ
lead [] = 0
lead (c ∷ []) = 1
lead (c ∷ d ∷ cs) = if d.offset == c.offset + 1 then suc (lead (d ∷ cs)) else 1

-- the run at the front
abbrev pub first_run : List Change → Run
first_run [] = record { first = 0; values = [] }
first_run (c ∷ cs) = record { first = c.offset; values = map (λ x. x.value) (take (lead (c ∷ cs)) (c ∷ cs)) }
