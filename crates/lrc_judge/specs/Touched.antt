-- Which nodes have accessed a word, and where last.
use Rattle.std.specs.Prelude.{◌≡◌, ℕ, ◌+◌, ◌<◌, List, Option, Some, None, slice_index}
use Rattle.std.specs.Ordering.{nat_cmp}
use Rattle.std.specs.BTreeMap.{BTreeMap, get}
use Rattle.lrc_trace.specs.declared.act.Act.{Act}
use Rattle.lrc_trace.specs.Conflict.{Accesses, Writes}
use Rattle.lrc_judge.specs.declared.touched.Touched.{Touched}

-- For each node one more than the latest of its positions before n that are such accesses of the word, or 0 where there is
-- none: each number is of such a position, and none is later.
pub record AreLatest (run : List Act) (n : ℕ) (these : ℕ → ℕ → Type 0) (latest : List ℕ) : Type 0 where
  pub sound : (i p : ℕ) → i + 1 ≡ slice_index latest p → (i < n) × these i p
  pub complete : (i p : ℕ) → i < n → these i p → i < slice_index latest p

-- what is kept of a word is what the run did to it before position n
pub record IsTouched (run : List Act) (n word : ℕ) (touched : Touched) : Type 0 where
  pub accessed : AreLatest run n (λ i p. Accesses run i p word) touched.accessed
  pub written : AreLatest run n (λ i p. Writes run i p word) touched.written

-- what is kept of a word; where nothing is, nobody has accessed it
abbrev pub IsTouchedOr : List Act → ℕ → ℕ → Option Touched → Type 0
IsTouchedOr run n word (Some touched) = IsTouched run n word touched
IsTouchedOr run n word None = (i p : ℕ) → i < n → ¬ Accesses run i p word

-- the same of every word
abbrev pub AreTouched : List Act → ℕ → BTreeMap ℕ Touched → Type 0
AreTouched run n words = (word : ℕ) → IsTouchedOr run n word (get nat_cmp words word)
