-- Changes of a word that are learned in parts, one part after another, and the same changes put in place one by one.
use Rattle.std.specs.Prelude.{◌≡◌, ℕ, ◌↔◌, true, List, fold, Contains, AllPairs, Some, None}
use Rattle.lrc_exact.specs.Memory.{Rank, Word, is_lower}
use Rattle.lrc_exact.specs.Rule.{Knowledge, with_news}
use Rattle.lrc_exact_known.specs.Learned.{IsNews}

-- a change of a word: the rank of its interval, and the value that it gives
pub record Change : Type 0 where
  pub rank : Rank
  pub value : ℕ

-- one part of what is learned: all that is news to one who knows so many intervals
pub record Part : Type 0 where
  pub had : List ℕ
  pub news : Knowledge

-- the word once the parts are learned, one after another
abbrev pub learned : (nodes word : ℕ) → List Part → Word → Word
learned nodes word parts now = fold (λ (w : Word) (part : Part). with_news nodes part.had part.news word w) now parts

-- one of the parts has the change
pub record IsInParts (nodes word : ℕ) (parts : List Part) (change : Change) : Type 0 where
  pub part : Part
  pub among : Contains parts part
  pub news : IsNews nodes part.had part.news word change.rank change.value

-- These are the changes that the parts have, each of a lower rank than all behind it.
pub record AreMerged (nodes word : ℕ) (parts : List Part) (changes : List Change) : Type 0 where
  pub same : (change : Change) → Contains changes change ↔ IsInParts nodes word parts change
  pub rising : AllPairs (λ (a b : Change). is_lower a.rank b.rank ≡ true) changes

-- the word with the changes put in place one by one, whatever it has
abbrev pub put : List Change → Word → Word
put changes now = fold (λ (w : Word) (change : Change). record { value = change.value; mark = Some change.rank }) now changes

-- A word without a mark comes to have by parts what it comes to have by their changes one by one, by rising rank.
abbrev pub LearnedIsMerged : Type 0
LearnedIsMerged = (nodes word : ℕ) (parts : List Part) (changes : List Change) (now : Word) → now.mark ≡ None
    → AreMerged nodes word parts changes → learned nodes word parts now ≡ put changes now
