-- What labels that say something never have in common.
use Rattle.std.specs.Prelude.{◌≡◌, ◌≢◌, ℕ, true}
use Rattle.lrc_labels.specs.Reading.{Label}
use Rattle.lrc_labels.specs.Show.{names_lock, names_word}

-- no word and no lock is named by both, and their names differ
pub record AreApart (one other : Label) : Type 0 where
  pub words : (word : ℕ) → names_word one.target word ≡ true → names_word other.target word ≡ true → ⊥
  pub locks : (lock : ℕ) → names_lock one.target lock ≡ true → names_lock other.target lock ≡ true → ⊥
  pub names : one.name ≢ other.name
