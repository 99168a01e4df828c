-- How what is kept of a word is made anew, for one after another of those who know.
use Rattle.std.specs.Prelude.{◌≡◌, ℕ, ◌⊎◌, ◌↔◌, ◌==◌, Some, List, [], if◌then◌else◌, length, slice_get, slice_index_or, false, Contains}
use Rattle.lrc_lazy_known.specs.declared.known.Last.{Last}
use Rattle.lrc_lazy_known.specs.declared.known.Last.TheVariants.{Nothing}
use Rattle.lrc_lazy_known.specs.declared.known.Known.{Known}
use Rattle.lrc_lazy_known.specs.Word.{last_of, values_of, row_of, last_by, source_of, above_learned, last_then, above_written, number_before}

-- there are so many, and each is as it should be
pub record AreEach {A : Type 0} (is : ℕ → A → Type 0) (items : List A) (count : ℕ) : Type 0 where
  pub len : length items ≡ count
  pub each : (k : ℕ) (x : A) → slice_get items k ≡ Some x → is k x

-- what the learner learns of another, and the others do not
abbrev pub last_learned : List Known → (learner teacher k : ℕ) → Last
last_learned word learner teacher k =
    if k == learner then last_by (source_of word learner teacher) (last_of word learner) (last_of word teacher) else last_of word k

abbrev pub values_taught : List Known → (learner teacher k : ℕ) → List ℕ
values_taught word learner teacher k = if k == learner then values_of word teacher else []

pub record IsLearnedBy (word : List Known) (learner teacher k : ℕ) (known : Known) : Type 0 where
  pub last : known.last ≡ last_learned word learner teacher k
  pub values : (v : ℕ) → Contains known.values.value.items v ↔ (Contains (values_of word k) v ⊎ Contains (values_taught word learner teacher k) v)
  pub above : (z : ℕ) → slice_index_or known.above.items z false ≡ above_learned word learner teacher k z

-- what the writer writes, and the others do not
abbrev pub last_written : List Known → (writer value k : ℕ) → Last
last_written word writer value k = if k == writer then last_then (last_of word writer) value else last_of word k

pub record IsWrittenBy (word : List Known) (writer value k : ℕ) (known : Known) : Type 0 where
  pub last : known.last ≡ last_written word writer value k
  pub values : (v : ℕ) → Contains known.values.value.items v ↔ (Contains (values_of word k) v ⊎ ((k ≡ writer) × (v ≡ value)))
  pub above : (z : ℕ) → slice_index_or known.above.items z false ≡ above_written word writer k z

-- the same of the one at a place
pub record IsCopyOf (word : List Known) (k : ℕ) (known : Known) : Type 0 where
  pub last : known.last ≡ last_of word k
  pub values : (v : ℕ) → Contains known.values.value.items v ↔ Contains (values_of word k) v
  pub above : (z : ℕ) → slice_index_or known.above.items z false ≡ slice_index_or (row_of word k) z false

-- one knows nothing
pub record IsNothing (known : Known) : Type 0 where
  pub last : known.last ≡ Nothing
  pub values : known.values.value.items ≡ []
  pub above : known.above.items ≡ []

-- so does the one at a place
pub record KnowsNothing (word : List Known) (k : ℕ) : Type 0 where
  pub last : last_of word k ≡ Nothing
  pub values : values_of word k ≡ []
  pub above : row_of word k ≡ []

-- what is left of the one at a place, where some are dropped
pub record IsKnownWithout (word : List Known) (first count k : ℕ) (known : Known) : Type 0 where
  pub last : known.last ≡ last_of word (number_before first count k)
  pub values : (v : ℕ) → Contains known.values.value.items v ↔ Contains (values_of word (number_before first count k)) v
  pub above : (z : ℕ) → slice_index_or known.above.items z false
      ≡ slice_index_or (row_of word (number_before first count k)) (number_before first count z) false
