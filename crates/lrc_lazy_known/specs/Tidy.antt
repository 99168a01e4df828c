-- How what is kept is written: in one way alone, so that what says the same compares equal.
use Rattle.std.specs.Prelude.{◌≡◌, ℕ, ◌+◌, ◌≤◌, true, Some, List, [], ◌∷◌, length, slice_get}
use Rattle.lrc_lazy_known.specs.declared.known.Known.{Known}
use Rattle.lrc_lazy_known.specs.declared.known.KnownWord.{KnownWord}
use Rattle.lrc_lazy_known.specs.declared.known.Knowledge.{Knowledge}
use Rattle.lrc_lazy_known.specs.Word.{last_of, values_of, row_of, IsSame}
use Rattle.lrc_lazy_known.specs.Made.{IsNothing}
use Rattle.lrc_lazy_known.specs.Effect.{knowers_in}

-- each value is at least the bound, and less than those behind it
abbrev pub AreRisingFrom : (bound : ℕ) → List ℕ → Type 0
AreRisingFrom bound [] = Unit {0}
AreRisingFrom bound (v ∷ vs) = (bound ≤ v) × AreRisingFrom (v + 1) vs

-- each value is less than those behind it
abbrev pub IsRising : List ℕ → Type 0
IsRising values = AreRisingFrom 0 values

-- the last item, if there is one, is so
abbrev pub EndsIn : {A : Type 0} → (A → Type 0) → List A → Type 0
EndsIn {A} is items = (k : ℕ) (x : A) → slice_get items k ≡ Some x → length items ≡ k + 1 → is x

-- one knows something
abbrev pub IsSomething : Known → Type 0
IsSomething known = IsNothing known → ⊥

-- somebody knows something of a word
abbrev pub IsWordOfSome : KnownWord → Type 0
IsWordOfSome word = word.knowers.items ≡ [] → ⊥

-- the values rise, and the row does not end in one whose last write is not known
pub record IsTidyKnown (known : Known) : Type 0 where
  pub values : IsRising known.values.value.items
  pub above : EndsIn (λ b. b ≡ true) known.above.items

-- each is tidy, and the last one knows something
pub record IsTidyWord (word : List Known) : Type 0 where
  pub each : (k : ℕ) (known : Known) → slice_get word k ≡ Some known → IsTidyKnown known
  pub ends : EndsIn IsSomething word

-- each word is tidy, and somebody knows something of the last one
pub record IsTidy (knowledge : Knowledge) : Type 0 where
  pub each : (k : ℕ) (word : KnownWord) → slice_get knowledge.words.items k ≡ Some word → IsTidyWord word.knowers.items
  pub ends : EndsIn IsWordOfSome knowledge.words.items

-- ---- how it is made so

-- it is written as the one at a place
pub record IsWrittenAs (word : List Known) (k : ℕ) (known : Known) : Type 0 where
  pub last : known.last ≡ last_of word k
  pub values : known.values.value.items ≡ values_of word k
  pub above : known.above.items ≡ row_of word k

-- the last ones are cut off, those who know nothing
pub record IsCut (word cut : List Known) : Type 0 where
  pub same : IsSame word cut
  pub kept : (k : ℕ) (known : Known) → slice_get cut k ≡ Some known → slice_get word k ≡ Some known
  pub ends : EndsIn IsSomething cut

-- the last words are cut off, those of which nobody knows anything
pub record AreCut (words cut : List KnownWord) : Type 0 where
  pub same : (k : ℕ) → knowers_in (slice_get cut k) ≡ knowers_in (slice_get words k)
  pub kept : (k : ℕ) (word : KnownWord) → slice_get cut k ≡ Some word → slice_get words k ≡ Some word
  pub ends : EndsIn IsWordOfSome cut
