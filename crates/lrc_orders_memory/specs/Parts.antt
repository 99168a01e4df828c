-- Memories by parts: the words that a number stands for.
use Rattle.std.specs.Prelude.{◌≡◌, ℕ, zero, suc, ◌/◌, List, [], ◌∷◌, ◌++◌, Some, length, nat_eq, slice_get}
use Rattle.std.specs.List.{IsDistinct}
use Rattle.lrc_orders_memory.specs.declared.parts.Halves.{Halves}
use Rattle.lrc_orders_memory.specs.declared.parts.Memory.{Memory}
use Rattle.lrc_orders_memory.specs.declared.parts.Parts.{Parts}
use Rattle.lrc_orders_memory.specs.contracts.parts.HalvesPartialEq.TheImpl.{eq-value as halves_eq}

-- the words whose halves stand at this number: the first is as long as the second, or one shorter
pub record AreHalvesAt (keys : List Halves) (number : ℕ) (words : List ℕ) (AreAt : ℕ → List ℕ → Type 0) : Type 0 where
  pub halves : Halves
  pub there : slice_get keys number ≡ Some halves
  pub first : List ℕ
  pub second : List ℕ
  pub whole : words ≡ first ++ second
  pub half : length first ≡ length words / 2
  pub first_at : AreAt halves.first first
  pub second_at : AreAt halves.second second

-- the words with this number, halved at most so many times; where there are none, it is 0
abbrev pub AreWordsAt : Parts → (levels : ℕ) → (number : ℕ) → List ℕ → Type 0
AreWordsAt parts levels number [] = number ≡ 0
AreWordsAt parts levels number (word ∷ []) = slice_get parts.words.keys number ≡ Some word
AreWordsAt parts zero number (word ∷ other ∷ more) = ⊥
AreWordsAt parts (suc levels) number (word ∷ other ∷ more) =
    AreHalvesAt parts.halves.keys number (word ∷ other ∷ more) (λ n words. AreWordsAt parts levels n words)

-- some words have this number, so many of them
pub record HaveWords (parts : Parts) (count number : ℕ) : Type 0 where
  pub levels : ℕ
  pub words : List ℕ
  pub long : count ≡ length words
  pub at : AreWordsAt parts levels number words

-- the words of a memory
pub record IsMemory (parts : Parts) (memory : Memory) (words : List ℕ) : Type 0 where
  pub long : memory.count ≡ length words
  pub at : AreWordsAt parts memory.count memory.number words

abbrev pub HasMemory : Parts → Memory → Type 0
HasMemory parts memory = (words : List ℕ) × IsMemory parts memory words

-- no two words are equal, and no two halves
pub record ArePartsDistinct (parts : Parts) : Type 0 where
  pub words : IsDistinct nat_eq parts.words.keys
  pub halves : IsDistinct halves_eq.it parts.halves.keys

-- each stands where it stood
pub record Stays {A : Type 0} (old new : List A) : Type 0 where
  pub each : (k : ℕ) (x : A) → slice_get old k ≡ Some x → slice_get new k ≡ Some x

pub record KeepsParts (old new : Parts) : Type 0 where
  pub words : Stays old.words.keys new.words.keys
  pub halves : Stays old.halves.keys new.halves.keys
