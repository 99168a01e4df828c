-- What nodes share, by number.
use Rattle.std.specs.Prelude.{◌≡◌, ℕ, ◌<◌, List, Option, Some, length, slice_get}
use Rattle.std.specs.List.{IsDistinct}
use Rattle.lrc_orders_memory.specs.declared.sharing.Shared.{Shared}
use Rattle.lrc_orders_memory.specs.declared.sharing.AllShared.{AllShared}
use Rattle.lrc_orders_memory.specs.contracts.sharing.SharedPartialEq.TheImpl.{eq-value as shared_eq}
use Rattle.lrc_orders_memory.specs.Parts.{ArePartsDistinct, IsMemory, KeepsParts, Stays}

-- the words and the holders of locks with this number
pub record IsSharedAt (all : AllShared) (number : ℕ) (words : List ℕ) (holders : List (Option ℕ)) : Type 0 where
  pub shared : Shared
  pub there : slice_get all.kept.keys number ≡ Some shared
  pub memory : IsMemory all.parts shared.memory words
  pub holders_are : shared.holders.items ≡ holders

-- some have it
pub record HasShared (all : AllShared) (number : ℕ) : Type 0 where
  pub words : List ℕ
  pub holders : List (Option ℕ)
  pub at : IsSharedAt all number words holders

-- and a word at this place, or a lock
pub record HasWord (all : AllShared) (number place : ℕ) : Type 0 where
  pub words : List ℕ
  pub holders : List (Option ℕ)
  pub at : IsSharedAt all number words holders
  pub within : place < length words

pub record HasLock (all : AllShared) (number lock : ℕ) : Type 0 where
  pub words : List ℕ
  pub holders : List (Option ℕ)
  pub at : IsSharedAt all number words holders
  pub within : lock < length holders

-- no two are equal, and no two parts of them
pub record AreSharedDistinct (all : AllShared) : Type 0 where
  pub parts : ArePartsDistinct all.parts
  pub kept : IsDistinct shared_eq.it all.kept.keys

-- each stands where it stood
pub record KeepsShared (old new : AllShared) : Type 0 where
  pub parts : KeepsParts old.parts new.parts
  pub kept : Stays old.kept.keys new.kept.keys
