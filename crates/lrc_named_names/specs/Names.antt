-- The table of what is declared.
use Rattle.std.specs.Prelude.{ℕ, Option, Some, None, List, option_map, slice_get}
use Rattle.std.specs.List.{position_or_len}
use Rattle.std.specs.Str.{bytes_eq}
use Rattle.lrc_named_tree.specs.Tree.{Named, Expression}

-- a shared word, a lock or an array of them: the number of its first word or lock, and the size for each index
pub record Item : Type 0 where
  pub first : ℕ
  pub sizes : List ℕ

-- what a declared name means
pub data Meaning : Type 0 where
  constant : ℕ → Meaning
  shared : Item → Meaning
  lock : Item → Meaning
  function : List Named → Expression → Meaning

-- a declared name
pub record Declared : Type 0 where
  pub name : List ℕ
  pub meaning : Meaning

-- the place of a name among the declared ones; of one that is not declared, how many these are
abbrev pub place_of : List Declared → List ℕ → ℕ
place_of declared name = position_or_len (λ (d : Declared). bytes_eq d.name name) declared

-- what is declared at a place
abbrev pub meaning_at : List Declared → ℕ → Option Meaning
meaning_at declared place = option_map (λ (d : Declared). d.meaning) (slice_get declared place)

-- what a name means, where it is declared
abbrev pub meaning_of : List Declared → List ℕ → Option Meaning
meaning_of declared name = meaning_at declared (place_of declared name)

abbrev pub IsFunction : Option Meaning → Type 0
IsFunction None = ⊥
IsFunction (Some (constant n)) = ⊥
IsFunction (Some (shared item)) = ⊥
IsFunction (Some (lock item)) = ⊥
IsFunction (Some (function parameters body)) = Unit {0}
