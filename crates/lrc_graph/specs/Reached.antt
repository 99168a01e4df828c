-- Places that are reached one after the other.
use Rattle.std.specs.Prelude.{◌≡◌, ℕ, ◌<◌, ◌≤◌, ◌⊎◌, ◌↔◌, true, false, Contains, count_by, length, slice_index, slice_index_or}
use Rattle.lrc_graph.specs.declared.reached.Reached.{Reached}

-- a place is reached
abbrev pub Has : Reached → ℕ → Type 0
Has reached place = slice_index_or reached.is.items place false ≡ true

-- the places in the list are exactly those that are reached, and there are as many
pub record AreListed (reached : Reached) : Type 0 where
  pub listed : (place : ℕ) → Has reached place → Contains reached.places.items place
  pub known : (index : ℕ) → index < length reached.places.items → Has reached (slice_index reached.places.items index)
  pub count : length reached.places.items ≡ count_by (λ b. b) reached.is.items

-- what was listed stays where it is, and exactly the places are reached besides for which something is so
pub record Adds (old new : Reached) (IsSo : ℕ → Type 0) : Type 0 where
  pub size : length new.is.items ≡ length old.is.items
  pub longer : length old.places.items ≤ length new.places.items
  pub stays : (index : ℕ) → index < length old.places.items → slice_index new.places.items index ≡ slice_index old.places.items index
  pub exact : (place : ℕ) → Has new place ↔ (Has old place ⊎ IsSo place)
