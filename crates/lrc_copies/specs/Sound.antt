-- When the changes of intervals can be relied on, and what they make of a copy.
use Rattle.std.specs.Prelude.{◌≡◌, ℕ, ◌<◌, ◌≤◌, ◌⊎◌, ◌==◌, Bool, IsTrue, Option, Some, None, unwrap_or}
use Rattle.std.specs.Prelude.{if◌then◌else◌, List, [], ◌∷◌, ◌++◌, filter, fold, Contains, AllPairs}
use Rattle.lrc_copies.specs.Word.{WordHistory, IsWriter, IsBelowNone, Fits}

-- the members of the list that are below the interval
abbrev pub those_below : {A : Type 0} → WordHistory A → List A → A → List A
those_below w all x = filter (λ a. w.below a x) all

-- a member below another weighs less
abbrev pub IsLighterBelow : {A : Type 0} → WordHistory A → List A → Type 0
IsLighterBelow {A} w all = (a b : A) → Contains all a → Contains all b → IsTrue (w.below a b) → w.weight a < w.weight b

-- The list is sound:
pub record IsSoundList {A : Type 0} (w : WordHistory A) (all : List A) : Type 0 where
  -- what is below weighs less,
  pub lighter : IsLighterBelow w all
  -- what a member's changes give is what it wrote last,
  pub change : (a : A) (value : ℕ) → Contains all a → w.change a ≡ Some value → w.wrote a ≡ Some value
  -- and where a member wrote the word and its changes do not say so, a silent write, what it wrote fits what is below it.
  pub silent : (a : A) (value : ℕ) → Contains all a → w.wrote a ≡ Some value → w.change a ≡ None
      → Fits w value (those_below w all a)

-- ---- closing

-- An interval is added after all others:
pub record IsAddedLast {A : Type 0} (weight : A → ℕ) (below : A → A → Bool) (all : List A) (x : A) : Type 0 where
  -- what is below it weighs less,
  pub lighter : (a : A) → Contains all a → IsTrue (below a x) → weight a < weight x
  -- and it is below none, nor below itself.
  pub newest : (a : A) → Contains (all ++ x ∷ []) a → ¬ IsTrue (below x a)

-- what the changes between twin and copy say of one word: the copy's value, where the two differ
abbrev pub difference : ℕ → ℕ → Option ℕ
difference twin value = if twin == value then None else Some value

-- An interval is closed, whose twin had one value at the word and whose copy has another:
pub record IsClosedFrom {A : Type 0} (w : WordHistory A) (all : List A) (x : A) (twin value : ℕ) : Type 0 where
  -- the twin fits what is below it,
  pub fits : Fits w twin (those_below w all x)
  -- the copy has what it wrote last, or else what the twin has,
  pub copy : value ≡ unwrap_or (w.wrote x) twin
  -- and its change is what differs.
  pub change : w.change x ≡ difference twin value

-- ---- repair

-- a value once the changes of intervals were applied, one after another
abbrev pub repaired_value : {A : Type 0} → WordHistory A → ℕ → List A → ℕ
repaired_value w value xs = fold (λ v a. unwrap_or (w.change a) v) value xs

-- One interval can be added to a list:
pub record IsAddable {A : Type 0} (w : WordHistory A) (all xs : List A) (x : A) : Type 0 where
  -- it is one of all,
  pub member : Contains all x
  -- all writers below it are in,
  pub complete : (a : A) (value : ℕ) → IsWriter w all a value → IsTrue (w.below a x) → Contains xs a
  -- and it is below no writer that is in.
  pub newer : IsBelowNone w x xs

-- Several can, one after another:
pub record AreAddable {A : Type 0} (w : WordHistory A) (all xs more : List A) : Type 0 where
  -- they are some of all,
  pub members : (x : A) → Contains more x → Contains all x
  -- all writers below one of them are in, or among them,
  pub complete : (x a : A) (value : ℕ) → Contains more x → IsWriter w all a value → IsTrue (w.below a x)
      → Contains xs a ⊎ Contains more a
  -- none is below a writer that is in,
  pub newer : (x : A) → Contains more x → IsBelowNone w x xs
  -- and they stand by rising weight.
  pub rising : AllPairs (λ a b. w.weight a ≤ w.weight b) more
