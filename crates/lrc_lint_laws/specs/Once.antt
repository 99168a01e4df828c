-- Lists in which nothing stands twice.
use Rattle.std.specs.Prelude.{◌≡◌, ℕ, List, Some, slice_get}

-- whatever stands at two places of the list, it is one place
abbrev pub IsOnce : {A : Type 0} → List A → Type 0
IsOnce {A} items = (i j : ℕ) (item : A) → slice_get items i ≡ Some item → slice_get items j ≡ Some item → i ≡ j
