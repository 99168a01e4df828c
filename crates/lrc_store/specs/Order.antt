-- Parts of a list, put in order.
use Rattle.std.specs.Prelude.{Bool, IsTrue, ◌↔◌, List, [], ◌∷◌, Contains, AllPairs, if◌then◌else◌}

-- a list with exactly those elements of another that pass a test, each before all that follow it, and so each once
pub record IsAscendingPart {X : Type 0} (before : X → X → Bool) (test : X → Bool) (all part : List X) : Type 0 where
  pub exactly : (x : X) → Contains part x ↔ (Contains all x × IsTrue (test x))
  pub ascending : AllPairs (λ a b. IsTrue (before a b)) part

-- an element put before the first that it comes before
abbrev pub placed : {X : Type 0} → (X → X → Bool) → X → List X → List X
placed before x [] = x ∷ []
placed before x (y ∷ ys) = if before x y then x ∷ y ∷ ys else y ∷ placed before x ys

-- the elements that pass the test, in order
abbrev pub ascending_part : {X : Type 0} → (X → X → Bool) → (X → Bool) → List X → List X
ascending_part before test [] = []
ascending_part before test (x ∷ xs) =
    if test x then placed before x (ascending_part before test xs) else ascending_part before test xs
