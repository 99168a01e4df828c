-- Lists in words.
use Rattle.std.specs.Prelude.{ℕ, ◌==◌, List, [], ◌∷◌, ◌++◌, codes, if◌then◌else◌}
use Rattle.lrc_text.specs.Each.{each}

-- what stands before an item: a sign, but before the first nothing
abbrev pub before : ℕ → List ℕ → List ℕ
before place sign = if place == 0 then [] else sign

-- items in words, with a sign between each two
abbrev pub separated : {X : Type 0} → List ℕ → (X → List ℕ) → List X → List ℕ
separated sign text_of items = each (λ place item. before place sign ++ text_of item) items

-- the same, or a dash where there is no item
abbrev pub separated_or_dash : {X : Type 0} → List ℕ → (X → List ℕ) → List X → List ℕ
separated_or_dash sign text_of [] = codes "-"
separated_or_dash sign text_of (first ∷ more) = separated sign text_of (first ∷ more)
