-- What splitting a line says.
use Rattle.std.specs.Prelude.{◌≢◌, ℕ, List, [], ◌∷◌}

-- the byte stands nowhere in the text
abbrev pub Lacks : ℕ → List ℕ → Type 0
Lacks x [] = Unit {0}
Lacks x (y ∷ ys) = (y ≢ x) × Lacks x ys
