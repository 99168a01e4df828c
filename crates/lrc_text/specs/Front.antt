-- What stands of a text.
use Rattle.std.specs.Prelude.{ℕ, List, ◌≡◌, ◌++◌}

-- the text begins with this
pub record BeginsWith (text front : List ℕ) : Type 0 where
  pub rest : List ℕ
  pub whole : text ≡ front ++ rest
