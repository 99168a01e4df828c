-- A line for each position of which something is so.
use Rattle.std.specs.Prelude.{ℕ, List, [], ◌∷◌, ◌++◌}
use Rattle.lrc_why_chains.specs.Writes.{AreExactly}

-- the text has these positions' lines, in order, each as it is to be
pub data AreLinesOf (Tells : ℕ → List ℕ → Type 0) : (positions text : List ℕ) → Type 0 where
  no_lines : AreLinesOf Tells [] []
  one_more : {positions text line : List ℕ} {position : ℕ} → AreLinesOf Tells positions text → Tells position line
      → AreLinesOf Tells (positions ++ position ∷ []) (text ++ line)

-- the text has a line for each position of which this is so, once, ascending, and no other
pub record TellsEach (IsSo : ℕ → Type 0) (Tells : ℕ → List ℕ → Type 0) (text : List ℕ) : Type 0 where
  pub positions : List ℕ
  pub are : AreExactly IsSo positions
  pub lines : AreLinesOf Tells positions text
