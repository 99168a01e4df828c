-- What a node has of the shared memory: of each word a value and a mark.
use Rattle.std.specs.Prelude.{ℕ, ◌==◌, ◌&&◌, ◌||◌, Bool, true, Option, Some, None, nat_lt}

-- The rank of an interval: its weight and its node. Ranks are ordered by weight first.
pub record Rank : Type 0 where
  pub weight : ℕ
  pub node : ℕ

-- whether a rank is lower than another
abbrev pub is_lower : Rank → Rank → Bool
is_lower a b = nat_lt a.weight b.weight || (a.weight == b.weight && nat_lt a.node b.node)

-- A word of a node: its value, and the rank of the interval that it was learned from, unless the node has accessed its page since.
pub record Word : Type 0 where
  pub value : ℕ
  pub mark : Option Rank

-- whether a change of this rank takes the place of what a word with this mark has
abbrev pub replaces : Rank → Option Rank → Bool
replaces rank None = true
replaces rank (Some mark) = is_lower mark rank

-- What an interval did: its weight, of each word the value to which it changed it, if it did, and on which pages it wrote.
pub record Interval : Type 0 where
  pub weight : ℕ
  pub changed : ℕ → Option ℕ
  pub names : ℕ → Bool
