-- The indices that begin at a token.
use Rattle.std.specs.Prelude.{ℕ, ◌+◌, ◌==◌, List, [], ◌∷◌, ◌++◌, if◌then◌else◌}
use Rattle.lrc_named_tree.specs.Ends.{first_of}
use Rattle.lrc_named_tree.specs.Tree.{Named, Expression, Expressions, number, me, nodes, element, call, group, negation, binary, both, either, none, more}
use Rattle.lrc_named_tree.specs.View.{expression_of, named_of}
use Rattle.lrc_named_statement_faults.specs.Parts.{Part, target, lock_place, counter, value}
use Rattle.lrc_named_index_hint.specs.declared.spots.Spot as code_spot

-- an index: of which name, how many indices of that name stand before it, and the index
pub record Spot : Type 0 where
  pub name : Named
  pub number : ℕ
  pub index : Expression

abbrev pub spot_seen : code_spot.Spot → Spot
spot_seen s = record { name = named_of s.name; number = s.number; index = expression_of s.index.now }

-- an index, where it begins at the token
abbrev pub spot_at : (at : ℕ) → Spot → List Spot
spot_at at spot = if first_of spot.index == at then spot ∷ [] else []

-- those of the indices of a name, of which so many stand before these; and none of those inside them
abbrev pub spots_among : (at : ℕ) → Named → (before : ℕ) → Expressions → List Spot
spots_among at named before none = []
spots_among at named before (more e others) =
    spot_at at (record { name = named; number = before; index = e }) ++ spots_among at named (before + 1) others

-- those in an expression, and in each of these
abbrev mutual
  pub spots_in : (at : ℕ) → Expression → List Spot
  spots_in at (number own n) = []
  spots_in at (me own) = []
  spots_in at (nodes own) = []
  spots_in at (element named indices last) = spots_among at named 0 indices ++ spots_in_all at indices
  spots_in at (call named arguments close) = spots_in_all at arguments
  spots_in at (group opens e close) = spots_in at e
  spots_in at (negation own e) = spots_in at e
  spots_in at (binary left o right) = spots_in at left ++ spots_in at right
  spots_in at (both left right) = spots_in at left ++ spots_in at right
  spots_in at (either left right) = spots_in at left ++ spots_in at right

  pub spots_in_all : (at : ℕ) → Expressions → List Spot
  spots_in_all at none = []
  spots_in_all at (more e others) = spots_in at e ++ spots_in_all at others

-- those in a part of a statement, and in each of these
abbrev pub spots_in_part : (at : ℕ) → Part → List Spot
spots_in_part at (target p) = spots_among at p.name 0 p.indices ++ spots_in_all at p.indices
spots_in_part at (lock_place p) = spots_among at p.name 0 p.indices ++ spots_in_all at p.indices
spots_in_part at (counter named) = []
spots_in_part at (value e) = spots_in at e

abbrev pub spots_in_parts : (at : ℕ) → List Part → List Spot
spots_in_parts at [] = []
spots_in_parts at (part ∷ others) = spots_in_part at part ++ spots_in_parts at others
