-- The translation's own names in the statements of a core, each with the tokens of the expression that it holds.
use Rattle.std.specs.Prelude.{List, [], ◌∷◌, ◌++◌}
use Rattle.lrc_named_core.specs.Tree.{Private, named, own, Expression, number, private, me, nodes, binary}
use Rattle.lrc_named_core.specs.Tree.{Statement, assign, read, write, acquire, release, barrier, print, if_else, while_do, Block, empty, next}
use Rattle.lrc_named_held.specs.declared.owns.Own.{Own}

abbrev pub owns_of_name : Private → List Own
owns_of_name (named bytes) = []
owns_of_name (own count first last) = record { number = count; first = first; last = last } ∷ []

abbrev pub owns_in : Expression → List Own
owns_in (number n) = []
owns_in (private name) = owns_of_name name
owns_in me = []
owns_in nodes = []
owns_in (binary left o right) = owns_in left ++ owns_in right

-- of a statement, those of its blocks aside
abbrev pub owns_of : Statement → List Own
owns_of (assign origin name value) = owns_of_name name ++ owns_in value
owns_of (read origin name word) = owns_of_name name ++ owns_in word
owns_of (write origin word value) = owns_in word ++ owns_in value
owns_of (acquire origin lock) = owns_in lock
owns_of (release origin lock) = owns_in lock
owns_of (barrier origin) = []
owns_of (print origin value) = owns_in value
owns_of (if_else origin condition then otherwise) = owns_in condition
owns_of (while_do origin condition inside) = owns_in condition

abbrev mutual
  -- of each of the statements of its blocks
  pub owns_inside : Statement → List (List Own)
  owns_inside (if_else origin condition then otherwise) = owns_among then ++ owns_among otherwise
  owns_inside (while_do origin condition inside) = owns_among inside
  owns_inside (assign origin name value) = []
  owns_inside (read origin name word) = []
  owns_inside (write origin word value) = []
  owns_inside (acquire origin lock) = []
  owns_inside (release origin lock) = []
  owns_inside (barrier origin) = []
  owns_inside (print origin value) = []

  -- of each statement in the order of the core's text: a statement stands before those of its blocks
  pub owns_among : Block → List (List Own)
  owns_among empty = []
  owns_among (next first rest) = (owns_of first ∷ owns_inside first) ++ owns_among rest
