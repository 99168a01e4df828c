-- What is kept of several tokens.
use Rattle.std.specs.Prelude.{List, [], ◌∷◌, Option, Some, None}
use Rattle.lrc_named_tree.specs.Grammar.{Numbered}
use Rattle.lrc_named_expression.specs.Partial.{Partial, partial_with}

-- behind these tokens, or None where one of them cannot stand
abbrev pub run : Option Partial → List Numbered → Option Partial
run x [] = x
run None (first ∷ more) = None
run (Some x) (first ∷ more) = run (partial_with x first.index first.token) more
