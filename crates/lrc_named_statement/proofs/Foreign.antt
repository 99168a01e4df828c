-- The end of the text stands in no expression and in no statement.
use Rattle.std.proofs.Common.{◌≡◌, ℕ, Bool, true, false, List, [], ◌∷◌, Option, Some, None, refl, ap}
use Rattle.lrc_named_tokens.specs.Token.{finish}
use Rattle.lrc_named_tree.specs.Tree.{Expression, Block}
use Rattle.lrc_named_tree.specs.Tree as tree
use Rattle.lrc_named_expression.specs.Partial.{Level, Around, Place, Partial, close, moved, partial_with, value_of}
use Rattle.lrc_named_expression.specs.Partial.{at_test, at_factor, after_name, after_index, after_call, after_operand, whole_of}
use Rattle.lrc_named_statement.specs.Body as body
use Rattle.lrc_named_statement.specs.Body.{Body, Purpose, Spot, body_with, ended_or_continued, continued, is_ending}

close_refused : (outer : List Around) (inside : Expression) (i : ℕ) → close outer inside i finish ≡ None
close_refused [] inside i = refl
close_refused (a ∷ outer) inside i = refl

place_refused : (outer : List Around) (level : Level) (place : Place) (i : ℕ) → moved outer level place i finish ≡ None
place_refused outer level at_test i = refl
place_refused outer level at_factor i = refl
place_refused outer level (after_name n) i = close_refused outer (whole_of level (tree.element n tree.none n.at)) i
place_refused outer level (after_index n others last) i = close_refused outer (whole_of level (tree.element n others last)) i
place_refused outer level (after_call n) i = refl
place_refused outer level (after_operand operand) i = close_refused outer (whole_of level operand) i

pub partial_refused : (x : Partial) (i : ℕ) → partial_with x i finish ≡ None
partial_refused x i = place_refused x.outer x.level x.place i

no_ending : (purpose : Purpose) → is_ending purpose finish ≡ false
no_ending (body.index_of t n others) = refl
no_ending (body.given p update) = refl
no_ending (body.printed first others) = refl
no_ending (body.asserted first) = refl
no_ending (body.if_condition first) = refl
no_ending (body.arm_condition b first) = refl
no_ending (body.while_condition first) = refl
no_ending (body.for_first first n) = refl
no_ending (body.for_end first n from) = refl

expression_refused : (outer : List body.Around) (before : Block) (purpose : Purpose) (value : Option Expression) (is : Bool) (next : Option Partial) →
    is ≡ false → next ≡ None → ended_or_continued outer before purpose value is next finish ≡ None
expression_refused outer before purpose (Some v) true next e q = absurd (cc)
expression_refused outer before purpose (Some v) false next e q = ap (continued outer before purpose) q
expression_refused outer before purpose None true next e q = absurd (cc)
expression_refused outer before purpose None false next e q = ap (continued outer before purpose) q

spot_refused : (outer : List body.Around) (before : Block) (spot : Spot) (i : ℕ) → body.moved outer before spot i finish ≡ None
spot_refused outer before body.at_statement i = refl
spot_refused outer before (body.before_place t) i = refl
spot_refused outer before (body.after_place t n others) i = refl
spot_refused outer before (body.in_expression purpose x) i =
    expression_refused outer before purpose (value_of x) (is_ending purpose finish) (partial_with x i finish) (no_ending purpose) (partial_refused x i)
spot_refused outer before (body.before_end s) i = refl
spot_refused outer before (body.before_name first) i = refl
spot_refused outer before (body.before_in first n) i = refl
spot_refused outer before (body.after_branch b) i = refl
spot_refused outer before (body.after_else b) i = refl

pub body_refused : (b : Body) (i : ℕ) → body_with b i finish ≡ None
body_refused b i = spot_refused b.outer b.before b.spot i
