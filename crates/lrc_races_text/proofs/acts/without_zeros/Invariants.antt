-- The digits left write the same number.
use Rattle.std.proofs.Common.{◌≡◌, length}
use Rattle.std.specs.Str.Parse.{IsNumeral, digits_value}
use Rattle.lrc_races_text.proofs.acts.without_zeros.Given as goal

abbrev pub invariant-loop-first : goal.invariant-loop-first
invariant-loop-first l = (digits_value 10 l.left ≡ digits_value 10 l.digits) × (IsNumeral 10 l.digits → IsNumeral 10 l.left)

abbrev pub decreases-loop-first : goal.decreases-loop-first
decreases-loop-first l = length l.left
