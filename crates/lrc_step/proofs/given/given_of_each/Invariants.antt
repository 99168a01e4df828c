-- Those of the positions so far.
use Rattle.std.proofs.Common.{◌≡◌, ℕ, Some}
use Rattle.std.specs.Prelude.{slice_get}
use Rattle.lrc_why.specs.Spread.{OfEach}
use Rattle.lrc_step.specs.Given.{IsGivenIfRead}
use Rattle.lrc_step.proofs.given.given_of_each.Given as goal

abbrev pub invariant-loop-position : goal.invariant-loop-position
invariant-loop-position l =
    OfEach l.position-index
    (λ place given. (position : ℕ) → slice_get l.positions place ≡ Some position → IsGivenIfRead l.acts position given) l.each.items
