-- Those of the positions so far.
use Rattle.std.proofs.Common.{◌≡◌, ℕ, Some}
use Rattle.std.specs.Prelude.{slice_get}
use Rattle.lrc_why.specs.Spread.{OfEach}
use Rattle.lrc_step.specs.Rivals.{AreRivals}
use Rattle.lrc_step.proofs.rivals.rivals_of_each.Given as goal

abbrev pub invariant-loop-position : goal.invariant-loop-position
invariant-loop-position l =
    OfEach l.position-index
    (λ place all. (position : ℕ) → slice_get l.positions place ≡ Some position → AreRivals l.acts l.lines l.nodes position all.items) l.each.items
