-- None of the tables so far has it.
use Rattle.std.proofs.Common.{◌≡◌, ◌<◌, ℕ, [], map, get_or}
use Rattle.std.specs.Prelude.{false}
use Rattle.lrc_lint_warned.proofs.held.first_held.Given as goal

abbrev pub invariant-loop-lock : goal.invariant-loop-lock
invariant-loop-lock l = (k : ℕ) → k < l.lock → get_or (get_or (map (λ t. t.items) l.tables) k []) l.i false ≡ false
