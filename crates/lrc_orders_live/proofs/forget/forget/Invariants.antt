use Rattle.std.proofs.Common.{◌≡◌, ◌<◌, ◌≤◌, ℕ, get_or, length}
use Rattle.std.specs.Prelude.{if◌then◌else◌, false}
use Rattle.lrc_orders_live.proofs.forget.forget.Given as goal

abbrev pub invariant-loop-name : goal.invariant-loop-name
invariant-loop-name l =
    (length l.privates ≡ length l.initial.privates)
    × ((k : ℕ) → k < l.name → get_or l.privates k 0 ≡ (if get_or l.live k false then get_or l.initial.privates k 0 else 0))
    × ((k : ℕ) → l.name ≤ k → get_or l.privates k 0 ≡ get_or l.initial.privates k 0)
