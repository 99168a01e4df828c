use Rattle.std.proofs.Common.{◌≡◌, ◌≤◌, ◌+◌, ℕ, [], length}
use Rattle.std.specs.Prelude.{All, slice_index_or}
use Rattle.lrc_exec.specs.Flat.{rest_at}
use Rattle.lrc_orders_laws.specs.Names.{matters_still}
use Rattle.lrc_orders_live.specs.Live.{AreNames}
use Rattle.lrc_orders_live.proofs.live.live_names.Given as goal

abbrev pub invariant-loop-instruction : goal.invariant-loop-instruction
invariant-loop-instruction l =
    (length l.table.items ≡ l.instruction-index + 1) × All (λ names. length names ≡ 32) l.table.items
    × ((place : ℕ) → place ≤ l.instruction-index → AreNames (slice_index_or l.table.items place []) (matters_still (rest_at l.code place)))
