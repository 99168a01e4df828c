use Rattle.std.proofs.Common.{◌≡◌, ◌<◌, ◌≤◌, ℕ, [], length, get_or}
use Rattle.lrc_store.specs.Rows.{RowRecord}
use Rattle.lrc_store.proofs.nodes.clear_rows.Given as goal

abbrev pub invariant-loop-at : goal.invariant-loop-at
invariant-loop-at l =
    (length l.rows ≡ length l.initial.rows)
    × ((k : ℕ) (d : RowRecord) → k < l.at → (get_or l.rows k d).places ≡ [])
    × ((k : ℕ) (d : RowRecord) → k < l.at → length (get_or l.initial.rows k d).places ≤ (get_or l.rows k d).room)
    × ((k : ℕ) (d : RowRecord) → l.at ≤ k → get_or l.rows k d ≡ get_or l.initial.rows k d)
