use Rattle.std.proofs.Common.{◌≡◌, [], length}
use Rattle.std.specs.List.{flat_map}
use Rattle.lrc_race.proofs.rows.Rows.new.Given as goal

-- there are as many rows, and no places in them
abbrev pub invariant-loop : goal.invariant-loop
invariant-loop l = (length l.rows.items ≡ l.counter) × (flat_map (λ row. row.items) l.rows.items ≡ [])
