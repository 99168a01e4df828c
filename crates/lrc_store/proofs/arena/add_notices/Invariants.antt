use Rattle.std.proofs.Common.{◌≡◌, ◌≤◌, ◌++◌, map, take}
use Rattle.std.specs.Vec.{vec_capacity}
use Rattle.lrc_store.specs.Arena.{fresh_in}
use Rattle.lrc_store.proofs.arena.add_notices.Given as goal

abbrev pub invariant-loop-page : goal.invariant-loop-page
invariant-loop-page l =
    (l.notices.items ≡ l.initial.notices.items ++ map (fresh_in l.interval) (take l.page-index l.page-items))
    × (vec_capacity l.initial.notices ≤ vec_capacity l.notices)
