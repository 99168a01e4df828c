-- Counts of what a node has done: intervals closed, arrivals and departures.
use Rattle.std.specs.Prelude.{ℕ, Bool, List, length, filter}
use Rattle.lrc_trace.specs.declared.act.Deed.{Deed}
use Rattle.lrc_protocol.specs.Node.{Wait, grant, departure, upkeep, discard}
-- whether a deed closes an interval, arrives at a barrier, or departs from it
pub use Rattle.lrc_trace.specs.Interval.{closes}
pub use Rattle.lrc_trace.specs.Run.{is_arrive, is_depart}

-- how many of these deeds are so
abbrev pub count : (Deed → Bool) → List Deed → ℕ
count test deeds = length (filter test deeds)

-- 1 for who waits for a grant: the interval is closed, and the acquire is still to come
abbrev pub awaits_acquire : Wait → ℕ
awaits_acquire (grant lock) = 1
awaits_acquire _ = 0

-- 1 for who is inside a barrier: it has arrived, and the departure is still to come
abbrev pub is_inside : Wait → ℕ
is_inside departure = 1
is_inside (upkeep collection needs) = 1
is_inside (discard collection) = 1
is_inside _ = 0
