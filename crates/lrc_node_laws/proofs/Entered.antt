-- Who is inside a barrier has arrived at one.
use Rattle.std.proofs.Common.{ℕ, ◌≤◌, Bool, ap, arith}
use Rattle.lrc_protocol.specs.Locks.{Locks}
use Rattle.lrc_protocol.specs.Node.{Wait}
use Rattle.lrc_order_laws.specs.Counts.{is_inside}
use Rattle.lrc_order_laws.proofs.Shift.{Part, Shift, plain, misses, takes, asks, releasing, arriving, manages, forwarding, grants, departing}
use Rattle.lrc_order_laws.proofs.Shift.{collecting, clean_at_once, discarding, accessing, still_misses, still_collects, cleaning, rests}

pub entered-kept : (p : Part) → is_inside p.wait ≤ p.episode
    → (acts : Bool) (wait : Wait) (locks : Locks) (episode : ℕ) → Shift p acts wait locks episode → is_inside wait ≤ episode
entered-kept p h _ _ _ _ (plain next w n is) = omega arith
entered-kept p h _ _ _ _ (misses w n) = omega arith
entered-kept p h _ _ _ _ (takes lock w n free) = omega arith
entered-kept p h _ _ _ _ (asks w n away) = omega arith
entered-kept p h _ _ _ _ (releasing lock next w n) = omega arith
entered-kept p h _ _ _ _ (arriving next w n) = omega arith
entered-kept p h _ _ _ _ (manages lock from) = h
entered-kept p h _ _ _ _ (forwarding lock asker time) = h
entered-kept p h _ _ _ _ (grants lock time w k) = omega arith
entered-kept p h _ _ _ _ (departing time w k) = omega arith
entered-kept p h _ _ _ _ (collecting time w k same) = omega (arith, h, ap is_inside w)
entered-kept p h _ _ _ _ (clean_at_once time w k same) = omega (arith, h, ap is_inside w)
entered-kept p h _ _ _ _ (discarding collection w) = omega arith
entered-kept p h _ _ _ _ (accessing need w) = omega arith
entered-kept p h _ _ _ _ (still_misses before w) = omega arith
entered-kept p h _ _ _ _ (still_collects before had w same) = omega (arith, h, ap is_inside w)
entered-kept p h _ _ _ _ (cleaning before had w same) = omega (arith, h, ap is_inside w)
entered-kept p h _ _ _ _ rests = h
