use Rattle.std.proofs.Common.{◌≡◌, ◌++◌, false, take, map}
use Rattle.std.specs.List.{list_any}
use Rattle.lrc_world.specs.World.{seen_flying, shown_new, is_long}
use Rattle.lrc_world.proofs.world.send_each.Given as goal

-- the messages so far are in flight, and none of them is too long
abbrev pub invariant-loop-envelope : goal.invariant-loop-envelope
invariant-loop-envelope l = (map seen_flying l.flight.items ≡ map seen_flying l.fn.flight.items ++ map (shown_new l.stamp) (take l.envelope-index l.out))
    × (list_any is_long (take l.envelope-index l.out) ≡ false)
