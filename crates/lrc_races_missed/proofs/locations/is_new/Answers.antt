-- Both orders are looked for, among what was met and among the claims.
use Rattle.lrc_races_missed.proofs.Testing.{fresh, stale}
use Rattle.lrc_races_missed.proofs.locations.is_new.Goals as goal

pub returns-then-are_there : goal.returns-then-are_there
returns-then-are_there c =
    stale c.args.met.now.keys c.args.keys.now.keys c.args.both (λ new. new.straight (c.are_there.ensures.0 c.if-are_there.true))

pub returns-then-are_there-2 : goal.returns-then-are_there-2
returns-then-are_there-2 c =
    stale c.args.met.now.keys c.args.keys.now.keys c.args.both (λ new. new.crossed (c.are_there-2.ensures.0 c.if-are_there-2.true))

pub returns-then-is_among : goal.returns-then-is_among
returns-then-is_among c =
    stale c.args.met.now.keys c.args.keys.now.keys c.args.both (λ new. new.unclaimed (c.is_among.ensures.0 c.if-is_among.true))

pub returns : goal.returns
returns c =
    fresh c.args.met.now.keys c.args.keys.now.keys c.args.both c.are_there.result c.are_there-2.result c.is_among.result c.is_among-2.result
    c.if-are_there.false c.if-are_there-2.false c.if-is_among.false c.are_there.ensures c.are_there-2.ensures c.is_among.ensures c.is_among-2.ensures
