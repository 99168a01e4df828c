-- What the statements come from that the loop has passed.
use Rattle.std.proofs.Common.{◌≡◌, ◌++◌, map, take}
use Rattle.lrc_named_core.specs.View.{block_of, origin_of}
use Rattle.lrc_named_origins.specs.Origins.{origins_of}
use Rattle.lrc_named_origins.proofs.origins.+origins.Given as goal

abbrev pub invariant-push_origins-loop-statement : goal.invariant-push_origins-loop-statement
invariant-push_origins-loop-statement l =
    map origin_of l.origins.items ≡ map origin_of l.initial.origins.items ++ origins_of (block_of (take l.statement-index l.statements))
