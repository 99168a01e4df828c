-- The names in the statements that the loop has passed.
use Rattle.std.proofs.Common.{◌≡◌, ◌++◌, map, take}
use Rattle.lrc_named_core.specs.View.{block_of}
use Rattle.lrc_named_held.specs.Owns.{owns_among}
use Rattle.lrc_named_held.proofs.owns.+owns.Given as goal

abbrev pub invariant-push_among-loop-statement : goal.invariant-push_among-loop-statement
invariant-push_among-loop-statement l =
    map (λ one. one.items) l.all.items
    ≡ map (λ one. one.items) l.initial.all.items ++ owns_among (block_of (take l.statement-index l.statements))
