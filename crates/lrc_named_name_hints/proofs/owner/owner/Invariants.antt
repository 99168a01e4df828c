-- The tokens so far stand inside brackets.
use Rattle.std.proofs.Common.{◌≡◌, ◌≤◌, ◌+◌, ◌-◌, map}
use Rattle.lrc_named_tokens.specs.View.{located_of}
use Rattle.lrc_named_name_hints.specs.Owner.{owner}
use Rattle.lrc_named_name_hints.proofs.owner.owner.Given as goal

abbrev pub invariant-loop-back : goal.invariant-loop-back
invariant-loop-back l = record {
  same : owner (map located_of l.tokens) (l.count - l.back) l.depth ≡ owner (map located_of l.tokens) l.count l.fn.opened;
  few : l.depth ≤ 1 + l.back;
}
