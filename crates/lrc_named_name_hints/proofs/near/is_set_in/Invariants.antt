-- No two tokens so far set the name.
use Rattle.std.proofs.Common.{◌≡◌, ◌-◌, drop, map}
use Rattle.lrc_named_tokens.specs.View.{located_of}
use Rattle.lrc_named_name_hints.specs.Hints.{is_set_in}
use Rattle.lrc_named_name_hints.proofs.near.is_set_in.Given as goal

abbrev pub invariant-loop-place : goal.invariant-loop-place
invariant-loop-place l = is_set_in l.name (map located_of l.tokens) ≡ is_set_in l.name (map located_of (drop (l.place - 1) l.tokens))
