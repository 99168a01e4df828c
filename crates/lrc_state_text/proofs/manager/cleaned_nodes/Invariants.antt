-- What was added so far.
use Rattle.std.proofs.Common.{◌≡◌}
use Rattle.std.specs.Prelude.{filter}
use Rattle.std.specs.List.{range_with_len}
use Rattle.lrc_state_text.specs.Manager.{has_cleaned}
use Rattle.lrc_state_text.proofs.manager.cleaned_nodes.Given as goal

abbrev pub invariant-loop-node : goal.invariant-loop-node
invariant-loop-node l = l.cleaned.items ≡ filter (has_cleaned l.manager) (range_with_len 0 l.node)
