use Rattle.std.proofs.Common.{◌≡◌, map, take}
use Rattle.lrc_weave.specs.Compared.{puts_by_each, puts_in}
use Rattle.lrc_weave.proofs.putting.all_puts.Given as goal

abbrev pub invariant-loop-mailbox : goal.invariant-loop-mailbox
invariant-loop-mailbox l = map puts_in l.all.items ≡ map (λ mailbox. puts_by_each l.nodes mailbox.history) (take l.mailbox-index l.wires)
