use Rattle.std.proofs.Common.{◌∙◌, rules}
use Rattle.lrc_weave.proofs.Lining.{no_puts, put_next}
use Rattle.lrc_weave.proofs.putting.puts_of.Goals as goal

pub loop-wire-init : goal.loop-wire-init
loop-wire-init c = c.in_ok-puts.ensures ∙ no_puts c.args.nodes

pub loop-wire-preserved : goal.loop-wire-preserved
loop-wire-preserved c =
    put_next (λ line. line.items) (λ wire. wire.now) c.args.nodes c.args.history.now c.loop-wire.wire-index c.wire-item.result
    c.loop-wire.puts.lines.items c.add.new.self.lines.items (search rules) (search rules) c.loop-wire.invariant c.in_ok-add.ensures
