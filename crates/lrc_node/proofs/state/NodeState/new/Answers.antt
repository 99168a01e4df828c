use Rattle.lrc_protocol.specs.Node.{OptionsRecord}
use Rattle.lrc_node.proofs.States.{fresh_state}
use Rattle.lrc_node.proofs.state.NodeState.new.Goals as goal

pub invariant_of-result : goal.invariant_of-result
invariant_of-result c =
    let o = c.options.inside in
    let options : OptionsRecord = record { steps = o.steps; collect = o.collect; first = o.first; size = o.size } in
    rw (c.in_ok-memory.ensures, c.in_ok-mail.ensures, c.new-4.ensures, c.in_ok-clock.ensures, c.new-5.ensures, c.words-words.ensures, c.locks-locks.ensures)
    (fresh_state c.args.code.now c.args.nodes c.args.me options c.requires.here c.requires.few)
