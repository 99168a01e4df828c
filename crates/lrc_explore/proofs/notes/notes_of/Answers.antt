use Rattle.std.proofs.Common.{◌≡◌, ◌++◌, ◌∙◌, sym, ap, arith}
use Rattle.std.specs.Prelude.{filter}
use Rattle.lrc_orders.specs.Notes.{is_note_of, notes_from}
use Rattle.lrc_explore.proofs.NoteLists.{one_node_more}
use Rattle.lrc_explore.proofs.notes.notes_of.Goals as goal

pub loop-node-init : goal.loop-node-init
loop-node-init c = c.new-notes.ensures.items

pub loop-node-preserved : goal.loop-node-preserved
loop-node-preserved c =
    let acts = c.args.acts.now in
    let node = c.loop-node.node in
    let own = c.deref.ensures.value ∙ c.in_ok-own.ensures in
    c.in_ok-extend_from_slice.ensures.items
    ∙ ap (λ l. l ++ c.deref.result.now) c.loop-node.invariant
    ∙ ap (λ l. notes_from 0 node acts ++ l) own
    ∙ sym (one_node_more node acts)

pub returns : goal.returns
returns c =
    let end : c.loop-node.node ≡ c.args.nodes = omega (arith, c.loop-node-test.false, c.loop-node.auto.node-end) in
    c.loop-node.invariant ∙ ap (λ n. notes_from 0 n c.args.acts.now) end
