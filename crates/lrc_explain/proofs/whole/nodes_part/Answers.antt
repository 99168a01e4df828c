use Rattle.std.proofs.Common.{◌∙◌, ◌++◌, ℕ, List, ap, map, sym, get_or, append_assoc}
use Rattle.lrc_text.proofs.Each.{each_more}
use Rattle.lrc_labels.specs.Reading.{Label, label_seen}
use Rattle.lrc_explain_waits.specs.declared.stand.Stand.{Stand}
use Rattle.lrc_explain_waits.specs.Stuck.{end_text}
use Rattle.lrc_explain_waits.specs.Traps.{trap_at}
use Rattle.lrc_explain_waits.proofs.Standing.{no_stand}
use Rattle.lrc_named_core.specs.Tree.{Trap}
use Rattle.lrc_named_core.specs.View.{trap_of}
use Rattle.lrc_explain.specs.Explain.{prints_text}
use Rattle.lrc_explain.proofs.whole.nodes_part.Goals as goal

pub loop-node-preserved : goal.loop-node-preserved
loop-node-preserved c =
    let labels : List Label = map label_seen c.args.labels.now in
    let acts = c.args.acts.now in
    let stands = c.args.stands.now in
    let node = c.loop-node.node in
    let traps : List Trap = map trap_of c.args.traps.now in
    let here = get_or stands node no_stand in
    let of : ℕ → Stand → List ℕ = λ k stand. prints_text k acts ++ end_text labels (trap_at traps k) stands k stand in
    let before = c.push_prints.new.text.items in
    c.in_ok-push_end.ensures.ok ∙ ap (λ (trap : Trap). before ++ end_text labels trap stands node here) c.trap_at-trap.ensures
    ∙ ap (λ l. l ++ end_text labels (trap_at traps node) stands node here) c.in_ok-push_prints.ensures
    ∙ append_assoc c.loop-node.text.items (prints_text node acts) (end_text labels (trap_at traps node) stands node here)
    ∙ ap (λ l. l ++ of node here) c.loop-node.invariant
    ∙ sym (each_more of stands node no_stand c.loop-node-test.true)
