use Rattle.std.proofs.Common.{◌∙◌, ◌++◌, ap, get_or, sym, subst, map, List}
use Rattle.lrc_turns_text.specs.Turns.{Made, next}
use Rattle.lrc_turns_text.proofs.Telling.{turns_next}
use Rattle.lrc_chart_rows.specs.Counts.{Counts}
use Rattle.lrc_chart_rows.proofs.Counting.{counts_none}
use Rattle.lrc_chart_rows.proofs.turn.turns_of.Goals as goal

pub loop-node-init : goal.loop-node-init
loop-node-init c = record {
  turns = c.new-turns.ensures.items;
  counts = subst (λ (t : List Made). Counts t c.new-made.result.counts) (sym c.new-turns.ensures.items)
      (counts_none c.new-made.result.counts c.new-made.ensures);
}

pub loop-node-preserved : goal.loop-node-preserved
loop-node-preserved c =
    let logs = map (λ log. log.items) c.args.logs.now in
    let order = c.args.order.now in
    let k = c.loop-node.node-index in
    let old = c.loop-node.invariant in
    record {
      turns =
          c.in_ok-push_next.ensures.turns ∙ ap (λ (t : List Made). t ++ next logs t (get_or order k 0)) old.turns
          ∙ sym (turns_next logs order k 0 c.loop-node-test.true);
      counts = c.in_ok-push_next.ensures.counts;
    }
