use Rattle.std.proofs.Common.{◌≡◌, ◌∙◌, ◌+◌, ◌++◌, [], List, ap, sym, subst, arith, get_or, map, take}
use Rattle.lrc_turns_text.specs.Told.{Tells}
use Rattle.lrc_turns_text.specs.Turns.{Made, next, turns_told}
use Rattle.lrc_turns_text.specs.TurnsText.{texts_behind}
use Rattle.lrc_turns_text.proofs.Telling.{texts_append, turns_next}
use Rattle.lrc_turns_text.proofs.part.messages_part.Goals as goal

pub loop-node-preserved : goal.loop-node-preserved
loop-node-preserved c =
    let logs = map (λ log. log.items) c.args.logs.now in
    let order = c.args.order.now in
    let lines = c.args.lines.now in
    let k = c.loop-node.node-index in
    let turns = turns_told logs (take k order) in
    let node = get_or order k 0 in
    let old = c.loop-node.invariant in
    let more : turns_told logs (take (k + 1) order) ≡ turns ++ next logs turns node = turns_next logs order k 0 c.loop-node-test.true in
    record {
      text =
          c.in_ok-tell_next.ensures.text turns old.told ∙ ap (λ l. l ++ texts_behind lines turns (next logs turns node)) old.text
          ∙ sym (texts_append lines [] turns (next logs turns node)) ∙ ap (texts_behind lines []) (sym more);
      told = subst (λ (l : List Made). Tells l c.tell_next.new.told) (sym more) (c.in_ok-tell_next.ensures.tells turns old.told);
      acts = omega (arith, c.tell_next.ensures.acts, old.acts);
    }
