use Rattle.std.proofs.Common.{◌≡◌, ◌∙◌, Some, [], ◌++◌, append-nil, rules, sym, ap, length, replicate}
use Rattle.std.proofs.lemmas.List.{drop_all, length-map, length-replicate}
use Rattle.lrc_protocol.specs.Run.{turns_of_logs}
use Rattle.lrc_world.specs.Origins.{act_turns, has_act, turns_along}
use Rattle.lrc_world.proofs.Events.{get_at}
use Rattle.lrc_world.proofs.ActsInTurn.{turns_more}
use Rattle.lrc_world.proofs.Walked.{same_count}
use Rattle.lrc_world.proofs.origins.act_turns.Goals as goal

pub loop-position-init : goal.loop-position-init
loop-position-init c =
    let begun : c.in_ok-come.come.items ≡ replicate (length c.args.logs.now) 0 = search rules in
    let none : c.new-turns.result.items ≡ [] = search rules in
    record {
      counts = ap length begun ∙ length-replicate (length c.args.logs.now) 0;
      turns = ap (λ l. l ++ turns_along (turns_of_logs c.args.logs.now) c.in_ok-come.come.items 0 c.args.turned.now) none
          ∙ ap (λ come. turns_along (turns_of_logs c.args.logs.now) come 0 c.args.turned.now)
          (begun ∙ ap (λ n. replicate n 0) (sym (length-map c.args.logs.now (λ log. log.items))));
    }

pub loop-position-preserved : goal.loop-position-preserved
loop-position-preserved c =
    let logs = turns_of_logs c.args.logs.now in
    let come = c.loop-position.come.items in
    record {
      counts = ap length c.in_ok-entry.ensures.come ∙ same_count logs come (Some c.from.result) ∙ c.loop-position.invariant.counts;
      turns = turns_more logs come c.pass_next.new.come.items c.loop-position.position c.from.result _ c.args.turned.now c.loop-position.turns.items
          c.note.new.turns.items (act_turns logs c.args.turned.now) c.has_act.result
          (get_at c.args.turned.now c.loop-position.position _ c.loop-position-test.true) c.from.ensures c.in_ok-entry.ensures.come
          (c.has_act.ensures ∙ ap has_act c.in_ok-entry.ensures.entry) c.in_ok-note.ensures c.loop-position.invariant.turns;
    }

pub returns : goal.returns
returns c =
    let logs = turns_of_logs c.args.logs.now in
    let k = c.loop-position.position in
    sym (append-nil c.loop-position.turns.items)
    ∙ ap (λ l. c.loop-position.turns.items ++ turns_along logs c.loop-position.come.items k l) (sym (drop_all k c.args.turned.now c.loop-position-test.false))
    ∙ c.loop-position.invariant.turns
