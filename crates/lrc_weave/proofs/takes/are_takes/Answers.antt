use Rattle.std.proofs.Common.{rules, ◌≡◌, ◌∙◌, ◌↔◌, ap, IsTrue, [], subst}
use Rattle.lrc_weave.specs.Matched.{Takes, takes_in}
use Rattle.lrc_weave.proofs.Comparing.{so_end}
use Rattle.lrc_weave.proofs.Looping.{takes_more, takes_not}
use Rattle.lrc_weave.proofs.takes.are_takes.Goals as goal

pub returns-then-not-branch : goal.returns-then-not-branch
returns-then-not-branch c =
    let kept : c.take_turn.new.self.history.now ≡ c.args.history.now =
    ap (λ history. history.now) c.in_ok-take_turn.ensures.history ∙ c.loop-entry.invariant.0 in
    takes_not c.args.history.now c.args.log.now c.loop-entry.entry-index c.loop-entry.before c.loop-entry.left.rest.now c.take_turn.new.self.rest.now
    c.entry-item.result c.in_ok-take_turn.field-0 (search rules) (search rules) c.loop-entry.invariant.1 c.loop-entry.left.history.now
    c.take_turn.new.self.history.now c.loop-entry.invariant.0 kept c.in_ok-take_turn.ensures.left (search rules)

pub loop-entry-preserved : goal.loop-entry-preserved
loop-entry-preserved c =
    let kept : c.take_turn.new.self.history.now ≡ c.args.history.now =
    ap (λ history. history.now) c.in_ok-take_turn.ensures.history ∙ c.loop-entry.invariant.0 in (
      kept,
      takes_more c.args.history.now c.args.log.now c.loop-entry.entry-index c.loop-entry.before c.loop-entry.left.rest.now c.take_turn.new.self.rest.now
          c.entry-item.result c.in_ok-take_turn.field-0 (search rules) (search rules) c.loop-entry.invariant.1 c.loop-entry.left.history.now
          c.take_turn.new.self.history.now c.loop-entry.invariant.0 kept c.in_ok-take_turn.ensures.left (search rules) _ (search rules),
    )

pub returns : goal.returns
returns c =
    subst (λ b. IsTrue b ↔ Takes [] c.args.log.now (takes_in c.args.history.now)) (search rules)
    (so_end c.args.history.now c.args.log.now c.loop-entry.entry-index c.loop-entry.before c.loop-entry.left.rest.now c.next_take.new.history.now
    c.loop-entry.invariant.1 (search rules) c.next_take.result c.next_take.ensures)
