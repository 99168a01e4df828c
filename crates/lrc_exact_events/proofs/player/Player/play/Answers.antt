use Rattle.std.proofs.Common.{◌≡◌, ◌∙◌, ◌++◌, List, Option, true, false, ap, length, rules, subst, sym}
use Rattle.std.specs.Option.{option_to_list}
use Rattle.lrc_trace.specs.declared.act.Act.{Act}
use Rattle.lrc_envelope.specs.Envelope.{EnvelopeRecord}
use Rattle.lrc_protocol.specs.Turn.{TurnRecord}
use Rattle.lrc_replay.specs.Replays.{IsMade}
use Rattle.lrc_exact_events.specs.declared.player.Player.{Player}
use Rattle.lrc_exact_events.specs.Drained.{IsNext}
use Rattle.lrc_exact_events.proofs.Playing.{other_astray, played_so, skipped_astray}
use Rattle.lrc_exact_events.proofs.player.Player.play.Goals as goal

pub returns-in_default-clause-astray : goal.returns-in_default-clause-astray
returns-in_default-clause-astray c world next is goes failed =
    skipped_astray c.args.order.now c.args.event world next c.make.new.self
    (subst (λ (o : Option TurnRecord). IsMade world c.args.event next o c.make.new.self) c.in_default.is (c.in_ok-turn.ensures world next is.replay goes))

pub returns-then-not-is_next-clause-astray : goal.returns-then-not-is_next-clause-astray
returns-then-not-is_next-clause-astray c world next is goes failed =
    let order = c.args.order.now in
    let old = c.args.self.now in
    let turn = c.in-Some.turn in
    let act : c.turn.inside.act ≡ turn.act = search rules in
    let other : c.is_next.result ≡ false = search rules in
    let made = subst (λ (o : Option TurnRecord). IsMade world c.args.event next o c.make.new.self) c.in-Some.is (c.in_ok-turn.ensures world next is.replay goes) in
    other_astray order c.args.event world next turn old c.make.new.self is made
    (λ fits. let never : false ≡ true = sym other ∙ c.is_next.ensures.1 (subst (λ (o : Option Act). IsNext order old.acts o) (sym act) fits) in cc)

pub returns-clause-played : goal.returns-clause-played
returns-clause-played c world next is goes went =
    let order = c.args.order.now in
    let old = c.args.self.now in
    let turn = c.in-Some.turn in
    let mid = c.make.new.self in
    let new : Player = record c.count.new.self { events = c.push.new.self } in
    let act : c.turn.inside.act ≡ turn.act = search rules in
    let out : c.turn.inside.out.items ≡ turn.out = search rules in
    let same : c.is_next.result ≡ true = search rules in
    let made = subst (λ (o : Option TurnRecord). IsMade world c.args.event next o mid) c.in-Some.is (c.in_ok-turn.ensures world next is.replay goes) in
    played_so order c.args.event world next turn old new mid is made (ap (λ r. r.nodes) c.count.ensures.replay ∙ c.in_ok-post.ensures.nodes)
    (ap (λ r. r.flight.items) c.count.ensures.replay ∙ c.in_ok-post.ensures.flight ∙ ap (λ (l : List EnvelopeRecord). mid.flight.items ++ l) out)
    (λ before counted. subst (λ (o : Option Act). c.count.new.self.acts ≡ length (before ++ option_to_list o)) act
    (c.in_ok-count.ensures.acts before counted)) (subst (λ (o : Option Act). IsNext order old.acts o) act (c.is_next.ensures.0 same))
