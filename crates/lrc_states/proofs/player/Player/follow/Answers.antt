use Rattle.std.proofs.Common.{◌≡◌, ◌∙◌, ◌++◌, List, Option, ap, rules, subst, sym}
use Rattle.std.specs.Option.{option_to_list}
use Rattle.lrc_envelope.specs.Envelope.{EnvelopeRecord}
use Rattle.lrc_trace.specs.declared.act.Act.{Act}
use Rattle.lrc_replay.specs.Courses.{IsCourse}
use Rattle.lrc_states.proofs.Playing.{followed, on_both}
use Rattle.lrc_states.proofs.player.Player.follow.Goals as goal

pub returns-clause-player : goal.returns-clause-player
returns-clause-player c plan next acts turns leaves =
    let old = c.args.self.now in
    let act : c.turn.inside.act ≡ c.args.turn.act = search rules in
    let out : c.turn.inside.out.items ≡ c.args.turn.out = search rules in
    let course : IsCourse plan (acts ++ option_to_list c.args.turn.act) c.follow.new.self =
    subst (λ (o : Option Act). IsCourse plan (acts ++ option_to_list o) c.follow.new.self) act (c.in_ok-follow.ensures.course plan acts leaves.course) in
    on_both c.post.result c.post.ensures.nodes c.post.ensures.flight
    (λ nodes flight. followed plan acts turns next c.args.turn old _ leaves c.count.ensures.plan (nodes ∙ ap (λ r. r.nodes) c.count.ensures.replay)
    (flight ∙ ap (λ r. r.flight.items ++ c.turn.inside.out.items) c.count.ensures.replay ∙ ap (λ (l : List EnvelopeRecord). old.replay.flight.items ++ l) out)
    (subst (IsCourse plan (acts ++ option_to_list c.args.turn.act)) (sym c.count.ensures.course) course) c.in_ok-count.ensures.turns c.count.ensures.shown)
