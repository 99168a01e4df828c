use Rattle.std.proofs.Common.{◌≡◌, ◌∙◌, ◌++◌, List, Option, ap, length, rules, subst}
use Rattle.std.specs.Option.{option_to_list}
use Rattle.lrc_envelope.specs.Envelope.{EnvelopeRecord}
use Rattle.lrc_trace.specs.declared.act.Act.{Act}
use Rattle.lrc_lines.specs.Seen.{walks_of}
use Rattle.lrc_lines.specs.Walks.{walks_behind}
use Rattle.lrc_protocol.specs.Turn.{TurnRecord}
use Rattle.lrc_replay.specs.Replays.{IsMade}
use Rattle.lrc_explore_events.specs.declared.player.Player.{Player}
use Rattle.lrc_explore_events.proofs.Played.{played_so}
use Rattle.lrc_explore_events.proofs.player.Player.play.Goals as goal

pub returns-clause-played : goal.returns-clause-played
returns-clause-played c program nodes world next is goes =
    let old = c.args.self.now in
    let turn = c.in-Some.turn in
    let mid = c.make.new.self in
    let new : Player = record c.follow.new.self { events = c.push.new.self } in
    let act : c.turn.inside.act ≡ turn.act = search rules in
    let out : c.turn.inside.out.items ≡ turn.out = search rules in
    let made = subst (λ (o : Option TurnRecord). IsMade world c.args.event next o mid) c.in-Some.is (c.in_ok-turn.ensures world next is.replay goes) in
    played_so program nodes c.args.event world next turn old new mid is made (ap (λ r. r.nodes) c.follow.ensures.replay ∙ c.in_ok-post.ensures.nodes)
    (ap (λ r. r.flight.items) c.follow.ensures.replay ∙ c.in_ok-post.ensures.flight ∙ ap (λ (l : List EnvelopeRecord). mid.flight.items ++ l) out)
    (λ lines before walked. subst (λ (o : Option Act). walks_of c.follow.new.self.walks ≡ walks_behind program nodes lines (before ++ option_to_list o)) act
    (c.in_ok-follow.ensures.walks program nodes lines before walked))
    c.follow.ensures.end
    (λ before counted. subst (λ (o : Option Act). c.follow.new.self.acts ≡ length (before ++ option_to_list o)) act
    (c.in_ok-follow.ensures.acts before counted))
