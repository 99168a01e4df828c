use Rattle.std.proofs.Common.{◌≡◌, ◌∙◌, ◌++◌, ◌∷◌, [], ℕ, List, Option, Some, None, ap, append-nil, map, rules, slice_get, subst, sym}
use Rattle.lrc_envelope.specs.Envelope.{EnvelopeRecord}
use Rattle.lrc_protocol.specs.Turn.{TurnRecord}
use Rattle.lrc_replay.specs.Replays.{IsMade, IsReplay}
use Rattle.lrc_replay.specs.Turns.{Turn}
use Rattle.lrc_chart_invalid.specs.Invalidated.{invalidated_at}
use Rattle.lrc_chart_invalid.proofs.Finding.{added_turn, pages_in, posted, stands_after, told_so}
use Rattle.lrc_chart_invalid.proofs.turns.play.Goals as goal

pub returns-in-Some-clause-replay : goal.returns-in-Some-clause-replay
returns-in-Some-clause-replay c world next is goes =
    let turn = c.in-Some.turn in
    let mid = c.make.new.self in
    let out : c.turn.inside.out.items ≡ turn.out = search rules in
    let made = subst (λ (o : Option TurnRecord). IsMade world c.args.event next o mid) c.in-Some.is (c.in_ok-turn.ensures world next is goes) in
    posted next turn mid c.post.new.self made.3 c.in_ok-post-in-Some.ensures.nodes
    (c.in_ok-post-in-Some.ensures.flight ∙ ap (λ (l : List EnvelopeRecord). mid.flight.items ++ l) out)

pub returns-in-Some-clause-found : goal.returns-in-Some-clause-found
returns-in-Some-clause-found c world next is goes =
    let turn = c.in-Some.turn in
    let mid = c.make.new.self in
    let event = c.args.event in
    let out : c.turn.inside.out.items ≡ turn.out = search rules in
    let made = subst (λ (o : Option TurnRecord). IsMade world event next o mid) c.in-Some.is (c.in_ok-turn.ensures world next is goes) in
    let now : IsReplay c.post.new.self next =
    posted next turn mid c.post.new.self made.3 c.in_ok-post-in-Some.ensures.nodes
    (c.in_ok-post-in-Some.ensures.flight ∙ ap (λ (l : List EnvelopeRecord). mid.flight.items ++ l) out) in
    let after = stands_after world next event made.0 made.2 in
    let place = c.place_of-node.ensures world made.0.node is made.2.names in
    let there = subst (λ (n : ℕ). slice_get next.nodes n ≡ Some after.0) (sym place) after.1 in
    let before = c.deref.ensures.value ∙ c.in_ok-before.ensures world is in
    added_turn world event made.0 c.args.found.now.items c.push.new.self.items c.in_ok-invalid_at-in-Some.field-0 made.2.is
    (told_so world next event made.0 c.place_of-node.result c.deref.result.now c.in_ok-invalid_at-in-Some.field-0.items after.0 made.2 place after.2 before
    (c.in_ok-invalid_at-in-Some.ensures next after.0 now there))
    c.in_ok-push-in-Some.ensures.items

pub returns-clause-replay : goal.returns-clause-replay
returns-clause-replay c world next is goes =
    (subst (λ (o : Option TurnRecord). IsMade world c.args.event next o c.make.new.self) c.in-None.is (c.in_ok-turn.ensures world next is goes)).2

pub returns-clause-found : goal.returns-clause-found
returns-clause-found c world next is goes =
    let made = subst (λ (o : Option TurnRecord). IsMade world c.args.event next o c.make.new.self) c.in-None.is (c.in_ok-turn.ensures world next is goes) in
    sym (ap (λ (l : List Turn). pages_in c.args.found.now.items ++ map invalidated_at l) made.0 ∙ append-nil (pages_in c.args.found.now.items))
