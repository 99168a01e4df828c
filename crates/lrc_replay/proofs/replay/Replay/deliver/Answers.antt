use Rattle.std.proofs.Common.{◌∙◌, ◌<◌, List, ap, length, subst, sym}
use Rattle.std.specs.Prelude.{remove}
use Rattle.lrc_envelope.specs.Envelope.{EnvelopeRecord}
use Rattle.lrc_replay.specs.Replays.{nodes_played}
use Rattle.lrc_replay.proofs.Replayed.{left_so}
use Rattle.lrc_replay.proofs.replay.Replay.deliver.Goals as goal

pub returns-clause-flight : goal.returns-clause-flight
returns-clause-flight c =
    let same = ap (λ f. f.items) c.take.ensures.flight in
    left_so (nodes_played c.args.self.now.nodes.items) c.args.self.now.flight.items c.forget.new.flight.items c.args.place c.in_ok-turn.turn
    (nodes_played c.take.new.self.nodes.items) c.in_ok-turn.ensures.nodes
    (λ none. ap (λ f. f.items) (c.forget.ensures.kept (c.is_some.ensures ∙ none)) ∙ same)
    (λ some within. c.forget.ensures.removed (c.is_some.ensures ∙ some) (subst (λ (l : List EnvelopeRecord). c.args.place < length l) (sym same) within)
    ∙ ap (λ (l : List EnvelopeRecord). remove l c.args.place) same)
