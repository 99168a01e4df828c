use Rattle.std.proofs.Common.{◌≡◌, ◌∙◌, ◌++◌, Option, None, Some, OnOk, ap, codes, rules, sym}
use Rattle.lrc_envelope.specs.Envelope.{EnvelopeRecord}
use Rattle.lrc_replay.specs.Replays.{message_of}
use Rattle.lrc_replay.proofs.Coursing.{on_ok}
use Rattle.lrc_states.specs.Players.{message_or_null}
use Rattle.lrc_states.proofs.player.Player.push_taken.Goals as goal

pub returns-in-Some : goal.returns-in-Some
unfolding message_or_null
returns-in-Some c world is =
    let named : message_of world c.args.event ≡ Some c.in-Some.envelope.now = search rules in
    on_ok c.push_envelope.result c.push_envelope.ensures
    (λ told. told ∙ ap (λ (o : Option EnvelopeRecord). c.args.line.now.items ++ message_or_null o) (sym named))

pub returns-in-None : goal.returns-in-None
unfolding message_or_null
returns-in-None c world is =
    let named : message_of world c.args.event ≡ None = search rules in
    let null : OnOk c.extend_from_slice.result (c.extend_from_slice.new.self.items ≡ c.args.line.now.items ++ codes "null") = search rules in
    on_ok c.extend_from_slice.result null
    (λ told. told ∙ ap (λ (o : Option EnvelopeRecord). c.args.line.now.items ++ message_or_null o) (sym named))
