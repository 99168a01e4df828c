use Rattle.std.proofs.Common.{◌≡◌, ◌∙◌, ap, deque_len, length, rules, sym}
use Rattle.std.proofs.lemmas.Bool.{eq-eqb, eqb-true}
use Rattle.std.proofs.lemmas.List.{length-map, nil_from_length}
use Rattle.lrc_protocol.specs.Run.{Flying}
use Rattle.lrc_exact_events.proofs.player.Player.is_quiet.Goals as goal

pub returns : goal.returns
returns c = λ world is.
    let flight = c.args.self.now.replay.flight in
    let kept : deque_len flight ≡ length flight.items = search rules in
    let count : deque_len flight ≡ length world.flight =
    kept ∙ ap (λ l. length l) is.replay.flight ∙ length-map world.flight (λ (sent : Flying). sent.envelope) in (
      λ quiet. nil_from_length world.flight (sym count ∙ eqb-true (deque_len flight) 0 (sym c.is_empty.ensures ∙ quiet)),
      λ none. c.is_empty.ensures ∙ eq-eqb (deque_len flight) 0 (count ∙ ap (λ l. length l) none),
    )
