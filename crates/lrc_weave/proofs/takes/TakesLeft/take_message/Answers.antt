use Rattle.std.proofs.Common.{get_or, rules}
use Rattle.std.proofs.lemmas.Option.{slice_get-get_or}
use Rattle.lrc_weave.proofs.Comparing.{left_if}
use Rattle.lrc_weave.proofs.takes.TakesLeft.take_message.Goals as goal

pub returns-clause-left : goal.returns-clause-left
returns-clause-left c =
    let history = c.args.self.now.history.now in
    let wire = get_or history c.in-Some.place c.index-self-place.result in
    left_if history c.args.self.now.rest.now c.next_take.new.history.now c.in-Some.place c.args.before c.args.stamp c.args.envelope.now wire
    (slice_get-get_or history c.in-Some.place c.index-self-place.result (search rules)) c.in-Some.ensures _ c.is_taken_from.result c.is_taken_from.ensures
