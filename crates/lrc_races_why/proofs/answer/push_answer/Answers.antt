-- Both lines have events, or one has none.
use Rattle.std.proofs.Common.{refl}
use Rattle.lrc_races_trace.proofs.Positions.{At-within}
use Rattle.lrc_races_why.specs.Answers.{told, first_none, second_none}
use Rattle.lrc_races_why.proofs.Answering.{positions_ascend}
use Rattle.lrc_races_why.proofs.answer.push_answer.Goals as goal

pub returns-in_default : goal.returns-in_default
returns-in_default c = first_none c.in_default.ensures refl

pub returns-in_default-event_on : goal.returns-in_default-event_on
returns-in_default-event_on c =
    let (a, on) = c.in-Some.ensures in
    second_none (c.in-Some.earlier, a, on) c.in_default-event_on.ensures refl

pub push_told-requires-clause-order : goal.push_told-requires-clause-order
push_told-requires-clause-order c =
    let (a, on) = c.in-Some.ensures in
    let (b, on') = c.in-Some-event_on.ensures in
    positions_ascend c.args.events.now c.requires.by_line c.args.first c.args.second c.in-Some.earlier c.in-Some-event_on.later a b c.requires.ascending on on'

pub push_told-requires-clause-within : goal.push_told-requires-clause-within
push_told-requires-clause-within c = let (b, on') = c.in-Some-event_on.ensures in At-within on'.at

pub returns : goal.returns
returns c =
    let (a, on) = c.in-Some.ensures in
    let (b, on') = c.in-Some-event_on.ensures in
    told on on' (c.in_ok-push_told.ensures a b on.at on'.at)
