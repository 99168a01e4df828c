-- The lines that are accesses are judged.
use Rattle.std.proofs.Common.{arith}
use Rattle.std.proofs.lemmas.Result.{IfOk-weaker}
use Rattle.lrc_races_trace.proofs.Positions.{At-within}
use Rattle.lrc_races_claims.specs.Truth.{behind, first_idle, second_idle}
use Rattle.lrc_races_claims.proofs.Judged.{has_access, ordered, pair_of_lines, lesser_first}
use Rattle.lrc_races_claims.proofs.judging.judge_pair.Goals as goal

pub returns-then-last-greater-clause-judged : goal.returns-then-last-greater-clause-judged
returns-then-last-greater-clause-judged c = λ naming.
    pair_of_lines c.args.asker.now.sought naming c.args.events.now c.args.last c.args.line c.args.other c.min-lesser.result c.max-greater.result _
    c.min-lesser.ensures c.max-greater.ensures (behind c.if-last-greater.true)

pub returns-in_default-clause-judged : goal.returns-in_default-clause-judged
returns-in_default-clause-judged c = λ naming.
    pair_of_lines c.args.asker.now.sought naming c.args.events.now c.args.last c.args.line c.args.other c.min-lesser.result c.max-greater.result _
    c.min-lesser.ensures c.max-greater.ensures (first_idle (omega arith) c.in_default.ensures)

pub returns-in_default-found_on-clause-judged : goal.returns-in_default-found_on-clause-judged
returns-in_default-found_on-clause-judged c = λ naming.
    pair_of_lines c.args.asker.now.sought naming c.args.events.now c.args.last c.args.line c.args.other c.min-lesser.result c.max-greater.result _
    c.min-lesser.ensures c.max-greater.ensures (second_idle (omega arith) (has_access c.in-Some.ensures) c.in_default-found_on.ensures)

pub judge_accesses-requires-clause-order : goal.judge_accesses-requires-clause-order
judge_accesses-requires-clause-order c =
    ordered c.args.events.now c.min-lesser.result c.max-greater.result c.in-Some.one c.in-Some-found_on.two c.requires.by_line
    (lesser_first c.args.line c.args.other c.min-lesser.result c.max-greater.result c.min-lesser.ensures c.max-greater.ensures) c.in-Some.ensures
    c.in-Some-found_on.ensures

pub judge_accesses-requires-clause-within : goal.judge_accesses-requires-clause-within
judge_accesses-requires-clause-within c = At-within c.in-Some-found_on.ensures.is.at

pub returns-clause-judged : goal.returns-clause-judged
returns-clause-judged c =
    IfOk-weaker c.judge_accesses.result _ _ (λ verdict judged naming.
    pair_of_lines c.args.asker.now.sought naming c.args.events.now c.args.last c.args.line c.args.other c.min-lesser.result c.max-greater.result verdict
    c.min-lesser.ensures c.max-greater.ensures (judged c.args.last c.in-Some.ensures c.in-Some-found_on.ensures))
    c.judge_accesses.ensures.judged
