-- One slot more is filled.
use Rattle.std.proofs.Common.{◌<◌, length, arith}
use Rattle.std.proofs.lemmas.Option.{slice_get-get_or}
use Rattle.lrc_races_claims.proofs.JudgeLemmas.{set_cases, slot_filled}
use Rattle.lrc_races_claims.proofs.judge_all.judge_turn.Goals as goal

pub returns-clause-slots : goal.returns-clause-slots
returns-clause-slots c = λ sought naming last is slots.
    let within : c.args.place < length c.args.claims.now = omega arith in
    slot_filled sought naming c.args.events.now last c.args.claims.now c.args.slots.now.items _ c.args.place _ c.in_ok-verdict.verdict
    (slice_get-get_or c.args.claims.now c.args.place _ within) (set_cases c.args.slots.now.items c.args.place _)
    (c.in_ok-verdict.ensures.judged sought naming last is) slots
