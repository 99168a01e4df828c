-- One slot more, in which nothing is kept.
use Rattle.std.proofs.Common.{arith}
use Rattle.lrc_races_claims.proofs.JudgeLemmas.{empty_more, empty_none}
use Rattle.lrc_races_claims.proofs.judge_all.empty_slots.Goals as goal

pub loop-place-init : goal.loop-place-init
loop-place-init c = record { empty = empty_none c.new-slots.result.items c.new-slots.ensures.items; long = c.new-slots.ensures.len }

pub loop-place-preserved : goal.loop-place-preserved
loop-place-preserved c = record {
  empty = empty_more c.loop-place.slots.items c.push.new.self.items c.in_ok-push.ensures.items c.loop-place.invariant.empty;
  long = omega (arith, c.in_ok-push.ensures.len);
}

pub returns-clause-empty : goal.returns-clause-empty
returns-clause-empty c = c.loop-place.invariant.empty

pub returns-clause-long : goal.returns-clause-long
returns-clause-long c = omega arith
