-- The claim of one turn more is judged.
use Rattle.std.proofs.Common.{refl, ◌∙◌}
use Rattle.lrc_races_claims.proofs.judge_all.judge_turns.Goals as goal

pub loop-turn-init : goal.loop-turn-init
loop-turn-init c = record { stays = λ sought naming last is. is; long = refl; slots = λ sought naming last is slots. slots }

pub judge_turn-requires-clause-judge : goal.judge_turn-requires-clause-judge
judge_turn-requires-clause-judge c =
    let some = c.requires.judge in
    record {
      sought = some.sought;
      naming = some.naming;
      last = some.last;
      is = c.loop-turn.invariant.stays some.sought some.naming some.last some.is;
    }

pub loop-turn-preserved : goal.loop-turn-preserved
loop-turn-preserved c = record {
  stays = λ sought naming last is. c.in_ok-judge_turn.ensures.stays sought naming last (c.loop-turn.invariant.stays sought naming last is);
  long = c.in_ok-judge_turn.ensures.long ∙ c.loop-turn.invariant.long;
  slots = λ sought naming last is slots.
      c.in_ok-judge_turn.ensures.slots sought naming last (c.loop-turn.invariant.stays sought naming last is)
      (c.loop-turn.invariant.slots sought naming last is slots);
}
