-- The claims of the turns so far are judged.
use Rattle.std.proofs.Common.{◌≡◌, ℕ}
use Rattle.std.specs.Prelude.{vec_len}
use Rattle.lrc_races_text.specs.declared.asked.Sought.{Sought}
use Rattle.lrc_races_text.specs.Naming.{Naming}
use Rattle.lrc_races_claims.specs.Judge.{AreSlots, IsJudge, StaysJudge}
use Rattle.lrc_races_claims.proofs.judge_all.judge_turns.Given as goal

abbrev pub invariant-loop-turn : goal.invariant-loop-turn
invariant-loop-turn l = record {
  stays : StaysJudge l.events l.initial.judge l.judge;
  long : vec_len l.slots ≡ vec_len l.initial.slots;
  slots : (sought : Sought) (naming : Naming) (last : ℕ) → IsJudge sought naming l.events last l.initial.judge
      → AreSlots sought naming l.events last l.claims l.initial.slots.items → AreSlots sought naming l.events last l.claims l.slots.items;
}
