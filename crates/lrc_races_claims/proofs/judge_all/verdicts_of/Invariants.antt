-- The claims so far are judged.
use Rattle.std.proofs.Common.{◌≡◌, ℕ}
use Rattle.std.specs.Prelude.{Some, slice_get, vec_len}
use Rattle.lrc_races_text.specs.declared.asked.Sought.{Sought}
use Rattle.lrc_races_text.specs.Naming.{Naming}
use Rattle.lrc_races_score.specs.Claims.{statement_of}
use Rattle.lrc_races_score.specs.declared.report.LinedClaim.{LinedClaim}
use Rattle.lrc_races_claims.specs.Judge.{AreSlots, IsJudge, StaysJudge}
use Rattle.lrc_races_claims.specs.Truth.{IsJudged}
use Rattle.lrc_races_claims.specs.declared.verdict.Verdict.{Verdict}
use Rattle.lrc_races_claims.proofs.judge_all.verdicts_of.Given as goal

abbrev pub invariant-loop-place : goal.invariant-loop-place
invariant-loop-place l = record {
  stays : StaysJudge l.events l.initial.judge l.judge;
  long : vec_len l.verdicts ≡ l.place;
  each : (sought : Sought) (naming : Naming) (last : ℕ) → IsJudge sought naming l.events last l.initial.judge
      → AreSlots sought naming l.events last l.claims l.slots → (k : ℕ) (claim : LinedClaim) (verdict : Verdict)
      → slice_get l.claims k ≡ Some claim → slice_get l.verdicts.items k ≡ Some verdict
      → IsJudged sought naming l.events last (statement_of claim.claim) verdict;
}
