-- The text of a judgement is what is printed of its acts, with their racing pairs.
use Rattle.std.proofs.Common.{ℕ, List, Option, true, length, refl, subst}
use Rattle.std.specs.Prelude.{MatchOption}
use Rattle.lrc_trace.specs.declared.act.Act.{Act}
use Rattle.lrc_trace.specs.Conflict.{IsFirstRace, IsRaceFree}
use Rattle.lrc_acts.specs.declared.reading.LinedActs.{LinedActs}
use Rattle.lrc_judge_text.specs.Judgement.{IsJudgement, Judges, TellsRaces, paired}
use Rattle.lrc_judge_text.specs.PairsTold.{IsPairsJudgement, IsPairsJudgementOf, told_text}
use Rattle.lrc_judge_text.specs.RacingPairs.{lines_from}
use Rattle.lrc_judge_text.specs.declared.memory.ExactMemory.{ExactMemory}
use Rattle.lrc_judge_text.specs.declared.pairs.PairsJudgement.{PairsJudgement}
use Rattle.lrc_judge_text.proofs.PairLists.{all-pairs, lines-are}

module _ (count : ℕ) (memory : Option ExactMemory) (lined : LinedActs) (judgement : PairsJudgement) (of : IsPairsJudgementOf count memory lined judgement) where
  abbrev acts : List Act
  acts = judgement.acts.items

  tells : TellsRaces acts true (lines_from judgement.conflicts.order acts 0 (length acts))
  tells =
      subst (λ (text : List ℕ). TellsRaces acts true text) (lines-are acts judgement.conflicts.order of.races.kept.order)
      (paired (all-pairs acts judgement.conflicts.order of.races.kept.order))

  judged : IsJudgement count memory lined.acts.items lined.lines.items true (told_text judgement) judgement.status
  judged = record {
    holds = of.holds;
    reads = of.reads;
    head = judgement.head.items;
    races = lines_from judgement.conflicts.order acts 0 (length acts);
    race = judgement.first;
    is_head = of.is_head;
    tells_races = subst (λ (run : List Act). TellsRaces run true (lines_from judgement.conflicts.order acts 0 (length acts))) of.acts tells;
    is_first = subst (λ (run : List Act). MatchOption judgement.first (IsRaceFree run) (IsFirstRace run)) of.acts of.races.least;
    whole = refl;
    status_is = of.status_is;
  }

-- what is told of a text is a judgement of its acts, with their racing pairs
pub judged-pairs : (nodes : Option ℕ) (memory : Option ExactMemory) (text : List ℕ) (judgement : PairsJudgement)
    → IsPairsJudgement nodes memory text judgement → Judges nodes memory true text (told_text judgement) judgement.status
judged-pairs nodes memory text judgement is = record {
  lined = is.lined;
  count = is.count;
  says = is.says;
  counted = is.counted;
  judgement = judged is.count memory is.lined judgement is.of;
}
