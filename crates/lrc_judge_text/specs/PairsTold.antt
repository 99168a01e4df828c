-- A judgement whose racing pairs are told while they are found.
use Rattle.std.specs.Prelude.{◌≡◌, ◌++◌, ℕ, Bool, List, Option, Ok, length}
use Rattle.lrc_text.specs.RaceText.{first_race_text}
use Rattle.lrc_acts.specs.ActsText.{ReadsActs}
use Rattle.lrc_acts.specs.declared.reading.LinedActs.{LinedActs}
use Rattle.lrc_judge_text.specs.Judgement.{CountsNodes, IsHead, judge_status}
use Rattle.lrc_judge_text.specs.RacingPairs.{AreRacesOf, lines_from}
use Rattle.lrc_judge_text.specs.declared.memory.ExactMemory.{ExactMemory}
use Rattle.lrc_judge_text.specs.declared.pairs.PairsJudgement.{PairsJudgement}

-- the text of a judgement: its first lines, those of the racing pairs, by the later position, then by the earlier, and that of
-- the first race
abbrev pub told_text : PairsJudgement → List ℕ
told_text judgement = judgement.head.items ++ lines_from judgement.conflicts.order judgement.acts.items 0 (length judgement.acts.items)
    ++ first_race_text judgement.first

-- what it keeps of the races is of its acts
abbrev pub HasItsRaces : PairsJudgement → Type 0
HasItsRaces judgement = AreRacesOf judgement.acts.items judgement.conflicts judgement.first

-- the judgement is of these acts, of so many nodes
pub record IsPairsJudgementOf (count : ℕ) (memory : Option ExactMemory) (lined : LinedActs) (judgement : PairsJudgement) : Type 0 where
  pub holds : Bool
  pub reads : Bool
  pub acts : judgement.acts.items ≡ lined.acts.items
  pub is_head : IsHead count memory lined.acts.items lined.lines.items holds reads judgement.head.items
  pub races : HasItsRaces judgement
  pub status_is : judgement.status ≡ judge_status holds reads judgement.first

-- the judgement is of the acts that the text says, of so many nodes where that is given
pub record IsPairsJudgement (nodes : Option ℕ) (memory : Option ExactMemory) (text : List ℕ) (judgement : PairsJudgement) : Type 0 where
  pub lined : LinedActs
  pub count : ℕ
  pub says : ReadsActs nodes text (Ok lined)
  pub counted : CountsNodes nodes lined.acts.items count
  pub of : IsPairsJudgementOf count memory lined judgement
