-- What a judge says of acts who names every read that breaks a rule.
use Rattle.std.specs.Prelude.{◌≡◌, ◌≢◌, ◌&&◌, ℕ, Bool, true, false, List, ◌++◌, Option, MatchOption, Ok}
use Rattle.lrc_trace.specs.declared.act.Act.{Act}
use Rattle.lrc_trace.specs.declared.act.Deed.TheVariants.{Read}
use Rattle.lrc_trace.specs.Run.{IsDone}
use Rattle.lrc_trace.specs.Reading.{ReadsLazily}
use Rattle.lrc_trace.specs.Conflict.{IsFirstRace, IsRaceFree}
use Rattle.lrc_judge.specs.Allowed.{AreAllowed}
use Rattle.lrc_judge.specs.InOrder.{IsLastWritten, ReadsLastWritten}
use Rattle.lrc_judge.specs.Reading.{Misreads}
use Rattle.lrc_text.specs.RaceText.{first_race_text}
use Rattle.lrc_acts.specs.ActsText.{ReadsActs}
use Rattle.lrc_acts.specs.JudgeLines.{lazy_line, ordered_line, unlazy_line, unordered_line}
use Rattle.lrc_acts.specs.declared.reading.LinedActs.{LinedActs}
use Rattle.lrc_judge_text.specs.Judgement.{CountsNodes, TellsExactReading, TellsRaces, TellsSynchronization, judge_status, place_at}
use Rattle.lrc_judge_text.specs.declared.memory.ExactMemory.{ExactMemory}
use Rattle.lrc_judge_all.specs.Each.{TellsEach}

-- ---- lazy reading

-- the line of a read: what it gives, and what it may give
pub record TellsMisread (acts : List Act) (lines : List ℕ) (position : ℕ) (line : List ℕ) : Type 0 where
  pub word : ℕ
  pub value : ℕ
  pub allowed : List ℕ
  pub read : IsDone acts position (Read word value)
  pub are_allowed : AreAllowed acts position word allowed
  pub is : line ≡ unlazy_line (place_at lines position) value allowed

-- the acts read lazily; or they do not, and the text has a line for each read that gives what it may not give
pub data TellsMisreads (acts : List Act) (lines : List ℕ) : Bool → List ℕ → Type 0 where
  lazy : ReadsLazily acts → TellsMisreads acts lines true lazy_line
  unlazy : {position : ℕ} {text : List ℕ} → Misreads acts position → TellsEach (Misreads acts) (TellsMisread acts lines) text
      → TellsMisreads acts lines false text

-- ---- order

-- at position j a read does not give what the last write before it wrote
pub record IsDisorder (run : List Act) (j : ℕ) : Type 0 where
  pub word : ℕ
  pub value : ℕ
  pub last_written : ℕ
  pub read : IsDone run j (Read word value)
  pub written : IsLastWritten run j word last_written
  pub apart : value ≢ last_written

-- the line of a read: what it gives, and what was last written
pub record TellsDisorder (acts : List Act) (lines : List ℕ) (position : ℕ) (line : List ℕ) : Type 0 where
  pub word : ℕ
  pub value : ℕ
  pub last_written : ℕ
  pub read : IsDone acts position (Read word value)
  pub written : IsLastWritten acts position word last_written
  pub is : line ≡ unordered_line (place_at lines position) value last_written

-- the acts read in order; or they do not, and the text has a line for each read that is not in order
pub data TellsDisorders (acts : List Act) (lines : List ℕ) : List ℕ → Type 0 where
  ordered : ReadsLastWritten acts → TellsDisorders acts lines ordered_line
  unordered : {position : ℕ} {text : List ℕ} → IsDisorder acts position → TellsEach (IsDisorder acts) (TellsDisorder acts lines) text
      → TellsDisorders acts lines text

-- ---- the whole

-- The lines before those on races: the acts are or are not well synchronized, read or do not read lazily, exactly where a memory is given, and in
-- order. They read as is asked where they read lazily, and exactly where that is asked.
pub record IsWholeHead (nodes : ℕ) (memory : Option ExactMemory) (acts : List Act) (lines : List ℕ) (holds reads : Bool) (text : List ℕ) : Type 0 where
  pub first : List ℕ
  pub second : List ℕ
  pub between : List ℕ
  pub third : List ℕ
  pub lazily : Bool
  pub exactly : Bool
  pub tells_synchronization : TellsSynchronization nodes acts lines holds first
  pub tells_misreads : TellsMisreads acts lines lazily second
  pub tells_exactness : TellsExactReading nodes memory acts lines exactly between
  pub tells_disorders : TellsDisorders acts lines third
  pub both : reads ≡ (lazily && exactly)
  pub whole : text ≡ first ++ second ++ between ++ third

-- what is printed of acts and their lines, and the status after it
pub record IsWholeJudgement (nodes : ℕ) (memory : Option ExactMemory) (acts : List Act) (lines : List ℕ) (pairs : Bool) (out : List ℕ) (status : ℕ) : Type 0 where
  pub holds : Bool
  pub reads : Bool
  pub head : List ℕ
  pub races : List ℕ
  pub race : Option ℕ
  pub is_head : IsWholeHead nodes memory acts lines holds reads head
  pub tells_races : TellsRaces acts pairs races
  pub is_first : MatchOption race (IsRaceFree acts) (IsFirstRace acts)
  pub whole : out ≡ head ++ races ++ first_race_text race
  pub status_is : status ≡ judge_status holds reads race

-- what is printed of a text of acts, and the status after it
pub record JudgesAll (nodes : Option ℕ) (memory : Option ExactMemory) (pairs : Bool) (text out : List ℕ) (status : ℕ) : Type 0 where
  pub lined : LinedActs
  pub count : ℕ
  pub says : ReadsActs nodes text (Ok lined)
  pub counted : CountsNodes nodes lined.acts.items count
  pub judgement : IsWholeJudgement count memory lined.acts.items lined.lines.items pairs out status
