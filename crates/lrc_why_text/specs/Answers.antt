-- What `why` prints of acts.
use Rattle.std.specs.Prelude.{◌≡◌, ◌<◌, ◌≤◌, ◌⊎◌, ℕ, List, [], ◌++◌, Option, Some, None, Ok, Err, codes, length, max, min}
use Rattle.lrc_trace.specs.declared.act.Act.{Act}
use Rattle.lrc_page.specs.declared.size.Size.{Size}
use Rattle.lrc_page.specs.Page.{words_of}
use Rattle.lrc_judge.specs.Firsts.{AreIntervals}
use Rattle.lrc_acts.specs.ActsText.{ReadsActs}
use Rattle.lrc_acts.specs.declared.reading.ActsFault.TheVariants as faults
use Rattle.lrc_acts.specs.declared.reading.LinedActs.{LinedActs}
use Rattle.lrc_judge_text.specs.Judgement.{CountsNodes}
use Rattle.lrc_why.specs.declared.reasons.Reasons.{Reasons}
use Rattle.lrc_why.specs.declared.reasons.Relation.{Relation}
use Rattle.lrc_why.specs.Whole.{AreReasons, IsRelation}
use Rattle.lrc_why_text.specs.declared.fault.WhyFault.{WhyFault}
use Rattle.lrc_why_text.specs.declared.fault.WhyFault.TheVariants.{BadAct, NoAct, NoMemory, TooLong}
use Rattle.lrc_why_text.specs.declared.asked.Asked.{Asked}
use Rattle.lrc_named_core.specs.Tree.{plain}
use Rattle.lrc_named_core.specs.View.{trap_of}
use Rattle.lrc_why_lines.specs.declared.shown.Shown.{Shown}
use Rattle.lrc_labels.specs.declared.cut.Divider.TheVariants.{LineFeed}
use Rattle.lrc_labels.specs.Cut.{cut, divides}
use Rattle.lrc_acts_lines.specs.Named.{AreLinesTold}
use Rattle.lrc_why_text.specs.Knowing.{all_news_text, interval_text}
use Rattle.lrc_why_text.specs.Learning.{forward_text}
use Rattle.lrc_why_lines.specs.Ordered.{relation_text}
use Rattle.lrc_why_lines.specs.Places.{act_shown, act_text}
use Rattle.lrc_why_lines.specs.Racing.{opponents_text}
use Rattle.lrc_why_text.specs.Told.{about_text}

-- the line of an act
unfoldable pub act_line : Shown → ℕ → List ℕ
act_line shown position = act_text shown position ++ codes "\n"

-- the lines of its reasons behind that: what it is about, the acts that race with it, its interval, what it knows, and who learns of it
unfoldable pub reasons_text : Shown → (size position : ℕ) → Reasons → List ℕ
reasons_text shown size position reasons = about_text shown (act_shown shown position).deed reasons.about
    ++ opponents_text shown reasons.opponents.items
    ++ interval_text shown size position reasons.time.items reasons.words.items
    ++ all_news_text shown size (act_shown shown position).deed reasons.news.items reasons.unknown.items
    ++ forward_text shown position reasons.forward

-- the text tells the reasons of the act at the position, with these lines behind the first
pub record TellsReasons (shown : Shown) (nodes size position : ℕ) (private text : List ℕ) : Type 0 where
  pub reasons : Reasons
  pub are : AreReasons shown.acts.now nodes position reasons
  pub whole : text ≡ act_line shown position ++ private ++ reasons_text shown size position reasons

-- the text tells how the acts at two positions are ordered
pub record TellsRelation (shown : Shown) (earlier later : ℕ) (text : List ℕ) : Type 0 where
  pub relation : Relation
  pub is : IsRelation shown.acts.now earlier later relation
  pub whole : text ≡ act_line shown earlier ++ act_line shown later ++ relation_text shown earlier later relation

-- the text answers what is asked of the acts shown
abbrev pub TellsOf : Shown → (nodes size : ℕ) → (act : ℕ) → Option ℕ → (private text : List ℕ) → Type 0
TellsOf shown nodes size act None private text = TellsReasons shown nodes size act private text
TellsOf shown nodes size act (Some other) private text = TellsRelation shown (min act other) (max act other) text

-- the acts with their intervals, each with this line, and no labels
pub record IsShownPlainly (shown : Shown) (acts : List Act) (lines : List ℕ) : Type 0 where
  pub acts_are : shown.acts.now ≡ acts
  pub lines_are : shown.lines.now ≡ lines
  pub intervals : AreIntervals acts (length acts) shown.intervals.now
  pub unlabelled : shown.labels.now ≡ []
  pub untold : trap_of shown.trap ≡ plain

-- what is asked of is there
abbrev pub IsThere : ℕ → Option ℕ → ℕ → Type 0
IsThere act None count = act < count
IsThere act (Some other) count = (act < count) × (other < count)

-- What is printed of the acts that a text says: the answer to what is asked, where each act stands on the line that is told of it.
pub record AnswersActs (nodes : Option ℕ) (page : Size) (asked : Asked) (text out : List ℕ) : Type 0 where
  pub lined : LinedActs
  pub says : ReadsActs nodes text (Ok lined)
  pub there : IsThere asked.act asked.and (length lined.acts.items)
  pub count : ℕ
  pub counted : CountsNodes nodes lined.acts.items count
  pub lines : List ℕ
  pub told : AreLinesTold (cut (divides LineFeed) text) lined.lines.items lines
  pub shown : Shown
  pub is_shown : IsShownPlainly shown lined.acts.items lines
  pub tells : TellsOf shown count (words_of page) asked.act asked.and [] out

-- the position is the first asked of that is past the last act
abbrev pub IsMissing : ℕ → Option ℕ → ℕ → ℕ → Type 0
IsMissing act None count position = (position ≡ act) × (count ≤ act)
IsMissing act (Some other) count position =
    ((position ≡ act) × (count ≤ act)) ⊎ ((position ≡ other) × (act < count) × (count ≤ other))

-- why a text of acts is not answered
abbrev pub RefusesActs : Option ℕ → Asked → List ℕ → WhyFault → Type 0
RefusesActs nodes asked text TooLong = ReadsActs nodes text (Err faults.TooLong)
RefusesActs nodes asked text (BadAct line) = ReadsActs nodes text (Err (faults.BadAct line))
RefusesActs nodes asked text (NoAct position count) =
    (lined : LinedActs) × ReadsActs nodes text (Ok lined) × (count ≡ length lined.acts.items) × IsMissing asked.act asked.and count position
RefusesActs nodes asked text NoMemory = Unit {0}
