-- What `why` prints of the acts of a run.
use Rattle.std.specs.Prelude.{◌≡◌, ◌≢◌, ℕ, IfSome, List, [], Option, Some, None, length, map, slice_index, slice_index_or}
use Rattle.lrc_lang.specs.Symbol.{Names}
use Rattle.lrc_program.specs.declared.Program.{Program}
use Rattle.lrc_trace.specs.declared.act.Act.{Act}
use Rattle.lrc_page.specs.declared.size.Size.{Size}
use Rattle.lrc_page.specs.Page.{words_of}
use Rattle.lrc_judge.specs.Firsts.{AreIntervals}
use Rattle.lrc_lines.specs.Statements.{act_statements}
use Rattle.lrc_lines.specs.Walks.{act_lines}
use Rattle.lrc_named_core.specs.Tree.{Trap, plain}
use Rattle.lrc_named_core.specs.View.{trap_of}
use Rattle.lrc_labels.specs.declared.cut.Divider.TheVariants.{LineFeed}
use Rattle.lrc_labels.specs.Cut.{cut, divides}
use Rattle.lrc_labels.specs.Reading.{label_seen, labels_of}
use Rattle.lrc_why_lines.specs.declared.shown.Shown.{Shown}
use Rattle.lrc_why_lines.specs.Places.{act_shown}
use Rattle.lrc_why_text.specs.Answers.{IsMissing, IsThere, TellsOf}
use Rattle.lrc_why_text.specs.declared.asked.Asked.{Asked}
use Rattle.lrc_why_text.specs.declared.fault.WhyFault.{WhyFault}
use Rattle.lrc_why_text.specs.declared.fault.WhyFault.TheVariants.{NoAct, NoMemory}
use Rattle.lrc_why_run.specs.Private.{private_text}
use Rattle.lrc_private_names.specs.Spelling.{AreNamesOf}
use Rattle.lrc_private_names.specs.Standing.{AreLastSets, thread_before}
use Rattle.lrc_source.specs.Telling.{AreLines, ReadText, names_at, traps_of}

-- the number of the statement that the act at a position is of
abbrev pub statement_at : Program → (nodes : ℕ) → List Act → (position : ℕ) → ℕ
statement_at program nodes acts position = slice_index (act_statements program nodes acts) position

-- what the text says of a trap of a statement, where it says something of statements
abbrev pub trap_said : Option (List Trap) → (statement : ℕ) → Trap
trap_said None statement = plain
trap_said (Some traps) statement = slice_index_or traps statement plain

-- The acts with their intervals, each with the line of the text that it is of, the labels of the text, and what it says of a trap of this
-- statement.
pub record IsShownFrom (shown : Shown) (text : ReadText) (program : Program) (nodes : ℕ) (lines : List ℕ) (acts : List Act) (statement : ℕ) : Type 0 where
  pub acts_are : shown.acts.now ≡ acts
  pub lines_are : shown.lines.now ≡ act_lines program nodes lines acts
  pub intervals : AreIntervals acts (length acts) shown.intervals.now
  pub labels_are : map label_seen shown.labels.now ≡ labels_of program.words program.locks (cut (divides LineFeed) text.core)
  pub trap_is : trap_of shown.trap ≡ trap_said (traps_of text.telling) statement

-- the text tells the private names that the statement of the act at the position reads, and what a quiet does
pub record TellsPrivate (shown : Shown) (names : Names) (program : Program) (nodes : ℕ) (lines : List ℕ) (position : ℕ) (text : List ℕ) : Type 0 where
  pub lasts : List (Option ℕ)
  pub last : AreLastSets program nodes lines shown.acts.now (act_shown shown position).node position lasts
  pub whole : text ≡ private_text shown names (thread_before program nodes lines shown.acts.now (act_shown shown position).node position) lasts
      (act_shown shown position).deed

-- the lines that stand behind the first: of one act what is told from the text, of two none
abbrev pub TellsBehind : Shown → Names → Program → (nodes : ℕ) → (lines : List ℕ) → (act : ℕ) → Option ℕ → List ℕ → Type 0
TellsBehind shown names program nodes lines act None text = TellsPrivate shown names program nodes lines act text
TellsBehind shown names program nodes lines act (Some other) text = text ≡ []

-- it can be answered what is asked: the acts are there, and if they are two, apart
pub record IsAnswerable (count : ℕ) (asked : Asked) : Type 0 where
  pub there : IsThere asked.act asked.and count
  pub apart : IfSome asked.and (λ other. other ≢ asked.act)

-- the text answers what is asked of the acts shown, whatever lines the statements have
abbrev pub Tells : Shown → Names → Program → (nodes : ℕ) → Size → Asked → List ℕ → Type 0
Tells shown names program nodes page asked text = (lines : List ℕ) → (behind : List ℕ)
    × TellsBehind shown names program nodes lines asked.act asked.and behind
    × TellsOf shown nodes (words_of page) asked.act asked.and behind text

-- What is printed of the acts of a run of the program that this text is of: the answer to what is asked, where each act stands on the line
-- of its statement, with the labels of the text, and with names and traps as the text tells them in the statement of the first act asked of.
pub record AnswersRun (text : ReadText) (program : Program) (nodes : ℕ) (page : Size) (acts : List Act) (asked : Asked) (out : List ℕ) : Type 0 where
  pub there : IsThere asked.act asked.and (length acts)
  pub lines : List ℕ
  pub are_lines : AreLines text program lines
  pub names : Names
  pub are_names : AreNamesOf text.core names
  pub shown : Shown
  pub is_shown : IsShownFrom shown text program nodes lines acts (statement_at program nodes acts asked.act)
  pub behind : List ℕ
  pub tells_behind :
      TellsBehind shown (names_at text.telling (statement_at program nodes acts asked.act) names) program nodes lines asked.act asked.and behind
  pub tells : TellsOf shown nodes (words_of page) asked.act asked.and behind out

-- why so many acts are not answered
abbrev pub RefusesRun : Asked → (count : ℕ) → WhyFault → Type 0
RefusesRun asked count (NoAct position acts) = IsMissing asked.act asked.and count position × (acts ≡ count)
RefusesRun asked count NoMemory = Unit {0}
RefusesRun asked count _ = ⊥

-- ---- on the way

-- the same is shown, with this said of a trap
pub record IsWith (shown own : Shown) (trap : Trap) : Type 0 where
  pub acts : own.acts.now ≡ shown.acts.now
  pub lines : own.lines.now ≡ shown.lines.now
  pub intervals : own.intervals.now ≡ shown.intervals.now
  pub labels : map label_seen own.labels.now ≡ map label_seen shown.labels.now
  pub said : trap_of own.trap ≡ trap

-- what is asked is answered with traps and names as the text tells them in this statement, where these are the names of its core
abbrev pub TellsAt : ReadText → Names → Shown → Program → (nodes : ℕ) → Size → (statement : ℕ) → Asked → List ℕ → Type 0
TellsAt text names shown program nodes page statement asked out = (own : Shown) × IsWith shown own (trap_said (traps_of text.telling) statement)
    × AreNamesOf text.core names
    × Tells own (names_at text.telling statement names) program nodes page asked out
