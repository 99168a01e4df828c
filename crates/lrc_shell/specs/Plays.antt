-- What the program does with its words and the files that they name.
use Rattle.std.specs.Prelude.{◌≡◌, ◌≢◌, ◌⊎◌, ℕ, Bool, true, false, List, Option, None, Some, Result, Ok, Err, IfSome, codes, drop}
use Rattle.std.specs.Io.KnownBytes.{Keeps}
use Rattle.std.specs.IoError.{error_kind}
use Rattle.std.specs.declared.io.Error.{Error}
use Rattle.std.specs.declared.io.ErrorKind.{ErrorKind}
use Rattle.std.specs.declared.io.ErrorKind.TheVariants.{OutOfMemory}
use Rattle.clap.specs.Words.{Text}
use Rattle.lrc_cli_args.specs.CommandLine.{Chooses, words_meant}
use Rattle.lrc_cli_args.specs.Files.{events_of, file_of, reads_acts}
use Rattle.lrc_cli_args.specs.declared.choice.Choice.{Choice}
use Rattle.lrc_cli_args.specs.declared.choice.ChooseFault.{ChooseFault}
use Rattle.lrc_cli_args.specs.declared.choice.ChooseFault.TheVariants.{BadNumber, NoMemory, Usage}
use Rattle.lrc_cli_args.specs.declared.choice.Grouping.{Grouping}
use Rattle.lrc_cli_args.specs.declared.choice.Grouping.TheVariants.{Each, Groups, Locations}
use Rattle.lrc_cli_args.specs.declared.choice.Racing.{Racing}
use Rattle.lrc_cli_args.specs.declared.choice.Reasoning.{Reasoning}
use Rattle.lrc_cli_args.specs.declared.choice.Request.TheVariants.{About, Races, Reasons, Score, Witness, Answer}
use Rattle.lrc_cli_args.specs.declared.choice.Scoring.{Scoring}
use Rattle.lrc_cli_args.specs.declared.choice.Topic.{Topic}
use Rattle.lrc_cli_args.specs.declared.choice.TraceForm.{TraceForm}
use Rattle.lrc_cli_args.specs.declared.choice.TraceForm.TheVariants as args
use Rattle.lrc_cli_args.specs.declared.choice.Witnessing.{Witnessing}
use Rattle.lrc_cli.specs.Answer.{Answers, IsFault}
use Rattle.lrc_cli.specs.Performance.{IsWritten, Performs}
use Rattle.lrc_cli.specs.declared.answer.Answered.{Answered}
use Rattle.lrc_cli_answer.specs.FaultLine.{fault_line}
use Rattle.lrc_cli_answer.specs.declared.fault.Fault.{Fault}
use Rattle.lrc_more_words.specs.Lines.{file_lines, number_lines}
use Rattle.lrc_races_text.specs.declared.asked.Asked.{Asked}
use Rattle.lrc_races_text.specs.declared.asked.Layout.{Layout}
use Rattle.lrc_races_text.specs.declared.asked.Layout.TheVariants.{Objects, Words}
use Rattle.lrc_races_text.specs.declared.asked.Sought.{Sought}
use Rattle.lrc_races_text.specs.declared.asked.Sought.TheVariants.{AllRaces, SureRaces}
use Rattle.lrc_races_text.specs.declared.form.Form.{Form}
use Rattle.lrc_races_text.specs.declared.form.Form.TheVariants as races
use Rattle.lrc_races_stream.specs.Locations.{IsLocationsPlayed}
use Rattle.lrc_races_stream.specs.Plays.{IsRacesPlayed}
use Rattle.lrc_races_stream.specs.Score.{IsScorePlayed}
use Rattle.lrc_races_stream.specs.Why.{IsWhyPlayed}
use Rattle.lrc_races_stream.specs.Witness.{IsWitnessPlayed}
use Rattle.lrc_shell_sources.specs.Known.{IsCause, IsFront, Known}
use Rattle.lrc_shell_sources.specs.Lines.{IsTold, memory_line, read_line}
use Rattle.lrc_shell.specs.More.{IsMoreOf}
use Rattle.lrc_shell_more.specs.More.{IsMoreTold, IsToldMore, failure_lines, unread_lines}

-- of a text one byte more than the longest has is read: of one of acts, or of a program,
abbrev pub most_read : Bool → ℕ
most_read true = 67108865
most_read false = 65537

-- and of one of events
abbrev pub events_read : ℕ
events_read = 16777217

-- what is read of a text, so many bytes of it at most; the path `-` is standard input
abbrev pub IsTextRead : Known → ℕ → List ℕ → List ℕ → Type 0
IsTextRead known most path text = ((path ≡ codes "-") × IsFront most known.input text)
    ⊎ ((path ≢ codes "-") × IsFront most (known.files path) text)

-- what is read of the events, where a file of them is named
abbrev pub AreEventsRead : Known → Option (List ℕ) → Option (List ℕ) → Type 0
AreEventsRead known None None = Unit {0}
AreEventsRead known (Some path) (Some text) = IsFront events_read (known.files path) text
AreEventsRead known _ _ = ⊥

-- a file that is named cannot be read, for this
abbrev pub IsTextCause : Known → List ℕ → ErrorKind → Type 0
IsTextCause known path kind = ((path ≡ codes "-") × IsCause known.input kind)
    ⊎ ((path ≢ codes "-") × IsCause (known.files path) kind)

-- this file is one that a choice names, and it cannot be read, for this
abbrev pub IsUnread : Known → Choice → List ℕ → Error → Type 0
IsUnread known choice path error = ((path ≡ file_of choice) × IsTextCause known path (error_kind error))
    ⊎ ((events_of choice ≡ Some path) × IsCause (known.files path) (error_kind error))

-- the line and the status where the arguments cannot be read
abbrev pub argument_line : ErrorKind → List ℕ
argument_line OutOfMemory = memory_line
argument_line _ = codes "error: invalid UTF-8 was detected in one or more arguments\n"

abbrev pub argument_status : ErrorKind → ℕ
argument_status OutOfMemory = 1
argument_status _ = 2

-- What is said where these words are no choice, by what `err` has before and after, and the status: a text of usage, that a
-- number is out of range, and on a terminal which one, or that memory ran out.
abbrev pub IsRefusal : Bool → ChooseFault → List Text → Option (List ℕ) → Option (List ℕ) → ℕ → Type 0
IsRefusal terminal (Usage error) words err err' status = status ≡ 2
IsRefusal terminal BadNumber words err err' status =
    IsToldMore terminal (codes "treadmarks: number out of range\n") (λ lines. lines ≡ number_lines words) err err' × (status ≡ 2)
IsRefusal terminal NoMemory words err err' status = IsTold err err' memory_line × (status ≡ 1)

-- What comes of a topic: what is said of it is written, with status 0, or memory ran out. (Its text is clap's, which promises nothing of it.)
abbrev pub IsTopicTold : Option (List ℕ) → Option (List ℕ) → Option (List ℕ) → Option (List ℕ) → ℕ → Type 0
IsTopicTold out out' err err' status = ((text : List ℕ) × IsWritten out out' text 0 status × Keeps err err')
    ⊎ (IsTold err err' memory_line × Keeps out out' × (status ≡ 1))

-- What comes of a choice with these texts, by what `out` and `err` have before and after:
pub data IsPerformed (terminal : Bool) (choice : Choice) (text : List ℕ) (events : Option (List ℕ)) (out out' err err' : Option (List ℕ))
    (status : ℕ) : Type 0 where
  -- it has an answer, which is written,
  answers : (answered : Answered) → Answers choice text events (Ok answered) → Performs choice text events out out' err err' status
      → IsPerformed terminal choice text events out out' err err' status
  -- or the line of the first fault is written to `err`, on a terminal with what says more of that fault, and nothing to `out`.
  faults : (fault : Fault) → IsFault choice text events fault
      → IsToldMore terminal (fault_line fault) (IsMoreOf choice text events fault) err err' → Keeps out out' → status ≡ 1
      → IsPerformed terminal choice text events out out' err err' status

-- What comes of a choice, by what `out` and `err` have before and after:
pub data IsPlayed (known : Known) (terminal : Bool) (choice : Choice) (out out' err err' : Option (List ℕ)) (status : ℕ) : Type 0 where
  -- a file that it names cannot be read, which on a terminal is named with the system's reason,
  unread : (path : List ℕ) (error : Error) → IsUnread known choice path error
      → IsToldMore terminal (read_line (error_kind error)) (λ lines. lines ≡ file_lines path error) err err' → Keeps out out' → status ≡ 1
      → IsPlayed known terminal choice out out' err err' status
  -- or it is answered, with what was read.
  performed : (text : List ℕ) (events : Option (List ℕ)) → IsTextRead known (most_read (reads_acts choice)) (file_of choice) text
      → AreEventsRead known (events_of choice) events → IsPerformed terminal choice text events out out' err err' status
      → IsPlayed known terminal choice out out' err err' status

-- the form of a trace that the words name
abbrev pub form_of : TraceForm → Form
form_of args.Std = races.Std
form_of args.Acts = races.Acts

-- the races that the words ask for: all, or the sure ones alone
abbrev pub sought_of : Bool → Sought
sought_of true = SureRaces
sought_of false = AllRaces

-- in which layout they are told
abbrev pub layout_of : Bool → Layout
layout_of true = Objects
layout_of false = Words

-- whether they are told by groups
abbrev pub is_grouped : Grouping → Bool
is_grouped Each = false
is_grouped Groups = true
is_grouped Locations = false

-- what they ask of the trace
abbrev pub asked_of : Racing → Asked
asked_of racing = record {
  sought = sought_of racing.sure;
  group = is_grouped racing.grouping;
  layout = layout_of racing.json;
  strict = racing.strict;
}

-- What comes of a trace whose races are asked for: they are told as it is read, or its pairs of locations when it has ended.
abbrev pub IsRacingTold : Known → Racing → Grouping → Option (List ℕ) → Option (List ℕ) → Option (List ℕ) → Option (List ℕ) → ℕ → Type 0
IsRacingTold known racing Each out out' err err' status =
    IsRacesPlayed known racing.file.now (form_of racing.form) (asked_of racing) out out' err err' status
IsRacingTold known racing Groups out out' err err' status =
    IsRacesPlayed known racing.file.now (form_of racing.form) (asked_of racing) out out' err err' status
IsRacingTold known racing Locations out out' err err' status =
    IsLocationsPlayed known racing.file.now (form_of racing.form) racing.strict (sought_of racing.sure) (layout_of racing.json) out out' err err' status

-- What comes of a trace, which may stand beside a report: what is told of it, and on a terminal why one of the two files could not be read. (No
-- contract says why.)
pub record IsTraced (terminal : Bool) (file report : List ℕ) (told : Option (List ℕ) → Type 0) (err' : Option (List ℕ)) : Type 0 where
  pub between : Option (List ℕ)
  pub tells : told between
  pub unread : Option (List ℕ × Error)
  pub named : IfSome unread (λ found. (found.0 ≡ file) ⊎ (found.0 ≡ report))
  pub behind : IsMoreTold terminal (λ lines. lines ≡ unread_lines unread) between err'

-- What comes of the words, where standard error is a terminal or not: they ask for nothing, and nothing is printed, or what comes of the
-- topic, the trace or the choice that they ask for.
pub data Plays (known : Known) (terminal : Bool) (words : List Text) (out out' err err' : Option (List ℕ)) (status : ℕ) : Type 0 where
  refused : (fault : ChooseFault) → Chooses words (Err fault) → IsRefusal terminal fault words err err' status → Keeps out out'
      → Plays known terminal words out out' err err' status
  spoken : (topic : Topic) → Chooses words (Ok (About topic)) → IsTopicTold out out' err err' status → Plays known terminal words out out' err err' status
  raced : (racing : Racing) → Chooses words (Ok (Races racing))
      → IsTraced terminal racing.file.now racing.file.now (λ between. IsRacingTold known racing racing.grouping out out' err between status) err' → Plays known terminal words out out' err err' status
  witnessed : (witnessing : Witnessing) → Chooses words (Ok (Witness witnessing))
      → IsTraced terminal witnessing.file.now witnessing.file.now (λ between. IsWitnessPlayed known witnessing.file.now (form_of witnessing.form)
      witnessing.strict witnessing.lines.first witnessing.lines.second out out' err between status) err' → Plays known terminal words out out' err err' status
  reasoned : (reasoning : Reasoning) → Chooses words (Ok (Reasons reasoning))
      → IsTraced terminal reasoning.file.now reasoning.file.now (λ between. IsWhyPlayed known reasoning.file.now (form_of reasoning.form)
      reasoning.strict reasoning.lines.first reasoning.lines.second out out' err between status) err' → Plays known terminal words out out' err err' status
  scored : (scoring : Scoring) → Chooses words (Ok (Score scoring))
      → IsTraced terminal scoring.file.now scoring.report.now (λ between. IsScorePlayed known scoring.file.now scoring.report.now
      (form_of scoring.form) scoring.strict (sought_of scoring.sure) out out' err between status) err' → Plays known terminal words out out' err err' status
  played : (choice : Choice) → Chooses words (Ok (Answer choice)) → IsPlayed known terminal choice out out' err err' status
      → Plays known terminal words out out' err err' status

-- What comes of the arguments of the program, the first of which is its name: what comes of the words behind it, or the arguments
-- cannot be read, a line says why, and nothing is printed.
abbrev pub Begins : Known → Bool → Result (List Text) ErrorKind
    → Option (List ℕ) → Option (List ℕ) → Option (List ℕ) → Option (List ℕ) → ℕ → Type 0
Begins known terminal (Ok arguments) out out' err err' status = Plays known terminal (words_meant (drop 1 arguments)) out out' err err' status
Begins known terminal (Err kind) out out' err err' status =
    IsTold err err' (argument_line kind) × (status ≡ argument_status kind) × Keeps out out'

-- What comes of a start: what comes of the arguments, and on a terminal a line says by which error the output ended early, if one
-- did and somebody still reads it.
pub record Starts (known : Known) (terminal : Bool) (arguments : Result (List Text) ErrorKind) (failure : Option Error)
    (out out' err err' : Option (List ℕ)) (status : ℕ) : Type 0 where
  pub between : Option (List ℕ)
  pub begins : Begins known terminal arguments out out' err between status
  pub more : IsMoreTold terminal (λ lines. lines ≡ failure_lines failure) between err'
