-- What comes of the claims of a report about the trace in a file.
use Rattle.std.specs.Prelude.{◌≡◌, ◌≢◌, ◌⊎◌, ◌++◌, ℕ, Bool, List, Option, codes, decimal}
use Rattle.std.specs.Io.KnownBytes.{Keeps}
use Rattle.std.specs.declared.io.ErrorKind.{ErrorKind}
use Rattle.std.specs.Prelude.{Ok, Err}
use Rattle.lrc_races_score.specs.Report.{ReadsReport}
use Rattle.lrc_races_score.specs.declared.report.LinedClaim.{LinedClaim}
use Rattle.lrc_races_score.specs.declared.report.Report.{Report}
use Rattle.lrc_races_score.specs.declared.report.ReportFault.{ReportFault}
use Rattle.lrc_races_score.specs.declared.report.ReportFault.TheVariants as faulty
use Rattle.lrc_races_scored.specs.Scored.{IsScore, IsScoreOf}
use Rattle.lrc_races_scored.specs.Traced.{HasTraced}
use Rattle.lrc_races_scored.specs.declared.traced.Traced.{Traced}
use Rattle.lrc_races_notes.specs.Noting.{KeepsBoth}
use Rattle.lrc_races_notes.specs.declared.noting.Noting.{Noting}
use Rattle.lrc_races_missed.specs.Missed.{AreNumbered}
use Rattle.lrc_races_text.specs.Session.{Text}
use Rattle.lrc_races_text.specs.Tables.{naming_of}
use Rattle.lrc_races_text.specs.declared.asked.Sought.{Sought}
use Rattle.lrc_races_text.specs.declared.fault.Fault.TheVariants as faults
use Rattle.lrc_races_text.specs.declared.form.Form.{Form}
use Rattle.lrc_shell_sources.specs.Known.{Held, IsCause, IsFront, Known}
use Rattle.lrc_shell_sources.specs.Lines.{IsTold as IsSaid, memory_line, read_line}
use Rattle.lrc_races_front.specs.declared.front.Front.{Front}
use Rattle.lrc_races_stream.specs.Answer.{IsAnswerTold}
use Rattle.lrc_races_stream.specs.Lines.{IsToldOrLacks}
use Rattle.lrc_races_stream.specs.Locations.{IsFault}
use Rattle.lrc_races_stream.specs.Noted.{Notes}
use Rattle.lrc_races_stream.specs.Plays.{IsNamed}
use Rattle.lrc_races_stream.specs.Reach.{AreAll, ArePermitted, IsHalt, IsSeeking, most_lines}
use Rattle.lrc_races_stream.specs.declared.answer.Answer.{Answer}
use Rattle.lrc_races_stream.specs.declared.answer.Answer.TheVariants.{Answered, Stopped}
use Rattle.lrc_races_stream.specs.declared.answer.Stop.{Stop}
use Rattle.lrc_races_stream.specs.declared.answer.Stop.TheVariants.{Faulted}

-- of a report one byte more than the longest has is read
abbrev pub report_read : ℕ
report_read = 67108865

-- what is read of it; the path `-` is standard input
abbrev pub IsReportRead : Known → List ℕ → List ℕ → Type 0
IsReportRead known report text = ((report ≡ codes "-") × IsFront report_read known.input text)
    ⊎ ((report ≢ codes "-") × IsFront report_read (known.files report) text)

-- it cannot be read, for this
abbrev pub IsReportCause : Known → List ℕ → ErrorKind → Type 0
IsReportCause known report kind = ((report ≡ codes "-") × IsCause known.input kind)
    ⊎ ((report ≢ codes "-") × IsCause (known.files report) kind)

-- the lines on a text that is no report
abbrev pub too_long_line : List ℕ
too_long_line = codes "treadmarks: report line 1: text too long\n"

abbrev pub bad_claim_line : ℕ → List ℕ
bad_claim_line line = codes "treadmarks: report line " ++ decimal line ++ codes ": bad claim\n"

-- what is said of such a text, and the status
abbrev pub IsReportRefused : ReportFault → Option (List ℕ) → Option (List ℕ) → ℕ → Type 0
IsReportRefused faulty.TooLong err err' status = IsSaid err err' too_long_line × (status ≡ 1)
IsReportRefused (faulty.BadClaim line) err err' status = IsToldOrLacks err err' (bad_claim_line line) × (status ≡ 1)
IsReportRefused faulty.NoMemory err err' status = IsSaid err err' memory_line × (status ≡ 1)

-- What comes of the claims, where a trace is held so, strictly or not.
pub data Scores (strict : Bool) (sought : Sought) (form : Form) (claims : List LinedClaim) (held : Held) : Answer → Type 0 where
  -- All its lines are good, and the claims about it are scored,
  told : (lines : List (List ℕ)) {printed : Text} {status : ℕ} → AreAll held lines → ArePermitted strict form lines
      → IsScoreOf sought form lines claims status printed.items → Scores strict sought form claims held (Answered printed status)
  -- or it was not read to its end, for this.
  stopped : (kept : Traced) {stop : Stop} → IsHalt strict HasTraced form most_lines held kept stop → IsFault stop
      → Scores strict sought form claims held (Stopped stop)

-- in some form, the first bytes of what some file holds are read
abbrev pub IsBegunTrace : Held → Front (Noting Traced) → Type 0
IsBegunTrace left front = (form : Form) × (held : Held) × IsSeeking (KeepsBoth HasTraced) form most_lines held left front

-- the claims about what is kept of so many lines are scored, or memory ran out
pub data IsScored (sought : Sought) (claims : List LinedClaim) (kept : Traced) (last : ℕ) : Answer → Type 0 where
  scored : {printed : Text} {status : ℕ} → (AreNumbered (naming_of kept.names) kept.events.items
      → IsScore sought (naming_of kept.names) kept.events.items last claims status printed.items) → IsScored sought claims kept last (Answered printed status)
  lacking : IsScored sought claims kept last (Stopped (Faulted faults.NoMemory))

-- What comes of claims about the trace in a file, by what `out` and `err` have before and after: it cannot be opened, or the claims are
-- scored when it has ended.
pub data IsTraceScored (known : Known) (path : List ℕ) (form : Form) (strict : Bool) (sought : Sought) (claims : List LinedClaim)
    (out out' err err' : Option (List ℕ)) (status : ℕ) : Type 0 where
  unopened : (kind : ErrorKind) → path ≢ codes "-" → IsCause (known.files path) kind → IsSaid err err' (read_line kind) → Keeps out out'
      → status ≡ 1 → IsTraceScored known path form strict sought claims out out' err err' status
  played : (held : Held) (answer : Answer) (mid : Option (List ℕ)) → IsNamed known path held → Scores strict sought form claims held answer
      → Notes form held most_lines answer err mid → IsAnswerTold answer out out' mid err' status
      → IsTraceScored known path form strict sought claims out out' err err' status

-- What comes of a report and the trace in a file: the report cannot be read, or is none, or its claims are scored.
pub data IsScorePlayed (known : Known) (path report : List ℕ) (form : Form) (strict : Bool) (sought : Sought) (out out' err err' : Option (List ℕ))
    (status : ℕ) : Type 0 where
  unread : (kind : ErrorKind) → IsReportCause known report kind → IsSaid err err' (read_line kind) → Keeps out out' → status ≡ 1
      → IsScorePlayed known path report form strict sought out out' err err' status
  refused : (text : List ℕ) (fault : ReportFault) → IsReportRead known report text → ReadsReport text (Err fault) → IsReportRefused fault err err' status
      → Keeps out out' → IsScorePlayed known path report form strict sought out out' err err' status
  scored : (text : List ℕ) (claimed : Report) → IsReportRead known report text → ReadsReport text (Ok claimed)
      → IsTraceScored known path form strict sought claimed.claims.items out out' err err' status
      → IsScorePlayed known path report form strict sought out out' err err' status
