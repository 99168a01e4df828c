-- What is said of the outcome of a question about two lines of a trace.
use Rattle.std.specs.Prelude.{◌≡◌, ◌⊎◌, ℕ, List, Option}
use Rattle.std.specs.Io.KnownBytes.{Appends, Keeps}
use Rattle.lrc_races_text.specs.declared.fault.Fault.{Fault}
use Rattle.lrc_races_text.specs.declared.fault.Fault.TheVariants as faults
use Rattle.lrc_report.specs.Output.{AppendsFront}
use Rattle.lrc_shell_sources.specs.Lines.{IsTold, memory_line, read_line}
use Rattle.lrc_races_stream.specs.Lines.{IsToldOrLacks, bad_line, ill_line, no_event_line, past_line}
use Rattle.lrc_races_stream.specs.declared.answer.Answer.{Answer}
use Rattle.lrc_races_stream.specs.declared.answer.Answer.TheVariants.{Answered, NoEvent, Stopped}
use Rattle.lrc_races_stream.specs.declared.answer.Stop.{Stop}
use Rattle.lrc_races_stream.specs.declared.answer.Stop.TheVariants.{Past, Faulted, IllFormed, Unread}

-- what is said of a bad line, or of want of memory, and the status
abbrev pub IsFaultTold : Fault → Option (List ℕ) → Option (List ℕ) → ℕ → Type 0
IsFaultTold (faults.BadEvent line why) err err' status = IsToldOrLacks err err' (bad_line line why.items) × (status ≡ 1)
IsFaultTold faults.NoMemory err err' status = IsTold err err' memory_line × (status ≡ 1)

-- what is said where a trace is read no further
abbrev pub IsStopTold : Stop → Option (List ℕ) → Option (List ℕ) → ℕ → Type 0
IsStopTold (Past line) err err' status = IsToldOrLacks err err' (past_line line) × (status ≡ 1)
IsStopTold (Faulted fault) err err' status = IsFaultTold fault err err' status
IsStopTold (IllFormed ill) err err' status = IsToldOrLacks err err' (ill_line ill.line ill.why.items) × (status ≡ 1)
IsStopTold (Unread kind) err err' status = IsTold err err' (read_line kind) × (status ≡ 1)

-- What is printed where it came to this, and the status. A fault stands in place of all else.
abbrev pub IsAnswerTold : Answer → Option (List ℕ) → Option (List ℕ) → Option (List ℕ) → Option (List ℕ) → ℕ → Type 0
IsAnswerTold (Answered printed found) out out' err err' status =
    ((Appends out out' printed.items × (status ≡ found)) ⊎ (AppendsFront out out' printed.items × (status ≡ 1))) × Keeps err err'
IsAnswerTold (NoEvent line) out out' err err' status = IsToldOrLacks err err' (no_event_line line) × Keeps out out' × (status ≡ 1)
IsAnswerTold (Stopped stop) out out' err err' status = IsStopTold stop err err' status × Keeps out out'
