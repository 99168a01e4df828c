-- What is written to the two outputs, and with which status the program ends.
use Rattle.std.specs.Prelude.{◌≡◌, ◌⊎◌, ℕ, true, List, Option}
use Rattle.std.specs.Io.KnownBytes.{Appends, Keeps}
use Rattle.lrc_cli.specs.Answer.{IsFault, Meets, Prints, asks_pairs}
use Rattle.lrc_cli_answer.specs.FaultLine.{fault_line}
use Rattle.lrc_report.specs.Output.{AppendsFront}
use Rattle.lrc_cli_args.specs.declared.choice.Choice.{Choice}
use Rattle.lrc_cli_answer.specs.declared.fault.Fault.{Fault}
use Rattle.lrc_cli_answer.specs.declared.fault.Fault.TheVariants.{NoMemory}

-- The text is written, and the result is this status; or a write failed,
-- not all of the text is written but a front of it, and the result is 1.
abbrev pub IsWritten : Option (List ℕ) → Option (List ℕ) → List ℕ → ℕ → ℕ → Type 0
IsWritten old new text status result =
    (Appends old new text × (result ≡ status)) ⊎ (AppendsFront old new text × (result ≡ 1))

-- of a text that is made while it is written, a proper front is written, and memory ran out, as a line on `err` says; the result is 1
abbrev pub IsCut : Option (List ℕ) → Option (List ℕ) → Option (List ℕ) → Option (List ℕ) → List ℕ → ℕ → Type 0
IsCut out out' err err' text result = AppendsFront out out' text × IsWritten err err' (fault_line NoMemory) 1 result

-- the text is written, as far as the writes do not fail, and nothing to `err`, or it is cut
abbrev pub IsPrintedOrCut : Option (List ℕ) → Option (List ℕ) → Option (List ℕ) → Option (List ℕ) → List ℕ → ℕ → ℕ → Type 0
IsPrintedOrCut out out' err err' text status result =
    (IsWritten out out' text status result × Keeps err err') ⊎ IsCut out out' err err' text result

-- a text is written, and behind it the line of a fault to `err`, or the line that there is no memory for that one; or a write of the text failed, and
-- nothing is written to `err`; the result is 1
abbrev pub IsBrokenOff : Option (List ℕ) → Option (List ℕ) → Option (List ℕ) → Option (List ℕ) → List ℕ → Fault → ℕ → Type 0
IsBrokenOff out out' err err' text fault result =
    (Appends out out' text × (IsWritten err err' (fault_line fault) 1 result ⊎ IsWritten err err' (fault_line NoMemory) 1 result))
    ⊎ (AppendsFront out out' text × Keeps err err' × (result ≡ 1))

-- What comes of a choice with these texts, by what `out` and `err` have before and after:
pub data Performs (choice : Choice) (text : List ℕ) (events : Option (List ℕ)) (out out' err err' : Option (List ℕ)) (result : ℕ) : Type 0 where
  -- what is printed is written to `out`, and nothing to `err`,
  prints : (printed : List ℕ) (status : ℕ) → Prints choice text events printed status
      → IsWritten out out' printed status result → Keeps err err'
      → Performs choice text events out out' err err' result
  -- or, where racing pairs are asked for, memory ran out behind a front of it,
  cuts : (printed : List ℕ) (status : ℕ) → asks_pairs choice ≡ true → Prints choice text events printed status
      → IsCut out out' err err' printed result → Performs choice text events out out' err err' result
  -- or what a search met is written to `out`, and behind it the line of the fault by which it gives up to `err`,
  gives_up : (printed : List ℕ) (fault : Fault) → Meets choice text printed fault → IsBrokenOff out out' err err' printed fault result
      → Performs choice text events out out' err err' result
  -- or the line of the first fault is written to `err`, and nothing to `out`.
  faults : (fault : Fault) → IsFault choice text events fault
      → IsWritten err err' (fault_line fault) 1 result → Keeps out out'
      → Performs choice text events out out' err err' result
