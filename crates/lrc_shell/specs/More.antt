-- What says more of the fault of a choice, where standard error is a terminal.
use Rattle.std.specs.Prelude.{◌≡◌, ℕ, Bool, true, false, List, [], Option, None, Some, if◌then◌else◌, length, nat_lt}
use Rattle.lrc_cli.specs.Answer.{IsLinted}
use Rattle.lrc_cli_answer.specs.declared.fault.Fault.{Fault}
use Rattle.lrc_cli_answer.specs.declared.fault.Fault.TheVariants.{Text, Names, Events, NoMemory}
use Rattle.lrc_cli_args.specs.Files.{file_of, starts_threads}
use Rattle.lrc_cli_args.specs.declared.choice.Choice.{Choice}
use Rattle.lrc_more_words.specs.Lines.{long_events_line, no_thread_line}

-- where the text of events is too long
abbrev pub length_lines : ℕ → List ℕ
length_lines bytes = if nat_lt 16777216 bytes then long_events_line else []

abbrev pub events_lines : Option (List ℕ) → List ℕ
events_lines (Some events) = length_lines (length events)
events_lines None = []

-- where memory ran out, and threads were started or not
abbrev pub threads_lines : Bool → List ℕ
threads_lines true = no_thread_line
threads_lines false = []

-- These lines say more of the fault of a choice: of one of its text all that `lint` says of that text.
abbrev pub IsMoreOf : Choice → (text : List ℕ) → (events : Option (List ℕ)) → Fault → (lines : List ℕ) → Type 0
IsMoreOf choice text events (Text line kind) lines = (status : ℕ) × IsLinted (file_of choice) text lines status
IsMoreOf choice text events (Names line kind) lines = (status : ℕ) × IsLinted (file_of choice) text lines status
IsMoreOf choice text events (Events line) lines = lines ≡ events_lines events
IsMoreOf choice text events NoMemory lines = lines ≡ threads_lines (starts_threads choice)
IsMoreOf choice text events _ lines = lines ≡ []
