-- What comes of the races of a file.
use Rattle.std.specs.Prelude.{◌≡◌, ◌≢◌, ◌⊎◌, ℕ, List, Option, codes}
use Rattle.std.specs.Io.KnownBytes.{Keeps}
use Rattle.std.specs.declared.io.ErrorKind.{ErrorKind}
use Rattle.lrc_races_text.specs.declared.asked.Asked.{Asked}
use Rattle.lrc_races_text.specs.declared.form.Form.{Form}
use Rattle.lrc_shell_sources.specs.Known.{Held, IsCause, Known}
use Rattle.lrc_shell_sources.specs.Lines.{IsTold, memory_line, read_line}
use Rattle.lrc_races_stream.specs.Comes.{Comes}
use Rattle.lrc_races_stream.specs.Heard.{Hears}
use Rattle.lrc_races_stream.specs.Lines.{IsToldOrLacks, bad_line, ill_line}
use Rattle.lrc_races_stream.specs.declared.outcome.Outcome.{Outcome}
use Rattle.lrc_races_stream.specs.declared.outcome.Outcome.TheVariants.{Ended, BadEvent, IllFormed, NoMemory, Unread, Unwritten}

-- What is said on standard error where a trace came to this, and the status. There may be no memory for a line on a line of the trace.
abbrev pub IsConcluded : Outcome → Option (List ℕ) → Option (List ℕ) → ℕ → Type 0
IsConcluded (Ended ended) err err' status = Keeps err err' × (status ≡ ended)
IsConcluded (BadEvent line why) err err' status = IsToldOrLacks err err' (bad_line line why.items) × (status ≡ 1)
IsConcluded (IllFormed ill) err err' status = IsToldOrLacks err err' (ill_line ill.line ill.why.items) × (status ≡ 1)
IsConcluded NoMemory err err' status = IsTold err err' memory_line × (status ≡ 1)
IsConcluded (Unread kind) err err' status = IsTold err err' (read_line kind) × (status ≡ 1)
IsConcluded Unwritten err err' status = Keeps err err' × (status ≡ 1)

-- what is held of the file that a path names, of standard input where that is `-`
abbrev pub IsNamed : Known → List ℕ → Held → Type 0
IsNamed known path held = ((path ≡ codes "-") × (held ≡ known.input)) ⊎ ((path ≢ codes "-") × (held ≡ known.files path))

-- What comes of the races of a file, by what `out` and `err` have before and after: it cannot be opened, or it is told as it is read.
pub data IsRacesPlayed (known : Known) (path : List ℕ) (form : Form) (asked : Asked) (out out' err err' : Option (List ℕ)) (status : ℕ) : Type 0 where
  unopened : (kind : ErrorKind) → path ≢ codes "-" → IsCause (known.files path) kind → IsTold err err' (read_line kind) → Keeps out out'
      → status ≡ 1 → IsRacesPlayed known path form asked out out' err err' status
  told : (held : Held) (outcome : Outcome) (mid : Option (List ℕ)) → IsNamed known path held → Comes form asked held out out' outcome
      → Hears form held err mid outcome → IsConcluded outcome mid err' status → IsRacesPlayed known path form asked out out' err err' status
