-- The lines that say why a trace is judged no further.
use Rattle.std.specs.Prelude.{◌⊎◌, ◌++◌, ℕ, List, Option, codes, decimal}
use Rattle.lrc_shell_sources.specs.Lines.{IsTold, memory_line}

-- a line that is made may lack memory
abbrev pub IsToldOrLacks : Option (List ℕ) → Option (List ℕ) → List ℕ → Type 0
IsToldOrLacks err err' line = IsTold err err' line ⊎ IsTold err err' memory_line

-- the line on the first line of a trace that is bad, and why
abbrev pub bad_line : ℕ → List ℕ → List ℕ
bad_line line why = codes "treadmarks: trace line " ++ decimal line ++ codes ": bad event: " ++ why ++ codes "\n"

-- the line on the first event of a trace that no program would give, and why
abbrev pub ill_line : ℕ → List ℕ → List ℕ
ill_line line why = codes "treadmarks: trace line " ++ decimal line ++ codes ": not well formed: " ++ why ++ codes "\n"

-- the line on a line without an event
abbrev pub no_event_line : ℕ → List ℕ
no_event_line line = codes "treadmarks: trace line " ++ decimal line ++ codes ": no event\n"

-- the line where a trace ends before a line that is wanted
abbrev pub past_line : ℕ → List ℕ
past_line line = codes "treadmarks: trace ends at line " ++ decimal line ++ codes "\n"
