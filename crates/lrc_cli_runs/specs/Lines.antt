-- The lines of the text that acts are of.
use Rattle.std.specs.Prelude.{◌≡◌, ℕ, List}
use Rattle.lrc_program.specs.declared.Program.{Program}
use Rattle.lrc_trace.specs.declared.act.Act.{Act}
use Rattle.lrc_lines.specs.Walks.{act_lines}
use Rattle.lrc_source.specs.Telling.{AreLines, ReadText}

-- of each act the line of the text on which the statement stands that it is of
abbrev pub AreLinesIn : ReadText → Program → ℕ → List Act → List ℕ → Type 0
AreLinesIn text program nodes acts lines =
    (places : List ℕ) × AreLines text program places × (lines ≡ act_lines program nodes places acts)
