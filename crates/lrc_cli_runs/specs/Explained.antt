-- The report of a run with reasons.
use Rattle.std.specs.Prelude.{◌≡◌, ℕ, List, Option}
use Rattle.lrc_program.specs.declared.Program.{Program}
use Rattle.lrc_trace.specs.declared.act.Act.{Act}
use Rattle.lrc_explain.specs.Explain.{explain_text}
use Rattle.lrc_explain_waits.specs.Traps.{traps_told}
use Rattle.lrc_judge.specs.FirstPairs.{AreFirstPairs}
use Rattle.lrc_judge.specs.declared.lanes.Pair.{Pair}
use Rattle.lrc_cli_args.specs.declared.choice.RunOptions.{RunOptions}
use Rattle.lrc_cli_answer.specs.Labels.{labels_in}
use Rattle.lrc_source.specs.Telling.{AreLines, ReadText, traps_of}

-- the report of such a run with reasons, with the labels of the text, and with what it says of traps
abbrev pub IsExplained : ReadText → Program → RunOptions → List Act → Option ℕ → List ℕ → Type 0
IsExplained text program options acts first_race out = (places : List ℕ) × AreLines text program places
    × ((pairs : List Pair) × AreFirstPairs acts pairs
    × (out ≡ explain_text (labels_in text.core program) (traps_told (traps_of text.telling) program options.nodes.count acts) program
    options.nodes.count places options.steps.count acts pairs first_race))
