-- The lines of the statements of a program, by whatever it is told.
use Rattle.std.proofs.Common.{◌≡◌, ◌∙◌, ◌+◌, ℕ, List, ap, length, map, sym}
use Rattle.std.specs.Prelude.{slice_index}
use Rattle.std.specs.List.{range_with_len}
use Rattle.std.proofs.lemmas.List.{length-map}
use Rattle.lrc_exec.specs.Flat.{statements_in}
use Rattle.lrc_program.specs.Tree.{ProgramTree, program_of}
use Rattle.lrc_program.specs.declared.Program.{Program}
use Rattle.lrc_lang.proofs.Beginnings.{lines_same}
use Rattle.lrc_lines.specs.Statements.{numbers_of}
use Rattle.lrc_lines.proofs.Numbering.{lines_counted}
use Rattle.lrc_source.specs.Telling.{AreLines, AreLinesBy, ReadText, Telling, translated, written}

counted_by : (telling : Telling) (core : List ℕ) (program : Program) (lines : List ℕ) → AreLinesBy telling core program lines
    → length lines ≡ length (numbers_of program)
counted_by written core program lines are = lines_counted core program lines are
counted_by (translated named) core program lines are = ap length are ∙ length-map (numbers_of program) (λ number. slice_index named.lines number)

-- they are as many as the statements have numbers
pub are_counted : (text : ReadText) (program : Program) (lines : List ℕ) → AreLines text program lines → length lines ≡ length (numbers_of program)
are_counted text program lines are = counted_by text.telling text.core program lines are

-- a program has no others
pub lines_of_one : (telling : Telling) (core : List ℕ) (program other : Program) (lines others : List ℕ) → program_of program ≡ program_of other
    → AreLinesBy telling core program lines → AreLinesBy telling core other others → lines ≡ others
lines_of_one written core program other lines others same are these =
    lines_same core (program_of program) (program_of other) lines others are these
lines_of_one (translated named) core program other lines others same are these =
    are
    ∙ ap (λ (tree : ProgramTree). map (λ number. slice_index named.lines number) (range_with_len 0 (statements_in tree.statements + 1))) same
    ∙ sym these
