-- The text of a program.
use Rattle.std.specs.Prelude.{ℕ, List}
use Rattle.lrc_lang.specs.Faults.{HasFirstFault, IsText}
use Rattle.lrc_program.specs.Tree.{program_of}
use Rattle.lrc_program.specs.declared.Program.{Program}
use Rattle.lrc_cli_answer.specs.declared.fault.Fault.{Fault}
use Rattle.lrc_cli_answer.specs.declared.fault.Fault.TheVariants.{Text, NoMemory}

-- the text is this program's
abbrev pub IsTextOf : List ℕ → Program → Type 0
IsTextOf text program = IsText text (program_of program)

-- the fault of a text that is no program
abbrev pub IsTextFault : List ℕ → Fault → Type 0
IsTextFault text (Text line kind) = HasFirstFault text line kind
IsTextFault text NoMemory = Unit {0}
IsTextFault text _ = ⊥
