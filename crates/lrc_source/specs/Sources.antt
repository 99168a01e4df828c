-- What is read from a text that is a program.
use Rattle.std.specs.Prelude.{◌≡◌, ℕ, List}
use Rattle.lrc_lang.specs.Faults.{IsText}
use Rattle.lrc_lang.specs.Symbol.{Names}
use Rattle.lrc_program.specs.Tree.{program_of}
use Rattle.lrc_program.specs.declared.Program.{Program}
use Rattle.lrc_labels.specs.declared.cut.Divider.TheVariants.{LineFeed}
use Rattle.lrc_labels.specs.Cut.{cut, divides}
use Rattle.lrc_labels.specs.Reading.{Label, labels_of}
use Rattle.lrc_private_names.specs.Spelling.{AreNamesOf}
use Rattle.lrc_source.specs.Telling.{AreLines, ReadText}

-- a text as it is read, its program, the lines of its statements, in the order of the core's text, and of its end, the labels, and the private
-- names of the core by their numbers
pub record SourceRecord : Type 0 where
  pub text : ReadText
  pub program : Program
  pub lines : List ℕ
  pub labels : List Label
  pub names : Names

-- what the label lines of the text say, those that say something
abbrev pub labels_in : (text : List ℕ) → Program → List Label
labels_in text program = labels_of program.words program.locks (cut (divides LineFeed) text)

-- all belong together: the program is that of the core's text, and the lines, labels and names are those of the two
pub record IsSource (source : SourceRecord) : Type 0 where
  pub is_text : IsText source.text.core (program_of source.program)
  pub are_lines : AreLines source.text source.program source.lines
  pub labels_are : source.labels ≡ labels_in source.text.core source.program
  pub are_names : AreNamesOf source.text.core source.names

-- they are those of this text
pub record IsSourceOf (text : ReadText) (source : SourceRecord) : Type 0 where
  pub text_is : source.text ≡ text
  pub is_source : IsSource source
