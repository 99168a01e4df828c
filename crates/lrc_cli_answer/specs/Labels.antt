-- The labels of the words and the locks of a program, as its text gives them.
use Rattle.std.specs.Prelude.{ℕ, List}
use Rattle.lrc_program.specs.declared.Program.{Program}
use Rattle.lrc_labels.specs.declared.cut.Divider.TheVariants.{LineFeed}
use Rattle.lrc_labels.specs.Cut.{cut, divides}
use Rattle.lrc_labels.specs.Reading.{Label, labels_of}

-- what the label lines of the text say, those that say something
abbrev pub labels_in : (text : List ℕ) → Program → List Label
labels_in text program = labels_of program.words program.locks (cut (divides LineFeed) text)
