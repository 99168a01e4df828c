-- What is told of a named program: its warnings, and how many they are.
use Rattle.std.specs.Prelude.{◌≡◌, ℕ, List, ◌++◌, IsPermutation, IsSortedByKey, length, map}
use Rattle.lrc_lint_lines.specs.Head.{count_text}
use Rattle.lrc_lint_warnings.specs.declared.warning.Warning.{Warning}
use Rattle.lrc_named_warnings.specs.declared.note.Note.{Note}
use Rattle.lrc_named_warnings.specs.Context.{Context}
use Rattle.lrc_named_warnings.specs.Lines.{Line, firsts, line_of, lines_text}
use Rattle.lrc_named_warnings.specs.Notes.{key_of, key_order, notes_of}

-- a line for each of these, and the line that says how many they are
abbrev pub counted_text : List ℕ → List Line → List ℕ
counted_text file lines = lines_text file lines ++ count_text (length lines)

-- of these warnings, the same words of one place once
abbrev pub told_text : List ℕ → Context → List Note → List ℕ
told_text file c notes = counted_text file (firsts (map (line_of c) notes))

-- All warnings of a named program come behind this text, where this is warned of in its core: by line, column and kind, then as in the
-- core, the same words of one place once, and how many they are.
pub record Tells (file : List ℕ) (c : Context) (warned : List Warning) (before printed : List ℕ) : Type 0 where
  pub notes : List Note
  pub these : IsPermutation (notes_of c warned) notes
  pub sorted : IsSortedByKey key_of key_order notes
  pub is : printed ≡ before ++ told_text file c notes
