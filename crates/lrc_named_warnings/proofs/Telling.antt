-- What is told of a named program, from its warnings.
use Rattle.std.proofs.Common.{◌≡◌, ◌∙◌, ℕ, List, ◌++◌, ap, length}
use Rattle.std.specs.Prelude.{IsPermutation, IsSortedByKey}
use Rattle.lrc_lint_lines.specs.Head.{count_text}
use Rattle.lrc_lint_warnings.specs.declared.warning.Warning.{Warning}
use Rattle.lrc_named_warnings.specs.declared.note.Note.{Note}
use Rattle.lrc_named_warnings.specs.Context.{Context}
use Rattle.lrc_named_warnings.specs.Lines.{Line, lines_text}
use Rattle.lrc_named_warnings.specs.Notes.{key_of, key_order, notes_of}
use Rattle.lrc_named_warnings.specs.Told.{Tells, counted_text, told_text}
use Rattle.lrc_text.proofs.Pushed.{and_then}

pub told : (file : List ℕ) (c : Context) (warned : List Warning) (before printed : List ℕ) (notes : List Note) → IsPermutation (notes_of c warned) notes
    → IsSortedByKey key_of key_order notes → printed ≡ before ++ told_text file c notes → Tells file c warned before printed
told file c warned before printed notes these sorted is = record { notes = notes; these = these; sorted = sorted; is = is }

pub counted : (file old one new : List ℕ) (seen lines : List Line) (n : ℕ) → seen ≡ lines → n ≡ length seen → one ≡ old ++ lines_text file seen
    → new ≡ one ++ count_text n → new ≡ old ++ counted_text file lines
counted file old one new seen lines n same many first more =
    and_then old (lines_text file seen) one new first (count_text n) more
    ∙ ap (λ m. old ++ (lines_text file seen ++ count_text m)) many
    ∙ ap (λ l. old ++ counted_text file l) same
