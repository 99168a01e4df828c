-- Label lines that say nothing: one at most on each line.
use Rattle.std.proofs.Common.{◌≡◌, ◌∙◌, ◌+◌, ℕ, Option, Some, None, List, refl, sym, ap, subst, arith}
use Rattle.std.specs.Prelude.{Result, Ok, Err, slice_get, take}
use Rattle.std.proofs.lemmas.Option.{same_Some}
use Rattle.lrc_labels.specs.declared.label.IdleLabel.{IdleLabel}
use Rattle.lrc_labels.specs.declared.label.Reason.{Reason}
use Rattle.lrc_labels.specs.Line.{LabelLine, fields_of, label_line_in}
use Rattle.lrc_labels.specs.Reading.{Label, idle_at, idle_by, idle_in, idle_of, labels_of, said_of}
use Rattle.lrc_lint_laws.specs.Once.{IsOnce}
use Rattle.lrc_lint_laws.proofs.Once.{In, in_each_at, in_none_at, in_one_at, once_each, once_none, once_one}

once_idle_by : (number column : ℕ) (r : Result Label Reason) → IsOnce (idle_by number column r)
once_idle_by number column (Ok label) = once_none
once_idle_by number column (Err reason) = once_one (record { line = number; column = column; reason = reason })

line_idle_by : (number column : ℕ) (r : Result Label Reason) (x : IdleLabel) → In (idle_by number column r) x → number ≡ x.line
line_idle_by number column (Ok label) x has = absurd (in_none_at x has)
line_idle_by number column (Err reason) x has =
    ap (λ (y : IdleLabel). y.line) (in_one_at (record { line = number; column = column; reason = reason }) x has)

same_idle_by : (number column : ℕ) (r : Result Label Reason) (x y : IdleLabel) → In (idle_by number column r) x → In (idle_by number column r) y → x ≡ y
same_idle_by number column (Ok label) x y has also = absurd (in_none_at x has)
same_idle_by number column (Err reason) x y has also =
    let one : IdleLabel = record { line = number; column = column; reason = reason } in sym (in_one_at one x has) ∙ in_one_at one y also

module _ (words locks : ℕ) where
  once_idle_in : (earlier : List Label) (number : ℕ) (o : Option LabelLine) → IsOnce (idle_in words locks earlier number o)
  once_idle_in earlier number None = once_none
  once_idle_in earlier number (Some found) = once_idle_by number found.column (said_of words locks earlier (fields_of found.body))

  line_idle_in : (earlier : List Label) (number : ℕ) (o : Option LabelLine) (x : IdleLabel) → In (idle_in words locks earlier number o) x → number ≡ x.line
  line_idle_in earlier number None x has = absurd (in_none_at x has)
  line_idle_in earlier number (Some found) x has = line_idle_by number found.column (said_of words locks earlier (fields_of found.body)) x has

  same_idle_in : (earlier : List Label) (number : ℕ) (o : Option LabelLine) (x y : IdleLabel)
      → In (idle_in words locks earlier number o) x → In (idle_in words locks earlier number o) y → x ≡ y
  same_idle_in earlier number None x y has also = absurd (in_none_at x has)
  same_idle_in earlier number (Some found) x y has also = same_idle_by number found.column (said_of words locks earlier (fields_of found.body)) x y has also

  module _ (lines : List (List ℕ)) where
    abbrev behind : ℕ → List Label
    behind k = labels_of words locks (take k lines)

    line_at : (k : ℕ) (line : List ℕ) (x : IdleLabel) → In (idle_at words locks lines k line) x → k + 1 ≡ x.line
    line_at k line x has = line_idle_in (behind k) (k + 1) (label_line_in line) x has

    places : (k l : ℕ) (one other : List ℕ) (x y : IdleLabel) → In (idle_at words locks lines k one) x → In (idle_at words locks lines l other) y
        → x.line ≡ y.line → k ≡ l
    places k l one other x y has also same =
        let h : k + 1 ≡ l + 1 = line_at k one x has ∙ same ∙ sym (line_at l other y also) in omega (arith, h)

    idle_once : IsOnce (idle_of words locks lines)
    idle_once =
        once_each (idle_at words locks lines) lines (λ k line. once_idle_in (behind k) (k + 1) (label_line_in line))
        (λ k l one other x is also has too. places k l one other x x has too refl)

    same_of : (x y : IdleLabel) → In (idle_of words locks lines) x → In (idle_of words locks lines) y → x.line ≡ y.line → x ≡ y
    same_of x y has also same =
        let (k, one, is, h) = in_each_at (idle_at words locks lines) lines x has in
        let (l, other, too, g) = in_each_at (idle_at words locks lines) lines y also in
        let at : k ≡ l = places k l one other x y h g same in
        let text : one ≡ other = same_Some one other (sym is ∙ ap (λ n. slice_get lines n) at ∙ too) in
        same_idle_in (behind k) (k + 1) (label_line_in one) x y h
        (subst (λ n. In (idle_at words locks lines n one) y) (sym at) (subst (λ t. In (idle_at words locks lines l t) y) (sym text) g))

    pub lines_once : (i j : ℕ) (one other : IdleLabel) → slice_get (idle_of words locks lines) i ≡ Some one
        → slice_get (idle_of words locks lines) j ≡ Some other → one.line ≡ other.line → i ≡ j
    lines_once i j one other is also same =
        idle_once i j other (is ∙ ap (λ (x : IdleLabel). Some x) (same_of one other (i, is) (j, also) same)) also
