use Rattle.std.proofs.Common.{◌≡◌, ◌∙◌, ◌-◌, ℕ, Bor, List, ap, arith, length, map, sym, take}
use Rattle.std.proofs.lemmas.List.{length-map, take-map}
use Rattle.lrc_labels.specs.declared.cut.Divider.TheVariants.{LineFeed}
use Rattle.lrc_labels.specs.Cut.{cut, divides}
use Rattle.lrc_step.proofs.lines.lines_in.Goals as goal

abbrev bytes_of : Bor (List ℕ) → List ℕ
bytes_of line = line.now

pub returns : goal.returns
returns c =
    let lines = c.in_ok-lines.lines.items in
    let pieces : List (List ℕ) = cut (divides LineFeed) c.args.printed.now in
    let are : map bytes_of lines ≡ pieces = c.in_ok-lines.ensures in
    let many : length pieces ≡ length lines = ap length (sym are) ∙ length-map lines bytes_of in
    let count : c.saturating_sub.result ≡ length pieces - 1 = omega (arith, many, c.len.ensures, c.saturating_sub.ensures) in
    ap (map bytes_of) c.truncate.ensures.items
    ∙ sym (take-map bytes_of c.saturating_sub.result lines)
    ∙ ap (take c.saturating_sub.result) are
    ∙ ap (λ (n : ℕ). take n pieces) count
