use Rattle.lrc_lint_lines.specs.Expected.{joined}
use Rattle.lrc_lint_lines.proofs.Grown.{phrased}
use Rattle.lrc_named_expected.proofs.expected.push_expected.Goals as goal

pub returns : goal.returns
returns c =
    phrased c.extend_from_slice-2.result (λ phrase. phrase.now) joined _ _ _ _ _ _ _ _ _ c.deref.ensures.value c.in_ok-phrases.ensures
    c.in_ok-extend_from_slice.ensures.items c.in_ok-push_joined.ensures c.extend_from_slice-2.ensures.items
