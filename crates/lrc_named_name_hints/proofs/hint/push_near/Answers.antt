use Rattle.lrc_lint_lines.proofs.Grown.{spelled}
use Rattle.lrc_named_name_hints.proofs.hint.push_near.Goals as goal

pub returns : goal.returns
returns c =
    spelled c.extend_from_slice-3.result _ _ _ _ _ _ _ c.in_ok-extend_from_slice.ensures.items c.in_ok-extend_from_slice-2.ensures.items
    c.extend_from_slice-3.ensures.items
