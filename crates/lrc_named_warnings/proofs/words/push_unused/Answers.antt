use Rattle.std.proofs.Common.{◌∙◌, ◌++◌, ap}
use Rattle.lrc_lint_lines.proofs.Grown.{spelled}
use Rattle.lrc_named_warnings.specs.Words.{sort_text}
use Rattle.lrc_named_warnings.proofs.words.push_unused.Goals as goal

pub returns : goal.returns
returns c =
    spelled c.extend_from_slice-3.result c.args.out.now.items (sort_text c.args.entry.now.sort) _ _ _ _ _
    (c.in_ok-extend_from_slice.ensures.items ∙ ap (λ l. c.args.out.now.items ++ l) c.sort_words.ensures)
    c.in_ok-extend_from_slice-2.ensures.items c.extend_from_slice-3.ensures.items
