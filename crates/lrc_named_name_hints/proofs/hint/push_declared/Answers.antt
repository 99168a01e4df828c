use Rattle.std.proofs.Common.{◌++◌, append_assoc, ap, ◌∙◌}
use Rattle.std.specs.Prelude.{codes, decimal}
use Rattle.lrc_lint_fault.proofs.Telling.{on_ok}
use Rattle.lrc_named_name_hints.proofs.hint.push_declared.Goals as goal

pub returns : goal.returns
returns c =
    let old = c.args.out.now.items in
    on_ok c.push_number.result
    (λ e. e ∙ append_assoc old (codes "declared on line ") (decimal c.from.result)
    ∙ ap (λ n. old ++ (codes "declared on line " ++ decimal n)) c.from.ensures)
    c.push_number.ensures.ok
