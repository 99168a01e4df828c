use Rattle.std.proofs.Common.{◌++◌, ◌∙◌, sym, ap, subst}
use Rattle.lrc_named_lint.specs.Told.{TellsTextFault}
use Rattle.lrc_lint_fault.proofs.Telling.{if_ok}
use Rattle.lrc_named_lint.proofs.text_fault.faulty.Goals as goal

pub returns-clause-parts : goal.returns-clause-parts
returns-clause-parts c =
    let t = c.in_ok-push_first.ensures in
    let lines = t.1 ∙ ap (λ l. l ++ t.0) c.new-out.ensures.items in
    if_ok c.no_program.result (λ linted e. subst (TellsTextFault c.args.file.now c.args.text.now) (sym (e ∙ lines)) t.2) c.no_program.ensures.parts
