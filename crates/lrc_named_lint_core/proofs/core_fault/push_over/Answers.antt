use Rattle.std.proofs.Common.{◌++◌, ◌∙◌, ap, ap₂}
use Rattle.lrc_lang.specs.declared.fault.FaultKind.TheVariants.{OverLimit}
use Rattle.lrc_lint_fault.proofs.Telling.{on_ok}
use Rattle.lrc_lint_lines.specs.Head.{kind_text, place_text}
use Rattle.lrc_named_lint.specs.Told.{token_fault_text}
use Rattle.lrc_named_lint_core.specs.Told.{hint_line}
use Rattle.lrc_named_lint_core.proofs.Pushed.{four_pushed}
use Rattle.lrc_named_lint_core.proofs.core_fault.push_over.Goals as goal

pub returns : goal.returns
returns c =
    let placed = c.in_ok-push_place.ensures ∙ ap (λ l. c.args.out.now.items ++ l) (ap₂ (place_text c.args.file.now) c.from.ensures c.from-2.ensures) in
    let told = c.in_ok-push_token_fault.ensures
    ∙ ap (λ token. c.push_place.new.out.items ++ token_fault_text (kind_text OverLimit) token) c.spelling.ensures in
    on_ok c.push_line.result
    (λ last. four_pushed _ _ _ _ _ placed told c.in_ok-push_excerpt.ensures (last ∙ ap (λ words. c.push_excerpt.new.out.items ++ hint_line words) c.words_of.ensures))
    c.push_line.ensures
