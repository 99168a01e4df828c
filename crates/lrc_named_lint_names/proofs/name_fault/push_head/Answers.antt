use Rattle.std.proofs.Common.{◌++◌, ◌∙◌, ap, ap₂}
use Rattle.lrc_lint_lines.specs.Head.{place_text}
use Rattle.lrc_lint_fault.proofs.Telling.{on_ok}
use Rattle.lrc_named_lint.specs.Told.{token_fault_text}
use Rattle.lrc_named_lint_names.proofs.Telling.{three_pushed}
use Rattle.lrc_named_lint_names.proofs.name_fault.push_head.Goals as goal

pub returns : goal.returns
returns c =
    let placed = c.in_ok-push_place.ensures ∙ ap (λ l. c.args.out.now.items ++ l) (ap₂ (place_text c.args.file.now) c.from.ensures c.from-2.ensures) in
    let told = c.in_ok-push_token_fault.ensures ∙ ap (λ l. c.push_place.new.out.items ++ l) (ap₂ token_fault_text c.words.ensures c.spelling.ensures) in
    on_ok c.push_excerpt.result (λ last. three_pushed _ _ _ _ placed told last) c.push_excerpt.ensures
