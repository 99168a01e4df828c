use Rattle.std.proofs.Common.{◌++◌, ◌∙◌, ap, ap₂}
use Rattle.lrc_lint_lines.specs.Head.{place_text}
use Rattle.lrc_lint_fault.specs.Hint.{words_line}
use Rattle.lrc_lint_fault.proofs.Telling.{on_ok, five_pushed}
use Rattle.lrc_named_lint.proofs.text_fault.push_told.Goals as goal

pub returns : goal.returns
returns c =
    let placed = c.in_ok-push_place.ensures ∙ ap (λ l. c.args.out.now.items ++ l) (ap₂ (place_text c.args.file.now) c.from.ensures c.from-2.ensures) in
    let hinted = c.in_ok-push_hint_if_any.ensures ∙ ap (λ words. c.push_excerpt.new.out.items ++ words_line words) c.hint_for.ensures in
    on_ok c.push_may_stand.result
    (λ last. five_pushed _ _ _ _ _ _ placed c.in_ok-push_kind.ensures c.in_ok-push_excerpt.ensures hinted last)
    c.push_may_stand.ensures
