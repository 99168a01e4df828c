use Rattle.std.proofs.Common.{subst}
use Rattle.lrc_lint_fault.proofs.Telling.{on_ok}
use Rattle.lrc_named_name_hints.specs.Hint.{words_of}
use Rattle.lrc_named_name_hints.specs.Hints.{IsHintOf}
use Rattle.lrc_named_lint_names.proofs.Telling.{seen_there}
use Rattle.lrc_named_lint_names.proofs.name_fault.push_hint_on.Goals as goal

pub returns : goal.returns
returns c =
    let s = c.seen_at-seen.ensures in
    let words = words_of c.in_ok-hint.hint in
    let is = seen_there c.seen_at-seen.result c.args.tokens.now c.args.entries.now c.args.parameters.now c.args.counted c.args.fault.at s.tokens s.entries
    s.parameters s.counted s.at in
    on_ok c.push_hint_if_any.result (λ last. (words, subst (λ seen. IsHintOf c.args.fault.kind seen words) is c.in_ok-hint.ensures, last))
    c.push_hint_if_any.ensures
