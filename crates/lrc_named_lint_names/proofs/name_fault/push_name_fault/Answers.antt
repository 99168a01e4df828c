use Rattle.std.proofs.Common.{map, ap, ◌∙◌}
use Rattle.lrc_lint_fault.proofs.Telling.{on_ok}
use Rattle.lrc_named_tokens.specs.View.{located_of}
use Rattle.lrc_named_tree.specs.View.{declaration_of, named_of, program_of}
use Rattle.lrc_named_entries.specs.Entry.{entries_of, first_nodes, parameters_around}
use Rattle.lrc_named_entries.specs.View.{entry_seen}
use Rattle.lrc_named_lint_names.proofs.Telling.{seen_found, told}
use Rattle.lrc_named_lint_names.proofs.name_fault.push_name_fault.Goals as goal

pub returns : goal.returns
returns c =
    let tokens = map located_of c.args.tokens.now in
    let tree = program_of c.args.program.now in
    let at = c.args.fault.at in
    let entries = ap (map entry_seen) c.deref-4.ensures.value ∙ c.in_ok-entries.ensures ∙ ap (λ ds. entries_of (map declaration_of ds)) c.deref.ensures.value in
    let parameters = ap (map named_of) c.deref-5.ensures.value ∙ c.in_ok-parameters.ensures
    ∙ ap (λ ds. parameters_around at (map declaration_of ds)) c.deref-2.ensures.value in
    let counted = c.first_nodes-counted.ensures ∙ ap (λ ds. first_nodes (map declaration_of ds)) c.deref-3.ensures.value in
    let is = seen_found tokens tree at _ _ _ entries parameters counted in
    on_ok c.push_hint_on.result
    (λ t. told c.args.file.now c.args.text.now tokens tree c.args.fault _ _ t.0 _ _ _ c.token_at-found.ensures is t.1 c.in_ok-push_head.ensures t.2)
    c.push_hint_on.ensures
