use Rattle.std.proofs.Common.{◌∙◌, ℕ, List, ap, ap₂, map}
use Rattle.lrc_lang.specs.declared.positions.Located as code_located
use Rattle.lrc_lang.specs.declared.token.Token as code_token
use Rattle.lrc_lang.specs.Counts.{names_of}
use Rattle.lrc_lang.specs.Parser.Located.{located_of}
use Rattle.lrc_lang.specs.Parser.View.{token_of}
use Rattle.lrc_program.specs.Tree.{program_of}
use Rattle.lrc_labels.specs.declared.cut.Divider.TheVariants.{LineFeed}
use Rattle.lrc_labels.specs.Cut.{cut, divides}
use Rattle.lrc_labels.specs.Reading.{idle_of, label_seen, labels_of}
use Rattle.lrc_lint_fault.proofs.Telling.{on_ok}
use Rattle.lrc_lint.specs.Linted.{spots_of, tokens_of}
use Rattle.lrc_lint.proofs.Program.{few_tokens, lines_are, these_are, told}
use Rattle.lrc_lint.proofs.linted.push_program.Goals as goal

pub warnings-requires : goal.warnings-requires
warnings-requires c =
    few_tokens c.args.text.now c.in_ok-all.all.items _ c.requires.program.fits c.in_ok-all.ensures
    (ap (map token_of) c.deref-4.ensures.value ∙ c.in_ok-tokens.ensures
    ∙ ap (λ (l : List code_located.Located). tokens_of (map located_of l)) c.deref.ensures.value)

pub returns : goal.returns
returns c =
    let text = c.args.text.now in
    let p = program_of c.args.program.now in
    let lines = cut (divides LineFeed) text in
    let tokens = c.in_ok-tokens.ensures ∙ ap (λ (l : List code_located.Located). tokens_of (map located_of l)) c.deref.ensures.value in
    let spots = c.in_ok-spots.ensures ∙ ap (λ (l : List code_located.Located). spots_of (map located_of l)) c.deref-2.ensures.value in
    let names = c.in_ok-names.ensures ∙ ap (λ (l : List code_token.Token). names_of (map token_of l)) c.deref-3.ensures.value ∙ ap names_of tokens in
    let said = c.in_ok-labels.ensures.said ∙ ap₂ (λ (words locks : ℕ). labels_of words locks lines) c.words.ensures c.locks.ensures in
    let idle = c.in_ok-labels.ensures.idle ∙ ap₂ (λ (words locks : ℕ). idle_of words locks lines) c.words.ensures c.locks.ensures in
    let these =
    these_are p _ _ _ _ _ _ c.in_ok-warned.warned.items (c.deref-5.ensures.value ∙ spots) (ap (map token_of) c.deref-4.ensures.value ∙ tokens)
    (c.deref-6.ensures.value ∙ idle) c.in_ok-warned.ensures.these in
    on_ok c.push_warned.result (λ e. told c.args.file.now text _ p (map located_of c.in_ok-all.all.items) c.in_ok-warned.warned.items c.requires.program
    c.in_ok-all.ensures these c.in_ok-warned.ensures.sorted
    (lines_are c.args.file.now _ _ _ _ _ _ _ _ c.requires.empty (ap (map (λ name. name.now)) c.deref-8.ensures.value ∙ names)
    (ap (map label_seen) c.deref-9.ensures.value ∙ said) c.deref-7.ensures.value e)) c.push_warned.ensures
