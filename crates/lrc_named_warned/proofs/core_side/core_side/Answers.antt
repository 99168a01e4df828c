use Rattle.std.proofs.Common.{◌∙◌, ℕ, List, [], ap, ap₂, map, refl}
use Rattle.lrc_lang.specs.declared.positions.Located as code_located
use Rattle.lrc_program.specs.declared.Statement.{Statement}
use Rattle.lrc_lang.specs.declared.token.Token as code_token
use Rattle.lrc_lang.specs.Parser.Located.{located_of}
use Rattle.lrc_lang.specs.Parser.View.{token_of}
use Rattle.lrc_program.specs.Statements.{block_of}
use Rattle.lrc_program.specs.Tree.{program_of}
use Rattle.lrc_labels.specs.declared.cut.Divider.TheVariants.{LineFeed}
use Rattle.lrc_labels.specs.Cut.{cut, divides}
use Rattle.lrc_labels.specs.Reading.{labels_of}
use Rattle.lrc_lint.specs.Linted.{tokens_of}
use Rattle.lrc_lint.proofs.Program.{few_tokens, these_are}
use Rattle.lrc_lint_warned.specs.declared.found.StatementAt as code_statement
use Rattle.lrc_lint_warned.specs.Found.{statement_seen}
use Rattle.lrc_lint_warned.specs.Places.{statements_at}
use Rattle.lrc_named_warned.specs.CoreSide.{side_seen}
use Rattle.lrc_named_warned.specs.Places.{begins_in, numbered}
use Rattle.lrc_named_warned.proofs.Sides.{side_is}
use Rattle.lrc_named_warned.proofs.core_side.core_side.Goals as goal

pub numbered-requires : goal.numbered-requires
numbered-requires c =
    few_tokens c.args.core.now c.in_ok-all.all.items _ c.requires.fits c.in_ok-all.ensures
    (ap (map token_of) c.deref-2.ensures.value ∙ c.in_ok-tokens.ensures
    ∙ ap (λ (l : List code_located.Located). tokens_of (map located_of l)) c.deref.ensures.value)

pub warnings-requires : goal.warnings-requires
warnings-requires c =
    few_tokens c.args.core.now c.in_ok-all.all.items _ c.requires.fits c.in_ok-all.ensures
    (ap (map token_of) c.deref-3.ensures.value ∙ c.in_ok-tokens.ensures
    ∙ ap (λ (l : List code_located.Located). tokens_of (map located_of l)) c.deref.ensures.value)

pub statements_at-requires : goal.statements_at-requires
statements_at-requires c =
    few_tokens c.args.core.now c.in_ok-all.all.items _ c.requires.fits c.in_ok-all.ensures
    (ap (map token_of) c.deref-6.ensures.value ∙ c.in_ok-tokens.ensures
    ∙ ap (λ (l : List code_located.Located). tokens_of (map located_of l)) c.deref.ensures.value)

pub returns : goal.returns
returns c =
    let core = c.args.core.now in
    let p = program_of c.args.program.now in
    let all = map located_of c.in_ok-all.all.items in
    let lines = cut (divides LineFeed) core in
    let tokens = c.in_ok-tokens.ensures ∙ ap (λ (l : List code_located.Located). tokens_of (map located_of l)) c.deref.ensures.value in
    let spots = c.in_ok-spots.ensures ∙ ap (λ (l : List code_token.Token). numbered (map token_of l)) c.deref-2.ensures.value ∙ ap numbered tokens in
    let statements =
    c.in_ok-statements.ensures
    ∙ ap (λ (l : List code_token.Token). statements_at (map token_of l) (block_of c.deref-5.result.now)) c.deref-6.ensures.value
    ∙ ap (λ t. statements_at t (block_of c.deref-5.result.now)) tokens
    ∙ ap (λ (l : List Statement). statements_at (tokens_of all) (block_of l)) c.deref-5.ensures.value in
    side_is core p _ all c.requires c.in_ok-all.ensures
    (these_are p _ _ _ _ [] [] c.in_ok-warned.warned.items (c.deref-4.ensures.value ∙ spots) (ap (map token_of) c.deref-3.ensures.value ∙ tokens) refl
    c.in_ok-warned.ensures.these)
    (c.in_ok-begins.ensures ∙ ap (λ (l : List code_statement.StatementAt). begins_in (map statement_seen l)) c.deref-7.ensures.value ∙ ap begins_in statements)
    c.in_ok-names.ensures
    (c.in_ok-labels.ensures.said ∙ ap₂ (λ (words locks : ℕ). labels_of words locks lines) c.words.ensures c.locks.ensures)
