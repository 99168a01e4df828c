use Rattle.std.proofs.Common.{◌∙◌, ap, map, List}
use Rattle.lrc_program.specs.declared.Statement.{Statement}
use Rattle.lrc_lang.specs.Parser.View.{token_of}
use Rattle.lrc_program.specs.Statements.{block_of}
use Rattle.lrc_lint_warned.specs.Found.{node_seen, statement_seen}
use Rattle.lrc_lint_warned.specs.Places.{nodes_at, statements_at}
use Rattle.lrc_lint_warnings.proofs.Grown.{all_same}
use Rattle.lrc_lint_warnings.proofs.collect.found_in.Goals as goal

pub returns : goal.returns
returns c =
    let tokens = map token_of c.args.tokens.now in
    all_same (λ found. found.items) c.all_of.result _ _ _ _ _ _ _ _ _ _
    (ap (map node_seen) c.deref-3.ensures.value ∙ c.in_ok-nodes.ensures
    ∙ ap (λ (l : List Statement). nodes_at tokens (block_of l)) c.deref-2.ensures.value)
    (ap (map statement_seen) c.deref-4.ensures.value ∙ c.in_ok-statements.ensures
    ∙ ap (λ (l : List Statement). statements_at tokens (block_of l)) c.deref.ensures.value)
    (ap block_of c.deref-5.ensures.value) c.words.ensures c.locks.ensures c.all_of.ensures
