use Rattle.std.proofs.Common.{◌∙◌, ◌||◌, ap, map, Bool, arith}
use Rattle.std.specs.List.{list_any}
use Rattle.lrc_lint_warned.specs.Constant.{is_value}
use Rattle.lrc_lint_warned.specs.Found.{StatementAt, statement_seen}
use Rattle.lrc_lint_warned.specs.Words.{word_written}
use Rattle.lrc_lint_warned.proofs.Known.{constant_writes}
use Rattle.lrc_lint_warned.proofs.words.never_written_by.Goals as goal

pub push_unknown_reads-requires-clause-written : goal.push_unknown_reads-requires-clause-written
push_unknown_reads-requires-clause-written c = λ k h.
    c.mark_writes.ensures k (omega (arith, h, c.mark_writes.auto.known))
    ∙ ap (λ (b : Bool). b || list_any (λ (s : StatementAt). is_value (word_written s.statement) k) (map statement_seen c.args.statements.now))
    (c.requires.unmarked k (omega (arith, h, c.mark_writes.auto.known)))
    ∙ constant_writes k (map statement_seen c.args.statements.now) c.requires.constants
