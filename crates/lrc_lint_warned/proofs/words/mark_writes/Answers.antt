use Rattle.std.proofs.Common.{◌∙◌, ◌||◌, ℕ, ap, arith, map, get_or, take_all, Option, List, Bool, sym}
use Rattle.std.specs.Prelude.{false}
use Rattle.std.specs.List.{list_any}
use Rattle.lrc_lint_warned.specs.declared.found.StatementAt as code_statement
use Rattle.lrc_lint_warned.specs.Constant.{is_value}
use Rattle.lrc_lint_warned.specs.Found.{StatementAt, statement_seen}
use Rattle.lrc_lint_warned.specs.Words.{word_written}
use Rattle.lrc_lint_warned.proofs.Lists.{any_more}
use Rattle.lrc_lint_warned.proofs.Known.{or_assoc, or_nothing}
use Rattle.lrc_lint_warned.proofs.words.mark_writes.Goals as goal

pub loop-s-init : goal.loop-s-init
loop-s-init c = λ k h. or_nothing (get_or c.args.known.now k false)

pub loop-s-preserved : goal.loop-s-preserved
loop-s-preserved c = λ k h.
    let s = c.s-item.result in
    c.mark.ensures k (omega (arith, h, c.loop-s.auto.known))
    ∙ ap (λ (o : Option ℕ). get_or c.loop-s.known k false || is_value o k) c.word_written.ensures
    ∙ ap (λ (b : Bool). b || is_value (word_written (statement_seen s).statement) k) (c.loop-s.invariant k h)
    ∙ or_assoc (get_or c.args.known.now k false) _ (is_value (word_written (statement_seen s).statement) k)
    ∙ ap (λ (b : Bool). get_or c.args.known.now k false || b)
    (sym (any_more statement_seen (λ (s : StatementAt). is_value (word_written s.statement) k) c.args.statements.now c.loop-s.s-index s
    c.loop-s-test.true c.s-item.is))

pub returns : goal.returns
returns c = λ k h.
    c.loop-s.invariant k h
    ∙ ap (λ (l : List code_statement.StatementAt). get_or c.args.known.now k false
    || list_any (λ (s : StatementAt). is_value (word_written s.statement) k) (map statement_seen l))
    (take_all c.loop-s.s-index c.args.statements.now c.loop-s-test.false)
