-- Each statement has what comes from it, and what is in its blocks.
use Rattle.std.proofs.Common.{◌≡◌, drop, sym, subst, arith}
use Rattle.lrc_named_core.specs.View.{block_of, statement_of}
use Rattle.lrc_named_limits.specs.Limits.{IsFirstOf, IsOverIn, IsOverInBlock}
use Rattle.lrc_named_limits.proofs.Blocks.{choice_first, loop_first}
use Rattle.lrc_named_limits.proofs.statements.+statements.Goals as goal

pub of_statement-returns-in-Assign : goal.of_statement-returns-in-Assign
of_statement-returns-in-Assign t c =
    subst (λ s. IsFirstOf (λ x. IsOverIn c.args.privates c.args.depth (statement_of s) x) c.of_set.result) (sym c.in-Assign.is) c.of_set.ensures

pub of_statement-returns-in-Read : goal.of_statement-returns-in-Read
of_statement-returns-in-Read t c =
    subst (λ s. IsFirstOf (λ x. IsOverIn c.args.privates c.args.depth (statement_of s) x) c.of_set-in-Read.result) (sym c.in-Read.is) c.of_set-in-Read.ensures

pub of_statement-returns-in-Write : goal.of_statement-returns-in-Write
of_statement-returns-in-Write t c =
    subst (λ s. IsFirstOf (λ x. IsOverIn c.args.privates c.args.depth (statement_of s) x) c.of_write.result) (sym c.in-Write.is) c.of_write.ensures

pub of_statement-returns-in-Acquire : goal.of_statement-returns-in-Acquire
of_statement-returns-in-Acquire t c =
    subst (λ s. IsFirstOf (λ x. IsOverIn c.args.privates c.args.depth (statement_of s) x) c.of_expression.result) (sym c.in-Acquire.is) c.of_expression.ensures

pub of_statement-returns-in-Release : goal.of_statement-returns-in-Release
of_statement-returns-in-Release t c =
    subst (λ s. IsFirstOf (λ x. IsOverIn c.args.privates c.args.depth (statement_of s) x) c.of_expression-in-Release.result) (sym c.in-Release.is) c.of_expression-in-Release.ensures

pub of_statement-returns-in-Print : goal.of_statement-returns-in-Print
of_statement-returns-in-Print t c =
    subst (λ s. IsFirstOf (λ x. IsOverIn c.args.privates c.args.depth (statement_of s) x) c.of_expression-in-Print.result) (sym c.in-Print.is) c.of_expression-in-Print.ensures

pub of_statement-returns-in_ok-other-in-If : goal.of_statement-returns-in_ok-other-in-If
of_statement-returns-in_ok-other-in-If t c =
    choice_first c.args.privates c.args.depth c.in_ok-deeper-in-If.deeper c.in-If.origin c.in-If.condition c.in-If.then c.in-If.otherwise c.args.statement.now
    c.deref.result.now c.deref-in-If.result.now c.of_head-own.result c.in_ok-one-in-If.one c.in_ok-other-in-If.other c.earlier.result c.earlier-in-If.result
    c.in-If.is c.in_ok-deeper-in-If.ensures c.deref.ensures.value c.deref-in-If.ensures.value c.earlier-in-If.ensures c.earlier.ensures
    c.of_head-own.ensures c.in_ok-one-in-If.ensures c.in_ok-other-in-If.ensures

pub of_statement-returns-in_ok-one-in-While : goal.of_statement-returns-in_ok-one-in-While
of_statement-returns-in_ok-one-in-While t c =
    loop_first c.args.privates c.args.depth c.in_ok-deeper-in-While.deeper c.in-While.origin c.in-While.condition c.in-While.inside c.args.statement.now
    c.deref-in-While.result.now c.of_head-own-in-While.result c.in_ok-one-in-While.one c.earlier-in-While.result
    c.in-While.is c.in_ok-deeper-in-While.ensures c.deref-in-While.ensures.value c.earlier-in-While.ensures
    c.of_head-own-in-While.ensures c.in_ok-one-in-While.ensures

pub of_statements-returns : goal.of_statements-returns
of_statements-returns t c =
    let all : c.loop-i.i ≡ 0 = omega (arith, c.loop-i-test.false) in
    subst (λ k. IsFirstOf (λ x. IsOverInBlock c.args.privates c.args.depth (block_of (drop k c.args.statements.now)) x) c.loop-i.first) all c.loop-i.invariant
