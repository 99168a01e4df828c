use Rattle.std.proofs.Common.{ℕ, List, option_map, subst, sym}
use Rattle.std.specs.Borrow.{Bor}
use Rattle.lrc_cli_args.specs.declared.choice.Choice.{Choice}
use Rattle.lrc_cli.specs.Answer.{Answers}
use Rattle.lrc_cli.proofs.AnswerLemmas.{answers_explored, answers_for, answers_of_run}
use Rattle.lrc_cli.proofs.answer.answer.Goals as goal

pub returns-in-Check : goal.returns-in-Check
returns-in-Check c =
    answers_for c.args.choice.now _ c.args.text.now (option_map (λ (e : Bor (List ℕ)). e.now) c.args.events) c.checked.result c.printed.result c.in-Check.is
    c.printed.ensures c.checked.ensures.ok c.checked.ensures.err

pub returns-in-Core : goal.returns-in-Core
returns-in-Core c =
    answers_for c.args.choice.now _ c.args.text.now (option_map (λ (e : Bor (List ℕ)). e.now) c.args.events) c.cored.result c.printed-in-Core.result c.in-Core.is
    c.printed-in-Core.ensures c.cored.ensures.ok c.cored.ensures.err

pub returns-in-Plain : goal.returns-in-Plain
returns-in-Plain c =
    answers_for c.args.choice.now _ c.args.text.now (option_map (λ (e : Bor (List ℕ)). e.now) c.args.events) c.plain.result c.printed-in-Plain.result c.in-Plain.is
    c.printed-in-Plain.ensures c.plain.ensures.ok c.plain.ensures.err

pub returns-in-Show : goal.returns-in-Show
returns-in-Show c =
    subst (λ (choice : Choice). Answers choice c.args.text.now (option_map (λ (e : Bor (List ℕ)). e.now) c.args.events) c.printed-in-Show.result) (sym c.in-Show.is)
    (answers_of_run c.in-Show.run' c.in-Show.shape c.args.text.now (option_map (λ (e : Bor (List ℕ)). e.now) c.args.events) c.shown.result c.printed-in-Show.result
    c.printed-in-Show.ensures c.shown.ensures)

pub returns-in-Explore : goal.returns-in-Explore
returns-in-Explore c =
    answers_explored c.args.choice.now _ c.args.text.now (option_map (λ (e : Bor (List ℕ)). e.now) c.args.events) c.explored.result c.in-Explore.is
    c.explored.ensures.ok c.explored.ensures.err

pub returns-in-Lint : goal.returns-in-Lint
returns-in-Lint c =
    answers_for c.args.choice.now _ c.args.text.now (option_map (λ (e : Bor (List ℕ)). e.now) c.args.events) c.linted.result c.printed-in-Lint.result c.in-Lint.is
    c.printed-in-Lint.ensures c.linted.ensures.ok c.linted.ensures.err

pub returns-in-WhyActs : goal.returns-in-WhyActs
returns-in-WhyActs c =
    answers_for c.args.choice.now _ c.args.text.now (option_map (λ (e : Bor (List ℕ)). e.now) c.args.events) c.reasoned.result c.printed-in-WhyActs.result c.in-WhyActs.is
    c.printed-in-WhyActs.ensures c.reasoned.ensures.ok c.reasoned.ensures.err

pub returns-in-ChartActs : goal.returns-in-ChartActs
returns-in-ChartActs c =
    answers_for c.args.choice.now _ c.args.text.now (option_map (λ (e : Bor (List ℕ)). e.now) c.args.events) c.pictured.result c.printed-in-ChartActs.result c.in-ChartActs.is
    c.printed-in-ChartActs.ensures c.pictured.ensures.ok c.pictured.ensures.err

pub returns-in-Judge : goal.returns-in-Judge
returns-in-Judge c =
    subst (λ (choice : Choice). Answers choice c.args.text.now (option_map (λ (e : Bor (List ℕ)). e.now) c.args.events) c.judgement.result)
    (sym c.in-Judge.is) c.judgement.ensures
