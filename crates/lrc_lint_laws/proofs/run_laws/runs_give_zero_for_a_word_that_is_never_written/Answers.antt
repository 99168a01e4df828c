use Rattle.lrc_lint_laws.proofs.Absent.{lazily_zero, unwritten}
use Rattle.lrc_lint_laws.proofs.Runs.{follows, lazily}
use Rattle.lrc_lint_laws.proofs.run_laws.runs_give_zero_for_a_word_that_is_never_written.Goals as goal

pub returns-clause-unwritten : goal.returns-clause-unwritten
returns-clause-unwritten c = λ program tokens at word is_text has nodes options events world runs i value is.
    unwritten program tokens is_text word at has nodes world.acts i is.0 value (follows program nodes options events world runs) is.1

pub returns-clause-zero : goal.returns-clause-zero
returns-clause-zero c = λ program tokens at word is_text has nodes options events world runs j value is.
    lazily_zero program tokens is_text word at has nodes world.acts j value (follows program nodes options events world runs)
    (lazily program nodes options events world runs) is
