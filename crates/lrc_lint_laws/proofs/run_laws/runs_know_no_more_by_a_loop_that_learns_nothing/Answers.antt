use Rattle.lrc_lint_laws.proofs.Learning.{learns_no_act, learns_no_deed, learns_no_write, reads_one_value}
use Rattle.lrc_lint_laws.proofs.Runs.{follows, goer_in_range, lazily}
use Rattle.lrc_lint_laws.proofs.run_laws.runs_know_no_more_by_a_loop_that_learns_nothing.Goals as goal

pub returns-clause-quiet : goal.returns-clause-quiet
returns-clause-quiet c = λ program tokens at has nodes options events world runs node i j round k deed from upto does.
    learns_no_deed program tokens at has nodes node world.acts (follows program nodes options events world runs)
    (goer_in_range program nodes options events world runs tokens node at i j round) i j round k deed from upto does

pub returns-clause-known : goal.returns-clause-known
returns-clause-known c = λ program tokens at has nodes options events world runs node i j round k other before deed from apart does happens.
    learns_no_act program tokens at has nodes node world.acts (follows program nodes options events world runs)
    (goer_in_range program nodes options events world runs tokens node at i j round) i j round k other before deed from apart does happens

pub returns-clause-read : goal.returns-clause-read
returns-clause-read c = λ program tokens at has nodes options events world runs node i j round word value does.
    learns_no_write program tokens at has nodes node world.acts (follows program nodes options events world runs)
    (goer_in_range program nodes options events world runs tokens node at i j round) i j round
    (lazily program nodes options events world runs) word value does

pub returns-clause-same_value : goal.returns-clause-same_value
returns-clause-same_value c = λ program tokens at has nodes options events world runs node i j round k word earlier value from upto one last own ordered.
    reads_one_value program tokens at has nodes node world.acts (follows program nodes options events world runs)
    (goer_in_range program nodes options events world runs tokens node at i j round) i j round
    (lazily program nodes options events world runs) k word earlier value from upto one last own ordered
