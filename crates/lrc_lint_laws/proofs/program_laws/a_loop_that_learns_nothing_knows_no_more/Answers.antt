use Rattle.lrc_lint_laws.proofs.Learning.{learns_no_act, learns_no_deed, learns_no_write, reads_one_value}
use Rattle.lrc_lint_laws.proofs.program_laws.a_loop_that_learns_nothing_knows_no_more.Goals as goal

pub returns-clause-quiet : goal.returns-clause-quiet
returns-clause-quiet c = λ program tokens at has nodes node acts follows few i j round k deed from upto does.
    learns_no_deed program tokens at has nodes node acts follows few i j round k deed from upto does

pub returns-clause-known : goal.returns-clause-known
returns-clause-known c = λ program tokens at has nodes node acts follows few i j round k other before deed from apart does happens.
    learns_no_act program tokens at has nodes node acts follows few i j round k other before deed from apart does happens

pub returns-clause-read : goal.returns-clause-read
returns-clause-read c = λ program tokens at has nodes node acts follows few i j round reads word value does.
    learns_no_write program tokens at has nodes node acts follows few i j round reads word value does

pub returns-clause-same_value : goal.returns-clause-same_value
returns-clause-same_value c = λ program tokens at has nodes node acts follows few i j round reads k word earlier value from upto one last own ordered.
    reads_one_value program tokens at has nodes node acts follows few i j round reads k word earlier value from upto one last own ordered
