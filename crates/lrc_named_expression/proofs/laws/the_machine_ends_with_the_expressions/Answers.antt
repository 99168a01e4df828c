use Rattle.lrc_named_expression.proofs.Given.{all_given, whole_taken}
use Rattle.lrc_named_expression.proofs.laws.the_machine_ends_with_the_expressions.Goals as goal

pub returns-clause-taken : goal.returns-clause-taken
returns-clause-taken c = whole_taken

pub returns-clause-given : goal.returns-clause-given
returns-clause-given c = all_given
