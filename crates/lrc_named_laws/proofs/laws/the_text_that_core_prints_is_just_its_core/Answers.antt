-- By what is known of its core.
use Rattle.lrc_named_laws.proofs.Printed.{is_a_program, is_no_other}
use Rattle.lrc_named_laws.proofs.laws.the_text_that_core_prints_is_just_its_core.Goals as goal

pub returns-clause-is_a_program : goal.returns-clause-is_a_program
returns-clause-is_a_program c = is_a_program

pub returns-clause-is_no_other : goal.returns-clause-is_no_other
returns-clause-is_no_other c = is_no_other
