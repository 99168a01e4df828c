use Rattle.lrc_lint_laws.proofs.Absent.{lazily_zero, plainly_zero, unwritten}
use Rattle.lrc_lint_laws.proofs.program_laws.a_word_that_is_never_written_is_zero.Goals as goal

pub returns-clause-unwritten : goal.returns-clause-unwritten
returns-clause-unwritten c = λ program tokens at word is_text has nodes acts i node value follows does.
    unwritten program tokens is_text word at has nodes acts i node value follows does

pub returns-clause-plainly : goal.returns-clause-plainly
returns-clause-plainly c = λ program tokens at word is_text has nodes order run j value made is.
    plainly_zero program tokens is_text word at has nodes order run j value made is

pub returns-clause-lazily : goal.returns-clause-lazily
returns-clause-lazily c = λ program tokens at word is_text has nodes run j value follows reads is.
    lazily_zero program tokens is_text word at has nodes run j value follows reads is
