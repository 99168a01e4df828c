use Rattle.lrc_lint_laws.proofs.Unread.{never_read_changes_nothing}
use Rattle.lrc_lint_laws.proofs.program_laws.a_name_that_is_never_read_changes_nothing.Goals as goal

pub returns : goal.returns
returns c = λ program tokens at name is_text has nodes acts node value deeds.
    never_read_changes_nothing program tokens at name is_text has nodes acts node value deeds
