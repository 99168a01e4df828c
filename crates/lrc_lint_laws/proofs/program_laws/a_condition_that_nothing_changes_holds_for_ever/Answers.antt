use Rattle.lrc_lint_laws.proofs.Loops.{nothing_changes}
use Rattle.lrc_lint_laws.proofs.program_laws.a_condition_that_nothing_changes_holds_for_ever.Goals as goal

pub returns : goal.returns
returns c = λ program tokens at has nodes acts node here holds later. nothing_changes program tokens at has nodes acts node here holds later
