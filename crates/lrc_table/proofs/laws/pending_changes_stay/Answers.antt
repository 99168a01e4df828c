use Rattle.std.proofs.Common.{ap, refl}
use Rattle.lrc_table.specs.PageCopy.{pending_changes}
use Rattle.lrc_table.proofs.Copies.{pending-named, pending-valid, pending-same, pending-dropped, pending-settled, pending-untwinned}
use Rattle.lrc_table.proofs.Tables.{copy_at-with_copy_other}
use Rattle.lrc_table.proofs.laws.pending_changes_stay.Goals as goal

pub returns-clause-named : goal.returns-clause-named
returns-clause-named c = pending-named

pub returns-clause-valid : goal.returns-clause-valid
returns-clause-valid c = pending-valid

pub returns-clause-elsewhere : goal.returns-clause-elsewhere
returns-clause-elsewhere c = λ table page other copy apart. ap pending_changes (copy_at-with_copy_other table page other copy apart)

pub returns-clause-closed : goal.returns-clause-closed
returns-clause-closed c = pending-same

pub returns-clause-based : goal.returns-clause-based
returns-clause-based c = λ copy. refl

pub returns-clause-unbased : goal.returns-clause-unbased
returns-clause-unbased c = λ copy. refl

pub returns-clause-dropped : goal.returns-clause-dropped
returns-clause-dropped c = pending-dropped

pub returns-clause-settled : goal.returns-clause-settled
returns-clause-settled c = pending-settled

pub returns-clause-untwinned : goal.returns-clause-untwinned
returns-clause-untwinned c = pending-untwinned
