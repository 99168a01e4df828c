use Rattle.std.proofs.Common.{refl}
use Rattle.lrc_table.specs.PageCopy.{is_written, is_pending, is_valid}
use Rattle.lrc_table.proofs.Copies.{base-after_write, base-cond}
use Rattle.lrc_table.proofs.laws.a_base_copy_stays.Goals as goal

pub returns-clause-written : goal.returns-clause-written
returns-clause-written c = base-after_write

pub returns-clause-closed : goal.returns-clause-closed
returns-clause-closed c = λ copy. base-cond (is_written copy.state) _ copy refl

pub returns-clause-settled : goal.returns-clause-settled
returns-clause-settled c = λ copy. base-cond (is_pending copy) _ copy refl

pub returns-clause-invalidated : goal.returns-clause-invalidated
returns-clause-invalidated c = λ copy. base-cond (is_valid copy.state) _ copy refl
