use Rattle.lrc_lint.proofs.Apart.{has_a_fault, has_no_fault}
use Rattle.lrc_lint.proofs.laws.faults_and_programs_are_told_apart.Goals as goal

pub returns-clause-faults : goal.returns-clause-faults
returns-clause-faults c = λ file text printed told. has_a_fault file text printed told

pub returns-clause-programs : goal.returns-clause-programs
returns-clause-programs c = λ file text printed told line kind fault. has_no_fault file text printed told line kind fault
