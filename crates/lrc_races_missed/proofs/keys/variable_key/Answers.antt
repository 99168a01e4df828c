-- The variable has a number, or not.
use Rattle.lrc_races_missed.proofs.KeyFinding.{of_no_variable, of_variable}
use Rattle.lrc_races_missed.proofs.keys.variable_key.Goals as goal

pub returns-in-Some : goal.returns-in-Some
returns-in-Some c = λ variables places name known. of_variable variables places name c.args.number c.in-Some.number c.in-Some.is known

pub returns-in-None : goal.returns-in-None
returns-in-None c = λ variables places name known. of_no_variable variables places name c.args.number c.in-None.is known
