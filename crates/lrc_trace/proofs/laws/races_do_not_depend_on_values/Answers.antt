use Rattle.std.proofs.Common.{sym}
use Rattle.lrc_trace.proofs.Outlines.{same_order, same_races, same_names}
use Rattle.lrc_trace.proofs.laws.races_do_not_depend_on_values.Goals as goal

pub returns-clause-order : goal.returns-clause-order
returns-clause-order c = λ run other i j same. (same_order run other same, same_order other run (sym same))

pub returns-clause-races : goal.returns-clause-races
returns-clause-races c = λ run other i j same. (same_races run other same, same_races other run (sym same))

pub returns-clause-names : goal.returns-clause-names
returns-clause-names c = λ run other race same. (same_names run other same, same_names other run (sym same))
