use Rattle.lrc_exec.specs.Plain.{start_of}
use Rattle.lrc_order_laws.proofs.Inputs.{at_each}
use Rattle.lrc_order_laws.proofs.Waiting.{NodeFits, node-fits, departs_arrived}
use Rattle.lrc_order_laws.proofs.laws.waiting_fixes_the_next_act.Goals as goal

pub returns : goal.returns
returns c = λ program nodes options events world n l e at.
    at_each NodeFits node-fits program nodes options events world n l (departs_arrived (start_of program nodes n)) e at
