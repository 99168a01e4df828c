use Rattle.lrc_exact_states.proofs.Machine.{machine_has_part}
use Rattle.lrc_exact_states.proofs.laws.the_machine_has_its_part_of_a_key.Goals as goal

pub returns : goal.returns
returns c = λ program shape cap base run states machine made. machine_has_part program shape cap base run states machine made
