use Rattle.lrc_table.proofs.Copies.{first_twin, later_twin}
use Rattle.lrc_table.proofs.laws.the_first_write_makes_the_twin.Goals as goal

pub returns-clause-first : goal.returns-clause-first
returns-clause-first c = first_twin

pub returns-clause-later : goal.returns-clause-later
returns-clause-later c = later_twin
