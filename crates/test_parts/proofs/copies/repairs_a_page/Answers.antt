use Rattle.test_parts.proofs.RepairByHand.{stamped, fits_before, four_sound, lacking, repaired_by_hand}
use Rattle.test_parts.proofs.copies.repairs_a_page.Goals as goal

pub returns-clause-stamped : goal.returns-clause-stamped
returns-clause-stamped c = stamped

pub returns-clause-sound : goal.returns-clause-sound
returns-clause-sound c = four_sound stamped

pub returns-clause-lacking : goal.returns-clause-lacking
returns-clause-lacking c = lacking

pub returns-clause-before : goal.returns-clause-before
returns-clause-before c = fits_before

pub returns-clause-after : goal.returns-clause-after
returns-clause-after c = repaired_by_hand
