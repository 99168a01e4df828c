use Rattle.std.proofs.Common.{[], ◌∷◌, arith}
use Rattle.lrc_copies.proofs.Lazily.{copy_may_read}
use Rattle.test_parts.specs.Copies.{four, four_stamps, four_wrote, four_changes, four_run}
use Rattle.test_parts.proofs.ReadByHand.{lists}
use Rattle.test_parts.proofs.RepairByHand.{repaired_by_hand}
use Rattle.test_parts.proofs.copies.reads_a_repaired_page.Goals as goal

pub returns-clause-lists : goal.returns-clause-lists
returns-clause-lists c = lists

pub returns-clause-may_read : goal.returns-clause-may_read
returns-clause-may_read c =
    copy_may_read four_run 11 2 0 four_stamps four_wrote four_changes (4 ∷ 2 ∷ 1 ∷ []) four 0 lists (9 ∷ 7 ∷ []) (omega arith)
    repaired_by_hand
