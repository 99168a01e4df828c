use Rattle.std.proofs.Common.{ap, ◌≡◌, ◌∙◌, length, take}
use Rattle.lrc_page.proofs.ChangeLists.{length-fold-applied}
use Rattle.lrc_table.specs.PageCopy.{PageCopy}
use Rattle.lrc_table.proofs.Tables.{none_past}
use Rattle.lrc_table.proofs.slot.Slot.repair.Goals as goal

pub patch-requires : goal.patch-requires
patch-requires c =
    let long : length c.loop-list.self.values ≡ length c.args.self.now.values =
    ap (λ (copy : PageCopy). length copy.values) c.loop-list.invariant
    ∙ length-fold-applied c.args.self.now.values (take c.loop-list.list-index c.args.changes.now) in
    none_past c.args.changes.now c.loop-list.list-index c.list-item.result (length c.args.self.now.values) (length c.loop-list.self.values)
    c.requires c.loop-list-test.true c.list-item.is long
