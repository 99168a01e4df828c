use Rattle.std.proofs.Common.{refl}
use Rattle.lrc_lint_fault.proofs.Telling.{on_ok}
use Rattle.lrc_named_lint.proofs.Telling.{told_of}
use Rattle.lrc_named_lint.proofs.text_fault.push_first.Goals as goal

pub returns : goal.returns
returns c =
    let is = c.fault_of-fault.ensures in
    on_ok c.push_told.result (λ t. (
      _,
      t,
      told_of c.args.file.now c.args.text.now _ c.args.all.now c.args.first.now.index c.args.first.now.kind c.args.first.now.may_stand.items
          c.fault_of-fault.result c.requires.all c.requires.first is.text is.before is.previous is.found is.kind is.may_stand refl,
    ))
    c.push_told.ensures
