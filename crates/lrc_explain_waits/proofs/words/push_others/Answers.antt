use Rattle.std.proofs.Common.{rules}
use Rattle.lrc_text.specs.Front.{BeginsWith}
use Rattle.lrc_text.proofs.Fronts.{begins_still}
use Rattle.lrc_explain_waits.proofs.words.push_others.Goals as goal

pub returns-in_err-push_missing-clause-err : goal.returns-in_err-push_missing-clause-err
returns-in_err-push_missing-clause-err c =
    let next = c.push_missing.new.text.items in
    let so_far = c.loop-missing.text.items in
    let here : BeginsWith next so_far =
    begins_still so_far _ c.extend_from_slice.new.self.items next c.in_ok-extend_from_slice.ensures.items c.in_err-push_missing.ensures.err in
    let begins : BeginsWith next c.args.text.now.items = begins_still c.args.text.now.items _ so_far next c.loop-missing.invariant here in
    search rules
