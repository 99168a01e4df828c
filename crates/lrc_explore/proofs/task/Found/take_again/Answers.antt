use Rattle.std.proofs.Common.{◌≡◌, ◌<◌, ◌∙◌, sym, ap, subst, arith}
use Rattle.std.specs.Prelude.{Some, slice_get}
use Rattle.std.proofs.lemmas.Option.{get_or_from_slice_get}
use Rattle.lrc_orders.proofs.Faults.{fault_up}
use Rattle.lrc_explore.specs.declared.task.Origin.{Origin}
use Rattle.lrc_explore.specs.Answers.{IsFault}
use Rattle.lrc_explore.proofs.Reaching.{settled_key}
use Rattle.lrc_explore.proofs.Seeking.{fault_of}
use Rattle.lrc_explore.proofs.Telling.{led_on}
use Rattle.lrc_explore.proofs.task.Found.take_again.Goals as goal

pub noted-requires : goal.noted-requires
noted-requires c =
    let f = c.requires.found in
    let at = c.args.place in
    let key = f.reached.full at c.requires.within in
    let from = f.from at key.0 c.requires.later key.1 in
    let o = c.index-origin.result.now in
    let is : o ≡ from.origin = c.index-origin.ensures ∙ get_or_from_slice_get c.args.self.now.origins.items at from.origin o from.there in
    let less : o.parent < at = subst (λ (x : Origin). x.parent < at) (sym is) from.earlier in
    f.reached.full o.parent (omega (arith, less, c.requires.within))

pub taken-requires-clause-settled : goal.taken-requires-clause-settled
taken-requires-clause-settled c =
    settled_key c.args.task.now c.in_ok-key.key (c.requires.found.reached.each c.index-origin.result.now.parent c.in_ok-key.key c.in_ok-key.ensures)

pub returns-clause-led : goal.returns-clause-led
returns-clause-led c =
    let f = c.requires.found in
    let at = c.args.place in
    let found = c.args.self.now in
    let key = f.reached.full at c.requires.within in
    let from = f.from at key.0 c.requires.later key.1 in
    let o = c.index-origin.result.now in
    let is : o ≡ from.origin = c.index-origin.ensures ∙ get_or_from_slice_get found.origins.items at from.origin o from.there in
    let noted : slice_get found.origins.items at ≡ Some o = from.there ∙ ap (λ x. Some x) (sym is) in
    led_on c.args.task.now found at o c.in_ok-key.key f c.requires.within c.requires.later noted c.in_ok-key.ensures c.args.acts.now.items
    c.taken.new.acts.items c.in_ok-_after._after (c.requires.led o noted) c.in_ok-_after.ensures.taken

pub returns-in_err-_after-clause-faults : goal.returns-in_err-_after-clause-faults
returns-in_err-_after-clause-faults c =
    let task = c.args.task.now in
    let r = c.requires.found.reached.each c.index-origin.result.now.parent c.in_ok-key.key c.in_ok-key.ensures in
    fault_up c.from_residual-in_err-_after.result c.in_err-_after.field-0.0 (IsFault task) c.from_residual-in_err-_after.ensures.1
    (fault_of task c.in_ok-key.key c.in_err-_after.field-0.0 r c.in_err-_after.ensures.faults)
