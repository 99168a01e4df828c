-- The holder is another thread, or not this one.
use Rattle.std.proofs.Common.{◌≡◌, ◌∙◌, refl, sym, subst}
use Rattle.std.specs.Prelude.{Option, Some}
use Rattle.lrc_races_trace.specs.declared.fault.Holder.{Holder}
use Rattle.lrc_races_trace.specs.Formed.{IsHeldBy, holder_before}
use Rattle.lrc_races_detector.proofs.held.Holders.fault.Goals as goal

pub returns-else-holder-event : goal.returns-else-holder-event
returns-else-holder-event c = λ events n are.
    let lock = c.in-Acquire.lock in
    let holder = c.in_ok-holder-in-Acquire.holder in
    let was : holder_before events lock n ≡ Some holder = sym (are lock) ∙ sym c.holder.ensures ∙ c.in_ok-holder-in-Acquire.was in
    (tt, (c.in-Acquire.is, c.if-holder-event.false, (holder, was, refl, refl)))

pub returns-else-is_held_by : goal.returns-else-is_held_by
returns-else-is_held_by c = λ events n are.
    let lock = c.in-Release.lock in
    let thread = c.args.event.thread in
    let was : c.holder-in-Release.result ≡ holder_before events lock n = c.holder-in-Release.ensures ∙ are lock in
    let not_held : IsHeldBy (holder_before events lock n) thread → ⊥ = λ held.
    let holds = c.is_held_by.ensures.1 (subst (λ (o : Option Holder). IsHeldBy o thread) (sym was) held) in
    let never : ⊥ = cc in
    never in
    (tt, (c.in-Release.is, not_held))
