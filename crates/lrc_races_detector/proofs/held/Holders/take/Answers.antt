-- The lock of the event has the holder that the event makes.
use Rattle.std.proofs.Common.{◌≡◌, ◌≤◌, ◌∙◌, sym, subst, ap}
use Rattle.std.specs.Prelude.{Option}
use Rattle.lrc_races_trace.specs.declared.fault.Holder.{Holder}
use Rattle.lrc_races_trace.specs.Formed.{holder_before, held_after_operation, after_acquire, after_release}
use Rattle.lrc_races_trace.proofs.Holders.{depth_of, holder_before-few}
use Rattle.lrc_races_detector.proofs.Holding.{fits, acquired, acquired_other, released, released_other, holders_kept, holders_set}
use Rattle.lrc_races_detector.proofs.held.Holders.take.Goals as goal

pub returns-in_ok-set-in-Acquire : goal.returns-in_ok-set-in-Acquire
returns-in_ok-set-in-Acquire c = λ events n few here old.
    let m = c.in-Acquire.lock in
    let e = c.args.event in
    let op = c.in-Acquire.is in
    let was : c.holder-holder.result ≡ holder_before events m n = c.holder-holder.ensures ∙ old m in
    let little : depth_of c.holder-holder.result ≤ n = subst (λ (h : Option Holder). depth_of h ≤ n) (sym was) (holder_before-few events m n) in
    let now = c.after_acquire.ensures (fits c.holder-holder.result n little few) in
    holders_set events n e here m c.args.self.now c.set.new.self c.after_acquire.result c.in_ok-set-in-Acquire.ensures
    (ap (λ o. held_after_operation m e o (holder_before events m n)) op ∙ acquired e m (holder_before events m n)
    ∙ ap (λ h. after_acquire e h) (sym was) ∙ sym now)
    (λ l other. ap (λ o. held_after_operation l e o (holder_before events l n)) op
    ∙ acquired_other e l m (holder_before events l n) (λ same. other (sym same))) old

pub returns-in_ok-set-in-Release : goal.returns-in_ok-set-in-Release
returns-in_ok-set-in-Release c = λ events n few here old.
    let m = c.in-Release.lock in
    let e = c.args.event in
    let op = c.in-Release.is in
    let was : c.holder-holder-in-Release.result ≡ holder_before events m n = c.holder-holder-in-Release.ensures ∙ old m in
    holders_set events n e here m c.args.self.now c.set-in-Release.new.self c.after_release.result c.in_ok-set-in-Release.ensures
    (ap (λ o. held_after_operation m e o (holder_before events m n)) op ∙ released e m (holder_before events m n)
    ∙ ap (λ h. after_release e h) (sym was) ∙ sym c.after_release.ensures)
    (λ l other. ap (λ o. held_after_operation l e o (holder_before events l n)) op
    ∙ released_other e l m (holder_before events l n) (λ same. other (sym same))) old

pub returns-in_default : goal.returns-in_default
returns-in_default c = λ events n few here old.
    holders_kept events n c.args.event here c.args.self.now c.in_default.not-Acquire c.in_default.not-Release old
