-- A thread that waits may depart from its barrier alone, and one that does not wait from none.
use Rattle.std.proofs.Common.{◌≡◌, ◌∙◌, sym, subst}
use Rattle.std.specs.Prelude.{Option, Some, None}
use Rattle.lrc_races_detector.specs.declared.waits.Waiting.{Waiting}
use Rattle.lrc_races_detector.specs.Waits.{waiting_of, IsWait}
use Rattle.lrc_races_detector.proofs.Waiting.{leaves_well, waits_still, not_arrived, stays_out}
use Rattle.lrc_races_detector.proofs.waits.Waits.fault.Goals as goal

pub returns-then-is_depart : goal.returns-then-is_depart
returns-then-is_depart c = λ events n are.
    let e = c.args.event in
    let w = c.in-Some.waiting in
    let was : waiting_of c.args.self.now e.thread ≡ Some w = sym c.waiting.ensures ∙ c.in-Some.is in
    leaves_well events n e w (subst (λ (o : Option Waiting). IsWait events n e.thread o) was (are e.thread)) (c.is_depart.ensures.0 c.if-is_depart.true)

pub returns-in-Some : goal.returns-in-Some
returns-in-Some c = λ events n are.
    let e = c.args.event in
    let w = c.in-Some.waiting in
    let was : waiting_of c.args.self.now e.thread ≡ Some w = sym c.waiting.ensures ∙ c.in-Some.is in
    waits_still events n e w (subst (λ (o : Option Waiting). IsWait events n e.thread o) was (are e.thread))
    (λ departs. let holds = c.is_depart.ensures.1 departs in let never : ⊥ = cc in never)

pub returns-in-Depart : goal.returns-in-Depart
returns-in-Depart c = λ events n are.
    let e = c.args.event in
    let was : waiting_of c.args.self.now e.thread ≡ None = sym c.waiting.ensures ∙ c.in_default.is in
    not_arrived events n e (subst (λ (o : Option Waiting). IsWait events n e.thread o) was (are e.thread)) c.in-Depart.barrier c.in-Depart.is

pub returns-in_default-operation : goal.returns-in_default-operation
returns-in_default-operation c = λ events n are.
    let e = c.args.event in
    let was : waiting_of c.args.self.now e.thread ≡ None = sym c.waiting.ensures ∙ c.in_default.is in
    stays_out events n e (subst (λ (o : Option Waiting). IsWait events n e.thread o) was (are e.thread)) c.in_default-operation.not-Depart
