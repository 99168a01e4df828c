use Rattle.std.proofs.Common.{◌≡◌, ◌<◌, ◌≤◌, false, ◌⊎◌, inl, inr, length, sym, ◌∙◌, ap, subst, arith}
use Rattle.std.specs.Prelude.{IsTrue, Some, None, nat_lt}
use Rattle.std.proofs.lemmas.Bool.{cond-true, cond-false, lt-ltb, le-ltb}
use Rattle.std.proofs.lemmas.Result.{IfOk-from_err}
use Rattle.lrc_exec.specs.declared.machine.Ask.{Ask}
use Rattle.lrc_lock.specs.Held.{is_free, is_held, lock_at}
use Rattle.lrc_lock.specs.declared.state.LockState.TheVariants.{Away}
use Rattle.lrc_protocol.specs.Times.{MOST_NUMBER}
use Rattle.lrc_protocol.specs.Node.{Effect, Node, own_index}
use Rattle.lrc_protocol.specs.Turn.{acquire_at, after_close, arrive_at, closing, release_at}
use Rattle.lrc_control.specs.Text.{asked_in}
use Rattle.lrc_node.specs.declared.fault.NodeFault.{NodeFault}
use Rattle.lrc_node.specs.declared.fault.NodeFault.TheVariants.{NoMemory, Worn}
use Rattle.lrc_node.specs.Effects.{CanBegin, effect_asked}
use Rattle.lrc_node.proofs.Outcomes.{fault_up}
use Rattle.lrc_node.proofs.state.NodeState.begin.Goals as goal

closes : (node : Node) (go : Node → Effect) → own_index node < MOST_NUMBER → closing node go ≡ Some (go (after_close node))
closes node go lt = cond-true (nat_lt (own_index node) MOST_NUMBER) _ _ (lt-ltb (own_index node) MOST_NUMBER lt)

closes_not : (node : Node) (go : Node → Effect) → MOST_NUMBER ≤ own_index node → closing node go ≡ None
closes_not node go le = cond-false (nat_lt (own_index node) MOST_NUMBER) _ _ (le-ltb (own_index node) MOST_NUMBER le)

-- why it is not begun
abbrev Refuses : Node → Ask → NodeFault → Type 0
Refuses node ask fault = ((fault ≡ Worn) × (effect_asked node ask ≡ None)) ⊎ (fault ≡ NoMemory)

refused : (node : Node) (ask : Ask) (go : Node → Effect) (fault : NodeFault) → effect_asked node ask ≡ closing node go
    → ((fault ≡ Worn) × (MOST_NUMBER ≤ own_index node)) ⊎ (fault ≡ NoMemory) → Refuses node ask fault
refused node ask go fault e (inl h) = inl (h.0, e ∙ closes_not node go h.1)
refused node ask go fault e (inr h) = inr h

pub close-requires : goal.close-requires
close-requires c = (subst (CanBegin c.args.self.now) c.in-Acquire.is c.requires.can).0

pub returns-in_err-close-in-Acquire-clause-effect : goal.returns-in_err-close-in-Acquire-clause-effect
returns-in_err-close-in-Acquire-clause-effect c = IfOk-from_err _ _ c.from_residual.ensures.0

pub returns-in_err-close-in-Acquire-clause-refused : goal.returns-in_err-close-in-Acquire-clause-refused
returns-in_err-close-in-Acquire-clause-refused c =
    let fault = c.in_err-close-in-Acquire.field-0.0 in
    fault_up c.from_residual.result fault (Refuses c.args.self.now c.args.ask)
    c.from_residual.ensures.1
    (refused c.args.self.now c.args.ask (acquire_at c.in-Acquire.lock) fault
    (ap (effect_asked c.args.self.now) c.in-Acquire.is) c.in_err-close-in-Acquire.ensures.refused)

pub returns-in_err-close-in-Acquire-clause-to : goal.returns-in_err-close-in-Acquire-clause-to
returns-in_err-close-in-Acquire-clause-to c = IfOk-from_err _ _ c.from_residual.ensures.0

pub acquire-requires-clause-lock : goal.acquire-requires-clause-lock
acquire-requires-clause-lock c =
    let can = subst (CanBegin c.args.self.now) c.in-Acquire.is c.requires.can in
    subst (λ (n : Node). c.in-Acquire.lock < length n.locks.held.locks) (sym c.in_ok-close-in-Acquire.ensures.closed.1) can.1

pub acquire-requires-clause-next : goal.acquire-requires-clause-next
acquire-requires-clause-next c =
    ap (λ (n : Node). asked_in n.course) c.in_ok-close-in-Acquire.ensures.closed.1 ∙ c.requires.next ∙ ap Some c.in-Acquire.is

pub acquire-requires-clause-away : goal.acquire-requires-clause-away
acquire-requires-clause-away c =
    let can = subst (CanBegin c.args.self.now) c.in-Acquire.is c.requires.can in
    subst (λ (n : Node). is_free (lock_at n.locks.held c.in-Acquire.lock) ≡ false → lock_at n.locks.held c.in-Acquire.lock ≡ Away)
    (sym c.in_ok-close-in-Acquire.ensures.closed.1) can.2

pub returns-in_err-acquire-in-Acquire-clause-effect : goal.returns-in_err-acquire-in-Acquire-clause-effect
returns-in_err-acquire-in-Acquire-clause-effect c = IfOk-from_err _ _ c.from_residual-in_err-acquire-in-Acquire.ensures.0

pub returns-in_err-acquire-in-Acquire-clause-to : goal.returns-in_err-acquire-in-Acquire-clause-to
returns-in_err-acquire-in-Acquire-clause-to c = IfOk-from_err _ _ c.from_residual-in_err-acquire-in-Acquire.ensures.0

pub returns-in_ok-acquire-in-Acquire-clause-effect : goal.returns-in_ok-acquire-in-Acquire-clause-effect
returns-in_ok-acquire-in-Acquire-clause-effect c =
    let now : Node = c.args.self.now in
    let closed = c.in_ok-close-in-Acquire.ensures.closed in
    ap (effect_asked now) c.in-Acquire.is ∙ closes now (acquire_at c.in-Acquire.lock) closed.0
    ∙ ap (λ (n : Node). Some (acquire_at c.in-Acquire.lock n)) (sym closed.1)
    ∙ ap Some c.in_ok-acquire-in-Acquire.ensures.effect

pub returns-in_ok-acquire-in-Acquire-clause-to : goal.returns-in_ok-acquire-in-Acquire-clause-to
returns-in_ok-acquire-in-Acquire-clause-to c = c.in_ok-acquire-in-Acquire.ensures.to

pub close-requires-in-Release : goal.close-requires-in-Release
close-requires-in-Release c = (subst (CanBegin c.args.self.now) c.in-Release.is c.requires.can).0

pub returns-in_err-close-in-Release-clause-effect : goal.returns-in_err-close-in-Release-clause-effect
returns-in_err-close-in-Release-clause-effect c = IfOk-from_err _ _ c.from_residual-in_err-close-in-Release.ensures.0

pub returns-in_err-close-in-Release-clause-refused : goal.returns-in_err-close-in-Release-clause-refused
returns-in_err-close-in-Release-clause-refused c =
    let fault = c.in_err-close-in-Release.field-0.0 in
    fault_up c.from_residual-in_err-close-in-Release.result fault (Refuses c.args.self.now c.args.ask)
    c.from_residual-in_err-close-in-Release.ensures.1
    (refused c.args.self.now c.args.ask (release_at c.in-Release.lock) fault
    (ap (effect_asked c.args.self.now) c.in-Release.is) c.in_err-close-in-Release.ensures.refused)

pub returns-in_err-close-in-Release-clause-to : goal.returns-in_err-close-in-Release-clause-to
returns-in_err-close-in-Release-clause-to c = IfOk-from_err _ _ c.from_residual-in_err-close-in-Release.ensures.0

pub release-requires-clause-lock : goal.release-requires-clause-lock
release-requires-clause-lock c =
    let can = subst (CanBegin c.args.self.now) c.in-Release.is c.requires.can in
    subst (λ (n : Node). c.in-Release.lock < length n.locks.held.locks) (sym c.in_ok-close-in-Release.ensures.closed.1) can.1

pub release-requires-clause-next : goal.release-requires-clause-next
release-requires-clause-next c =
    ap (λ (n : Node). asked_in n.course) c.in_ok-close-in-Release.ensures.closed.1 ∙ c.requires.next ∙ ap Some c.in-Release.is

pub release-requires-clause-held : goal.release-requires-clause-held
release-requires-clause-held c =
    let can = subst (CanBegin c.args.self.now) c.in-Release.is c.requires.can in
    subst (λ (n : Node). IsTrue (is_held (lock_at n.locks.held c.in-Release.lock))) (sym c.in_ok-close-in-Release.ensures.closed.1) can.2

pub returns-in_err-release-in-Release-clause-effect : goal.returns-in_err-release-in-Release-clause-effect
returns-in_err-release-in-Release-clause-effect c = IfOk-from_err _ _ c.from_residual-in_err-release-in-Release.ensures.0

pub returns-in_err-release-in-Release-clause-to : goal.returns-in_err-release-in-Release-clause-to
returns-in_err-release-in-Release-clause-to c = IfOk-from_err _ _ c.from_residual-in_err-release-in-Release.ensures.0

pub returns-in_ok-release-in-Release-clause-effect : goal.returns-in_ok-release-in-Release-clause-effect
returns-in_ok-release-in-Release-clause-effect c =
    let now : Node = c.args.self.now in
    let closed = c.in_ok-close-in-Release.ensures.closed in
    ap (effect_asked now) c.in-Release.is ∙ closes now (release_at c.in-Release.lock) closed.0
    ∙ ap (λ (n : Node). Some (release_at c.in-Release.lock n)) (sym closed.1)
    ∙ ap Some c.in_ok-release-in-Release.ensures.effect

pub returns-in_ok-release-in-Release-clause-to : goal.returns-in_ok-release-in-Release-clause-to
returns-in_ok-release-in-Release-clause-to c = c.in_ok-release-in-Release.ensures.to

pub close-requires-in-Barrier : goal.close-requires-in-Barrier
close-requires-in-Barrier c = (subst (CanBegin c.args.self.now) c.in-Barrier.is c.requires.can).0

pub returns-in_err-close-in-Barrier-clause-effect : goal.returns-in_err-close-in-Barrier-clause-effect
returns-in_err-close-in-Barrier-clause-effect c = IfOk-from_err _ _ c.from_residual-in_err-close-in-Barrier.ensures.0

pub returns-in_err-close-in-Barrier-clause-refused : goal.returns-in_err-close-in-Barrier-clause-refused
returns-in_err-close-in-Barrier-clause-refused c =
    let fault = c.in_err-close-in-Barrier.field-0.0 in
    fault_up c.from_residual-in_err-close-in-Barrier.result fault (Refuses c.args.self.now c.args.ask)
    c.from_residual-in_err-close-in-Barrier.ensures.1
    (refused c.args.self.now c.args.ask arrive_at fault
    (ap (effect_asked c.args.self.now) c.in-Barrier.is) c.in_err-close-in-Barrier.ensures.refused)

pub returns-in_err-close-in-Barrier-clause-to : goal.returns-in_err-close-in-Barrier-clause-to
returns-in_err-close-in-Barrier-clause-to c = IfOk-from_err _ _ c.from_residual-in_err-close-in-Barrier.ensures.0

pub arrive-requires-clause-next : goal.arrive-requires-clause-next
arrive-requires-clause-next c =
    ap (λ (n : Node). asked_in n.course) c.in_ok-close-in-Barrier.ensures.closed.1 ∙ c.requires.next ∙ ap Some c.in-Barrier.is

pub arrive-requires-clause-episode : goal.arrive-requires-clause-episode
arrive-requires-clause-episode c =
    let can = subst (CanBegin c.args.self.now) c.in-Barrier.is c.requires.can in
    subst (λ (n : Node). n.barrier.episode < MOST_NUMBER) (sym c.in_ok-close-in-Barrier.ensures.closed.1)
    (omega (arith, can.1, c.in_ok-close-in-Barrier.ensures.closed.0))

pub returns-in_err-arrive-in-Barrier-clause-effect : goal.returns-in_err-arrive-in-Barrier-clause-effect
returns-in_err-arrive-in-Barrier-clause-effect c = IfOk-from_err _ _ c.from_residual-in_err-arrive-in-Barrier.ensures.0

pub returns-in_err-arrive-in-Barrier-clause-to : goal.returns-in_err-arrive-in-Barrier-clause-to
returns-in_err-arrive-in-Barrier-clause-to c = IfOk-from_err _ _ c.from_residual-in_err-arrive-in-Barrier.ensures.0

pub returns-in_ok-arrive-in-Barrier-clause-effect : goal.returns-in_ok-arrive-in-Barrier-clause-effect
returns-in_ok-arrive-in-Barrier-clause-effect c =
    let now : Node = c.args.self.now in
    let closed = c.in_ok-close-in-Barrier.ensures.closed in
    ap (effect_asked now) c.in-Barrier.is ∙ closes now arrive_at closed.0 ∙ ap (λ (n : Node). Some (arrive_at n)) (sym closed.1)
    ∙ ap Some c.in_ok-arrive-in-Barrier.ensures.effect

pub returns-in_ok-arrive-in-Barrier-clause-to : goal.returns-in_ok-arrive-in-Barrier-clause-to
returns-in_ok-arrive-in-Barrier-clause-to c = c.in_ok-arrive-in-Barrier.ensures.to
