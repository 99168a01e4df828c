use Rattle.std.proofs.Common.{◌≡◌, ℕ, ◌<◌, ◌%◌, true, false, List, ◌∷◌, [], length, sym, ◌∙◌, ap, subst, arith}
use Rattle.std.specs.Prelude.{None}
use Rattle.std.proofs.lemmas.Bool.{cond-true, cond-false}
use Rattle.std.proofs.lemmas.Nat.{mod_below}
use Rattle.std.proofs.lemmas.Result.{IfOk-from_err}
use Rattle.lrc_lock.specs.Held.{HeldRecord, is_free, lock_at, taken, asked, with_lock}
use Rattle.lrc_lock.specs.declared.state.LockState.TheVariants.{Held}
use Rattle.lrc_envelope.specs.declared.message.Message.TheVariants.{LockRequest}
use Rattle.lrc_protocol.specs.Locks.{Locks, with_held}
use Rattle.lrc_protocol.specs.Node.{grant, Mail, Node, acts, sends, waiting, with_tokens}
use Rattle.lrc_protocol.specs.Turn.{acquire_at, letter, request_of}
use Rattle.lrc_node.specs.declared.turn.Effect.{Effect as Work}
use Rattle.lrc_node.specs.Effects.{CanAccess}
use Rattle.lrc_node.specs.Seen.{node_of}
use Rattle.lrc_node.specs.State.{seen_effect}
use Rattle.lrc_control.specs.Text.{asked_in}
use Rattle.lrc_node.proofs.Kept.{kept_locks, kept_mail, none_for, one_for, made_for}
use Rattle.lrc_node.proofs.state.NodeState.acquire.Goals as goal

-- a lock that is not free is not taken
taken_not : (held : HeldRecord) (lock : _) → is_free (lock_at held lock) ≡ false → taken held lock ≡ held
taken_not held lock e = cond-false (is_free (lock_at held lock)) (with_lock held lock (Held None)) held e

acquire_free : (node : Node) (lock : _) → is_free (lock_at node.locks.held lock) ≡ true
    → acquire_at lock node ≡ acts [] (with_tokens node (taken node.locks.held lock))
acquire_free node lock e = cond-true (is_free (lock_at node.locks.held lock)) _ _ e

acquire_asks : (node : Node) (lock : _) → is_free (lock_at node.locks.held lock) ≡ false
    → acquire_at lock node ≡ sends (request_of node lock ∷ []) (waiting (grant lock) (with_tokens node (asked node.locks.held lock)))
acquire_asks node lock e = cond-false (is_free (lock_at node.locks.held lock)) _ _ e

pub invariant_of-self : goal.invariant_of-self
invariant_of-self c = kept_locks (node_of c.self.inside) c.try_local.new.self c.self.invariant c.try_local.ensures.same

pub act-requires : goal.act-requires
act-requires c =
    let asked : asked_in c.self.inside.text.course ≡ _ = ap (λ (n : Node). asked_in n.course) c.self.view_is ∙ c.requires.next in
    record { access = subst (CanAccess (node_of (record c.self.inside { clock = c.try_local.new.self }))) (sym asked) tt }

pub returns-then-try_local-clause-effect : goal.returns-then-try_local-clause-effect
returns-then-try_local-clause-effect c =
    let node = node_of c.self.inside in
    let here = sym (ap (acquire_at c.args.lock) c.self.view_is) in
    let free = acquire_free node c.args.lock (sym c.try_local.ensures.answer ∙ c.if-try_local.true) in
    let clock = ap (λ (locks : Locks). acts [] (record node { locks = locks })) (sym c.try_local.ensures.clock) in
    let letters = ap (λ letters. acts letters (record node { locks = c.try_local.new.self })) (sym c.new.ensures.items) in
    rw (here ∙ free ∙ clock ∙ letters) c.act-then-try_local.ensures.effect

pub returns-then-try_local-clause-to : goal.returns-then-try_local-clause-to
returns-then-try_local-clause-to c =
    let nodes = c.act-then-try_local.new.self.setting.nodes in
    made_for c.act-then-try_local.result c.new.result nodes c.act-then-try_local.ensures.letters (none_for nodes c.new.result.items c.new.ensures.items)

pub ask-requires-clause-lock : goal.ask-requires-clause-lock
ask-requires-clause-lock c =
    let locks = c.try_local.ensures.same.locks ∙ ap (λ (n : Node). length n.locks.held.locks) c.self.view_is in
    subst (λ n. c.args.lock < n) (sym locks) c.requires.lock

pub ask-requires-clause-away : goal.ask-requires-clause-away
ask-requires-clause-away c =
    let held = c.self.inside.clock.held in
    let busy : is_free (lock_at held c.args.lock) ≡ false = sym c.try_local.ensures.answer ∙ c.if-try_local.false in
    let here = ap (λ (n : Node). lock_at n.locks.held c.args.lock) c.self.view_is in
    ap (λ (locks : Locks). lock_at locks.held c.args.lock) c.try_local.ensures.clock
    ∙ ap (λ h. lock_at h c.args.lock) (taken_not held c.args.lock busy) ∙ here
    ∙ c.requires.away (sym (ap is_free here) ∙ busy)

pub invariant_of-request : goal.invariant_of-request
invariant_of-request c =
    let lock = subst (λ (n : Node). c.args.lock < length n.locks.held.locks) (sym c.self.view_is) c.requires.lock in
    omega (arith, lock, c.self.invariant.tokens, c.self.invariant.few_locks)

pub invariant_of-self-2 : goal.invariant_of-self-2
invariant_of-self-2 c =
    let node = node_of c.self.inside in
    let taken = kept_locks node c.try_local.new.self c.self.invariant c.try_local.ensures.same in
    let asked = kept_locks (record node { locks = c.try_local.new.self }) c.ask.new.self taken c.ask.ensures.same in
    kept_mail (record node { locks = c.ask.new.self }) c.wait_for.new.self asked
    (ap (λ (m : Mail). length m.sent) c.wait_for.ensures) (ap (λ (m : Mail). length m.taken) c.wait_for.ensures)

pub nonzero_rem-lock : goal.nonzero_rem-lock
nonzero_rem-lock c =
    let here : c.letter.inside.me < c.letter.inside.nodes = c.letter.invariant.here in
    omega (arith, here)

pub returns-in_err-letters-clause-effect : goal.returns-in_err-letters-clause-effect
returns-in_err-letters-clause-effect c = IfOk-from_err _ _ c.from_residual.ensures.0

pub returns-in_err-letters-clause-to : goal.returns-in_err-letters-clause-to
returns-in_err-letters-clause-to c = IfOk-from_err _ _ c.from_residual.ensures.0

pub returns-clause-effect : goal.returns-clause-effect
returns-clause-effect c =
    let node = node_of c.self.inside in
    let lock = c.args.lock in
    let busy : is_free (lock_at node.locks.held lock) ≡ false = sym c.try_local.ensures.answer ∙ c.if-try_local.false in
    let tried : c.try_local.new.self ≡ node.locks =
    c.try_local.ensures.clock ∙ ap (λ held. with_held held node.locks) (taken_not node.locks.held lock busy) in
    let clock : c.ask.new.self ≡ with_held (asked node.locks.held lock) node.locks =
    c.ask.ensures.clock ∙ ap (λ (locks : Locks). with_held (asked locks.held lock) locks) tried in
    let nodes : c.letter.inside.nodes ≡ node.setting.nodes = ap (λ (n : Node). n.setting.nodes) c.letter.view_is in
    let time : c.copy-time.result ≡ node.locks.time = c.copy-time.ensures ∙ c.time.ensures.time ∙ ap (λ (locks : Locks). locks.time) clock in
    let requested = λ (n : ℕ) (t : List ℕ). letter (lock % n) (LockRequest (record { lock = lock; time = t })) ∷ [] in
    let sent : c.in_ok-letters.letters.items ≡ request_of node lock ∷ [] =
    c.in_ok-letters.ensures.letters ∙ ap (λ n. requested n c.copy-time.result) nodes ∙ ap (requested node.setting.nodes) time in
    let after : c.letter-2.new.self ≡ waiting (grant lock) (with_tokens node (asked node.locks.held lock)) =
    c.letter-2.ensures.same
    ∙ ap (λ (locks : Locks). let n : Node = record node { locks = locks; mail = c.wait_for.new.self } in n) clock
    ∙ ap (λ (mail : Mail). record (with_tokens node (asked node.locks.held lock)) { mail = mail }) c.wait_for.ensures in
    sym (ap (acquire_at lock) c.self.view_is) ∙ acquire_asks node lock busy
    ∙ sym (ap (λ (work : Work). seen_effect work c.letter-2.new.self) c.sending.ensures ∙ ap (λ letters. sends letters c.letter-2.new.self) sent
    ∙ ap (sends (request_of node lock ∷ [])) after)

pub returns-clause-to : goal.returns-clause-to
returns-clause-to c =
    let here : c.letter.inside.me < c.letter.inside.nodes = c.letter.invariant.here in
    let nodes : c.letter-2.new.self.setting.nodes ≡ c.letter.inside.nodes =
    ap (λ (n : Node). n.setting.nodes) c.letter-2.ensures.same ∙ sym (ap (λ (n : Node). n.setting.nodes) c.letter.view_is) in
    let sent = ap (λ (work : Work). work.letters.items) c.sending.ensures ∙ c.in_ok-letters.ensures.letters in
    let below : c.args.lock % c.letter.inside.nodes < c.letter.inside.nodes = mod_below c.args.lock c.letter.inside.nodes (omega (arith, here)) in
    one_for c.letter-2.new.self.setting.nodes c.sending.result.letters.items (c.args.lock % c.letter.inside.nodes) _ sent
    (subst (λ n. c.args.lock % c.letter.inside.nodes < n) (sym nodes) below)
