use Rattle.std.proofs.Common.{◌≡◌, ◌<◌, length, sym, ◌∙◌, ap, subst}
use Rattle.std.specs.Prelude.{IsTrue, IfSome}
use Rattle.std.proofs.lemmas.Result.{IfOk-from_err}
use Rattle.lrc_lock.specs.Held.{is_held, lock_at, released, held_after}
use Rattle.lrc_lock.specs.Lock.{IsPass}
use Rattle.lrc_exec.specs.Meaning.{Setting}
use Rattle.lrc_protocol.specs.Locks.{Locks}
use Rattle.lrc_protocol.specs.Node.{Node, acts, with_tokens}
use Rattle.lrc_protocol.specs.Turn.{grants_of, release_at}
use Rattle.lrc_node.specs.Effects.{CanAccess}
use Rattle.lrc_node.specs.Seen.{node_of}
use Rattle.lrc_node.specs.State.{AreFor}
use Rattle.lrc_control.specs.Text.{asked_in}
use Rattle.lrc_node.proofs.Kept.{kept_locks, made_for}
use Rattle.lrc_node.proofs.state.NodeState.release.Goals as goal

pub release-pass-requires-clause-lock : goal.release-pass-requires-clause-lock
release-pass-requires-clause-lock c = subst (λ (n : Node). c.args.lock < length n.locks.held.locks) (sym c.self.view_is) c.requires.lock

pub release-pass-requires-clause-held : goal.release-pass-requires-clause-held
release-pass-requires-clause-held c = subst (λ (n : Node). IsTrue (is_held (lock_at n.locks.held c.args.lock))) (sym c.self.view_is) c.requires.held

pub invariant_of-self : goal.invariant_of-self
invariant_of-self c = kept_locks (node_of c.self.inside) c.release-pass.new.self c.self.invariant c.release-pass.ensures.same

pub grants-requires-clause-pass : goal.grants-requires-clause-pass
grants-requires-clause-pass c =
    let pass = c.release-pass.result in
    subst (λ me. IfSome pass (IsPass me c.self.inside.nodes)) c.self.invariant.holder
    (subst (λ nodes. IfSome pass (IsPass c.self.inside.clock.held.me nodes)) c.self.invariant.times c.release-pass.ensures.pass)

pub returns-in_err-letters-clause-effect : goal.returns-in_err-letters-clause-effect
returns-in_err-letters-clause-effect c = IfOk-from_err _ _ c.from_residual.ensures.0

pub returns-in_err-letters-clause-to : goal.returns-in_err-letters-clause-to
returns-in_err-letters-clause-to c = IfOk-from_err _ _ c.from_residual.ensures.0

pub act-requires : goal.act-requires
act-requires c =
    let asked : asked_in c.grants.new.self.course ≡ _ =
    ap (λ (n : Node). asked_in n.course) c.grants.ensures.same ∙ ap (λ (n : Node). asked_in n.course) c.self.view_is ∙ c.requires.next in
    record { access = subst (CanAccess c.grants.new.self) (sym asked) tt }

pub returns-clause-effect : goal.returns-clause-effect
returns-clause-effect c =
    let node = node_of c.self.inside in
    let lock = c.args.lock in
    let step = released node.locks.held lock node.locks.time in
    let after : Node = record node { locks = c.release-pass.new.self } in
    let here = sym (ap (release_at lock) c.self.view_is) in
    let pass = ap (λ pass. acts (grants_of node pass) (with_tokens node (held_after node.locks.held lock step))) (sym c.release-pass.ensures.answer) in
    let clock = ap (λ (locks : Locks). acts (grants_of node c.release-pass.result) (record node { locks = locks }))
    (sym c.release-pass.ensures.clock) in
    let letters = ap (λ letters. acts letters after) (sym c.in_ok-letters.ensures.letters) in
    let same = ap (acts c.in_ok-letters.letters.items) (sym c.grants.ensures.same) in
    rw (here ∙ pass ∙ clock ∙ letters ∙ same) c.act.ensures.effect

pub returns-clause-to : goal.returns-clause-to
returns-clause-to c =
    let nodes = ap (λ (s : Setting). s.nodes) c.act.ensures.setting ∙ ap (λ (n : Node). n.setting.nodes) c.grants.ensures.same in
    made_for c.act.result c.in_ok-letters.letters c.act.new.self.setting.nodes c.act.ensures.letters
    (subst (λ n. AreFor n c.in_ok-letters.letters.items) (sym nodes) c.in_ok-letters.ensures.to)
