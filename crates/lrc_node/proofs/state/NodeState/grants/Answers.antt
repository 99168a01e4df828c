use Rattle.std.proofs.Common.{◌<◌, List, ◌∷◌, [], refl, sym, ◌∙◌, ap, subst}
use Rattle.std.specs.Prelude.{IfSome}
use Rattle.std.proofs.lemmas.Result.{IfOk-from_err, IfOk-weaker}
use Rattle.lrc_envelope.specs.Records.{GoWith}
use Rattle.lrc_envelope.specs.declared.limits.TheConstants.{MOST_LOCKS}
use Rattle.lrc_envelope.specs.declared.message.Message.TheVariants.{LockGrant}
use Rattle.lrc_lock.specs.Lock.{IsPass}
use Rattle.lrc_store.specs.Interval.{IntervalRecord}
use Rattle.lrc_store.specs.Store.{newer_of}
use Rattle.lrc_protocol.specs.Node.{Node}
use Rattle.lrc_protocol.specs.Turn.{grants_of, letter}
use Rattle.lrc_node.proofs.Kept.{none_for, one_for}
use Rattle.lrc_node.proofs.state.NodeState.grants.Goals as goal

pub returns-in_default-clause-letters : goal.returns-in_default-clause-letters
returns-in_default-clause-letters c = c.new.ensures.items ∙ ap (grants_of c.args.self.now) (sym c.in_default.is)

pub returns-in_default-clause-to : goal.returns-in_default-clause-to
returns-in_default-clause-to c = none_for c.args.self.now.setting.nodes c.new.result.items c.new.ensures.items

pub returns-in_default-clause-same : goal.returns-in_default-clause-same
returns-in_default-clause-same c = refl

pub newer-requires-clause-since : goal.newer-requires-clause-since
newer-requires-clause-since c =
    let now : Node = c.args.self.now in
    let is : IsPass now.setting.me now.setting.nodes c.in-Some.pass =
    subst (λ p. IfSome p (IsPass now.setting.me now.setting.nodes)) c.in-Some.is c.requires.pass in
    is.since ∙ sym (c.self.invariant.last ∙ ap (λ (n : Node). n.setting.nodes) c.self.view_is)

pub newer-requires-clause-upto : goal.newer-requires-clause-upto
newer-requires-clause-upto c =
    let now : Node = c.args.self.now in
    let is : IsPass now.setting.me now.setting.nodes c.in-Some.pass =
    subst (λ p. IfSome p (IsPass now.setting.me now.setting.nodes)) c.in-Some.is c.requires.pass in
    is.upto ∙ sym (c.self.invariant.last ∙ ap (λ (n : Node). n.setting.nodes) c.self.view_is)

pub returns-in_err-intervals-clause-letters : goal.returns-in_err-intervals-clause-letters
returns-in_err-intervals-clause-letters c = IfOk-from_err _ _ c.from_residual.ensures.0

pub returns-in_err-intervals-clause-to : goal.returns-in_err-intervals-clause-to
returns-in_err-intervals-clause-to c = IfOk-from_err _ _ c.from_residual.ensures.0

pub returns-in_err-intervals-clause-same : goal.returns-in_err-intervals-clause-same
returns-in_err-intervals-clause-same c = refl

pub invariant_of-news : goal.invariant_of-news
invariant_of-news c =
    let now : Node = c.args.self.now in
    let is : IsPass now.setting.me now.setting.nodes c.in-Some.pass =
    subst (λ p. IfSome p (IsPass now.setting.me now.setting.nodes)) c.in-Some.is c.requires.pass in
    let nodes = c.self.invariant.last ∙ ap (λ (n : Node). n.setting.nodes) c.self.view_is ∙ sym is.upto in
    subst (λ n. GoWith n c.in_ok-intervals.intervals) nodes c.in_ok-intervals.ensures.stamps

pub invariant_of-letter : goal.invariant_of-letter
invariant_of-letter c = subst (λ p. IfSome p (λ pass. pass.lock < MOST_LOCKS)) c.in-Some.is c.requires.lock

pub returns-clause-letters : goal.returns-clause-letters
returns-clause-letters c =
    let pass = c.in-Some.pass in
    let found = c.in_ok-intervals.ensures.found ∙ ap (λ (n : Node). newer_of n.memory.store pass.since pass.upto) c.self.view_is in
    let granted = λ (i : List IntervalRecord). letter pass.to (LockGrant (record { lock = pass.lock; time = pass.upto; intervals = i })) ∷ [] in
    rw (ap (grants_of c.args.self.now) c.in-Some.is ∙ ap granted (sym found)) c.letter.ensures.letters

pub returns-clause-to : goal.returns-clause-to
returns-clause-to c =
    let now : Node = c.args.self.now in
    let pass = c.in-Some.pass in
    let is : IsPass now.setting.me now.setting.nodes pass =
    subst (λ p. IfSome p (IsPass now.setting.me now.setting.nodes)) c.in-Some.is c.requires.pass in
    IfOk-weaker c.letter.result _ _ (λ letters e. one_for now.setting.nodes letters.items pass.to _ e is.in_range) c.letter.ensures.letters

pub returns-clause-same : goal.returns-clause-same
returns-clause-same c = c.letter.ensures.same
