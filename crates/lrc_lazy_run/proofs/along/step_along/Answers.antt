use Rattle.std.proofs.Common.{◌∙◌, ◌++◌, ◌∷◌, [], ap, arith, subst}
use Rattle.lrc_trace.specs.declared.act.Act.{Act}
use Rattle.lrc_lazy_search.proofs.Making.{can_below, fit_of}
use Rattle.lrc_lazy_run.specs.Ways.{IsFree, IsFreeIfAny}
use Rattle.lrc_lazy_run.proofs.Striding.{along_one, along_still, forced_of}
use Rattle.lrc_lazy_run.proofs.along.step_along.Goals as goal

pub free_act-requires-clause-fit : goal.free_act-requires-clause-fit
free_act-requires-clause-fit c = fit_of c.args.sought.now.flat c.args.state.now c.requires.state

pub returns-in_default-clause-along : goal.returns-in_default-clause-along
returns-in_default-clause-along c = along_still c.args.sought.now c.args.state.now c.args.acts.now.items

pub returns-in-Arrive-clause-along : goal.returns-in-Arrive-clause-along
returns-in-Arrive-clause-along c = along_still c.args.sought.now c.args.state.now c.args.acts.now.items

pub make-requires-clause-fit : goal.make-requires-clause-fit
make-requires-clause-fit c = fit_of c.args.sought.now.flat c.args.state.now c.requires.state

pub make-requires-clause-can : goal.make-requires-clause-can
make-requires-clause-can c =
    let flat = c.args.sought.now.flat in
    let key = c.args.state.now in
    let free : IsFree flat key c.in-Some.node c.in-Some.deed = subst (IsFreeIfAny flat key) c.in-Some.is c.in_ok-node.ensures in
    free.can

pub make-requires-clause-node : goal.make-requires-clause-node
make-requires-clause-node c =
    let flat = c.args.sought.now.flat in
    let key = c.args.state.now in
    let free : IsFree flat key c.in-Some.node c.in-Some.deed = subst (IsFreeIfAny flat key) c.in-Some.is c.in_ok-node.ensures in
    can_below flat key c.in-Some.node c.in-Some.deed (fit_of flat key c.requires.state) free.can

pub act_by-requires : goal.act_by-requires
act_by-requires c =
    let flat = c.args.sought.now.flat in
    let key = c.args.state.now in
    let free : IsFree flat key c.in-Some.node c.in-Some.deed = subst (IsFreeIfAny flat key) c.in-Some.is c.in_ok-node.ensures in
    let below = can_below flat key c.in-Some.node c.in-Some.deed (fit_of flat key c.requires.state) free.can in
    omega (arith, below, c.requires.task.few)

pub returns-clause-along : goal.returns-clause-along
returns-clause-along c =
    let sought = c.args.sought.now in
    let key = c.args.state.now in
    let node = c.in-Some.node in
    let deed = c.in-Some.deed in
    let acts = c.args.acts.now.items in
    let free : IsFree sought.flat key node deed = subst (IsFreeIfAny sought.flat key) c.in-Some.is c.in_ok-node.ensures in
    along_one sought key c.make.new.self acts c.push.new.self.items node deed c.requires.task
    (forced_of sought key node deed free c.in_default-deed.not-Arrive)
    c.in_ok-make.ensures.steps c.in_ok-make.ensures.state
    (c.in_ok-push.ensures.items ∙ ap (λ (a : Act). acts ++ a ∷ []) c.act_by.ensures)
