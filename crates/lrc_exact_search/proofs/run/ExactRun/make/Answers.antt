use Rattle.std.proofs.Common.{◌∷◌, ◌++◌, [], List, arith, subst, sym}
use Rattle.lrc_trace.specs.declared.act.Act.{Act}
use Rattle.lrc_trace.specs.Run.{act_of}
use Rattle.lrc_trace.specs.Synchronization.{MayGoOn, WaitsAtBarriers}
use Rattle.lrc_exact_judge.specs.Current.{IsMemoryOf}
use Rattle.lrc_exact_judge.specs.declared.layout.Layout.{Layout}
use Rattle.lrc_exact_search.proofs.Standing.{grown, may_follow, may_go_on, waits_on}
use Rattle.lrc_exact_search.proofs.run.ExactRun.make.Goals as goal

pub step-requires-clause-goes_on : goal.step-requires-clause-goes_on
step-requires-clause-goes_on c =
    let run = c.args.self.now in
    let act = act_of c.args.node c.args.deed in
    subst (λ (xs : List Act). MayGoOn run.memory.layout.nodes xs act) (sym c.deref.ensures.value)
    (subst (λ (l : Layout). MayGoOn l.nodes run.acts.items act) (sym c.requires.at.layout)
    (may_go_on c.args.task.now c.requires.task run c.requires.at c.args.node c.args.deed c.requires.next))

pub step-requires-clause-waits : goal.step-requires-clause-waits
step-requires-clause-waits c =
    subst (λ (xs : List Act). WaitsAtBarriers (xs ++ act_of c.args.node c.args.deed ∷ [])) (sym c.deref.ensures.value)
    (waits_on c.args.task.now c.requires.task c.args.self.now c.requires.at c.args.node c.args.deed c.requires.next)

pub follow-requires-clause-may : goal.follow-requires-clause-may
follow-requires-clause-may c =
    may_follow c.args.task.now c.requires.task c.args.self.now c.requires.at c.args.node c.args.deed c.requires.next
    (omega (arith, c.if-len.false, c.len.ensures))

pub returns-clause-at : goal.returns-clause-at
returns-clause-at c =
    grown c.args.task.now c.requires.task c.args.self.now c.requires.at c.args.node c.args.deed c.requires.next _ c.follow.ensures c.in_ok-push.ensures.items
    (subst (λ (xs : List Act). IsMemoryOf (xs ++ act_of c.args.node c.args.deed ∷ []) c.step.new.self) c.deref.ensures.value c.in_ok-step.ensures.memory)
    c.in_ok-step.ensures.layout
