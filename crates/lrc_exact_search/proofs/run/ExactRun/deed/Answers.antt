use Rattle.std.proofs.Common.{◌∷◌, ◌++◌, [], ◌∙◌, sym, subst}
use Rattle.std.proofs.lemmas.Option.{same_Some}
use Rattle.lrc_trace.specs.declared.act.Deed.{Deed}
use Rattle.lrc_trace.specs.Run.{act_of}
use Rattle.lrc_exact_laws.specs.Laws.{IsExactRun}
use Rattle.lrc_exact_judge.specs.Shape.{shape_of}
use Rattle.lrc_exact_search.proofs.Standing.{none_next}
use Rattle.lrc_exact_search.proofs.run.ExactRun.deed.Goals as goal

pub valued-requires-clause-can : goal.valued-requires-clause-can
valued-requires-clause-can c = sym c.next_deed.ensures ∙ c.in-Some.is

pub returns-in-Some-clause-some : goal.returns-in-Some-clause-some
returns-in-Some-clause-some c = λ deed is.
    subst (λ (d : Deed). IsExactRun c.args.task.now.program.now (shape_of c.args.task.now.layout) (c.args.self.now.acts.items ++ act_of c.args.node d ∷ []))
    (same_Some c.valued.result deed is) c.valued.ensures

pub returns-in-None-clause-none : goal.returns-in-None-clause-none
returns-in-None-clause-none c = λ _.
    none_next c.args.task.now c.requires.task c.args.self.now c.requires.at c.args.node (sym c.next_deed.ensures ∙ c.in-None.is)
