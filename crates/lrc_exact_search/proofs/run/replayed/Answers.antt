use Rattle.std.proofs.Common.{◌∙◌, ◌∷◌, ◌++◌, [], List, ap, get_or, subst, sym, take_all}
use Rattle.std.proofs.lemmas.List.{take_more}
use Rattle.lrc_trace.specs.declared.act.Act.{Act}
use Rattle.lrc_trace.specs.declared.act.Deed.TheVariants.{Quiet}
use Rattle.lrc_exact_laws.specs.Laws.{IsExactRun}
use Rattle.lrc_exact_judge.specs.Shape.{shape_of}
use Rattle.lrc_exact_search.proofs.Standing.{front_next}
use Rattle.lrc_exact_search.proofs.run.replayed.Goals as goal

abbrev blank : Act
blank = record { node = 0; deed = Quiet }

pub loop-act-init : goal.loop-act-init
loop-act-init c = record { at = c.in_ok-run.ensures.at; acts = c.in_ok-run.ensures.none }

pub make-requires-clause-next : goal.make-requires-clause-next
make-requires-clause-next c =
    let task = c.args.task.now in
    let acts = c.args.acts.now in
    let at = c.loop-act.act-index in
    subst (λ xs. IsExactRun task.program.now (shape_of task.layout) (xs ++ get_or acts at blank ∷ [])) (sym c.loop-act.invariant.acts)
    (front_next task.program.now (shape_of task.layout) acts at blank c.loop-act-test.true c.requires.exact)

pub loop-act-preserved : goal.loop-act-preserved
loop-act-preserved c =
    let acts = c.args.acts.now in
    let at = c.loop-act.act-index in
    record {
      at = c.in_ok-make.ensures.at;
      acts =
          c.in_ok-make.ensures.acts
          ∙ ap (λ (xs : List Act). xs ++ get_or acts at blank ∷ []) c.loop-act.invariant.acts
          ∙ sym (take_more acts at blank c.loop-act-test.true);
    }

pub returns-clause-at : goal.returns-clause-at
returns-clause-at c = c.loop-act.invariant.at

pub returns-clause-acts : goal.returns-clause-acts
returns-clause-acts c = c.loop-act.invariant.acts ∙ take_all c.loop-act.act-index c.args.acts.now c.loop-act-test.false
