use Rattle.std.proofs.Common.{◌++◌, ◌∷◌, [], subst, sym, ap, ◌∙◌, take, get_or}
use Rattle.std.proofs.lemmas.List.{take_more}
use Rattle.lrc_trace.specs.declared.act.Act.{Act}
use Rattle.lrc_trace.specs.declared.act.Deed.TheVariants.{Quiet}
use Rattle.lrc_clock.specs.Keeping.{KeepsTime}
use Rattle.lrc_clock.proofs.Computing.{keeps-none, keeps-step}
use Rattle.lrc_clock.specs.Past.{IsTimedPast}
use Rattle.lrc_clock.proofs.times.times_of_acts.Goals as goal

abbrev no_act : Act
no_act = record { node = 0; deed = Quiet }

pub loop-position-init : goal.loop-position-init
loop-position-init c =
    let none = c.new-times.ensures.items in
    record {
      keeps = subst (λ ts. KeepsTime c.args.nodes [] ts) (sym none) (keeps-none c.args.nodes);
      past = subst (λ ts. IsTimedPast c.args.nodes [] ts c.new-past.result) (sym none) (c.new-past.ensures c.args.nodes);
    }

pub loop-position-preserved : goal.loop-position-preserved
loop-position-preserved c =
    let run = c.args.acts.now in
    let times = c.loop-position.times.items in
    let n = c.loop-position.position in
    let lt = c.loop-position-test.true in
    let act = get_or run n no_act in
    let time = c.time_after-time.result in
    let grown = c.in_ok-push.ensures.items in
    record {
      keeps = keeps-step c.args.nodes run times c.as_slice.result.now c.push.new.self.items n no_act time lt
          (c.requires.in_range n no_act lt) c.loop-position.invariant.keeps c.as_slice.ensures.value c.time_after-time.ensures grown;
      past = subst (λ xs. IsTimedPast c.args.nodes xs c.push.new.self.items c.note.new.self) (sym (take_more run n no_act lt))
          (subst (λ ts. IsTimedPast c.args.nodes (take n run ++ act ∷ []) ts c.note.new.self)
          (ap (λ ts. ts ++ time ∷ []) c.as_slice-in-loop-position.ensures.value ∙ sym grown) c.in_ok-note.ensures);
    }
