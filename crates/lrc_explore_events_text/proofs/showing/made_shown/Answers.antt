use Rattle.std.proofs.Common.{List, subst}
use Rattle.std.proofs.lemmas.Result.{IfOk-weaker}
use Rattle.lrc_trace.specs.declared.act.Act.{Act}
use Rattle.lrc_explore_events_text.specs.Shows.{ShowsEvents}
use Rattle.lrc_explore_events_text.proofs.showing.made_shown.Goals as goal

pub returns : goal.returns
returns c =
    IfOk-weaker c.events_shown.result _ _
    (λ text shows. (
      c.in_ok-acts.acts.items,
      c.in_ok-acts.ensures.acts,
      subst (λ (acts : List Act). ShowsEvents c.args.program.now c.args.nodes acts text.items) c.deref.ensures.value shows,
    )) c.events_shown.ensures
