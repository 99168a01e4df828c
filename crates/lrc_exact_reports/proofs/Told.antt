-- A report has the acts of a run.
use Rattle.std.proofs.Common.{◌≡◌, ℕ, List, inl, inr, refl, sym, ap, subst, ◌∙◌}
use Rattle.std.specs.Prelude.{Some}
use Rattle.std.proofs.lemmas.Option.{same_Some}
use Rattle.lrc_program.specs.declared.Program.{Program}
use Rattle.lrc_trace.specs.declared.act.Act.{Act}
use Rattle.lrc_exec.specs.Follows.{deeds_of}
use Rattle.lrc_protocol.specs.declared.event.Event.{Event}
use Rattle.lrc_protocol.specs.Node.{OptionsRecord}
use Rattle.lrc_protocol.specs.Run.{World, run_of}
use Rattle.lrc_world.specs.declared.report.Report.{Report}
use Rattle.lrc_exact_laws.specs.Order.{acquirers, OneBeginsOther}
use Rattle.lrc_exact_machine.specs.Machine.{exact}
use Rattle.lrc_exact_worlds.specs.Made.{shape_in}
use Rattle.lrc_exact_worlds.proofs.Theorem.{exact_run, locks_decide, order_fixes, steadily}
use Rattle.lrc_exact_reports.specs.Reported.{IsReported, AreExactActs}
use Rattle.lrc_exact_reports.specs.Laws.{EachHasAnExactOutcome, EachIsExact, LocksDecideReports, OrdersDecideReports}

-- a run with the acts that are reported
record HasRun (program : Program) (nodes : ℕ) (options : OptionsRecord) (acts : List Act) : Type 0 where
  events : List Event
  world : World
  made : run_of program nodes options events ≡ Some world
  are : world.acts ≡ acts

has_run : (program : Program) (nodes : ℕ) (options : OptionsRecord) (report : Report) → IsReported program nodes options report
    → HasRun program nodes options report.acts.items
has_run program nodes options report (inl is) = record { events = is.events; world = is.told.0; made = is.told.1; are = sym is.told.2.acts }
has_run program nodes options report (inr (inl is)) = record {
  events = is.run.events.items;
  world = is.told.made;
  made = is.told.makes;
  are = sym (ap (λ (report : Report). report.acts.items) is.is ∙ is.told.report.acts);
}
has_run program nodes options report (inr (inr is)) = record {
  events = is.run.events.items;
  world = is.told.made.made;
  made = is.told.made.makes;
  are = sym (ap (λ (report : Report). report.acts.items) is.is ∙ is.told.made.report.acts);
}

pub each_is_exact : EachIsExact
each_is_exact program nodes options report is =
    let r : HasRun program nodes options report.acts.items = has_run program nodes options report is in
    subst (AreExactActs program nodes options) r.are
    (record {
      run = exact_run program nodes options r.events r.world r.made;
      steadily = steadily program nodes options r.events r.world r.made;
      led = order_fixes program nodes options r.events r.world r.made;
    })

pub locks_decide_reports : LocksDecideReports
locks_decide_reports program nodes options report other is is' locks =
    by_acts (has_run program nodes options report is) (has_run program nodes options other is')
  where
    by_acts : HasRun program nodes options report.acts.items → HasRun program nodes options other.acts.items
        → (node : ℕ) → OneBeginsOther (deeds_of node report.acts.items) (deeds_of node other.acts.items)
    by_acts r q =
        subst (λ acts. (node : ℕ) → OneBeginsOther (deeds_of node acts) (deeds_of node other.acts.items)) r.are
        (subst (λ acts. (node : ℕ) → OneBeginsOther (deeds_of node r.world.acts) (deeds_of node acts)) q.are
        (locks_decide program nodes options r.events q.events r.world q.world r.made q.made
        (subst (λ acts. (l : ℕ) → OneBeginsOther (acquirers l acts) (acquirers l q.world.acts)) (sym r.are)
        (subst (λ acts. (l : ℕ) → OneBeginsOther (acquirers l report.acts.items) (acquirers l acts)) (sym q.are) locks))))

pub orders_decide_reports : OrdersDecideReports
orders_decide_reports program nodes options report other is is' same =
    same_Some report.acts.items other.acts.items
    (sym (each_is_exact program nodes options report is).led
    ∙ ap (exact program (shape_in nodes options)) same
    ∙ (each_is_exact program nodes options other is').led)

pub each_has_an_exact_outcome : EachHasAnExactOutcome
each_has_an_exact_outcome program nodes options report is over = record {
  acts = report.acts.items;
  run = (each_is_exact program nodes options report is).run;
  over = over;
  are = refl;
}
