-- No event of a run's trace in the form of RAPID is one that a program would not give.
use Rattle.std.proofs.Common.{◌≡◌, ℕ, List, [], sym, subst, ◌∙◌}
use Rattle.std.specs.Prelude.{Some, slice_get}
use Rattle.lrc_trace.specs.declared.act.Deed.{Deed}
use Rattle.lrc_trace.specs.declared.act.Deed.TheVariants.{Arrive as Arriving, Depart as Departing}
use Rattle.lrc_races_trace.specs.declared.event.Event.{Event}
use Rattle.lrc_races_trace.specs.declared.fault.Reason.TheVariants.{Waits, NotArrived}
use Rattle.lrc_races_trace.specs.Trace.{At}
use Rattle.lrc_races_trace.specs.Formed.{Holds, IsWellFormed}
use Rattle.lrc_acts_text.specs.Rapid.{RapidStep, meeting_at}
use Rattle.lrc_acts_text_laws.specs.Traces.{DoesStep, IsWellFormed as StepsAreWellFormed}
use Rattle.lrc_races_laws.specs.Traces.{Numbers}
use Rattle.lrc_races_laws.specs.Steps.{AreEventsOfSteps}
use Rattle.lrc_races_laws.proofs.Operations.{of_arrive, of_depart}
use Rattle.lrc_races_laws.proofs.Holding.{Excludes}
use Rattle.lrc_races_laws.proofs.StepRaces.{step_of_event}
use Rattle.lrc_races_laws.proofs.Formed.{formed}

module _ (numbers : Numbers) (steps : List RapidStep) (events : List Event) (are : AreEventsOfSteps numbers steps events)
    (deeds : (k : ℕ) (s : RapidStep) → slice_get steps k ≡ Some s → (d : Deed) × DoesStep steps k s.node d) (well : StepsAreWellFormed steps) where
  excludes : Excludes numbers (λ k p d. DoesStep steps k p d) events
  excludes = record {
    event = are.same;
    deed = λ k a at.
        let x = step_of_event numbers steps events are deeds k a at in
        (x.step.node, x.deed, x.does, x.thread, x.operation);
    threads = are.threads;
    locks = are.locks;
    acquires = λ j p l does other had.
        well.acquires j p l does other (record { since = had.since; earlier = had.earlier; acquired = had.acquired; kept = had.kept });
    releases = λ j p l does.
        let h = well.releases j p l does in
        record { since = h.since; earlier = h.earlier; acquired = h.acquired; kept = h.kept };
  }

  no_arrive : (k node : ℕ) → DoesStep steps k node Arriving → ⊥
  no_arrive k node does = let two = does.is (meeting_at 0 0 [] 0 0) in let never : ⊥ = cc in never

  no_depart : (k node : ℕ) → DoesStep steps k node Departing → ⊥
  no_depart k node does = let none = does.is (meeting_at 0 0 [] 0 0) in let never : ⊥ = cc in never

  no_wait : (n x line : ℕ) (e : Event) → At events n e → Holds events n e (Waits x line) → ⊥
  no_wait n x line e at (a, waits, is, stays) =
      let z = step_of_event numbers steps events are deeds waits.last.position a waits.last.at in
      let (arrives, number) = of_arrive numbers z.deed x (sym z.operation ∙ waits.arrives) in
      no_arrive waits.last.position z.step.node (subst (λ (d : Deed). DoesStep steps waits.last.position z.step.node d) arrives z.does)

  no_absence : (n x : ℕ) (e : Event) → At events n e → Holds events n e (NotArrived x) → ⊥
  no_absence n x e at (op, none) =
      let z = step_of_event numbers steps events are deeds n e at in
      let (departs, number) = of_depart numbers z.deed x (sym z.operation ∙ op) in
      no_depart n z.step.node (subst (λ (d : Deed). DoesStep steps n z.step.node d) departs z.does)

  pub steps_formed : IsWellFormed events
  steps_formed = formed numbers (λ k p d. DoesStep steps k p d) events excludes no_wait no_absence
