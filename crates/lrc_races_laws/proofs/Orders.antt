-- The order of the events is that of the acts.
use Rattle.std.proofs.Common.{◌≡◌, ℕ, List, refl, sym, subst, ap, ◌∙◌, arith}
use Rattle.std.specs.Prelude.{Some}
use Rattle.std.proofs.lemmas.Option.{same_Some}
use Rattle.lrc_trace.specs.declared.act.Act.{Act}
use Rattle.lrc_trace.specs.declared.act.Deed.{Deed}
use Rattle.lrc_trace.specs.declared.act.Deed.TheVariants.{Acquire as Acquiring, Release as Releasing, Arrive as Arriving, Depart as Departing}
use Rattle.lrc_trace.specs.Run.{Does, arrives_before, departs_before}
use Rattle.lrc_trace.specs.Order.{Precedes as PrecedesIn, HappensBefore as HappensBeforeIn, program as program_in, lock as lock_in, barrier as barrier_in, base as base_in, further as further_in}
use Rattle.lrc_trace.proofs.Positions.{Does-deed, Does-node, Does-within}
use Rattle.lrc_trace.proofs.Intervals.{act_at}
use Rattle.lrc_races_trace.specs.declared.event.Event.{Event}
use Rattle.lrc_races_trace.specs.Trace.{At, given, got}
use Rattle.lrc_races_trace.specs.Order.{Precedes, HappensBefore, program, lock, fork, join, fork_join, barrier, base, further}
use Rattle.lrc_races_trace.specs.Cycles.{cycles_before}
use Rattle.lrc_races_trace.proofs.Positions.{At-one, At-within}
use Rattle.lrc_races_laws.specs.Traces.{Numbers, operation_of, AreEvents}
use Rattle.lrc_races_laws.proofs.Operations.{of_given, of_got, of_arrive, of_depart, of_fork, of_join}
use Rattle.lrc_races_laws.proofs.Episodes.{IsRun, arrive-cycle, depart-cycle}

-- the act of an event
pub record IsActOf (numbers : Numbers) (acts : List Act) (i : ℕ) (a : Event) : Type 0 where
  pub node : ℕ
  pub deed : Deed
  pub does : Does acts i node deed
  pub thread : a.thread ≡ numbers.thread node
  pub operation : a.operation ≡ operation_of numbers deed

pub act_of_event : (numbers : Numbers) (acts : List Act) (events : List Event) → AreEvents numbers acts events → (i : ℕ) (a : Event) → At events i a
    → IsActOf numbers acts i a
act_of_event numbers acts events are i a at =
    let within = At-within at in
    let long = are.long in
    let (act, does) = act_at acts i (omega arith) in
    let (b, there, thread, operation) = are.same i act.node act.deed does in
    let same : b ≡ a = At-one there at in
    record {
      node = act.node;
      deed = act.deed;
      does = does;
      thread = subst (λ (e : Event). e.thread ≡ numbers.thread act.node) same thread;
      operation = subst (λ (e : Event). e.operation ≡ operation_of numbers act.deed) same operation;
    }

module _ (numbers : Numbers) (nodes : ℕ) (acts : List Act) (events : List Event) (run : IsRun numbers nodes acts events) where
  act : (i : ℕ) (a : Event) → At events i a → IsActOf numbers acts i a
  act i a at = act_of_event numbers acts events run.are i a at

  forth : {i j : ℕ} → PrecedesIn acts i j → Precedes events i j
  forth {i} {j} (program_in {node = p} {a = d} {b = e} lt first second) =
      let (a, at, thread, operation) = run.are.same i p d first in
      let (b, at', thread', operation') = run.are.same j p e second in
      program lt at at' (thread ∙ sym thread')
  forth {i} {j} (lock_in {p = p} {q = q} {l = l} lt first second) =
      let (a, at, thread, operation) = run.are.same i p (Releasing l) first in
      let (b, at', thread', operation') = run.are.same j q (Acquiring l) second in
      lock {l = numbers.lock l} lt at at' (ap given operation) (ap got operation')
  forth {i} {j} (barrier_in {p = p} {q = q} lt first second same) =
      let (a, at, thread, operation) = run.are.same i p Arriving first in
      let (b, at', thread', operation') = run.are.same j q Departing second in
      let within = Does-within first in
      let within' = Does-within second in
      let here = arrive-cycle numbers nodes acts events run i p (omega arith) first in
      let there = depart-cycle numbers nodes acts events run j q (omega arith) second in
      barrier {x = numbers.barrier} lt at at' operation operation'
      (ap (cycles_before events numbers.barrier j).of thread' ∙ there ∙ ap Some (sym (here ∙ same)))

  back : {i j : ℕ} → Precedes events i j → PrecedesIn acts i j
  back {i} {j} (program {a = a} {b = b} lt at at' same) =
      let x = act i a at in
      let y = act j b at' in
      let node : y.node ≡ x.node = run.are.threads j i y.node x.node y.deed x.deed y.does x.does (sym y.thread ∙ sym same ∙ x.thread) in
      program_in lt x.does (Does-node node y.does)
  back {i} {j} (lock {l = l} {a = a} {b = b} lt at at' gives gets) =
      let x = act i a at in
      let y = act j b at' in
      let (m, released, is) = of_given numbers x.deed l (ap given (sym x.operation) ∙ gives) in
      let (k, acquired, is') = of_got numbers y.deed l (ap got (sym y.operation) ∙ gets) in
      let does = Does-deed released x.does in
      let does' = Does-deed acquired y.does in
      let same : k ≡ m = run.are.locks j i y.node x.node k m (Acquiring k) (Releasing m) does' does refl refl (is' ∙ sym is) in
      lock_in lt does (Does-deed (ap Acquiring same) does')
  back {i} {j} (fork {a = a} {b = b} lt at at' forks) =
      let x = act i a at in
      absurd (of_fork numbers x.deed b.thread (sym x.operation ∙ forks))
  back {i} {j} (join {a = a} {b = b} lt at at' joins) =
      let y = act j b at' in
      absurd (of_join numbers y.deed a.thread (sym y.operation ∙ joins))
  back {i} {j} (fork_join {u = u} {a = a} {b = b} lt at at' forks joins) =
      let x = act i a at in
      absurd (of_fork numbers x.deed u (sym x.operation ∙ forks))
  back {i} {j} (barrier {x = z} {a = a} {b = b} lt at at' arrives departs same) =
      let x = act i a at in
      let y = act j b at' in
      let (is, number) = of_arrive numbers x.deed z (sym x.operation ∙ arrives) in
      let (is', number') = of_depart numbers y.deed z (sym y.operation ∙ departs) in
      let does = Does-deed is x.does in
      let does' = Does-deed is' y.does in
      let within = Does-within does in
      let within' = Does-within does' in
      let here = arrive-cycle numbers nodes acts events run i x.node (omega arith) does in
      let there = depart-cycle numbers nodes acts events run j y.node (omega arith) does' in
      let joined : Some (departs_before acts y.node j) ≡ Some (arrives_before acts x.node i) =
      sym there ∙ ap (cycles_before events numbers.barrier j).of (sym y.thread)
      ∙ subst (λ w. (cycles_before events w j).of b.thread ≡ Some (cycles_before events w i).current) (sym number) same ∙ ap Some here in
      barrier_in lt does does' (sym (same_Some (departs_before acts y.node j) (arrives_before acts x.node i) joined))

  pub ordered : {i j : ℕ} → HappensBeforeIn acts i j → HappensBefore events i j
  ordered (base_in p) = base (forth p)
  ordered (further_in h p) = further (ordered h) (forth p)

  pub ordered_back : {i j : ℕ} → HappensBefore events i j → HappensBeforeIn acts i j
  ordered_back (base p) = base_in (back p)
  ordered_back (further h p) = further_in (ordered_back h) (back p)
