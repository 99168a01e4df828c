use Rattle.std.proofs.Common.{◌≡◌, ◌∙◌, Some, Ok, Err, List, ap, arith, length, refl, subst, sym}
use Rattle.std.proofs.lemmas.List.{length-set}
use Rattle.std.proofs.lemmas.Result.{IfOk-from_err}
use Rattle.lrc_time.specs.Time.{entry}
use Rattle.lrc_barrier.specs.declared.arrival.Arrival.{Arrival}
use Rattle.lrc_barrier.specs.declared.departure.Departure.{Departure}
use Rattle.lrc_barrier.specs.declared.fault.BarrierFault.TheVariants.{NoMemory}
use Rattle.lrc_barrier.specs.Barrier.{ManagerRecord, IsManager, after_arrive, arrive_answer, departures_of, has_arrived, is_next}
use Rattle.lrc_barrier.specs.Filled.{all_with}
use Rattle.lrc_barrier.proofs.Filled.{length_all_with}
use Rattle.lrc_barrier.proofs.Steps.{all_departed, are_all, are_departures, expected, turned_away, others_come, was_last}
use Rattle.lrc_barrier.proofs.Steps.{one_fault, none_waits, none_departs, not_accepted, fault_up, fault_is, kept_on_err}
use Rattle.lrc_barrier.proofs.manager.Manager.take.Goals as goal

pub departures-requires-clause-arrivals : goal.departures-requires-clause-arrivals
departures-requires-clause-arrivals c =
    let manager : ManagerRecord = c.args.self.now in
    let sound : IsManager manager = subst IsManager c.self.view_is c.self.invariant in
    let slots : c.as_slice-then-is_last.result.now ≡ manager.arrivals =
    c.as_slice-then-is_last.ensures.value ∙ ap (λ (m : ManagerRecord). m.arrivals) c.self.view_is in
    rw (slots, sound.places)
    (are_all (length manager.last) c.args.from c.args.arrival manager.arrivals sound.places c.requires.own sound.kept
    (sym (c.if-is_last.ensures c.args.arrival)))

-- others are still to come

pub returns-else-is_last : goal.returns-else-is_last
returns-else-is_last c =
    let step =
    others_come c.args.self.now c.args.from c.args.arrival c.in_ok-expect.ensures (sym (c.if-is_last.ensures c.args.arrival)) in
    record {
      refused = λ fault is. absurd (none_waits _ _ fault step is);
      answer = ap arrive_answer step;
      manager = c.keep.ensures ∙ sym (ap (after_arrive c.args.self.now) step);
      memory = λ accepts. tt;
      nodes =
          ap (λ (m : ManagerRecord). length m.last) c.keep.ensures
          ∙ length-set c.args.self.now.last c.args.from (entry c.args.arrival.time c.args.from);
      err = tt;
      departures = tt;
    }

pub returns-in_err-expect : goal.returns-in_err-expect
returns-in_err-expect c =
    let own = c.in_err-expect.field-0.0 in
    let up = c.from_residual.ensures in
    let step = turned_away c.args.self.now c.args.from c.args.arrival own (sym c.in_err-expect.ensures) in
    record {
      refused = λ fault is. fault_up c.from_residual.result own up.1 ∙ ap Err (one_fault _ own fault step is);
      answer = IfOk-from_err _ _ up.0;
      manager = IfOk-from_err _ _ up.0;
      memory = λ accepts. absurd (not_accepted _ own step accepts);
      nodes = refl;
      err = kept_on_err c.from_residual.result (c.args.self.now ≡ c.args.self.now) refl;
      departures = IfOk-from_err _ _ up.0;
    }

pub returns-in_err-departures : goal.returns-in_err-departures
returns-in_err-departures c =
    let manager : ManagerRecord = c.args.self.now in
    let sound : IsManager manager = subst IsManager c.self.view_is c.self.invariant in
    let up = c.from_residual-in_err-departures.ensures in
    let step =
    was_last manager c.args.from c.args.arrival sound c.requires.from c.in_ok-expect.ensures (sym (c.if-is_last.ensures c.args.arrival)) in
    record {
      refused = λ fault is. absurd (none_departs _ _ _ fault step is);
      answer = IfOk-from_err _ _ up.0;
      manager = IfOk-from_err _ _ up.0;
      memory = λ accepts. fault_is c.from_residual-in_err-departures.result (λ fault. fault ≡ NoMemory) up.1;
      nodes = refl;
      err = kept_on_err c.from_residual-in_err-departures.result (c.args.self.now ≡ c.args.self.now) refl;
      departures = IfOk-from_err _ _ up.0;
    }

pub returns-in_ok-departures : goal.returns-in_ok-departures
returns-in_ok-departures c =
    let manager : ManagerRecord = c.args.self.now in
    let arrival : Arrival = c.args.arrival in
    let from = c.args.from in
    let sound : IsManager manager = subst IsManager c.self.view_is c.self.invariant in
    let kept = ap (λ (m : ManagerRecord). m.arrivals) c.self.view_is in
    let slots : c.as_slice-then-is_last.result.now ≡ manager.arrivals = c.as_slice-then-is_last.ensures.value ∙ kept in
    let slots_first : c.as_slice.result.now ≡ manager.arrivals = c.as_slice.ensures.value ∙ kept in
    let all = sym (c.if-is_last.ensures arrival) in
    let fine = expected (is_next manager arrival.episode) (has_arrived manager from) c.in_ok-expect.ensures in
    let step = was_last manager from arrival sound c.requires.from c.in_ok-expect.ensures all in
    record {
      refused = λ fault is. absurd (none_departs _ _ _ fault step is);
      answer =
          ap arrive_answer step
          ∙ ap (λ kept. Ok (Some (departures_of (all_with arrival kept)))) (sym slots)
          ∙ ap (λ (all : List Departure). Ok (Some all)) (sym c.in_ok-departures.ensures);
      manager =
          c.depart.ensures
          ∙ all_departed manager from arrival c.at.result c.collects-collect.result c.at.ensures
          (omega (arith, c.requires.from, sound.places)) fine.1 all (rw (← slots_first) c.collects-collect.ensures)
          ∙ sym (ap (after_arrive manager) step);
      memory = λ accepts. tt;
      nodes = ap (λ (m : ManagerRecord). length m.last) c.depart.ensures ∙ length-set manager.last from c.at.result;
      err = tt;
      departures =
          rw (c.in_ok-departures.ensures, slots)
          (are_departures (length manager.last) (all_with arrival manager.arrivals)
          (length_all_with arrival manager.arrivals ∙ sound.places)
          (are_all (length manager.last) from arrival manager.arrivals sound.places c.requires.own sound.kept all));
    }
