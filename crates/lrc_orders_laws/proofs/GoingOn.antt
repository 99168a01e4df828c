-- How often nodes have arrived does not matter at a settled state, where all are at one episode.
use Rattle.std.proofs.Common.{◌≡◌, ℕ, zero, suc, ◌+◌, List, [], ◌∷◌, ◌⊎◌, inl, inr, true, length, refl, sym, ap, ◌∙◌, subst, arith}
use Rattle.std.specs.Prelude.{Option, Some, None, is_none, slice_index, slice_index_or, slice_set}
use Rattle.std.specs.List.{range_with_len}
use Rattle.std.proofs.lemmas.Option.{some_pair_parts}
use Rattle.lrc_program.specs.declared.Program.{Program}
use Rattle.lrc_trace.specs.declared.act.Act.{Act}
use Rattle.lrc_trace.specs.declared.act.Deed.{Deed}
use Rattle.lrc_trace.specs.declared.act.Deed.TheVariants.{Read, Acquire, Depart}
use Rattle.lrc_trace.specs.Run.{act_of}
use Rattle.lrc_exec.specs.Plain.{Plain, thread_in, plain_step, plain_from}
use Rattle.lrc_consistency_laws.proofs.Runs.{CanDo}
use Rattle.lrc_consistency_laws.proofs.Plainly.{stepwise, one_more}
use Rattle.lrc_orders.proofs.Effects.{after_of, memory_after, holders_after}
use Rattle.lrc_orders.specs.Meeting.{next_access_in}
use Rattle.lrc_orders.specs.Stuck.{IsAtRest}
use Rattle.lrc_orders_laws.specs.Free.{is_free_in, TurnsIn}
use Rattle.lrc_orders_laws.specs.Rows.{AreAlike, LeadsAlike, GoesOnAlike}
use Rattle.lrc_orders_laws.specs.Settling.{IsSettledAt, IsNextToSettle, Settles, settled, settling}
use Rattle.lrc_orders_laws.specs.Steps.{AllWait, waits_in, Leads, alone, together, IsSettledState, beginning, onward}
use Rattle.lrc_orders_laws.proofs.Parts.{stepped, can_step}
use Rattle.lrc_orders_laws.proofs.Held.{held_at_start}
use Rattle.lrc_orders_laws.proofs.Aligned as barriers
use Rattle.lrc_orders_laws.proofs.Aligned.{Aligned, AtBarrier, at_barrier, all_wait, aligned_past, aligned_at_start, depart_step, departed, waiter}
use Rattle.lrc_orders_laws.proofs.Onward.{Fine, fine_after, fine_settled, not_depart, contended_no_depart}
use Rattle.lrc_orders_laws.proofs.Settle.{settling_free}

-- ---- what holds of each settled state

pub barrier_of_all : (machine : Plain) (fine : Fine machine) → AllWait machine → AtBarrier machine (fine.aligned.episode + 1) 0 (length machine.threads)
barrier_of_all machine fine all = record {
  held = fine.held;
  size = refl;
  counts = λ n lt. let w = waiter (thread_in machine n) (all.each n lt) in fine.aligned.waiting n w.0 w.1 w.2;
  waits = λ n le lt. all.each n lt;
  gone = λ n t lt at. absurd (omega (arith, lt));
}

fine_departed : (machine mid : Plain) (departs : List Act) → Fine machine → AllWait machine
    → plain_from machine (range_with_len 0 (length machine.threads)) ≡ Some (departs, mid) → Fine mid
fine_departed machine mid departs fine all led =
    let long = length machine.threads in
    let count = fine.aligned.episode + 1 in
    let t = barriers.together long 0 long count (omega arith) machine (barrier_of_all machine fine all) [] [] machine refl in
    let same = some_pair_parts t.departs_made departs t.there mid (sym t.led ∙ led) in
    subst Fine same.1 (record { held = t.barrier.held; aligned = aligned_past t.there count long t.barrier })

leads_fine : {machine there : Plain} {acts : List Act} → Leads machine acts there → Fine machine → Fine there
leads_fine (alone machine mid there node deed acts kind step settles) fine =
    fine_settled settles (fine_after machine fine node deed mid (stepped machine node deed mid step) (contended_no_depart deed kind))
leads_fine (together machine mid there departs acts wait led settles) fine = fine_settled settles (fine_departed machine mid departs fine wait led)

pub state_fine : {program : Program} {nodes : ℕ} {acts : List Act} {machine : Plain} → IsSettledState program nodes acts machine → Fine machine
state_fine {program} {nodes} (beginning acts machine settles) =
    fine_settled settles (record { held = held_at_start program nodes; aligned = aligned_at_start program nodes })
state_fine (onward acts more before after state leads) = leads_fine leads (state_fine state)

-- ---- states alike

pub back : {machine other : Plain} → AreAlike machine other → AreAlike other machine
back a = record { memory = sym a.memory; holders = sym a.holders; threads = sym a.threads }

pub same_thread : {machine other : Plain} → AreAlike machine other → (node : ℕ) → thread_in machine node ≡ thread_in other node
same_thread a node = ap (λ ts. slice_index_or ts node None) a.threads

-- the state after a step that is made at the other too
pub record StepsAlike (other : Plain) (node : ℕ) (deed : Deed) (after : Plain) : Type 0 where
  pub there : Plain
  pub step : plain_step other node ≡ Some (deed, there)
  pub alike : AreAlike after there

can_alike : (machine other : Plain) → AreAlike machine other → (node : ℕ) (deed : Deed) → (deed ≡ Depart → ⊥) → CanDo machine node deed → CanDo other node deed
can_alike machine other a node (Read w v) never_so can = can ∙ ap (λ xs. slice_index xs w) a.memory
can_alike machine other a node (Acquire l) never_so can = ap (λ hs. is_none (slice_index_or hs l None)) (sym a.holders) ∙ can
can_alike machine other a node Depart never_so can = absurd (never_so refl)
can_alike machine other a node _ never_so can = tt

pub step_alike : (machine other after : Plain) → AreAlike machine other → (node : ℕ) (deed : Deed) → plain_step machine node ≡ Some (deed, after)
    → (deed ≡ Depart → ⊥) → StepsAlike other node deed after
step_alike machine other after a node deed step never_so =
    let s = stepped machine node deed after step in
    let new = s.took.goes_on_as in
    record {
      there = after_of other node deed new;
      step = can_step other node s.thread deed (sym (same_thread a node) ∙ s.there) refl s.took.goes (can_alike machine other a node deed never_so s.took.can);
      alike = record {
        memory = ap (λ (m : Plain). m.memory) s.took.is ∙ ap (memory_after deed) a.memory;
        holders = ap (λ (m : Plain). m.holders) s.took.is ∙ ap (holders_after node deed) a.holders;
        threads = ap (λ (m : Plain). m.threads) s.took.is ∙ ap (λ ts. slice_set ts node new) a.threads;
      };
    }

pub record SettlesAlike (other : Plain) (acts : List Act) (after : Plain) : Type 0 where
  pub there : Plain
  pub settles : Settles other acts there
  pub alike : AreAlike after there

pub settled_at_alike : {machine other : Plain} → AreAlike machine other → (node : ℕ) → IsSettledAt machine node → IsSettledAt other node
settled_at_alike a node is = subst (λ o. is_free_in o ≡ true → TurnsIn o) (same_thread a node) is

pub settles_alike : {machine after : Plain} {acts : List Act} → Settles machine acts after → (other : Plain) → AreAlike machine other
    → SettlesAlike other acts after
settles_alike (settled machine is) other a =
    record { there = other; settles = settled other (record { each = λ node. settled_at_alike a node (is.each node) }); alike = a }
settles_alike (settling machine after final node deed acts next step more) other a =
    let s = stepped machine node deed after step in
    let st = step_alike machine other after a node deed step (not_depart s.took.goes (settling_free next s)) in
    let rest = settles_alike more st.there st.alike in
    let next' : IsNextToSettle other node = record {
      free = ap is_free_in (sym (same_thread a node)) ∙ next.free;
      stops = λ turns. next.stops (subst TurnsIn (sym (same_thread a node)) turns);
      lowest = λ lower lt. settled_at_alike a lower (next.lowest lower lt);
    } in
    record { there = rest.there; settles = settling other st.there rest.there node deed acts next' st.step rest.settles; alike = rest.alike }

pub record DepartsAlike (other : Plain) (order : List ℕ) (acts : List Act) (after : Plain) : Type 0 where
  pub there : Plain
  pub led : plain_from other order ≡ Some (acts, there)
  pub alike : AreAlike after there

pub departs_alike : (many place long count counted : ℕ) → place + many ≡ long → (machine other after : Plain) (acts : List Act) → AreAlike machine other
    → AtBarrier machine count place long → AtBarrier other counted place long → plain_from machine (range_with_len place many) ≡ Some (acts, after)
    → DepartsAlike other (range_with_len place many) acts after
departs_alike zero place long count counted sum machine other after acts a b c led =
    let same = some_pair_parts [] acts machine after led in
    record { there = other; led = ap (λ (l : List Act). Some (l, other)) same.0; alike = subst (λ m. AreAlike m other) same.1 a }
departs_alike (suc many) place long count counted sum machine other after acts a b c led =
    let mine = depart_step machine count place long b (omega (arith, sum)) in
    let its = depart_step other counted place long c (omega (arith, sum)) in
    let s = stepwise machine place (range_with_len (place + 1) many) acts after led in
    let same = some_pair_parts Depart s.deed mine.after s.after (sym mine.step ∙ s.first) in
    let alike : AreAlike mine.after its.after = record {
      memory = ap (λ (m : Plain). m.memory) mine.is ∙ a.memory ∙ sym (ap (λ (m : Plain). m.memory) its.is);
      holders = ap (λ (m : Plain). m.holders) mine.is ∙ a.holders ∙ sym (ap (λ (m : Plain). m.holders) its.is);
      threads = ap (λ (m : Plain). m.threads) mine.is ∙ ap (λ ts. slice_set ts place (departed (slice_index_or ts place None))) a.threads
          ∙ sym (ap (λ (m : Plain). m.threads) its.is);
    } in
    let rest = departs_alike many (place + 1) long count counted (omega (arith, sum)) mine.after its.after after s.more alike mine.barrier its.barrier
    (ap (λ m. plain_from m (range_with_len (place + 1) many)) same.1 ∙ s.rest) in
    record {
      there = rest.there;
      led = one_more other its.after rest.there place Depart (range_with_len (place + 1) many) s.more its.step rest.led
          ∙ ap (λ (l : List Act). Some (l, rest.there)) (ap (λ d. act_of place d ∷ s.more) same.0 ∙ sym s.acts_are);
      alike = rest.alike;
    }

pub leads_alike : {machine after : Plain} {acts : List Act} → Leads machine acts after → Fine machine → (other : Plain) → Fine other → AreAlike machine other
    → LeadsAlike other acts after
leads_alike (alone machine mid after node deed acts kind step settles) fine other fine' a =
    let st = step_alike machine other mid a node deed step (contended_no_depart deed kind) in
    let rest = settles_alike settles st.there st.alike in
    record { there = rest.there; leads = alone other st.there rest.there node deed acts kind st.step rest.settles; alike = rest.alike }
leads_alike (together machine mid after departs acts all led settles) fine other fine' a =
    let size : length machine.threads ≡ length other.threads = ap (λ ts. length ts) a.threads in
    let all' : AllWait other = record {
      each = λ node lt. ap waits_in (sym (same_thread a node)) ∙ all.each node (omega (arith, lt, size));
    } in
    let c : AtBarrier other (fine'.aligned.episode + 1) 0 (length machine.threads) =
    subst (AtBarrier other (fine'.aligned.episode + 1) 0) (sym size) (barrier_of_all other fine' all') in
    let d = departs_alike (length machine.threads) 0 (length machine.threads) (fine.aligned.episode + 1) (fine'.aligned.episode + 1) (omega arith)
    machine other mid departs a (barrier_of_all machine fine all) c led in
    let rest = settles_alike settles d.there d.alike in
    record {
      there = rest.there;
      leads = together other d.there rest.there departs acts all' (ap (λ n. plain_from other (range_with_len 0 n)) (sym size) ∙ d.led) rest.settles;
      alike = rest.alike;
    }

pub depart_or_not : (deed : Deed) → (deed ≡ Depart) ⊎ (deed ≡ Depart → ⊥)
depart_or_not Depart = inl refl
depart_or_not _ = inr (λ e. cc)

pub none_made : (made : Deed × Plain) → ◌≡◌ {A = Option (Deed × Plain)} None (Some made) → ⊥
none_made made e = cc

pub rests_alike : (machine other : Plain) → Fine machine → Fine other → AreAlike machine other → IsAtRest machine → (node : ℕ)
    → (o : Option (Deed × Plain)) → plain_step other node ≡ o → o ≡ None
rests_alike machine other fine fine' a still node None e = refl
rests_alike machine other fine fine' a still node (Some made) e = elim (depart_or_not made.0) [
  | inl is ↦
      let s = stepped other node made.0 made.1 e in
      let size : length machine.threads ≡ length other.threads = ap (λ ts. length ts) a.threads in
      let all = all_wait other (fine'.aligned.episode + 1) (at_barrier other fine'.held fine'.aligned node made.1 made.0 s is) in
      let all' : AllWait machine = record {
        each = λ n lt. ap waits_in (same_thread a n) ∙ all.each n (omega (arith, lt, size));
      } in
      let first = depart_step machine (fine.aligned.episode + 1) 0 (length machine.threads) (barrier_of_all machine fine all')
      (let within = s.within in omega (arith, within, size)) in
      absurd (none_made (Depart, first.after) (sym (still 0) ∙ first.step))
  | inr never_so ↦
      let st = step_alike other machine made.1 (back a) node made.0 e never_so in
      absurd (none_made (made.0, st.there) (sym (still node) ∙ st.step))
]

pub goes_on_alike : (program : Program) (nodes : ℕ) (acts others : List Act) (machine other : Plain) → IsSettledState program nodes acts machine
    → IsSettledState program nodes others other → AreAlike machine other → GoesOnAlike machine other
goes_on_alike program nodes acts others machine other one two a = record {
  meets = λ p q meet. record {
    apart = meet.apart;
    word = meet.word;
    first_writes = meet.first_writes;
    second_writes = meet.second_writes;
    first = ap next_access_in (sym (same_thread a p)) ∙ meet.first;
    second = ap next_access_in (sym (same_thread a q)) ∙ meet.second;
    writes = meet.writes;
  };
  rests = λ still node. rests_alike machine other (state_fine one) (state_fine two) a still node (plain_step other node) refl;
  leads = λ more after leads. leads_alike leads (state_fine one) other (state_fine two) a;
}
