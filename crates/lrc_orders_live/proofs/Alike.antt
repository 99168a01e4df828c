-- States alike but for how often nodes have arrived: they take the same steps.
use Rattle.std.proofs.Common.{◌≡◌, ℕ, ◌+◌, ◌<◌, ◌≤◌, List, [], ◌∷◌, ◌++◌, Bool, true, false, inl, inr, length, get_or, map, refl, sym, ap, ◌∙◌, subst, arith}
use Rattle.std.specs.Prelude.{Option, Some, None, if◌then◌else◌, slice_index}
use Rattle.std.specs.List.{range_with_len}
use Rattle.std.proofs.lemmas.Bool.{cases_lt}
use Rattle.std.proofs.lemmas.List.{get_or-map, length-map, get_or_past}
use Rattle.std.proofs.lemmas.Option.{some_pair_parts}
use Rattle.lrc_trace.specs.declared.act.Act.{Act}
use Rattle.lrc_trace.specs.Run.{act_of}
use Rattle.lrc_exec.specs.declared.spot.Flat.{Flat}
use Rattle.lrc_exec.specs.declared.spot.Spot.{Spot}
use Rattle.lrc_exec.specs.Meaning.{Thread}
use Rattle.lrc_exec.specs.Plain.{Plain, thread_in, plain_step, plain_from}
use Rattle.lrc_exec.specs.Spots.{thread_at, spot_thread, spot_stopped}
use Rattle.lrc_exec.proofs.PlainParts.{thread_within}
use Rattle.lrc_exec.specs.declared.state.State.{State}
use Rattle.lrc_exec.specs.States.{plain_at, IsStateOf}
use Rattle.lrc_orders.specs.Meeting.{next_access_in, Meet}
use Rattle.lrc_orders.specs.Stuck.{IsAtRest, IsStuck}
use Rattle.lrc_exec.proofs.Spots.{stands_at}
use Rattle.lrc_orders_laws.specs.Rows.{AreAlike}
use Rattle.lrc_orders_laws.specs.Settling.{IsSettled, Settles}
use Rattle.lrc_orders_laws.specs.Steps as steps
use Rattle.lrc_orders_laws.specs.Steps.{AllWait, Leads, waits_in}
use Rattle.lrc_orders_laws.proofs.Aligned.{Aligned, AtBarrier}
use Rattle.lrc_orders_laws.proofs.Onward.{Fine, contended_no_depart}
use Rattle.lrc_orders_laws.proofs.Rounds.{one_settling}
use Rattle.lrc_orders_laws.proofs.GoingOn.{same_thread, step_alike, settled_at_alike, settles_alike, departs_alike, barrier_of_all, rests_alike}
use Rattle.lrc_orders_settling.specs.declared.step.Step.{Step}
use Rattle.lrc_orders_settling.specs.declared.step.Step.TheVariants.{Alone, Together}
use Rattle.lrc_orders_settling.specs.Taking.{count_of, IsCounted, Takes, alone, together}

-- ---- a state whose nodes have arrived once where they wait, and else never

some_spot : (xs : List Spot) (k : ℕ) → k < length xs → Spot
some_spot [] k lt = absurd (omega arith)
some_spot (x ∷ xs) k lt = x

module _ (flat : Flat) (state : State) (valid : IsStateOf flat state) (counted : IsCounted state) where
  count_at : (node : ℕ) (x : Spot) → node < length state.spots.items
      → slice_index (plain_at flat state).arrivals node ≡ count_of (get_or state.spots.items node x)
  count_at node x lt = ap (λ l. slice_index l node) counted ∙ get_or-map count_of state.spots.items node x 0 lt

  within : (node : ℕ) (t : Thread) → thread_in (plain_at flat state) node ≡ Some t → node < length state.spots.items
  within node t at = let lt = thread_within (plain_at flat state) node t at in omega (arith, lt, length-map state.spots.items (spot_thread flat))

  arrived_at : (node : ℕ) (t : Thread) → thread_in (plain_at flat state) node ≡ Some t → (b : Bool) → t.arrived ≡ b
      → slice_index (plain_at flat state).arrivals node ≡ (if b then 1 else 0)
  arrived_at node t at b e =
      let lt = within node t at in
      let x = some_spot state.spots.items node lt in
      let s = stands_at flat state node x t at in
      count_at node x lt ∙ ap (λ c. if c then 1 else 0) (ap (λ (y : Thread). y.arrived) s.thread_is ∙ e)

  stopped_none : (spot : Spot) (b : Bool) → spot.stopped ≡ b
      → (if b then None else Some (record (thread_at flat spot) { arrived = spot.arrived })) ≡ None → spot.stopped ≡ true
  stopped_none spot true e is = e
  stopped_none spot false e is = cc

  over_at : (node : ℕ) → thread_in (plain_at flat state) node ≡ None → slice_index (plain_at flat state).arrivals node ≤ 0
  over_at node at = elim (cases_lt node (length state.spots.items)) [
    | inl lt ↦
        let x = some_spot state.spots.items node lt in
        let spot = get_or state.spots.items node x in
        let none : spot_thread flat spot ≡ None = sym (get_or-map (spot_thread flat) state.spots.items node x None lt) ∙ at in
        let stopped = stopped_none spot spot.stopped refl none in
        let blank : spot ≡ spot_stopped spot.me = valid.blank node x lt stopped in
        let e = count_at node x lt ∙ ap count_of blank in
        omega (arith, e)
    | inr le ↦
        let e = ap (λ l. slice_index l node) counted ∙ get_or_past (map count_of state.spots.items) node 0 (omega (arith, le, length-map state.spots.items count_of)) in
        omega (arith, e)
  ]

  pub sizes_counted : length (plain_at flat state).arrivals ≡ length (plain_at flat state).threads
  sizes_counted = valid.arrivals ∙ sym valid.spots ∙ sym (length-map state.spots.items (spot_thread flat))

  pub aligned_counted : Aligned (plain_at flat state)
  aligned_counted = record {
    episode = 0;
    waiting = λ n t at waits. arrived_at n t at true waits;
    going = λ n t at stays. arrived_at n t at false stays;
    over = over_at;
  }

-- ---- steps

pub settled_alike : {machine other : Plain} → AreAlike machine other → IsSettled machine → IsSettled other
settled_alike a is = record { each = λ node. settled_at_alike a node (is.each node) }

pub meet_alike : {machine other : Plain} → AreAlike machine other → (p q : ℕ) → Meet machine p q → Meet other p q
meet_alike a p q meet = record {
  apart = meet.apart;
  word = meet.word;
  first_writes = meet.first_writes;
  second_writes = meet.second_writes;
  first = ap next_access_in (sym (same_thread a p)) ∙ meet.first;
  second = ap next_access_in (sym (same_thread a q)) ∙ meet.second;
  writes = meet.writes;
}

pub rest_alike : (machine other : Plain) → Fine machine → Fine other → AreAlike machine other → IsAtRest machine → IsAtRest other
rest_alike machine other fine fine' a still node = rests_alike machine other fine fine' a still node (plain_step other node) refl

pub stuck_alike : (machine other : Plain) → Fine machine → Fine other → AreAlike machine other → IsStuck machine → IsStuck other
stuck_alike machine other fine fine' a stuck = (
  rest_alike machine other fine fine' a stuck.0,
  (stuck.1.0, (let some = stuck.1.1 in ap (λ o. is_some_of o) (sym (same_thread a stuck.1.0)) ∙ some)),
)
  where
    is_some_of : Option Thread → Bool
    is_some_of None = false
    is_some_of (Some t) = true

pub record TakesAlike (other : Plain) (step : Step) (acts : List Act) (after : Plain) : Type 0 where
  pub there : Plain
  pub takes : Takes other step acts there
  pub alike : AreAlike after there

pub takes_alike : {machine after : Plain} {step : Step} {acts : List Act} → Takes machine step acts after → Fine machine → (other : Plain) → Fine other
    → AreAlike machine other → TakesAlike other step acts after
takes_alike (alone machine mid after node deed acts kind step settles) fine other fine' a =
    let st = step_alike machine other mid a node deed step (contended_no_depart deed kind) in
    let rest = settles_alike settles st.there st.alike in
    record { there = rest.there; takes = alone other st.there rest.there node deed acts kind st.step rest.settles; alike = rest.alike }
takes_alike (together machine mid after departs acts all led settles) fine other fine' a =
    let size : length machine.threads ≡ length other.threads = ap (λ ts. length ts) a.threads in
    let all' : AllWait other = record {
      each = λ node lt. ap waits_in (sym (same_thread a node)) ∙ all.each node (omega (arith, lt, size));
    } in
    let c : AtBarrier other (fine'.aligned.episode + 1) 0 (length machine.threads) =
    subst (AtBarrier other (fine'.aligned.episode + 1) 0) (sym size) (barrier_of_all other fine' all') in
    let d = departs_alike (length machine.threads) 0 (length machine.threads) (fine.aligned.episode + 1) (fine'.aligned.episode + 1) (omega arith)
    machine other mid departs a (barrier_of_all machine fine all) c led in
    let rest = settles_alike settles d.there d.alike in
    record {
      there = rest.there;
      takes = together other d.there rest.there departs acts all' (ap (λ n. plain_from other (range_with_len 0 n)) (sym size) ∙ d.led) rest.settles;
      alike = rest.alike;
    }

-- a step is determined
pub takes_once : {machine after there : Plain} {step : Step} {acts others : List Act} → Takes machine step acts after → Takes machine step others there
    → (acts ≡ others) × (after ≡ there)
takes_once (alone machine mid after node deed acts kind step settles) (alone _ mid' after' _ deed' acts' kind' step' settles') =
    let both = some_pair_parts deed deed' mid mid' (sym step ∙ step') in
    let rest = one_settling settles (subst (λ m. Settles m acts' after') (sym both.1) settles') in
    (ap (λ d. act_of node d ∷ acts) both.0 ∙ ap (λ l. act_of node deed' ∷ l) rest.0, rest.1)
takes_once (together machine mid after departs acts all led settles) (together _ mid' after' departs' acts' all' led' settles') =
    let both = some_pair_parts departs departs' mid mid' (sym led ∙ led') in
    let rest = one_settling settles (subst (λ m. Settles m acts' after') (sym both.1) settles') in
    (ap (λ d. d ++ acts) both.0 ∙ ap (λ l. departs' ++ l) rest.0, rest.1)

pub takes_leads : {machine after : Plain} {step : Step} {acts : List Act} → Takes machine step acts after → Leads machine acts after
takes_leads (alone machine mid after node deed acts kind step settles) = steps.alone machine mid after node deed acts kind step settles
takes_leads (together machine mid after departs acts all led settles) = steps.together machine mid after departs acts all led settles

pub leads_takes : {machine after : Plain} {acts : List Act} → Leads machine acts after → (step : Step) × Takes machine step acts after
leads_takes (steps.alone machine mid after node deed acts kind step settles) = (Alone node, alone machine mid after node deed acts kind step settles)
leads_takes (steps.together machine mid after departs acts all led settles) = (Together, together machine mid after departs acts all led settles)
