-- The laws: where steps lead to an end, and where they do not.
use Rattle.std.proofs.Common.{◌≡◌, ℕ, List, [], ◌∷◌, ◌++◌, refl, sym, ap, ◌∙◌, subst}
use Rattle.std.specs.Prelude.{Option, Some, None, option_map}
use Rattle.std.proofs.lemmas.Option.{some_pair_parts}
use Rattle.lrc_program.specs.declared.Program.{Program}
use Rattle.lrc_trace.specs.declared.act.Act.{Act}
use Rattle.lrc_exec.specs.Plain.{Plain, plain_from, plain_start}
use Rattle.lrc_exec.proofs.PlainLaws.{plain_from-append, then_from}
use Rattle.lrc_exec.specs.Follows.{nodes_of_acts}
use Rattle.lrc_consistency_laws.proofs.Plainly.{one_more, plain_from-joined}
use Rattle.lrc_orders.specs.Stuck.{IsAtRest}
use Rattle.lrc_orders_laws.specs.Steps.{IsSettledState, beginning, onward, Leads, alone, together}
use Rattle.lrc_orders_laws.proofs.Held.{held_at_start}
use Rattle.lrc_orders_laws.proofs.Turning.{at_rest_none_turns, turns_still}
use Rattle.lrc_orders_laws.proofs.Settle.{settle}
use Rattle.lrc_orders_laws.proofs.Finishing.{all_may_finish}
use Rattle.lrc_orders_laws.proofs.GoingOn.{state_fine}
use Rattle.lrc_orders_laws.proofs.Settled.{state_run, state_settled}
use Rattle.lrc_orders_ends.specs.Ends.{CanEnd, CannotEnd}
use Rattle.lrc_orders_ends.specs.BySteps.{EndsBySteps, ended, goes_on, EveryStateEnds}
use Rattle.lrc_orders_ends.proofs.Steadily.{LedTo, here, rest_steadily, settles_steadily, steadily_led}
use Rattle.lrc_orders_ends.proofs.Behind.{AreClosed, IsBehind, none_turns_at_rest, run_on}

-- ---- runs

led_on : {a b c : Plain} → LedTo a b → LedTo b c → LedTo a c
led_on {a = a} {b = b} {c = c} x y = record {
  order = x.order ++ y.order;
  acts = x.acts ++ y.acts;
  led = plain_from-joined x.order y.order a b c x.acts y.acts x.led y.led;
}

leads_led : {machine after : Plain} {acts : List Act} → Leads machine acts after → LedTo machine after
leads_led (alone machine mid after node deed acts kind step settles) =
    led_on (record { order = node ∷ []; acts = _; led = one_more machine mid mid node deed [] [] step refl }) (steadily_led (settles_steadily settles))
leads_led (together machine mid after departs acts all led settles) =
    led_on (record { order = _; acts = departs; led = led }) (steadily_led (settles_steadily settles))

-- an order leads from this state to where no node can make an act
record Rests (machine : Plain) : Type 0 where
  there : Plain
  led : LedTo machine there
  still : IsAtRest there

rests : {machine : Plain} → EndsBySteps machine → Rests machine
rests (ended machine still) = record { there = machine; led = record { order = []; acts = []; led = refl }; still = still }
rests (goes_on machine after acts leads more) =
    let r = rests more in
    record { there = r.there; led = led_on (leads_led leads) r.led; still = r.still }

-- the rest of a run
abbrev made_of : List Act → Plain → Option (List Act × Plain)
made_of acts machine = Some (acts, machine)

abbrev put_behind : List Act → List Act × Plain → List Act × Plain
put_behind made more = (made ++ more.0, more.1)

parted : (made acts : List Act) (final : Plain) (o : Option (List Act × Plain)) → option_map (put_behind made) o ≡ Some (acts, final)
    → (later : List Act) × (o ≡ Some (later, final))
parted made acts final None e = cc
parted made acts final (Some (later, there)) e =
    let same = some_pair_parts (made ++ later) acts there final e in
    (later, ap (λ (m : Plain). made_of later m) same.1)

run_parted : (machine mid final : Plain) (order more : List ℕ) (made acts : List Act) → plain_from machine order ≡ Some (made, mid)
    → plain_from machine (order ++ more) ≡ Some (acts, final) → (later : List Act) × (plain_from mid more ≡ Some (later, final))
run_parted machine mid final order more made acts first whole =
    parted made acts final (plain_from mid more) (sym (plain_from-append machine order more ∙ ap (λ run. then_from run more) first) ∙ whole)

-- ---- no steps lead to an end

-- a settled state of the program, by which the first would end if it does
record IsFrom (program : Program) (nodes : ℕ) (first machine : Plain) : Type 0 where
  acts : List Act
  state : IsSettledState program nodes acts machine
  ends : EndsBySteps machine → EndsBySteps first

closed_from : (program : Program) (nodes : ℕ) (first : Plain) → AreClosed ⊥ (IsFrom program nodes first)
closed_from program nodes first = record {
  fine = λ machine i. state_fine i.state;
  is_settled = λ machine i. state_settled i.state;
  onward = λ machine after acts i leads. record {
    acts = i.acts ++ acts;
    state = onward i.acts acts machine after i.state leads;
    ends = λ more. i.ends (goes_on machine after acts leads more);
  };
  settles = λ machine mid i begins go. all_may_finish mid (λ fin. go (settle mid fin));
}

pub cannot_end : (program : Program) (nodes : ℕ) (acts : List Act) (machine : Plain) → IsSettledState program nodes acts machine
    → (EndsBySteps machine → ⊥) → CannotEnd program nodes (nodes_of_acts acts)
cannot_end program nodes acts machine state never = record {
  acts = acts;
  machine = machine;
  led = state_run state;
  never = λ can.
      let In = IsFrom program nodes machine in
      let rest = run_parted (plain_start program nodes) machine can.machine (nodes_of_acts acts) can.more acts can.acts (state_run state) can.led in
      run_on ⊥ In (closed_from program nodes machine) can.more machine can.machine rest.0 (state_fine state).held
      (record { there = machine; is = record { acts = acts; state = state; ends = λ e. e }; steadily = here machine })
      rest.1 (none_turns_at_rest In can.machine can.still) (λ q.
      never (q.is.ends (ended q.there (subst IsAtRest (rest_steadily q.steadily can.still) can.still))));
}

-- ---- steps lead to an end from all settled states

-- from all of these, and each order comes to where one of them is reached
pub every_order : (program : Program) (nodes : ℕ) (Goal : Type 0) (In : Plain → Type 0) → AreClosed Goal In
    → ((machine : Plain) → In machine → EndsBySteps machine) → IsBehind In (plain_start program nodes) → (order : List ℕ) (acts : List Act) (machine : Plain)
    → plain_from (plain_start program nodes) order ≡ Some (acts, machine) → (CanEnd program nodes order → Goal) → Goal
every_order program nodes Goal In closed ends first order acts machine run go =
    run_on Goal In closed order (plain_start program nodes) machine acts (held_at_start program nodes) first run
    (λ before there node more made led is own turns.
    let r = rests (ends there is) in
    at_rest_none_turns r.there node r.still (turns_still r.led.order there r.there r.led.acts node r.led.led turns))
    (λ q.
    let r = rests (ends q.there q.is) in
    let on = led_on (steadily_led q.steadily) r.led in
    go (record {
      more = on.order;
      acts = acts ++ on.acts;
      machine = r.there;
      led = plain_from-joined order on.order (plain_start program nodes) machine r.there acts on.acts run on.led;
      still = r.still;
    }))

record IsState (program : Program) (nodes : ℕ) (machine : Plain) : Type 0 where
  acts : List Act
  state : IsSettledState program nodes acts machine

closed_states : (program : Program) (nodes : ℕ) → AreClosed ⊥ (IsState program nodes)
closed_states program nodes = record {
  fine = λ machine i. state_fine i.state;
  is_settled = λ machine i. state_settled i.state;
  onward = λ machine after acts i leads. record { acts = i.acts ++ acts; state = onward i.acts acts machine after i.state leads };
  settles = λ machine mid i begins go. all_may_finish mid (λ fin. go (settle mid fin));
}

pub none_cannot : (program : Program) (nodes : ℕ) (order : List ℕ) → EveryStateEnds program nodes → CannotEnd program nodes order → ⊥
none_cannot program nodes order ends cannot =
    all_may_finish (plain_start program nodes) (λ fin.
    let st = settle (plain_start program nodes) fin in
    every_order program nodes ⊥ (IsState program nodes) (closed_states program nodes) (λ machine i. ends i.acts machine i.state)
    (record { there = st.final; is = record { acts = st.acts; state = beginning st.acts st.final st.settles }; steadily = settles_steadily st.settles })
    order cannot.acts cannot.machine cannot.led (λ can. cannot.never can))
