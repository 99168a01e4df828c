-- The laws: what some order leads to is what settled states have.
use Rattle.std.proofs.Common.{◌≡◌, ℕ, Bool, true, false, List, [], ◌∷◌, ◌++◌, length, refl, sym, ap, ◌∙◌, subst}
use Rattle.std.specs.Prelude.{Some, ◌↔◌}
use Rattle.std.specs.List.{range_with_len}
use Rattle.std.proofs.lemmas.Bool.{true≢false}
use Rattle.std.proofs.lemmas.List.{map-append}
use Rattle.lrc_program.specs.declared.Program.{Program}
use Rattle.lrc_trace.specs.declared.act.Act.{Act}
use Rattle.lrc_exec.specs.Plain.{Plain, plain_from, plain_start}
use Rattle.lrc_exec.proofs.PlainLaws.{plain_from-nodes}
use Rattle.lrc_exec.specs.Follows.{nodes_of_acts}
use Rattle.lrc_consistency_laws.specs.Racing.{HasNoRace}
use Rattle.lrc_consistency_laws.proofs.Plainly.{one_more, plain_from-joined}
use Rattle.lrc_orders.specs.Meeting.{Meet, NeverMeets}
use Rattle.lrc_orders.specs.Outcome.{IsOutcome}
use Rattle.lrc_orders.specs.Stuck.{IsAtRest, GetsStuck}
use Rattle.lrc_orders.specs.Traps.{NeverTraps, has_trap}
use Rattle.lrc_orders.proofs.Meetings.{never_meets, no_race, racing}
use Rattle.lrc_orders.specs.Verdict.{EndsInRace}
use Rattle.lrc_orders_laws.specs.Settling.{IsSettled, Settles, settled, settling}
use Rattle.lrc_orders_laws.specs.Steps.{Leads, alone, together, IsSettledState, beginning, onward, NeverMeetsSettled, GetsStuckSettled, NeverTrapsSettled, IsSettledOutcome}
use Rattle.lrc_orders_laws.proofs.Alike.{Alike, notes_alike}
use Rattle.lrc_orders_laws.proofs.Finishing.{finishes_by_rest, all_may_finish}
use Rattle.lrc_orders_laws.proofs.Onward.{is_settled, from_start, settled_state}

-- ---- from settled states to orders

-- the acts are those that the machine makes
abbrev pub IsRun : Plain → List Act → Plain → Type 0
IsRun machine acts there = plain_from machine (nodes_of_acts acts) ≡ Some (acts, there)

joined : (machine mid there : Plain) (acts more : List Act) → IsRun machine acts mid → IsRun mid more there → IsRun machine (acts ++ more) there
joined machine mid there acts more a b =
    ap (plain_from machine) (map-append (λ (x : Act). x.node) acts more)
    ∙ plain_from-joined (nodes_of_acts acts) (nodes_of_acts more) machine mid there acts more a b

settling_run : {machine there : Plain} {acts : List Act} → Settles machine acts there → IsRun machine acts there
settling_run (settled machine is) = refl
settling_run (settling machine after there node deed acts next step more) =
    one_more machine after there node deed (nodes_of_acts acts) acts step (settling_run more)

leading_run : {machine there : Plain} {acts : List Act} → Leads machine acts there → IsRun machine acts there
leading_run (alone machine mid there node deed acts kind step settles) =
    one_more machine mid there node deed (nodes_of_acts acts) acts step (settling_run settles)
leading_run (together machine mid there departs acts wait led settles) =
    let nodes : nodes_of_acts departs ≡ range_with_len 0 (length machine.threads) =
    plain_from-nodes machine (range_with_len 0 (length machine.threads)) (departs, mid) led in
    joined machine mid there departs acts (ap (plain_from machine) nodes ∙ led) (settling_run settles)

pub state_run : {program : Program} {nodes : ℕ} {acts : List Act} {machine : Plain} → IsSettledState program nodes acts machine
    → IsRun (plain_start program nodes) acts machine
state_run (beginning acts machine settles) = settling_run settles
state_run {program} {nodes} (onward acts more before after state leads) =
    joined (plain_start program nodes) before after acts more (state_run state) (leading_run leads)

leads_settled : {machine there : Plain} {acts : List Act} → Leads machine acts there → IsSettled there
leads_settled (alone machine mid there node deed acts kind step settles) = is_settled settles
leads_settled (together machine mid there departs acts wait led settles) = is_settled settles

pub state_settled : {program : Program} {nodes : ℕ} {acts : List Act} {machine : Plain} → IsSettledState program nodes acts machine → IsSettled machine
state_settled (beginning acts machine settles) = is_settled settles
state_settled (onward acts more before after state leads) = leads_settled leads

-- ---- from orders to settled states

-- where no node can act an order ends in a settled state, with the same notes
pub record RestsSettled (program : Program) (nodes : ℕ) (acts : List Act) (final : Plain) : Type 0 where
  pub new_acts : List Act
  pub state : IsSettledState program nodes new_acts final
  pub alike : Alike new_acts acts

pub rests_settled : (program : Program) (nodes : ℕ) (order : List ℕ) (acts : List Act) (final : Plain)
    → plain_from (plain_start program nodes) order ≡ Some (acts, final) → IsAtRest final → RestsSettled program nodes acts final
rests_settled program nodes order acts final run still =
    from_start (RestsSettled program nodes acts final) IsAtRest (λ a b same rests. subst IsAtRest (sym (same rests)) rests)
    (λ machine o made last led rests go. go (record { each = finishes_by_rest o machine last made led rests }))
    program nodes order acts final run still (λ s.
    let kept = s.follows.rest still in
    record {
      new_acts = s.first ++ s.made;
      state = subst (IsSettledState program nodes (s.first ++ s.made)) kept.0 (settled_state s);
      alike = kept.1;
    })

pub never_settled : (program : Program) (nodes : ℕ) → NeverMeetsSettled program nodes → NeverMeets program nodes
never_settled program nodes never machine reached p q meet =
    from_start ⊥ (λ m. Unit {0}) (λ a b same good. tt) (λ m o made last led good go. all_may_finish m go)
    program nodes reached.order reached.acts machine reached.led tt (λ s.
    never (s.first ++ s.made) s.there (settled_state s) p q (s.follows.meets p q meet))

-- a node traps in no order where none does on a way to a settled state
pub never_traps_settled : (program : Program) (nodes : ℕ) → NeverTrapsSettled program nodes → NeverTraps program nodes
never_traps_settled program nodes never order t =
    from_start ⊥ (λ m. Unit {0}) (λ a b same good. tt) (λ m o made last led good go. all_may_finish m go)
    program nodes order t.acts t.machine t.led tt (λ s.
    true≢false (sym (s.follows.traps t.traps) ∙ never (s.first ++ s.made) s.there (settled_state s)))

-- ---- the laws

pub races : (program : Program) (nodes : ℕ) → (HasNoRace program nodes ↔ NeverMeetsSettled program nodes)
races program nodes = (
  λ free acts machine state.
      never_meets program nodes free machine (record { order = nodes_of_acts acts; acts = acts; led = state_run state }),
  λ never. no_race program nodes (never_settled program nodes never),
)

abbrev pub SomeOrderGetsStuck : Program → ℕ → Type 0
SomeOrderGetsStuck program nodes = (order : List ℕ) × GetsStuck program nodes order

pub stuck : (program : Program) (nodes : ℕ) → (SomeOrderGetsStuck program nodes ↔ GetsStuckSettled program nodes)
stuck program nodes = (
  λ some.
      let g = some.1 in
      let r = rests_settled program nodes some.0 g.acts g.machine g.led g.stuck.0 in
      record { acts = r.new_acts; machine = g.machine; led = r.state; stuck = g.stuck },
  λ s. (nodes_of_acts s.acts, record { acts = s.acts; machine = s.machine; led = state_run s.led; stuck = s.stuck }),
)

-- the acts that lead to a settled state have no trap, where no order has one
no_trap : (program : Program) (nodes : ℕ) → NeverTraps program nodes → (acts : List Act) (machine : Plain) → IsSettledState program nodes acts machine
    → (b : Bool) → has_trap acts ≡ b → b ≡ false
no_trap program nodes never acts machine state true e =
    absurd (never (nodes_of_acts acts) (record { acts = acts; machine = machine; led = state_run state; traps = e }))
no_trap program nodes never acts machine state false e = refl

pub traps : (program : Program) (nodes : ℕ) → (NeverTraps program nodes ↔ NeverTrapsSettled program nodes)
traps program nodes = (
  λ never acts machine state. no_trap program nodes never acts machine state (has_trap acts) refl,
  never_traps_settled program nodes,
)

pub outcomes : (program : Program) (nodes : ℕ) (notes : List Act) → (IsOutcome program nodes notes ↔ IsSettledOutcome program nodes notes)
outcomes program nodes notes = (
  λ o.
      let r = rests_settled program nodes o.order o.acts o.machine o.led o.still in
      record { acts = r.new_acts; machine = o.machine; led = r.state; still = o.still; are = notes_alike r.alike nodes 0 ∙ o.are },
  λ s. record { order = nodes_of_acts s.acts; acts = s.acts; machine = s.machine; led = state_run s.led; still = s.still; are = s.are },
)

-- the acts that lead to a meeting, and then the two accesses, end in a race
pub ends_in_race : (program : Program) (nodes : ℕ) (acts : List Act) (machine : Plain) (p q : ℕ) → IsSettledState program nodes acts machine
    → Meet machine p q → EndsInRace program nodes (nodes_of_acts acts ++ p ∷ q ∷ [])
ends_in_race program nodes acts machine p q state meet =
    let r = racing program nodes machine (record { order = nodes_of_acts acts; acts = acts; led = state_run state }) p q meet in
    record { run = r.run; is = r.is; first = length acts; last = r.long; races = r.races }
