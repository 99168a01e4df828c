-- Settled states that stand behind what was found, and where steps lead from them.
use Rattle.std.proofs.Common.{◌≡◌, ℕ, ◌<◌, List, ◌++◌, length, refl, sym, ◌∙◌, subst}
use Rattle.std.specs.Prelude.{Some}
use Rattle.std.specs.List.{range_with_len}
use Rattle.std.proofs.lemmas.Option.{some_pair_parts}
use Rattle.lrc_trace.specs.declared.act.Act.{Act}
use Rattle.lrc_trace.specs.declared.act.Deed.{Deed}
use Rattle.lrc_exec.specs.Plain.{Plain, plain_from, plain_start, plain_step}
use Rattle.lrc_exec.specs.States.{plain_at}
use Rattle.lrc_exec.specs.Follows.{nodes_of_acts}
use Rattle.lrc_graph.specs.Graph as graph
use Rattle.lrc_graph.specs.Graph.{HasEdge}
use Rattle.lrc_orders.specs.declared.noted.Noted.{Noted}
use Rattle.lrc_orders.specs.Stuck.{IsAtRest}
use Rattle.lrc_orders.proofs.Searching.{copy_same}
use Rattle.lrc_orders_laws.specs.Settling.{Settles}
use Rattle.lrc_orders_laws.specs.Steps.{IsSettledState, beginning, onward, Leads}
use Rattle.lrc_orders_laws.proofs.Finishing.{all_may_finish}
use Rattle.lrc_orders_laws.proofs.GoingOn.{state_fine}
use Rattle.lrc_orders_laws.proofs.Settle.{SettlesTo, settle}
use Rattle.lrc_orders_laws.proofs.Settled.{state_settled}
use Rattle.lrc_orders_ends.specs.BySteps.{EndsBySteps, ended, goes_on}
use Rattle.lrc_orders_ends.specs.Ends.{CannotEnd, CanEnd, EveryOrderCanEnd}
use Rattle.lrc_orders_ends.proofs.Behind as behind
use Rattle.lrc_orders_ends.proofs.Behind.{AreClosed, Begins, IsBehind}
use Rattle.lrc_orders_ends.proofs.Ending.{cannot_end, every_order}
use Rattle.lrc_orders_ends.proofs.Steadily.{settles_steadily}
use Rattle.lrc_orders_settling.specs.declared.step.Step.{Step}
use Rattle.lrc_orders_settling.specs.declared.step.Step.TheVariants.{Alone, Together}
use Rattle.lrc_orders_settling.specs.Taking.{Takes, alone, together}
use Rattle.lrc_orders_live.specs.Like.{AreLike, TakesLike}
use Rattle.lrc_orders_live.proofs.Alike.{leads_takes, takes_leads, takes_once}
use Rattle.lrc_orders_live.proofs.Like.{like_back, like_on, like_same, rest_like, takes_like}
use Rattle.lrc_orders_table.specs.Rows.{IsRowAt, row_count}
use Rattle.lrc_orders_table.proofs.RowLaws.{row_copy, row_within}
use Rattle.lrc_explore.specs.declared.task.Task.{Task}
use Rattle.lrc_explore.specs.Told.{LeadTo}
use Rattle.lrc_explore.proofs.Reaching.{fine_key}
use Rattle.lrc_explore_ends.specs.declared.states.States.{States}
use Rattle.lrc_explore_ends.specs.Lost.{HasEnd, HaveEnds}
use Rattle.lrc_explore_ends.specs.Stepped.{AreAllStepped, IsStepKnown, cannot, leads}

module _ (task : Task) (states : States) (all : AreAllStepped task states) where
  -- a settled state of the program, like one that was found
  pub record Stands (machine : Plain) : Type 0 where
    pub place : ℕ
    pub key : Noted
    pub there : IsRowAt states.found.table.rows place key
    pub alike : AreLike machine (plain_at task.flat key.state)
    pub acts : List Act
    pub state : IsSettledState task.program.now task.flat.nodes acts machine

  -- one place has one state
  same_plain : (place : ℕ) (a b : Noted) → IsRowAt states.found.table.rows place a → IsRowAt states.found.table.rows place b
      → plain_at task.flat a.state ≡ plain_at task.flat b.state
  same_plain place a b at there = copy_same task.flat a.state b.state (row_copy states.found.table.rows place a b at there).state

  -- a step from such a state is one from what was found
  from_key : {machine after : Plain} {step : Step} {acts : List Act} (i : Stands machine) → Takes machine step acts after
      → TakesLike (plain_at task.flat i.key.state) step acts after
  from_key i takes =
      takes_like takes (state_fine i.state) (plain_at task.flat i.key.state)
      (fine_key task i.key (all.stepped.found.reached.each i.place i.key i.there)) i.alike

  -- and the other way round
  to_state : {machine there : Plain} {step : Step} {acts : List Act} (i : Stands machine) → Takes (plain_at task.flat i.key.state) step acts there
      → TakesLike machine step acts there
  to_state {machine} i takes =
      takes_like takes (fine_key task i.key (all.stepped.found.reached.each i.place i.key i.there)) machine (state_fine i.state) (like_back i.alike)

  -- ---- where a step leads

  pub record Next (i_place : ℕ) (after : Plain) : Type 0 where
    pub stands : Stands after
    pub edge : HasEdge states.steps i_place stands.place

  next_by : {machine after : Plain} {acts : List Act} (i : Stands machine) → Leads machine acts after → (step : Step) → Takes machine step acts after
      → IsStepKnown task states i.place step → Next i.place after
  next_by {acts = acts} i led step takes (cannot key at never) =
      let on = from_key i takes in
      absurd (never acts on.there (subst (λ m. Takes m step acts on.there) (same_plain i.place i.key key i.there at) on.takes))
  next_by {machine = machine} {after = after} {acts = acts} i led step takes (leads to s edge) =
      let on = from_key i takes in
      let here = subst (λ m. Takes m step acts on.there) (same_plain i.place i.key s.before i.there s.there) on.takes in
      let one = takes_once here s.takes.takes in
      record {
        stands = record {
          place = to;
          key = s.after;
          there = s.next;
          alike = like_on (like_back on.alike) (like_on (subst (λ m. AreLike on.there m) one.1 (like_same on.there)) s.takes.alike);
          acts = i.acts ++ acts;
          state = onward i.acts acts machine after i.state led;
        };
        edge = edge;
      }

  next : {machine after : Plain} {acts : List Act} (i : Stands machine) → Leads machine acts after → Next i.place after
  next i led =
      let st = leads_takes led in
      next_by i led st.0 st.1 (all.known i.place (row_within states.found.table.rows i.place i.key i.there) st.0)

  -- ---- that a state settles behind a step

  -- a step that is known can be taken, if it can
  taken_by : {machine : Plain} (i : Stands machine) → (step : Step) → (((acts : List Act) (after : Plain) → Takes machine step acts after → ⊥) → ⊥)
      → IsStepKnown task states i.place step → (acts : List Act) × (after : Plain) × Takes machine step acts after
  taken_by i step some (cannot key at never) =
      absurd (some (λ acts after takes.
      let on = from_key i takes in
      never acts on.there (subst (λ m. Takes m step acts on.there) (same_plain i.place i.key key i.there at) on.takes)))
  taken_by i step some (leads to s edge) =
      let here = subst (λ m. Takes m step s.acts s.takes.there) (same_plain i.place s.before i.key s.there i.there) s.takes.takes in
      let on = to_state i here in
      (s.acts, on.there, on.takes)

  settles_alone : {machine mid after : Plain} {node : ℕ} {deed : Deed} {acts : List Act} → plain_step machine node ≡ Some (deed, mid)
      → Takes machine (Alone node) acts after → SettlesTo mid
  settles_alone {mid = mid} {after = after} {deed = deed} first (alone machine mid' _ node deed' acts kind step settles) =
      let both = some_pair_parts deed deed' mid mid' (sym first ∙ step) in
      record { acts = acts; final = after; settles = subst (λ m. Settles m acts after) (sym both.1) settles }

  settles_together : {machine mid after : Plain} {departs acts : List Act}
      → plain_from machine (range_with_len 0 (length machine.threads)) ≡ Some (departs, mid) → Takes machine Together acts after → SettlesTo mid
  settles_together {mid = mid} {after = after} {departs = departs} first (together machine mid' _ departs' acts wait led settles) =
      let both = some_pair_parts departs departs' mid mid' (sym first ∙ led) in
      record { acts = acts; final = after; settles = subst (λ m. Settles m acts after) (sym both.1) settles }

  settles_behind : {machine mid : Plain} (i : Stands machine) → Begins machine mid → SettlesTo mid
  settles_behind i (behind.alone machine mid node deed kind step) =
      let known = all.known i.place (row_within states.found.table.rows i.place i.key i.there) (Alone node) in
      let t = taken_by i (Alone node) (λ never.
      all_may_finish mid (λ fin. let st = settle mid fin in never _ st.final (alone machine mid st.final node deed st.acts kind step st.settles))) known in
      settles_alone step t.2
  settles_behind i (behind.together machine mid departs wait led) =
      let known = all.known i.place (row_within states.found.table.rows i.place i.key i.there) Together in
      let t = taken_by i Together (λ never.
      all_may_finish mid (λ fin. let st = settle mid fin in never _ st.final (together machine mid st.final departs st.acts wait led st.settles))) known in
      settles_together led t.2

  pub closed : (Goal : Type 0) → AreClosed Goal Stands
  closed Goal = record {
    fine = λ machine i. state_fine i.state;
    is_settled = λ machine i. state_settled i.state;
    onward = λ machine after acts i led. (next i led).stands;
    settles = λ machine mid i begins go. go (settles_behind i begins);
  }

  -- ---- ends

  rests_at : {machine : Plain} (i : Stands machine) → (key : Noted) → IsRowAt states.found.table.rows i.place key
      → IsAtRest (plain_at task.flat key.state) → IsAtRest machine
  rests_at {machine} i key at still =
      rest_like (plain_at task.flat i.key.state) machine (fine_key task i.key (all.stepped.found.reached.each i.place i.key i.there)) (state_fine i.state)
      (like_back i.alike) (subst IsAtRest (same_plain i.place key i.key at i.there) still)

  ends_along : {from to : ℕ} → graph.LeadsTo states.steps from to → (key : Noted) → IsRowAt states.found.table.rows to key
      → IsAtRest (plain_at task.flat key.state) → (machine : Plain) (i : Stands machine) → i.place ≡ from → EndsBySteps machine
  ends_along (graph.here place) key at still machine i same =
      ended machine (rests_at i key (subst (λ k. IsRowAt states.found.table.rows k key) (sym same) at) still)
  ends_along (graph.on from mid to edge more) key at still machine i same =
      let taken = all.stepped.sound from mid edge in
      let s = taken.1 in
      let here = subst (λ m. Takes m taken.0 s.acts s.takes.there)
      (same_plain i.place s.before i.key (subst (λ k. IsRowAt states.found.table.rows k s.before) (sym same) s.there) i.there) s.takes.takes in
      let on = to_state i here in
      let led = takes_leads on.takes in
      let stands : Stands on.there = record {
        place = mid;
        key = s.after;
        there = s.next;
        alike = like_on on.alike s.takes.alike;
        acts = i.acts ++ s.acts;
        state = onward i.acts s.acts machine on.there i.state led;
      } in
      goes_on machine on.there s.acts led (ends_along more key at still on.there stands refl)

  has_end : {machine : Plain} → EndsBySteps machine → (i : Stands machine) → HasEnd task states i.place
  has_end (ended machine still) i = record {
    to = i.place;
    leads = graph.here i.place;
    key = i.key;
    there = i.there;
    still = rest_like machine (plain_at task.flat i.key.state) (state_fine i.state)
        (fine_key task i.key (all.stepped.found.reached.each i.place i.key i.there)) i.alike still;
  }
  has_end (goes_on machine after acts led more) i =
      let n = next i led in
      let h = has_end more n.stands in
      record { to = h.to; leads = graph.on i.place n.stands.place h.to n.edge h.leads; key = h.key; there = h.there; still = h.still }

  -- ---- what is told

  pub every_order_ends : 0 < row_count states.found.table.rows → HaveEnds task states (row_count states.found.table.rows)
      → EveryOrderCanEnd task.program.now task.flat.nodes
  every_order_ends some have order acts machine run =
      let x = all.stepped.found.reached.full 0 some in
      let f = all.stepped.found.first x.0 x.1 in
      let first : IsBehind Stands (plain_start task.program.now task.flat.nodes) = record {
        there = f.1;
        is = record { place = 0; key = x.0; there = x.1; alike = f.3; acts = f.0; state = beginning f.0 f.1 f.2 };
        steadily = settles_steadily f.2;
      } in
      every_order task.program.now task.flat.nodes (CanEnd task.program.now task.flat.nodes order) Stands
      (closed (CanEnd task.program.now task.flat.nodes order))
      (λ there i.
      let h = have i.place (row_within states.found.table.rows i.place i.key i.there) in
      ends_along h.leads h.key h.there h.still there i refl)
      first order acts machine run (λ can. can)

  pub this_cannot_end : (place : ℕ) (acts : List Act) → LeadTo task states.found place acts → (HasEnd task states place → ⊥)
      → CannotEnd task.program.now task.flat.nodes (nodes_of_acts acts)
  this_cannot_end place acts led lost =
      cannot_end task.program.now task.flat.nodes acts led.machine led.led (λ ends.
      lost (has_end ends (record { place = place; key = led.key; there = led.there; alike = led.alike; acts = acts; state = led.led })))
