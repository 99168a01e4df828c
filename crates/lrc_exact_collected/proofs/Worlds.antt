-- In every run barriers collect where the exact memory does, and what was dropped is the same: every turn keeps it.
use Rattle.std.proofs.Common.{◌≡◌, ◌⊎◌, ℕ, ◌+◌, ◌<◌, ◌≤◌, ◌&&◌, List, [], ◌∷◌, ◌++◌, Bool, true, false, length, map, refl, sym, ap, subst, ◌∙◌, inl, inr, arith, append-nil}
use Rattle.std.specs.Prelude.{Option, Some, None, Contains, unwrap_or, count_by, nat_le, slice_get, slice_set, slice_index_or, if◌then◌else◌}
use Rattle.std.specs.List.{enumerate_from}
use Rattle.std.proofs.lemmas.Bool.{and_parts, and_from, or_cases, or_left, or_right, cases_eq, false≢true}
use Rattle.std.proofs.lemmas.List.{length-set, length_push}
use Rattle.std.proofs.lemmas.Option.{same_Some, slice_get_within}
use Rattle.lrc_program.specs.declared.Program.{Program}
use Rattle.lrc_trace.specs.declared.act.Act.{Act}
use Rattle.lrc_trace.specs.declared.act.Deed.{Deed}
use Rattle.lrc_trace.specs.declared.act.Deed.TheVariants.{Acquire, Arrive as Arrives, Depart as Departs}
use Rattle.lrc_trace.specs.Run.{act_of, arrives_before, departs_before}
use Rattle.lrc_trace.proofs.Positions.{Does-last}
use Rattle.lrc_envelope.specs.Envelope.{EnvelopeRecord}
use Rattle.lrc_envelope.specs.Records.{ArriveRecord, DepartRecord}
use Rattle.lrc_envelope.specs.declared.message.Message.{Message}
use Rattle.lrc_envelope.specs.declared.message.Message.TheVariants.{Arrive, Depart}
use Rattle.lrc_store.proofs.Orders.{Contains-first, Contains-later, cases_Contains, none_Contains}
use Rattle.lrc_barrier.specs.declared.arrival.Arrival.{Arrival}
use Rattle.lrc_barrier.specs.declared.departure.Departure.{Departure}
use Rattle.lrc_barrier.specs.Barrier.{ManagerRecord, with_arrival, arrivals_of, departure_to, asks as some_ask}
use Rattle.lrc_clock.specs.Times.{time_at, arrived_time}
use Rattle.lrc_clock.proofs.Deciding.{one_list}
use Rattle.lrc_protocol.specs.declared.event.Event.{Event}
use Rattle.lrc_protocol.specs.Barriers.{Collection, arrival_in}
use Rattle.lrc_protocol.specs.Node.{Letter, nothing, departure, discard, Node, Effect, OptionsRecord, next_in}
use Rattle.lrc_protocol.specs.Turn.{asks_for_collection, departure_of, TurnRecord, taking}
use Rattle.lrc_protocol.specs.Rules.{IsSent, with_numbers}
use Rattle.lrc_protocol.specs.Run.{Input, EntryRecord, Logged, World, Flying, fresh_world, with_turn, run_of}
use Rattle.lrc_protocol.specs.Follows.{pending}
use Rattle.lrc_protocol.proofs.Worlds.{IsEntry, get_set_same, get_set_other, fresh_at}
use Rattle.lrc_protocol.proofs.Induction.{Comes}
use Rattle.lrc_protocol.proofs.Turned.{Turned, Turns, turns}
use Rattle.lrc_order_laws.specs.Counts.{is_inside}
use Rattle.lrc_order_laws.specs.Barriers.{says_depart, arrive_from, depart_to, kept_of, awaits_depart, time_in, IsNewestTime}
use Rattle.lrc_order_laws.specs.Waiting.{FixesNext}
use Rattle.lrc_order_laws.proofs.AllStand.{AllStand, its_manager}
use Rattle.lrc_order_laws.proofs.AllTimely.{Made, made_so, manager_after, all_timely}
use Rattle.lrc_order_laws.proofs.Arrivals.{kept_before, LetsAll, GoesOn, lets_or_not, get_set}
use Rattle.lrc_order_laws.proofs.Departs.{Standing_at, standing_at}
use Rattle.lrc_order_laws.proofs.Flows.{IsFromNode, stepped}
use Rattle.lrc_order_laws.proofs.Joins.{InPlace, in_place, place_of}
use Rattle.lrc_order_laws.proofs.Managers.{LetGo}
use Rattle.lrc_order_laws.proofs.Moves.{in-now, Brought, brought, sent_from, among_letters, Moves, moves}
use Rattle.lrc_order_laws.proofs.Pending.{Ran, ran}
use Rattle.lrc_order_laws.proofs.Present.{more_acts}
use Rattle.lrc_order_laws.proofs.Reached.{IsReached, KeptByReached, by_reached}
use Rattle.lrc_order_laws.proofs.Sends.{site_of, letter_in, LettersIf, numbered-letters}
use Rattle.lrc_order_laws.proofs.Shape.{shape_at}
use Rattle.lrc_order_laws.proofs.Shift.{Rested, Moved, deed_made, deed_back}
use Rattle.lrc_order_laws.proofs.Timed.{keeps as keeps_time, waits as waits_so}
use Rattle.lrc_order_laws.proofs.Timely.{Timely, Gate, gate, is_kept, is_sent, is_told, get_within, all_in, waits_for_departure, at_most_one}
use Rattle.lrc_node_laws.proofs.Always.{known_at}
use Rattle.lrc_reading_laws.proofs.Collected.Turns.{in_collection}
use Rattle.lrc_reading_laws.proofs.Stamped.Worlds.{Placed, placed, TurnBy, alone, again, anew, turn_at}
use Rattle.lrc_exact.specs.LocalRule.{state_before, state_after, released_state, arrived_state}
use Rattle.lrc_exact.specs.Rule.{Shape, State, exact_rule, KeepsExact, acquired, departed, collected, collects, asks, some_asks}
use Rattle.lrc_exact.specs.Rule.{known_by_all, with_learned}
use Rattle.lrc_exact.proofs.LocalRules.{before-same, after-same, prefix-alike, keeps-more, keeps-none}
use Rattle.lrc_exact_asks.proofs.Counts.{asks_so}
use Rattle.lrc_exact_known.specs.Known.{times_of}
use Rattle.lrc_exact_known.proofs.KeepingTime.{time-there, times-kept, meeting-is}
use Rattle.lrc_exact_reading.proofs.Departing.{next-own, next-other}
use Rattle.lrc_exact_made.specs.Copies.{shape_of}
use Rattle.lrc_exact_collected.proofs.Arrived.{IsThere, is_there}
use Rattle.lrc_exact_collected.proofs.Deciding.{same_bool, some_asks-at, some_asks-by, more_states, arrived-stays}
use Rattle.lrc_exact_collected.proofs.Rules.{SaysAsk, ask_in, Drops, keeps, leaves, Does_so, run-does, take-does}

-- with so many episodes over, whether the newest collects
pub record IsDecided (shape : Shape) (acts : List Act) (states : List State) (over : ℕ) (collect : Bool) : Type 0 where
  pub number : ℕ
  pub newest : over ≡ number + 1
  pub decides : collect ≡ collects shape (arrived_state acts states number (length acts))

-- a deed that is no depart drops nothing
drops_none : (shape : Shape) (acts : List Act) (states : List State) (j node : ℕ) (deed : Deed) → (deed ≡ Departs → ⊥)
    → (state_after (exact_rule shape) acts states j node deed).dropped ≡ (state_before (exact_rule shape) acts states node j).dropped
drops_none shape acts states j node (Acquire l) other = by_released (released_state acts states l j)
  where
    by_released : (o : Option State)
        → (acquired shape.nodes node (state_before (exact_rule shape) acts states node j) o).dropped ≡ (state_before (exact_rule shape) acts states node j).dropped
    by_released None = refl
    by_released (Some s) = refl
drops_none shape acts states j node Departs other = absurd (other refl)
drops_none shape acts states j node deed other = refl

-- a depart from a barrier that does not collect drops nothing, and one from a barrier that collects drops what was known
departs_keeping : (shape : Shape) (state : State) (arrived : ℕ → Option State) → collects shape arrived ≡ false
    → (departed shape state arrived).dropped ≡ state.dropped
departs_keeping shape state arrived e =
    ap (λ b. (if b
    then collected shape (known_by_all shape.nodes shape.nodes arrived) arrived (with_learned shape.nodes (known_by_all shape.nodes shape.nodes arrived) state)
    else with_learned shape.nodes (known_by_all shape.nodes shape.nodes arrived) state).dropped) e

departs_dropping : (shape : Shape) (state : State) (arrived : ℕ → Option State) → collects shape arrived ≡ true
    → (departed shape state arrived).dropped ≡ (known_by_all shape.nodes shape.nodes arrived).time
departs_dropping shape state arrived e =
    ap (λ b. (if b
    then collected shape (known_by_all shape.nodes shape.nodes arrived) arrived (with_learned shape.nodes (known_by_all shape.nodes shape.nodes arrived) state)
    else with_learned shape.nodes (known_by_all shape.nodes shape.nodes arrived) state).dropped) e

sent-letter : (e : Effect) (turn : TurnRecord) (after : Node) (x : EnvelopeRecord) → IsSent e turn after → Contains turn.out x
    → Contains e.letters (letter_in x)
sent-letter e turn after x (with_numbers out sent is) c =
    subst (λ letters. Contains letters (letter_in x))
    (subst (LettersIf e.letters) is (numbered-letters e.node.setting.me e.node.options.first e.node.mail.sent e.letters)) (among_letters out x c)

says-ask : (ask : Bool) (message : Message) (m : ArriveRecord) → message ≡ Arrive m → SaysAsk ask message → m.ask ≡ ask
says-ask ask message m is says = subst (SaysAsk ask) is says

collect_in : Message → Option Bool
collect_in (Depart d) = Some d.collect
collect_in _ = None

-- each departure tells whether some arrival asks
departure_collect : (arrivals : List Arrival) (k : ℕ) (rest : List Arrival) (l : Letter) (d : DepartRecord)
    → Contains (map departure_of (map (departure_to arrivals) (enumerate_from k rest))) l → l.message ≡ Depart d → d.collect ≡ some_ask arrivals
unfolding collect_in
departure_collect arrivals k [] l d there e = absurd (none_Contains l there)
departure_collect arrivals k (a ∷ rest) l d there e =
    elim (cases_Contains (departure_of (departure_to arrivals (k, a)))
    (map departure_of (map (departure_to arrivals) (enumerate_from (k + 1) rest))) l there) [
      | inl is ↦ same_Some d.collect (some_ask arrivals) (ap collect_in (sym e) ∙ ap (λ (l : Letter). collect_in l.message) (sym is))
      | inr later ↦ departure_collect arrivals (k + 1) rest l d later e
    ]

-- some arrival asks exactly where one of them does
some_ask-at : (arrivals : List Arrival) → some_ask arrivals ≡ true → (a : Arrival) × Contains arrivals a × (a.ask ≡ true)
some_ask-at [] e = absurd (false≢true e)
some_ask-at (a ∷ arrivals) e = elim (or_cases a.ask (some_ask arrivals) e) [
  | inl here ↦ (a, Contains-first a arrivals, here)
  | inr later ↦
      let (x, there, says_so) = some_ask-at arrivals later in
      (x, Contains-later a arrivals x there, says_so)
]

some_ask-by : (arrivals : List Arrival) (x : Arrival) → Contains arrivals x → x.ask ≡ true → some_ask arrivals ≡ true
some_ask-by [] x there says_so = absurd (none_Contains x there)
some_ask-by (a ∷ arrivals) x there says_so = elim (cases_Contains a arrivals x there) [
  | inl here ↦ or_left a.ask (some_ask arrivals) (ap (λ (a : Arrival). a.ask) here ∙ says_so)
  | inr later ↦ or_right a.ask (some_ask arrivals) (some_ask-by arrivals x later says_so)
]

-- what a turn does to the node, with a message or by itself
record Done_so (node : Node) (message : Option Message) (turn : TurnRecord) (after : Node) : Type 0 where
  asks : node.mail.wait ≡ departure → ((m : DepartRecord) → message ≡ Some (Depart m) → ⊥) → asks_for_collection after ≡ asks_for_collection node
  letters : (x : EnvelopeRecord) (m : ArriveRecord) → Contains turn.out x → x.message ≡ Arrive m → m.ask ≡ asks_for_collection after
  inside : in_collection after.mail.wait ≡ true
      → (in_collection node.mail.wait ≡ true) ⊎ ((m : DepartRecord) × (message ≡ Some (Depart m)) × (m.collect ≡ true))
  drops : ((after.memory.collected ≡ node.memory.collected)
      × (deed_made turn ≡ Some Departs → (m : DepartRecord) × (message ≡ Some (Depart m)) × (m.collect ≡ false)))
      ⊎ ((collection : Collection) × (node.mail.wait ≡ discard collection) × (after.memory.collected ≡ collection.time)
      × (deed_made turn ≡ Some Departs))

of_effect : (node : Node) (message : Option Message) (e : Effect) (turn : TurnRecord) (after : Node) → IsSent e turn after → Does_so node message e
    → Done_so node message turn after
of_effect node message e turn after (with_numbers out sent is) so = record {
  asks = so.asks;
  letters = λ x m there says.
      says-ask (asks_for_collection e.node) x.message m says
      (ask_in (asks_for_collection e.node) e.letters so.letters (letter_in x) (sent-letter e turn after x (with_numbers out sent is) there));
  inside = so.inside;
  drops = by_drops so.drops;
}
  where
    made_is : deed_made turn ≡ e.deed
    made_is = deed_back e.node.setting.me e.deed

    by_drops : Drops node message e
        → ((e.node.memory.collected ≡ node.memory.collected)
        × (deed_made turn ≡ Some Departs → (m : DepartRecord) × (message ≡ Some (Depart m)) × (m.collect ≡ false)))
        ⊎ ((collection : Collection) × (node.mail.wait ≡ discard collection) × (e.node.memory.collected ≡ collection.time)
        × (deed_made turn ≡ Some Departs))
    by_drops (keeps same told) = inl (same, λ d. told (sym made_is ∙ d))
    by_drops (leaves collection at dropped departs) = inr (collection, at, dropped, made_is ∙ departs)

-- a turn with what came, if anything did: it was on its way to the node
record TurnSo (node : Node) (was : List EnvelopeRecord) (turn : TurnRecord) (after : Node) : Type 0 where
  message : Option Message
  done : Done_so node message turn after
  came : (m : DepartRecord) → message ≡ Some (Depart m) → (e : EnvelopeRecord) × Contains was e × (e.message ≡ Depart m) × (e.to ≡ node.setting.me)

front-there : (front back : List EnvelopeRecord) (e : EnvelopeRecord) → Contains (front ++ e ∷ back) e
front-there [] back e = Contains-first e back
front-there (x ∷ front) back e = Contains-later x (front ++ e ∷ back) e (front-there front back e)

turn-so : (node : Node) → FixesNext node.mail.wait (next_in node.course) → (was : List EnvelopeRecord) (input : Input) (turn : TurnRecord) (after : Node)
    (now : List EnvelopeRecord) → TurnBy node was input turn after now → TurnSo node was turn after
turn-so node fits was _ turn after now (alone o k is) =
    let it : Ran node turn after = ran node turn after o in
    record {
      message = None;
      done = of_effect node None it.effect turn after it.sent (run-does node fits it.effect it.rule);
      came = λ m e. absurd (none_some (Depart m) e);
    }
  where
    none_some : (m : Message) → None ≡ Some m → ⊥
    none_some m e = cc
turn-so node fits was _ _ _ now (again e is) = record {
  message = None;
  done = record {
    asks = λ w told. refl;
    letters = λ x m there says. absurd (none_Contains x there);
    inside = λ i. inl i;
    drops = inl (refl, λ d. absurd (none_deed d));
  };
  came = λ m e. absurd (none_some (Depart m) e);
}
  where
    none_some : (m : Message) → None ≡ Some m → ⊥
    none_some m e = cc

    none_deed : None ≡ Some Departs → ⊥
    none_deed e = cc
turn-so node fits was _ turn after now (anew e t k lost) =
    let so : Done_so (taking node e) (Some e.message) turn after =
    of_effect (taking node e) (Some e.message) t.effect turn after t.sent (take-does (taking node e) fits e.from e.message t.effect t.rule) in
    record {
      message = Some e.message;
      done = record { asks = so.asks; letters = so.letters; inside = so.inside; drops = so.drops };
      came = λ m is. (
        e,
        subst (λ es. Contains es e) (sym lost.before) (front-there lost.front lost.back e),
        same_Some e.message (Depart m) is,
        t.addressed.to_it,
      );
    }

module _ (program : Program) (nodes : ℕ) (options : OptionsRecord) where
  abbrev pub shape : Shape
  shape = shape_of nodes options.size options.collect

  abbrev pub now_of : World → List State → ℕ → State
  now_of world states n = state_before (exact_rule shape) world.acts states n (length world.acts)

  -- With the states of the acts: each node's state has dropped what the node collected; a pending Arrive, and an arrival that is kept, asks
  -- exactly where its node does; and a pending Depart, and who is in a collection, is told exactly whether the newest episode collects.
  pub record Collecting (world : World) : Type 0 where
    pub timely : Timely program nodes options world
    pub states : List State
    pub keeps : KeepsExact shape world.acts states
    pub dropped : (n : ℕ) (l : Logged) → slice_get world.nodes n ≡ Some l → (now_of world states n).dropped ≡ l.node.memory.collected
    pub sent : (e : EnvelopeRecord) (m : ArriveRecord) (l : Logged) → Contains (pending world) e → e.message ≡ Arrive m
        → slice_get world.nodes e.from ≡ Some l → m.ask ≡ asks_for_collection l.node
    pub kept : (n : ℕ) (a : Arrival) (l : Logged) → slice_index_or timely.stand.manager.arrivals n None ≡ Some a → slice_get world.nodes n ≡ Some l
        → a.ask ≡ asks_for_collection l.node
    pub told : (e : EnvelopeRecord) (m : DepartRecord) (l : Logged) → Contains (pending world) e → e.message ≡ Depart m
        → slice_get world.nodes e.to ≡ Some l → IsDecided shape world.acts states timely.stand.manager.done m.collect
    pub inside : (n : ℕ) (l : Logged) → slice_get world.nodes n ≡ Some l → in_collection l.node.mail.wait ≡ true
        → IsDecided shape world.acts states timely.stand.manager.done true

  -- a node that is inside the barrier has departed as often as episodes were over before the newest
  module _ (world : World) (r : IsReached program nodes options world) (s : AllStand program nodes options world) (n : ℕ) (l : Logged)
      (at : slice_get world.nodes n ≡ Some l) where
    pub departed-as : (number : ℕ) → s.manager.done ≡ number + 1 → is_inside l.node.mail.wait ≡ 1
        → count_by (arrive_from n) (pending world) + kept_of s.manager n ≡ 0 → departs_before world.acts n (length world.acts) ≡ number
    departed-as number over i none =
        let st : Standing_at program nodes options world n l = standing_at program nodes options world r n l at in
        let arrived = st.arrived in
        let departed = st.departed in
        let stands = (s.each n l at).arrived in
        omega arith

  module _ (world : World) (r : IsReached program nodes options world) (h : Collecting world) where
    pub times_are : world.times ≡ times_of h.states
    times_are =
        one_list nodes world.acts world.times (times_of h.states) (keeps_time program nodes options r.events world r.runs)
        (times-kept shape world.acts h.states h.keeps)

    -- a node whose arrival is on its way or kept
    module _ (n : ℕ) (l : Logged) (at : slice_get world.nodes n ≡ Some l) (g : Gate program nodes options world h.timely.stand n l) where
      st : Standing_at program nodes options world n l
      st = standing_at program nodes options world r n l at

      its_arrived : arrives_before world.acts n (length world.acts) ≡ h.timely.stand.manager.done + 1
      its_arrived =
          let arrived = st.arrived in
          let stands = (h.timely.stand.each n l at).arrived in
          let one = g.one in
          omega arith

      its_departed : departs_before world.acts n (length world.acts) ≡ h.timely.stand.manager.done
      its_departed =
          let departed = st.departed in
          let arrived = its_arrived in
          let i : is_inside l.node.mail.wait ≡ 1 = ap is_inside g.waits in
          omega arith

      there : IsThere shape world.acts h.states h.keeps (waits_so program nodes options r.events world r.runs) n h.timely.stand.manager.done its_arrived
          its_departed
      there =
          is_there shape world.acts h.states h.keeps (waits_so program nodes options r.events world r.runs) n h.timely.stand.manager.done its_arrived its_departed

      time_now : (now_of world h.states n).knows.time ≡ l.node.locks.time
      time_now =
          let count = there.count in
          let arrived = st.arrived in
          let all = its_arrived in
          sym (time-there h.states there.at (now_of world h.states n) there.stands)
          ∙ ap (λ times. time_at times there.at) (sym times_are)
          ∙ h.timely.had n l at g.waits there.at there.does (omega arith)

      its_place : Placed nodes n l.node
      its_place = placed program nodes options world r n l at

      same_options : l.node.options ≡ options
      same_options = (shape_at program nodes options r.events world n l r.runs at).options

      -- it asks where its state does, which is that at the arrive
      pub asks_state : asks_for_collection l.node ≡ (nat_le 1 options.collect && asks options.collect (Some (now_of world h.states n)))
      asks_state =
          asks_so l.node (now_of world h.states n) its_place.reached time_now (h.dropped n l at)
          ∙ ap (λ (o : OptionsRecord). nat_le 1 o.collect && asks o.collect (Some (now_of world h.states n))) same_options

      asks_now : asks_for_collection l.node
          ≡ (nat_le 1 options.collect
          && asks options.collect (arrived_state world.acts h.states h.timely.stand.manager.done (length world.acts) n))
      asks_now = asks_state ∙ ap (λ s. nat_le 1 options.collect && asks options.collect s) (sym there.found)

    -- the manager has all arrivals once this one has come
    module _ (me from : ℕ) (m : ArriveRecord) (b : Brought me from (Arrive m) (pending world)) (lt : from < nodes) (after : ManagerRecord)
        (departures : List Departure) (g : LetGo h.timely.stand.manager from (arrival_in m) after departures) where
      abbrev full : ManagerRecord
      full = with_arrival h.timely.stand.manager from (arrival_in m)

      abbrev arrived : ℕ → Option State
      arrived = arrived_state world.acts h.states h.timely.stand.manager.done (length world.acts)

      size : length full.arrivals ≡ nodes
      size = length-set h.timely.stand.manager.arrivals from (Some (arrival_in m)) ∙ h.timely.stand.places.arrivals

      ask_of : (k : ℕ) (a : Arrival) (l : Logged) → slice_index_or full.arrivals k None ≡ Some a → slice_get world.nodes k ≡ Some l
          → a.ask ≡ asks_for_collection l.node
      ask_of k a l e at = elim (get_set h.timely.stand.manager.arrivals from k (arrival_in m) a e) [
        | inl here ↦
            ap (λ (a : Arrival). a.ask) (sym here.1)
            ∙ h.sent b.envelope m l b.among b.message_is (subst (λ k. slice_get world.nodes k ≡ Some l) (sym (b.from_is ∙ here.0)) at)
        | inr there ↦ h.kept k a l there at
      ]

      ask_is : (k : ℕ) (a : Arrival) → k < nodes → slice_index_or full.arrivals k None ≡ Some a
          → a.ask ≡ (nat_le 1 options.collect && asks options.collect (arrived k))
      ask_is k a lt_k e =
          let l : (l : Logged) × (slice_get world.nodes k ≡ Some l) =
          get_within world.nodes k (subst (λ n. k < n) (sym h.timely.stand.count) lt_k) in
          ask_of k a l.0 e l.1
          ∙ asks_now k l.0 l.1
          (gate program nodes options world h.timely.stand k l.0 l.1 (all_in program nodes options world r h.timely me from m b lt after departures g k lt_k))

      pub decided : some_ask (arrivals_of full) ≡ collects shape arrived
      decided =
          same_bool (some_ask (arrivals_of full)) (collects shape arrived)
          (λ e.
          let (a, there, says_so) = some_ask-at (arrivals_of full) e in
          let (k, lt_k, at) = place_of full.arrivals a there in
          let within : k < nodes = subst (λ n. k < n) size lt_k in
          let parts = and_parts (nat_le 1 options.collect) (asks options.collect (arrived k)) (sym (ask_is k a within at) ∙ says_so) in
          and_from (nat_le 1 options.collect) (some_asks nodes options.collect arrived) parts.0
          (some_asks-by nodes options.collect k arrived within parts.1))
          (λ e.
          let parts = and_parts (nat_le 1 options.collect) (some_asks nodes options.collect arrived) e in
          let (k, within, says_so) = some_asks-at nodes options.collect arrived parts.1 in
          let place : InPlace full.arrivals k = in_place full.arrivals k g.all (subst (λ n. k < n) (sym size) within) in
          some_ask-by (arrivals_of full) place.arrival place.among
          (ask_is k place.arrival within place.at ∙ and_from (nat_le 1 options.collect) (asks options.collect (arrived k)) parts.0 says_so))

  -- ---- the world after a turn

  module _ (world : World) (flight : List Flying) (n : ℕ) (l after : Logged) (input : Input) (entry : EntryRecord)
      (at : slice_get world.nodes n ≡ Some l) (come : Comes world n input flight) (i : IsEntry l input entry after)
      (r : IsReached program nodes options world) (r' : IsReached program nodes options (with_turn world flight n entry after))
      (h : Collecting world) where
    abbrev next : World
    next = with_turn world flight n entry after

    timely : Timely program nodes options next
    timely = all_timely program nodes options r'.events next r'.runs

    rel : unwrap_or after.node.barrier.manager h.timely.stand.manager ≡ timely.stand.manager
    rel = manager_after program nodes options world next h.timely.stand timely.stand n l after at refl

    p : Placed nodes n l.node
    p = placed program nodes options world r n l at

    mv : Moves l.node (pending world) (pending next) nodes entry.turn after.node
    mv =
        let t : Turned l.node entry.turn after.node = subst (Turns l.node) i.turn_is (turns l.node input) in
        moves l.node (pending world) (pending next) nodes entry.turn after.node p.count t.setting
        (stepped program nodes options world flight n l after input entry at come i r)

    is : (x : ManagerRecord) → l.node.barrier.manager ≡ Some x → x ≡ h.timely.stand.manager
    is = its_manager program nodes options world h.timely.stand n l at

    made_now : Made world n (deed_made entry.turn) after.node.locks.time next
    made_now = made_so program nodes options world flight n l after input entry at i r

    so : TurnSo l.node (pending world) entry.turn after.node
    so =
        turn-so l.node (known_at l.node p.reached).fits (pending world) input entry.turn after.node (pending next)
        (turn_at program nodes options world flight n l after input entry at come i r)

    -- a Depart that the node takes was for it
    record IsTold (m : DepartRecord) : Type 0 where
      envelope : EnvelopeRecord
      among : Contains (pending world) envelope
      message_is : envelope.message ≡ Depart m
      to : envelope.to ≡ n

    told_it : (m : DepartRecord) → so.message ≡ Some (Depart m) → IsTold m
    told_it m e = let c = so.came m e in record { envelope = c.0; among = c.1; message_is = c.2; to = c.3 ∙ p.me }

    told_nothing : Gate program nodes options world h.timely.stand n l → (m : DepartRecord) → so.message ≡ Some (Depart m) → ⊥
    told_nothing g m e =
        let t : IsTold m = told_it m e in
        let some : 1 ≤ count_by (depart_to t.envelope.to) (pending world) = is_told program nodes options world t.envelope m t.among t.message_is in
        let one : 1 ≤ count_by (depart_to n) (pending world) = subst (λ k. 1 ≤ count_by (depart_to k) (pending world)) t.to some in
        let none = g.none in
        omega arith

    -- ---- who asks

    -- a node after the turn is one before it; while its arrival is on its way or kept it goes on to ask, or not to
    record Before (m : ℕ) (lm : Logged) : Type 0 where
      had : Logged
      was : slice_get world.nodes m ≡ Some had
      asks : 1 ≤ count_by (arrive_from m) (pending world) + kept_of h.timely.stand.manager m
          → asks_for_collection lm.node ≡ asks_for_collection had.node
      is_own : ((n ≡ m) × (after ≡ lm)) ⊎ ((n ≡ m → ⊥) × (had ≡ lm))

    before : (m : ℕ) (lm : Logged) → slice_get next.nodes m ≡ Some lm → Before m lm
    before m lm there = elim (cases_eq n m) [
      | inl e ↦
          let same : after ≡ lm = same_Some after lm (sym (get_set_same world.nodes n l after at) ∙ ap (slice_get (slice_set world.nodes n after)) e ∙ there) in
          record {
            had = l;
            was = subst (λ k. slice_get world.nodes k ≡ Some l) e at;
            asks = λ some.
                let g : Gate program nodes options world h.timely.stand n l =
                gate program nodes options world h.timely.stand n l at
                (subst (λ k. 1 ≤ count_by (arrive_from k) (pending world) + kept_of h.timely.stand.manager k) (sym e) some) in
                ap (λ (x : Logged). asks_for_collection x.node) (sym same) ∙ so.done.asks g.waits (told_nothing g);
            is_own = inl (e, same);
          }
      | inr ne ↦ record {
        had = lm;
        was = sym (get_set_other world.nodes n m after ne) ∙ there;
        asks = λ some. refl;
        is_own = inr (ne, refl);
      }
    ]

    sent-kept : (e : EnvelopeRecord) (m : ArriveRecord) (lm : Logged) → Contains (pending next) e → e.message ≡ Arrive m
        → slice_get next.nodes e.from ≡ Some lm → m.ask ≡ asks_for_collection lm.node
    sent-kept e m lm there says at_from = elim (in-now mv.o (pending world) entry.turn.out (pending next) e mv.goes there) [
      | inl was_there ↦
          let b : Before e.from lm = before e.from lm at_from in
          h.sent e m b.had was_there says b.was ∙ sym (b.asks (is_sent program nodes options world h.timely.stand e m was_there says))
      | inr new ↦
          let from_is : e.from ≡ n = sent_from l.node.setting.me entry.turn.out e mv.from new ∙ p.me in
          let same : after ≡ lm =
          same_Some after lm (sym (get_set_same world.nodes n l after at) ∙ ap (slice_get next.nodes) (sym from_is) ∙ at_from) in
          so.done.letters e m new says ∙ ap (λ (x : Logged). asks_for_collection x.node) same
    ]

    kept-kept : (m : ℕ) (a : Arrival) (lm : Logged) → slice_index_or timely.stand.manager.arrivals m None ≡ Some a → slice_get next.nodes m ≡ Some lm
        → a.ask ≡ asks_for_collection lm.node
    kept-kept m a lm there at_m =
        let b : Before m lm = before m lm at_m in
        elim (kept_before (site_of l.node) h.timely.stand.manager is mv.came mv.acts after.node.mail.wait after.node.locks after.node.barrier mv.letters
        mv.passes m a (ap (λ (x : ManagerRecord). slice_index_or x.arrivals m None) rel ∙ there)) [
          | inl was_there ↦ h.kept m a b.had was_there b.was ∙ sym (b.asks (is_kept program nodes options world h.timely.stand m a was_there))
          | inr new ↦
              let c : Brought l.node.setting.me m (Arrive new.0) (pending world) =
              brought l.node.setting.me m (Arrive new.0) mv.came mv.o (pending world) entry.turn.out (pending next) new.1 mv.brings mv.goes in
              ap (λ (a : Arrival). a.ask) new.2
              ∙ h.sent c.envelope new.0 b.had c.among c.message_is (ap (slice_get world.nodes) c.from_is ∙ b.was)
              ∙ sym (b.asks (subst (λ k. 1 ≤ count_by (arrive_from k) (pending world) + kept_of h.timely.stand.manager k) c.from_is
              (is_sent program nodes options world h.timely.stand c.envelope new.0 c.among c.message_is)))
        ]

    -- ---- the states

    abbrev then_state : Deed → State
    then_state d = state_after (exact_rule shape) world.acts h.states (length world.acts) n d

    abbrev states : List State
    states = h.states ++ more_states then_state made_now.deed

    keeps_by : (o : Option Deed) → KeepsExact shape (world.acts ++ more_acts n o) (h.states ++ more_states then_state o)
    keeps_by None =
        subst (λ acts. KeepsExact shape acts (h.states ++ [])) (sym (append-nil world.acts))
        (subst (KeepsExact shape world.acts) (sym (append-nil h.states)) h.keeps)
    keeps_by (Some d) = keeps-more (exact_rule shape) nodes world.acts h.states (act_of n d) (then_state d) h.keeps p.within refl

    keeps_now : KeepsExact shape next.acts states
    keeps_now = subst (λ acts. KeepsExact shape acts states) (sym made_now.acts_are) (keeps_by made_now.deed)

    -- ---- whether a barrier collects

    arrived_stays : (number : ℕ) → (made_now.deed ≡ Some Arrives → arrives_before world.acts n (length world.acts) ≡ number → ⊥)
        → arrived_state next.acts states number (length next.acts) ≡ arrived_state world.acts h.states number (length world.acts)
    arrived_stays number none =
        ap (λ acts. arrived_state acts states number (length acts)) made_now.acts_are
        ∙ arrived-stays world.acts h.states h.keeps.stated n number then_state made_now.deed none

    -- what is decided of the newest episode stays so while the episode goes on
    decided_stays : GoesOn (site_of l.node) h.timely.stand.manager is after.node.barrier mv.letters → (b : Bool)
        → IsDecided shape world.acts h.states h.timely.stand.manager.done b → IsDecided shape next.acts states timely.stand.manager.done b
    decided_stays g b k =
        let over : timely.stand.manager.done ≡ h.timely.stand.manager.done = ap (λ (x : ManagerRecord). x.done) (sym rel) ∙ g.over in
        let newest : h.timely.stand.manager.done ≡ k.number + 1 = k.newest in
        let arrived : arrives_before world.acts n (length world.acts) ≡ l.node.barrier.episode = (standing_at program nodes options world r n l at).arrived in
        let episode = (h.timely.stand.each n l at).arrived in
        record {
          number = k.number;
          newest = over ∙ newest;
          decides = k.decides ∙ ap (collects shape) (sym (arrived_stays k.number (λ made_it same. omega arith)));
        }

    -- the last arrival has come
    module _ (c : LetsAll (site_of l.node) h.timely.stand.manager is mv.came mv.acts after.node.mail.wait after.node.locks after.node.barrier mv.letters) where
      came_from : Brought l.node.setting.me c.from (Arrive c.arrive) (pending world)
      came_from =
          brought l.node.setting.me c.from (Arrive c.arrive) mv.came mv.o (pending world) entry.turn.out (pending next) c.came_is mv.brings mv.goes

      from_node : c.from < nodes
      from_node = subst (IsFromNode nodes) c.came_is mv.sender

      gate_of : (k : ℕ) (x : Logged) → slice_get world.nodes k ≡ Some x → Gate program nodes options world h.timely.stand k x
      gate_of k x at_k =
          gate program nodes options world h.timely.stand k x at_k
          (all_in program nodes options world r h.timely l.node.setting.me c.from c.arrive came_from from_node c.after c.departures c.lets k
          (subst (λ n. k < n) h.timely.stand.count (slice_get_within world.nodes k x at_k)))

      -- the node whose turn it is makes no act
      no_deed : made_now.deed ≡ None
      no_deed =
          let rested : Rested l.node.course (deed_made entry.turn) after.node.course =
          subst (λ b. Moved b l.node.course (deed_made entry.turn) after.node.course) c.acts_is mv.moved in
          sym made_now.deed_is ∙ rested.deed_is

      told-new : (e : EnvelopeRecord) (m : DepartRecord) (lm : Logged) → Contains (pending next) e → e.message ≡ Depart m
          → slice_get next.nodes e.to ≡ Some lm → IsDecided shape next.acts states timely.stand.manager.done m.collect
      told-new e m lm there says at_to = elim (in-now mv.o (pending world) entry.turn.out (pending next) e mv.goes there) [
        | inl was_there ↦
            let b : Before e.to lm = before e.to lm at_to in
            let some : 1 ≤ count_by (depart_to e.to) (pending world) = is_told program nodes options world e m was_there says in
            let none : count_by (depart_to e.to) (pending world) ≡ 0 = (gate_of e.to b.had b.was).none in
            absurd (omega arith)
        | inr new ↦ record {
          number = h.timely.stand.manager.done;
          newest = ap (λ (x : ManagerRecord). x.done) (sym rel ∙ ap (λ o. unwrap_or o h.timely.stand.manager) c.manager_is ∙ c.lets.after_is);
          decides =
              departure_collect (arrivals_of (with_arrival h.timely.stand.manager c.from (arrival_in c.arrive))) 0
              (arrivals_of (with_arrival h.timely.stand.manager c.from (arrival_in c.arrive))) (letter_in e) m
              (subst (λ ds. Contains (map departure_of ds) (letter_in e)) c.lets.told
              (subst (λ ls. Contains ls (letter_in e)) (mv.out ∙ c.letters_is) (among_letters entry.turn.out e new))) says
              ∙ decided world r h l.node.setting.me c.from c.arrive came_from from_node c.after c.departures c.lets
              ∙ ap (collects shape) (sym (arrived_stays h.timely.stand.manager.done (λ made_it same. some_none (sym made_it ∙ no_deed))));
        }
      ]
        where
          some_none : Some Arrives ≡ None → ⊥
          some_none e = cc

      inside-new : (m : ℕ) (lm : Logged) → slice_get next.nodes m ≡ Some lm → in_collection lm.node.mail.wait ≡ true → ⊥
      inside-new m lm at_m inside =
          let b : Before m lm = before m lm at_m in
          let wait_is : lm.node.mail.wait ≡ b.had.node.mail.wait = elim b.is_own [
            | inl own ↦
                let had_is : l ≡ b.had = same_Some l b.had (sym at ∙ ap (slice_get world.nodes) own.0 ∙ b.was) in
                ap (λ (x : Logged). x.node.mail.wait) (sym own.1) ∙ c.wait_is ∙ ap (λ (x : Logged). x.node.mail.wait) had_is
            | inr other ↦ ap (λ (x : Logged). x.node.mail.wait) (sym other.1)
          ] in
          false≢true (sym (ap in_collection (wait_is ∙ (gate_of m b.had b.was).waits)) ∙ inside)

    told-kept : (e : EnvelopeRecord) (m : DepartRecord) (lm : Logged) → Contains (pending next) e → e.message ≡ Depart m
        → slice_get next.nodes e.to ≡ Some lm → IsDecided shape next.acts states timely.stand.manager.done m.collect
    told-kept e m lm there says at_to =
        elim (lets_or_not (site_of l.node) h.timely.stand.manager is mv.came mv.acts after.node.mail.wait after.node.locks after.node.barrier
        mv.letters mv.passes) [
          | inl c ↦ told-new c e m lm there says at_to
          | inr g ↦ elim (in-now mv.o (pending world) entry.turn.out (pending next) e mv.goes there) [
            | inl was_there ↦
                let b : Before e.to lm = before e.to lm at_to in
                decided_stays g m.collect (h.told e m b.had was_there says b.was)
            | inr new ↦
                absurd (false≢true (sym (g.no_departs (letter_in e)
                (subst (λ ls. Contains ls (letter_in e)) mv.out (among_letters entry.turn.out e new))) ∙ ap says_depart says))
          ]
        ]

    inside-kept : (m : ℕ) (lm : Logged) → slice_get next.nodes m ≡ Some lm → in_collection lm.node.mail.wait ≡ true
        → IsDecided shape next.acts states timely.stand.manager.done true
    inside-kept m lm at_m inside =
        elim (lets_or_not (site_of l.node) h.timely.stand.manager is mv.came mv.acts after.node.mail.wait after.node.locks after.node.barrier
        mv.letters mv.passes) [
          | inl c ↦ absurd (inside-new c m lm at_m inside)
          | inr g ↦
              let b : Before m lm = before m lm at_m in
              elim b.is_own [
                | inl own ↦ elim (so.done.inside (ap (λ (x : Logged). in_collection x.node.mail.wait) own.1 ∙ inside)) [
                  | inl was_inside ↦ decided_stays g true (h.inside n l at was_inside)
                  | inr told ↦
                      let t : IsTold told.0 = told_it told.0 told.1 in
                      decided_stays g true
                      (subst (IsDecided shape world.acts h.states h.timely.stand.manager.done) told.2
                      (h.told t.envelope told.0 l t.among t.message_is (subst (λ k. slice_get world.nodes k ≡ Some l) (sym t.to) at)))
                ]
                | inr other ↦
                    decided_stays g true (h.inside m b.had b.was (ap (λ (x : Logged). in_collection x.node.mail.wait) other.1 ∙ inside))
              ]
        ]

    -- ---- what is dropped

    abbrev now_had : State
    now_had = now_of world h.states n

    abbrev arrived_with : ℕ → Option State
    arrived_with = arrived_state world.acts h.states (departs_before world.acts n (length world.acts)) (length world.acts)

    -- of the node's own barrier it is decided
    own_decided : (b : Bool) (k : IsDecided shape world.acts h.states h.timely.stand.manager.done b) → is_inside l.node.mail.wait ≡ 1
        → count_by (arrive_from n) (pending world) + kept_of h.timely.stand.manager n ≡ 0
        → (collects shape arrived_with ≡ b) × (departs_before world.acts n (length world.acts) ≡ k.number)
    own_decided b k inside none =
        let number : departs_before world.acts n (length world.acts) ≡ k.number =
        departed-as world r h.timely.stand n l at k.number k.newest inside none in (
          ap (λ number. collects shape (arrived_state world.acts h.states number (length world.acts))) number ∙ sym k.decides,
          number,
        )

    is_departing_deed : (d : Deed) → (d ≡ Departs) ⊎ (d ≡ Departs → ⊥)
    is_departing_deed Departs = inl refl
    is_departing_deed d = inr (λ e. cc)

    abbrev Dropped : Deed → Type 0
    Dropped d = (then_state d).dropped ≡ after.node.memory.collected

    -- an act that is made where nothing is dropped
    keeping : after.node.memory.collected ≡ l.node.memory.collected
        → (deed_made entry.turn ≡ Some Departs → (m : DepartRecord) × (so.message ≡ Some (Depart m)) × (m.collect ≡ false))
        → (d : Deed) → deed_made entry.turn ≡ Some d → Dropped d
    keeping same told d made_is = elim (is_departing_deed d) [
      | inr other ↦ drops_none shape world.acts h.states (length world.acts) n d other ∙ h.dropped n l at ∙ sym same
      | inl departs ↦
          let it = told (made_is ∙ ap (λ (d : Deed). Some d) departs) in
          let t : IsTold it.0 = told_it it.0 it.1 in
          let here : slice_get world.nodes t.envelope.to ≡ Some l = subst (λ k. slice_get world.nodes k ≡ Some l) (sym t.to) at in
          let k : IsDecided shape world.acts h.states h.timely.stand.manager.done it.0.collect = h.told t.envelope it.0 l t.among t.message_is here in
          let one : 1 ≤ count_by (depart_to n) (pending world) =
          subst (λ k. 1 ≤ count_by (depart_to k) (pending world)) t.to (is_told program nodes options world t.envelope it.0 t.among t.message_is) in
          let stands = (h.timely.stand.each n l at).departs in
          let waiting : l.node.mail.wait ≡ departure = waits_for_departure l.node.mail.wait (omega arith) in
          let most = at_most_one l.node.mail.wait in
          let so_decided = own_decided it.0.collect k (ap is_inside waiting) (omega arith) in
          subst Dropped (sym departs)
          (departs_keeping shape now_had arrived_with (so_decided.0 ∙ it.2) ∙ h.dropped n l at ∙ sym same)
    ]

    -- one with which what was collected is dropped
    leaving : (collection : Collection) → l.node.mail.wait ≡ discard collection → after.node.memory.collected ≡ collection.time
        → (d : Deed) → d ≡ Departs → Dropped d
    leaving collection waiting same d departs =
        let k : IsDecided shape world.acts h.states h.timely.stand.manager.done true = h.inside n l at (ap in_collection waiting) in
        let t : IsNewestTime nodes world.acts world.times h.timely.stand.manager.done collection.time =
        h.timely.learned n l collection.time at (ap time_in waiting) in
        let st : Standing_at program nodes options world n l = standing_at program nodes options world r n l at in
        let gated = (h.timely.stand.each n l at).departs in
        let none : awaits_depart l.node.mail.wait ≡ 0 = ap awaits_depart waiting in
        let so_decided = own_decided true k (ap is_inside waiting) (omega arith) in
        let newest = t.newest in
        let newest' = k.newest in
        let number' = so_decided.1 in
        let number : t.number ≡ departs_before world.acts n (length world.acts) = omega arith in
        subst Dropped (sym departs)
        (departs_dropping shape now_had arrived_with so_decided.0
        ∙ sym (meeting-is shape world.acts h.states h.keeps (departs_before world.acts n (length world.acts)) (length world.acts) (omega arith))
        ∙ ap (λ number. arrived_time nodes world.acts (times_of h.states) number (length world.acts)) (sym number)
        ∙ ap (λ times. arrived_time nodes world.acts times t.number (length world.acts)) (sym (times_are world r h))
        ∙ sym t.joins ∙ sym same)

    dropped_own : (d : Deed) → deed_made entry.turn ≡ Some d → Dropped d
    dropped_own d made_is = elim so.done.drops [
      | inl kept ↦ keeping kept.0 kept.1 d made_is
      | inr gone ↦ leaving gone.0 gone.1 gone.2 d (same_Some d Departs (sym made_is ∙ gone.3))
    ]

    -- where it makes no act
    dropped_still : deed_made entry.turn ≡ None → now_had.dropped ≡ after.node.memory.collected
    dropped_still none = elim so.done.drops [
      | inl kept ↦ h.dropped n l at ∙ sym kept.0
      | inr gone ↦ absurd (none_some (sym none ∙ gone.3))
    ]
      where
        none_some : None ≡ Some Departs → ⊥
        none_some e = cc

    abbrev state_in : Option Deed → ℕ → State
    state_in o q =
        state_before (exact_rule shape) (world.acts ++ more_acts n o) (h.states ++ more_states then_state o) q (length (world.acts ++ more_acts n o))

    -- where no act is made all have the states that they had
    none_more : (q : ℕ) → state_in None q ≡ now_of world h.states q
    none_more q =
        ap (λ acts. state_before (exact_rule shape) acts (h.states ++ []) q (length acts)) (append-nil world.acts)
        ∙ ap (λ states. state_before (exact_rule shape) world.acts states q (length world.acts)) (append-nil h.states)

    module _ (d : Deed) where
      abbrev acts' : List Act
      acts' = world.acts ++ act_of n d ∷ []

      abbrev states' : List State
      states' = h.states ++ then_state d ∷ []

      kept' : KeepsExact shape acts' states'
      kept' = keeps_by (Some d)

      last_is : length acts' ≡ length world.acts + 1
      last_is = length_push world.acts (act_of n d)

      own_more : state_in (Some d) n ≡ then_state d
      own_more =
          ap (λ k. state_before (exact_rule shape) acts' states' n k) last_is
          ∙ next-own shape acts' states' kept' (length world.acts) n d (Does-last world.acts (act_of n d))
          ∙ after-same (exact_rule shape) acts' world.acts states' h.states (length world.acts)
          (prefix-alike world.acts (act_of n d ∷ []) h.states (then_state d ∷ []) h.keeps.stated (length world.acts) (omega arith)) n d

      other_more : (q : ℕ) → (n ≡ q → ⊥) → state_in (Some d) q ≡ now_of world h.states q
      other_more q ne =
          ap (λ k. state_before (exact_rule shape) acts' states' q k) last_is
          ∙ next-other shape acts' states' kept' (length world.acts) q n d (Does-last world.acts (act_of n d)) ne
          ∙ before-same (exact_rule shape) acts' world.acts states' h.states (length world.acts)
          (prefix-alike world.acts (act_of n d ∷ []) h.states (then_state d ∷ []) h.keeps.stated (length world.acts) (omega arith)) q

    own_dropped : (o : Option Deed) → deed_made entry.turn ≡ o → (state_in o n).dropped ≡ after.node.memory.collected
    own_dropped None e = ap (λ (s : State). s.dropped) (none_more n) ∙ dropped_still e
    own_dropped (Some d) e = ap (λ (s : State). s.dropped) (own_more d) ∙ dropped_own d e

    other_dropped : (o : Option Deed) (q : ℕ) (lq : Logged) → (n ≡ q → ⊥) → slice_get world.nodes q ≡ Some lq
        → (state_in o q).dropped ≡ lq.node.memory.collected
    other_dropped None q lq ne at_q = ap (λ (s : State). s.dropped) (none_more q) ∙ h.dropped q lq at_q
    other_dropped (Some d) q lq ne at_q = ap (λ (s : State). s.dropped) (other_more d q ne) ∙ h.dropped q lq at_q

    dropped_by : (q : ℕ) (lq : Logged) → slice_get next.nodes q ≡ Some lq → (state_in made_now.deed q).dropped ≡ lq.node.memory.collected
    dropped_by q lq at_q = elim (cases_eq n q) [
      | inl e ↦
          let same : after ≡ lq = same_Some after lq (sym (get_set_same world.nodes n l after at) ∙ ap (slice_get (slice_set world.nodes n after)) e ∙ at_q) in
          subst (λ k. (state_in made_now.deed k).dropped ≡ lq.node.memory.collected) e
          (own_dropped made_now.deed made_now.deed_is ∙ ap (λ (x : Logged). x.node.memory.collected) same)
      | inr ne ↦ other_dropped made_now.deed q lq ne (sym (get_set_other world.nodes n q after ne) ∙ at_q)
    ]

    dropped-kept : (q : ℕ) (lq : Logged) → slice_get next.nodes q ≡ Some lq → (now_of next states q).dropped ≡ lq.node.memory.collected
    dropped-kept q lq at_q =
        ap (λ acts. (state_before (exact_rule shape) acts states q (length acts)).dropped) made_now.acts_are ∙ dropped_by q lq at_q

    next_collecting : Collecting next
    next_collecting = record {
      timely = timely;
      states = states;
      keeps = keeps_now;
      dropped = dropped-kept;
      sent = sent-kept;
      kept = kept-kept;
      told = told-kept;
      inside = inside-kept;
    }

  collecting-kept : KeptByReached program nodes options Collecting
  collecting-kept world flight n l after input entry at come i r r' h = next_collecting world flight n l after input entry at come i r r' h

  collecting-fresh : Collecting (fresh_world program nodes options)
  collecting-fresh =
      let timely : Timely program nodes options (fresh_world program nodes options) =
      all_timely program nodes options [] (fresh_world program nodes options) refl in
      record {
        timely = timely;
        states = [];
        keeps = keeps-none (exact_rule shape) nodes;
        dropped = λ n l at. ap (λ (x : Logged). x.node.memory.collected) (sym (fresh_at program nodes options 0 nodes n l at));
        sent = λ e m l there. absurd (none_Contains e there);
        kept = λ n a l there at.
            let g : Gate program nodes options (fresh_world program nodes options) timely.stand n l =
            gate program nodes options (fresh_world program nodes options) timely.stand n l at
            (is_kept program nodes options (fresh_world program nodes options) timely.stand n a there) in
            absurd (not_departure (sym (fresh_wait n l at) ∙ g.waits));
        told = λ e m l there. absurd (none_Contains e there);
        inside = λ n l at inside. absurd (false≢true (sym (ap in_collection (fresh_wait n l at)) ∙ inside));
      }
    where
      fresh_wait : (n : ℕ) (l : Logged) → slice_get (fresh_world program nodes options).nodes n ≡ Some l → l.node.mail.wait ≡ nothing
      fresh_wait n l at = ap (λ (x : Logged). x.node.mail.wait) (fresh_at program nodes options 0 nodes n l at)

      not_departure : nothing ≡ departure → ⊥
      not_departure e = cc

  pub all_collecting : (events : List Event) (world : World) → run_of program nodes options events ≡ Some world → Collecting world
  all_collecting events world e = by_reached program nodes options Collecting collecting-kept events world collecting-fresh e
