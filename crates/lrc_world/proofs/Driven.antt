-- A run that is led from event to event.
use Rattle.std.proofs.Common.{◌≡◌, ◌∙◌, ℕ, zero, suc, ◌+◌, ◌-◌, ◌<◌, ◌≤◌, arith, List, [], ◌∷◌, ◌++◌, Bool, true, false, ◌||◌, Option, inl, inr}
use Rattle.std.proofs.Common.{Some, Result, Ok, Err, IsErrAnd, OnOk, refl, sym, ap, subst, length, below_more, ⊎_elim, ◌⊎◌, append-nil}
use Rattle.std.specs.Prelude.{slice_get}
use Rattle.std.specs.List.{list_any}
use Rattle.std.specs.Option.{option_map_or}
use Rattle.std.proofs.lemmas.List.{length_push}
use Rattle.std.proofs.lemmas.List.Sums.{fold-append}
use Rattle.lrc_envelope.specs.declared.picker.Picker.{Picker}
use Rattle.lrc_protocol.specs.declared.event.Event.{Event}
use Rattle.lrc_protocol.specs.declared.event.Event.TheVariants as events
use Rattle.lrc_protocol.specs.Turn.{is_ready}
use Rattle.lrc_protocol.specs.Run.{Logged, World as Run, step_of, played}
use Rattle.lrc_world.specs.declared.report.TurnFault.{TurnFault}
use Rattle.lrc_world.specs.declared.report.TurnFault.TheVariants.{Worn, NoMemory}
use Rattle.lrc_world.specs.declared.report.TheConstants.{MOST_EVENTS}
use Rattle.lrc_world.specs.declared.rounds.Driver.{Driver}
use Rattle.lrc_world.specs.declared.turned.Turned.{Turned}
use Rattle.lrc_world.specs.declared.world.World.{World}
use Rattle.lrc_world.specs.Driven.{DriverStandsAt, IsDrivenOn, DrivesTo, IsStill, IsAsleep, NoneReady, IsRunOver, PlaysOne, IsFull}
use Rattle.lrc_world.specs.Led.{Schedule, Led, begins, plays, passes, WearsOut}
use Rattle.lrc_world.specs.Report.{IsOver, IsWornFrom}
use Rattle.lrc_world.specs.Rounds.{schedule_of_rounds, at_node, delivering, IsDue, turn, delivery, asleep, all_went, all_delivered, ready_at, delivery_of}
use Rattle.lrc_world.specs.Turned.{when_all, turned_from}
use Rattle.lrc_world.specs.World.{Starts, Shows, seen_flying, seen_sent}
use Rattle.lrc_world.proofs.Noted.{kept_none, noted_more}
use Rattle.lrc_world.proofs.Lists.{same_length}

-- ---- from one moment to another

module _ (s : Schedule) where
  pub goes-nowhere : (at : s.Standing) (d : Driver) → IsDrivenOn s at at d d
  goes-nowhere at d = record { drives = λ starts start earlier h. h; few = λ h. h; more = omega arith }

  pub goes-twice : (from mid to : s.Standing) (a b c : Driver) → IsDrivenOn s from mid a b → IsDrivenOn s mid to b c → IsDrivenOn s from to a c
  goes-twice from mid to a b c g h = record {
    drives = λ starts start earlier d. h.drives starts start earlier (g.drives starts start earlier d);
    few = λ few. h.few (g.few few);
    more = omega (arith, g.more, h.more);
  }

  pub goes-after : (from mid to : s.Standing) (a b c : Driver) (result : Result (Unit {0}) TurnFault) → IsDrivenOn s from mid a b → DrivesTo s mid to b c result
      → DrivesTo s from to a c result
  goes-after from mid to a b c (Ok u) g h = goes-twice from mid to a b c g h
  goes-after from mid to a b c (Err Worn) g h = λ starts start earlier d. h starts start earlier (g.drives starts start earlier d)
  goes-after from mid to a b c (Err NoMemory) g h = tt

  -- it may end elsewhere where it comes to a fault
  other_end : (from to end : s.Standing) (a b : Driver) (fault : TurnFault) → DrivesTo s from to a b (Err fault) → DrivesTo s from end a b (Err fault)
  other_end from to end a b Worn h = h
  other_end from to end a b NoMemory h = h

  -- a fault that is handed on is one met before
  pub fails-after : (from mid to end : s.Standing) (a b c : Driver) (fault : TurnFault) (result : Result (Unit {0}) TurnFault)
      → IsErrAnd result (λ f. f ≡ fault) → IsDrivenOn s from mid a b → DrivesTo s mid to b c (Err fault) → DrivesTo s from end a c result
  fails-after from mid to end a b c fault (Ok u) is g h = absurd is
  fails-after from mid to end a b c fault (Err f) is g h =
      goes-after from mid end a b c (Err f) g
      (subst (λ x. DrivesTo s mid end b c (Err x)) (sym is) (other_end mid to end b c fault h))

  -- before any event
  pub at_start : (starts : Starts) (start : Run) (earlier : List Turned) (d : Driver) (world : World) → Shows starts world start
      → world.turned.items ≡ earlier → d.world ≡ world → d.events.items ≡ [] → DriverStandsAt s starts start earlier s.first d
  at_start starts start earlier d world shows turned is none = record {
    run = start;
    standing = s.first;
    led = subst (λ events. Led s start events start s.first) (sym none) begins;
    shows = subst (λ w. Shows starts w start) (sym is) shows;
    turned = ap (λ (w : World). w.turned.items) is ∙ turned ∙ sym (append-nil earlier)
        ∙ ap (λ ts. earlier ++ ts) (sym (kept_none starts.keep)
        ∙ ap (λ events. when_all starts.keep (turned_from (Some start) events)) (sym none));
    here = inl refl;
  }

  -- events that are led so are played
  pub led_played : (start : Run) (events : List Event) (run : Run) (at : s.Standing) → Led s start events run at → played start events ≡ Some run
  led_played start [] run at begins = refl
  led_played start events run at (plays {events = before} {event = event} led due next) =
      fold-append step_of (Some start) before (event ∷ [])
      ∙ ap (λ w. step_of w event) (led_played start before _ _ led)
      ∙ next
  led_played start events run at (passes led on) = led_played start events run _ led

  -- a run that wears out so does by no more than 100,000,000 events
  pub worn_by : (start : Run) → WearsOut s start → (events : List Event) × (length events ≤ 100000000) × IsWornFrom start events
  worn_by start w = (
    w.before ++ w.event ∷ [],
    omega (arith, w.early, length_push w.before w.event),
    record {
      before = w.before;
      event = w.event;
      after = [];
      run = w.run;
      split = refl;
      plays = led_played start w.before w.run w.at w.led;
      wears = w.wears;
    },
  )

  -- a stage that passes without an event
  pub passes_on : (from to : s.Standing) (d : Driver)
      → ((starts : Starts) (run : Run) → Shows starts d.world run → s.Passes run from to) → IsDrivenOn s from to d d
  passes_on from to d pass = record {
    drives = λ starts start earlier d1.
        ⊎_elim
        (λ (here : d1.standing ≡ from).
        let passed : DriverStandsAt s starts start earlier to d = record {
          run = d1.run;
          standing = to;
          led = passes d1.led (subst (λ x. s.Passes d1.run x to) (sym here) (pass starts d1.run d1.shows));
          shows = d1.shows;
          turned = d1.turned;
          here = inl refl;
        } in passed)
        (λ (full : MOST_EVENTS ≤ length d.events.items).
        let rests : DriverStandsAt s starts start earlier to d = record {
          run = d1.run;
          standing = d1.standing;
          led = d1.led;
          shows = d1.shows;
          turned = d1.turned;
          here = inr full;
        } in rests)
        d1.here;
    few = λ few. few;
    more = omega arith;
  }

  -- ---- one event more

  module _ (from to : s.Standing) (old new : Driver) (event : Event)
      (due : (starts : Starts) (run : Run) → Shows starts old.world run → s.Due run from event to) where
    stands : (starts : Starts) (start : Run) (earlier : List Turned) (d : DriverStandsAt s starts start earlier from old) → length old.events.items < MOST_EVENTS → d.standing ≡ from
    stands starts start earlier d room =
        ⊎_elim (λ (here : d.standing ≡ from). here) (λ (full : MOST_EVENTS ≤ length old.events.items). absurd (omega (arith, full, room))) d.here

    led_here : (starts : Starts) (start : Run) (earlier : List Turned) (d : DriverStandsAt s starts start earlier from old) → length old.events.items < MOST_EVENTS
        → Led s start old.events.items d.run from
    led_here starts start earlier d room = subst (Led s start old.events.items d.run) (stands starts start earlier d room) d.led

    plays_ok : (u : Unit {0}) → PlaysOne old new event (Ok u) → IsDrivenOn s from to old new
    plays_ok u p = record {
      drives = λ starts start earlier d.
          let next = p.plays starts d.run d.shows in
          record {
            run = next.0;
            standing = to;
            led = subst (λ events. Led s start events next.0 to) (sym p.events)
                (plays (led_here starts start earlier d p.room) (due starts d.run d.shows) next.1);
            shows = next.2;
            turned = noted_more starts start d.run earlier old.events.items event old.world new.world d.shows
                (led_played start old.events.items d.run d.standing d.led) d.turned (p.turned starts d.run d.shows)
                ∙ ap (λ events. earlier ++ when_all starts.keep (turned_from (Some start) events)) (sym p.events);
            here = inl refl;
          };
      few = λ few. let long = ap length p.events ∙ length_push old.events.items event in omega (arith, p.room, long);
      more = let long = ap length p.events ∙ length_push old.events.items event in omega (arith, long);
    }

    plays_by : (result : Result (Unit {0}) TurnFault) → PlaysOne old new event result → DrivesTo s from to old new result
    plays_by (Ok u) p = plays_ok u p
    plays_by (Err Worn) p = λ starts start earlier d. record {
      before = old.events.items;
      early = p.room;
      run = d.run;
      at = from;
      led = led_here starts start earlier d p.room;
      event = event;
      after = to;
      due = due starts d.run d.shows;
      wears = p.plays starts d.run d.shows;
    }
    plays_by (Err NoMemory) p = tt

    stays_full : MOST_EVENTS ≤ length old.events.items → IsDrivenOn s from to old old
    stays_full full = record {
      drives = λ starts start earlier d. record { run = d.run; standing = d.standing; led = d.led; shows = d.shows; turned = d.turned; here = inr full };
      few = λ few. few;
      more = omega arith;
    }

    pub goes_by : (result : Result (Unit {0}) TurnFault) → PlaysOne old new event result ⊎ IsFull old new result → DrivesTo s from to old new result
    goes_by result either =
        ⊎_elim
        (plays_by result)
        (λ (f : IsFull old new result). subst (DrivesTo s from to old new) (sym f.ok) (subst (IsDrivenOn s from to old) (sym f.same) (stays_full f.full)))
        either

pub still-before : (a b c : Driver) → length b.events.items ≤ length c.events.items → IsStill a c → IsStill a b
still-before a b c h s = record { none = omega (arith, s.none, h); room = omega (arith, s.room, h) }

pub still-after : (a b c : Driver) → length a.events.items ≤ length b.events.items → IsStill a c → IsStill b c
still-after a b c g s = record { none = omega (arith, s.none, g); room = s.room }

-- where an event was played there is one more, or no room
pub moved : (old new : Driver) (event : Event) (result : Result (Unit {0}) TurnFault) → PlaysOne old new event result ⊎ IsFull old new result
    → OnOk result (IsStill old new → ⊥)
moved old new event (Ok u) either = λ s.
    ⊎_elim
    (λ (p : PlaysOne old new event (Ok u)).
    let long = ap length p.events ∙ length_push old.events.items event in omega (arith, s.none, long))
    (λ (f : IsFull old new (Ok u)). let same = ap (λ (d : Driver). length d.events.items) f.same in omega (arith, s.room, f.full, same))
    either
moved old new event (Err fault) either = tt

-- ---- rounds

-- one node more has not gone on
pub asleep-more : (a b c : Driver) (node : ℕ) → length a.events.items ≤ length b.events.items → length b.events.items ≤ length c.events.items
    → (IsStill a b → (b.world ≡ a.world) × NoneReady node a.world)
    → (IsStill b c → (c.world ≡ b.world) × IsAsleep node b.world) → IsStill a c → (c.world ≡ a.world) × NoneReady (node + 1) a.world
asleep-more a b c node g h before here s =
    let first = before (still-before a b c h s) in
    let second = here (still-after a b c g s) in
    (second.0 ∙ first.0, below_more (λ n. IsAsleep n a.world) node first.1 (subst (IsAsleep node) first.0 second.1))

-- a round without an event: no node was ready, and no message was in flight
pub round-over : (a b c : Driver) (nodes : ℕ) → length a.events.items ≤ length b.events.items → length b.events.items ≤ length c.events.items
    → (IsStill a b → (b.world ≡ a.world) × NoneReady nodes a.world)
    → (IsStill b c → (c.world ≡ b.world) × (b.world.flight.items ≡ [])) → IsStill a c
    → NoneReady nodes c.world × (c.world.flight.items ≡ [])
round-over a b c nodes g h before here s =
    let first = before (still-before a b c h s) in
    let second = here (still-after a b c g s) in
    (subst (NoneReady nodes) (sym (second.0 ∙ first.0)) first.1, ap (λ (w : World). w.flight.items) second.0 ∙ second.1)

pub none_long : {X : Type 0} (xs : List X) → length xs ≤ 0 → xs ≡ []
none_long [] h = refl
none_long (x ∷ xs) h = absurd (omega (arith, h))

module _ (picker : Picker) (nodes : ℕ) where
  -- one node more had its turn, though it was not ready
  pub passed_over : (node : ℕ) (d : Driver) → node < nodes → IsAsleep node d.world → IsDrivenOn (schedule_of_rounds picker nodes) (at_node node) (at_node (node + 1)) d d
  passed_over node d lt sleeps = passes_on (schedule_of_rounds picker nodes) (at_node node) (at_node (node + 1)) d (λ starts run shows. asleep lt (sleeps starts run shows))

  -- the deliveries begin
  pub turns_done : (d : Driver) → IsDrivenOn (schedule_of_rounds picker nodes) (at_node nodes) (delivering (length d.world.flight.items)) d d
  turns_done d = passes_on (schedule_of_rounds picker nodes) (at_node nodes) (delivering (length d.world.flight.items)) d (λ starts run shows.
      subst (λ n. (schedule_of_rounds picker nodes).Passes run (at_node nodes) (delivering n))
      (sym (same_length seen_flying seen_sent d.world.flight.items run.flight shows.flight)) all_went)

  -- and then the next round
  pub next_round : (d : Driver) → IsDrivenOn (schedule_of_rounds picker nodes) (delivering zero) (at_node zero) d d
  next_round d = passes_on (schedule_of_rounds picker nodes) (delivering zero) (at_node zero) d (λ starts run shows. all_delivered)

  pub closes_round : (from : _) (a b : Driver) (result : Result (Unit {0}) TurnFault) → DrivesTo (schedule_of_rounds picker nodes) from (delivering zero) a b result
      → DrivesTo (schedule_of_rounds picker nodes) from (at_node zero) a b result
  closes_round from a b (Ok u) g = goes-twice (schedule_of_rounds picker nodes) from (delivering zero) (at_node zero) a b b g (next_round b)
  closes_round from a b (Err fault) g = other_end (schedule_of_rounds picker nodes) from (delivering zero) (at_node zero) a b fault g

pub over_or_not : (s : Schedule) (from mid to : s.Standing) (a b c : Driver) (nodes : ℕ) (result : Result (Unit {0}) TurnFault) → IsDrivenOn s from mid a b
    → DrivesTo s mid to b c result
    → (IsStill a b → (b.world ≡ a.world) × NoneReady nodes a.world) → OnOk result (IsStill b c → (c.world ≡ b.world) × (b.world.flight.items ≡ []))
    → OnOk result (IsStill a c → NoneReady nodes c.world × (c.world.flight.items ≡ []))
over_or_not s from mid to a b c nodes (Ok u) g h before here = round-over a b c nodes g.more h.more before here
over_or_not s from mid to a b c nodes (Err fault) g h before here = tt

-- ---- after all events

both_false : (a b : Bool) → a ≡ false → b ≡ false → (a || b) ≡ false
both_false a b e f = ap (λ x. x || b) e ∙ f

pub none_ready : (nodes : List Logged) → ((n : ℕ) (l : Logged) → slice_get nodes n ≡ Some l → is_ready l.node ≡ false)
    → list_any (λ (l : Logged). is_ready l.node) nodes ≡ false
none_ready [] each = refl
none_ready (l ∷ nodes) each =
    both_false (is_ready l.node) (list_any (λ (l : Logged). is_ready l.node) nodes) (each 0 l refl) (none_ready nodes (λ n m at. each (suc n) m at))

pub within : {X : Type 0} (xs : List X) (n : ℕ) (x : X) → slice_get xs n ≡ Some x → n < length xs
within [] n x e = cc
within (y ∷ xs) zero x e = omega arith
within (y ∷ xs) (suc n) x e = let rest : n < length xs = within xs n x e in omega (arith, rest)

-- a world of so many nodes in which none is ready, and whose flight is empty
pub is_over : (nodes : ℕ) (run : Run) → length run.nodes ≡ nodes → ((n : ℕ) → n < nodes → ready_at run n ≡ false) → run.flight ≡ [] → IsOver run
is_over nodes run count none landed = record {
  idle = none_ready run.nodes (λ n l at.
      let below : n < nodes = subst (λ k. n < k) count (within run.nodes n l at) in
      sym (ap (λ (o : Option Logged). option_map_or (λ (l : Logged). is_ready l.node) o false) at) ∙ none n below);
  taken = landed;
}

pub idle_after : (nodes : ℕ) (world : World) → NoneReady nodes world × (world.flight.items ≡ []) → IsRunOver nodes world
idle_after nodes world still = λ starts run shows count.
    is_over nodes run count (λ n below. still.0 n below starts run shows)
    (none_long run.flight (omega (arith, same_length seen_flying seen_sent world.flight.items run.flight shows.flight, ap length still.1)))

pub idle_if : (nodes : ℕ) (new : Driver) (result : Result (Unit {0}) TurnFault)
    → OnOk result (length new.events.items < MOST_EVENTS → NoneReady nodes new.world × (new.world.flight.items ≡ []))
    → OnOk result (length new.events.items < MOST_EVENTS → IsRunOver nodes new.world)
idle_if nodes new (Ok u) over = λ few. idle_after nodes new.world (over few)
idle_if nodes new (Err fault) over = tt

module _ (picker : Picker) (nodes : ℕ) (old new : Driver) (event : Event) (result : Result (Unit {0}) TurnFault)
    (either : PlaysOne old new event result ⊎ IsFull old new result) where
  -- one node more had its turn
  pub runs_one : (node : ℕ) → node < nodes → events.Run node ≡ event → ((starts : Starts) (run : Run) → Shows starts old.world run → ready_at run node ≡ true)
      → DrivesTo (schedule_of_rounds picker nodes) (at_node node) (at_node (node + 1)) old new result
  runs_one node lt is ready =
      goes_by (schedule_of_rounds picker nodes) (at_node node) (at_node (node + 1)) old new event (λ starts run shows.
      subst (λ e. IsDue picker nodes run (at_node node) e (at_node (node + 1))) is (turn lt (ready starts run shows))) result either

  -- one message more was delivered
  pub delivers_one : (count i : ℕ) → i < count → ((starts : Starts) (run : Run) → Shows starts old.world run → event ≡ delivery_of picker run.flight)
      → DrivesTo (schedule_of_rounds picker nodes) (delivering (count - i)) (delivering (count - (i + 1))) old new result
  delivers_one count i lt is =
      let left : ℕ = count - (i + 1) in
      let one : suc left ≡ count - i = omega (arith, lt) in
      subst (λ k. DrivesTo (schedule_of_rounds picker nodes) (delivering k) (delivering left) old new result) one
      (goes_by (schedule_of_rounds picker nodes) (delivering (suc left)) (delivering left) old new event (λ starts run shows.
      subst (λ e. IsDue picker nodes run (delivering (suc left)) e (delivering left)) (sym (is starts run shows)) delivery) result either)
