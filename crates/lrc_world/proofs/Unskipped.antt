-- No event of a run in rounds is skipped, and none of a run in a random order.
use Rattle.std.proofs.Common.{◌≡◌, ◌∙◌, ℕ, zero, suc, ◌+◌, ◌%◌, ◌<◌, ◌≤◌, arith, List, [], ◌∷◌, ◌++◌, Bool, true, false, cond, Option, Some, None}
use Rattle.std.proofs.Common.{refl, sym, ap, append-nil, ⊎_elim, ◌⊎◌, inl, inr, map, length}
use Rattle.std.specs.Prelude.{filter, fold, min, nat_le, remove, slice_get}
use Rattle.std.specs.List.{enumerate_from, range_with_len}
use Rattle.std.specs.Option.{option_map_or}
use Rattle.std.proofs.lemmas.List.Sums.{fold-append}
use Rattle.std.proofs.lemmas.Option.{same_Some}
use Rattle.std.proofs.lemmas.List.{length-append, length-map, map-append}
use Rattle.std.proofs.lemmas.List.Edits.{length-remove}
use Rattle.std.proofs.lemmas.List.FromFn.{length-enumerate_from}
use Rattle.lrc_program.specs.declared.Program.{Program}
use Rattle.lrc_exec.specs.Meaning.{Next}
use Rattle.lrc_envelope.specs.declared.picker.Picker.{Picker}
use Rattle.lrc_envelope.specs.declared.picker.Picker.TheVariants.{Oldest, Newest, Twice}
use Rattle.lrc_envelope.specs.Envelope.{EnvelopeRecord}
use Rattle.lrc_protocol.specs.declared.event.Event.{Event}
use Rattle.lrc_protocol.specs.declared.event.Event.TheVariants as events
use Rattle.lrc_protocol.specs.Node.{Node, OptionsRecord, Effect}
use Rattle.lrc_protocol.specs.Turn.{begins, run_effect, charged, Outcome, done, not_ready, unexpected, worn, turn_with}
use Rattle.lrc_protocol.specs.Turn.{turn_or, turn_by, run_turn, take_turn, is_ready, is_addressed, is_repeat, taking, empty_turn}
use Rattle.lrc_protocol.specs.Turn.{takes}
use Rattle.lrc_protocol.specs.Run.{Input, EntryRecord, Logged, Logging, logged, refused, too_large, logs, logging, next_stamp, MOST_STAMP}
use Rattle.lrc_protocol.specs.Run.{World as Run, Flying as Sent, fresh_world, sent_by, with_mark, after_input, input_to}
use Rattle.lrc_protocol.specs.Run.{delivers, event_on, played, run_of, step_of}
use Rattle.lrc_protocol.specs.Run as log
use Rattle.lrc_protocol.proofs.Skips.{ready-goes_on}
use Rattle.lrc_order_laws.proofs.Timely.{get_within}
use Rattle.lrc_world.specs.Led.{Led, begins as starts, plays, passes}
use Rattle.lrc_world.specs.Moments.{RefusesNone}
use Rattle.lrc_world.specs.Random.{choices_of, drawn_event, drawn_number, wandering}
use Rattle.lrc_world.specs.Rounds.{Stage, at_node, delivering, IsDue, turn, delivery, Passes, asleep, all_went, all_delivered}
use Rattle.lrc_world.specs.Rounds.{schedule_of_rounds, ready_at, delivery_of, is_delivered, newest_place}
use Rattle.lrc_world.specs.Turned.{node_if, node_by, taker, turner, turned_by, turned_from, events_in, AreTurnedFrom}
use Rattle.lrc_world.proofs.Driven.{led_played}
use Rattle.lrc_world.proofs.Made.{MadeOrNot, by_taker, turned_more, turned_last}
use Rattle.lrc_world.proofs.Moments.{refuses_none}

-- ---- why an input is refused

refused_cases : (input : Input) (stamp : ℕ) (before : List EntryRecord) (o : Outcome) → logging input stamp before o ≡ refused
    → (o ≡ not_ready) ⊎ (o ≡ unexpected)
refused_cases input stamp before (done made node) e = by_test (nat_le stamp MOST_STAMP) e
  where
    by_test : (t : Bool)
        → cond t (logged (record { input = input; stamp = stamp; turn = made })
        (record { node = node; log = before ++ (record { input = input; stamp = stamp; turn = made }) ∷ [] })) too_large ≡ refused
        → (done made node ≡ not_ready) ⊎ (done made node ≡ unexpected)
    by_test true e = cc
    by_test false e = cc
refused_cases input stamp before not_ready e = inl refl
refused_cases input stamp before unexpected e = inr refl
refused_cases input stamp before worn e = cc

with-expected : (effect : Effect) (o : Option (List EnvelopeRecord × List ℕ)) → turn_with effect o ≡ unexpected → ⊥
with-expected effect None e = cc
with-expected effect (Some (envelopes, sent)) e = cc

with-ready : (effect : Effect) (o : Option (List EnvelopeRecord × List ℕ)) → turn_with effect o ≡ not_ready → ⊥
with-ready effect None e = cc
with-ready effect (Some (envelopes, sent)) e = cc

if-expected : (o : Option Effect) → turn_or worn o ≡ unexpected → ⊥
if-expected None e = cc
if-expected (Some effect) e = with-expected effect _ e

-- a node that goes on by itself expects that
by-expected : (node : Node) (o : Option Next) → turn_by node o ≡ unexpected → ⊥
by-expected node None e = cc
by-expected node (Some next) e = if-expected (run_effect (charged node next) next) e

taking-ready : (o : Option Effect) → turn_or unexpected o ≡ not_ready → ⊥
taking-ready None e = cc
taking-ready (Some effect) e = with-ready effect _ e

take_by : (addressed repeated : Bool) (node : Node) (o : Option Effect)
    → cond addressed (cond repeated (done empty_turn node) (turn_or unexpected o)) unexpected ≡ not_ready → ⊥
take_by true true node o e = cc
take_by true false node o e = taking-ready o e
take_by false repeated node o e = cc

-- a node may take a message at any time
take-ready : (node : Node) (envelope : EnvelopeRecord) → take_turn node envelope ≡ not_ready → ⊥
take-ready node envelope e =
    take_by (is_addressed node envelope) (is_repeat node envelope) node (takes (taking node envelope) envelope.from envelope.message) e

own_made : (l : Logged) → is_ready l.node ≡ true → logs l log.run 0 ≡ refused → ⊥
own_made l ready e =
    ⊎_elim
    (λ (none : run_turn l.node ≡ not_ready). ready-goes_on l.node ready none)
    (λ (none : run_turn l.node ≡ unexpected). by-expected l.node (begins l.node) none)
    (refused_cases log.run (next_stamp l.log 0) l.log (run_turn l.node) e)

taken_made : (l : Logged) (envelope : EnvelopeRecord) (came : ℕ) → (take_turn l.node envelope ≡ unexpected → ⊥)
    → logs l (log.taken envelope) came ≡ refused → ⊥
taken_made l envelope came welcome e =
    ⊎_elim
    (λ (none : take_turn l.node envelope ≡ not_ready). take-ready l.node envelope none)
    (λ (none : take_turn l.node envelope ≡ unexpected). welcome none)
    (refused_cases (log.taken envelope) (next_stamp l.log came) l.log (take_turn l.node envelope) e)

-- ---- one event

some_node : (world next : Run) (flight : List Sent) (n : ℕ) (r : Logging) → (r ≡ refused → ⊥) → after_input world flight n r ≡ Some next
    → node_if n r ≡ Some n
some_node world next flight n (logged entry after) not e = refl
some_node world next flight n refused not e = absurd (not refl)
some_node world next flight n too_large not e = cc

by_input : (world next : Run) (flight : List Sent) (n : ℕ) (input : Input) (came : ℕ) (l : Logged) (o : Option Logged) → o ≡ Some l
    → (logs l input came ≡ refused → ⊥) → input_to world flight n input came o ≡ Some next → node_by n input came o ≡ Some n
by_input world next flight n input came l o at not e =
    ap (node_by n input came) at
    ∙ some_node world next flight n (logs l input came) not (sym (ap (input_to world flight n input came) at) ∙ e)

there_ready : (o : Option Logged) → option_map_or (λ (l : Logged). is_ready l.node) o false ≡ true → (l : Logged) × (o ≡ Some l) × (is_ready l.node ≡ true)
there_ready None e = cc
there_ready (Some l) e = (l, refl, e)

-- a ready node makes a turn
pub run_turns : (world next : Run) (n : ℕ) → ready_at world n ≡ true → event_on world (events.Run n) ≡ Some next
    → turner world (events.Run n) ≡ Some n
run_turns world next n ready e =
    let r = there_ready (slice_get world.nodes n) ready in
    by_input world next world.flight n log.run 0 r.0 (slice_get world.nodes n) r.1 (own_made r.0 r.2) e

more_flight : (world next : Run) (flight : List Sent) (input : Input) (o : Option ℕ) (m : ℕ) → o ≡ Some m → MadeOrNot world next flight input o
    → length flight ≤ length next.flight
more_flight world next flight input o m is either = elim either [
  | inl none ↦ let no : Some m ≡ None = sym is ∙ none.0 in cc
  | inr made ↦
      let long = ap (λ (w : Run). length w.flight) made.2.next_is ∙ length-append flight (sent_by made.2.entry) in
      omega (arith, long)
]

-- so does the receiver of a message in flight, and no other message leaves the flight
pub taken_turns : (world next : Run) (flight : List Sent) (place : ℕ) (sent : Sent) → RefusesNone world → slice_get world.flight place ≡ Some sent
    → delivers world flight (Some sent) ≡ Some next
    → (taker world (Some sent) ≡ Some sent.envelope.to) × (length flight ≤ length next.flight)
taken_turns world next flight place sent welcome at e =
    let w = welcome place sent at in
    let turns : taker world (Some sent) ≡ Some sent.envelope.to =
    by_input world next flight sent.envelope.to (log.taken sent.envelope) sent.stamp w.receiver (slice_get world.nodes sent.envelope.to) w.to
    (taken_made w.receiver sent.envelope sent.stamp w.taken) e in
    (turns, more_flight world next flight (log.taken sent.envelope) (taker world (Some sent)) sent.envelope.to turns (by_taker world next flight sent e))

pub deliver_turns : (world next : Run) (place : ℕ) → RefusesNone world → place < length world.flight
    → event_on world (events.Deliver place) ≡ Some next
    → (m : ℕ) × (turner world (events.Deliver place) ≡ Some m) × (length world.flight ≤ length next.flight + 1)
deliver_turns world next place welcome within e =
    let sent = get_within world.flight place within in
    let t = taken_turns world next (remove world.flight place) place sent.0 welcome sent.1
    (sym (ap (delivers world (remove world.flight place)) sent.1) ∙ e) in
    let less = length-remove world.flight place within in
    (sent.0.envelope.to, ap (taker world) sent.1 ∙ t.0, omega (arith, t.1, less))

length-mark : (flight : List Sent) (place : ℕ) → length (with_mark flight place) ≡ length flight
length-mark flight place = length-map (enumerate_from 0 flight) _ ∙ length-enumerate_from 0 flight

pub repeat_turns : (world next : Run) (place : ℕ) → RefusesNone world → place < length world.flight
    → event_on world (events.Repeat place) ≡ Some next
    → (m : ℕ) × (turner world (events.Repeat place) ≡ Some m) × (length world.flight ≤ length next.flight + 1)
repeat_turns world next place welcome within e =
    let sent = get_within world.flight place within in
    let t = taken_turns world next (with_mark world.flight place) place sent.0 welcome sent.1
    (sym (ap (delivers world (with_mark world.flight place)) sent.1) ∙ e) in
    let same = length-mark world.flight place in
    (sent.0.envelope.to, ap (taker world) sent.1 ∙ t.0, omega (arith, t.1, same))

-- ---- one event more

one_turned : (event : Event) (o : Option ℕ) (m : ℕ) → o ≡ Some m → events_in (turned_by event o) ≡ event ∷ []
one_turned event o m is = ap (λ x. events_in (turned_by event x)) is

unskipped_more : (start world : Run) (before : List Event) (event : Event) (m : ℕ) → played start before ≡ Some world → turner world event ≡ Some m
    → events_in (turned_from (Some start) before) ≡ before
    → events_in (turned_from (Some start) (before ++ event ∷ [])) ≡ before ++ event ∷ []
unskipped_more start world before event m runs turns so_far =
    ap events_in (turned_more (Some start) before event)
    ∙ ap (λ w. events_in (turned_from (Some start) before ++ turned_last w event)) runs
    ∙ map-append (λ t. t.event) (turned_from (Some start) before) (turned_by event (turner world event))
    ∙ ap (λ xs. xs ++ events_in (turned_by event (turner world event))) so_far
    ∙ ap (λ xs. before ++ xs) (one_turned event (turner world event) m turns)

-- ---- rounds

-- as many messages are in flight as are still to be delivered
abbrev Room : Stage → Run → Type 0
Room (at_node n) world = Unit {0}
Room (delivering left) world = left ≤ length world.flight

-- an event makes a turn, and of so many messages one less is left to deliver
abbrev Delivers : Run → Run → ℕ → Event → Type 0
Delivers world next left event = ((m : ℕ) × (turner world event ≡ Some m)) × (left ≤ length next.flight)

deliver_one : (world next : Run) (left place : ℕ) → RefusesNone world → suc left ≤ length world.flight → place < length world.flight
    → event_on world (events.Deliver place) ≡ Some next → Delivers world next left (events.Deliver place)
deliver_one world next left place welcome room within e =
    let t = deliver_turns world next place welcome within e in ((t.0, t.1), omega (arith, t.2, room))

repeat_one : (world next : Run) (left : ℕ) → RefusesNone world → suc left ≤ length world.flight
    → event_on world (events.Repeat 0) ≡ Some next → Delivers world next left (events.Repeat 0)
repeat_one world next left welcome room e =
    let t = repeat_turns world next 0 welcome (omega (arith, room)) e in ((t.0, t.1), omega (arith, t.2, room))

twice_one : (world next : Run) (left : ℕ) (b : Bool) → RefusesNone world → suc left ≤ length world.flight
    → event_on world (cond b (events.Deliver 0) (events.Repeat 0)) ≡ Some next → Delivers world next left (cond b (events.Deliver 0) (events.Repeat 0))
twice_one world next left true welcome room e = deliver_one world next left 0 welcome room (omega (arith, room)) e
twice_one world next left false welcome room e = repeat_one world next left welcome room e

newest_within : (left count : ℕ) → suc left ≤ count → newest_place count < count
newest_within left count room = omega (arith, room)

picked_one : (picker : Picker) (world next : Run) (left : ℕ) → RefusesNone world → suc left ≤ length world.flight
    → event_on world (delivery_of picker world.flight) ≡ Some next → Delivers world next left (delivery_of picker world.flight)
picked_one Oldest world next left welcome room e = deliver_one world next left 0 welcome room (omega (arith, room)) e
picked_one Newest world next left welcome room e =
    deliver_one world next left (newest_place (length world.flight)) welcome room (newest_within left (length world.flight) room) e
picked_one Twice world next left welcome room e = twice_one world next left (is_delivered (slice_get world.flight 0)) welcome room e

pub welcome_at : (program : Program) (nodes : ℕ) (options : OptionsRecord) (events : List Event) (world : Run)
    → run_of program nodes options events ≡ Some world → RefusesNone world
welcome_at program nodes options events world runs = refuses_none program nodes options events events [] world (sym (append-nil events)) runs

module _ (program : Program) (nodes : ℕ) (options : OptionsRecord) (given : List Event) (start : Run)
    (begins_at : run_of program nodes options given ≡ Some start) where
  -- what follows events that a program's run has made is made by that run too
  pub run_behind : (events : List Event) (world : Run) → played start events ≡ Some world → run_of program nodes options (given ++ events) ≡ Some world
  run_behind events world runs =
      fold-append step_of (Some (fresh_world program nodes options)) given events ∙ ap (λ w. fold step_of w events) begins_at ∙ runs

  welcome_behind : (events : List Event) (world : Run) → played start events ≡ Some world → RefusesNone world
  welcome_behind events world runs = welcome_at program nodes options (given ++ events) world (run_behind events world runs)

  due_turns : (picker : Picker) (world next : Run) (at after : Stage) (event : Event) → RefusesNone world → IsDue picker nodes world at event after
      → Room at world → event_on world event ≡ Some next → ((m : ℕ) × (turner world event ≡ Some m)) × Room after next
  due_turns picker world next at after event welcome (turn {n = n} lt ready) room e = ((n, run_turns world next n ready e), tt)
  due_turns picker world next at after event welcome (delivery {left = left}) room e = picked_one picker world next left welcome room e

  pass_room : (world : Run) (at after : Stage) → Passes nodes world at after → Room at world → Room after world
  pass_room world at after (asleep lt sleeps) room = tt
  pass_room world at after all_went room = omega arith
  pass_room world at after all_delivered room = tt

  by_rounds : (picker : Picker) (events : List Event) (world : Run) (at : Stage) → Led (schedule_of_rounds picker nodes) start events world at
      → AreTurnedFrom start events × Room at world
  by_rounds picker events world at starts = (refl, tt)
  by_rounds picker events world at (plays {events = before} {run = now} {at = stood} {after = after} {event = event} led due next) =
      let so_far = by_rounds picker before now stood led in
      let runs = led_played (schedule_of_rounds picker nodes) start before now stood led in
      let one = due_turns picker now world stood after event (welcome_behind before now runs) due so_far.1 next in
      (unskipped_more start now before event one.0.0 runs one.0.1 so_far.0, one.1)
  by_rounds picker events world at (passes {at = stood} led on) =
      let so_far = by_rounds picker events world stood led in (so_far.0, pass_room world stood at on so_far.1)

  -- no event in rounds is skipped
  pub rounds_unskipped : (picker : Picker) (events : List Event) (world : Run) (at : Stage)
      → Led (schedule_of_rounds picker nodes) start events world at → AreTurnedFrom start events
  rounds_unskipped picker events world at led = (by_rounds picker events world at led).0

-- ---- a random order

get_both : {X : Type 0} (xs ys : List X) (k : ℕ) (x : X) → slice_get (xs ++ ys) k ≡ Some x
    → (slice_get xs k ≡ Some x) ⊎ ((j : ℕ) × (slice_get ys j ≡ Some x))
get_both [] ys k x e = inr (k, e)
get_both (y ∷ xs) ys zero x e = inl e
get_both (y ∷ xs) ys (suc k) x e = get_both xs ys k x e

get_mapped : {X Y : Type 0} (f : X → Y) (xs : List X) (k : ℕ) (y : Y) → slice_get (map f xs) k ≡ Some y → (x : X) × (slice_get xs k ≡ Some x) × (y ≡ f x)
get_mapped f [] k y e = cc
get_mapped f (x ∷ xs) zero y e = (x, refl, sym (same_Some (f x) y e))
get_mapped f (x ∷ xs) (suc k) y e = get_mapped f xs k y e

filtered_one : (p : ℕ → Bool) (y : ℕ) (xs : List ℕ) (x : ℕ) → ((k : ℕ) → slice_get (filter p xs) k ≡ Some x → p x ≡ true) → (b : Bool) (k : ℕ)
    → p y ≡ b → slice_get (cond b (y ∷ filter p xs) (filter p xs)) k ≡ Some x → p x ≡ true
filtered_one p y xs x rest true zero is e = ap p (sym (same_Some y x e)) ∙ is
filtered_one p y xs x rest true (suc k) is e = rest k e
filtered_one p y xs x rest false k is e = rest k e

get_filtered : (p : ℕ → Bool) (xs : List ℕ) (k x : ℕ) → slice_get (filter p xs) k ≡ Some x → p x ≡ true
get_filtered p [] k x e = cc
get_filtered p (y ∷ xs) k x e = filtered_one p y xs x (λ j at. get_filtered p xs j x at) (p y) k refl e

get_ranged : (a n k x : ℕ) → slice_get (range_with_len a n) k ≡ Some x → x < a + n
get_ranged a zero k x e = cc
get_ranged a (suc n) zero x e = let same : a ≡ x = same_Some a x e in omega (arith, same)
get_ranged a (suc n) (suc k) x e = let below = get_ranged (a + 1) n k x e in omega (arith, below)

few_below : (n x : ℕ) → x < 0 + min n 4294967296 → x < n
few_below n x e = omega (arith, e)

chosen_turns : (nodes number : ℕ) (world next : Run) (event : Event) → RefusesNone world → drawn_event nodes number world ≡ Some event
    → event_on world event ≡ Some next → (m : ℕ) × (turner world event ≡ Some m)
chosen_turns nodes number world next event welcome is e =
    let turns : List Event = map events.Run (filter (ready_at world) (range_with_len 0 nodes)) in
    let many : ℕ = min (length world.flight) 4294967296 in
    let deliveries : List Event = map events.Deliver (range_with_len 0 many) in
    let place : ℕ = number % length (choices_of nodes world) in
    ⊎_elim
    (λ (own : slice_get turns place ≡ Some event).
    let at = get_mapped events.Run (filter (ready_at world) (range_with_len 0 nodes)) place event own in (
      at.0,
      ap (turner world) at.2
          ∙ run_turns world next at.0 (get_filtered (ready_at world) (range_with_len 0 nodes) place at.0 at.1) (ap (event_on world) (sym at.2) ∙ e),
    ))
    (λ (other : (j : ℕ) × (slice_get deliveries j ≡ Some event)).
    let at = get_mapped events.Deliver (range_with_len 0 many) other.0 event other.1 in
    let within = few_below (length world.flight) at.0 (get_ranged 0 many other.0 at.0 at.1) in
    let t = deliver_turns world next at.0 welcome within (ap (event_on world) (sym at.2) ∙ e) in
    (t.0, ap (turner world) at.2 ∙ t.1))
    (get_both turns deliveries place event is)

module _ (program : Program) (nodes : ℕ) (options : OptionsRecord) (given : List Event) (start : Run)
    (begins_at : run_of program nodes options given ≡ Some start) (seed : ℕ) where
  -- no event in a random order is skipped
  pub wandering_unskipped : (events : List Event) (world : Run) (at : ℕ) → Led (wandering nodes seed) start events world at
      → AreTurnedFrom start events
  wandering_unskipped events world at starts = refl
  wandering_unskipped events world at (plays {events = before} {run = now} {at = stood} {event = event} led due next) =
      let so_far = wandering_unskipped before now stood led in
      let runs = led_played (wandering nodes seed) start before now stood led in
      let one =
      chosen_turns nodes (drawn_number at) now world event (welcome_behind program nodes options given start begins_at before now runs) due.1 next in
      unskipped_more start now before event one.0 runs one.1 so_far
  wandering_unskipped events world at (passes led on) = absurd on
