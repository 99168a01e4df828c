-- A walk along the logs of a run meets the turns that its events make.
use Rattle.std.proofs.Common.{◌≡◌, ◌∙◌, ℕ, zero, suc, ◌+◌, ◌<◌, ◌≤◌, arith, List, [], ◌∷◌, ◌++◌, Bool, true, false, cond, Option, Some, None}
use Rattle.std.proofs.Common.{refl, sym, ap, subst, append-nil, append_assoc, inl, inr, map, length, take, drop, replicate}
use Rattle.std.specs.Prelude.{◌&&◌, ◌==◌, fold, nat_lt, remove, option_map, slice_get, slice_set, slice_index_or}
use Rattle.std.specs.List.{enumerate_from, range_with_len}
use Rattle.std.proofs.lemmas.Bool.{lt-ltb, and_from}
use Rattle.std.proofs.lemmas.Option.{none-some, same_Some, slice_get_within, slice_get-map, get_or_from_slice_get}
use Rattle.std.proofs.lemmas.List.{length-map, length-set, length_push, map-append, get_or_past}
use Rattle.std.proofs.lemmas.List.FromFn.{length-range_with_len}
use Rattle.std.proofs.lemmas.List.Sums.{fold-append}
use Rattle.lrc_program.specs.declared.Program.{Program}
use Rattle.lrc_consistency_laws.proofs.Ahead.{take_ahead}
use Rattle.lrc_protocol.specs.declared.event.Event.{Event}
use Rattle.lrc_protocol.specs.declared.event.Event.TheVariants as events
use Rattle.lrc_protocol.specs.Node.{Node, OptionsRecord, fresh_node}
use Rattle.lrc_protocol.specs.Run.{Input, EntryRecord, Logged, Logging, logged, refused, too_large, logs as logs', World as Run, Flying as Sent}
use Rattle.lrc_protocol.specs.Run.{fresh_world, marked, sent_by, with_turn, with_mark, after_input, input_to, delivers, event_on, step_of}
use Rattle.lrc_protocol.specs.Run.{played, run_of}
use Rattle.lrc_protocol.specs.Run as log
use Rattle.lrc_protocol.proofs.Worlds.{run-whole, get_set_same}
use Rattle.lrc_world.specs.declared.turned.Turned.{Turned}
use Rattle.lrc_world.specs.Moments.{RefusesNone}
use Rattle.lrc_world.specs.Turned.{node_if, node_by, taker, turner, turned_by, turned_from, turned_of, HaveLogs}
use Rattle.lrc_world.specs.Walk.{Leads, is_run, is_own, next_turner, flight_after, receivers_of, come_after, come_with, flight_with}
use Rattle.lrc_protocol.specs.Follows.{come_of, next_entry}
use Rattle.lrc_world.proofs.Events.{split_at}
use Rattle.lrc_world.proofs.Lists.{map-set, map-remove, map-map}
use Rattle.lrc_world.proofs.Made.{Made, TurnsOrNot, by_event, goes_later, is_entry, left_in, nowhere, still_refused}
use Rattle.lrc_world.proofs.Made.{turned_more, turned_last}
use Rattle.lrc_world.proofs.Unskipped.{taken_turns, welcome_at}

-- a walk has come to this moment of a run
pub record IsAt (come flight : List ℕ) (world : Run) : Type 0 where
  pub counts : come ≡ map (λ (l : Logged). length l.log) world.nodes
  pub receivers : flight ≡ map (λ (s : Sent). s.envelope.to) world.flight

-- ---- lists

behind : {X : Type 0} (xs ys : List X) → slice_get (xs ++ ys) (length xs) ≡ slice_get ys 0
behind [] ys = refl
behind (x ∷ xs) ys = behind xs ys

past_end : {X : Type 0} (xs : List X) (n : ℕ) → slice_get xs n ≡ None → length xs ≤ n
past_end [] n none = omega arith
past_end (x ∷ xs) zero none = cc
past_end (x ∷ xs) (suc n) none = let rest = past_end xs n none in omega (arith, rest)

never : (b : Bool) → (b && false) ≡ false
never true = refl
never false = refl

mark_one : (b : Bool) (s : Sent) → (cond b (marked s) s).envelope.to ≡ s.envelope.to
mark_one true s = refl
mark_one false s = refl

mark_kept : (flight : List Sent) (first place : ℕ)
    → map (λ (s : Sent). s.envelope.to) (map (λ (at : ℕ × Sent). cond (at.0 == place) (marked at.1) at.1) (enumerate_from first flight))
    ≡ map (λ (s : Sent). s.envelope.to) flight
mark_kept [] first place = refl
mark_kept (s ∷ flight) first place =
    ap (λ to. to
    ∷ map (λ (s : Sent). s.envelope.to) (map (λ (at : ℕ × Sent). cond (at.0 == place) (marked at.1) at.1) (enumerate_from (first + 1) flight)))
    (mark_one (first == place) s)
    ∙ ap (λ xs. s.envelope.to ∷ xs) (mark_kept flight (first + 1) place)

-- ---- a turn that a node makes by itself

other_input : (l : Logged) (input : Input) (came : ℕ) (entry : EntryRecord) (after : Logged) → logs' l log.run 0 ≡ refused
    → logs' l input came ≡ logged entry after → is_run input ≡ false
other_input l log.run came entry after not turn =
    let both : refused ≡ logged entry after = sym (still_refused l log.run 0 came not) ∙ turn in cc
other_input l (log.taken envelope) came entry after not turn = refl

-- a node that is not ready goes on by no such turn
first_other : (l : Logged) (o : Option EntryRecord) → logs' l log.run 0 ≡ refused
    → ((entry : EntryRecord) → o ≡ Some entry → (came : ℕ) × (after : Logged) × (logs' l entry.input came ≡ logged entry after)) → is_own o ≡ false
first_other l None not first = refl
first_other l (Some entry) not first = let turn = first entry refl in other_input l entry.input turn.0 entry turn.1 not turn.2

-- ---- one event of a run that has these logs

module _ (now end : Run) (logs : List (List EntryRecord)) (come flight : List ℕ) (has : map (λ (l : Logged). l.log) end.nodes ≡ logs)
    (same : length end.nodes ≡ length now.nodes) (at : IsAt come flight now) where
  come_is : (n : ℕ) (l : Logged) → slice_get now.nodes n ≡ Some l → come_of come n ≡ length l.log
  come_is n l there =
      ap (λ xs. slice_index_or xs n 0) at.counts
      ∙ get_or_from_slice_get (map (λ (l : Logged). length l.log) now.nodes) n (length l.log) 0
      (slice_get-map (λ (l : Logged). length l.log) now.nodes n ∙ ap (option_map (λ (l : Logged). length l.log)) there)

  log_is : (n : ℕ) (j : Logged) → slice_get end.nodes n ≡ Some j → slice_index_or logs n [] ≡ j.log
  log_is n j there =
      ap (λ xs. slice_index_or xs n []) (sym has)
      ∙ get_or_from_slice_get (map (λ (l : Logged). l.log) end.nodes) n j.log []
      (slice_get-map (λ (l : Logged). l.log) end.nodes n ∙ ap (option_map (λ (l : Logged). l.log)) there)

  -- a node's next turn is the first of those by which its log goes on
  next_is : (n : ℕ) (l j : Logged) (more : List EntryRecord) → slice_get now.nodes n ≡ Some l → slice_get end.nodes n ≡ Some j → j.log ≡ l.log ++ more
      → next_entry logs come n ≡ slice_get more 0
  next_is n l j more there ends on =
      ap (λ xs. slice_get xs (come_of come n)) (log_is n j ends ∙ on) ∙ ap (slice_get (l.log ++ more)) (come_is n l there) ∙ behind l.log more

  none_next : (n : ℕ) → slice_get now.nodes n ≡ None → next_entry logs come n ≡ None
  none_next n none =
      let count = ap length (sym has) ∙ length-map end.nodes (λ (l : Logged). l.log) in
      let past : length logs ≤ n = omega (arith, past_end now.nodes n none, same, count) in
      ap (λ xs. slice_get xs (come_of come n)) (get_or_past logs n [] past)

  -- the turn that is made is the next one
  pub made_next : (next : Run) (rest : List Event) (fl : List Sent) (n : ℕ) (input : Input) (made : Made now next fl n input) → played next rest ≡ Some end
      → next_entry logs come n ≡ Some made.entry
  made_next next rest fl n input made e =
      let here : slice_get next.nodes n ≡ Some made.after =
      ap (λ (w : Run). slice_get w.nodes n) made.next_is ∙ get_set_same now.nodes n made.l made.after made.there in
      let later = (goes_later rest next end e).each n made.after here in
      let i = is_entry made.l input made.came made.entry made.after made.turn in
      next_is n made.l later.0 (made.entry ∷ later.2.more) made.there later.1
      (later.2.log_is ∙ ap (λ xs. xs ++ later.2.more) i.log_is ∙ append_assoc made.l.log (made.entry ∷ []) later.2.more)

  unready_next : (rest : List Event) (n : ℕ) (l : Logged) → slice_get now.nodes n ≡ Some l → logs' l log.run 0 ≡ refused → played now rest ≡ Some end
      → is_own (next_entry logs come n) ≡ false
  unready_next rest n l there not e =
      let later = (goes_later rest now end e).each n l there in
      ap is_own (next_is n l later.0 later.2.more there later.1 later.2.log_is) ∙ first_other l (slice_get later.2.more 0) not later.2.first

  -- what the walk says of a node that is named
  abbrev says : ℕ → Bool → Option ℕ
  says n own = cond (nat_lt n 256 && own) (Some n) None

  says_none : (n : ℕ) (own : Bool) → own ≡ false → says n own ≡ None
  says_none n own is = ap (says n) is ∙ ap (λ b. cond b (Some n) None) (never (nat_lt n 256))

  run_by : (next : Run) (rest : List Event) (n : ℕ) (l : Logged) (r : Logging) → logs' l log.run 0 ≡ r → slice_get now.nodes n ≡ Some l
      → after_input now now.flight n r ≡ Some next → played next rest ≡ Some end → length now.nodes ≤ 256
      → says n (is_own (next_entry logs come n)) ≡ node_if n r
  run_by next rest n l (logged entry after) is there e plays few =
      let made : Made now next now.flight n log.run = record {
        l = l;
        came = 0;
        entry = entry;
        after = after;
        there = there;
        turn = is;
        next_is = sym (same_Some (with_turn now now.flight n entry after) next e);
      } in
      let below : n < 256 = omega (arith, slice_get_within now.nodes n l there, few) in
      let own : is_own (next_entry logs come n) ≡ true =
      ap is_own (made_next next rest now.flight n log.run made plays) ∙ ap is_run (is_entry l log.run 0 entry after is).input_is in
      ap (λ b. cond b (Some n) None) (and_from (nat_lt n 256) (is_own (next_entry logs come n)) (lt-ltb n 256 below) own)
  run_by next rest n l refused is there e plays few =
      let still : played now rest ≡ Some end = ap (λ w. played w rest) (same_Some now next e) ∙ plays in
      says_none n (is_own (next_entry logs come n)) (unready_next rest n l there is still)
  run_by next rest n l too_large is there e plays few = cc

  run_is : (next : Run) (rest : List Event) (n : ℕ) (o : Option Logged) → slice_get now.nodes n ≡ o → input_to now now.flight n log.run 0 o ≡ Some next
      → played next rest ≡ Some end → length now.nodes ≤ 256
      → says n (is_own (next_entry logs come n)) ≡ node_by n log.run 0 o
  run_is next rest n None there e plays few = says_none n (is_own (next_entry logs come n)) (ap is_own (none_next n there))
  run_is next rest n (Some l) there e plays few = run_by next rest n l (logs' l log.run 0) refl there e plays few

  taken_is : (next : Run) (fl : List Sent) (place : ℕ) (o : Option Sent) → slice_get now.flight place ≡ o → delivers now fl o ≡ Some next
      → RefusesNone now → slice_get flight place ≡ taker now o
  taken_is next fl place None there e welcome =
      ap (λ xs. slice_get xs place) at.receivers ∙ slice_get-map (λ (s : Sent). s.envelope.to) now.flight place
      ∙ ap (option_map (λ (s : Sent). s.envelope.to)) there
  taken_is next fl place (Some sent) there e welcome =
      ap (λ xs. slice_get xs place) at.receivers ∙ slice_get-map (λ (s : Sent). s.envelope.to) now.flight place
      ∙ ap (option_map (λ (s : Sent). s.envelope.to)) there
      ∙ sym (taken_turns now next fl place sent welcome there e).0

  -- the walk says the node whose turn an event makes
  node_is : (next : Run) (rest : List Event) (event : Event) → event_on now event ≡ Some next → played next rest ≡ Some end → length now.nodes ≤ 256
      → RefusesNone now → next_turner logs come flight event ≡ turner now event
  node_is next rest (events.Run n) e plays few welcome = run_is next rest n (slice_get now.nodes n) refl e plays few
  node_is next rest (events.Deliver place) e plays few welcome =
      taken_is next (remove now.flight place) place (slice_get now.flight place) refl e welcome
  node_is next rest (events.Repeat place) e plays few welcome =
      taken_is next (with_mark now.flight place) place (slice_get now.flight place) refl e welcome

  left_is : (event : Event) (n : ℕ) → flight_after flight event (Some n) ≡ map (λ (s : Sent). s.envelope.to) (left_in now event)
  left_is (events.Run m) n = at.receivers
  left_is (events.Deliver place) n =
      ap (λ xs. remove xs place) at.receivers ∙ sym (map-remove (λ (s : Sent). s.envelope.to) now.flight place)
  left_is (events.Repeat place) n = at.receivers ∙ sym (mark_kept now.flight 0 place)

  pub at_made : (next : Run) (rest : List Event) (event : Event) (n : ℕ) (input : Input) → Made now next (left_in now event) n input
      → played next rest ≡ Some end
      → IsAt (come_with logs come (Some n)) (flight_with logs come (flight_after flight event (Some n)) (Some n)) next
  at_made next rest event n input made plays =
      let first = made_next next rest (left_in now event) n input made plays in
      let i = is_entry made.l input made.came made.entry made.after made.turn in
      let long : length made.l.log + 1 ≡ length made.after.log = sym (ap length i.log_is ∙ length_push made.l.log made.entry) in
      record {
        counts = ap (come_after come n) first
            ∙ ap (λ k. slice_set come n (k + 1)) (come_is n made.l made.there)
            ∙ ap (λ k. slice_set come n k) long
            ∙ ap (λ xs. slice_set xs n (length made.after.log)) at.counts
            ∙ sym (map-set (λ (l : Logged). length l.log) now.nodes n made.after)
            ∙ ap (λ (w : Run). map (λ (l : Logged). length l.log) w.nodes) (sym made.next_is);
        receivers = ap (λ o. flight_after flight event (Some n) ++ receivers_of o) first
            ∙ ap (λ xs. xs ++ map (λ envelope. envelope.to) made.entry.turn.out) (left_is event n)
            ∙ ap (λ xs. map (λ (s : Sent). s.envelope.to) (left_in now event) ++ xs)
            (sym (map-map (λ (s : Sent). s.envelope.to) (λ envelope. record { envelope = envelope; stamp = made.entry.stamp; delivered = false })
            made.entry.turn.out))
            ∙ sym (map-append (λ (s : Sent). s.envelope.to) (left_in now event) (sent_by made.entry))
            ∙ ap (λ (w : Run). map (λ (s : Sent). s.envelope.to) w.flight) (sym made.next_is);
      }

  -- and goes on past it
  next_at : (next : Run) (rest : List Event) (event : Event) (o : Option ℕ) → TurnsOrNot now next (left_in now event) o → played next rest ≡ Some end
      → IsAt (come_with logs come o) (flight_with logs come (flight_after flight event o) o) next
  next_at next rest event o either plays = elim either [
    | inl none ↦
        subst (λ x. IsAt (come_with logs come x) (flight_with logs come (flight_after flight event x) x) next) (sym none.0)
        (subst (IsAt come flight) (sym none.1) at)
    | inr made ↦
        subst (λ x. IsAt (come_with logs come x) (flight_with logs come (flight_after flight event x) x) next) (sym made.1)
        (at_made next rest event made.0 made.2 made.3 plays)
  ]

-- ---- turns that lead through the logs

no_more : (now end : Run) (logs : List (List EntryRecord)) (come flight : List ℕ) → map (λ (l : Logged). l.log) end.nodes ≡ logs
    → length end.nodes ≡ length now.nodes → IsAt come flight now → now ≡ end → (n : ℕ) (o : Option Logged) → slice_get now.nodes n ≡ o
    → next_entry logs come n ≡ None
no_more now end logs come flight has same at is n None there = none_next now end logs come flight has same at n there
no_more now end logs come flight has same at is n (Some l) there =
    next_is now end logs come flight has same at n l l [] there (ap (λ (w : Run). slice_get w.nodes n) (sym is) ∙ there) (sym (append-nil l.log))

pub same_nodes : (now next : Run) (fl : List Sent) (n : ℕ) (input : Input) → Made now next fl n input → length next.nodes ≡ length now.nodes
same_nodes now next fl n input made = ap (λ (w : Run). length w.nodes) made.next_is ∙ length-set now.nodes n made.after

module _ (end : Run) (logs : List (List EntryRecord)) (has : map (λ (l : Logged). l.log) end.nodes ≡ logs) where
  -- how the rest of a run leads on, wherever a walk has come
  record LeadsOn (world : Run) (more : List Turned) : Type 0 where
    pub from : (come flight : List ℕ) → length end.nodes ≡ length world.nodes → IsAt come flight world → Leads logs come more

  led_turn : (now next : Run) (event : Event) (more : List Event) (n : ℕ) (input : Input) → Made now next (left_in now event) n input
      → played next more ≡ Some end → LeadsOn next (turned_from (Some next) more)
      → LeadsOn now (turned_by event (Some n) ++ turned_from (Some next) more)
  led_turn now next event more n input made plays rest = record {
    from = λ come flight same at.
        let first = made_next now end logs come flight has same at next more (left_in now event) n input made plays in
        let after = at_made now end logs come flight has same at next more event n input made plays in
        let goes : come_with logs come (Some n) ≡ come_after come n (Some made.entry) = ap (come_after come n) first in
        let stays : length end.nodes ≡ length next.nodes = same ∙ sym (same_nodes now next (left_in now event) n input made) in (
          made.entry,
          first,
          subst (λ c. Leads logs c (turned_from (Some next) more)) goes (rest.from _ _ stays after),
        );
  }

  led_one : (now next : Run) (event : Event) (more : List Event) (o : Option ℕ) → TurnsOrNot now next (left_in now event) o
      → played next more ≡ Some end → LeadsOn next (turned_from (Some next) more)
      → LeadsOn now (turned_by event o ++ turned_from (Some next) more)
  led_one now next event more o either plays rest = elim either [
    | inl none ↦
        subst (λ x. LeadsOn now (turned_by event x ++ turned_from (Some next) more)) (sym none.0)
        (subst (λ w. LeadsOn w (turned_from (Some next) more)) none.1 rest)
    | inr made ↦
        subst (λ x. LeadsOn now (turned_by event x ++ turned_from (Some next) more)) (sym made.1)
        (led_turn now next event more made.0 made.2 made.3 plays rest)
  ]

  led_from : (now : Run) (event : Event) (more : List Event) (o : Option Run) → event_on now event ≡ o → fold step_of o more ≡ Some end
      → ((next : Run) → played next more ≡ Some end → LeadsOn next (turned_from (Some next) more))
      → LeadsOn now (turned_by event (turner now event) ++ turned_from o more)
  led_from now event more None is plays rest = absurd (none-some end (sym (nowhere more) ∙ plays))
  led_from now event more (Some next) is plays rest =
      led_one now next event more (turner now event) (by_event now next event is) plays (rest next plays)

  leads_from : (events : List Event) (now : Run) → played now events ≡ Some end → LeadsOn now (turned_from (Some now) events)
  leads_from [] now plays = record {
    from = λ come flight same at n.
        no_more now end logs come flight has same at (same_Some now end plays) n (slice_get now.nodes n) refl;
  }
  leads_from (event ∷ more) now plays = led_from now event more (event_on now event) refl plays (λ next rest. leads_from more next rest)

leads_on : (events : List Event) (now end : Run) (logs : List (List EntryRecord)) (come flight : List ℕ)
    → map (λ (l : Logged). l.log) end.nodes ≡ logs → length end.nodes ≡ length now.nodes → IsAt come flight now → played now events ≡ Some end
    → Leads logs come (turned_from (Some now) events)
leads_on events now end logs come flight has same at plays = (leads_from end logs has events now plays).from come flight same at

-- ---- the whole walk

come_length : (logs : List (List EntryRecord)) (come : List ℕ) (n : ℕ) (o : Option EntryRecord) → length (come_after come n o) ≡ length come
come_length logs come n None = refl
come_length logs come n (Some entry) = length-set come n (come_of come n + 1)

pub same_count : (logs : List (List EntryRecord)) (come : List ℕ) (o : Option ℕ) → length (come_with logs come o) ≡ length come
same_count logs come None = refl
same_count logs come (Some n) = come_length logs come n (next_entry logs come n)

fresh_counts : (nodes : List Node)
    → map (λ (l : Logged). length l.log) (map (λ (node : Node). record { node = node; log = [] }) nodes) ≡ replicate (length nodes) 0
fresh_counts [] = refl
fresh_counts (node ∷ nodes) = ap (λ xs. 0 ∷ xs) (fresh_counts nodes)

-- so far the walk has met the turns of the events so far
abbrev pub Walks : Program → ℕ → OptionsRecord → List Event → List (List EntryRecord) → ℕ → List ℕ → List ℕ → List Turned → Type 0
Walks program nodes options events logs k come flight turned =
    nodes ≤ 256 → HaveLogs program nodes options events logs
    → (now : Run) × (run_of program nodes options (take k events) ≡ Some now) × IsAt come flight now
    × (turned ≡ turned_of program nodes options (take k events))

module _ (program : Program) (nodes : ℕ) (options : OptionsRecord) (events : List Event) (logs : List (List EntryRecord)) where
  log_count : HaveLogs program nodes options events logs → length logs ≡ nodes
  log_count has =
      ap length (sym has.2) ∙ length-map has.0.nodes (λ (l : Logged). l.log) ∙ (run-whole program nodes options events has.0 has.1).count

  pub at_start : HaveLogs program nodes options events logs → IsAt (replicate (length logs) 0) [] (fresh_world program nodes options)
  at_start has =
      let fresh : List Node = map (fresh_node program nodes options) (range_with_len 0 nodes) in
      let count : length fresh ≡ nodes = length-map (range_with_len 0 nodes) (fresh_node program nodes options) ∙ length-range_with_len 0 nodes in
      record {
        counts = ap (λ n. replicate n 0) (log_count has ∙ sym count) ∙ sym (fresh_counts fresh);
        receivers = refl;
      }

  -- the turns of the run lead through its logs
  pub leads_through : HaveLogs program nodes options events logs → Leads logs (replicate (length logs) 0) (turned_of program nodes options events)
  leads_through has =
      let ends = (run-whole program nodes options events has.0 has.1).count in
      let stands = (run-whole program nodes options [] (fresh_world program nodes options) refl).count in
      leads_on events (fresh_world program nodes options) has.0 logs (replicate (length logs) 0) [] has.2 (ends ∙ sym stands) (at_start has) has.1

  pub walk_begins : (come flight : List ℕ) (turned : List Turned) → come ≡ replicate (length logs) 0 → flight ≡ [] → turned ≡ []
      → Walks program nodes options events logs 0 come flight turned
  walk_begins come flight turned come_is flight_is turned_is = λ few has. (
    fresh_world program nodes options,
    refl,
    subst (λ c. IsAt c flight (fresh_world program nodes options)) (sym come_is)
        (subst (λ f. IsAt (replicate (length logs) 0) f (fresh_world program nodes options)) (sym flight_is) (at_start has)),
    turned_is,
  )

  module _ (k : ℕ) (event : Event) (there : slice_get events k ≡ Some event) (come flight new_come new_flight : List ℕ) (turned more : List Turned)
      (node : Option ℕ) (node_so : node ≡ next_turner logs come flight event) (come_so : new_come ≡ come_with logs come node)
      (flight_so : new_flight ≡ flight_with logs come (flight_after flight event node) node) (more_so : more ≡ turned ++ turned_by event node)
      (few : nodes ≤ 256) (has : HaveLogs program nodes options events logs) (now : Run)
      (runs : run_of program nodes options (take k events) ≡ Some now) (at : IsAt come flight now)
      (told : turned ≡ turned_of program nodes options (take k events)) where
    taken_next : take (k + 1) events ≡ take k events ++ event ∷ []
    taken_next = let next : k + 1 ≡ suc k = omega arith in ap (λ n. take n events) next ∙ take_ahead events k event there

    by_next : (o : Option Run) → event_on now event ≡ o → fold step_of o (drop (suc k) events) ≡ Some has.0
        → (next : Run) × (run_of program nodes options (take (k + 1) events) ≡ Some next) × IsAt new_come new_flight next
        × (more ≡ turned_of program nodes options (take (k + 1) events))
    by_next None is plays = let none : None ≡ Some has.0 = sym (nowhere (drop (suc k) events)) ∙ plays in cc
    by_next (Some next) is plays =
        let ends = (run-whole program nodes options events has.0 has.1).count in
        let stands = (run-whole program nodes options (take k events) now runs).count in
        let same : length has.0.nodes ≡ length now.nodes = ends ∙ sym stands in
        let small : length now.nodes ≤ 256 = omega (arith, stands, few) in
        let welcome = welcome_at program nodes options (take k events) now runs in
        let node_turns : node ≡ turner now event =
        node_so ∙ node_is now has.0 logs come flight has.2 same at next (drop (suc k) events) event is plays small welcome in
        let either : TurnsOrNot now next (left_in now event) node =
        subst (TurnsOrNot now next (left_in now event)) (sym node_turns) (by_event now next event is) in
        let fresh : Option Run = Some (fresh_world program nodes options) in (
          next,
          ap (run_of program nodes options) taken_next ∙ fold-append step_of fresh (take k events) (event ∷ []) ∙ ap (λ o. step_of o event) runs ∙ is,
          subst (λ c. IsAt c new_flight next) (sym come_so)
              (subst (λ f. IsAt (come_with logs come node) f next) (sym flight_so)
              (next_at now has.0 logs come flight has.2 same at next (drop (suc k) events) event node either plays)),
          more_so ∙ ap (λ ts. ts ++ turned_by event node) told
              ∙ ap (λ o. turned_of program nodes options (take k events) ++ turned_by event o) node_turns
              ∙ ap (λ o. turned_of program nodes options (take k events) ++ turned_last o event) (sym runs)
              ∙ sym (turned_more fresh (take k events) event)
              ∙ ap (turned_of program nodes options) (sym taken_next),
        )

    by_rest : fold step_of (event_on now event) (drop (suc k) events) ≡ Some has.0
    by_rest =
        let fresh : Option Run = Some (fresh_world program nodes options) in
        ap (λ o. fold step_of (step_of o event) (drop (suc k) events)) (sym runs)
        ∙ sym (fold-append step_of fresh (take k events) (event ∷ drop (suc k) events))
        ∙ ap (run_of program nodes options) (sym (split_at events k event there)) ∙ has.1

    one_walked : (next : Run) × (run_of program nodes options (take (k + 1) events) ≡ Some next) × IsAt new_come new_flight next
        × (more ≡ turned_of program nodes options (take (k + 1) events))
    one_walked = by_next (event_on now event) refl by_rest

  pub walk_goes_on : (k : ℕ) (event : Event) (come flight new_come new_flight : List ℕ) (turned more : List Turned) (node : Option ℕ)
      → slice_get events k ≡ Some event → Walks program nodes options events logs k come flight turned
      → node ≡ next_turner logs come flight event → new_come ≡ come_with logs come node
      → new_flight ≡ flight_with logs come (flight_after flight event node) node → more ≡ turned ++ turned_by event node
      → Walks program nodes options events logs (k + 1) new_come new_flight more
  walk_goes_on k event come flight new_come new_flight turned more node there before node_so come_so flight_so more_so = λ few has.
      let so_far = before few has in
      one_walked k event there come flight new_come new_flight turned more node node_so come_so flight_so more_so few has so_far.0 so_far.1 so_far.2 so_far.3
