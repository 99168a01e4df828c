-- A turn of one node, in the whole world.
use Rattle.std.proofs.Common.{◌≡◌, ◌∙◌, ℕ, List, ◌++◌, Bool, true, false, option_map, Option, Some, None, Result, Ok}
use Rattle.std.proofs.Common.{Err, refl, sym, ap, subst, map, length, ◌<◌, ◌≤◌, arith, inl, inr, IsErrAnd}
use Rattle.std.specs.Prelude.{slice_get, slice_set, slice_index_or}
use Rattle.std.specs.List.{enumerate_from, list_any}
use Rattle.std.specs.Option.{option_to_list}
use Rattle.lrc_envelope.specs.Envelope.{EnvelopeRecord}
use Rattle.lrc_wire.specs.Reading.{envelope_of}
use Rattle.lrc_protocol.specs.Run.{Input, taken, EntryRecord, Logged, Logging, logged, refused, too_large, logs, World as Run, Flying as Sent}
use Rattle.lrc_protocol.specs.Run.{with_input, delivers, input_to, after_input, with_turn, sent_by}
use Rattle.lrc_protocol.proofs.Worlds.{IsEntry, get_set_same}
use Rattle.lrc_node.specs.Logged.{TracedLog}
use Rattle.lrc_node.specs.declared.fault.NodeFault.{NodeFault}
use Rattle.lrc_node.specs.declared.fault.NodeFault.TheVariants as NodeFaults
use Rattle.lrc_node.specs.declared.fault.NodeFault.TheVariants.{Failed, NotReady, Unexpected}
use Rattle.lrc_world.specs.declared.flying.Flying.{Flying}
use Rattle.lrc_node.proofs.Leading.{entry_of}
use Rattle.lrc_world.proofs.Cutting.{uncut_at}
use Rattle.lrc_world.proofs.Kept.{all_logged, kept_after, kept_set, replayed_after}
use Rattle.lrc_world.proofs.NodeTurns.{not_none}
use Rattle.std.proofs.lemmas.Option.{get_or_from_slice_get, same_Some, slice_get_within}
use Rattle.lrc_world.specs.declared.world.World.{World}
use Rattle.lrc_world.specs.declared.report.TurnFault.{TurnFault}
use Rattle.lrc_world.specs.declared.report.TurnFault.TheVariants.{Worn, NoMemory}
use Rattle.lrc_world.specs.World.{Starts, cut, kept_node, trimmed, after_turn, Shows, PlaysTo, AddsTurn, AddsTo, NodeLogsLast, IsTurn, TurnsBy, TurnsTo, IsTaken}
use Rattle.lrc_world.specs.World.{ReceivesTo, turn_made, Seen, seen_flying, seen_sent, shown_new, entry_is_long, log_is_long, sends_long}
use Rattle.lrc_world.proofs.Lists.{map-map, map-both, map-get, none_of, none-set, some-set, none-end, set-length, set-set, some-end, same_length}

-- a turn that is added to a world
module _ (starts : Starts) (old mid new : World) (run : Run) (flight : List Sent) (n : ℕ) (input : Input) (came : ℕ) (l : Logged) (entry : EntryRecord)
    (after : Logged) (before : TracedLog) (shows : Shows starts old run) (there : slice_get run.nodes n ≡ Some l)
    (turn : logs l input came ≡ logged entry after) (stood : slice_get old.nodes.items n ≡ Some before)
    (nodes : mid.nodes.items ≡ slice_set old.nodes.items n (after_turn entry after before)) (flown : map seen_flying mid.flight.items ≡ map seen_sent flight)
    (acts : mid.acts.items ≡ old.acts.items) (kept : mid.keep ≡ old.keep) where
  entered : IsEntry l input entry after
  entered = entry_of l input came entry after turn

  outcome_is : with_input run flight n input came ≡ Some (with_turn run flight n entry after)
  outcome_is = ap (input_to run flight n input came) there ∙ ap (after_input run flight n) turn

  stands : slice_get (map (kept_node starts) (enumerate_from 0 run.nodes)) n ≡ Some before
  stands = ap (λ xs. slice_get xs n) (sym shows.nodes) ∙ stood

  there_now : slice_get mid.nodes.items n ≡ Some (after_turn entry after before)
  there_now = ap (λ xs. slice_get xs n) nodes ∙ get_set_same old.nodes.items n before (after_turn entry after before) stood

  last : NodeLogsLast mid n entry
  last = (after_turn entry after before, there_now, before.logged.log, refl)

  short_before : log_is_long l ≡ false
  short_before = none_of log_is_long run.nodes n l shows.short there

  adds : AddsTurn mid new n entry → Shows starts new (with_turn run flight n entry after)
  adds a = record {
    keep = a.keep ∙ kept ∙ shows.keep;
    nodes = a.nodes (after_turn entry after before) there_now
        ∙ ap (λ keep. slice_set mid.nodes.items n (trimmed keep (after_turn entry after before))) (kept ∙ shows.keep)
        ∙ ap (λ xs. slice_set xs n (trimmed starts.keep (after_turn entry after before))) nodes
        ∙ set-set old.nodes.items n (after_turn entry after before) (trimmed starts.keep (after_turn entry after before))
        ∙ ap (λ xs. slice_set xs n (trimmed starts.keep (after_turn entry after before))) shows.nodes
        ∙ ap (slice_set (map (kept_node starts) (enumerate_from 0 run.nodes)) n)
        (kept_after starts run.nodes n l after input entry there entered shows.replayed before stands)
        ∙ kept_set starts run.nodes n l after input entry there entered shows.replayed;
    replayed = replayed_after starts run.nodes n l after input entry there entered shows.replayed;
    flight = a.flight ∙ ap (λ xs. xs ++ map (shown_new entry.stamp) entry.turn.out) flown
        ∙ ap (λ xs. map seen_sent flight ++ xs)
        (sym (map-map seen_sent (λ envelope. record { envelope = envelope; stamp = entry.stamp; delivered = false }) entry.turn.out))
        ∙ sym (map-both seen_sent flight (sent_by entry));
    acts = a.acts ∙ ap (λ xs. xs ++ option_to_list entry.turn.act) (acts ∙ shows.acts);
    short = none-set log_is_long run.nodes n after shows.short
        (ap (list_any entry_is_long) entered.log_is ∙ none-end entry_is_long l.log entry short_before a.short);
    few = subst (λ k. k ≤ 256) (sym (set-length run.nodes n after)) shows.few;
  }

  long : entry_is_long entry ≡ true → sends_long (with_turn run flight n entry after) ≡ true
  long holds = some-set log_is_long run.nodes n l after there (ap (list_any entry_is_long) entered.log_is ∙ some-end entry_is_long l.log entry holds)

  pub comes : (result : Result (Unit {0}) TurnFault) → ((e : EntryRecord) → NodeLogsLast mid n e → AddsTo mid new n e result)
      → PlaysTo starts new (with_input run flight n input came) result
  comes (Ok u) follows = (with_turn run flight n entry after, outcome_is, adds (follows entry last))
  comes (Err Worn) follows = inr (with_turn run flight n entry after, outcome_is, long (follows entry last))
  comes (Err NoMemory) follows = tt

-- ---- where no message is delivered

-- a world in which nothing changed
unmoved : (starts : Starts) (old mid : World) (run : Run) → Shows starts old run → mid.flight ≡ old.flight → mid.acts ≡ old.acts
    → mid.keep ≡ old.keep → mid.nodes.items ≡ old.nodes.items → Shows starts mid run
unmoved starts old mid run shows flight acts kept nodes = record {
  keep = kept ∙ shows.keep;
  nodes = nodes ∙ shows.nodes;
  replayed = shows.replayed;
  flight = ap (λ q. map seen_flying q.items) flight ∙ shows.flight;
  acts = ap (λ v. v.items) acts ∙ shows.acts;
  short = shows.short;
  few = shows.few;
}

-- a node that made a turn answered so
made_turn : (outcome : Result (Unit {0}) NodeFault) → turn_made outcome ≡ Ok true → (u : Unit {0}) × (outcome ≡ Ok u)
made_turn (Ok u) e = (u, refl)
made_turn (Err NotReady) e = cc
made_turn (Err Unexpected) e = cc
made_turn (Err NodeFaults.Worn) e = cc
made_turn (Err NodeFaults.NoMemory) e = cc
made_turn (Err Failed) e = cc

turn_of_ok : (olds news : List TracedLog) (n : ℕ) (input : Input) (came : ℕ) (o : Option Logged) (u : Unit {0}) → TurnsBy olds news n input came o (Ok u)
    → (l : Logged) × (o ≡ Some l) × IsTurn olds news n input came l
turn_of_ok olds news n input came None u t = absurd t
turn_of_ok olds news n input came (Some l) u t = (l, refl, t)

-- a turn is one of the node with its whole log
pub whole : (starts : Starts) (old mid : World) (run : Run) (n : ℕ) (input : Input) (came : ℕ) (outcome : Result (Unit {0}) NodeFault)
    → Shows starts old run → TurnsTo old.nodes.items mid.nodes.items n input came outcome
    → TurnsBy old.nodes.items mid.nodes.items n input came (slice_get run.nodes n) outcome
whole starts old mid run n input came outcome shows turns =
    uncut_at starts.keep old.nodes.items mid.nodes.items n input came run.nodes outcome
    (turns (map (cut starts.keep) run.nodes) (all_logged starts old.nodes.items run.nodes shows.nodes))

-- a node that is named goes on
pub goes : (starts : Starts) (old mid new : World) (run : Run) (n : ℕ) (input : Input) (came : ℕ) (outcome : Result (Unit {0}) NodeFault)
    (result : Result (Unit {0}) TurnFault) → Shows starts old run → TurnsTo old.nodes.items mid.nodes.items n input came outcome
    → turn_made outcome ≡ Ok true → mid.flight ≡ old.flight → mid.acts ≡ old.acts → mid.keep ≡ old.keep → ((e : EntryRecord) → NodeLogsLast mid n e → AddsTo mid new n e result)
    → PlaysTo starts new (with_input run run.flight n input came) result
goes starts old mid new run n input came outcome result shows turns made flight acts kept follows =
    let ok = made_turn outcome made in
    let by = subst (TurnsBy old.nodes.items mid.nodes.items n input came (slice_get run.nodes n)) ok.1
    (whole starts old mid run n input came outcome shows turns) in
    let t = turn_of_ok old.nodes.items mid.nodes.items n input came (slice_get run.nodes n) ok.0 by in
    comes starts old mid new run run.flight n input came t.0 t.2.entry t.2.after t.2.before shows t.1 t.2.turn t.2.stood t.2.nodes
    (ap (λ q. map seen_flying q.items) flight ∙ shows.flight) (ap (λ v. v.items) acts) kept result follows

-- one that made none
module _ (starts : Starts) (old mid : World) (run : Run) (n : ℕ) (input : Input) (came : ℕ) (shows : Shows starts old run)
    (flight : mid.flight ≡ old.flight) (acts : mid.acts ≡ old.acts) (kept : mid.keep ≡ old.keep) where
  abbrev After : Option Run
  After = with_input run run.flight n input came

  after_none : slice_get run.nodes n ≡ None → After ≡ Some run
  after_none at = ap (input_to run run.flight n input came) at

  after_some : (l : Logged) (r : Logging) → slice_get run.nodes n ≡ Some l → logs l input came ≡ r → After ≡ after_input run run.flight n r
  after_some l r at e = ap (input_to run run.flight n input came) at ∙ ap (after_input run run.flight n) e

  rests_by : (o : Option Logged) → slice_get run.nodes n ≡ o → (outcome : Result (Unit {0}) NodeFault)
      → TurnsBy old.nodes.items mid.nodes.items n input came o outcome → turn_made outcome ≡ Ok false → (After ≡ Some run) × Shows starts mid run
  rests_by None at (Ok u) t e = cc
  rests_by None at (Err NotReady) t e = (after_none at, unmoved starts old mid run shows flight acts kept t)
  rests_by None at (Err Unexpected) t e = absurd t
  rests_by None at (Err NodeFaults.Worn) t e = cc
  rests_by None at (Err NodeFaults.NoMemory) t e = cc
  rests_by None at (Err Failed) t e = cc
  rests_by (Some l) at (Ok u) t e = cc
  rests_by (Some l) at (Err NotReady) t e = (after_some l refused at t.0, unmoved starts old mid run shows flight acts kept t.1)
  rests_by (Some l) at (Err Unexpected) t e = (after_some l refused at t.0, unmoved starts old mid run shows flight acts kept t.1)
  rests_by (Some l) at (Err NodeFaults.Worn) t e = cc
  rests_by (Some l) at (Err NodeFaults.NoMemory) t e = cc
  rests_by (Some l) at (Err Failed) t e = cc

  fails_by : (o : Option Logged) → slice_get run.nodes n ≡ o → (outcome : Result (Unit {0}) NodeFault)
      → TurnsBy old.nodes.items mid.nodes.items n input came o outcome → (fault : TurnFault) → turn_made outcome ≡ Err fault
      → PlaysTo starts mid After (Err fault)
  fails_by None at (Ok u) t fault e = cc
  fails_by None at (Err NotReady) t fault e = cc
  fails_by None at (Err Unexpected) t fault e = cc
  fails_by None at (Err NodeFaults.Worn) t fault e = absurd t
  fails_by None at (Err NodeFaults.NoMemory) t fault e = absurd t
  fails_by None at (Err Failed) t fault e = absurd t
  fails_by (Some l) at (Ok u) t fault e = cc
  fails_by (Some l) at (Err NotReady) t fault e = cc
  fails_by (Some l) at (Err Unexpected) t fault e = cc
  fails_by (Some l) at (Err NodeFaults.Worn) t fault e =
      let same : Worn ≡ fault = cc in subst (λ f. PlaysTo starts mid After (Err f)) same (inl (after_some l too_large at t))
  fails_by (Some l) at (Err NodeFaults.NoMemory) t fault e = let same : NoMemory ≡ fault = cc in subst (λ f. PlaysTo starts mid After (Err f)) same tt
  fails_by (Some l) at (Err Failed) t fault e = absurd t

  -- what it answered
  pub rests : (outcome : Result (Unit {0}) NodeFault) → TurnsTo old.nodes.items mid.nodes.items n input came outcome → turn_made outcome ≡ Ok false
      → PlaysTo starts mid After (Ok tt)
  rests outcome turns made =
      let r = rests_by (slice_get run.nodes n) refl outcome (whole starts old mid run n input came outcome shows turns) made in
      (run, r.0, r.1)

  pub fails : (outcome : Result (Unit {0}) NodeFault) → TurnsTo old.nodes.items mid.nodes.items n input came outcome → (fault : TurnFault)
      → turn_made outcome ≡ Err fault → (result : Result (Unit {0}) TurnFault) → IsErrAnd result (λ f. f ≡ fault) → PlaysTo starts mid After result
  fails outcome turns fault made (Ok u) is = absurd is
  fails outcome turns fault made (Err f) is =
      subst (λ x. PlaysTo starts mid After (Err x)) (sym is)
      (fails_by (slice_get run.nodes n) refl outcome (whole starts old mid run n input came outcome shows turns) fault made)

-- ---- a message

-- the message at a place, as the run has it
pub sent_at : (items : List Flying) (flight : List Sent) (place : ℕ) (f : Flying) → map seen_flying items ≡ map seen_sent flight → place < length items
    → f ≡ slice_index_or items place f → (sent : Sent) × (slice_get flight place ≡ Some sent) × (seen_flying f ≡ seen_sent sent)
sent_at items flight place f e within is = go (slice_get items place) refl (slice_get flight place) refl
  where
    both : option_map seen_flying (slice_get items place) ≡ option_map seen_sent (slice_get flight place)
    both = sym (map-get seen_flying items place) ∙ ap (λ xs. slice_get xs place) e ∙ map-get seen_sent flight place

    go : (o : Option Flying) → slice_get items place ≡ o → (p : Option Sent) → slice_get flight place ≡ p
        → (sent : Sent) × (slice_get flight place ≡ Some sent) × (seen_flying f ≡ seen_sent sent)
    go None none p at = absurd (not_none items place within none)
    go (Some g) there None at = let x : Some (seen_flying g) ≡ None = sym (ap (option_map seen_flying) there) ∙ both ∙ ap (option_map seen_sent) at in cc
    go (Some g) there (Some sent) at =
        let x : Some (seen_flying g) ≡ Some (seen_sent sent) = sym (ap (option_map seen_flying) there) ∙ both ∙ ap (option_map seen_sent) at in
        let same : f ≡ g = is ∙ get_or_from_slice_get items place g f there in
        (sent, at, ap seen_flying same ∙ same_Some (seen_flying g) (seen_sent sent) x)

-- what is received, by whether its node made a turn
abbrev pub received : ℕ → Result Bool TurnFault → Result (Option ℕ) TurnFault
received to (Ok true) = Ok (Some to)
received to (Ok false) = Ok None
received to (Err fault) = Err fault

module _ (starts : Starts) (old mid : World) (run : Run) (place : ℕ) (sent : Sent) (shows : Shows starts old run)
    (there : slice_get run.flight place ≡ Some sent)
    (flight : mid.flight ≡ old.flight) (acts : mid.acts ≡ old.acts) (kept : mid.keep ≡ old.keep) where
  unchanged : mid.nodes.items ≡ old.nodes.items → Shows starts mid run
  unchanged = unmoved starts old mid run shows flight acts kept

  by_node : (others : List Sent) (o : Option Logged) → slice_get run.nodes sent.envelope.to ≡ o
      → delivers run others (slice_get run.flight place) ≡ input_to run others sent.envelope.to (taken sent.envelope) sent.stamp o
  by_node others o at =
      ap (delivers run others) there ∙ ap (input_to run others sent.envelope.to (taken sent.envelope) sent.stamp) at

  pub receives : (o : Option Logged) → slice_get run.nodes sent.envelope.to ≡ o → (outcome : Result (Unit {0}) NodeFault)
      → TurnsBy old.nodes.items mid.nodes.items sent.envelope.to (taken sent.envelope) sent.stamp o outcome
      → ReceivesTo starts old mid run place (received sent.envelope.to (turn_made outcome))
  receives None at (Ok u) t = absurd t
  receives None at (Err NotReady) t = (unchanged t, λ others. by_node others None at)
  receives None at (Err Unexpected) t = absurd t
  receives None at (Err NodeFaults.Worn) t = absurd t
  receives None at (Err NodeFaults.NoMemory) t = absurd t
  receives None at (Err Failed) t = absurd t
  receives (Some l) at (Ok u) t = record {
    sent = sent;
    node = l;
    entry = t.entry;
    after = t.after;
    before = t.before;
    there = there;
    receiver = refl;
    stands = at;
    turn = t.turn;
    stood = t.stood;
    keep = kept;
    nodes = t.nodes;
    flight = flight;
    acts = acts;
  }
  receives (Some l) at (Err NotReady) t =
      (unchanged t.1, λ others. by_node others (Some l) at ∙ ap (after_input run others sent.envelope.to) t.0)
  receives (Some l) at (Err Unexpected) t =
      (unchanged t.1, λ others. by_node others (Some l) at ∙ ap (after_input run others sent.envelope.to) t.0)
  receives (Some l) at (Err NodeFaults.Worn) t =
      λ others. by_node others (Some l) at ∙ ap (after_input run others sent.envelope.to) t
  receives (Some l) at (Err NodeFaults.NoMemory) t = tt
  receives (Some l) at (Err Failed) t = absurd t

-- a message that was taken is out of flight, or marked, and its node's turn is added
pub delivered : (starts : Starts) (old taking mid new : World) (run : Run) (place to : ℕ) (others : List Sent) (result : Result (Unit {0}) TurnFault)
    → Shows starts old run → (t : IsTaken old taking run place to) → mid.nodes ≡ taking.nodes → mid.acts ≡ taking.acts → mid.keep ≡ taking.keep
    → map seen_flying mid.flight.items ≡ map seen_sent others
    → ((e : EntryRecord) → NodeLogsLast mid to e → AddsTo mid new to e result) → PlaysTo starts new (delivers run others (slice_get run.flight place)) result
delivered starts old taking mid new run place to others result shows t nodes acts kept flown follows =
    let whole = comes starts old mid new run others t.sent.envelope.to (taken t.sent.envelope) t.sent.stamp t.node t.entry t.after t.before shows
    (ap (slice_get run.nodes) t.receiver ∙ t.stands) t.turn (ap (slice_get old.nodes.items) t.receiver ∙ t.stood)
    (ap (λ v. v.items) nodes ∙ t.nodes ∙ ap (λ n. slice_set old.nodes.items n (after_turn t.entry t.after t.before)) (sym t.receiver)) flown
    (ap (λ v. v.items) (acts ∙ t.acts)) (kept ∙ t.keep) result
    (λ e last. subst (λ n. AddsTo mid new n e result) (sym t.receiver) (follows e (subst (λ n. NodeLogsLast mid n e) t.receiver last))) in
    subst (λ o. PlaysTo starts new o result) (sym (ap (delivers run others) t.there)) whole

-- A message that its bytes spell, which is given to its receiver.
pub record IsGiven (old mid : World) (run : Run) (place to : ℕ) (outcome : Result (Unit {0}) NodeFault) : Type 0 where
  pub sent : Sent
  pub there : slice_get run.flight place ≡ Some sent
  pub receiver : to ≡ sent.envelope.to
  pub turns : TurnsTo old.nodes.items mid.nodes.items sent.envelope.to (taken sent.envelope) sent.stamp outcome

-- the message that its bytes spell is the one of the run
pub given_at : (starts : Starts) (old mid : World) (run : Run) (place : ℕ) (f : Flying) (envelope : EnvelopeRecord) (to : ℕ)
    (outcome : Result (Unit {0}) NodeFault) → Shows starts old run
    → place < length old.flight.items → f ≡ slice_index_or old.flight.items place f → envelope_of f.bytes.items ≡ Ok envelope
    → to ≡ envelope.to → TurnsTo old.nodes.items mid.nodes.items to (taken envelope) f.stamp outcome → IsGiven old mid run place to outcome
given_at starts old mid run place f envelope to outcome shows within is spelled here turns =
    let s = sent_at old.flight.items run.flight place f shows.flight within is in
    let two : Ok envelope ≡ Ok s.0.envelope = sym spelled ∙ ap (λ (x : Seen). x.0) s.2 in
    let envelope_is : envelope ≡ s.0.envelope = cc in
    let stamp_is : f.stamp ≡ s.0.stamp = ap (λ (x : Seen). x.1.0) s.2 in
    record {
      sent = s.0;
      there = s.1;
      receiver = here ∙ ap (λ (e : EnvelopeRecord). e.to) envelope_is;
      turns = subst (λ e. TurnsTo old.nodes.items mid.nodes.items e.to (taken e) s.0.stamp outcome) envelope_is
          (subst (λ t. TurnsTo old.nodes.items mid.nodes.items envelope.to (taken envelope) t outcome) stamp_is
          (subst (λ n. TurnsTo old.nodes.items mid.nodes.items n (taken envelope) f.stamp outcome) here turns));
    }

-- it is taken by its receiver
pub taken_at : (starts : Starts) (old mid : World) (run : Run) (place to : ℕ) (outcome : Result (Unit {0}) NodeFault) → Shows starts old run
    → IsGiven old mid run place to outcome → mid.flight ≡ old.flight → mid.acts ≡ old.acts → mid.keep ≡ old.keep
    → ReceivesTo starts old mid run place (received to (turn_made outcome))
taken_at starts old mid run place to outcome shows given flight acts kept =
    let sent = given.sent in
    subst (λ n. ReceivesTo starts old mid run place (received n (turn_made outcome))) (sym given.receiver)
    (receives starts old mid run place sent shows given.there flight acts kept (slice_get run.nodes sent.envelope.to) refl outcome
    (whole starts old mid run sent.envelope.to (taken sent.envelope) sent.stamp outcome shows given.turns))

-- it was in flight
pub taken_within : (starts : Starts) (old taking : World) (run : Run) (place to : ℕ) → Shows starts old run → (t : IsTaken old taking run place to)
    → place < length taking.flight.items
taken_within starts old taking run place to shows t =
    let there : place < length run.flight = slice_get_within run.flight place t.sent t.there in
    let same : length old.flight.items ≡ length run.flight = same_length seen_flying seen_sent old.flight.items run.flight shows.flight in
    let still : length taking.flight.items ≡ length old.flight.items = ap (λ q. length q.items) t.flight in
    omega (arith, there, same, still)
