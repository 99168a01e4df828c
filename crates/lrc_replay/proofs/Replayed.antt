-- What an event does to the nodes and to the messages in flight.
use Rattle.std.proofs.Common.{◌≡◌, ◌∙◌, ℕ, zero, suc, ◌+◌, arith, List, [], ◌∷◌, ◌++◌, Bool, true, false, cond, Option, Some, None}
use Rattle.std.proofs.Common.{refl, sym, ap, ap₂, subst, map, take, drop, length, ◌<◌, ◌≤◌, ◌⊎◌, inl, inr, Result, Ok, Err, zero-add}
use Rattle.std.specs.Prelude.{◌==◌, IfOk, is_some, MatchOption, nat_le, option_map, remove, slice_get, slice_index_or, slice_set}
use Rattle.std.specs.List.{enumerate_from, range_with_len}
use Rattle.std.proofs.lemmas.List.FromFn.{map-range_with_len_more}
use Rattle.std.specs.Option.{option_to_list}
use Rattle.std.proofs.lemmas.List.{length-map, map-append, map-set}
use Rattle.std.proofs.lemmas.Option.{same_Some, slice_get-get_or, slice_get_past, slice_get_within}
use Rattle.lrc_envelope.specs.Envelope.{EnvelopeRecord}
use Rattle.lrc_protocol.specs.declared.event.Event.{Event}
use Rattle.lrc_protocol.specs.declared.event.Event.TheVariants as events
use Rattle.lrc_protocol.specs.Node.{Node}
use Rattle.lrc_protocol.specs.Turn.{done, not_ready, Outcome, TurnRecord, unexpected, worn}
use Rattle.lrc_protocol.specs.Run.{after_input, delivers, EntryRecord, event_on, Flying, Input, input_to, Logged, logging, logs, marked, MOST_STAMP}
use Rattle.lrc_protocol.specs.Run.{next_stamp, outcome_of, sent_by, with_mark, with_turn, World}
use Rattle.lrc_protocol.specs.Run as log
use Rattle.lrc_node.specs.declared.fault.NodeFault.{NodeFault}
use Rattle.lrc_node.specs.declared.fault.NodeFault.TheVariants.{NoMemory, NotReady, Unexpected, Worn}
use Rattle.lrc_node.specs.Node.{AnswersTurn, too_large, TracedNode, unawaited, unready, without_memory}
use Rattle.lrc_replay.specs.declared.replay.Replay.{Replay}
use Rattle.lrc_replay.specs.Replays.{Answers, AnswersAt, brought_by, flight_in, IsMade, IsReplay, LeavesOut, left_behind, MakesTurn, message_of, nodes_in}
use Rattle.lrc_replay.specs.Replays.{nodes_played, TakesAt, turner_of}
use Rattle.lrc_replay.specs.Turns.{Turn, turn_by, turn_done, turn_taking, turn_with}

-- ---- lists

get_set : {X : Type 0} (xs : List X) (n : ℕ) (x y : X) → slice_get xs n ≡ Some x → slice_get (slice_set xs n y) n ≡ Some y
get_set [] n x y there = cc
get_set (z ∷ xs) zero x y there = refl
get_set (z ∷ xs) (suc n) x y there = get_set xs n x y there

set_same : {X : Type 0} (xs : List X) (n : ℕ) (x : X) → slice_get xs n ≡ Some x → slice_set xs n x ≡ xs
set_same [] n x there = refl
set_same (y ∷ xs) zero x there = let same : y ≡ x = cc in ap (λ z. z ∷ xs) (sym same)
set_same (y ∷ xs) (suc n) x there = ap (λ more. y ∷ more) (set_same xs n x there)

map_get : {X Y : Type 0} (f : X → Y) (xs : List X) (n : ℕ) → slice_get (map f xs) n ≡ option_map f (slice_get xs n)
map_get f [] n = refl
map_get f (x ∷ xs) zero = refl
map_get f (x ∷ xs) (suc n) = map_get f xs n

map_take : {X Y : Type 0} (f : X → Y) (xs : List X) (n : ℕ) → map f (take n xs) ≡ take n (map f xs)
map_take f [] zero = refl
map_take f [] (suc n) = refl
map_take f (x ∷ xs) zero = refl
map_take f (x ∷ xs) (suc n) = ap (λ more. f x ∷ more) (map_take f xs n)

map_drop : {X Y : Type 0} (f : X → Y) (xs : List X) (n : ℕ) → map f (drop n xs) ≡ drop n (map f xs)
map_drop f [] zero = refl
map_drop f [] (suc n) = refl
map_drop f (x ∷ xs) zero = refl
map_drop f (x ∷ xs) (suc n) = map_drop f xs n

map_remove : {X Y : Type 0} (f : X → Y) (xs : List X) (n : ℕ) → map f (remove xs n) ≡ remove (map f xs) n
map_remove f xs n = map-append f (take n xs) (drop (suc n) xs) ∙ ap₂ ◌++◌ (map_take f xs n) (map_drop f xs (suc n))

-- ---- messages

abbrev message : Flying → EnvelopeRecord
message sent = sent.envelope

sent_is : (stamp : ℕ) (out : List EnvelopeRecord)
    → map message (map (λ envelope. record { envelope = envelope; stamp = stamp; delivered = false }) out) ≡ out
sent_is stamp [] = refl
sent_is stamp (envelope ∷ out) = ap (λ more. envelope ∷ more) (sent_is stamp out)

mark_one : (b : Bool) (s : Flying) → message (cond b (marked s) s) ≡ message s
mark_one true s = refl
mark_one false s = refl

marks_keep : (flight : List Flying) (first place : ℕ)
    → map message (map (λ (at : ℕ × Flying). cond (at.0 == place) (marked at.1) at.1) (enumerate_from first flight)) ≡ map message flight
marks_keep [] first place = refl
marks_keep (s ∷ flight) first place = ap₂ (λ x xs. x ∷ xs) (mark_one (first == place) s) (marks_keep flight (first + 1) place)

-- ---- an input to a node

-- what a turn leads to
pub record ComesTo (world : World) (flight : List Flying) (n : ℕ) (next : World) (turn : TurnRecord) (after : Node) : Type 0 where
  pub nodes : nodes_in next ≡ slice_set (nodes_in world) n (Some after)
  pub flying : flight_in next ≡ map message flight ++ turn.out
  pub acts : next.acts ≡ world.acts ++ option_to_list turn.act

-- what an input with this outcome leads to
abbrev Comes : World → List Flying → ℕ → World → Outcome → Type 0
Comes world flight n next (done turn after) = ComesTo world flight n next turn after
Comes world flight n next not_ready = next ≡ world
Comes world flight n next unexpected = next ≡ world
Comes world flight n next worn = ⊥

entered_comes : (world : World) (flight : List Flying) (n : ℕ) (entry : EntryRecord) (after : Logged) (next : World) (fits : Bool)
    → after_input world flight n (cond fits (log.logged entry after) log.too_large) ≡ Some next
    → ComesTo world flight n next entry.turn after.node
entered_comes world flight n entry after next true goes =
    let is : with_turn world flight n entry after ≡ next = same_Some (with_turn world flight n entry after) next goes in
    record {
      nodes = ap nodes_in (sym is) ∙ map-set (λ (l : Logged). Some l.node) world.nodes n after;
      flying = ap flight_in (sym is) ∙ map-append message flight (sent_by entry) ∙ ap (λ out. map message flight ++ out) (sent_is entry.stamp entry.turn.out);
      acts = ap (λ (w : World). w.acts) (sym is);
    }
entered_comes world flight n entry after next false goes = cc

comes : (world : World) (flight : List Flying) (n : ℕ) (input : Input) (stamp : ℕ) (l : Logged) (next : World) (outcome : Outcome)
    → after_input world flight n (logging input stamp l.log outcome) ≡ Some next → Comes world flight n next outcome
comes world flight n input stamp l next (done turn after) goes =
    entered_comes world flight n (record { input = input; stamp = stamp; turn = turn })
    (record { node = after; log = l.log ++ record { input = input; stamp = stamp; turn = turn } ∷ [] }) next (nat_le stamp MOST_STAMP) goes
comes world flight n input stamp l next not_ready goes = sym (same_Some world next goes)
comes world flight n input stamp l next unexpected goes = sym (same_Some world next goes)
comes world flight n input stamp l next worn goes = cc

-- ---- the same, played again

-- this turn is made of the input to the node
pub record Turns (world : World) (event : Event) (flight : List Flying) (n : ℕ) (input : Input) (next : World) (o : Option Logged)
    (made : TurnRecord) (now : List (Option Node)) : Type 0 where
  pub turn : Turn
  pub is : turn_with world event n input o ≡ turn ∷ []
  pub made_is : turn.made ≡ made
  pub before_is : turn.before ≡ world
  pub event_is : turn.event ≡ event
  pub node_is : turn.node ≡ n
  pub input_is : turn.input ≡ input
  pub acts : next.acts ≡ world.acts ++ option_to_list turn.made.act
  pub stands : slice_get (nodes_in next) turn.node ≡ Some (Some turn.after)
  pub nodes : now ≡ nodes_in next
  pub flying : flight_in next ≡ map message flight ++ made.out

-- no turn is made, and the next world is this one; or this turn is
abbrev Answered : World → Event → List Flying → ℕ → Input → World → Option Logged → Option TurnRecord → List (Option Node) → Type 0
Answered world event flight n input next o None now = (turn_with world event n input o ≡ []) × (now ≡ nodes_in next) × (next ≡ world)
Answered world event flight n input next o (Some made) now = Turns world event flight n input next o made now

module _ (world : World) (event : Event) (flight : List Flying) (n : ℕ) (input : Input) (next : World) where
  -- the node is there, and its turn is made
  turned : (l : Logged) (turn : TurnRecord) (post : Node) (made : TurnRecord) (after : Option Node) (now : List (Option Node))
      → slice_get (nodes_in world) n ≡ Some (Some l.node) → outcome_of l.node input ≡ done turn post → ComesTo world flight n next turn post
      → made ≡ turn → after ≡ Some post → now ≡ slice_set (nodes_in world) n after
      → Turns world event flight n input next (Some l) made now
  turned l turn post made after now there is came same after_is now_is = record {
    turn = record { before = world; event = event; node = n; input = input; made = turn; after = post };
    is = ap (turn_done world event n input) is;
    made_is = sym same;
    before_is = refl;
    event_is = refl;
    node_is = refl;
    input_is = refl;
    acts = came.acts;
    stands = ap (λ l. slice_get l n) came.nodes ∙ get_set (nodes_in world) n (Some l.node) (Some post) there;
    nodes = now_is ∙ ap (slice_set (nodes_in world) n) after_is ∙ sym came.nodes;
    flying = came.flying ∙ ap (λ (m : TurnRecord). map message flight ++ m.out) (sym same);
  }

  -- or none is
  stays : (l : Logged) (outcome : Outcome) (after : Option Node) (now : List (Option Node))
      → slice_get (nodes_in world) n ≡ Some (Some l.node) → turn_done world event n input (outcome_of l.node input) ≡ [] → next ≡ world
      → after ≡ Some l.node → now ≡ slice_set (nodes_in world) n after → Answered world event flight n input next (Some l) None now
  stays l outcome after now there none same after_is now_is = (
    none,
    now_is ∙ ap (slice_set (nodes_in world) n) after_is ∙ set_same (nodes_in world) n (Some l.node) there ∙ ap nodes_in (sym same),
    same,
  )

  here : (l : Logged) (outcome : Outcome) (made : Option TurnRecord) (after : Option Node) (now : List (Option Node))
      → slice_get (nodes_in world) n ≡ Some (Some l.node) → outcome_of l.node input ≡ outcome → Comes world flight n next outcome
      → Answers outcome l.node made after → now ≡ slice_set (nodes_in world) n after
      → Answered world event flight n input next (Some l) made now
  here l (done turn post) (Some made) after now there is came answers now_is = turned l turn post made after now there is came answers.0 answers.1 now_is
  here l (done turn post) None after now there is came answers now_is = absurd answers
  here l not_ready (Some made) after now there is came answers now_is = absurd answers
  here l not_ready None after now there is came answers now_is =
      stays l not_ready after now there (ap (turn_done world event n input) is) came answers now_is
  here l unexpected (Some made) after now there is came answers now_is = absurd answers
  here l unexpected None after now there is came answers now_is =
      stays l unexpected after now there (ap (turn_done world event n input) is) came answers now_is
  here l worn made after now there is came answers now_is = absurd came

  answered : (came : ℕ) (o : Option Logged) (nodes : List (Option Node)) (made : Option TurnRecord) (now : List (Option Node))
      → slice_get world.nodes n ≡ o → nodes ≡ nodes_in world → AnswersAt nodes n input (slice_get nodes n) made now
      → input_to world flight n input came o ≡ Some next → Answered world event flight n input next o made now
  answered came None nodes None now there same answers goes =
      let stays_so : next ≡ world = sym (same_Some world next goes) in
      let none : slice_get nodes n ≡ None = ap (λ l. slice_get l n) same ∙ map_get (λ (l : Logged). Some l.node) world.nodes n ∙ ap (option_map (λ (l : Logged). Some l.node)) there in
      let said = subst (λ (s : Option (Option Node)). AnswersAt nodes n input s None now) none answers in
      (refl, said.1 ∙ same ∙ ap nodes_in (sym stays_so), stays_so)
  answered came None nodes (Some made) now there same answers goes =
      let none : slice_get nodes n ≡ None = ap (λ l. slice_get l n) same ∙ map_get (λ (l : Logged). Some l.node) world.nodes n ∙ ap (option_map (λ (l : Logged). Some l.node)) there in
      let said = subst (λ (s : Option (Option Node)). AnswersAt nodes n input s (Some made) now) none answers in
      let never : Some made ≡ None = said.0 in cc
  answered came (Some l) nodes made now there same answers goes =
      let found : slice_get (nodes_in world) n ≡ Some (Some l.node) = map_get (λ (k : Logged). Some k.node) world.nodes n ∙ ap (option_map (λ (k : Logged). Some k.node)) there in
      let said = subst (λ (s : Option (Option Node)). AnswersAt nodes n input s made now) (ap (λ l. slice_get l n) same ∙ found) answers in
      here l (outcome_of l.node input) made said.0 now found refl (comes world flight n input (next_stamp l.log came) l next (outcome_of l.node input) goes)
      said.1 (said.2 ∙ ap (λ l. slice_set l n said.0) same)

-- ---- events

pub run_made : (world next : World) (n : ℕ) (old new : Replay) (made : Option TurnRecord) → IsReplay old world
    → event_on world (events.Run n) ≡ Some next
    → AnswersAt (nodes_played old.nodes.items) n log.run (slice_get (nodes_played old.nodes.items) n) made (nodes_played new.nodes.items)
    → new.flight ≡ old.flight → IsMade world (events.Run n) next made new
run_made world next n old new None is goes answers flight =
    let a = answered world (events.Run n) world.flight n log.run next 0 (slice_get world.nodes n) (nodes_played old.nodes.items) None (nodes_played new.nodes.items)
    refl is.nodes answers goes in
    (a.0, a.2, record { nodes = a.1; flight = ap (λ f. f.items) flight ∙ is.flight ∙ ap flight_in (sym a.2) })
run_made world next n old new (Some made) is goes answers flight =
    let a = answered world (events.Run n) world.flight n log.run next 0 (slice_get world.nodes n) (nodes_played old.nodes.items) (Some made) (nodes_played new.nodes.items)
    refl is.nodes answers goes in (
      a.turn,
      a.made_is,
      record { is = a.is; before_is = a.before_is; event_is = a.event_is; names = ap Some (sym a.node_is); takes = sym (ap brought_by a.input_is); acts = a.acts; stands = a.stands },
      record { nodes = a.nodes; flight = ap (λ f. f.items ++ made.out) flight ∙ ap (λ f. f ++ made.out) is.flight ∙ sym a.flying },
    )

-- what is in flight once a message was taken, or was not
abbrev FlightLeft : World → List Flying → Replay → Option TurnRecord → Type 0
FlightLeft world left new None = new.flight.items ≡ flight_in world
FlightLeft world left new (Some made) = new.flight.items ≡ map message left

-- a message is taken, with these messages left in flight
module _ (world next : World) (event : Event) (left : List Flying) (old new : Replay) (is : IsReplay old world) where
  abbrev nodes : List (Option Node)
  nodes = nodes_played old.nodes.items

  abbrev now : List (Option Node)
  now = nodes_played new.nodes.items

  taken_made : (sent : Option Flying) (made : Option TurnRecord) → delivers world left sent ≡ Some next
      → TakesAt nodes (option_map message sent) made now → FlightLeft world left new made
      → turn_by world event ≡ turn_taking world event sent → turner_of world event ≡ option_map (λ (s : Flying). s.envelope.to) sent
      → message_of world event ≡ option_map message sent → IsMade world event next made new
  taken_made None None goes takes flight same names message_is =
      let stays_so : next ≡ world = sym (same_Some world next goes) in
      (same, stays_so, record { nodes = takes.1 ∙ is.nodes ∙ ap nodes_in (sym stays_so); flight = flight ∙ ap flight_in (sym stays_so) })
  taken_made None (Some made) goes takes flight same names message_is = let never : Some made ≡ None = takes.0 in cc
  taken_made (Some sent) None goes takes flight same names message_is =
      let to = sent.envelope.to in
      let a = answered world event left to (log.taken sent.envelope) next sent.stamp (slice_get world.nodes to) nodes None now refl is.nodes takes goes in
      (same ∙ a.0, a.2, record { nodes = a.1; flight = flight ∙ ap flight_in (sym a.2) })
  taken_made (Some sent) (Some made) goes takes flight same names message_is =
      let to = sent.envelope.to in
      let a = answered world event left to (log.taken sent.envelope) next sent.stamp (slice_get world.nodes to) nodes (Some made) now refl is.nodes takes goes in (
        a.turn,
        a.made_is,
        record {
          is = same ∙ a.is;
          before_is = a.before_is;
          event_is = a.event_is;
          names = names ∙ ap Some (sym a.node_is);
          takes = message_is ∙ sym (ap brought_by a.input_is);
          acts = a.acts;
          stands = a.stands;
        },
        record { nodes = a.nodes; flight = ap (λ f. f ++ made.out) flight ∙ sym a.flying },
      )

left_after : (world : World) (place : ℕ) (old new : Replay) → IsReplay old world → (made : Option TurnRecord)
    → new.flight.items ≡ left_behind old.flight.items place made → FlightLeft world (remove world.flight place) new made
left_after world place old new is None flight = flight ∙ is.flight
left_after world place old new is (Some made) flight =
    flight ∙ ap (λ l. remove l place) is.flight ∙ sym (map_remove message world.flight place)

left_marked : (world : World) (place : ℕ) (new : Replay) (made : Option TurnRecord) → new.flight.items ≡ flight_in world
    → FlightLeft world (with_mark world.flight place) new made
left_marked world place new None flight = flight
left_marked world place new (Some made) flight = flight ∙ sym (marks_keep world.flight 0 place)

pub deliver_made : (world next : World) (place : ℕ) (old new : Replay) (made : Option TurnRecord) → IsReplay old world
    → event_on world (events.Deliver place) ≡ Some next
    → TakesAt (nodes_played old.nodes.items) (slice_get old.flight.items place) made (nodes_played new.nodes.items)
    → new.flight.items ≡ left_behind old.flight.items place made → IsMade world (events.Deliver place) next made new
deliver_made world next place old new made is goes takes flight =
    let named : slice_get old.flight.items place ≡ option_map message (slice_get world.flight place) =
    ap (λ l. slice_get l place) is.flight ∙ map_get message world.flight place in
    taken_made world next (events.Deliver place) (remove world.flight place) old new is (slice_get world.flight place) made goes
    (subst (λ (e : Option EnvelopeRecord). TakesAt (nodes_played old.nodes.items) e made (nodes_played new.nodes.items)) named takes)
    (left_after world place old new is made flight) refl refl refl

pub repeat_made : (world next : World) (place : ℕ) (old new : Replay) (made : Option TurnRecord) → IsReplay old world
    → event_on world (events.Repeat place) ≡ Some next
    → TakesAt (nodes_played old.nodes.items) (slice_get old.flight.items place) made (nodes_played new.nodes.items)
    → new.flight ≡ old.flight → IsMade world (events.Repeat place) next made new
repeat_made world next place old new made is goes takes flight =
    let named : slice_get old.flight.items place ≡ option_map message (slice_get world.flight place) =
    ap (λ l. slice_get l place) is.flight ∙ map_get message world.flight place in
    let stays_so : new.flight.items ≡ flight_in world = ap (λ f. f.items) flight ∙ is.flight in
    taken_made world next (events.Repeat place) (with_mark world.flight place) old new is (slice_get world.flight place) made goes
    (subst (λ (e : Option EnvelopeRecord). TakesAt (nodes_played old.nodes.items) e made (nodes_played new.nodes.items)) named takes)
    (left_marked world place new made stays_so) refl refl refl

-- ---- one node

-- a node that does not begin, or does not expect a message, is as it was
pub is_refused : {outcome : Outcome} {was : Node} {fault : NodeFault} {now : Option Node} → AnswersTurn outcome was fault now
    → (fault ≡ NotReady) ⊎ (fault ≡ Unexpected) → Answers outcome was None now
is_refused unready which = refl
is_refused unawaited which = refl
is_refused too_large (inl same) = cc
is_refused too_large (inr same) = cc
is_refused without_memory (inl same) = cc
is_refused without_memory (inr same) = cc

-- a node that is there
answers_there : (nodes : List TracedNode) (n : ℕ) (input : Input) (old new : TracedNode) (made : Option TurnRecord) (o : Option Node)
    → old.node ≡ o → ((was : Node) → old.node ≡ Some was → Answers (outcome_of was input) was made new.node)
    → AnswersAt (nodes_played nodes) n input (Some o) made (nodes_played (slice_set nodes n new))
answers_there nodes n input old new made None is answers = tt
answers_there nodes n input old new made (Some was) is answers = (new.node, answers was is, map-set (λ (t : TracedNode). t.node) nodes n new)

pub answers_at : (nodes : List TracedNode) (n : ℕ) (input : Input) (old new : TracedNode) (made : Option TurnRecord)
    → n < length nodes → old ≡ slice_index_or nodes n old
    → ((was : Node) → old.node ≡ Some was → Answers (outcome_of was input) was made new.node)
    → AnswersAt (nodes_played nodes) n input (slice_get (nodes_played nodes) n) made (nodes_played (slice_set nodes n new))
answers_at nodes n input old new made within is answers =
    let there : slice_get (nodes_played nodes) n ≡ Some old.node =
    map_get (λ (t : TracedNode). t.node) nodes n
    ∙ ap (option_map (λ (t : TracedNode). t.node)) (slice_get-get_or nodes n old within ∙ ap Some (sym is)) in
    subst (λ (o : Option (Option Node)). AnswersAt (nodes_played nodes) n input o made (nodes_played (slice_set nodes n new))) (sym there)
    (answers_there nodes n input old new made old.node refl answers)

-- the same of what may be refused memory
pub answers_so : {E : Type 0} (nodes : List TracedNode) (n : ℕ) (input : Input) (old new : TracedNode) (result : Result (Option TurnRecord) E)
    → n < length nodes → old ≡ slice_index_or nodes n old
    → ((was : Node) → old.node ≡ Some was → IfOk result (λ made. Answers (outcome_of was input) was made new.node))
    → IfOk result (λ made. AnswersAt (nodes_played nodes) n input (slice_get (nodes_played nodes) n) made (nodes_played (slice_set nodes n new)))
answers_so nodes n input old new (Ok made) within is answers = answers_at nodes n input old new made within is answers
answers_so nodes n input old new (Err error) within is answers = tt

-- one that is not there
pub answers_none : (nodes : List TracedNode) (n : ℕ) (input : Input) → length nodes ≤ n
    → AnswersAt (nodes_played nodes) n input (slice_get (nodes_played nodes) n) None (nodes_played nodes)
answers_none nodes n input past =
    let few : length (nodes_played nodes) ≤ n = omega (arith, length-map nodes (λ (t : TracedNode). t.node), past) in
    subst (λ (o : Option (Option Node)). AnswersAt (nodes_played nodes) n input o None (nodes_played nodes))
    (sym (slice_get_past (nodes_played nodes) n few)) (refl, refl)

-- ---- a turn that may be refused memory

run_ok : {E : Type 0} (world next : World) (n : ℕ) (old new : Replay) (result : Result (Option TurnRecord) E) → IsReplay old world
    → event_on world (events.Run n) ≡ Some next
    → IfOk result (λ made. AnswersAt (nodes_played old.nodes.items) n log.run (slice_get (nodes_played old.nodes.items) n) made (nodes_played new.nodes.items))
    → new.flight ≡ old.flight → IfOk result (λ made. IsMade world (events.Run n) next made new)
run_ok world next n old new (Ok made) is goes answers flight = run_made world next n old new made is goes answers flight
run_ok world next n old new (Err error) is goes answers flight = tt

deliver_ok : {E : Type 0} (world next : World) (place : ℕ) (old new : Replay) (result : Result (Option TurnRecord) E) → IsReplay old world
    → event_on world (events.Deliver place) ≡ Some next
    → IfOk result (λ made. TakesAt (nodes_played old.nodes.items) (slice_get old.flight.items place) made (nodes_played new.nodes.items))
    → IfOk result (λ made. new.flight.items ≡ left_behind old.flight.items place made)
    → IfOk result (λ made. IsMade world (events.Deliver place) next made new)
deliver_ok world next place old new (Ok made) is goes takes flight = deliver_made world next place old new made is goes takes flight
deliver_ok world next place old new (Err error) is goes takes flight = tt

repeat_ok : {E : Type 0} (world next : World) (place : ℕ) (old new : Replay) (result : Result (Option TurnRecord) E) → IsReplay old world
    → event_on world (events.Repeat place) ≡ Some next
    → IfOk result (λ made. TakesAt (nodes_played old.nodes.items) (slice_get old.flight.items place) made (nodes_played new.nodes.items))
    → new.flight ≡ old.flight → IfOk result (λ made. IsMade world (events.Repeat place) next made new)
repeat_ok world next place old new (Ok made) is goes takes flight = repeat_made world next place old new made is goes takes flight
repeat_ok world next place old new (Err error) is goes takes flight = tt

-- a message that was taken was there
within_taken : (nodes : List (Option Node)) (flight : List EnvelopeRecord) (place : ℕ) (o : Option EnvelopeRecord) (made : TurnRecord)
    (now : List (Option Node)) → slice_get flight place ≡ o → TakesAt nodes o (Some made) now → place < length flight
within_taken nodes flight place None made now there takes = let never : Some made ≡ None = takes.0 in cc
within_taken nodes flight place (Some envelope) made now there takes = slice_get_within flight place envelope there

pub left_so : (nodes : List (Option Node)) (old new : List EnvelopeRecord) (place : ℕ) (made : Option TurnRecord) (now : List (Option Node))
    → TakesAt nodes (slice_get old place) made now → (is_some made ≡ false → new ≡ old)
    → (is_some made ≡ true → place < length old → new ≡ remove old place) → new ≡ left_behind old place made
left_so nodes old new place None now takes kept removed = kept refl
left_so nodes old new place (Some made) now takes kept removed =
    removed refl (within_taken nodes old place (slice_get old place) made now refl takes)

-- the same by an event that is this one
module _ {E : Type 0} (world next : World) (event : Event) (n : ℕ) (old new : Replay) (result : Result (Option TurnRecord) E) (is : IsReplay old world) where
  pub run_so : event ≡ events.Run n → event_on world event ≡ Some next
      → IfOk result (λ made. AnswersAt (nodes_played old.nodes.items) n log.run (slice_get (nodes_played old.nodes.items) n) made (nodes_played new.nodes.items))
      → new.flight ≡ old.flight → IfOk result (λ made. IsMade world event next made new)
  run_so same goes answers flight =
      subst (λ (e : Event). event_on world e ≡ Some next → IfOk result (λ made. IsMade world e next made new)) (sym same)
      (λ so. run_ok world next n old new result is so answers flight) goes

  pub deliver_so : event ≡ events.Deliver n → event_on world event ≡ Some next
      → IfOk result (λ made. TakesAt (nodes_played old.nodes.items) (slice_get old.flight.items n) made (nodes_played new.nodes.items))
      → IfOk result (λ made. new.flight.items ≡ left_behind old.flight.items n made)
      → IfOk result (λ made. IsMade world event next made new)
  deliver_so same goes takes flight =
      subst (λ (e : Event). event_on world e ≡ Some next → IfOk result (λ made. IsMade world e next made new)) (sym same)
      (λ so. deliver_ok world next n old new result is so takes flight) goes

  pub repeat_so : event ≡ events.Repeat n → event_on world event ≡ Some next
      → IfOk result (λ made. TakesAt (nodes_played old.nodes.items) (slice_get old.flight.items n) made (nodes_played new.nodes.items))
      → new.flight ≡ old.flight → IfOk result (λ made. IsMade world event next made new)
  repeat_so same goes takes flight =
      subst (λ (e : Event). event_on world e ≡ Some next → IfOk result (λ made. IsMade world e next made new)) (sym same)
      (λ so. repeat_ok world next n old new result is so takes flight) goes

-- ---- at the beginning

pub fresh_more : (f : ℕ → Node) (made new : List TracedNode) (x : TracedNode) (me : ℕ) → nodes_played made ≡ map (λ n. Some (f n)) (range_with_len 0 me)
    → new ≡ made ++ x ∷ [] → x.node ≡ Some (f me) → nodes_played new ≡ map (λ n. Some (f n)) (range_with_len 0 (me + 1))
fresh_more f made new x me so_far is one =
    ap nodes_played is ∙ map-append (λ (t : TracedNode). t.node) made (x ∷ []) ∙ ap₂ (λ l o. l ++ o ∷ []) so_far one
    ∙ sym (map-range_with_len_more (λ n. Some (f n)) 0 me me (zero-add me))

pub fresh_are : (f : ℕ → Node) (ns : List ℕ)
    → map (λ n. Some (f n)) ns ≡ map (λ (l : Logged). Some l.node) (map (λ (node : Node). record { node = node; log = [] }) (map f ns))
fresh_are f [] = refl
fresh_are f (n ∷ ns) = ap (λ l. Some (f n) ∷ l) (fresh_are f ns)

-- ---- the state of a node

state_of : {S : Type 0} (now : S → Node) (o : Option Logged) (t : Option Node) (found : Option S) → option_map (λ (l : Logged). Some l.node) o ≡ Some t
    → MatchOption found (t ≡ None) (λ s. t ≡ Some (now s)) → option_map now found ≡ option_map (λ (l : Logged). l.node) o
state_of now None t found there is = cc
state_of now (Some l) t None there is = let same : Some l.node ≡ t = same_Some (Some l.node) t there in let never : Some l.node ≡ None = same ∙ is in cc
state_of now (Some l) t (Some s) there is = sym is ∙ sym (same_Some (Some l.node) t there)

module _ (replay : Replay) (world : World) (n : ℕ) (is : IsReplay replay world) where
  abbrev found_there : slice_get (nodes_played replay.nodes.items) n ≡ option_map (λ (l : Logged). Some l.node) (slice_get world.nodes n)
  found_there = ap (λ l. slice_get l n) is.nodes ∙ map_get (λ (l : Logged). Some l.node) world.nodes n

  pub state_there : {S : Type 0} (now : S → Node) (t : TracedNode) (found : Option S) → n < length replay.nodes.items
      → t ≡ slice_index_or replay.nodes.items n t → MatchOption found (t.node ≡ None) (λ s. t.node ≡ Some (now s))
      → option_map now found ≡ option_map (λ (l : Logged). l.node) (slice_get world.nodes n)
  state_there now t found within at said =
      let there : slice_get replay.nodes.items n ≡ Some t = slice_get-get_or replay.nodes.items n t within ∙ ap Some (sym at) in
      state_of now (slice_get world.nodes n) t.node found
      (sym found_there ∙ map_get (λ (x : TracedNode). x.node) replay.nodes.items n ∙ ap (option_map (λ (x : TracedNode). x.node)) there) said

  no_state : (o : Option Logged) → None ≡ option_map (λ (l : Logged). Some l.node) o → None ≡ option_map (λ (l : Logged). l.node) o
  no_state None same = refl
  no_state (Some l) same = cc

  pub state_past : length replay.nodes.items ≤ n → None ≡ option_map (λ (l : Logged). l.node) (slice_get world.nodes n)
  state_past past =
      no_state (slice_get world.nodes n)
      (sym (map_get (λ (x : TracedNode). x.node) replay.nodes.items n ∙ ap (option_map (λ (x : TracedNode). x.node)) (slice_get_past replay.nodes.items n past))
      ∙ found_there)
