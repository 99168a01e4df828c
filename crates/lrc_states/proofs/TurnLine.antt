-- The line of a turn.
use Rattle.std.proofs.Common.{◌≡◌, ◌∙◌, ◌++◌, ℕ, List, Option, Some, None, ap, refl, sym, codes}
use Rattle.std.specs.Prelude.{option_map, slice_get}
use Rattle.std.specs.Option.{option_to_list}
use Rattle.std.proofs.lemmas.Option.{same_Some, slice_get-map}
use Rattle.lrc_envelope.specs.Envelope.{EnvelopeRecord}
use Rattle.lrc_trace.specs.declared.act.Act.{Act}
use Rattle.lrc_text.proofs.Fronts.{four}
use Rattle.lrc_protocol.specs.declared.event.Event.{Event}
use Rattle.lrc_protocol.specs.Node.{Node}
use Rattle.lrc_protocol.specs.Turn.{TurnRecord}
use Rattle.lrc_protocol.specs.Run.{Input, Logged, World}
use Rattle.lrc_protocol.specs.Run as log
use Rattle.lrc_replay.specs.Acts.{Plan}
use Rattle.lrc_replay.specs.Replays.{brought_by, MakesTurn, message_of}
use Rattle.lrc_replay.specs.Turns.{is_again, Turn}
use Rattle.lrc_state_text.specs.Intervals.{StoredInterval}
use Rattle.lrc_states.specs.declared.members.MessageParts.{MessageParts}
use Rattle.lrc_states.specs.declared.told.Telling.{Telling}
use Rattle.lrc_states.specs.Members.{did_members, stands_member, taken_parts}
use Rattle.lrc_states.specs.Objects.{taken_object, truth_text}
use Rattle.lrc_states.specs.Players.{message_or_null, take_members, was_taken}
use Rattle.lrc_states.specs.States.{acts_after, event_members, known_of, made_members, state_behind, turn_head, turn_line, turn_members}

-- the node that made the turn stands after it in the next world
some_node : (o : Option Logged) (after : Node) → option_map (λ (l : Logged). Some l.node) o ≡ Some (Some after) → (l : Logged) × (o ≡ Some l) × (l.node ≡ after)
some_node (Some l) after is = (l, refl, same_Some l.node after (same_Some (Some l.node) (Some after) is))
some_node None after is = cc

pub stands_after : (world next : World) (event : Event) (turn : Turn) → MakesTurn world event next turn
    → (l : Logged) × (slice_get next.nodes turn.node ≡ Some l) × (l.node ≡ turn.after)
stands_after world next event turn makes =
    some_node (slice_get next.nodes turn.node) turn.after (sym (slice_get-map (λ (l : Logged). Some l.node) next.nodes turn.node) ∙ makes.stands)

-- what is taken, and whether it was taken before
taken_so : (input : Input) → message_or_null (brought_by input) ≡ taken_object input
unfolding message_or_null
taken_so log.run = refl
taken_so (log.taken envelope) = refl

again_so : (o : Option Logged) (input : Input) → was_taken o (brought_by input) ≡ is_again o input
again_so None input = refl
again_so (Some l) log.run = refl
again_so (Some l) (log.taken envelope) = refl

take_so : (o : Option Logged) (input : Input)
    → take_members (brought_by input) (was_taken o (brought_by input))
    ≡ codes ",\"take\":" ++ taken_object input ++ codes ",\"again\":" ++ truth_text (is_again o input)
take_so o input =
    ap (λ (t : List ℕ). codes ",\"take\":" ++ t ++ codes ",\"again\":" ++ truth_text (was_taken o (brought_by input))) (taken_so input)
    ∙ ap (λ b. codes ",\"take\":" ++ taken_object input ++ codes ",\"again\":" ++ truth_text b) (again_so o input)

head_so : (world next : World) (event : Event) (turn : Turn) (turns number place : ℕ) → MakesTurn world event next turn → place ≡ turn.node → number ≡ turns
    → event_members number event place ++ take_members (message_of world event) (was_taken (slice_get world.nodes place) (message_of world event))
    ≡ turn_head turns turn
head_so world next event turn turns number place makes place_is number_is =
    let take : World → ℕ → Option EnvelopeRecord → List ℕ = λ w p m. take_members m (was_taken (slice_get w.nodes p) m) in
    ap (λ (n : ℕ). event_members n event place ++ take world place (message_of world event)) number_is
    ∙ ap (λ (p : ℕ). event_members turns event p ++ take world p (message_of world event)) place_is
    ∙ ap (λ (m : Option EnvelopeRecord). event_members turns event turn.node ++ take world turn.node m) makes.takes
    ∙ ap (λ (e : Event). event_members turns e turn.node ++ take world turn.node (brought_by turn.input)) (sym makes.event_is)
    ∙ ap (λ (w : World). event_members turns turn.event turn.node ++ take w turn.node (brought_by turn.input)) (sym makes.before_is)
    ∙ ap (λ l. event_members turns turn.event turn.node ++ l) (take_so (slice_get turn.before.nodes turn.node) turn.input)

made_so : (plan : Plan) (world next : World) (event : Event) (turn : Turn) (made : TurnRecord) (node : ℕ) → MakesTurn world event next turn
    → node ≡ turn.node → turn.made ≡ made → made_members plan world.acts node made ≡ made_members plan turn.before.acts turn.node turn.made
made_so plan world next event turn made node makes node_is made_is =
    ap (λ (n : ℕ). made_members plan world.acts n made) node_is
    ∙ ap (λ (t : TurnRecord). made_members plan world.acts turn.node t) (sym made_is)
    ∙ ap (λ (w : World). made_members plan w.acts turn.node turn.made) (sym makes.before_is)

state_told : (plan : Plan) (world next : World) (event : Event) (turn : Turn) (node : ℕ) (known : List StoredInterval) (after : Node)
    → MakesTurn world event next turn → node ≡ turn.node → known ≡ known_of (slice_get world.nodes turn.node) → after ≡ turn.after
    → state_behind plan next.acts node known after
    ≡ state_behind plan (acts_after turn) turn.node (known_of (slice_get turn.before.nodes turn.node)) turn.after
state_told plan world next event turn node known after makes node_is known_is after_is =
    ap (λ (n : ℕ). state_behind plan next.acts n known after) node_is
    ∙ ap (λ k. state_behind plan next.acts turn.node k after) known_is
    ∙ ap (λ (a : Node). state_behind plan next.acts turn.node (known_of (slice_get world.nodes turn.node)) a) after_is
    ∙ ap (λ (l : List Act). state_behind plan l turn.node (known_of (slice_get world.nodes turn.node)) turn.after) makes.acts
    ∙ ap (λ (w : World). state_behind plan (w.acts ++ option_to_list turn.made.act) turn.node (known_of (slice_get w.nodes turn.node)) turn.after)
    (sym makes.before_is)

members_so : (telling : Telling) (world next : World) (event : Event) (turn : Turn) (made : TurnRecord) (taken : Option MessageParts) (did : List ℕ)
    (after : Node) → MakesTurn world event next turn → turn.made ≡ made → taken ≡ taken_parts (message_of world event)
    → did ≡ did_members telling event taken made → after ≡ turn.after
    → did ++ stands_member telling after ≡ turn_members telling turn
members_so telling world next event turn made taken did after makes made_is taken_is did_is after_is =
    ap (λ l. l ++ stands_member telling after) did_is
    ∙ ap (λ (e : Event). did_members telling e taken made ++ stands_member telling after) (sym makes.event_is)
    ∙ ap (λ (t : Option MessageParts). did_members telling turn.event t made ++ stands_member telling after) (taken_is ∙ ap taken_parts makes.takes)
    ∙ ap (λ (t : TurnRecord). did_members telling turn.event (taken_parts (brought_by turn.input)) t ++ stands_member telling after) (sym made_is)
    ∙ ap (λ (n : Node). did_members telling turn.event (taken_parts (brought_by turn.input)) turn.made ++ stands_member telling n) after_is

-- the line of a turn is told in three parts
pub line_so : (plan : Plan) (telling : Telling) (world next : World) (event : Event) (turn : Turn) (made : TurnRecord) (turns number place node : ℕ)
    (known : List StoredInterval) (after : Node) (taken : Option MessageParts) (did one two line : List ℕ)
    → MakesTurn world event next turn → turn.made ≡ made
    → place ≡ turn.node → node ≡ turn.node → number ≡ turns → known ≡ known_of (slice_get world.nodes place) → after ≡ turn.after
    → taken ≡ taken_parts (message_of world event) → did ≡ did_members telling event taken made
    → one ≡ event_members number event place ++ take_members (message_of world event) (was_taken (slice_get world.nodes place) (message_of world event))
    → two ≡ one ++ made_members plan world.acts node made
    → line ≡ two ++ (codes ",\"state\":" ++ state_behind plan next.acts node known after ++ (did ++ stands_member telling after) ++ codes "}\n")
    → line ≡ turn_line plan telling turns turn
line_so plan telling world next event turn made turns number place node known after taken did one two line makes made_is place_is node_is number_is
    known_is after_is taken_is did_is head acts end =
    let known_so = known_is ∙ ap (λ (n : ℕ). known_of (slice_get world.nodes n)) place_is in
    let first = head ∙ head_so world next event turn turns number place makes place_is number_is in
    let second = acts ∙ ap (λ l. l ++ made_members plan world.acts node made) first
    ∙ ap (λ l. turn_head turns turn ++ l) (made_so plan world next event turn made node makes node_is made_is) in
    let start = turn_head turns turn ++ made_members plan turn.before.acts turn.node turn.made in
    let state = state_behind plan (acts_after turn) turn.node (known_of (slice_get turn.before.nodes turn.node)) turn.after in
    end
    ∙ ap (λ l. l ++ (codes ",\"state\":" ++ state_behind plan next.acts node known after ++ (did ++ stands_member telling after) ++ codes "}\n")) second
    ∙ ap (λ l. start ++ (codes ",\"state\":" ++ l ++ (did ++ stands_member telling after) ++ codes "}\n"))
    (state_told plan world next event turn node known after makes node_is known_so after_is)
    ∙ ap (λ l. start ++ (codes ",\"state\":" ++ state ++ l ++ codes "}\n"))
    (members_so telling world next event turn made taken did after makes made_is taken_is did_is after_is)
    ∙ sym (four start (codes ",\"state\":") state (turn_members telling turn) (codes "}\n"))
