-- The states of a run's nodes as they are told.
use Rattle.std.proofs.Common.{◌≡◌, ◌∙◌, ◌+◌, ◌<◌, ◌≤◌, ◌++◌, ◌⊎◌, inl, inr, ℕ, List, Some, None, ap, sym, arith, get_or, length, take}
use Rattle.std.specs.Prelude.{slice_get}
use Rattle.std.proofs.lemmas.List.{append_assoc, length-map}
use Rattle.std.proofs.lemmas.Option.{get_or_from_slice_get, slice_get_cases}
use Rattle.lrc_node.specs.Node.{TracedNode}
use Rattle.lrc_text.specs.Each.{each}
use Rattle.lrc_text.proofs.Each.{each_more}
use Rattle.lrc_trace.specs.declared.act.Act.{Act}
use Rattle.lrc_protocol.specs.Node.{Node}
use Rattle.lrc_protocol.specs.Run.{Logged, World}
use Rattle.lrc_replay.specs.Acts.{Plan, spot_behind}
use Rattle.lrc_replay.specs.Replays.{IsReplay}
use Rattle.lrc_replay.specs.declared.replay.Replay.{Replay}
use Rattle.lrc_state_text.specs.Intervals.{StoredInterval}
use Rattle.lrc_state_text.specs.Place.{Named}
use Rattle.lrc_state_text.specs.State.{state_text}
use Rattle.lrc_states.specs.Names.{names_behind}
use Rattle.lrc_states.specs.States.{state_behind}

-- a state is told with what the acts have led to
pub state_so : (plan : Plan) (acts : List Act) (node : ℕ) (known : List StoredInterval) (state after : Node) (line : ℕ) (names : List Named)
    (old next : List ℕ) → state ≡ after → line ≡ (spot_behind plan acts node).line → names ≡ names_behind plan acts node
    → next ≡ old ++ state_text state line names known → next ≡ old ++ state_behind plan acts node known after
unfolding state_behind
state_so plan acts node known state after line names old next state_is line_is names_are told =
    told ∙ ap (λ (s : Node). old ++ state_text s line names known) state_is
    ∙ ap (λ (n : ℕ). old ++ state_text after n names known) line_is
    ∙ ap (λ (l : List Named). old ++ state_text after (spot_behind plan acts node).line l known) names_are

there_of : {X : Type 0} (xs : List X) (i : ℕ) → i < length xs
    → ((x : X) × (i < length xs) × (slice_get xs i ≡ Some x) × (get_or xs i x ≡ x)) ⊎ ((length xs ≤ i) × (slice_get xs i ≡ None))
    → (x : X) × (slice_get xs i ≡ Some x)
there_of xs i within (inl at) = (at.0, at.2)
there_of xs i within (inr past) = absurd (omega (arith, within, past.0))

-- one state more
pub states_next : (of : ℕ → Logged → List ℕ) (nodes : List Logged) (i : ℕ) (start now next : List ℕ) → i < length nodes
    → now ≡ start ++ each of (take i nodes) → ((l : Logged) → slice_get nodes i ≡ Some l → next ≡ now ++ of i l)
    → next ≡ start ++ each of (take (i + 1) nodes)
states_next of nodes i start now next within so_far more =
    let there = there_of nodes i within (slice_get_cases nodes i).1 in
    let l = there.0 in
    more l there.1 ∙ ap (λ t. t ++ of i l) so_far ∙ append_assoc start (each of (take i nodes)) (of i l)
    ∙ ap (λ (x : Logged). start ++ (each of (take i nodes) ++ of i x)) (sym (get_or_from_slice_get nodes i l l there.1))
    ∙ ap (λ t. start ++ t) (sym (each_more of nodes i l within))

-- there are as many nodes
pub as_many : (replay : Replay) (world : World) → IsReplay replay world → length replay.nodes.items ≡ length world.nodes
as_many replay world is =
    omega (arith, ap length is.nodes, length-map replay.nodes.items (λ (n : TracedNode). n.node), length-map world.nodes (λ (l : Logged). Some l.node))

-- a text that stands, and one behind it
pub add_text : {now next : List ℕ} (w a : List ℕ) → now ≡ w → next ≡ now ++ a → next ≡ w ++ a
add_text w a stands more = more ∙ ap (λ l. l ++ a) stands
