-- Nodes that are ready, messages that come, and repeats.
use Rattle.std.proofs.Common.{◌≡◌, ℕ, zero, suc, List, [], ◌∷◌, ◌++◌, true, map, refl, sym, ap, subst, ◌∙◌, append-nil}
use Rattle.std.specs.Prelude.{Option, Some, None, ◌≢◌, remove, is_some, slice_get, slice_set, if◌then◌else◌}
use Rattle.std.specs.Option.{option_to_list}
use Rattle.std.proofs.lemmas.Option.{same_Some}
use Rattle.lrc_exec.specs.Meaning.{Next}
use Rattle.lrc_envelope.specs.Envelope.{EnvelopeRecord}
use Rattle.lrc_protocol.specs.declared.event.Event.TheVariants.{Deliver, Repeat}
use Rattle.lrc_protocol.specs.Node.{Node, Effect}
use Rattle.lrc_protocol.specs.Turn.{begins, run_effect, charged, TurnRecord, Outcome, done, not_ready, unexpected, worn}
use Rattle.lrc_protocol.specs.Turn.{turn_with, turn_or, turn_by, run_turn, take_turn, take_anew, empty_turn, is_ready, is_addressed, is_repeat}
use Rattle.lrc_protocol.specs.Run.{Input, taken, EntryRecord, Logged, Logging, logged, refused, too_large, outcome_of, logs}
use Rattle.lrc_protocol.specs.Run.{World, Flying, with_turn, with_mark, after_input, input_to, delivers, event_on}
use Rattle.lrc_protocol.proofs.Worlds.{Entries, logs-entries}

-- ---- readiness

turn_with-done : (effect : Effect) (n : _) → turn_with effect n ≢ not_ready
turn_with-done effect None e = cc
turn_with-done effect (Some (out, sent)) e = cc

turn_or-done : (o : Option Effect) → turn_or worn o ≢ not_ready
turn_or-done None e = cc
turn_or-done (Some effect) e = turn_with-done effect _ e

turn_by-done : (node : Node) (o : Option Next) → is_some o ≡ true → turn_by node o ≢ not_ready
turn_by-done node None s e = cc
turn_by-done node (Some next) s e = turn_or-done (run_effect (charged node next) next) e

pub ready-goes_on : (node : Node) → is_ready node ≡ true → run_turn node ≢ not_ready
ready-goes_on node s e = turn_by-done node (begins node) s e

-- ---- messages that come

-- a message that comes to a node
delivered : (world : World) (flight : List Flying) (o : Option Flying) (flying : Flying) (l : Logged) → o ≡ Some flying
    → slice_get world.nodes flying.envelope.to ≡ Some l
    → delivers world flight o ≡ after_input world flight flying.envelope.to (logs l (taken flying.envelope) flying.stamp)
delivered world flight o flying l at there =
    ap (delivers world flight) at ∙ ap (input_to world flight flying.envelope.to (taken flying.envelope) flying.stamp) there

-- ---- repeats

pub repeat-turn : (node : Node) (envelope : EnvelopeRecord) → is_addressed node envelope ≡ true → is_repeat node envelope ≡ true
    → take_turn node envelope ≡ done empty_turn node
repeat-turn node envelope a r =
    ap (λ b. if b then (if is_repeat node envelope then done empty_turn node else take_anew node envelope) else unexpected) a
    ∙ ap (λ b. if b then done empty_turn node else take_anew node envelope) r

-- the parts of a turn that is done
abbrev turn_part : Outcome → TurnRecord → TurnRecord
turn_part (done turn node) other = turn
turn_part not_ready other = other
turn_part unexpected other = other
turn_part worn other = other

abbrev node_part : Outcome → Node → Node
node_part (done turn node) other = node
node_part not_ready other = other
node_part unexpected other = other
node_part worn other = other

set_same : (xs : List Logged) (n : ℕ) (x y : Logged) → slice_get xs n ≡ Some x → y.node ≡ x.node
    → map (λ (l : Logged). l.node) (slice_set xs n y) ≡ map (λ (l : Logged). l.node) xs
set_same [] n x y at e = refl
set_same (z ∷ xs) zero x y at e = ap (λ m. m ∷ map (λ (l : Logged). l.node) xs) (e ∙ ap (λ (l : Logged). l.node) (sym (same_Some z x at)))
set_same (z ∷ xs) (suc n) x y at e = ap (λ ms. z.node ∷ ms) (set_same xs n x y at e)

-- the world after an input that is an empty turn
abbrev pub IsSame : World → World → Type 0
IsSame world after =
    (after.acts ≡ world.acts) × (after.times ≡ world.times)
    × (map (λ (l : Logged). l.node) after.nodes ≡ map (λ (l : Logged). l.node) world.nodes)

emptied : (world : World) (flight : List Flying) (n : ℕ) (l after : Logged) (entry : EntryRecord)
    → slice_get world.nodes n ≡ Some l → entry.turn ≡ empty_turn → after.node ≡ l.node → IsSame world (with_turn world flight n entry after)
emptied world flight n l after entry at t m = (
  ap (λ (turn : TurnRecord). world.acts ++ option_to_list turn.act) t ∙ append-nil world.acts,
  ap (λ (turn : TurnRecord). world.times ++ map (λ act. after.node.locks.time) (option_to_list turn.act)) t ∙ append-nil world.times,
  set_same world.nodes n l after at m,
)

same_after : (world : World) (flight : List Flying) (n : ℕ) (l : Logged) (input : Input) (r : Logging) (next : World)
    → slice_get world.nodes n ≡ Some l → outcome_of l.node input ≡ done empty_turn l.node → Entries l input r
    → after_input world flight n r ≡ Some next → IsSame world next
same_after world flight n l input (logged entry after) next at e i is =
    subst (IsSame world) (same_Some _ next is)
    (emptied world flight n l after entry at
    (ap (λ o. turn_part o empty_turn) (sym i.turn_is ∙ e))
    (ap (λ o. node_part o l.node) (sym i.turn_is ∙ e)))
same_after world flight n l input refused next at e i is = subst (IsSame world) (same_Some world next is) (refl, refl, refl)
same_after world flight n l input too_large next at e i is = cc

-- whatever becomes of the message: it is marked as taken, or leaves the flight
repeat-left : (world after : World) (flight : List Flying) (place : ℕ) (flying : Flying) (l : Logged) → slice_get world.flight place ≡ Some flying
    → slice_get world.nodes flying.envelope.to ≡ Some l → is_addressed l.node flying.envelope ≡ true
    → is_repeat l.node flying.envelope ≡ true → delivers world flight (slice_get world.flight place) ≡ Some after → IsSame world after
repeat-left world after flight place flying l at there a r e =
    same_after world flight flying.envelope.to l (taken flying.envelope) (logs l (taken flying.envelope) flying.stamp) after there
    (repeat-turn l.node flying.envelope a r)
    (logs-entries l (taken flying.envelope) flying.stamp)
    (sym (delivered world flight (slice_get world.flight place) flying l at there) ∙ e)

pub repeat-run : (world after : World) (place : ℕ) (flying : Flying) (l : Logged) → slice_get world.flight place ≡ Some flying
    → slice_get world.nodes flying.envelope.to ≡ Some l → is_addressed l.node flying.envelope ≡ true
    → is_repeat l.node flying.envelope ≡ true → event_on world (Repeat place) ≡ Some after → IsSame world after
repeat-run world after place flying l at there a r e = repeat-left world after (with_mark world.flight place) place flying l at there a r e

pub repeat-delivered : (world after : World) (place : ℕ) (flying : Flying) (l : Logged) → slice_get world.flight place ≡ Some flying
    → slice_get world.nodes flying.envelope.to ≡ Some l → is_addressed l.node flying.envelope ≡ true
    → is_repeat l.node flying.envelope ≡ true → event_on world (Deliver place) ≡ Some after → IsSame world after
repeat-delivered world after place flying l at there a r e = repeat-left world after (remove world.flight place) place flying l at there a r e
