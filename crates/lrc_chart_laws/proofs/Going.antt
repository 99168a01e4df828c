-- What an event does to the logs of the nodes, and the turn that it makes.
use Rattle.std.proofs.Common.{◌≡◌, ◌∙◌, ℕ, List, [], ◌∷◌, ◌++◌, Bool, true, false, cond, Option, None, Some, refl, sym, ap}
use Rattle.std.specs.Prelude.{nat_le, remove, slice_get, slice_set}
use Rattle.std.proofs.lemmas.Option.{same_Some}
use Rattle.lrc_protocol.specs.declared.event.Event.{Event}
use Rattle.lrc_protocol.specs.declared.event.Event.TheVariants as events
use Rattle.lrc_protocol.specs.Node.{Node}
use Rattle.lrc_protocol.specs.Turn.{done, not_ready, Outcome, TurnRecord, unexpected, worn}
use Rattle.lrc_protocol.specs.Run.{after_input, delivers, EntryRecord, event_on, Flying, Input, input_to, Logged, logging, MOST_STAMP, next_stamp, outcome_of, with_mark, with_turn, World}
use Rattle.lrc_protocol.specs.Run as log
use Rattle.lrc_replay.specs.Turns.{Turn, turn_by, turn_done, turn_taking, turn_with}
use Rattle.lrc_world.specs.Turned.{node_by, node_if, taker, turner}

-- An event makes no turn, and the world stays; or a node makes one: an entry for it stands behind the node's log.
pub data Goes (world next : World) : List Turn → Option ℕ → Type 0 where
  stays : next ≡ world → Goes world next [] None
  makes : (turn : Turn) (l after : Logged) (entry : EntryRecord) → slice_get world.nodes turn.node ≡ Some l → entry.input ≡ turn.input
      → entry.turn ≡ turn.made → after.log ≡ l.log ++ entry ∷ [] → next.nodes ≡ slice_set world.nodes turn.node after
      → Goes world next (turn ∷ []) (Some turn.node)

module _ (world next : World) (event : Event) (flight : List Flying) (n : ℕ) (input : Input) (came : ℕ) where
  entered_goes : (l : Logged) (turn : TurnRecord) (post : Node) (stamp : ℕ) (fits : Bool) → slice_get world.nodes n ≡ Some l
      → after_input world flight n (cond fits
      (log.logged (record { input = input; stamp = stamp; turn = turn }) (record { node = post; log = l.log ++ record { input = input; stamp = stamp; turn = turn } ∷ [] }))
      log.too_large)
      ≡ Some next
      → Goes world next (turn_done world event n input (done turn post)) (node_if n (cond fits
      (log.logged (record { input = input; stamp = stamp; turn = turn }) (record { node = post; log = l.log ++ record { input = input; stamp = stamp; turn = turn } ∷ [] }))
      log.too_large))
  entered_goes l turn post stamp true there goes =
      let entry : EntryRecord = record { input = input; stamp = stamp; turn = turn } in
      let after : Logged = record { node = post; log = l.log ++ entry ∷ [] } in
      let is : with_turn world flight n entry after ≡ next = same_Some (with_turn world flight n entry after) next goes in
      makes (record { before = world; event = event; node = n; input = input; made = turn; after = post }) l after entry there refl refl refl
      (ap (λ (w : World). w.nodes) (sym is))
  entered_goes l turn post stamp false there goes = cc

  by_outcome : (l : Logged) (outcome : Outcome) → slice_get world.nodes n ≡ Some l
      → after_input world flight n (logging input (next_stamp l.log came) l.log outcome) ≡ Some next
      → Goes world next (turn_done world event n input outcome) (node_if n (logging input (next_stamp l.log came) l.log outcome))
  by_outcome l (done turn post) there goes =
      entered_goes l turn post (next_stamp l.log came) (nat_le (next_stamp l.log came) MOST_STAMP) there goes
  by_outcome l not_ready there goes = stays (sym (same_Some world next goes))
  by_outcome l unexpected there goes = stays (sym (same_Some world next goes))
  by_outcome l worn there goes = cc

  by_node : (o : Option Logged) → slice_get world.nodes n ≡ o → input_to world flight n input came o ≡ Some next
      → Goes world next (turn_with world event n input o) (node_by n input came o)
  by_node None there goes = stays (sym (same_Some world next goes))
  by_node (Some l) there goes = by_outcome l (outcome_of l.node input) there goes

by_message : (world next : World) (event : Event) (flight : List Flying) (o : Option Flying) → delivers world flight o ≡ Some next
    → Goes world next (turn_taking world event o) (taker world o)
by_message world next event flight None goes = stays (sym (same_Some world next goes))
by_message world next event flight (Some sent) goes =
    by_node world next event flight sent.envelope.to (log.taken sent.envelope) sent.stamp (slice_get world.nodes sent.envelope.to) refl goes

pub by_event : (world next : World) (event : Event) → event_on world event ≡ Some next → Goes world next (turn_by world event) (turner world event)
by_event world next (events.Run n) goes = by_node world next (events.Run n) world.flight n log.run 0 (slice_get world.nodes n) refl goes
by_event world next (events.Deliver place) goes =
    by_message world next (events.Deliver place) (remove world.flight place) (slice_get world.flight place) goes
by_event world next (events.Repeat place) goes =
    by_message world next (events.Repeat place) (with_mark world.flight place) (slice_get world.flight place) goes
