-- In every run each message in flight, also one that was taken before, is from one of the nodes and to one of them.
use Rattle.std.proofs.Common.{◌≡◌, ℕ, zero, suc, ◌<◌, List, [], ◌∷◌, ◌++◌, length, map, refl, sym, ap, subst, ◌∙◌, ⊎_elim, arith}
use Rattle.std.specs.Prelude.{Some, Contains, remove, slice_get, slice_index}
use Rattle.std.specs.List.{range_with_len}
use Rattle.std.proofs.lemmas.List.{map-append}
use Rattle.std.proofs.lemmas.List.Elements.{Contains-append_cases}
use Rattle.std.proofs.lemmas.Option.{same_Some, slice_get_within}
use Rattle.lrc_program.specs.declared.Program.{Program}
use Rattle.lrc_exec.specs.Meaning.{Setting}
use Rattle.lrc_envelope.specs.Envelope.{EnvelopeRecord}
use Rattle.lrc_lock.specs.Lock.{manager_of}
use Rattle.lrc_barrier.specs.Barrier.{ManagerRecord}
use Rattle.lrc_protocol.specs.declared.event.Event.{Event}
use Rattle.lrc_protocol.specs.Node.{Node, OptionsRecord}
use Rattle.lrc_protocol.specs.Turn.{TurnRecord, done}
use Rattle.lrc_protocol.specs.Run.{Input, run, taken, Logged, outcome_of, World, Flying, fresh_world, run_of}
use Rattle.lrc_protocol.proofs.Induction.{Comes, named, delivered, repeated}
use Rattle.lrc_protocol.proofs.Ruled.{by_rule}
use Rattle.lrc_protocol.proofs.Turned.{Turned, Turns, turns}
use Rattle.lrc_protocol.proofs.Worlds.{fresh_at, run-whole}
use Rattle.lrc_order_laws.proofs.AllStand.{AllStand, all_stand, its_manager}
use Rattle.lrc_order_laws.proofs.Flows.{IsFromNode}
use Rattle.lrc_order_laws.proofs.Moves.{among_letters, sent_from}
use Rattle.lrc_order_laws.proofs.Numbers.{envelopes_in, marks, sent-envelopes}
use Rattle.lrc_order_laws.proofs.Shift.{AllFrom}
use Rattle.lrc_order_laws.proofs.Sends.{Came, by_itself, comes, letter_in, site_of, Sent, Sending, alone, repeats, anew, SendingIf, sendings}
use Rattle.lrc_order_laws.proofs.Reached.{KeptByReached, by_reached}
use Rattle.lrc_copies.proofs.Members.{Contains-first, Contains-later, cases_Contains, none_Contains}
use Rattle.lrc_node_laws.specs.Reached.{IsReached as IsReachedNode}
use Rattle.lrc_node_laws.proofs.Leads.{reached as reached_then}
use Rattle.lrc_node_laws.proofs.Tokened.{is_shaped}
use Rattle.lrc_reading_laws.proofs.Received.Receivers.{KnowsNodes, HasPlaces, ArePlaced, AreTo, letters-placed, still-knows, awaited-to, each-to}
use Rattle.lrc_reading_laws.proofs.Asked.Turns.{Asks, asks}
use Rattle.lrc_reading_laws.proofs.Asked.Wishes.{awaited, Steady}
use Rattle.lrc_reading_laws.proofs.Stamped.Asks.{no_waiters, none_some}
use Rattle.lrc_reading_laws.proofs.Stamped.Worlds.{Placed, placed, each_node}

-- ---- one turn

-- what a turn of a node sends is from it and to nodes, and the node knows none but nodes then
record TurnTo (node : Node) (turn : TurnRecord) (after : Node) : Type 0 where
  to : (e : EnvelopeRecord) → Contains turn.out e → (e.from ≡ node.setting.me) × (e.to < node.setting.nodes)
  knows : KnowsNodes node.setting.nodes after.locks

module _ (node : Node) (reached : IsReachedNode node) (here : node.setting.me < node.setting.nodes) (knows : KnowsNodes node.setting.nodes node.locks)
    (places : HasPlaces node.setting.nodes node.barrier) where
  sent-to : (came : Came) (turn : TurnRecord) (after : Node) → IsReachedNode after → after.setting ≡ node.setting → IsFromNode node.setting.nodes came
      → Sent node came turn after → Asks node came turn after → TurnTo node turn after
  sent-to came turn after reached_after same f k a = record {
    to = λ e there. (
      sent_from node.setting.me turn.out e (subst (λ (s : Setting). AllFrom s.me turn.out) same k.from) there,
      each-to node.setting.me node.setting.nodes here came f (map letter_in turn.out) (awaited node.mail.wait) (awaited after.mail.wait)
          (subst (λ ls. Steady node.setting.me came ls (awaited node.mail.wait) (awaited after.mail.wait)) (sym a.out) a.steady)
          (subst (λ (s : Setting). AreTo s.nodes (awaited after.mail.wait)) same (awaited-to after reached_after))
          (subst (ArePlaced node.setting.nodes) (sym k.out)
          (letters-placed (site_of node) here knows places came k.acts after.mail.wait after.locks after.barrier k.letters k.sent))
          (letter_in e) (among_letters turn.out e there),
    );
    knows = still-knows (site_of node) here knows came k.acts after.mail.wait after.locks after.barrier k.letters f k.sent;
  }

  turn-to : (input : Input) (turn : TurnRecord) (after : Node) → IsReachedNode after → after.setting ≡ node.setting
      → outcome_of node input ≡ done turn after → Sending node input turn after → TurnTo node turn after
  turn-to _ turn after reached_after same is (alone k) =
      sent-to by_itself turn after reached_after same tt k (asks node run turn after reached (by_rule node run turn after is))
  turn-to _ _ _ reached_after same is (repeats e again) = record { to = λ x there. absurd (none_Contains x there); knows = knows }
  turn-to _ turn after reached_after same is (anew e to from new k) =
      sent-to (comes e.from e.message) turn after reached_after same from k
      (asks node (taken e) turn after reached (by_rule node (taken e) turn after is) new)

-- ---- what is in flight

pub in_flight : (flight : List Flying) (place : ℕ) (f : Flying) → slice_get flight place ≡ Some f → Contains (envelopes_in flight) f.envelope
in_flight [] place f at = cc
in_flight (x ∷ flight) zero f at =
    subst (λ (y : Flying). Contains (envelopes_in (x ∷ flight)) y.envelope) (same_Some x f at) (Contains-first x.envelope (envelopes_in flight))
in_flight (x ∷ flight) (suc place) f at = Contains-later x.envelope (envelopes_in flight) f.envelope (in_flight flight place f at)

-- what stays in flight when a message comes was there
removed : (flight : List Flying) (place : ℕ) (e : EnvelopeRecord) → Contains (envelopes_in (remove flight place)) e → Contains (envelopes_in flight) e
removed [] zero e there = there
removed [] (suc place) e there = there
removed (f ∷ flight) zero e there = Contains-later f.envelope (envelopes_in flight) e there
removed (f ∷ flight) (suc place) e there =
    ⊎_elim
    (λ (first : f.envelope ≡ e).
    subst (λ x. Contains (envelopes_in (f ∷ flight)) x) first (Contains-first f.envelope (envelopes_in flight)))
    (λ (later : Contains (envelopes_in (remove flight place)) e).
    Contains-later f.envelope (envelopes_in flight) e (removed flight place e later))
    (cases_Contains f.envelope (envelopes_in (remove flight place)) e there)

was_there : (world : World) (n : ℕ) (input : Input) (flight : List Flying) → Comes world n input flight → (e : EnvelopeRecord)
    → Contains (envelopes_in flight) e → Contains (envelopes_in world.flight) e
was_there world n input flight named e there = there
was_there world _ _ _ (delivered place at) e there = removed world.flight place e there
was_there world _ _ _ (repeated place at) e there = subst (λ es. Contains es e) (marks 0 place world.flight) there

-- ---- the start

managers-below : (nodes : ℕ) (locks : List ℕ) (k : ℕ) → 0 < nodes → slice_index (map (manager_of nodes) locks) k < nodes
managers-below nodes [] k some = some
managers-below nodes (lock ∷ locks) zero some = omega (arith, some)
managers-below nodes (lock ∷ locks) (suc k) some = managers-below nodes locks k some

-- ---- every run

module _ (program : Program) (nodes : ℕ) (options : OptionsRecord) where
  -- each message in flight goes from node to node, and the nodes know none but nodes
  pub record AllTo (world : World) : Type 0 where
    pub to : (e : EnvelopeRecord) → Contains (envelopes_in world.flight) e → (e.from < nodes) × (e.to < nodes)
    pub knows : (n : ℕ) (l : Logged) → slice_get world.nodes n ≡ Some l → KnowsNodes nodes l.node.locks

  to-kept : KeptByReached program nodes options AllTo
  to-kept world flight n l after input entry at come i r r' h =
      let p : Placed nodes n l.node = placed program nodes options world r n l at in
      let t : Turned l.node entry.turn after.node = subst (Turns l.node) i.turn_is (turns l.node input) in
      let stand : AllStand program nodes options world = all_stand program nodes options r.events world r.runs in
      let turn : TurnTo l.node entry.turn after.node =
      turn-to l.node p.reached (subst (λ k. l.node.setting.me < k) (sym p.count) (subst (λ k. k < nodes) (sym p.me) p.within))
      (subst (λ k. KnowsNodes k l.node.locks) (sym p.count) (h.knows n l at))
      (λ manager is.
      ap (λ (m : ManagerRecord). length m.arrivals) (its_manager program nodes options world stand n l at manager is) ∙ stand.places.arrivals ∙ sym p.count)
      input entry.turn after.node (reached_then l.node input entry.turn after.node p.reached i.turn_is) t.setting i.turn_is
      (subst (SendingIf l.node input) i.turn_is (sendings l.node input (is_shaped l.node p.reached))) in
      record {
        to = λ e there. ⊎_elim
            (λ (old : Contains (envelopes_in flight) e). h.to e (was_there world n input flight come e old))
            (λ (new : Contains entry.turn.out e).
            let it : _ = turn.to e new in
            (subst (λ k. k < nodes) (sym (it.0 ∙ p.me)) p.within, subst (λ k. e.to < k) p.count it.1))
            (Contains-append_cases (envelopes_in flight) entry.turn.out e
            (subst (λ es. Contains es e)
            (map-append (λ (f : Flying). f.envelope) flight _ ∙ ap (λ es. envelopes_in flight ++ es) (sent-envelopes entry.stamp entry.turn.out)) there));
        knows = each_node (λ q lq. KnowsNodes nodes lq.node.locks) world n l after at
            (subst (λ k. KnowsNodes k after.node.locks) p.count turn.knows) h.knows;
      }

  to-fresh : AllTo (fresh_world program nodes options)
  to-fresh = record {
    to = λ e there. absurd (none_Contains e there);
    knows = λ n l at.
        let within : n < nodes =
        subst (λ k. n < k) (run-whole program nodes options [] (fresh_world program nodes options) refl).count (slice_get_within _ n l at) in
        let some : 0 < nodes = omega (arith, within) in
        let is : _ = fresh_at program nodes options 0 nodes n l at in
        subst (λ (x : Logged). KnowsNodes nodes x.node.locks) (sym is) (record {
          recent = λ k. managers-below nodes (range_with_len 0 program.locks) k some;
          waiters = λ k w e. none_some (w.node < nodes) w (sym (no_waiters _ nodes (range_with_len 0 program.locks) k) ∙ e);
        });
  }

  pub all_to : (events : List Event) (world : World) → run_of program nodes options events ≡ Some world → AllTo world
  all_to events world e = by_reached program nodes options AllTo to-kept events world to-fresh e
