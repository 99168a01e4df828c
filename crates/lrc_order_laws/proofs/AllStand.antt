-- In every run: where each node stands at the barrier.
use Rattle.std.proofs.Common.{◌≡◌, ℕ, zero, suc, ◌<◌, List, [], Bool, true, false, length, is_some, refl, sym, ap, subst, ◌∙◌, inl, inr, arith}
use Rattle.std.specs.Prelude.{Option, Some, None, ◌==◌, unwrap_or, slice_get, slice_set, if◌then◌else◌}
use Rattle.std.proofs.lemmas.Bool.{cases_eq, ne_eqb}
use Rattle.std.proofs.lemmas.List.{length-set, length-replicate}
use Rattle.std.proofs.lemmas.Option.{same_Some, slice_get_within}
use Rattle.lrc_program.specs.declared.Program.{Program}
use Rattle.lrc_time.proofs.Times.{length-zeros}
use Rattle.lrc_envelope.specs.Envelope.{EnvelopeRecord}
use Rattle.lrc_barrier.specs.declared.arrival.Arrival.{Arrival}
use Rattle.lrc_barrier.specs.Barrier.{ManagerRecord, first_manager}
use Rattle.lrc_exec.specs.Meaning.{Setting}
use Rattle.lrc_exec.specs.Plain.{setting_of}
use Rattle.lrc_protocol.specs.declared.event.Event.{Event}
use Rattle.lrc_protocol.specs.Locks.{Locks}
use Rattle.lrc_protocol.specs.Barriers.{Barrier}
use Rattle.lrc_protocol.specs.Node.{Wait, Letter, Node, OptionsRecord, fresh_node}
use Rattle.lrc_protocol.specs.Turn.{TurnRecord}
use Rattle.lrc_protocol.specs.Run.{Logged, World, fresh_world, with_turn, run_of}
use Rattle.lrc_protocol.specs.Follows.{pending}
use Rattle.lrc_protocol.proofs.Worlds.{run-whole, get_set_same, get_set_other, fresh_at}
use Rattle.lrc_protocol.proofs.Turned.{Turned, Turns, turns}
use Rattle.lrc_order_laws.specs.Barriers.{kept_of, StandsAt}
use Rattle.lrc_order_laws.proofs.Shift.{AllFrom}
use Rattle.lrc_order_laws.proofs.Shape.{NodeShape, shape_at}
use Rattle.lrc_order_laws.proofs.Sends.{Came, Site, site_of, Sends, gathers, lets_depart, notes_clean, lets_discard}
use Rattle.lrc_order_laws.proofs.Flows.{IsFromNode, Stepped, again, once, stepped, counts}
use Rattle.lrc_order_laws.proofs.Managers.{Places}
use Rattle.lrc_order_laws.proofs.Standing.{same_manager, After, standing}
use Rattle.lrc_order_laws.proofs.Reached.{KeptByReached, by_reached}

-- a node has a manager after a turn exactly where it had one before
manager_stays : (s : Site) (came : Came) (acts : Bool) (wait : Wait) (locks : Locks) (barrier : Barrier) (letters : List Letter)
    → Sends s came acts wait locks barrier letters → is_some barrier.manager ≡ is_some s.barrier.manager
manager_stays s _ _ _ _ _ _ (gathers from m before after at counted step) = sym (ap is_some at)
manager_stays s _ _ _ _ _ _ (lets_depart from m before after departures at counted step) = sym (ap is_some at)
manager_stays s _ _ _ _ _ _ (notes_clean from episode before after at step) = sym (ap is_some at)
manager_stays s _ _ _ _ _ _ (lets_discard from episode over before after at step) = sym (ap is_some at)
manager_stays s _ _ _ _ _ _ _ = refl

stays_none : (o : Option ManagerRecord) → is_some o ≡ false → o ≡ None
stays_none None e = refl
stays_none (Some m) e = cc

stays_some : (o : Option ManagerRecord) (manager : ManagerRecord) → is_some o ≡ true → o ≡ Some (unwrap_or o manager)
stays_some None manager e = cc
stays_some (Some m) manager e = refl

-- one turn of a node
record Turns_so (node after : Node) (nodes : ℕ) (within : node.setting.me < nodes) (manager : ManagerRecord) (was now : List EnvelopeRecord) : Type 0 where
  new : After (site_of node) nodes within manager was now (unwrap_or after.barrier.manager manager) after.mail.wait after.barrier.episode
  stays : is_some after.barrier.manager ≡ is_some node.barrier.manager

turn_so : (node after : Node) (turn : TurnRecord) (nodes : ℕ) (within : node.setting.me < nodes) (manager : ManagerRecord) (was now : List EnvelopeRecord)
    → node.setting.nodes ≡ nodes → ((before : ManagerRecord) → node.barrier.manager ≡ Some before → before ≡ manager) → Places nodes manager
    → after.setting ≡ node.setting → Stepped node was now turn after → Turns_so node after nodes within manager was now
turn_so node _ _ nodes within manager was now nodes_is is places same (again e) = record {
  new =
      subst (λ new. After (site_of node) nodes within manager was now new node.mail.wait node.barrier.episode) (same_manager node.barrier.manager manager is)
      (subst (λ now. After (site_of node) nodes within manager was now manager node.mail.wait node.barrier.episode) (sym e)
      (record { places = places; kept = record { own = λ h. h; other = λ m w e lt ne h. h } }));
  stays = refl;
}
turn_so node after turn nodes within manager was now nodes_is is places same (once came o brings from sent goes) = record {
  new =
      standing (site_of node) nodes within manager was now is places nodes_is came sent.acts after.mail.wait after.locks after.barrier sent.letters sent.sent
      (subst (λ n. IsFromNode n came) nodes_is from)
      (λ test. counts test node.setting.me came o was now turn.out sent.letters brings goes
      (subst (λ (s : Setting). AllFrom s.me turn.out) same sent.from) sent.out);
  stays = manager_stays (site_of node) came sent.acts after.mail.wait after.locks after.barrier sent.letters sent.sent;
}

module _ (program : Program) (nodes : ℕ) (options : OptionsRecord) where
  pub record AllStand (world : World) : Type 0 where
    pub manager : ManagerRecord
    pub count : length world.nodes ≡ nodes
    pub places : Places nodes manager
    pub here : (l : Logged) → slice_get world.nodes 0 ≡ Some l → l.node.barrier.manager ≡ Some manager
    pub nowhere : (n : ℕ) (l : Logged) → slice_get world.nodes n ≡ Some l → (n ≡ 0 → ⊥) → l.node.barrier.manager ≡ None
    pub each : (n : ℕ) (l : Logged) → slice_get world.nodes n ≡ Some l → StandsAt (pending world) manager n l.node.mail.wait l.node.barrier.episode

  -- the manager of a node is the one that all speak of
  pub its_manager : (world : World) (h : AllStand world) (n : ℕ) (l : Logged) → slice_get world.nodes n ≡ Some l
      → (before : ManagerRecord) → l.node.barrier.manager ≡ Some before → before ≡ h.manager
  its_manager world h n l at before is = elim (cases_eq n 0) [
    | inl e ↦ same_Some before h.manager (sym is ∙ h.here l (subst (λ n. slice_get world.nodes n ≡ Some l) e at))
    | inr ne ↦ absurd (none_some before (sym (h.nowhere n l at ne) ∙ is))
  ]
    where
      none_some : (x : ManagerRecord) → None ≡ Some x → ⊥
      none_some x e = cc

  all-kept : KeptByReached program nodes options AllStand
  all-kept world flight n l after input entry at come i r r' h =
      let own : NodeShape (setting_of program nodes n) options _ = shape_at program nodes options r.events world n l r.runs at in
      let t : Turned l.node entry.turn after.node = subst (Turns l.node) i.turn_is (turns l.node input) in
      let me_is : l.node.setting.me ≡ n = ap (λ (s : Setting). s.me) own.setting in
      let lt : n < nodes = subst (λ k. n < k) h.count (slice_get_within world.nodes n l at) in
      let within : l.node.setting.me < nodes = subst (λ k. k < nodes) (sym me_is) lt in
      let now : List EnvelopeRecord = pending (with_turn world flight n entry after) in
      let so : Turns_so l.node after.node nodes within h.manager (pending world) now =
      turn_so l.node after.node entry.turn nodes within h.manager (pending world) now (ap (λ (s : Setting). s.nodes) own.setting)
      (its_manager world h n l at) h.places t.setting
      (stepped program nodes options world flight n l after input entry at come i r) in
      let new : ManagerRecord = unwrap_or after.node.barrier.manager h.manager in
      record {
        manager = new;
        count = length-set world.nodes n after ∙ h.count;
        places = so.new.places;
        here = λ lm is. elim (cases_eq n 0) [
          | inl e ↦
              let same : after ≡ lm =
              same_Some after lm (sym (get_set_same world.nodes n l after at) ∙ ap (slice_get (slice_set world.nodes n after)) e ∙ is) in
              let some : is_some after.node.barrier.manager ≡ true =
              so.stays ∙ ap is_some (h.here l (subst (λ n. slice_get world.nodes n ≡ Some l) e at)) in
              subst (λ (x : Logged). x.node.barrier.manager ≡ Some new) same (stays_some after.node.barrier.manager h.manager some)
          | inr ne ↦
              let none : after.node.barrier.manager ≡ None = stays_none after.node.barrier.manager (so.stays ∙ ap is_some (h.nowhere n l at ne)) in
              h.here lm (sym (get_set_other world.nodes n 0 after ne) ∙ is) ∙ ap (λ o. Some (unwrap_or o h.manager)) (sym none)
        ];
        nowhere = λ m lm is other. elim (cases_eq n m) [
          | inl e ↦
              let same : after ≡ lm =
              same_Some after lm (sym (get_set_same world.nodes n l after at) ∙ ap (slice_get (slice_set world.nodes n after)) e ∙ is) in
              subst (λ (x : Logged). x.node.barrier.manager ≡ None) same
              (stays_none after.node.barrier.manager (so.stays ∙ ap is_some (h.nowhere n l at (λ zero_is. other (sym e ∙ zero_is)))))
          | inr ne ↦ h.nowhere m lm (sym (get_set_other world.nodes n m after ne) ∙ is) other
        ];
        each = λ m lm is. elim (cases_eq n m) [
          | inl e ↦
              let same : after ≡ lm =
              same_Some after lm (sym (get_set_same world.nodes n l after at) ∙ ap (slice_get (slice_set world.nodes n after)) e ∙ is) in
              subst (λ k. StandsAt now new k lm.node.mail.wait lm.node.barrier.episode) e
              (subst (λ (x : Logged). StandsAt now new n x.node.mail.wait x.node.barrier.episode) same
              (subst (λ k. StandsAt now new k after.node.mail.wait after.node.barrier.episode) me_is
              (so.new.kept.own (subst (λ k. StandsAt (pending world) h.manager k l.node.mail.wait l.node.barrier.episode) (sym me_is) (h.each n l at)))))
          | inr ne ↦
              let there : slice_get world.nodes m ≡ Some lm = sym (get_set_other world.nodes n m after ne) ∙ is in
              so.new.kept.other m lm.node.mail.wait lm.node.barrier.episode
              (subst (λ k. m < k) h.count (slice_get_within world.nodes m lm there)) (λ e. ne (sym me_is ∙ e)) (h.each m lm there)
        ];
      }

  none_there : (k m : ℕ) → kept_of (first_manager k) m ≡ 0
  none_there k m = at_first k m
    where
      no_arrival : Option Arrival
      no_arrival = None

      at_first : (k m : ℕ) → kept_of (first_manager k) m ≡ 0
      at_first zero m = refl
      at_first (suc k) zero = refl
      at_first (suc k) (suc m) = at_first k m

  fresh-stands : (n : ℕ)
      → StandsAt [] (first_manager nodes) n (fresh_node program nodes options n).mail.wait (fresh_node program nodes options n).barrier.episode
  fresh-stands n =
      let none : kept_of (first_manager nodes) n ≡ 0 = none_there nodes n in
      record { arrived = omega (arith, none); departs = omega (arith, none); discards = refl }

  fresh_place : (n : ℕ) (l : Logged) → slice_get (fresh_world program nodes options).nodes n ≡ Some l
      → l ≡ record { node = fresh_node program nodes options n; log = [] }
  fresh_place n l is =
      fresh_at program nodes options 0 nodes n l is ∙ ap (λ m. record { node = fresh_node program nodes options m; log = [] }) (omega arith)

  managed_by : (b : Bool) → b ≡ false → (if b then Some (first_manager nodes) else None) ≡ None
  managed_by true e = cc
  managed_by false e = refl

  all-fresh : AllStand (fresh_world program nodes options)
  all-fresh = record {
    manager = first_manager nodes;
    count = (run-whole program nodes options [] (fresh_world program nodes options) refl).count;
    places = record { last = length-zeros nodes; arrivals = length-replicate nodes None; cleans = λ cleans e. cc };
    here = λ l is. subst (λ (x : Logged). x.node.barrier.manager ≡ Some (first_manager nodes)) (sym (fresh_place 0 l is)) refl;
    nowhere = λ n l is ne.
        subst (λ (x : Logged). x.node.barrier.manager ≡ None) (sym (fresh_place n l is)) (managed_by (n == 0) (ne_eqb n 0 ne));
    each = λ n l is.
        subst (λ (x : Logged). StandsAt [] (first_manager nodes) n x.node.mail.wait x.node.barrier.episode) (sym (fresh_place n l is)) (fresh-stands n);
  }

  pub all_stand : (events : List Event) (world : World) → run_of program nodes options events ≡ Some world → AllStand world
  all_stand events world e = by_reached program nodes options AllStand all-kept events world all-fresh e
