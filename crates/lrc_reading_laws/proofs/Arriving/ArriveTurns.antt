-- What a turn does to what its node told with its arrivals, and to what the manager notes of each node's newest arrival.
use Rattle.std.proofs.Common.{◌≡◌, ℕ, List, [], ◌∷◌, Bool, map, refl, sym, ap, subst, ◌∙◌, append-nil}
use Rattle.std.specs.Prelude.{Option, Some, None, unwrap_or, slice_set}
use Rattle.std.specs.List.{range_with_len}
use Rattle.lrc_exec.specs.Meaning.{Setting}
use Rattle.lrc_time.specs.Time.{entry}
use Rattle.lrc_envelope.specs.Envelope.{EnvelopeRecord}
use Rattle.lrc_envelope.specs.Records.{ArriveRecord}
use Rattle.lrc_envelope.specs.declared.message.Message.TheVariants.{LockRequest, LockForward, LockGrant, Arrive, Depart, Discard}
use Rattle.lrc_barrier.specs.Barrier.{ManagerRecord}
use Rattle.lrc_protocol.specs.Locks.{Locks}
use Rattle.lrc_protocol.specs.Barriers.{arrival_in, Barrier}
use Rattle.lrc_protocol.specs.Node.{Letter, Wait, nothing, Node}
use Rattle.lrc_protocol.specs.Turn.{TurnRecord}
use Rattle.lrc_order_laws.proofs.Shift.{AllFrom}
use Rattle.lrc_order_laws.proofs.Managers.{Gathered, gathered, LetGo, let_go, Noted, noted, LetDiscard, let_discard}
use Rattle.lrc_order_laws.proofs.Flows.{Brings, IsFromNode, Stepped, again, once}
use Rattle.lrc_order_laws.proofs.Pending.{Goes}
use Rattle.lrc_order_laws.proofs.Sends.{Came, by_itself, comes, Site, site_of, letter_in, Sends, plain, misses, takes, asks}
use Rattle.lrc_order_laws.proofs.Sends.{releasing, arriving, manages, forwarding, grants, gathers, lets_depart, departing, collecting}
use Rattle.lrc_order_laws.proofs.Sends.{clean_at_once, notes_clean, lets_discard, discarding, serves, accessing, still_misses, still_collects}
use Rattle.lrc_order_laws.proofs.Sends.{cleaning}
use Rattle.lrc_reading_laws.proofs.Stamped.Bars.{NoArrives, NotArrive, others-none, grants-none, departures-none, discards-none, other-not}

-- With nothing of arrivals; the node arrives; or the manager notes an arrival.
pub data Arriving (s : Site) (manager : ManagerRecord) : Came → Barrier → List Letter → Type 0 where
  calm : {came : Came} {barrier : Barrier} {letters : List Letter} → NotArrive came → NoArrives letters → barrier.sent ≡ s.barrier.sent
      → (unwrap_or barrier.manager manager).last ≡ manager.last → Arriving s manager came barrier letters
  arrives : (m : ArriveRecord) {barrier : Barrier} (to : ℕ) → s.wait ≡ nothing → (unwrap_or barrier.manager manager).last ≡ manager.last
      → Arriving s manager by_itself barrier ((record { to = to; message = Arrive m }) ∷ [])
  notes_one : (from : ℕ) (m : ArriveRecord) {barrier : Barrier} {letters : List Letter} → NoArrives letters → barrier.sent ≡ s.barrier.sent
      → (unwrap_or barrier.manager manager).last ≡ slice_set manager.last from (entry m.time from)
      → Arriving s manager (comes from (Arrive m)) barrier letters

module _ (s : Site) (manager : ManagerRecord) (is : (x : ManagerRecord) → s.barrier.manager ≡ Some x → x ≡ manager) where
  same_last : (o : Option ManagerRecord) → s.barrier.manager ≡ o → (unwrap_or o manager).last ≡ manager.last
  same_last None at = refl
  same_last (Some x) at = ap (λ (m : ManagerRecord). m.last) (is x at)

  still : (came : Came) (letters : List Letter) → NotArrive came → NoArrives letters → Arriving s manager came s.barrier letters
  still came letters other quiet = calm other quiet refl (same_last s.barrier.manager refl)

  pub arriving_turn : (came : Came) (acts : Bool) (wait : Wait) (locks : Locks) (barrier : Barrier) (letters : List Letter)
      → Sends s came acts wait locks barrier letters → Arriving s manager came barrier letters
  arriving_turn _ _ _ _ _ letters (plain next w n p o) = still by_itself letters tt (others-none letters o)
  arriving_turn _ _ _ _ _ letters (misses w n o) = still by_itself letters tt (others-none letters o)
  arriving_turn _ _ _ _ _ letters (takes lock w n f) = still by_itself letters tt tt
  arriving_turn _ _ _ _ _ letters (asks lock w n f) = still by_itself letters tt (refl, tt)
  arriving_turn _ _ _ _ _ letters (releasing lock after w n g) = still by_itself letters tt (grants-none _ letters g)
  arriving_turn _ _ _ _ _ _ (arriving after ask intervals w n) = arrives _ 0 w (same_last s.barrier.manager refl)
  arriving_turn _ _ _ _ _ letters (manages from m lt long mine) = still (comes from (LockRequest m)) letters tt (refl, tt)
  arriving_turn _ _ _ _ _ letters (forwarding from m lt asker long mine t g) =
      still (comes from (LockForward m)) letters tt (grants-none _ letters g)
  arriving_turn _ _ _ _ _ letters (grants from m lt w k) = still (comes from (LockGrant m)) letters tt tt
  arriving_turn _ _ _ _ _ _ (gathers from m before after at long step) =
      let g : Gathered manager from (arrival_in m) after =
      subst (λ b. Gathered b from (arrival_in m) after) (is before at) (gathered before from (arrival_in m) after step) in
      notes_one from m tt refl (ap (λ (m : ManagerRecord). m.last) g.after_is)
  arriving_turn _ _ _ _ _ _ (lets_depart from m before after departures at long step) =
      let g : LetGo manager from (arrival_in m) after departures =
      subst (λ b. LetGo b from (arrival_in m) after departures) (is before at) (let_go before from (arrival_in m) after departures step) in
      notes_one from m (departures-none departures) refl (ap (λ (m : ManagerRecord). m.last) g.after_is)
  arriving_turn _ _ _ _ _ letters (departing from m a c) = still (comes from (Depart m)) letters tt tt
  arriving_turn _ _ _ _ _ letters (collecting from m a c t o) = still (comes from (Depart m)) letters tt (others-none letters o)
  arriving_turn _ _ _ _ _ letters (clean_at_once from m a c t) = still (comes from (Depart m)) letters tt (refl, tt)
  arriving_turn _ _ _ _ _ letters (notes_clean from episode before after at step) =
      let g : Noted before from episode after = noted before from episode after step in
      calm tt tt refl (ap (λ (m : ManagerRecord). m.last) g.after_is ∙ ap (λ (m : ManagerRecord). m.last) (is before at))
  arriving_turn _ _ _ _ _ letters (lets_discard from episode over before after at step) =
      let g : LetDiscard before from episode after over = let_discard before from episode after over step in
      calm tt (discards-none (range_with_len 0 s.nodes) over) refl
      (ap (λ (m : ManagerRecord). m.last) g.after_is ∙ ap (λ (m : ManagerRecord). m.last) (is before at))
  arriving_turn _ _ _ _ _ letters (discarding from episode collection w z e) = still (comes from (Discard episode)) letters tt tt
  arriving_turn _ _ _ _ _ letters (serves from message o a) = still (comes from message) letters (other-not from message o) (others-none letters a)
  arriving_turn _ _ _ _ _ letters (accessing from message need o w) = still (comes from message) letters (other-not from message o) tt
  arriving_turn _ _ _ _ _ letters (still_misses from message before o w) = still (comes from message) letters (other-not from message o) tt
  arriving_turn _ _ _ _ _ letters (still_collects from message before had o w t) =
      still (comes from message) letters (other-not from message o) tt
  arriving_turn _ _ _ _ _ letters (cleaning from message before had o w t) =
      still (comes from message) letters (other-not from message o) (refl, tt)

-- a turn, a repeat too
pub record ArriveStep (node : Node) (manager : ManagerRecord) (was now : List EnvelopeRecord) (turn : TurnRecord) (after : Node) : Type 0 where
  pub came : Came
  pub o : Option EnvelopeRecord
  pub brings : Brings node.setting.me came o
  pub sender : IsFromNode node.setting.nodes came
  pub goes : Goes o was turn.out now
  pub letters : List Letter
  pub out : map letter_in turn.out ≡ letters
  pub from : AllFrom node.setting.me turn.out
  pub arriving_is : Arriving (site_of node) manager came after.barrier letters

pub arrive_step : (node : Node) (manager : ManagerRecord) (is : (x : ManagerRecord) → node.barrier.manager ≡ Some x → x ≡ manager)
    (was now : List EnvelopeRecord) (turn : TurnRecord) (after : Node) → after.setting ≡ node.setting → Stepped node was now turn after
    → ArriveStep node manager was now turn after
arrive_step node manager is was now _ _ set (again e) = record {
  came = by_itself;
  o = None;
  brings = tt;
  sender = tt;
  goes = e ∙ sym (append-nil was);
  letters = [];
  out = refl;
  from = tt;
  arriving_is = still (site_of node) manager is by_itself [] tt tt;
}
arrive_step node manager is was now turn after set (once came o brings from sent goes) = record {
  came = came;
  o = o;
  brings = brings;
  sender = from;
  goes = goes;
  letters = sent.letters;
  out = sent.out;
  from = subst (λ (s : Setting). AllFrom s.me turn.out) set sent.from;
  arriving_is = arriving_turn (site_of node) manager is came sent.acts after.mail.wait after.locks after.barrier sent.letters sent.sent;
}
