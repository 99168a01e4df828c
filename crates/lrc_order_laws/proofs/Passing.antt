-- What a turn does to the times that go by barriers: whose time is sent, kept, joined and learned.
use Rattle.std.proofs.Common.{◌≡◌, ℕ, ◌+◌, List, [], ◌∷◌, Bool, true, false, length, map, refl, sym, ap, subst, ◌∙◌}
use Rattle.std.specs.Prelude.{Option, Some, None, unwrap_or}
use Rattle.std.specs.List.{range_with_len}
use Rattle.std.proofs.lemmas.Option.{same_Some}
use Rattle.lrc_envelope.specs.Records.{ArriveRecord, DepartRecord}
use Rattle.lrc_envelope.specs.declared.message.Message.{Message}
use Rattle.lrc_envelope.specs.declared.message.Message.TheVariants.{LockRequest, LockForward, LockGrant, Arrive, Depart, Clean, Discard}
use Rattle.lrc_envelope.specs.declared.message.Message.TheVariants.{ChangesRequest, ChangesReply, PageRequest, PageReply}
use Rattle.lrc_exec.specs.Meaning.{Thread, arrives}
use Rattle.lrc_lock.specs.declared.state.Pass.{Pass}
use Rattle.lrc_barrier.specs.declared.departure.Departure.{Departure}
use Rattle.lrc_barrier.specs.Barrier.{ManagerRecord, waits, departs as all_depart, arrived}
use Rattle.lrc_protocol.specs.Locks.{Locks}
use Rattle.lrc_protocol.specs.Barriers.{arrival_in, Barrier}
use Rattle.lrc_protocol.specs.Node.{Letter, Wait, nothing, grant, departure, access, upkeep, discard}
use Rattle.lrc_protocol.specs.Turn.{letter, departure_of, discards_to}
use Rattle.lrc_protocol.specs.Node.{next_in}
use Rattle.lrc_order_laws.specs.Barriers.{says_arrive, says_depart, time_in}
use Rattle.lrc_order_laws.proofs.Sends.{Came, by_itself, comes, Site, is_other, AreOthers, Grants, Sends, plain, misses, takes, asks}
use Rattle.lrc_order_laws.proofs.Sends.{releasing, arriving, manages, forwarding, grants, gathers, lets_depart, departing, collecting}
use Rattle.lrc_order_laws.proofs.Sends.{clean_at_once, notes_clean, lets_discard, discarding, serves, accessing, still_misses, still_collects}
use Rattle.lrc_order_laws.proofs.Sends.{cleaning}
use Rattle.lrc_order_laws.proofs.Managers.{Noted, noted, LetDiscard, let_discard}

-- none of these letters is an Arrive or a Depart
abbrev pub AreQuiet : List Letter → Type 0
AreQuiet [] = Unit {0}
AreQuiet (l ∷ letters) = (says_arrive l.message ≡ false) × (says_depart l.message ≡ false) × AreQuiet letters

-- a manager has as many episodes over, and the same arrivals
pub record SameArrivals (before after : ManagerRecord) : Type 0 where
  pub done : after.done ≡ before.done
  pub arrivals : after.arrivals ≡ before.arrivals

abbrev pub Keeps : Option ManagerRecord → Option ManagerRecord → Type 0
Keeps before after = (manager : ManagerRecord) → ((x : ManagerRecord) → before ≡ Some x → x ≡ manager) → SameArrivals manager (unwrap_or after manager)

pub data Passing (s : Site) : Came → Bool → Wait → Locks → Barrier → List Letter → Type 0 where
  -- the node arrives, with its time;
  arrives_so : (m : ArriveRecord) (after : Thread) {locks : Locks} {barrier : Barrier} → s.wait ≡ nothing → next_in s.course ≡ Some (arrives after)
      → m.time ≡ locks.time → barrier.manager ≡ s.barrier.manager → barrier.episode ≡ s.barrier.episode + 1
      → Passing s by_itself true departure locks barrier (letter 0 (Arrive m) ∷ [])
  -- it is told to depart, and learns this time;
  told_so : (from : ℕ) (m : DepartRecord) {acts : Bool} {wait : Wait} {locks : Locks} {letters : List Letter} → s.wait ≡ departure → (wait ≡ departure → ⊥)
      → ((t : List ℕ) → time_in wait ≡ Some t → m.time ≡ t) → AreQuiet letters → Passing s (comes from (Depart m)) acts wait locks s.barrier letters
  -- the manager keeps an arrival;
  gathers_so : (from : ℕ) (m : ArriveRecord) (before after : ManagerRecord) {barrier : Barrier} → s.barrier.manager ≡ Some before
      → arrived before from (arrival_in m) ≡ waits after → barrier.manager ≡ Some after → barrier.episode ≡ s.barrier.episode
      → Passing s (comes from (Arrive m)) false s.wait s.locks barrier []
  -- or with the last one tells all to depart;
  lets_depart_so : (from : ℕ) (m : ArriveRecord) (before after : ManagerRecord) (departures : List Departure) {barrier : Barrier}
      → s.barrier.manager ≡ Some before → length m.time ≡ s.nodes → arrived before from (arrival_in m) ≡ all_depart departures after
      → barrier.manager ≡ Some after → barrier.episode ≡ s.barrier.episode
      → Passing s (comes from (Arrive m)) false s.wait s.locks barrier (map departure_of departures)
  -- and all else leaves these times as they are
  other_so : {came : Came} {acts : Bool} {wait : Wait} {locks : Locks} {barrier : Barrier} {letters : List Letter} → AreQuiet letters
      → Keeps s.barrier.manager barrier.manager → barrier.episode ≡ s.barrier.episode
      → (wait ≡ departure → (s.wait ≡ departure) × (acts ≡ false)) → (s.wait ≡ departure → locks.time ≡ s.locks.time)
      → ((t : List ℕ) → time_in wait ≡ Some t → time_in s.wait ≡ Some t) → Passing s came acts wait locks barrier letters

-- ---- letters

quiet_message : (message : Message) → is_other message ≡ true → (says_arrive message ≡ false) × (says_depart message ≡ false)
quiet_message (ChangesRequest m) e = (refl, refl)
quiet_message (ChangesReply m) e = (refl, refl)
quiet_message (PageRequest m) e = (refl, refl)
quiet_message (PageReply m) e = (refl, refl)
quiet_message _ e = cc

quiet_others : (letters : List Letter) → AreOthers letters → AreQuiet letters
quiet_others [] h = tt
quiet_others (l ∷ letters) h = let q : _ = quiet_message l.message h.0 in (q.0, q.1, quiet_others letters h.1)

quiet_grants : (pass : Option Pass) (letters : List Letter) → Grants pass letters → AreQuiet letters
quiet_grants None letters e = subst AreQuiet (sym e) tt
quiet_grants (Some pass) letters (intervals, e) = subst AreQuiet (sym e) (refl, refl, tt)

quiet_discards : (nodes : List ℕ) (episode : ℕ) → AreQuiet (discards_to nodes episode)
quiet_discards [] episode = tt
quiet_discards (to ∷ nodes) episode = (refl, refl, quiet_discards nodes episode)

-- ---- the manager

pub same_arrivals : (o : Option ManagerRecord) → Keeps o o
same_arrivals None = λ manager is. record { done = refl; arrivals = refl }
same_arrivals (Some x) = λ manager is. record {
  done = ap (λ (m : ManagerRecord). m.done) (is x refl);
  arrivals =
      ap (λ (m : ManagerRecord). m.arrivals) (is x refl);
}

noting_same : (o : Option ManagerRecord) (before after : ManagerRecord) → o ≡ Some before → SameArrivals before after → Keeps o (Some after)
noting_same o before after at same = λ manager is. record {
  done = same.done ∙ ap (λ (m : ManagerRecord). m.done) (is before at);
  arrivals = same.arrivals ∙ ap (λ (m : ManagerRecord). m.arrivals) (is before at);
}

-- ---- every turn

module _ (s : Site) where
  -- by what was awaited and is
  rests : (came : Came) (acts : Bool) (w wait : Wait) (locks : Locks) (letters : List Letter) → s.wait ≡ w → AreQuiet letters
      → (w ≡ departure → ⊥) → (wait ≡ departure → ⊥) → ((t : List ℕ) → time_in wait ≡ Some t → time_in w ≡ Some t)
      → Passing s came acts wait locks s.barrier letters
  rests came acts w wait locks letters e quiet ne no_wait times =
      other_so quiet (same_arrivals s.barrier.manager) refl (λ d. absurd (no_wait d)) (λ d. absurd (ne (sym e ∙ d)))
      (λ t is. ap time_in e ∙ times t is)

  -- the same wait and the same time
  pub serving : (came : Came) (locks : Locks) (barrier : Barrier) (letters : List Letter) → AreQuiet letters → Keeps s.barrier.manager barrier.manager
      → barrier.episode ≡ s.barrier.episode → locks.time ≡ s.locks.time → Passing s came false s.wait locks barrier letters
  serving came locks barrier letters quiet keeps episode time =
      other_so quiet keeps episode (λ d. (d, refl)) (λ d. time) (λ t is. is)

  pub passing : (came : Came) (acts : Bool) (wait : Wait) (locks : Locks) (barrier : Barrier) (letters : List Letter)
      → Sends s came acts wait locks barrier letters → Passing s came acts wait locks barrier letters
  passing _ _ _ locks _ letters (plain next w n plain_is others) =
      rests by_itself true nothing nothing locks letters w (quiet_others letters others) (λ d. cc) (λ d. cc) (λ t e. cc)
  passing _ _ _ locks _ letters (misses {need = need} w n others) =
      rests by_itself false nothing (access need) locks letters w (quiet_others letters others) (λ d. cc) (λ d. cc) (λ t e. cc)
  passing _ _ _ locks _ _ (takes lock w n free) = rests by_itself true nothing nothing locks [] w tt (λ d. cc) (λ d. cc) (λ t e. cc)
  passing _ _ _ locks _ letters (asks lock w n away) =
      rests by_itself false nothing (grant lock) locks letters w (refl, refl, tt) (λ d. cc) (λ d. cc) (λ t e. cc)
  passing _ _ _ locks _ letters (releasing lock next w n passed) =
      rests by_itself true nothing nothing locks letters w (quiet_grants _ letters passed) (λ d. cc) (λ d. cc) (λ t e. cc)
  passing _ _ _ locks _ _ (arriving next ask intervals w n) = arrives_so _ next w n refl refl refl
  passing _ _ _ locks barrier letters (manages from m lt counted mine) =
      serving (comes from (LockRequest m)) locks barrier letters (refl, refl, tt) (same_arrivals s.barrier.manager) refl refl
  passing _ _ _ locks barrier letters (forwarding from m lt asker counted managed taken passed) =
      serving (comes from (LockForward m)) locks barrier letters (quiet_grants _ letters passed) (same_arrivals s.barrier.manager) refl refl
  passing _ _ _ locks _ _ (grants from m lt w k) =
      rests (comes from (LockGrant m)) true (grant m.lock) nothing locks [] w tt (λ d. cc) (λ d. cc) (λ t e. cc)
  passing _ _ _ locks _ _ (gathers from m before after at counted step) = gathers_so from m before after at step refl refl
  passing _ _ _ locks _ _ (lets_depart from m before after departures at counted step) = lets_depart_so from m before after departures at counted step refl refl
  passing _ _ _ locks _ _ (departing from m a no_collection) = told_so from m a.wait (λ d. cc) (λ t e. cc) tt
  passing _ _ _ locks _ letters (collecting from m a collects same others) =
      told_so from m a.wait (λ d. cc) (λ t e. sym same ∙ same_Some _ t e) (quiet_others letters others)
  passing _ _ _ locks _ _ (clean_at_once from m a collects same) =
      told_so from m a.wait (λ d. cc) (λ t e. sym same ∙ same_Some _ t e) (refl, refl, tt)
  passing _ _ _ locks barrier _ (notes_clean from episode before after at step) =
      let g : Noted before from episode after = noted before from episode after step in
      serving (comes from (Clean episode)) locks barrier [] tt
      (noting_same s.barrier.manager before after at
      (record { done = ap (λ (m : ManagerRecord). m.done) g.after_is; arrivals = ap (λ (m : ManagerRecord). m.arrivals) g.after_is })) refl refl
  passing _ _ _ locks barrier letters (lets_discard from episode over before after at step) =
      let g : LetDiscard before from episode after over = let_discard before from episode after over step in
      serving (comes from (Clean episode)) locks barrier letters (quiet_discards (range_with_len 0 s.nodes) over)
      (noting_same s.barrier.manager before after at
      (record { done = ap (λ (m : ManagerRecord). m.done) g.after_is; arrivals = ap (λ (m : ManagerRecord). m.arrivals) g.after_is })) refl refl
  passing _ _ _ locks _ _ (discarding from episode collection w zero_is episode_is) =
      rests (comes from (Discard episode)) true (discard collection) nothing locks [] w tt (λ d. cc) (λ d. cc) (λ t e. cc)
  passing _ _ _ locks barrier letters (serves from message other others) =
      serving (comes from message) locks barrier letters (quiet_others letters others) (same_arrivals s.barrier.manager) refl refl
  passing _ _ _ locks _ _ (accessing from message need other w) =
      rests (comes from message) true (access need) nothing locks [] w tt (λ d. cc) (λ d. cc) (λ t e. cc)
  passing _ _ _ locks _ _ (still_misses from message before {need = need} other w) =
      rests (comes from message) false (access before) (access need) locks [] w tt (λ d. cc) (λ d. cc) (λ t e. cc)
  passing _ _ _ locks _ _ (still_collects from message before had {collection = c} {needs = ns} other w same) =
      rests (comes from message) false (upkeep before had) (upkeep c ns) locks [] w tt (λ d. cc) (λ d. cc)
      (λ t e. ap Some (sym same) ∙ e)
  passing _ _ _ locks _ letters (cleaning from message before had {collection = c} other w same) =
      rests (comes from message) false (upkeep before had) (discard c) locks letters w (refl, refl, tt) (λ d. cc) (λ d. cc)
      (λ t e. ap Some (sym same) ∙ e)
