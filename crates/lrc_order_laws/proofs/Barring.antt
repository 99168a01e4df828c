-- What a turn does to a collection: who is told of it, who is clean, and when it is over.
use Rattle.std.proofs.Common.{◌≡◌, ℕ, List, [], ◌∷◌, Bool, true, false, map, refl, sym, ap, ◌∙◌}
use Rattle.std.specs.Prelude.{Some}
use Rattle.std.specs.List.{range_with_len}
use Rattle.lrc_envelope.specs.Records.{ArriveRecord, DepartRecord}
use Rattle.lrc_envelope.specs.declared.message.Message.TheVariants.{Arrive, Depart, Clean, Discard}
use Rattle.lrc_barrier.specs.declared.departure.Departure.{Departure}
use Rattle.lrc_barrier.specs.Barrier.{ManagerRecord, waits, departs as all_depart, arrived, awaits, discards, cleaned}
use Rattle.lrc_protocol.specs.Pages.{Need}
use Rattle.lrc_protocol.specs.Locks.{Locks}
use Rattle.lrc_protocol.specs.Barriers.{arrival_in, Collection, Barrier}
use Rattle.lrc_protocol.specs.Node.{Letter, Wait, nothing, grant, departure, access, upkeep, discard}
use Rattle.lrc_protocol.specs.Turn.{letter, departure_of, discards_to}
use Rattle.lrc_order_laws.specs.Counts.{is_inside}
use Rattle.lrc_order_laws.specs.Barriers.{is_collecting}
use Rattle.lrc_order_laws.proofs.Sends.{Came, by_itself, comes, Site, Sends, plain, misses, takes, asks, releasing, arriving}
use Rattle.lrc_order_laws.proofs.Sends.{manages, forwarding, grants, gathers, lets_depart, departing, collecting, clean_at_once}
use Rattle.lrc_order_laws.proofs.Sends.{notes_clean, lets_discard, discarding, serves, accessing, still_misses, still_collects, cleaning}
use Rattle.lrc_order_laws.proofs.Standing.{Silent, silent_none, silent_one, silent_others, silent_grants}

pub data Barring (s : Site) : Came → Wait → Barrier → List Letter → Type 0 where
  -- the node arrives,
  arrives_at : (m : ArriveRecord) {barrier : Barrier} → s.wait ≡ nothing → m.episode ≡ barrier.episode
      → barrier.manager ≡ s.barrier.manager → Barring s by_itself departure barrier (letter 0 (Arrive m) ∷ [])
  -- the manager keeps an arrival, or with the last one lets all depart,
  gathers_at : (from : ℕ) (m : ArriveRecord) (before after : ManagerRecord) {barrier : Barrier} → s.barrier.manager ≡ Some before
      → arrived before from (arrival_in m) ≡ waits after → barrier.manager ≡ Some after → Barring s (comes from (Arrive m)) s.wait barrier []
  lets_depart_at : (from : ℕ) (m : ArriveRecord) (before after : ManagerRecord) (departures : List Departure) {barrier : Barrier}
      → s.barrier.manager ≡ Some before → arrived before from (arrival_in m) ≡ all_depart departures after → barrier.manager ≡ Some after
      → Barring s (comes from (Arrive m)) s.wait barrier (map departure_of departures)
  -- who is told departs, or collects, and perhaps is clean at once,
  departs_at : (from : ℕ) (m : DepartRecord) → s.wait ≡ departure → m.collect ≡ false → Barring s (comes from (Depart m)) nothing s.barrier []
  collects_at : (from : ℕ) (m : DepartRecord) {collection : Collection} {needs : List Need} {letters : List Letter} → s.wait ≡ departure → m.collect ≡ true
      → ((k : ℕ) → Silent s.me k letters) → Barring s (comes from (Depart m)) (upkeep collection needs) s.barrier letters
  clean_once_at : (from : ℕ) (m : DepartRecord) {collection : Collection} → s.wait ≡ departure → m.collect ≡ true
      → Barring s (comes from (Depart m)) (discard collection) s.barrier (letter 0 (Clean s.barrier.episode) ∷ [])
  -- or is clean later,
  cleans_at : (before : Collection) (needs : List Need) {came : Came} {collection : Collection} → s.wait ≡ upkeep before needs
      → Barring s came (discard collection) s.barrier (letter 0 (Clean s.barrier.episode) ∷ [])
  -- the manager notes who is clean, or with the last one lets all discard,
  notes_at : (from episode : ℕ) (before after : ManagerRecord) {barrier : Barrier} → s.barrier.manager ≡ Some before
      → cleaned before from episode ≡ awaits after → barrier.manager ≡ Some after → Barring s (comes from (Clean episode)) s.wait barrier []
  lets_discard_at : (from episode over : ℕ) (before after : ManagerRecord) {barrier : Barrier} → s.barrier.manager ≡ Some before
      → cleaned before from episode ≡ discards over after → barrier.manager ≡ Some after
      → Barring s (comes from (Clean episode)) s.wait barrier (discards_to (range_with_len 0 s.nodes) over)
  -- who is told departs,
  discards_at : (from episode : ℕ) (collection : Collection) → s.wait ≡ discard collection → Barring s (comes from (Discard episode)) nothing s.barrier []
  -- and all else has to do with no barrier
  other_at : {came : Came} {wait : Wait} {barrier : Barrier} {letters : List Letter} → barrier.manager ≡ s.barrier.manager → is_inside wait ≡ is_inside s.wait
      → is_collecting wait ≡ is_collecting s.wait → ((k : ℕ) → Silent s.me k letters) → Barring s came wait barrier letters

module _ (s : Site) where
  -- by the wait that was and is
  neither : (came : Came) (w wait : Wait) (letters : List Letter) → s.wait ≡ w → is_inside wait ≡ is_inside w → is_collecting wait ≡ is_collecting w
      → ((k : ℕ) → Silent s.me k letters) → Barring s came wait s.barrier letters
  neither came w wait letters e i c silent = other_at refl (i ∙ ap is_inside (sym e)) (c ∙ ap is_collecting (sym e)) silent

  pub barring : (came : Came) (acts : Bool) (wait : Wait) (locks : Locks) (barrier : Barrier) (letters : List Letter)
      → Sends s came acts wait locks barrier letters → Barring s came wait barrier letters
  barring _ _ _ _ _ letters (plain next w n plain_is others) = neither by_itself nothing nothing letters w refl refl (λ k. silent_others s.me k letters others)
  barring _ _ _ _ _ letters (misses {need = need} w n others) =
      neither by_itself nothing (access need) letters w refl refl (λ k. silent_others s.me k letters others)
  barring _ _ _ _ _ _ (takes lock w n free) = neither by_itself nothing nothing [] w refl refl (silent_none s.me)
  barring _ _ _ _ _ letters (asks lock w n away) =
      neither by_itself nothing (grant lock) letters w refl refl
      (λ k. silent_one s.me k _ [] (record { no_arrive = refl; no_depart = refl; no_clean = refl; no_discard = refl }) (silent_none s.me k))
  barring _ _ _ _ _ letters (releasing lock next w n passed) =
      neither by_itself nothing nothing letters w refl refl (λ k. silent_grants s.me k _ letters passed)
  barring _ _ _ _ _ _ (arriving next ask intervals w n) = arrives_at _ w refl refl
  barring _ _ _ _ _ letters (manages from m lt counted mine) =
      neither (comes from _) s.wait s.wait letters refl refl refl
      (λ k. silent_one s.me k _ [] (record { no_arrive = refl; no_depart = refl; no_clean = refl; no_discard = refl }) (silent_none s.me k))
  barring _ _ _ _ _ letters (forwarding from m lt asker counted managed taken passed) =
      neither (comes from _) s.wait s.wait letters refl refl refl (λ k. silent_grants s.me k _ letters passed)
  barring _ _ _ _ _ _ (grants from m lt w k) = neither (comes from _) (grant m.lock) nothing [] w refl refl (silent_none s.me)
  barring _ _ _ _ _ _ (gathers from m before after at counted step) = gathers_at from m before after at step refl
  barring _ _ _ _ _ _ (lets_depart from m before after departures at counted step) = lets_depart_at from m before after departures at step refl
  barring _ _ _ _ _ _ (departing from m a no_collection) = departs_at from m a.wait no_collection
  barring _ _ _ _ _ letters (collecting from m a collects same others) = collects_at from m a.wait collects (λ k. silent_others s.me k letters others)
  barring _ _ _ _ _ _ (clean_at_once from m a collects same) = clean_once_at from m a.wait collects
  barring _ _ _ _ _ _ (notes_clean from episode before after at step) = notes_at from episode before after at step refl
  barring _ _ _ _ _ _ (lets_discard from episode over before after at step) = lets_discard_at from episode over before after at step refl
  barring _ _ _ _ _ _ (discarding from episode collection w zero_is episode_is) = discards_at from episode collection w
  barring _ _ _ _ _ letters (serves from message other others) =
      neither (comes from message) s.wait s.wait letters refl refl refl (λ k. silent_others s.me k letters others)
  barring _ _ _ _ _ _ (accessing from message need other w) = neither (comes from message) (access need) nothing [] w refl refl (silent_none s.me)
  barring _ _ _ _ _ _ (still_misses from message before {need = need} other w) =
      neither (comes from message) (access before) (access need) [] w refl refl (silent_none s.me)
  barring _ _ _ _ _ _ (still_collects from message before had {collection = c} {needs = ns} other w same) =
      neither (comes from message) (upkeep before had) (upkeep c ns) [] w refl refl (silent_none s.me)
  barring _ _ _ _ _ _ (cleaning from message before had other w same) = cleans_at before had w
