-- Where nodes stand at the barrier is kept by every turn.
use Rattle.std.proofs.Common.{◌≡◌, ℕ, ◌+◌, ◌<◌, ◌&&◌, List, [], ◌∷◌, Bool, true, false, cond, length, map, refl, sym, ap, subst, ◌∙◌, arith}
use Rattle.std.specs.Prelude.{Option, Some, None, ◌==◌, unwrap_or, count_by, slice_set}
use Rattle.std.specs.List.{range_with_len}
use Rattle.std.proofs.lemmas.Bool.{eq-eqb, ne_eqb}
use Rattle.std.proofs.lemmas.List.{length-set}
use Rattle.lrc_envelope.specs.Envelope.{EnvelopeRecord}
use Rattle.lrc_envelope.specs.Records.{ArriveRecord, DepartRecord, LockGrantRecord}
use Rattle.lrc_envelope.specs.declared.message.Message.{Message}
use Rattle.lrc_envelope.specs.declared.message.Message.TheVariants.{LockRequest, LockForward, LockGrant, Arrive, Depart, Clean, Discard}
use Rattle.lrc_envelope.specs.declared.message.Message.TheVariants.{ChangesRequest, ChangesReply, PageRequest, PageReply}
use Rattle.lrc_lock.specs.declared.state.Pass.{Pass}
use Rattle.lrc_barrier.specs.declared.departure.Departure.{Departure}
use Rattle.lrc_barrier.specs.Barrier.{ManagerRecord, with_arrival, arrivals_of, departed}
use Rattle.lrc_protocol.specs.Locks.{Locks}
use Rattle.lrc_protocol.specs.Barriers.{arrival_in, Collection, Barrier}
use Rattle.lrc_protocol.specs.Node.{Letter, Wait, nothing, grant, departure, access, upkeep, discard}
use Rattle.lrc_protocol.specs.Turn.{letter, departure_of, discards_to}
use Rattle.lrc_order_laws.specs.Barriers.{says_arrive, says_depart, says_clean, says_discard, arrive_from, depart_to, clean_from}
use Rattle.lrc_order_laws.specs.Barriers.{discard_to, kept_of, noted_of, awaits_depart, awaits_word, StandsAt}
use Rattle.lrc_order_laws.proofs.Sends.{Came, by_itself, comes, Site, is_other, AreOthers, Grants, Sends, plain, misses, takes, asks}
use Rattle.lrc_order_laws.proofs.Sends.{releasing, arriving, manages, forwarding, grants, gathers, lets_depart, departing, collecting}
use Rattle.lrc_order_laws.proofs.Sends.{clean_at_once, notes_clean, lets_discard, discarding, serves, accessing, still_misses, still_collects}
use Rattle.lrc_order_laws.proofs.Sends.{cleaning}
use Rattle.lrc_order_laws.proofs.Flows.{IsFromNode, came_count, count_of, count-cons}
use Rattle.lrc_order_laws.proofs.Managers.{passing, failing, Gathered, gathered, LetGo, let_go, Noted, noted, LetDiscard, let_discard, Places}
use Rattle.lrc_order_laws.proofs.Managers.{places-arrival, places-departed, places-noted, places-over, noted_in, kept-more, kept-all, kept-departed}
use Rattle.lrc_order_laws.proofs.Managers.{noted-departed, noted-free, noted-more, noted-all, as_many, departs-once, departs-only, discards-once}
use Rattle.lrc_order_laws.proofs.Managers.{discards-only}

-- ---- the four tests

abbrev pub arrive_test : ℕ → ℕ → Letter → Bool
arrive_test m from l = says_arrive l.message && (from == m)

abbrev pub depart_test : ℕ → ℕ → Letter → Bool
depart_test m from l = says_depart l.message && (l.to == m)

abbrev pub clean_test : ℕ → ℕ → Letter → Bool
clean_test m from l = says_clean l.message && (from == m)

abbrev pub discard_test : ℕ → ℕ → Letter → Bool
discard_test m from l = says_discard l.message && (l.to == m)

-- what comes and what is sent, counted for a node: arrivals, departures, Cleans and words to discard
pub record Counted (me m : ℕ) (came : Came) (letters : List Letter) (ca sa cd sd ck sk cx sx : ℕ) : Type 0 where
  pub came_arrive : came_count (arrive_test m) me came ≡ ca
  pub sent_arrive : count_by (arrive_test m me) letters ≡ sa
  pub came_depart : came_count (depart_test m) me came ≡ cd
  pub sent_depart : count_by (depart_test m me) letters ≡ sd
  pub came_clean : came_count (clean_test m) me came ≡ ck
  pub sent_clean : count_by (clean_test m me) letters ≡ sk
  pub came_discard : came_count (discard_test m) me came ≡ cx
  pub sent_discard : count_by (discard_test m me) letters ≡ sx

-- nothing of barriers comes, and nothing is sent
pub record Silent (me m : ℕ) (letters : List Letter) : Type 0 where
  pub arrives : count_by (arrive_test m me) letters ≡ 0
  pub departs : count_by (depart_test m me) letters ≡ 0
  pub cleans : count_by (clean_test m me) letters ≡ 0
  pub discards : count_by (discard_test m me) letters ≡ 0

pub record Mute (me m : ℕ) (came : Came) : Type 0 where
  pub arrives : came_count (arrive_test m) me came ≡ 0
  pub departs : came_count (depart_test m) me came ≡ 0
  pub cleans : came_count (clean_test m) me came ≡ 0
  pub discards : came_count (discard_test m) me came ≡ 0

-- what comes is counted, and nothing is sent
counted_silent : (me m : ℕ) (came : Came) (letters : List Letter) → Silent me m letters
    → Counted me m came letters (came_count (arrive_test m) me came) 0 (came_count (depart_test m) me came) 0
    (came_count (clean_test m) me came) 0 (came_count (discard_test m) me came) 0
counted_silent me m came letters s = record {
  came_arrive = refl;
  sent_arrive = s.arrives;
  came_depart = refl;
  sent_depart = s.departs;
  came_clean = refl;
  sent_clean = s.cleans;
  came_discard = refl;
  sent_discard = s.discards;
}

nothing_counted : (me m : ℕ) (came : Came) (letters : List Letter) → Mute me m came → Silent me m letters → Counted me m came letters 0 0 0 0 0 0 0 0
nothing_counted me m came letters c s = record {
  came_arrive = c.arrives;
  sent_arrive = s.arrives;
  came_depart = c.departs;
  sent_depart = s.departs;
  came_clean = c.cleans;
  sent_clean = s.cleans;
  came_discard = c.discards;
  sent_discard = s.discards;
}

pub record Says (message : Message) : Type 0 where
  pub no_arrive : says_arrive message ≡ false
  pub no_depart : says_depart message ≡ false
  pub no_clean : says_clean message ≡ false
  pub no_discard : says_discard message ≡ false

others_say : (message : Message) → is_other message ≡ true → Says message
others_say (ChangesRequest m) e = record { no_arrive = refl; no_depart = refl; no_clean = refl; no_discard = refl }
others_say (ChangesReply m) e = record { no_arrive = refl; no_depart = refl; no_clean = refl; no_discard = refl }
others_say (PageRequest m) e = record { no_arrive = refl; no_depart = refl; no_clean = refl; no_discard = refl }
others_say (PageReply m) e = record { no_arrive = refl; no_depart = refl; no_clean = refl; no_discard = refl }
others_say _ e = cc

neither : (a b : Bool) → a ≡ false → cond {A = ℕ} (a && b) 1 0 ≡ 0
neither true b e = cc
neither false b e = refl

one_more : (test : Letter → Bool) (l : Letter) (letters : List Letter) → cond {A = ℕ} (test l) 1 0 ≡ 0 → count_by test letters ≡ 0
    → count_by test (l ∷ letters) ≡ 0
one_more test l letters one rest =
    let both : count_by test (l ∷ letters) ≡ cond (test l) 1 0 + count_by test letters = count-cons test l letters in
    omega (arith, both, one, rest)

pub silent_none : (me m : ℕ) → Silent me m []
silent_none me m = record { arrives = refl; departs = refl; cleans = refl; discards = refl }

pub silent_one : (me m : ℕ) (l : Letter) (letters : List Letter) → Says l.message → Silent me m letters → Silent me m (l ∷ letters)
silent_one me m l letters says s = record {
  arrives = one_more (arrive_test m me) l letters (neither _ _ says.no_arrive) s.arrives;
  departs = one_more (depart_test m me) l letters (neither _ _ says.no_depart) s.departs;
  cleans = one_more (clean_test m me) l letters (neither _ _ says.no_clean) s.cleans;
  discards = one_more (discard_test m me) l letters (neither _ _ says.no_discard) s.discards;
}

pub silent_others : (me m : ℕ) (letters : List Letter) → AreOthers letters → Silent me m letters
silent_others me m [] h = silent_none me m
silent_others me m (l ∷ letters) h = silent_one me m l letters (others_say l.message h.0) (silent_others me m letters h.1)

lock_says : (x : LockGrantRecord) → Says (LockGrant x)
lock_says x = record { no_arrive = refl; no_depart = refl; no_clean = refl; no_discard = refl }

pub silent_grants : (me m : ℕ) (pass : Option Pass) (letters : List Letter) → Grants pass letters → Silent me m letters
silent_grants me m None letters e = subst (Silent me m) (sym e) (silent_none me m)
silent_grants me m (Some pass) letters (intervals, e) = subst (Silent me m) (sym e) (silent_one me m _ [] (lock_says _) (silent_none me m))

mute_self : (me m : ℕ) → Mute me m by_itself
mute_self me m = record { arrives = refl; departs = refl; cleans = refl; discards = refl }

mute_other : (me m from : ℕ) (message : Message) → Says message → Mute me m (comes from message)
mute_other me m from message says = record {
  arrives = neither _ _ says.no_arrive;
  departs = neither _ _ says.no_depart;
  cleans = neither _ _ says.no_clean;
  discards = neither _ _ says.no_discard;
}

-- ---- one node, by what is counted

abbrev pub Flow : ℕ → Came → List Letter → List EnvelopeRecord → List EnvelopeRecord → Type 0
Flow me came letters was now = (test : ℕ → Letter → Bool) → count_of test now + came_count test me came ≡ count_of test was + count_by (test me) letters

stands : (me m : ℕ) (came : Came) (letters : List Letter) (ca sa cd sd ck sk cx sx : ℕ) (was now : List EnvelopeRecord) (old new : ManagerRecord)
    (w wait : Wait) (e episode : ℕ) → Counted me m came letters ca sa cd sd ck sk cx sx → Flow me came letters was now
    → episode + old.done + kept_of old m + ca ≡ e + new.done + kept_of new m + sa
    → awaits_depart wait + kept_of old m + ca + cd ≡ awaits_depart w + kept_of new m + sa + sd
    → awaits_word wait + noted_of old m + ck + cx ≡ awaits_word w + noted_of new m + sk + sx
    → StandsAt was old m w e → StandsAt now new m wait episode
stands me m came letters ca sa cd sd ck sk cx sx was now old new w wait e episode c f a d x h =
    let fa : count_by (arrive_from m) now + ca ≡ count_by (arrive_from m) was + sa =
    ap (λ k. count_by (arrive_from m) now + k) (sym c.came_arrive) ∙ f (arrive_test m) ∙ ap (λ k. count_by (arrive_from m) was + k) c.sent_arrive in
    let fd : count_by (depart_to m) now + cd ≡ count_by (depart_to m) was + sd =
    ap (λ k. count_by (depart_to m) now + k) (sym c.came_depart) ∙ f (depart_test m) ∙ ap (λ k. count_by (depart_to m) was + k) c.sent_depart in
    let fk : count_by (clean_from m) now + ck ≡ count_by (clean_from m) was + sk =
    ap (λ k. count_by (clean_from m) now + k) (sym c.came_clean) ∙ f (clean_test m) ∙ ap (λ k. count_by (clean_from m) was + k) c.sent_clean in
    let fx : count_by (discard_to m) now + cx ≡ count_by (discard_to m) was + sx =
    ap (λ k. count_by (discard_to m) now + k) (sym c.came_discard) ∙ f (discard_test m) ∙ ap (λ k. count_by (discard_to m) was + k) c.sent_discard in
    let arrived : e ≡ old.done + (count_by (arrive_from m) was + kept_of old m) = h.arrived in
    let departs : count_by (arrive_from m) was + kept_of old m + count_by (depart_to m) was ≡ awaits_depart w = h.departs in
    let discards : count_by (clean_from m) was + noted_of old m + count_by (discard_to m) was ≡ awaits_word w = h.discards in
    record {
      arrived = omega (arith, a, fa, arrived);
      departs = omega (arith, d, fa, fd, departs);
      discards = omega (arith, x, fk, fx, discards);
    }

-- ---- every turn

pub same_manager : (o : Option ManagerRecord) (manager : ManagerRecord) → ((before : ManagerRecord) → o ≡ Some before → before ≡ manager)
    → manager ≡ unwrap_or o manager
same_manager None manager is = refl
same_manager (Some before) manager is = sym (is before refl)

-- 1 for the node itself
abbrev itself : ℕ → ℕ → ℕ
itself me m = cond (me == m) 1 0

module _ (s : Site) (nodes : ℕ) (within : s.me < nodes) (manager : ManagerRecord) (was now : List EnvelopeRecord) where
  -- the node that makes the turn, and each other, stand so after it
  pub record Kept (new : ManagerRecord) (wait : Wait) (episode : ℕ) : Type 0 where
    pub own : StandsAt was manager s.me s.wait s.barrier.episode → StandsAt now new s.me wait episode
    pub other : (m : ℕ) (w : Wait) (e : ℕ) → m < nodes → (s.me ≡ m → ⊥) → StandsAt was manager m w e → StandsAt now new m w e

  -- nothing of barriers comes or is sent
  unmoved : (came : Came) (letters : List Letter) (wait : Wait) → ((m : ℕ) → Mute s.me m came) → ((m : ℕ) → Silent s.me m letters)
      → awaits_depart wait ≡ awaits_depart s.wait → awaits_word wait ≡ awaits_word s.wait → Flow s.me came letters was now
      → Kept manager wait s.barrier.episode
  unmoved came letters wait mute silent d x f = record {
    own = λ h.
        stands s.me s.me came letters 0 0 0 0 0 0 0 0 was now manager manager s.wait wait s.barrier.episode s.barrier.episode
        (nothing_counted s.me s.me came letters (mute s.me) (silent s.me)) f (omega arith) (omega (arith, d)) (omega (arith, x)) h;
    other = λ m w e lt ne h.
        stands s.me m came letters 0 0 0 0 0 0 0 0 was now manager manager w w e e
        (nothing_counted s.me m came letters (mute m) (silent m)) f (omega arith) (omega arith) (omega arith) h;
  }

  -- only what the node itself has sent or is told is counted, and only for it
  own_only : (came : Came) (letters : List Letter) (wait : Wait) (episode : ℕ) (ca sa cd sd ck sk cx sx : ℕ → ℕ)
      → ((m : ℕ) → Counted s.me m came letters (ca (itself s.me m)) (sa (itself s.me m)) (cd (itself s.me m)) (sd (itself s.me m))
      (ck (itself s.me m)) (sk (itself s.me m)) (cx (itself s.me m)) (sx (itself s.me m)))
      → episode + ca 1 ≡ s.barrier.episode + sa 1
      → awaits_depart wait + ca 1 + cd 1 ≡ awaits_depart s.wait + sa 1 + sd 1
      → awaits_word wait + ck 1 + cx 1 ≡ awaits_word s.wait + sk 1 + sx 1
      → ca 0 ≡ sa 0 → ca 0 + cd 0 ≡ sa 0 + sd 0 → ck 0 + cx 0 ≡ sk 0 + sx 0
      → Flow s.me came letters was now → Kept manager wait episode
  own_only came letters wait episode ca sa cd sd ck sk cx sx counted a d x a' d' x' f = record {
    own = λ h.
        stands s.me s.me came letters (ca 1) (sa 1) (cd 1) (sd 1) (ck 1) (sk 1) (cx 1) (sx 1) was now manager manager s.wait wait s.barrier.episode episode
        (subst (λ k. Counted s.me s.me came letters (ca k) (sa k) (cd k) (sd k) (ck k) (sk k) (cx k) (sx k))
        (passing (s.me == s.me) (eq-eqb s.me s.me refl)) (counted s.me)) f (omega (arith, a)) (omega (arith, d)) (omega (arith, x)) h;
    other = λ m w e lt ne h.
        stands s.me m came letters (ca 0) (sa 0) (cd 0) (sd 0) (ck 0) (sk 0) (cx 0) (sx 0) was now manager manager w w e e
        (subst (λ k. Counted s.me m came letters (ca k) (sa k) (cd k) (sd k) (ck k) (sk k) (cx k) (sx k))
        (failing (s.me == m) (ne_eqb s.me m ne)) (counted m)) f (omega (arith, a')) (omega (arith, d')) (omega (arith, x')) h;
  }

  -- the manager notes something of each
  noting : (came : Came) (letters : List Letter) (new : ManagerRecord) (ca cd sd ck sk cx sx : ℕ → ℕ)
      → ((m : ℕ) → m < nodes → Counted s.me m came letters (ca m) 0 (cd m) (sd m) (ck m) (sk m) (cx m) (sx m))
      → ((m : ℕ) → m < nodes → manager.done + kept_of manager m + ca m ≡ new.done + kept_of new m)
      → ((m : ℕ) → m < nodes → kept_of manager m + ca m + cd m ≡ kept_of new m + sd m)
      → ((m : ℕ) → m < nodes → noted_of manager m + ck m + cx m ≡ noted_of new m + sk m + sx m)
      → Flow s.me came letters was now → Kept new s.wait s.barrier.episode
  noting came letters new ca cd sd ck sk cx sx counted a d x f = record {
    own = λ h.
        let ea : manager.done + kept_of manager s.me + ca s.me ≡ new.done + kept_of new s.me = a s.me within in
        let ed : kept_of manager s.me + ca s.me + cd s.me ≡ kept_of new s.me + sd s.me = d s.me within in
        let ex : noted_of manager s.me + ck s.me + cx s.me ≡ noted_of new s.me + sk s.me + sx s.me = x s.me within in
        stands s.me s.me came letters (ca s.me) 0 (cd s.me) (sd s.me) (ck s.me) (sk s.me) (cx s.me) (sx s.me) was now manager new
        s.wait s.wait s.barrier.episode s.barrier.episode (counted s.me within) f (omega (arith, ea)) (omega (arith, ed)) (omega (arith, ex)) h;
    other = λ m w e lt ne h.
        let ea : manager.done + kept_of manager m + ca m ≡ new.done + kept_of new m = a m lt in
        let ed : kept_of manager m + ca m + cd m ≡ kept_of new m + sd m = d m lt in
        let ex : noted_of manager m + ck m + cx m ≡ noted_of new m + sk m + sx m = x m lt in
        stands s.me m came letters (ca m) 0 (cd m) (sd m) (ck m) (sk m) (cx m) (sx m) was now manager new w w e e
        (counted m lt) f (omega (arith, ea)) (omega (arith, ed)) (omega (arith, ex)) h;
  }

  -- the manager after the turn has a place for each node, and all stand so
  pub record After (new : ManagerRecord) (wait : Wait) (episode : ℕ) : Type 0 where
    pub places : Places nodes new
    pub kept : Kept new wait episode

  module _ (is : (before : ManagerRecord) → s.barrier.manager ≡ Some before → before ≡ manager) (places : Places nodes manager)
      (nodes_is : s.nodes ≡ nodes) where
    -- the manager is as it was
    still : (wait : Wait) (episode : ℕ) → Kept manager wait episode → After (unwrap_or s.barrier.manager manager) wait episode
    still wait episode k =
        subst (λ new. After new wait episode) (same_manager s.barrier.manager manager is) (record { places = places; kept = k })

    -- by the wait that it was
    still_by : (came : Came) (letters : List Letter) (w wait : Wait) → s.wait ≡ w → ((m : ℕ) → Mute s.me m came) → ((m : ℕ) → Silent s.me m letters)
        → awaits_depart wait ≡ awaits_depart w → awaits_word wait ≡ awaits_word w → Flow s.me came letters was now
        → After (unwrap_or s.barrier.manager manager) wait s.barrier.episode
    still_by came letters w wait e mute silent d x f =
        still wait s.barrier.episode
        (unmoved came letters wait mute silent (d ∙ sym (ap awaits_depart e)) (x ∙ sym (ap awaits_word e)) f)

    arrives-at : (m : ArriveRecord) → Flow s.me by_itself (letter 0 (Arrive m) ∷ []) was now → s.wait ≡ nothing
        → After (unwrap_or s.barrier.manager manager) departure (s.barrier.episode + 1)
    arrives-at m f w =
        let d : awaits_depart s.wait ≡ 0 = ap awaits_depart w in
        let x : awaits_word s.wait ≡ 0 = ap awaits_word w in
        still departure (s.barrier.episode + 1)
        (own_only by_itself (letter 0 (Arrive m) ∷ []) departure (s.barrier.episode + 1)
        (λ k. 0) (λ k. k) (λ k. 0) (λ k. 0) (λ k. 0) (λ k. 0) (λ k. 0) (λ k. 0)
        (λ k. record {
          came_arrive = refl;
          sent_arrive = omega arith;
          came_depart = refl;
          sent_depart = refl;
          came_clean = refl;
          sent_clean = refl;
          came_discard = refl;
          sent_discard = refl;
        })
        (omega arith) (omega (arith, d)) (omega (arith, x)) refl refl refl f)

    departs-at : (from : ℕ) (m : DepartRecord) (letters : List Letter) (wait : Wait) → Flow s.me (comes from (Depart m)) letters was now → s.wait ≡ departure
        → ((m : ℕ) → Silent s.me m letters) → awaits_depart wait ≡ 0 → awaits_word wait ≡ 0
        → After (unwrap_or s.barrier.manager manager) wait s.barrier.episode
    departs-at from m letters wait f w silent d' x' =
        let d : awaits_depart s.wait ≡ 1 = ap awaits_depart w in
        let x : awaits_word s.wait ≡ 0 = ap awaits_word w in
        still wait s.barrier.episode
        (own_only (comes from (Depart m)) letters wait s.barrier.episode
        (λ k. 0) (λ k. 0) (λ k. k) (λ k. 0) (λ k. 0) (λ k. 0) (λ k. 0) (λ k. 0)
        (λ k. counted_silent s.me k (comes from (Depart m)) letters (silent k))
        (omega arith) (omega (arith, d, d')) (omega (arith, x, x')) refl refl refl f)

    cleans-at : (came : Came) (episode : ℕ) (collection : Collection) (w : Wait) (cd : ℕ → ℕ) → cd 0 ≡ 0 → cd 1 ≡ awaits_depart w → awaits_word w ≡ 0
        → ((m : ℕ) → Counted s.me m came (letter 0 (Clean episode) ∷ []) 0 0 (cd (itself s.me m)) 0 0 (itself s.me m) 0 0)
        → Flow s.me came (letter 0 (Clean episode) ∷ []) was now → s.wait ≡ w
        → After (unwrap_or s.barrier.manager manager) (discard collection) s.barrier.episode
    cleans-at came episode collection w cd none one x' counted f e =
        let d : awaits_depart s.wait ≡ awaits_depart w = ap awaits_depart e in
        let x : awaits_word s.wait ≡ 0 = ap awaits_word e ∙ x' in
        still (discard collection) s.barrier.episode
        (own_only came (letter 0 (Clean episode) ∷ []) (discard collection) s.barrier.episode
        (λ k. 0) (λ k. 0) cd (λ k. 0) (λ k. 0) (λ k. k) (λ k. 0) (λ k. 0) counted
        (omega arith) (omega (arith, d, one)) (omega (arith, x)) refl (omega (arith, none)) refl f)

    discards-at : (from episode : ℕ) (collection : Collection) → Flow s.me (comes from (Discard episode)) [] was now → s.wait ≡ discard collection
        → After (unwrap_or s.barrier.manager manager) nothing s.barrier.episode
    discards-at from episode collection f w =
        let d : awaits_depart s.wait ≡ 0 = ap awaits_depart w in
        let x : awaits_word s.wait ≡ 1 = ap awaits_word w in
        still nothing s.barrier.episode
        (own_only (comes from (Discard episode)) [] nothing s.barrier.episode
        (λ k. 0) (λ k. 0) (λ k. 0) (λ k. 0) (λ k. 0) (λ k. 0) (λ k. k) (λ k. 0)
        (λ k. counted_silent s.me k (comes from (Discard episode)) [] (silent_none s.me k))
        (omega arith) (omega (arith, d)) (omega (arith, x)) refl refl refl f)

    -- the manager's turns
    gathers-at : (from : ℕ) (m : ArriveRecord) (after : ManagerRecord) → from < nodes → Gathered manager from (arrival_in m) after
        → Flow s.me (comes from (Arrive m)) [] was now → After after s.wait s.barrier.episode
    gathers-at from m after lt g f =
        let more : (k : ℕ) → kept_of (with_arrival manager from (arrival_in m)) k ≡ kept_of manager k + cond (from == k) 1 0 =
        λ k. kept-more manager from (arrival_in m) k (subst (λ n. from < n) (sym places.arrivals) lt) g.arrives.first in
        subst (λ new. After new s.wait s.barrier.episode) (sym g.after_is)
        (record {
          places = places-arrival nodes manager from (arrival_in m) places;
          kept =
              noting (comes from (Arrive m)) [] (with_arrival manager from (arrival_in m))
              (λ k. cond (from == k) 1 0) (λ k. 0) (λ k. 0) (λ k. 0) (λ k. 0) (λ k. 0) (λ k. 0)
              (λ k lt. counted_silent s.me k (comes from (Arrive m)) [] (silent_none s.me k))
              (λ k lt. let e : _ = more k in omega (arith, e)) (λ k lt. let e : _ = more k in omega (arith, e)) (λ k lt. refl) f;
        })

    lets_depart-at : (from : ℕ) (m : ArriveRecord) (after : ManagerRecord) (departures : List Departure) → from < nodes
        → LetGo manager from (arrival_in m) after departures
        → Flow s.me (comes from (Arrive m)) (map departure_of departures) was now → After after s.wait s.barrier.episode
    lets_depart-at from m after departures lt g f =
        let all : ManagerRecord = with_arrival manager from (arrival_in m) in
        let there : Places nodes all = places-arrival nodes manager from (arrival_in m) places in
        let more : (k : ℕ) → kept_of all k ≡ kept_of manager k + cond (from == k) 1 0 =
        λ k. kept-more manager from (arrival_in m) k (subst (λ n. from < n) (sym places.arrivals) lt) g.arrives.first in
        let one : (k : ℕ) → k < nodes → kept_of all k ≡ 1 = λ k lt. kept-all all k g.all (subst (λ n. k < n) (sym there.arrivals) lt) in
        let count : length (arrivals_of all) ≡ nodes = as_many (arrival_in m) all g.all ∙ there.arrivals in
        subst (λ new. After new s.wait s.barrier.episode) (sym g.after_is)
        (record {
          places = places-departed nodes all there;
          kept =
              noting (comes from (Arrive m)) (map departure_of departures) (departed all)
              (λ k. cond (from == k) 1 0) (λ k. 0) (λ k. 1) (λ k. 0) (λ k. 0) (λ k. 0) (λ k. 0)
              (λ k lt. record {
                came_arrive = refl;
                sent_arrive = departs-only (arrive_test k s.me) (λ d. refl) departures;
                came_depart = refl;
                sent_depart =
                    ap (λ ds. count_by (depart_test k s.me) (map departure_of ds)) g.told
                    ∙ departs-once (arrivals_of all) k (subst (λ n. k < n) (sym count) lt);
                came_clean = refl;
                sent_clean = departs-only (clean_test k s.me) (λ d. refl) departures;
                came_discard = refl;
                sent_discard = departs-only (discard_test k s.me) (λ d. refl) departures;
              })
              (λ k lt. let e : _ = more k in let o : _ = one k lt in let z : _ = kept-departed all k in omega (arith, e, o, z))
              (λ k lt. let e : _ = more k in let o : _ = one k lt in let z : _ = kept-departed all k in omega (arith, e, o, z))
              (λ k lt. let e : _ = noted-free manager k g.arrives.free in let z : _ = noted-departed all k in omega (arith, e, z)) f;
        })

    notes-at : (from episode : ℕ) (after : ManagerRecord) → from < nodes → Noted manager from episode after
        → Flow s.me (comes from (Clean episode)) [] was now → After after s.wait s.barrier.episode
    notes-at from episode after lt g f =
        let size : length g.cleans ≡ nodes = places.cleans g.cleans g.under_way in
        let more : (k : ℕ) → noted_in (Some (slice_set g.cleans from true)) k ≡ noted_of manager k + cond (from == k) 1 0 =
        λ k. noted-more manager g.cleans from k g.under_way (subst (λ n. from < n) (sym size) lt) g.first in
        subst (λ new. After new s.wait s.barrier.episode) (sym g.after_is)
        (record {
          places = places-noted nodes manager (slice_set g.cleans from true) (length-set g.cleans from true ∙ size) places;
          kept =
              noting (comes from (Clean episode)) [] (record manager { cleans = Some (slice_set g.cleans from true) })
              (λ k. 0) (λ k. 0) (λ k. 0) (λ k. cond (from == k) 1 0) (λ k. 0) (λ k. 0) (λ k. 0)
              (λ k lt. counted_silent s.me k (comes from (Clean episode)) [] (silent_none s.me k))
              (λ k lt. omega arith) (λ k lt. omega arith) (λ k lt. let e : _ = more k in omega (arith, e)) f;
        })

    lets_discard-at : (from episode over : ℕ) (after : ManagerRecord) → from < nodes → LetDiscard manager from episode after over
        → Flow s.me (comes from (Clean episode)) (discards_to (range_with_len 0 s.nodes) over) was now → After after s.wait s.barrier.episode
    lets_discard-at from episode over after lt g f =
        let size : length g.cleans ≡ nodes = places.cleans g.cleans g.under_way in
        let more : (k : ℕ) → noted_in (Some (slice_set g.cleans from true)) k ≡ noted_of manager k + cond (from == k) 1 0 =
        λ k. noted-more manager g.cleans from k g.under_way (subst (λ n. from < n) (sym size) lt) g.first in
        let one : (k : ℕ) → k < nodes → noted_in (Some (slice_set g.cleans from true)) k ≡ 1 =
        λ k lt. noted-all (slice_set g.cleans from true) k g.all (subst (λ n. k < n) (sym (length-set g.cleans from true ∙ size)) lt) in
        subst (λ new. After new s.wait s.barrier.episode) (sym g.after_is)
        (record {
          places = places-over nodes manager places;
          kept =
              noting (comes from (Clean episode)) (discards_to (range_with_len 0 s.nodes) over) (record manager { cleans = None })
              (λ k. 0) (λ k. 0) (λ k. 0) (λ k. cond (from == k) 1 0) (λ k. 0) (λ k. 0) (λ k. 1)
              (λ k lt. record {
                came_arrive = refl;
                sent_arrive = discards-only (arrive_test k s.me) over (λ to. refl) (range_with_len 0 s.nodes);
                came_depart = refl;
                sent_depart = discards-only (depart_test k s.me) over (λ to. refl) (range_with_len 0 s.nodes);
                came_clean = refl;
                sent_clean = discards-only (clean_test k s.me) over (λ to. refl) (range_with_len 0 s.nodes);
                came_discard = refl;
                sent_discard = discards-once over s.nodes k (subst (λ n. k < n) (sym nodes_is) lt);
              })
              (λ k lt. omega arith) (λ k lt. omega arith) (λ k lt. let e : _ = more k in let o : _ = one k lt in omega (arith, e, o)) f;
        })

    pub standing : (came : Came) (acts : Bool) (wait : Wait) (locks : Locks) (barrier : Barrier) (letters : List Letter)
        → Sends s came acts wait locks barrier letters → IsFromNode nodes came → Flow s.me came letters was now
        → After (unwrap_or barrier.manager manager) wait barrier.episode
    standing _ _ _ _ _ letters (plain next w n plain_is others) node f =
        still_by by_itself letters nothing nothing w (mute_self s.me) (λ m. silent_others s.me m letters others) refl refl f
    standing _ _ _ _ _ letters (misses {need = need} w n others) node f =
        still_by by_itself letters nothing (access need) w (mute_self s.me) (λ m. silent_others s.me m letters others) refl refl f
    standing _ _ _ _ _ _ (takes lock w n free) node f =
        still_by by_itself [] nothing nothing w (mute_self s.me) (silent_none s.me) refl refl f
    standing _ _ _ _ _ letters (asks lock w n away) node f =
        still_by by_itself letters nothing (grant lock) w (mute_self s.me)
        (λ m. silent_one s.me m _ [] (record { no_arrive = refl; no_depart = refl; no_clean = refl; no_discard = refl }) (silent_none s.me m)) refl refl f
    standing _ _ _ _ _ letters (releasing lock next w n passed) node f =
        still_by by_itself letters nothing nothing w (mute_self s.me) (λ m. silent_grants s.me m _ letters passed) refl refl f
    standing _ _ _ _ _ _ (arriving next ask intervals w n) node f = arrives-at _ f w
    standing _ _ _ _ _ letters (manages from m lt counted mine) node f =
        still_by (comes from (LockRequest m)) letters s.wait s.wait refl
        (λ k. mute_other s.me k from (LockRequest m) (record { no_arrive = refl; no_depart = refl; no_clean = refl; no_discard = refl }))
        (λ k. silent_one s.me k _ [] (record { no_arrive = refl; no_depart = refl; no_clean = refl; no_discard = refl }) (silent_none s.me k)) refl refl f
    standing _ _ _ _ _ letters (forwarding from m lt asker counted managed taken passed) node f =
        still_by (comes from (LockForward m)) letters s.wait s.wait refl
        (λ k. mute_other s.me k from (LockForward m) (record { no_arrive = refl; no_depart = refl; no_clean = refl; no_discard = refl }))
        (λ k. silent_grants s.me k _ letters passed) refl refl f
    standing _ _ _ _ _ _ (grants from m lt w k) node f =
        still_by (comes from (LockGrant m)) [] (grant m.lock) nothing w
        (λ k. mute_other s.me k from (LockGrant m) (record { no_arrive = refl; no_depart = refl; no_clean = refl; no_discard = refl }))
        (silent_none s.me) refl refl f
    standing _ _ _ _ _ _ (gathers from m before after at counted step) node f =
        gathers-at from m after node
        (subst (λ b. Gathered b from (arrival_in m) after) (is before at) (gathered before from (arrival_in m) after step)) f
    standing _ _ _ _ _ _ (lets_depart from m before after departures at counted step) node f =
        lets_depart-at from m after departures node
        (subst (λ b. LetGo b from (arrival_in m) after departures) (is before at) (let_go before from (arrival_in m) after departures step)) f
    standing _ _ _ _ _ _ (departing from m a no_collection) node f =
        departs-at from m [] nothing f a.wait (silent_none s.me) refl refl
    standing _ _ _ _ _ letters (collecting from m {collection = c} {needs = ns} a collects same others) node f =
        departs-at from m letters (upkeep c ns) f a.wait (λ k. silent_others s.me k letters others) refl refl
    standing _ _ _ _ _ _ (clean_at_once from m {collection = c} a collects same) node f =
        cleans-at (comes from (Depart m)) s.barrier.episode c departure (λ k. k) refl refl refl
        (λ k. record {
          came_arrive = refl;
          sent_arrive = refl;
          came_depart = refl;
          sent_depart = refl;
          came_clean = refl;
          sent_clean = omega arith;
          came_discard = refl;
          sent_discard = refl;
        }) f a.wait
    standing _ _ _ _ _ _ (notes_clean from episode before after at step) node f =
        notes-at from episode after node (subst (λ b. Noted b from episode after) (is before at) (noted before from episode after step)) f
    standing _ _ _ _ _ _ (lets_discard from episode over before after at step) node f =
        lets_discard-at from episode over after node
        (subst (λ b. LetDiscard b from episode after over) (is before at) (let_discard before from episode after over step)) f
    standing _ _ _ _ _ _ (discarding from episode collection w zero_is episode_is) node f = discards-at from episode collection f w
    standing _ _ _ _ _ letters (serves from message other others) node f =
        still_by (comes from message) letters s.wait s.wait refl (λ k. mute_other s.me k from message (others_say message other))
        (λ k. silent_others s.me k letters others) refl refl f
    standing _ _ _ _ _ _ (accessing from message need other w) node f =
        still_by (comes from message) [] (access need) nothing w (λ k. mute_other s.me k from message (others_say message other))
        (silent_none s.me) refl refl f
    standing _ _ _ _ _ _ (still_misses from message before {need = need} other w) node f =
        still_by (comes from message) [] (access before) (access need) w (λ k. mute_other s.me k from message (others_say message other))
        (silent_none s.me) refl refl f
    standing _ _ _ _ _ _ (still_collects from message before had {collection = c} {needs = ns} other w same) node f =
        still_by (comes from message) [] (upkeep before had) (upkeep c ns) w (λ k. mute_other s.me k from message (others_say message other))
        (silent_none s.me) refl refl f
    standing _ _ _ _ _ _ (cleaning from message before had {collection = c} other w same) node f =
        let mute : (k : ℕ) → Mute s.me k (comes from message) = λ k. mute_other s.me k from message (others_say message other) in
        cleans-at (comes from message) s.barrier.episode c (upkeep before had) (λ k. 0) refl refl refl
        (λ k. record {
          came_arrive = (mute k).arrives;
          sent_arrive = refl;
          came_depart = (mute k).departs;
          sent_depart = refl;
          came_clean = (mute k).cleans;
          sent_clean = omega arith;
          came_discard = (mute k).discards;
          sent_discard = refl;
        }) f w
