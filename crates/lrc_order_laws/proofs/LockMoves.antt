-- What a turn does to the token of one lock at its node: six cases, for each lock. Here the kinds of turn of all messages come
-- down to those that matter to a lock.
use Rattle.std.proofs.Common.{◌≡◌, ℕ, zero, suc, ◌+◌, ◌<◌, List, [], ◌∷◌, Bool, true, false, length, map, refl, sym, ap, subst, ◌∙◌, inl, inr, arith}
use Rattle.std.specs.Prelude.{Option, Some, None, ◌==◌, slice_index_or, if◌then◌else◌}
use Rattle.std.specs.List.{range_with_len}
use Rattle.std.proofs.lemmas.Bool.{cases_eq, ne_eqb}
use Rattle.std.proofs.lemmas.List.{get_or-set_same, get_or-set_other}
use Rattle.lrc_trace.specs.declared.act.Deed.{Deed}
use Rattle.lrc_trace.specs.declared.act.Deed.TheVariants.{Acquire, Release}
use Rattle.lrc_time.specs.Time.{entry, joined, Covers}
use Rattle.lrc_time.proofs.Times.{covers-refl, covers-raised, covers-joined_first}
use Rattle.lrc_exec.specs.Meaning.{Thread, Next, acquires, releases, arrives, departs}
use Rattle.lrc_envelope.specs.Records.{LockForwardRecord, LockGrantRecord}
use Rattle.lrc_envelope.specs.declared.message.Message.{Message}
use Rattle.lrc_envelope.specs.declared.message.Message.TheVariants.{LockRequest, LockForward, LockGrant, Arrive, Depart, Clean, Discard}
use Rattle.lrc_envelope.specs.declared.message.Message.TheVariants.{ChangesRequest, ChangesReply, PageRequest, PageReply}
use Rattle.lrc_lock.specs.declared.fault.LockFault.TheVariants.{NotMine}
use Rattle.lrc_lock.specs.declared.state.Pass.{Pass}
use Rattle.lrc_lock.specs.declared.state.Waiter.{Waiter}
use Rattle.lrc_lock.specs.declared.state.LockState.{LockState}
use Rattle.lrc_lock.specs.declared.state.LockState.TheVariants.{Away, Awaited, Free, Held}
use Rattle.lrc_lock.specs.Held.{HeldRecord, LockStep, refuses, stays, passes as passes_on, lock_at, is_free, is_held, with_lock, state_after}
use Rattle.lrc_lock.specs.Held.{held_after, taken, asked, released, released_at, forwarded, forwarded_at, granted, granted_at, pass_of}
use Rattle.lrc_lock.specs.Held.{is_taken}
use Rattle.lrc_barrier.specs.declared.departure.Departure.{Departure}
use Rattle.lrc_protocol.specs.Times.{next_time}
use Rattle.lrc_protocol.specs.Locks.{Locks}
use Rattle.lrc_protocol.specs.Barriers.{Barrier}
use Rattle.lrc_protocol.specs.Node.{Course, deed_of, Letter, Wait, nothing, grant, departure, access, discard}
use Rattle.lrc_protocol.specs.Turn.{letter, departure_of, discards_to}
use Rattle.lrc_order_laws.specs.Waiting.{acquiring, FixesNext}
use Rattle.lrc_protocol.specs.Node.{next_in}
use Rattle.lrc_order_laws.specs.Tokens.{AwaitsOne, HoldsTokens, is_grant_of}
use Rattle.lrc_lock.specs.Held.{is_awaited}
use Rattle.lrc_order_laws.proofs.Shift.{Acted, Rested, Moved, is_plain}
use Rattle.lrc_order_laws.proofs.Counts.{deed_next, lock_next, departure_next, access_next}
use Rattle.lrc_order_laws.proofs.Calls.{let_go}
use Rattle.lrc_order_laws.proofs.Tokens.{awaits_it, taken_is}
use Rattle.lrc_order_laws.proofs.Sends.{is_other, AreOthers, Grants, Came, by_itself, comes, Site, Sends, plain, misses, takes as takes_free, asks}
use Rattle.lrc_order_laws.proofs.Sends.{releasing, arriving, manages, forwarding, grants, gathers, lets_depart, departing, collecting, clean_at_once}
use Rattle.lrc_order_laws.proofs.Sends.{notes_clean, lets_discard, discarding, serves, accessing, still_misses, still_collects, cleaning}

-- ---- words

-- where a node stands with a token: it isn't here; it is free, with the time of the last release; it is held
pub data Status : Type 0 where
  absent : Status
  free_here : (kept : List ℕ) → Status
  held_here : Status

abbrev pub status_of : LockState → Status
status_of Away = absent
status_of (Awaited successor) = absent
status_of (Free kept) = free_here kept
status_of (Held successor) = held_here

-- whether a grant of the lock came
abbrev pub brings : ℕ → Came → Bool
brings l by_itself = false
brings l (comes from message) = is_grant_of l message

-- no acquire and no release of the lock is made
pub record IsNeither (l : ℕ) (deed : Option Deed) : Type 0 where
  pub acquire : deed ≡ Some (Acquire l) → ⊥
  pub release : deed ≡ Some (Release l) → ⊥

-- no grant of the lock is sent, or this one alone
abbrev pub NoGrants : ℕ → List Letter → Type 0
NoGrants l [] = Unit {0}
NoGrants l (x ∷ letters) = (is_grant_of l x.message ≡ false) × NoGrants l letters

pub record OneGrant (l : ℕ) (time : List ℕ) (letters : List Letter) : Type 0 where
  pub to : ℕ
  pub m : LockGrantRecord
  pub lock_is : m.lock ≡ l
  pub time_is : m.time ≡ time
  pub letters_are : letters ≡ letter to (LockGrant m) ∷ []

-- what a turn does to the token of the lock, with the node's time after it
pub data Move (l : ℕ) (s : Site) (came : Came) (deed : Option Deed) (time : List ℕ) (letters : List Letter) : Status → Status → Type 0 where
  -- nothing,
  still : {a : Status} → brings l came ≡ false → IsNeither l deed → NoGrants l letters → Covers time s.locks.time → Move l s came deed time letters a a
  -- a free token is taken,
  takes : (kept : List ℕ) → brings l came ≡ false → deed ≡ Some (Acquire l) → NoGrants l letters → s.wait ≡ nothing
      → time ≡ next_time s.me s.locks.time → Move l s came deed time letters (free_here kept) held_here
  -- a held one released, and kept or passed on,
  keeps : brings l came ≡ false → deed ≡ Some (Release l) → NoGrants l letters → time ≡ next_time s.me s.locks.time
      → Move l s came deed time letters held_here (free_here time)
  passes : brings l came ≡ false → deed ≡ Some (Release l) → OneGrant l time letters → time ≡ next_time s.me s.locks.time
      → Move l s came deed time letters held_here absent
  -- a free one given away,
  gives : (kept : List ℕ) → brings l came ≡ false → IsNeither l deed → OneGrant l kept letters → Covers time s.locks.time
      → Move l s came deed time letters (free_here kept) absent
  -- or it comes.
  gets : (from : ℕ) (m : LockGrantRecord) → came ≡ comes from (LockGrant m) → m.lock ≡ l → deed ≡ Some (Acquire l) → NoGrants l letters
      → s.wait ≡ grant l → time ≡ joined s.locks.time m.time → Move l s came deed time letters absent held_here

pub covers-next : (me : ℕ) (time : List ℕ) → Covers (next_time me time) time
covers-next me time = covers-raised time me (entry time me + 1) (omega arith)

-- ---- deeds of no lock, or of another

pub no_deed : (l : ℕ) (deed : Option Deed) → deed ≡ None → IsNeither l deed
no_deed l deed e = record { acquire = λ is. none_some (sym e ∙ is); release = λ is. none_some (sym e ∙ is) }
  where
    none_some : {d : Deed} → None ≡ Some d → ⊥
    none_some is = cc

plain_deed : (l value : ℕ) (next : Next) → is_plain next ≡ true → IsNeither l (Some (deed_of value next))
plain_deed l value (acquires k t) e = cc
plain_deed l value (releases k t) e = cc
plain_deed l value (arrives t) e = cc
plain_deed l value (departs t) e = cc
plain_deed l value _ e = record { acquire = λ is. cc; release = λ is. cc }

departs_deed : (l value : ℕ) (t : Thread) → IsNeither l (Some (deed_of value (departs t)))
departs_deed l value t = record { acquire = λ is. cc; release = λ is. cc }

arrives_deed : (l value : ℕ) (t : Thread) → IsNeither l (Some (deed_of value (arrives t)))
arrives_deed l value t = record { acquire = λ is. cc; release = λ is. cc }

other_acquire : (l k : ℕ) → (k ≡ l → ⊥) → IsNeither l (Some (Acquire k))
other_acquire l k ne = record { acquire = λ is. let same : k ≡ l = cc in ne same; release = λ is. cc }

other_release : (l k : ℕ) → (k ≡ l → ⊥) → IsNeither l (Some (Release k))
other_release l k ne = record { acquire = λ is. cc; release = λ is. let same : k ≡ l = cc in ne same }

-- ---- letters of no grant

no_page_grant : (l : ℕ) (m : Message) → is_other m ≡ true → is_grant_of l m ≡ false
no_page_grant l (ChangesRequest m) e = refl
no_page_grant l (ChangesReply m) e = refl
no_page_grant l (PageRequest page) e = refl
no_page_grant l (PageReply m) e = refl
no_page_grant l _ e = cc

others-none : (l : ℕ) (letters : List Letter) → AreOthers letters → NoGrants l letters
others-none l [] h = tt
others-none l (x ∷ letters) h = (no_page_grant l x.message h.0, others-none l letters h.1)

departures-none : (l : ℕ) (departures : List Departure) → NoGrants l (map departure_of departures)
departures-none l [] = tt
departures-none l (d ∷ departures) = (refl, departures-none l departures)

discards-none : (l : ℕ) (nodes : List ℕ) (episode : ℕ) → NoGrants l (discards_to nodes episode)
discards-none l [] episode = tt
discards-none l (n ∷ nodes) episode = (refl, discards-none l nodes episode)

-- a pass of another lock
pass-none : (l : ℕ) (pass : Option Pass) (letters : List Letter) → ((p : Pass) → pass ≡ Some p → p.lock ≡ l → ⊥) → Grants pass letters → NoGrants l letters
pass-none l None letters ne g = subst (NoGrants l) (sym g) tt
pass-none l (Some p) letters ne g = subst (NoGrants l) (sym g.1) (ne_eqb p.lock l (ne p refl), tt)

-- ---- one lock's state afterwards

pub own_state : (held : HeldRecord) (l : ℕ) (s : LockState) → l < length held.locks → lock_at (with_lock held l s) l ≡ s
own_state held l s lt = get_or-set_same held.locks l s Away lt

pub other_state : (held : HeldRecord) (k l : ℕ) (s : LockState) → (k ≡ l → ⊥) → lock_at (with_lock held k s) l ≡ lock_at held l
other_state held k l s ne = get_or-set_other held.locks k l s Away (λ e. ne (sym e))

pub own_after : (held : HeldRecord) (l : ℕ) (step : LockStep) → l < length held.locks → lock_at (held_after held l step) l ≡ state_after (lock_at held l) step
own_after held l (refuses fault) lt = refl
own_after held l (stays next) lt = own_state held l next lt
own_after held l (passes_on pass) lt = own_state held l Away lt

pub other_after : (held : HeldRecord) (k l : ℕ) (step : LockStep) → (k ≡ l → ⊥) → lock_at (held_after held k step) l ≡ lock_at held l
other_after held k l (refuses fault) ne = refl
other_after held k l (stays next) ne = other_state held k l next ne
other_after held k l (passes_on pass) ne = other_state held k l Away ne

pub held_within : (xs : List LockState) (l : ℕ) → is_held (slice_index_or xs l Away) ≡ true → l < length xs
held_within [] l e = cc
held_within (x ∷ xs) zero e = omega arith
held_within (x ∷ xs) (suc l) e = let lt : l < length xs = held_within xs l e in omega (arith, lt)

-- ---- each kind of turn

module _ (l : ℕ) (s : Site) (fits : FixesNext s.wait (next_in s.course)) (waits : AwaitsOne s.wait s.locks.held) (holding : HoldsTokens s.course s.locks.held)
    (counted : length s.locks.held.locks ≡ s.tokens) (below : (lock : ℕ) → acquiring (next_in s.course) ≡ Some lock → lock < s.tokens) where
  abbrev at_lock : HeldRecord → Status
  at_lock held = status_of (lock_at held l)

  next_then : (w : Wait) → s.wait ≡ w → FixesNext w (next_in s.course)
  next_then w e = subst (λ w. FixesNext w (next_in s.course)) e fits

  -- the deed made is that of what the text did next
  deed_is : (deed : Option Deed) (after : Course) (next : Next) (m : Acted s.course deed after) → next_in s.course ≡ Some next
      → deed ≡ Some (deed_of m.value next)
  deed_is deed after next m n = m.deed_is ∙ deed_next m.value s.course next n

  neither : (deed : Option Deed) (after : Course) (next : Next) → Acted s.course deed after → next_in s.course ≡ Some next
      → ((value : ℕ) → IsNeither l (Some (deed_of value next))) → IsNeither l deed
  neither deed after next m n h = subst (IsNeither l) (sym (deed_is deed after next m n)) (h m.value)

  -- nothing changes at this lock
  abbrev Stays : Came → Option Deed → List ℕ → List Letter → HeldRecord → Type 0
  Stays came deed time letters after = Move l s came deed time letters (at_lock s.locks.held) (at_lock after)

  stays_so : (came : Came) (deed : Option Deed) (time : List ℕ) (letters : List Letter) (after : HeldRecord) → brings l came ≡ false → IsNeither l deed
      → NoGrants l letters → Covers time s.locks.time → at_lock after ≡ at_lock s.locks.held → Stays came deed time letters after
  stays_so came deed time letters after b d g c e = subst (Move l s came deed time letters (at_lock s.locks.held)) (sym e) (still b d g c)

  same_time : Covers s.locks.time s.locks.time
  same_time = covers-refl s.locks.time

  later : Covers (next_time s.me s.locks.time) s.locks.time
  later = covers-next s.me s.locks.time

  joined_later : (time : List ℕ) → Covers (joined s.locks.time time) s.locks.time
  joined_later time = covers-joined_first s.locks.time time

  -- a free lock is taken
  free_is : (state : LockState) → is_free state ≡ true → (kept : List ℕ) × (status_of state ≡ free_here kept)
  free_is (Free kept) e = (kept, refl)
  free_is Away e = cc
  free_is (Awaited successor) e = cc
  free_is (Held successor) e = cc

  taking : (lock : ℕ) (deed : Option Deed) (after : Course) → s.wait ≡ nothing → acquiring (next_in s.course) ≡ Some lock
      → is_free (lock_at s.locks.held lock) ≡ true → Acted s.course deed after
      → Stays by_itself deed (next_time s.me s.locks.time) [] (taken s.locks.held lock)
  taking lock deed after w n f m =
      let next : (x : Thread) × (next_in s.course ≡ Some (acquires lock x)) = lock_next (next_in s.course) lock n in
      let did : deed ≡ Some (Acquire lock) = deed_is deed after (acquires lock next.0) m next.1 in
      let now : taken s.locks.held lock ≡ with_lock s.locks.held lock (Held None) = taken_is s.locks.held lock f in
      elim (cases_eq lock l) [
        | inl same ↦
            let lt : l < length s.locks.held.locks = subst (λ k. k < length s.locks.held.locks) same (subst (λ k. lock < k) (sym counted) (below lock n)) in
            let was : (kept : List ℕ) × (at_lock s.locks.held ≡ free_here kept) =
            free_is (lock_at s.locks.held l) (subst (λ k. is_free (lock_at s.locks.held k) ≡ true) same f) in
            let is : at_lock (taken s.locks.held lock) ≡ held_here =
            ap at_lock now ∙ ap (λ k. at_lock (with_lock s.locks.held k (Held None))) same ∙ ap status_of (own_state s.locks.held l (Held None) lt) in
            subst (Move l s by_itself deed (next_time s.me s.locks.time) [] (at_lock s.locks.held)) (sym is)
            (subst (λ a. Move l s by_itself deed (next_time s.me s.locks.time) [] a held_here) (sym was.1)
            (takes was.0 refl (did ∙ ap (λ k. Some (Acquire k)) same) tt w refl))
        | inr ne ↦
            stays_so by_itself deed (next_time s.me s.locks.time) [] (taken s.locks.held lock) refl
            (subst (IsNeither l) (sym did) (other_acquire l lock ne)) tt later
            (ap at_lock now ∙ ap status_of (other_state s.locks.held lock l (Held None) ne))
      ]

  -- another asks
  asking : (lock : ℕ) (deed : Option Deed) (after : Course) (letters : List Letter) → s.wait ≡ nothing → acquiring (next_in s.course) ≡ Some lock
      → is_free (lock_at s.locks.held lock) ≡ false → Rested s.course deed after → NoGrants l letters → is_held (lock_at s.locks.held lock) ≡ false
      → Stays by_itself deed (next_time s.me s.locks.time) letters (asked s.locks.held lock)
  asking lock deed after letters w n f m g unheld =
      stays_so by_itself deed (next_time s.me s.locks.time) letters (asked s.locks.held lock) refl (no_deed l deed m.deed_is) g later (elim (cases_eq lock l) [
        | inl same ↦
            let lt : l < length s.locks.held.locks = subst (λ k. k < length s.locks.held.locks) same (subst (λ k. lock < k) (sym counted) (below lock n)) in
            ap (λ k. at_lock (with_lock s.locks.held k (Awaited None))) same
            ∙ ap status_of (own_state s.locks.held l (Awaited None) lt)
            ∙ sym (nowhere (lock_at s.locks.held l) (subst (λ k. is_free (lock_at s.locks.held k) ≡ false) same f)
            (subst (λ k. is_held (lock_at s.locks.held k) ≡ false) same unheld))
        | inr ne ↦ ap status_of (other_state s.locks.held lock l (Awaited None) ne)
      ])
    where
      nowhere : (state : LockState) → is_free state ≡ false → is_held state ≡ false → status_of state ≡ absent
      nowhere Away f h = refl
      nowhere (Awaited successor) f h = refl
      nowhere (Free kept) f h = cc
      nowhere (Held successor) f h = cc

  -- a held lock is released
  release_at : (deed : Option Deed) (letters : List Letter) (state : LockState) → is_held state ≡ true → deed ≡ Some (Release l)
      → Grants (pass_of (released_at l (next_time s.me s.locks.time) state)) letters
      → Move l s by_itself deed (next_time s.me s.locks.time) letters (status_of state) (status_of (state_after state (released_at l
      (next_time s.me s.locks.time) state)))
  release_at deed letters (Held None) h d g = keeps refl d (subst (NoGrants l) (sym g) tt) refl
  release_at deed letters (Held (Some waiter)) h d g =
      passes refl d
      (record {
        to = waiter.node;
        m = record { lock = l; time = next_time s.me s.locks.time; intervals = g.0 };
        lock_is = refl;
        time_is = refl;
        letters_are = g.1;
      }) refl
  release_at deed letters Away h d g = cc
  release_at deed letters (Awaited successor) h d g = cc
  release_at deed letters (Free kept) h d g = cc

  pass_lock : (lock : ℕ) (now : List ℕ) (state : LockState) (pass : Pass) → pass_of (released_at lock now state) ≡ Some pass → pass.lock ≡ lock
  pass_lock lock now Away pass e = cc
  pass_lock lock now (Awaited successor) pass e = cc
  pass_lock lock now (Free kept) pass e = cc
  pass_lock lock now (Held None) pass e = cc
  pass_lock lock now (Held (Some waiter)) pass e = sym (some_lock _ pass e)
    where
      some_lock : (a b : Pass) → Some a ≡ Some b → a.lock ≡ b.lock
      some_lock a b e = let same : a ≡ b = cc in ap (λ (p : Pass). p.lock) same

  letting_go : (lock : ℕ) (t : Thread) (deed : Option Deed) (after : Course) (letters : List Letter) → next_in s.course ≡ Some (releases lock t)
      → Acted s.course deed after → Grants (pass_of (released s.locks.held lock (next_time s.me s.locks.time))) letters
      → Stays by_itself deed (next_time s.me s.locks.time) letters (held_after s.locks.held lock (released s.locks.held lock (next_time s.me s.locks.time)))
  letting_go lock t deed after letters n m g =
      let now : List ℕ = next_time s.me s.locks.time in
      let did : deed ≡ Some (Release lock) = deed_is deed after (releases lock t) m n in
      let mine : is_held (lock_at s.locks.held lock) ≡ true = let_go s.course s.locks.held lock t holding n in
      elim (cases_eq lock l) [
        | inl same ↦
            let mine' : is_held (lock_at s.locks.held l) ≡ true = subst (λ k. is_held (lock_at s.locks.held k) ≡ true) same mine in
            subst (λ k. Stays by_itself deed now letters (held_after s.locks.held k (released s.locks.held k now))) (sym same)
            (subst (Move l s by_itself deed now letters (at_lock s.locks.held))
            (sym (ap status_of (own_after s.locks.held l (released s.locks.held l now) (held_within s.locks.held.locks l mine'))))
            (release_at deed letters (lock_at s.locks.held l) mine' (did ∙ ap (λ k. Some (Release k)) same)
            (subst (λ k. Grants (pass_of (released s.locks.held k now)) letters) same g)))
        | inr ne ↦
            stays_so by_itself deed now letters (held_after s.locks.held lock (released s.locks.held lock now)) refl
            (subst (IsNeither l) (sym did) (other_release l lock ne))
            (pass-none l (pass_of (released s.locks.held lock now)) letters
            (λ p is e. ne (sym (pass_lock lock now (lock_at s.locks.held lock) p is) ∙ e)) g)
            later (ap status_of (other_after s.locks.held lock l (released s.locks.held lock now) ne))
      ]

  -- a request comes on: a free token goes to its asker, else the asker is kept
  forward_at : (from : ℕ) (m : LockForwardRecord) (deed : Option Deed) (letters : List Letter) (state : LockState) (b : Bool) → deed ≡ None
      → is_taken (if b then refuses NotMine else forwarded_at l (record { node = m.asker; time = m.time }) state) ≡ true
      → Grants (pass_of (if b then refuses NotMine else forwarded_at l (record { node = m.asker; time = m.time }) state)) letters
      → Move l s (comes from (LockForward m)) deed s.locks.time letters (status_of state)
      (status_of (state_after state (if b then refuses NotMine else forwarded_at l (record { node = m.asker; time = m.time }) state)))
  forward_at from m deed letters state true d t g = cc
  forward_at from m deed letters Away false d t g = cc
  forward_at from m deed letters (Awaited None) false d t g = still refl (no_deed l deed d) (subst (NoGrants l) (sym g) tt) same_time
  forward_at from m deed letters (Awaited (Some waiter)) false d t g = cc
  forward_at from m deed letters (Free kept) false d t g =
      gives kept refl (no_deed l deed d)
      (record { to = m.asker; m = record { lock = l; time = kept; intervals = g.0 }; lock_is = refl; time_is = refl; letters_are = g.1 })
      same_time
  forward_at from m deed letters (Held None) false d t g = still refl (no_deed l deed d) (subst (NoGrants l) (sym g) tt) same_time
  forward_at from m deed letters (Held (Some waiter)) false d t g = cc

  forward_lock : (lock : ℕ) (waiter : Waiter) (state : LockState) (b : Bool) (pass : Pass)
      → pass_of (if b then refuses NotMine else forwarded_at lock waiter state) ≡ Some pass → pass.lock ≡ lock
  forward_lock lock waiter state true pass e = cc
  forward_lock lock waiter Away false pass e = cc
  forward_lock lock waiter (Awaited None) false pass e = cc
  forward_lock lock waiter (Awaited (Some w)) false pass e = cc
  forward_lock lock waiter (Free kept) false pass e = sym (some_lock _ pass e)
    where
      some_lock : (a b : Pass) → Some a ≡ Some b → a.lock ≡ b.lock
      some_lock a b e = let same : a ≡ b = cc in ap (λ (p : Pass). p.lock) same
  forward_lock lock waiter (Held None) false pass e = cc
  forward_lock lock waiter (Held (Some w)) false pass e = cc

  passing_on : (from : ℕ) (m : LockForwardRecord) (deed : Option Deed) (letters : List Letter) → deed ≡ None → m.lock < s.tokens
      → is_taken (forwarded s.locks.held m.lock m.asker m.time) ≡ true → Grants (pass_of (forwarded s.locks.held m.lock m.asker m.time)) letters
      → Stays (comes from (LockForward m)) deed s.locks.time letters (held_after s.locks.held m.lock (forwarded s.locks.held m.lock m.asker m.time))
  passing_on from m deed letters d lt t g =
      let step : ℕ → LockStep = λ k. forwarded s.locks.held k m.asker m.time in
      elim (cases_eq m.lock l) [
        | inl same ↦
            let within : l < length s.locks.held.locks = subst (λ k. k < length s.locks.held.locks) same (subst (λ k. m.lock < k) (sym counted) lt) in
            subst (λ k. Stays (comes from (LockForward m)) deed s.locks.time letters (held_after s.locks.held k (step k))) (sym same)
            (subst (Move l s (comes from (LockForward m)) deed s.locks.time letters (at_lock s.locks.held))
            (sym (ap status_of (own_after s.locks.held l (step l) within)))
            (forward_at from m deed letters (lock_at s.locks.held l) (m.asker == s.locks.held.me) d
            (subst (λ k. is_taken (step k) ≡ true) same t) (subst (λ k. Grants (pass_of (step k)) letters) same g)))
        | inr ne ↦
            stays_so (comes from (LockForward m)) deed s.locks.time letters (held_after s.locks.held m.lock (step m.lock)) refl (no_deed l deed d)
            (pass-none l (pass_of (step m.lock)) letters
            (λ p is e. ne (sym (forward_lock m.lock (record { node = m.asker; time = m.time }) (lock_at s.locks.held m.lock)
            (m.asker == s.locks.held.me) p is) ∙ e)) g)
            same_time (ap status_of (other_after s.locks.held m.lock l (step m.lock) ne))
      ]

  -- the grant comes
  grant_at : (from : ℕ) (m : LockGrantRecord) (deed : Option Deed) (state : LockState) → is_awaited state ≡ true → m.lock ≡ l → deed ≡ Some (Acquire l)
      → s.wait ≡ grant l
      → Move l s (comes from (LockGrant m)) deed (joined s.locks.time m.time) [] (status_of state) (status_of (state_after state (granted_at state)))
  grant_at from m deed (Awaited successor) e is d w = gets from m refl is d tt w refl
  grant_at from m deed Away e is d w = cc
  grant_at from m deed (Free kept) e is d w = cc
  grant_at from m deed (Held successor) e is d w = cc

  granting : (from : ℕ) (m : LockGrantRecord) (deed : Option Deed) (after : Course) → s.wait ≡ grant m.lock → m.lock < s.tokens → Acted s.course deed after
      → Stays (comes from (LockGrant m)) deed (joined s.locks.time m.time) [] (held_after s.locks.held m.lock (granted s.locks.held m.lock))
  granting from m deed after w lt acted =
      let next : (x : Thread) × (next_in s.course ≡ Some (acquires m.lock x)) = lock_next (next_in s.course) m.lock (next_then (grant m.lock) w) in
      let did : deed ≡ Some (Acquire m.lock) = deed_is deed after (acquires m.lock next.0) acted next.1 in
      elim (cases_eq m.lock l) [
        | inl same ↦
            let within : l < length s.locks.held.locks = subst (λ k. k < length s.locks.held.locks) same (subst (λ k. m.lock < k) (sym counted) lt) in
            let wait : s.wait ≡ grant l = w ∙ ap grant same in
            let awaited : is_awaited (lock_at s.locks.held l) ≡ true = awaits_it s.locks.held l (subst (λ w. AwaitsOne w s.locks.held) wait waits) in
            subst (λ k. Stays (comes from (LockGrant m)) deed (joined s.locks.time m.time) [] (held_after s.locks.held k (granted s.locks.held k))) (sym same)
            (subst (Move l s (comes from (LockGrant m)) deed (joined s.locks.time m.time) [] (at_lock s.locks.held))
            (sym (ap status_of (own_after s.locks.held l (granted s.locks.held l) within)))
            (grant_at from m deed (lock_at s.locks.held l) awaited same (did ∙ ap (λ k. Some (Acquire k)) same) wait))
        | inr ne ↦
            stays_so (comes from (LockGrant m)) deed (joined s.locks.time m.time) [] (held_after s.locks.held m.lock (granted s.locks.held m.lock))
            (ne_eqb m.lock l ne) (subst (IsNeither l) (sym did) (other_acquire l m.lock ne)) tt (joined_later m.time)
            (ap status_of (other_after s.locks.held m.lock l (granted s.locks.held m.lock) ne))
      ]

  quiet_so : (came : Came) (deed : Option Deed) (letters : List Letter) → brings l came ≡ false → IsNeither l deed → NoGrants l letters
      → Stays came deed s.locks.time letters s.locks.held
  quiet_so came deed letters b d g = stays_so came deed s.locks.time letters s.locks.held b d g same_time refl

  no_grant : (message : Message) → is_other message ≡ true → (from : ℕ) → brings l (comes from message) ≡ false
  no_grant message o from = no_page_grant l message o

  plainly : (deed : Option Deed) (after : Course) (next : Next) → Acted s.course deed after → next_in s.course ≡ Some next → is_plain next ≡ true
      → IsNeither l deed
  plainly deed after next m n is = neither deed after next m n (λ v. plain_deed l v next is)

  leaves : (deed : Option Deed) (after : Course) (w : Wait) → s.wait ≡ w → ((x : Thread) × (next_in s.course ≡ Some (departs x)))
      → Acted s.course deed after → IsNeither l deed
  leaves deed after w is next m = neither deed after (departs next.0) m next.1 (λ v. departs_deed l v next.0)

  -- every turn makes one of the six moves at each lock
  pub moves : (unheld : (lock : ℕ) → acquiring (next_in s.course) ≡ Some lock → is_held (lock_at s.locks.held lock) ≡ false)
      → (came : Came) (acts : Bool) (wait : Wait) (locks : Locks) (barrier : Barrier) (letters : List Letter) (deed : Option Deed) (after : Course)
      → Sends s came acts wait locks barrier letters → Moved acts s.course deed after
      → Move l s came deed locks.time letters (at_lock s.locks.held) (at_lock locks.held)
  moves unheld _ _ _ _ _ letters deed after (plain next w n is o) m =
      quiet_so by_itself deed letters refl (plainly deed after next m n is) (others-none l letters o)
  moves unheld _ _ _ _ _ letters deed after (misses w n o) m = quiet_so by_itself deed letters refl (no_deed l deed m.deed_is) (others-none l letters o)
  moves unheld _ _ _ _ _ _ deed after (takes_free lock w n f) m = taking lock deed after w n f m
  moves unheld _ _ _ _ _ letters deed after (asks lock w n f) m = asking lock deed after letters w n f m (refl, tt) (unheld lock n)
  moves unheld _ _ _ _ _ letters deed after (releasing lock t w n g) m = letting_go lock t deed after letters n m g
  moves unheld _ _ _ locks _ letters deed after (arriving t ask intervals w n) m =
      stays_so by_itself deed (next_time s.me s.locks.time) letters s.locks.held refl (neither deed after (arrives t) m n (λ v. arrives_deed l v t))
      (refl, tt) later refl
  moves unheld _ _ _ _ _ letters deed after (manages from r lt counted mine) m =
      quiet_so (comes from (LockRequest r)) deed letters refl (no_deed l deed m.deed_is) (refl, tt)
  moves unheld _ _ _ _ _ letters deed after (forwarding from f lt asker counted mine t g) m = passing_on from f deed letters m.deed_is lt t g
  moves unheld _ _ _ _ _ _ deed after (grants from g lt w k) m = granting from g deed after w lt m
  moves unheld _ _ _ _ _ letters deed after (gathers from a before manager at counted is) m =
      quiet_so (comes from (Arrive a)) deed letters refl (no_deed l deed m.deed_is) tt
  moves unheld _ _ _ _ _ letters deed after (lets_depart from a before manager departures at counted is) m =
      quiet_so (comes from (Arrive a)) deed letters refl (no_deed l deed m.deed_is) (departures-none l departures)
  moves unheld _ _ _ _ _ letters deed after (departing from d k c) m =
      stays_so (comes from (Depart d)) deed (joined s.locks.time d.time) letters s.locks.held refl
      (leaves deed after departure k.wait (departure_next (next_in s.course) (next_then departure k.wait)) m) tt (joined_later d.time) refl
  moves unheld _ _ _ _ _ letters deed after (collecting from d k c t o) m =
      stays_so (comes from (Depart d)) deed (joined s.locks.time d.time) letters s.locks.held refl (no_deed l deed m.deed_is) (others-none l letters o)
      (joined_later d.time) refl
  moves unheld _ _ _ _ _ letters deed after (clean_at_once from d k c t) m =
      stays_so (comes from (Depart d)) deed (joined s.locks.time d.time) letters s.locks.held refl (no_deed l deed m.deed_is) (refl, tt)
      (joined_later d.time) refl
  moves unheld _ _ _ _ _ letters deed after (notes_clean from episode before manager at is) m =
      quiet_so (comes from (Clean episode)) deed letters refl (no_deed l deed m.deed_is) tt
  moves unheld _ _ _ _ _ letters deed after (lets_discard from episode over before manager at is) m =
      quiet_so (comes from (Clean episode)) deed letters refl (no_deed l deed m.deed_is) (discards-none l (range_with_len 0 s.nodes) over)
  moves unheld _ _ _ _ _ letters deed after (discarding from episode collection w z e) m =
      quiet_so (comes from (Discard episode)) deed letters refl
      (leaves deed after (discard collection) w (departure_next (next_in s.course) (next_then (discard collection) w)) m) tt
  moves unheld _ _ _ _ _ letters deed after (serves from message o h) m =
      quiet_so (comes from message) deed letters (no_grant message o from) (no_deed l deed m.deed_is) (others-none l letters h)
  moves unheld _ _ _ _ _ letters deed after (accessing from message need o w) m =
      let next : (next : Next) × ((next_in s.course ≡ Some next) × (is_plain next ≡ true)) = access_next (next_in s.course) (next_then (access need) w) in
      quiet_so (comes from message) deed letters (no_grant message o from) (plainly deed after next.0 m next.1.0 next.1.1) tt
  moves unheld _ _ _ _ _ letters deed after (still_misses from message before o w) m =
      quiet_so (comes from message) deed letters (no_grant message o from) (no_deed l deed m.deed_is) tt
  moves unheld _ _ _ _ _ letters deed after (still_collects from message before had o w t) m =
      quiet_so (comes from message) deed letters (no_grant message o from) (no_deed l deed m.deed_is) tt
  moves unheld _ _ _ _ _ letters deed after (cleaning from message before had o w t) m =
      quiet_so (comes from message) deed letters (no_grant message o from) (no_deed l deed m.deed_is) (refl, tt)
