-- What a turn says of one lock, with what came, and what becomes of the lock at its node. Beside the six moves of the token this
-- tells who asks, whose request is passed on, and to whom.
use Rattle.std.proofs.Common.{◌≡◌, ℕ, ◌<◌, List, [], ◌∷◌, Bool, true, false, length, refl, sym, ap, subst, ◌∙◌, inl, inr}
use Rattle.std.specs.Prelude.{Option, Some, None, ◌==◌, slice_set, slice_index, if◌then◌else◌}
use Rattle.std.specs.List.{range_with_len}
use Rattle.std.proofs.lemmas.Bool.{cases_eq}
use Rattle.std.proofs.lemmas.List.{get_or-set_same, get_or-set_other}
use Rattle.lrc_exec.specs.Meaning.{Thread, releases}
use Rattle.lrc_envelope.specs.Records.{LockRequestRecord, LockForwardRecord, LockGrantRecord}
use Rattle.lrc_envelope.specs.declared.message.Message.TheVariants.{LockRequest, LockForward, LockGrant, Arrive, Depart, Clean, Discard}
use Rattle.lrc_lock.specs.declared.fault.LockFault.TheVariants.{NotMine}
use Rattle.lrc_lock.specs.declared.state.Waiter.{Waiter}
use Rattle.lrc_lock.specs.declared.state.LockState.{LockState}
use Rattle.lrc_lock.specs.declared.state.LockState.TheVariants.{Away, Awaited, Free, Held}
use Rattle.lrc_lock.specs.Lock.{manager_of}
use Rattle.lrc_lock.specs.Held.{LockStep, refuses, lock_at, is_free, is_held, with_lock, state_after, held_after, taken, asked, released}
use Rattle.lrc_lock.specs.Held.{released_at, forwarded, forwarded_at, granted, granted_at, pass_of, is_taken}
use Rattle.lrc_protocol.specs.Times.{next_time}
use Rattle.lrc_protocol.specs.Locks.{Locks}
use Rattle.lrc_protocol.specs.Barriers.{Barrier}
use Rattle.lrc_protocol.specs.Node.{Letter, Wait, nothing, grant as grant_of}
use Rattle.lrc_order_laws.specs.Waiting.{acquiring}
use Rattle.lrc_protocol.specs.Node.{next_in}
use Rattle.lrc_order_laws.specs.Tokens.{AwaitsOne, HoldsTokens}
use Rattle.lrc_lock.specs.Held.{is_awaited}
use Rattle.lrc_order_laws.proofs.Calls.{acquired, let_go}
use Rattle.lrc_order_laws.proofs.Tokens.{awaits_it, taken_is}
use Rattle.lrc_order_laws.proofs.Sends.{Grants, Came, by_itself, comes, Site, Sends, plain, misses, takes as takes_free, asks as asks_for, releasing}
use Rattle.lrc_order_laws.proofs.Sends.{arriving, manages as manages_request, forwarding, grants, gathers, lets_depart, departing, collecting}
use Rattle.lrc_order_laws.proofs.Sends.{clean_at_once, notes_clean, lets_discard, discarding, serves, accessing, still_misses, still_collects, cleaning}
use Rattle.lrc_order_laws.proofs.LockMoves.{own_after, other_after, own_state, other_state, held_within}
use Rattle.lrc_order_laws.proofs.LockMessages.{Saying, no, request, forward, grant, AllSilent, Says, silent, says, ComesSaying}
use Rattle.lrc_order_laws.proofs.LockMessages.{others-silent, all_others-silent, departures-silent, discards-silent, said, unsaid}

-- With the node, who asked last, what came of whom, what is sent to whom, and who asked last then: the lock's state, before and
-- after.
pub data Passing (me recent : ℕ) : ℕ → Saying → ℕ → Saying → ℕ → LockState → LockState → Type 0 where
  same : {from to : ℕ} {s : LockState} → Passing me recent from no to no recent s s
  takes : {from to : ℕ} (kept : List ℕ) → Passing me recent from no to no recent (Free kept) (Held None)
  requests : {from to : ℕ} → Passing me recent from no to request recent Away (Awaited None)
  keeps : {from to : ℕ} (kept : List ℕ) → Passing me recent from no to no recent (Held None) (Free kept)
  passes : {from : ℕ} (w : Waiter) → Passing me recent from no w.node grant recent (Held (Some w)) Away
  manages : (from : ℕ) {s : LockState} → Passing me recent from request recent (forward from) from s s
  notes_awaited : {from to : ℕ} (w : Waiter) → Passing me recent from (forward w.node) to no recent (Awaited None) (Awaited (Some w))
  notes_held : {from to : ℕ} (w : Waiter) → Passing me recent from (forward w.node) to no recent (Held None) (Held (Some w))
  gives : {from : ℕ} (b : ℕ) (kept : List ℕ) → Passing me recent from (forward b) b grant recent (Free kept) Away
  gets : {from to : ℕ} (next : Option Waiter) → Passing me recent from grant to no recent (Awaited next) (Held next)

abbrev pub recent_in : Locks → ℕ → ℕ
recent_in locks l = slice_index locks.managed.recent l

pub record Passed (l : ℕ) (s : Site) (came : Came) (letters : List Letter) (locks : Locks) : Type 0 where
  pub from : ℕ
  pub brings : Saying
  pub to : ℕ
  pub sends : Saying
  pub comes_so : ComesSaying l came from brings
  pub sends_so : Says l letters to sends
  pub passing : Passing s.me (recent_in s.locks l) from brings to sends (recent_in locks l) (lock_at s.locks.held l) (lock_at locks.held l)
  -- only the lock's manager takes a request
  pub manager : brings ≡ request → manager_of s.nodes l ≡ s.me

no_request : no ≡ request → ⊥
no_request e = cc

forward_request : (b : ℕ) → forward b ≡ request → ⊥
forward_request b e = cc

grant_request : grant ≡ request → ⊥
grant_request e = cc

module _ (l : ℕ) (s : Site) (waits : AwaitsOne s.wait s.locks.held) (holding : HoldsTokens s.course s.locks.held)
    (counted : length s.locks.held.locks ≡ s.tokens) (askers : length s.locks.managed.recent ≡ s.tokens)
    (below : (lock : ℕ) → acquiring (next_in s.course) ≡ Some lock → lock < s.tokens) where
  abbrev state : LockState
  state = lock_at s.locks.held l

  -- with the same note of who asked last
  so : (came : Came) (letters : List Letter) (locks : Locks) (from : ℕ) (brings : Saying) (to : ℕ) (sends : Saying) → (brings ≡ request → ⊥)
      → ComesSaying l came from brings
      → Says l letters to sends → recent_in locks l ≡ recent_in s.locks l → (a b : LockState) → state ≡ a → lock_at locks.held l ≡ b
      → Passing s.me (recent_in s.locks l) from brings to sends (recent_in s.locks l) a b → Passed l s came letters locks
  so came letters locks from brings to sends other c k r a b ea eb p = record {
    from = from;
    brings = brings;
    to = to;
    sends = sends;
    comes_so = c;
    sends_so = k;
    passing =
        subst (λ r. Passing s.me (recent_in s.locks l) from brings to sends r state (lock_at locks.held l)) (sym r)
        (subst (λ x. Passing s.me (recent_in s.locks l) from brings to sends (recent_in s.locks l) x (lock_at locks.held l)) (sym ea)
        (subst (Passing s.me (recent_in s.locks l) from brings to sends (recent_in s.locks l) a) (sym eb) p));
    manager = λ is. absurd (other is);
  }

  quiet_so : (came : Came) (letters : List Letter) (locks : Locks) (from : ℕ) → ComesSaying l came from no → AllSilent l letters
      → recent_in locks l ≡ recent_in s.locks l → lock_at locks.held l ≡ state → Passed l s came letters locks
  quiet_so came letters locks from c k r e = so came letters locks from no 0 no no_request c (silent k) r state state refl e same

  within_lock : (lock : ℕ) → lock ≡ l → lock < s.tokens → l < length s.locks.held.locks
  within_lock lock e lt = subst (λ k. k < length s.locks.held.locks) e (subst (λ k. lock < k) (sym counted) lt)

  -- a free lock is taken
  taking_at : (locks : Locks) → recent_in locks l ≡ recent_in s.locks l → (x : LockState) → state ≡ x → is_free x ≡ true → lock_at locks.held l ≡ Held None
      → Passed l s by_itself [] locks
  taking_at locks r (Free kept) e f eb = so by_itself [] locks 0 no 0 no no_request refl (silent tt) r (Free kept) (Held None) e eb (takes kept)
  taking_at locks r Away e f eb = cc
  taking_at locks r (Awaited successor) e f eb = cc
  taking_at locks r (Held successor) e f eb = cc

  taking : (lock : ℕ) (locks : Locks) → locks.managed ≡ s.locks.managed → locks.held ≡ taken s.locks.held lock → acquiring (next_in s.course) ≡ Some lock
      → is_free (lock_at s.locks.held lock) ≡ true → Passed l s by_itself [] locks
  taking lock locks m h n f =
      let now : locks.held ≡ with_lock s.locks.held lock (Held None) = h ∙ taken_is s.locks.held lock f in
      let r : recent_in locks l ≡ recent_in s.locks l = ap (λ m. slice_index m.recent l) m in
      elim (cases_eq lock l) [
        | inl e ↦
            taking_at locks r state refl (subst (λ k. is_free (lock_at s.locks.held k) ≡ true) e f)
            (ap (λ held. lock_at held l) now ∙ ap (λ k. lock_at (with_lock s.locks.held k (Held None)) l) e ∙ own_state s.locks.held l (Held None)
            (within_lock lock e (below lock n)))
        | inr ne ↦ quiet_so by_itself [] locks 0 refl tt r (ap (λ held. lock_at held l) now ∙ other_state s.locks.held lock l (Held None) ne)
      ]

  -- the node asks
  away_is : (x : LockState) → is_free x ≡ false → is_held x ≡ false → is_awaited x ≡ false → x ≡ Away
  away_is Away f h a = refl
  away_is (Awaited successor) f h a = cc
  away_is (Free kept) f h a = cc
  away_is (Held successor) f h a = cc

  asking : (lock to : ℕ) (time : List ℕ) (locks : Locks) → locks.managed ≡ s.locks.managed → locks.held ≡ asked s.locks.held lock → s.wait ≡ nothing
      → acquiring (next_in s.course) ≡ Some lock → is_free (lock_at s.locks.held lock) ≡ false
      → Passed l s by_itself (record { to = to; message = LockRequest (record { lock = lock; time = time }) } ∷ []) locks
  asking lock to time locks m h w n f =
      let x : Letter = record { to = to; message = LockRequest (record { lock = lock; time = time }) } in
      let r : recent_in locks l ≡ recent_in s.locks l = ap (λ m. slice_index m.recent l) m in
      let unheld : is_held (lock_at s.locks.held lock) ≡ false = acquired s.course s.locks.held lock holding n in
      let unawaited : is_awaited (lock_at s.locks.held lock) ≡ false = subst (λ w. AwaitsOne w s.locks.held) w waits lock in
      elim (cases_eq lock l) [
        | inl e ↦
            so by_itself (x ∷ []) locks 0 no to request no_request refl (says x (said lock l request e)) r Away (Awaited None)
            (subst (λ k. lock_at s.locks.held k ≡ Away) e (away_is (lock_at s.locks.held lock) f unheld unawaited))
            (ap (λ held. lock_at held l) h ∙ ap (λ k. lock_at (asked s.locks.held k) l) e ∙ own_state s.locks.held l (Awaited None) (within_lock lock e
            (below lock n)))
            requests
        | inr ne ↦
            quiet_so by_itself (x ∷ []) locks 0 refl (unsaid lock l request ne, tt) r
            (ap (λ held. lock_at held l) h ∙ other_state s.locks.held lock l (Awaited None) ne)
      ]

  -- a grant that is sent, or none
  grant_letter : (lock to : ℕ) (m : LockGrantRecord) (letters : List Letter) → m.lock ≡ lock → letters ≡ record { to = to; message = LockGrant m } ∷ []
      → lock ≡ l
      → Says l letters to grant
  grant_letter lock to m letters is e it =
      subst (λ letters. Says l letters to grant) (sym e) (says (record { to = to; message = LockGrant m }) (said m.lock l grant (is ∙ it)))

  -- a held lock is released
  releasing_at : (now : List ℕ) (letters : List Letter) (locks : Locks) → recent_in locks l ≡ recent_in s.locks l → (x : LockState) → state ≡ x
      → is_held x ≡ true
      → Grants (pass_of (released_at l now x)) letters → lock_at locks.held l ≡ state_after x (released_at l now x)
      → Passed l s by_itself letters locks
  releasing_at now letters locks r (Held None) e h g eb =
      so by_itself letters locks 0 no 0 no no_request refl (silent (subst (AllSilent l) (sym g) tt)) r (Held None) (Free now) e eb (keeps now)
  releasing_at now letters locks r (Held (Some w)) e h g eb =
      so by_itself letters locks 0 no w.node grant no_request refl (grant_letter l w.node _ letters refl g.1 refl) r (Held (Some w)) Away e eb (passes w)
  releasing_at now letters locks r Away e h g eb = cc
  releasing_at now letters locks r (Awaited successor) e h g eb = cc
  releasing_at now letters locks r (Free kept) e h g eb = cc

  released_silent : (lock : ℕ) (now : List ℕ) (letters : List Letter) (x : LockState) → (lock ≡ l → ⊥) → Grants (pass_of (released_at lock now x)) letters
      → AllSilent l letters
  released_silent lock now letters Away ne g = subst (AllSilent l) (sym g) tt
  released_silent lock now letters (Awaited successor) ne g = subst (AllSilent l) (sym g) tt
  released_silent lock now letters (Free kept) ne g = subst (AllSilent l) (sym g) tt
  released_silent lock now letters (Held None) ne g = subst (AllSilent l) (sym g) tt
  released_silent lock now letters (Held (Some w)) ne g = subst (AllSilent l) (sym g.1) (unsaid lock l grant ne, tt)

  letting_go : (lock : ℕ) (t : Thread) (now : List ℕ) (letters : List Letter) (locks : Locks) → locks.managed ≡ s.locks.managed
      → locks.held ≡ held_after s.locks.held lock (released s.locks.held lock now) → next_in s.course ≡ Some (releases lock t)
      → Grants (pass_of (released s.locks.held lock now)) letters → Passed l s by_itself letters locks
  letting_go lock t now letters locks m h n g =
      let r : recent_in locks l ≡ recent_in s.locks l = ap (λ m. slice_index m.recent l) m in
      let mine : is_held (lock_at s.locks.held lock) ≡ true = let_go s.course s.locks.held lock t holding n in
      elim (cases_eq lock l) [
        | inl e ↦
            let mine' : is_held state ≡ true = subst (λ k. is_held (lock_at s.locks.held k) ≡ true) e mine in
            releasing_at now letters locks r state refl mine' (subst (λ k. Grants (pass_of (released s.locks.held k now)) letters) e g)
            (ap (λ held. lock_at held l) h
            ∙ ap (λ k. lock_at (held_after s.locks.held k (released s.locks.held k now)) l) e
            ∙ own_after s.locks.held l (released s.locks.held l now) (held_within s.locks.held.locks l mine'))
        | inr ne ↦
            quiet_so by_itself letters locks 0 refl (released_silent lock now letters (lock_at s.locks.held lock) ne g) r
            (ap (λ held. lock_at held l) h ∙ other_after s.locks.held lock l (released s.locks.held lock now) ne)
      ]

  -- a request goes on to who asked last
  managing : (from : ℕ) (m : LockRequestRecord) (letters : List Letter) (locks : Locks) → m.lock < s.tokens → manager_of s.nodes m.lock ≡ s.me
      → locks.held ≡ s.locks.held → locks.managed.recent ≡ slice_set s.locks.managed.recent m.lock from
      → letters ≡ record { to = recent_in s.locks m.lock; message = LockForward (record { lock = m.lock; asker = from; time = m.time }) } ∷ []
      → Passed l s (comes from (LockRequest m)) letters locks
  managing from m letters locks lt mine h is e = elim (cases_eq m.lock l) [
    | inl it ↦
        let within : l < length s.locks.managed.recent = subst (λ k. k < length s.locks.managed.recent) it (subst (λ k. m.lock < k) (sym askers) lt) in
        let now : recent_in locks l ≡ from =
        ap (λ xs. slice_index xs l) is ∙ ap (λ k. slice_index (slice_set s.locks.managed.recent k from) l) it
        ∙ get_or-set_same s.locks.managed.recent l from 0 within in
        record {
          from = from;
          brings = request;
          to = recent_in s.locks l;
          sends = forward from;
          comes_so = (refl, said m.lock l request it);
          sends_so =
              subst (λ letters. Says l letters (recent_in s.locks l) (forward from)) (sym e)
              (subst (λ to. Says l (record {
                to = recent_in s.locks m.lock;
                message = LockForward
                    (record { lock = m.lock; asker = from; time = m.time });
              } ∷ []) to (forward from))
              (ap (recent_in s.locks) it) (says _ (said m.lock l (forward from) it)));
          passing =
              subst (λ r. Passing s.me (recent_in s.locks l) from request (recent_in s.locks l) (forward from) r state (lock_at locks.held l)) (sym now)
              (subst (Passing s.me (recent_in s.locks l) from request (recent_in s.locks l) (forward from) from state) (ap (λ held. lock_at held l)
              (sym h)) (manages from));
          manager = λ is. ap (manager_of s.nodes) (sym it) ∙ mine;
        }
    | inr ne ↦
        quiet_so (comes from (LockRequest m)) letters locks from (refl, unsaid m.lock l request ne)
        (subst (AllSilent l) (sym e) (unsaid m.lock l (forward from) ne, tt))
        (ap (λ xs. slice_index xs l) is ∙ get_or-set_other s.locks.managed.recent m.lock l from 0 (λ e. ne (sym e)))
        (ap (λ held. lock_at held l) h)
  ]

  -- a request comes on
  forwarding_at : (from : ℕ) (m : LockForwardRecord) (letters : List Letter) (locks : Locks) → m.lock ≡ l → recent_in locks l ≡ recent_in s.locks l
      → (x : LockState) → state ≡ x → (b : Bool) → is_taken (if b then refuses NotMine else forwarded_at l (record { node = m.asker; time = m.time }) x) ≡ true
      → Grants (pass_of (if b then refuses NotMine else forwarded_at l (record { node = m.asker; time = m.time }) x)) letters
      → lock_at locks.held l ≡ state_after x (if b then refuses NotMine else forwarded_at l (record { node = m.asker; time = m.time }) x)
      → Passed l s (comes from (LockForward m)) letters locks
  forwarding_at from m letters locks it r x e true t g eb = cc
  forwarding_at from m letters locks it r Away e false t g eb = cc
  forwarding_at from m letters locks it r (Awaited None) e false t g eb =
      let w : Waiter = record { node = m.asker; time = m.time } in
      so (comes from (LockForward m)) letters locks from (forward m.asker) 0 no (forward_request m.asker) (refl, said m.lock l (forward m.asker) it)
      (silent (subst (AllSilent l) (sym g) tt)) r
      (Awaited None) (Awaited (Some w)) e eb (notes_awaited w)
  forwarding_at from m letters locks it r (Awaited (Some first)) e false t g eb = cc
  forwarding_at from m letters locks it r (Free kept) e false t g eb =
      so (comes from (LockForward m)) letters locks from (forward m.asker) m.asker grant (forward_request m.asker) (refl, said m.lock l (forward m.asker) it)
      (grant_letter l m.asker _ letters refl g.1 refl) r (Free kept) Away e eb (gives m.asker kept)
  forwarding_at from m letters locks it r (Held None) e false t g eb =
      let w : Waiter = record { node = m.asker; time = m.time } in
      so (comes from (LockForward m)) letters locks from (forward m.asker) 0 no (forward_request m.asker) (refl, said m.lock l (forward m.asker) it)
      (silent (subst (AllSilent l) (sym g) tt)) r
      (Held None) (Held (Some w)) e eb (notes_held w)
  forwarding_at from m letters locks it r (Held (Some first)) e false t g eb = cc

  forward_silent : (lock : ℕ) (w : Waiter) (letters : List Letter) (x : LockState) (b : Bool) → (lock ≡ l → ⊥)
      → Grants (pass_of (if b then refuses NotMine else forwarded_at lock w x)) letters → AllSilent l letters
  forward_silent lock w letters x true ne g = subst (AllSilent l) (sym g) tt
  forward_silent lock w letters Away false ne g = subst (AllSilent l) (sym g) tt
  forward_silent lock w letters (Awaited None) false ne g = subst (AllSilent l) (sym g) tt
  forward_silent lock w letters (Awaited (Some first)) false ne g = subst (AllSilent l) (sym g) tt
  forward_silent lock w letters (Free kept) false ne g = subst (AllSilent l) (sym g.1) (unsaid lock l grant ne, tt)
  forward_silent lock w letters (Held None) false ne g = subst (AllSilent l) (sym g) tt
  forward_silent lock w letters (Held (Some first)) false ne g = subst (AllSilent l) (sym g) tt

  passing_on : (from : ℕ) (m : LockForwardRecord) (letters : List Letter) (locks : Locks) → m.lock < s.tokens → locks.managed ≡ s.locks.managed
      → locks.held ≡ held_after s.locks.held m.lock (forwarded s.locks.held m.lock m.asker m.time)
      → is_taken (forwarded s.locks.held m.lock m.asker m.time) ≡ true → Grants (pass_of (forwarded s.locks.held m.lock m.asker m.time)) letters
      → Passed l s (comes from (LockForward m)) letters locks
  passing_on from m letters locks lt same_note h t g =
      let step : ℕ → LockStep = λ k. forwarded s.locks.held k m.asker m.time in
      let r : recent_in locks l ≡ recent_in s.locks l = ap (λ m. slice_index m.recent l) same_note in
      elim (cases_eq m.lock l) [
        | inl e ↦
            forwarding_at from m letters locks e r state refl (m.asker == s.locks.held.me) (subst (λ k. is_taken (step k) ≡ true) e t)
            (subst (λ k. Grants (pass_of (step k)) letters) e g)
            (ap (λ held. lock_at held l) h
            ∙ ap (λ k. lock_at (held_after s.locks.held k (step k)) l) e
            ∙ own_after s.locks.held l (step l) (within_lock m.lock e lt))
        | inr ne ↦
            quiet_so (comes from (LockForward m)) letters locks from (refl, unsaid m.lock l (forward m.asker) ne)
            (forward_silent m.lock (record { node = m.asker; time = m.time }) letters (lock_at s.locks.held m.lock) (m.asker == s.locks.held.me) ne g) r
            (ap (λ held. lock_at held l) h ∙ other_after s.locks.held m.lock l (step m.lock) ne)
      ]

  -- the grant comes
  granting_at : (from : ℕ) (m : LockGrantRecord) (locks : Locks) → m.lock ≡ l → recent_in locks l ≡ recent_in s.locks l → (x : LockState) → state ≡ x
      → is_awaited x ≡ true → lock_at locks.held l ≡ state_after x (granted_at x) → Passed l s (comes from (LockGrant m)) [] locks
  granting_at from m locks it r (Awaited next) e a eb =
      so (comes from (LockGrant m)) [] locks from grant 0 no grant_request (refl, said m.lock l grant it) (silent tt) r (Awaited next) (Held next) e eb
      (gets next)
  granting_at from m locks it r Away e a eb = cc
  granting_at from m locks it r (Free kept) e a eb = cc
  granting_at from m locks it r (Held next) e a eb = cc

  granting : (from : ℕ) (m : LockGrantRecord) (locks : Locks) → m.lock < s.tokens → s.wait ≡ grant_of m.lock → locks.managed ≡ s.locks.managed
      → locks.held ≡ held_after s.locks.held m.lock (granted s.locks.held m.lock) → Passed l s (comes from (LockGrant m)) [] locks
  granting from m locks lt w same_note h =
      let r : recent_in locks l ≡ recent_in s.locks l = ap (λ m. slice_index m.recent l) same_note in
      let it : is_awaited (lock_at s.locks.held m.lock) ≡ true = awaits_it s.locks.held m.lock (subst (λ w. AwaitsOne w s.locks.held) w waits) in
      elim (cases_eq m.lock l) [
        | inl e ↦
            granting_at from m locks e r state refl (subst (λ k. is_awaited (lock_at s.locks.held k) ≡ true) e it)
            (ap (λ held. lock_at held l) h
            ∙ ap (λ k. lock_at (held_after s.locks.held k (granted s.locks.held k)) l) e
            ∙ own_after s.locks.held l (granted s.locks.held l) (within_lock m.lock e lt))
        | inr ne ↦
            quiet_so (comes from (LockGrant m)) [] locks from (refl, unsaid m.lock l grant ne) tt r
            (ap (λ held. lock_at held l) h ∙ other_after s.locks.held m.lock l (granted s.locks.held m.lock) ne)
      ]

  -- every turn passes so
  pub passings : (came : Came) (acts : Bool) (wait : Wait) (locks : Locks) (barrier : Barrier) (letters : List Letter)
      → Sends s came acts wait locks barrier letters → Passed l s came letters locks
  passings _ _ _ locks _ letters (plain next w n is o) = quiet_so by_itself letters locks 0 refl (all_others-silent l letters o) refl refl
  passings _ _ _ locks _ letters (misses w n o) = quiet_so by_itself letters locks 0 refl (all_others-silent l letters o) refl refl
  passings _ _ _ locks _ _ (takes_free lock w n f) = taking lock locks refl refl n f
  passings _ _ _ locks _ _ (asks_for lock w n f) = asking lock (manager_of s.nodes lock) (next_time s.me s.locks.time) locks refl refl w n f
  passings _ _ _ locks _ letters (releasing lock t w n g) = letting_go lock t (next_time s.me s.locks.time) letters locks refl refl n g
  passings _ _ _ locks _ letters (arriving t ask intervals w n) = quiet_so by_itself letters locks 0 refl (refl, tt) refl refl
  passings _ _ _ locks _ letters (manages_request from m lt counted mine) = managing from m letters locks lt mine refl refl refl
  passings _ _ _ locks _ letters (forwarding from m lt asker counted mine t g) = passing_on from m letters locks lt refl refl t g
  passings _ _ _ locks _ _ (grants from m lt w k) = granting from m locks lt w refl refl
  passings _ _ _ locks _ letters (gathers from a before manager at counted is) = quiet_so (comes from (Arrive a)) letters locks from (refl, refl) tt refl refl
  passings _ _ _ locks _ letters (lets_depart from a before manager departures at counted is) =
      quiet_so (comes from (Arrive a)) letters locks from (refl, refl) (departures-silent l departures) refl refl
  passings _ _ _ locks _ letters (departing from d k c) = quiet_so (comes from (Depart d)) letters locks from (refl, refl) tt refl refl
  passings _ _ _ locks _ letters (collecting from d k c t o) =
      quiet_so (comes from (Depart d)) letters locks from (refl, refl) (all_others-silent l letters o) refl refl
  passings _ _ _ locks _ letters (clean_at_once from d k c t) = quiet_so (comes from (Depart d)) letters locks from (refl, refl) (refl, tt) refl refl
  passings _ _ _ locks _ letters (notes_clean from episode before manager at is) =
      quiet_so (comes from (Clean episode)) letters locks from (refl, refl) tt refl refl
  passings _ _ _ locks _ letters (lets_discard from episode over before manager at is) =
      quiet_so (comes from (Clean episode)) letters locks from (refl, refl) (discards-silent l (range_with_len 0 s.nodes) over) refl refl
  passings _ _ _ locks _ letters (discarding from episode collection w z e) =
      quiet_so (comes from (Discard episode)) letters locks from (refl, refl) tt refl refl
  passings _ _ _ locks _ letters (serves from message o h) =
      quiet_so (comes from message) letters locks from (refl, others-silent l message o) (all_others-silent l letters h) refl refl
  passings _ _ _ locks _ letters (accessing from message need o w) =
      quiet_so (comes from message) letters locks from (refl, others-silent l message o) tt refl refl
  passings _ _ _ locks _ letters (still_misses from message before o w) =
      quiet_so (comes from message) letters locks from (refl, others-silent l message o) tt refl refl
  passings _ _ _ locks _ letters (still_collects from message before had o w t) =
      quiet_so (comes from message) letters locks from (refl, others-silent l message o) tt refl refl
  passings _ _ _ locks _ letters (cleaning from message before had o w t) =
      quiet_so (comes from message) letters locks from (refl, others-silent l message o) (refl, tt) refl refl
