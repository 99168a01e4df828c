-- How many nodes have a lock's token, and what the token's place says of each node.
use Rattle.std.proofs.Common.{◌≡◌, ℕ, zero, suc, ◌+◌, List, [], ◌∷◌, Bool, true, false, length, refl, sym, ap, ◌∙◌, arith}
use Rattle.std.specs.Prelude.{◌↔◌, Some, cond, filter, slice_get}
use Rattle.lrc_trace.specs.declared.act.Act.{Act}
use Rattle.lrc_clock.specs.Times.{released_time}
use Rattle.lrc_lock.specs.declared.state.LockState.{LockState}
use Rattle.lrc_lock.specs.declared.state.LockState.TheVariants.{Away, Awaited, Free, Held}
use Rattle.lrc_lock.specs.Held.{lock_at, is_held, has_token}
use Rattle.lrc_envelope.specs.Envelope.{EnvelopeRecord}
use Rattle.lrc_envelope.specs.Records.{LockGrantRecord}
use Rattle.lrc_envelope.specs.declared.message.Message.TheVariants.{LockGrant}
use Rattle.lrc_protocol.specs.Run.{Logged}
use Rattle.lrc_order_laws.specs.Tokens.{tokens_at_nodes}
use Rattle.lrc_order_laws.proofs.LockMoves.{absent, free_here, held_here, status_of}
use Rattle.lrc_order_laws.proofs.LockActs.{HeldNow}
use Rattle.lrc_order_laws.proofs.TokenSteps.{Token, held_at, free_at, coming, at_free, at_held}
use Rattle.lrc_order_laws.proofs.TokenWorlds.{state_in, status_in, times_in}

-- ---- by a node's state

has_none : (s : LockState) → status_of s ≡ absent → has_token s ≡ false
has_none Away e = refl
has_none (Awaited successor) e = refl
has_none (Free kept) e = cc
has_none (Held successor) e = cc

has_free : (s : LockState) (kept : List ℕ) → status_of s ≡ free_here kept → has_token s ≡ true
has_free (Free k) kept e = refl
has_free Away kept e = cc
has_free (Awaited successor) kept e = cc
has_free (Held successor) kept e = cc

has_held : (s : LockState) → status_of s ≡ held_here → has_token s ≡ true
has_held (Held successor) e = refl
has_held Away e = cc
has_held (Awaited successor) e = cc
has_held (Free kept) e = cc

held_by : (s : LockState) → is_held s ≡ true → status_of s ≡ held_here
held_by (Held successor) e = refl
held_by Away e = cc
held_by (Awaited successor) e = cc
held_by (Free kept) e = cc

by_held : (s : LockState) → status_of s ≡ held_here → is_held s ≡ true
by_held (Held successor) e = refl
by_held Away e = cc
by_held (Awaited successor) e = cc
by_held (Free kept) e = cc

-- ---- counts

drop : (c : Bool) (x : Logged) (rest : List Logged) → c ≡ false → length (cond c (x ∷ rest) rest) ≡ length rest
drop true x rest e = cc
drop false x rest e = refl

keep : (c : Bool) (x : Logged) (rest : List Logged) → c ≡ true → length (cond c (x ∷ rest) rest) ≡ suc (length rest)
keep true x rest e = refl
keep false x rest e = cc

nothing_at : (j : ℕ) (e : EnvelopeRecord) → slice_get [] j ≡ Some e → ⊥
nothing_at j e is = cc

module _ (k : ℕ) where
  abbrev have : List Logged → List Logged
  have all = filter (λ l. has_token (lock_at l.node.locks.held k)) all

  abbrev state : Logged → LockState
  state l = lock_at l.node.locks.held k

  none_have : (all : List Logged) → ((q : ℕ) → status_in k all q ≡ absent) → tokens_at_nodes k all ≡ 0
  none_have [] h = refl
  none_have (x ∷ all) h = drop (has_token (state x)) x (have all) (has_none (state x) (h zero)) ∙ none_have all (λ q. h (suc q))

  one_has : (all : List Logged) (h : ℕ) → has_token (state_in k (slice_get all h)) ≡ true → ((m : ℕ) → (m ≡ h → ⊥) → status_in k all m ≡ absent)
      → tokens_at_nodes k all ≡ 1
  one_has [] h has others = cc
  one_has (x ∷ all) zero has others =
      keep (has_token (state x)) x (have all) has
      ∙ ap suc (none_have all (λ q. others (suc q) (λ e. absurd (omega (arith, e)))))
  one_has (x ∷ all) (suc h) has others =
      drop (has_token (state x)) x (have all) (has_none (state x) (others zero (λ e. absurd (omega (arith, e)))))
      ∙ one_has all h has (λ m ne. others (suc m) (λ e. ne (omega (arith, e))))

  module _ (nodes : ℕ) (all : List Logged) (pending : List EnvelopeRecord) (acts : List Act) (times : List (List ℕ)) where
    abbrev AToken : Type 0
    AToken = Token k nodes (status_in k all) (times_in all) pending acts times

    -- the token is in one place
    pub one_place : AToken → tokens_at_nodes k all + length pending ≡ 1
    one_place (held_at h at others none a) =
        let one : tokens_at_nodes k all ≡ 1 = one_has all h (has_held (state_in k (slice_get all h)) at) others in
        let no : length pending ≡ 0 = ap length none in
        omega (arith, one, no)
    one_place (free_at h kept at others none nobody last counted below) =
        let one : tokens_at_nodes k all ≡ 1 = one_has all h (has_free (state_in k (slice_get all h)) kept at) others in
        let no : length pending ≡ 0 = ap length none in
        omega (arith, one, no)
    one_place (coming e m nowhere sole is nobody last) =
        let no : tokens_at_nodes k all ≡ 0 = none_have all nowhere in
        let one : length pending ≡ 1 = ap length sole in
        omega (arith, one, no)

    -- who holds the lock has the token, and it is held
    pub holder_has_it : AToken → (h : ℕ) (l : Logged) → slice_get all h ≡ Some l → HeldNow acts h k ↔ (is_held (lock_at l.node.locks.held k) ≡ true)
    holder_has_it token h l at = (
      by_acts token,
      λ e.
          (at_held k nodes (status_in k all) (times_in all) pending acts times h (ap (λ o. status_of (state_in k o)) at ∙ held_by
          (state l) e) token).holds.holds,
    )
      where
        by_acts : AToken → HeldNow acts h k → is_held (state l) ≡ true
        by_acts (held_at g here others none a) held =
            by_held (state l) (sym (ap (λ o. status_of (state_in k o)) at) ∙ ap (status_in k all) (a.alone h held) ∙ here)
        by_acts (free_at g kept here others none nobody last counted below) held = absurd (nobody h held)
        by_acts (coming e m nowhere sole is nobody last) held = absurd (nobody h held)

    -- a free token's time, and a pending grant's, are that of the last release
    pub free_time : AToken → (h : ℕ) (l : Logged) (kept : List ℕ) → slice_get all h ≡ Some l → lock_at l.node.locks.held k ≡ Free kept
        → kept ≡ released_time nodes acts times k (length acts)
    free_time token h l kept at is =
        (at_free k nodes (status_in k all) (times_in all) pending acts times h kept (ap (λ o. status_of (state_in k o)) at ∙ ap status_of is) token).last

    pub grant_time : AToken → (e : EnvelopeRecord) (m : LockGrantRecord) (j : ℕ) → slice_get pending j ≡ Some e → e.message ≡ LockGrant m
        → m.time ≡ released_time nodes acts times k (length acts)
    grant_time (held_at h at others none a) e m j there is = absurd (nothing_at j e (sym (ap (λ xs. slice_get xs j) none) ∙ there))
    grant_time (free_at h kept at others none nobody last counted below) e m j there is =
        absurd (nothing_at j e (sym (ap (λ xs. slice_get xs j) none) ∙ there))
    grant_time (coming x g nowhere sole message nobody last) e m j there is =
        let same : x ≡ e = only x e j (sym (ap (λ xs. slice_get xs j) sole) ∙ there) in
        time_same m g (sym is ∙ ap (λ (e : EnvelopeRecord). e.message) (sym same) ∙ message) ∙ last
      where
        only : (x e : EnvelopeRecord) (j : ℕ) → slice_get (x ∷ []) j ≡ Some e → x ≡ e
        only x e zero is = cc
        only x e (suc j) is = cc

        time_same : (a b : LockGrantRecord) → LockGrant a ≡ LockGrant b → a.time ≡ b.time
        time_same a b e = let same : a ≡ b = cc in ap (λ (m : LockGrantRecord). m.time) same
