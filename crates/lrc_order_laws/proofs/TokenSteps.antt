-- Where the token of one lock is, and what the acts say of the lock there; and how a move at one node changes it.
use Rattle.std.proofs.Common.{◌≡◌, ℕ, List, [], ◌∷◌, ◌++◌, false, length, refl, sym, ap, subst, ◌∙◌, inl, inr}
use Rattle.std.specs.Prelude.{Option, Some}
use Rattle.std.proofs.lemmas.Bool.{cases_eq}
use Rattle.lrc_trace.specs.declared.act.Act.{Act}
use Rattle.lrc_trace.specs.declared.act.Deed.{Deed}
use Rattle.lrc_trace.specs.declared.act.Deed.TheVariants.{Acquire, Release}
use Rattle.lrc_time.specs.Time.{joined, Covers}
use Rattle.lrc_time.proofs.Times.{covers-refl, covers-trans, joined-covers}
use Rattle.lrc_clock.specs.Times.{raised, time_before, released_time}
use Rattle.lrc_envelope.specs.Envelope.{EnvelopeRecord}
use Rattle.lrc_envelope.specs.Records.{LockGrantRecord}
use Rattle.lrc_envelope.specs.declared.message.Message.TheVariants.{LockGrant}
use Rattle.lrc_protocol.specs.Times.{next_time}
use Rattle.lrc_protocol.specs.Node.{Letter, nothing, grant}
use Rattle.lrc_order_laws.proofs.Present.{more_acts, more_times}
use Rattle.lrc_order_laws.proofs.Sends.{Came, comes, Site}
use Rattle.lrc_order_laws.proofs.LockMoves.{Status, absent, free_here, held_here, brings, IsNeither, NoGrants, OneGrant}
use Rattle.lrc_order_laws.proofs.LockMoves.{Move, still, takes, keeps, passes, gives, gets, covers-next}
use Rattle.lrc_order_laws.proofs.LockActs.{HeldNow, NobodyHolds, HoldsAlone, released-still, released-now}
use Rattle.lrc_order_laws.proofs.LockActs.{nobody-still, alone-still, alone-taken, nobody-released}

-- By where each node stands with the token, the nodes' times, the pending grants of the lock, and the acts with their times:
pub data Token (l nodes : ℕ) (st : ℕ → Status) (T : ℕ → List ℕ) (pending : List EnvelopeRecord) (acts : List Act) (times : List (List ℕ)) : Type 0 where
  -- it is held at one node, which alone holds the lock;
  held_at : (h : ℕ) → st h ≡ held_here → ((m : ℕ) → (m ≡ h → ⊥) → st m ≡ absent) → pending ≡ [] → HoldsAlone acts h l
      → Token l nodes st T pending acts times
  -- or it is free at one node, with the time of the last release, which that node's time covers, and nobody holds the lock;
  free_at : (h : ℕ) (kept : List ℕ) → st h ≡ free_here kept → ((m : ℕ) → (m ≡ h → ⊥) → st m ≡ absent) → pending ≡ [] → NobodyHolds acts l
      → kept ≡ released_time nodes acts times l (length acts) → length kept ≡ nodes → Covers (T h) kept
      → Token l nodes st T pending acts times
  -- or it is at no node, and one grant is pending, with the time of the last release, and nobody holds the lock.
  coming : (e : EnvelopeRecord) (m : LockGrantRecord) → ((q : ℕ) → st q ≡ absent) → pending ≡ e ∷ [] → e.message ≡ LockGrant m → NobodyHolds acts l
      → m.time ≡ released_time nodes acts times l (length acts)
      → Token l nodes st T pending acts times

-- ---- by where a node stands

pub record AtFree (l nodes : ℕ) (st : ℕ → Status) (T : ℕ → List ℕ) (pending : List EnvelopeRecord) (acts : List Act) (times : List (List ℕ)) (n : ℕ)
    (kept : List ℕ) : Type 0 where
  pub alone : (m : ℕ) → (m ≡ n → ⊥) → st m ≡ absent
  pub none : pending ≡ []
  pub nobody : NobodyHolds acts l
  pub last : kept ≡ released_time nodes acts times l (length acts)
  pub counted : length kept ≡ nodes
  pub below : Covers (T n) kept

pub record AtHeld (l : ℕ) (st : ℕ → Status) (pending : List EnvelopeRecord) (acts : List Act) (n : ℕ) : Type 0 where
  pub alone : (m : ℕ) → (m ≡ n → ⊥) → st m ≡ absent
  pub none : pending ≡ []
  pub holds : HoldsAlone acts n l

pub record AtComing (l nodes : ℕ) (st : ℕ → Status) (pending : List EnvelopeRecord) (acts : List Act) (times : List (List ℕ)) : Type 0 where
  pub e : EnvelopeRecord
  pub m : LockGrantRecord
  pub nowhere : (q : ℕ) → st q ≡ absent
  pub one : pending ≡ e ∷ []
  pub is : e.message ≡ LockGrant m
  pub nobody : NobodyHolds acts l
  pub last : m.time ≡ released_time nodes acts times l (length acts)

absent_free : (kept : List ℕ) → absent ≡ free_here kept → ⊥
absent_free kept e = cc

absent_held : absent ≡ held_here → ⊥
absent_held e = cc

held_free : (kept : List ℕ) → held_here ≡ free_here kept → ⊥
held_free kept e = cc

same_kept : (a b : List ℕ) → free_here a ≡ free_here b → a ≡ b
same_kept a b e = cc

module _ (l nodes : ℕ) (st : ℕ → Status) (T : ℕ → List ℕ) (pending : List EnvelopeRecord) (acts : List Act) (times : List (List ℕ)) (n : ℕ) where
  pub at_free : (kept : List ℕ) → st n ≡ free_here kept → Token l nodes st T pending acts times → AtFree l nodes st T pending acts times n kept
  at_free kept is (held_at h at others none a) = elim (cases_eq n h) [
    | inl e ↦ absurd (held_free kept (sym at ∙ ap st (sym e) ∙ is))
    | inr ne ↦ absurd (absent_free kept (sym (others n ne) ∙ is))
  ]
  at_free kept is (free_at h k at others none nobody last counted below) = elim (cases_eq n h) [
    | inl e ↦
        let same : k ≡ kept = same_kept k kept (sym at ∙ ap st (sym e) ∙ is) in
        record {
          alone = λ m ne. others m (λ is. ne (is ∙ sym e));
          none = none;
          nobody = nobody;
          last = sym same ∙ last;
          counted = ap length (sym same) ∙ counted;
          below = subst (λ h. Covers (T h) kept) (sym e) (subst (Covers (T h)) same below);
        }
    | inr ne ↦ absurd (absent_free kept (sym (others n ne) ∙ is))
  ]
  at_free kept is (coming e m nowhere one message nobody last) = absurd (absent_free kept (sym (nowhere n) ∙ is))

  pub at_held : st n ≡ held_here → Token l nodes st T pending acts times → AtHeld l st pending acts n
  at_held is (held_at h at others none a) = elim (cases_eq n h) [
    | inl e ↦ record { alone = λ m ne. others m (λ is. ne (is ∙ sym e)); none = none; holds = subst (λ h. HoldsAlone acts h l) (sym e) a }
    | inr ne ↦ absurd (absent_held (sym (others n ne) ∙ is))
  ]
  at_held is (free_at h k at others none nobody last counted below) = elim (cases_eq n h) [
    | inl e ↦ absurd (held_free k (sym is ∙ ap st e ∙ at))
    | inr ne ↦ absurd (absent_held (sym (others n ne) ∙ is))
  ]
  at_held is (coming e m nowhere one message nobody last) = absurd (absent_held (sym (nowhere n) ∙ is))

  pub at_coming : (pending ≡ [] → ⊥) → Token l nodes st T pending acts times → AtComing l nodes st pending acts times
  at_coming some (held_at h at others none a) = absurd (some none)
  at_coming some (free_at h k at others none nobody last counted below) = absurd (some none)
  at_coming some (coming e m nowhere one message nobody last) =
      record { e = e; m = m; nowhere = nowhere; one = one; is = message; nobody = nobody; last = last }

-- ---- a move

-- what a move gives: where the token is then; that who acquires finds the lock free, and learns the last release's time; and
-- that who releases holds it
pub record Stepped (l nodes n : ℕ) (st : ℕ → Status) (T : ℕ → List ℕ) (now : List EnvelopeRecord) (acts : List Act) (times : List (List ℕ))
    (deed : Option Deed) (time : List ℕ) : Type 0 where
  pub token : Token l nodes st T now (acts ++ more_acts n deed) (times ++ more_times n time deed)
  pub acquires : deed ≡ Some (Acquire l)
      → NobodyHolds acts l × (time ≡ joined (raised (time_before nodes acts times n (length acts)) n) (released_time nodes acts times l (length acts)))
  pub releases : deed ≡ Some (Release l) → HeldNow acts n l

module _ (l nodes n : ℕ) (st st' : ℕ → Status) (T T' : ℕ → List ℕ) (elsewhere : (m : ℕ) → (m ≡ n → ⊥) → st' m ≡ st m)
    (times_elsewhere : (m : ℕ) → (m ≡ n → ⊥) → T' m ≡ T m) (s : Site) (me : s.me ≡ n) (time_was : s.locks.time ≡ T n) (time : List ℕ) (time_is : T' n ≡ time)
    (counted : length time ≡ nodes) (was now out : List EnvelopeRecord) (acts : List Act) (times : List (List ℕ)) (timed : length times ≡ length acts)
    (deed : Option Deed) (came : Came) (letters : List Letter) (stays : brings l came ≡ false → now ≡ was ++ out)
    (some : (from : ℕ) (m : LockGrantRecord) → came ≡ comes from (LockGrant m) → m.lock ≡ l → was ≡ [] → ⊥)
    (loses : (from : ℕ) (m : LockGrantRecord) (e : EnvelopeRecord) → came ≡ comes from (LockGrant m) → m.lock ≡ l → was ≡ e ∷ []
    → (e.message ≡ LockGrant m) × (now ≡ out))
    (none_out : NoGrants l letters → out ≡ [])
    (one_out : (time : List ℕ) (g : OneGrant l time letters) → (e : EnvelopeRecord) × ((out ≡ e ∷ []) × (e.message ≡ LockGrant g.m)))
    (idle : s.wait ≡ nothing → T n ≡ time_before nodes acts times n (length acts))
    (waiting : s.wait ≡ grant l → T n ≡ raised (time_before nodes acts times n (length acts)) n) where
  abbrev last : List ℕ
  last = time_before nodes acts times n (length acts)

  abbrev released : List ℕ
  released = released_time nodes acts times l (length acts)

  all_same : st' n ≡ st n → (m : ℕ) → st' m ≡ st m
  all_same e m = elim (cases_eq m n) [ inl is ↦ subst (λ k. st' k ≡ st k) (sym is) e | inr ne ↦ elsewhere m ne ]

  all_cover : Covers time (T n) → (m : ℕ) → Covers (T' m) (T m)
  all_cover c m = elim (cases_eq m n) [
    | inl is ↦ subst (λ k. Covers (T' k) (T k)) (sym is) (subst (λ t. Covers t (T n)) (sym time_is) c)
    | inr ne ↦ subst (λ t. Covers t (T m)) (sym (times_elsewhere m ne)) (covers-refl (T m))
  ]

  covers_old : Covers time s.locks.time → Covers time (T n)
  covers_old c = subst (Covers time) time_was c

  nothing_new : brings l came ≡ false → NoGrants l letters → now ≡ was
  nothing_new b g = stays b ∙ ap (λ o. was ++ o) (none_out g) ∙ append_nil was
    where
      append_nil : (xs : List EnvelopeRecord) → xs ++ [] ≡ xs
      append_nil [] = refl
      append_nil (x ∷ xs) = ap (λ ys. x ∷ ys) (append_nil xs)

  released_same : (deed ≡ Some (Release l) → ⊥) → released_time nodes (acts ++ more_acts n deed) (times ++ more_times n time deed) l (length
      (acts ++ more_acts n deed)) ≡ released
  released_same ne = released-still nodes acts times timed n time l deed ne

  nobody_same : (deed ≡ Some (Acquire l) → ⊥) → NobodyHolds acts l → NobodyHolds (acts ++ more_acts n deed) l
  nobody_same ne none = nobody-still nodes acts times timed n time l deed ne none

  token_same : IsNeither l deed → now ≡ was → ((m : ℕ) → st' m ≡ st m) → ((m : ℕ) → Covers (T' m) (T m)) → Token l nodes st T was acts times
      → Token l nodes st' T' now (acts ++ more_acts n deed) (times ++ more_times n time deed)
  token_same d e same cover (held_at h at others none a) =
      held_at h (same h ∙ at) (λ m ne. same m ∙ others m ne) (e ∙ none) (alone-still nodes acts times timed n time l deed h d a)
  token_same d e same cover (free_at h k at others none nobody is long below) =
      free_at h k (same h ∙ at) (λ m ne. same m ∙ others m ne) (e ∙ none) (nobody_same d.acquire nobody)
      (is ∙ sym (released_same d.release)) long (covers-trans (T' h) (T h) k (cover h) below)
  token_same d e same cover (coming x m nowhere one message nobody is) =
      coming x m (λ q. same q ∙ nowhere q) (e ∙ one) message (nobody_same d.acquire nobody) (is ∙ sym (released_same d.release))

  release_no_acquire : deed ≡ Some (Release l) → deed ≡ Some (Acquire l) → ⊥
  release_no_acquire r a = no (sym r ∙ a)
    where
      no : Some (Release l) ≡ Some (Acquire l) → ⊥
      no e = cc

  pub stepped : (a b : Status) → Move l s came deed time letters a b → st n ≡ a → st' n ≡ b → Token l nodes st T was acts times
      → Stepped l nodes n st' T' now acts times deed time
  stepped a _ (still bf d g c) ea eb token = record {
    token = token_same d (nothing_new bf g) (all_same (eb ∙ sym ea)) (all_cover (covers_old c)) token;
    acquires = λ e. absurd (d.acquire e);
    releases = λ e. absurd (d.release e);
  }
  stepped _ _ (takes kept bf d g w t) ea eb token =
      let at : AtFree l nodes st T was acts times n kept = at_free l nodes st T was acts times n kept ea token in
      let t' : time ≡ raised (T n) n = t ∙ ap (λ k. next_time k s.locks.time) me ∙ ap (next_time n) time_was in
      let covering : Covers time kept = covers-trans time (T n) kept (subst (λ x. Covers x (T n)) (sym t') (covers-next n (T n))) at.below in
      record {
        token = held_at n eb (λ m ne. elsewhere m ne ∙ at.alone m ne) (nothing_new bf g ∙ at.none)
            (alone-taken nodes acts times timed n time l deed d at.nobody);
        acquires = λ e. (
          at.nobody,
          sym (joined-covers time kept (counted ∙ sym at.counted) covering)
              ∙ ap (λ x. joined x kept) (t' ∙ ap (λ x. raised x n) (idle w))
              ∙ ap (joined (raised last n)) at.last,
        );
        releases = λ e. absurd (release_no_acquire e d);
      }
  stepped _ _ (keeps bf d g t) ea eb token =
      let at : AtHeld l st was acts n = at_held l nodes st T was acts times n ea token in
      record {
        token = free_at n time eb (λ m ne. elsewhere m ne ∙ at.alone m ne) (nothing_new bf g ∙ at.none)
            (nobody-released nodes acts times timed n time l deed d at.holds)
            (sym (released-now nodes acts times timed n time l deed d)) counted (subst (λ x. Covers x time) (sym time_is) (covers-refl time));
        acquires = λ e. absurd (release_no_acquire d e);
        releases = λ e. at.holds.holds;
      }
  stepped _ _ (passes bf d g t) ea eb token =
      let at : AtHeld l st was acts n = at_held l nodes st T was acts times n ea token in
      let one : (e : EnvelopeRecord) × ((out ≡ e ∷ []) × (e.message ≡ LockGrant g.m)) = one_out time g in
      record {
        token = coming one.0 g.m (λ q. elim (cases_eq q n) [ inl is ↦ ap st' is ∙ eb | inr ne ↦ elsewhere q ne ∙ at.alone q ne ])
            (stays bf ∙ ap (λ xs. xs ++ out) at.none ∙ one.1.0) one.1.1
            (nobody-released nodes acts times timed n time l deed d at.holds)
            (g.time_is ∙ sym (released-now nodes acts times timed n time l deed d));
        acquires = λ e. absurd (release_no_acquire d e);
        releases = λ e. at.holds.holds;
      }
  stepped _ _ (gives kept bf d g c) ea eb token =
      let at : AtFree l nodes st T was acts times n kept = at_free l nodes st T was acts times n kept ea token in
      let one : (e : EnvelopeRecord) × ((out ≡ e ∷ []) × (e.message ≡ LockGrant g.m)) = one_out kept g in
      record {
        token = coming one.0 g.m (λ q. elim (cases_eq q n) [ inl is ↦ ap st' is ∙ eb | inr ne ↦ elsewhere q ne ∙ at.alone q ne ])
            (stays bf ∙ ap (λ xs. xs ++ out) at.none ∙ one.1.0) one.1.1 (nobody_same d.acquire at.nobody)
            (g.time_is ∙ at.last ∙ sym (released_same d.release));
        acquires = λ e. absurd (d.acquire e);
        releases = λ e. absurd (d.release e);
      }
  stepped _ _ (gets from m is lock d g w t) ea eb token =
      let at : AtComing l nodes st was acts times = at_coming l nodes st T was acts times n (some from m is lock) token in
      let lost : (at.e.message ≡ LockGrant m) × (now ≡ out) = loses from m at.e is lock at.one in
      let same : at.m.time ≡ m.time = grant_time at.m m (sym at.is ∙ lost.0) in
      record {
        token = held_at n eb (λ q ne. elsewhere q ne ∙ at.nowhere q) (lost.1 ∙ none_out g) (alone-taken nodes acts times timed n time l deed d at.nobody);
        acquires = λ e. (
          at.nobody,
          t ∙ ap (λ x. joined x m.time) (time_was ∙ waiting w) ∙ ap (joined (raised last n)) (sym same ∙ at.last),
        );
        releases = λ e. absurd (release_no_acquire e d);
      }
    where
      grant_time : (a b : LockGrantRecord) → LockGrant a ≡ LockGrant b → a.time ≡ b.time
      grant_time a b e = let same : a ≡ b = cc in ap (λ (m : LockGrantRecord). m.time) same
