-- What a vector gathers: no positions, one set or another, the same set said otherwise, and one position.
use Rattle.std.proofs.Common.{◌≡◌, ℕ, ◌+◌, ◌<◌, ◌≤◌, ◌⊎◌, List, [], get_or, max, inl, inr, refl, sym, subst, ◌∙◌, ap, arith}
use Rattle.std.proofs.lemmas.Bool.{cases_eq, cases_lt}
use Rattle.lrc_races_trace.specs.declared.event.Event.{Event}
use Rattle.lrc_races_trace.specs.Trace.{At}
use Rattle.lrc_races_trace.specs.Order.{program, HappensBefore}
use Rattle.lrc_races_trace.proofs.Positions.{At-one}
use Rattle.lrc_races_sure.specs.Leading.{LeadsOn, ordered, one, Leads}
use Rattle.lrc_races_sure.proofs.Leading.{to-forward, to-ordered, leads-further}
use Rattle.lrc_races_sure.proofs.Deciding.{to-last}
use Rattle.lrc_races_detector.specs.Vectors.{IsPut}
use Rattle.lrc_races_detector.specs.Knowing.{Before}
use Rattle.lrc_races_detector.proofs.Levelling.{levelled_above, levelled_below}
use Rattle.lrc_races_sure_pass.specs.Knowing.{Gathers}

module _ (events : List Event) where
  -- nothing leads to a position of none
  pub Gathers-none : (these : ℕ → Type 0) → ((k : ℕ) → these k → ⊥) → Gathers events these []
  Gathers-none these none = record {
    sound = λ i a h lt. absurd (omega arith);
    complete = λ i k a h t r. absurd (none k t);
  }

  -- the same positions, said otherwise
  pub Gathers-same : (these those : ℕ → Type 0) (x : List ℕ) → ((k : ℕ) → these k → those k) → ((k : ℕ) → those k → these k)
      → Gathers events these x → Gathers events those x
  Gathers-same these those x to from g = record {
    sound = λ i a h lt. let (k, t, r) = g.sound i a h lt in (k, to k t, r);
    complete = λ i k a h t r. g.complete i k a h (from k t) r;
  }

  -- the same entries
  pub Gathers-equal : (these : ℕ → Type 0) (x z : List ℕ) → ((p : ℕ) → get_or z p 0 ≡ get_or x p 0) → Gathers events these x → Gathers events these z
  Gathers-equal these x z e g = record {
    sound = λ i a h lt. let same = e a.thread in g.sound i a h (omega arith);
    complete = λ i k a h t r. let same = e a.thread in let below = g.complete i k a h t r in omega arith;
  }

  -- some entries are raised to n, of which no less is known than of all events before n
  pub Gathers-levelled : (these Here : ℕ → Type 0) (x z : List ℕ) (own : ℕ → ℕ) (n : ℕ)
      → ((p : ℕ) → (get_or z p 0 ≡ get_or x p 0) ⊎ (Here p × (own p ≤ get_or x p 0) × (get_or z p 0 ≡ max
      (get_or x p 0) n)))
      → ((i : ℕ) (a : Event) → At events i a → i < n → i < own a.thread)
      → Gathers events these x → Gathers events these z
  Gathers-levelled these Here x z own n levelled known g = record {
    sound = λ i a h lt.
        let t = a.thread in
        g.sound i a h (levelled_below (Here t) (get_or x t 0) (get_or z t 0) (own t) n i (levelled t) (known i a h) lt);
    complete = λ i k a h t r.
        let u = a.thread in
        levelled_above (Here u) (get_or x u 0) (get_or z u 0) (own u) n i (levelled u) (g.complete i k a h t r);
  }

  -- the ones or the others
  pub Gathers-joined : (these those : ℕ → Type 0) (x y z : List ℕ) → Gathers events these x → Gathers events those y
      → ((p : ℕ) → get_or z p 0 ≡ max (get_or x p 0) (get_or y p 0)) → Gathers events (λ k. these k ⊎ those k) z
  Gathers-joined these those x y z g h e = record {
    sound = λ i a act lt.
        elim (cases_lt i (get_or x a.thread 0)) [
          | inl here ↦ let (k, t, r) = g.sound i a act here in (k, inl t, r)
          | inr past ↦ let same = e a.thread in let (k, t, r) = h.sound i a act (omega arith) in (k, inr t, r)
        ];
    complete = λ i k a act t r.
        let same = e a.thread in
        elim t [
          | inl of ↦ let below = g.complete i k a act of r in omega arith
          | inr other ↦ let below = h.complete i k a act other r in omega arith
        ];
  }

  -- What leads right to an event gives what leads to it: one more than its own position is put at its thread.
  pub Gathers-here : (n : ℕ) (b : Event) (before after : List ℕ) → At events n b → Gathers events (λ k. LeadsOn events k n) before
      → IsPut before after b.thread (n + 1) → Gathers events (λ k. k ≡ n) after
  Gathers-here n b before after here g put = record {
    sound = λ i a act lt.
        elim (cases_eq a.thread b.thread) [
          | inl same ↦
              let at : get_or after a.thread 0 ≡ n + 1 = ap (λ p. get_or after p 0) same ∙ put.here in
              elim (cases_eq i n) [
                | inl there ↦ (n, refl, inl there)
                | inr other ↦ (n, refl, inr (one (ordered (program (omega arith) act here same))))
              ]
          | inr apart ↦
              let at = put.others a.thread apart in
              let (k, t, r) = g.sound i a act (omega arith) in
              (n, refl, inr (leads-further r (one t)))
        ];
    complete = λ i k a act t r.
        let r' : Leads events i n = subst (λ m. Leads events i m) t r in
        elim (cases_eq a.thread b.thread) [
          | inl same ↦
              let at : get_or after a.thread 0 ≡ n + 1 = ap (λ p. get_or after p 0) same ∙ put.here in
              elim r' [
                | inl there ↦ omega arith
                | inr h ↦ let lt = to-forward h in omega arith
              ]
          | inr apart ↦
              let at = put.others a.thread apart in
              elim r' [
                | inl there ↦ absurd (apart (ap (λ (x : Event). x.thread) (At-one (subst (λ m. At events m a) there act) here)))
                | inr h ↦
                    let (m, reaches, last) = to-last events h in
                    let below = g.complete i m a act last reaches in omega arith
              ]
        ];
  }

  -- what is gathered for one position is it, or leads to it
  pub Gathers-one : (n : ℕ) (x : List ℕ) → Gathers events (λ k. k ≡ n) x → (i : ℕ) (a : Event) → At events i a
      → i < get_or x a.thread 0 → Leads events i n
  Gathers-one n x g i a act lt = let (k, is, r) = g.sound i a act lt in subst (λ m. Leads events i m) is r

-- The positions before n where P holds, and those before n + 1.
module _ (events : List Event) (n : ℕ) (P : ℕ → Type 0) where
  -- P doesn't hold at n
  pub next-same : (x : List ℕ) → (P n → ⊥) → Gathers events (Before n P) x → Gathers events (Before (n + 1) P) x
  next-same x fails g =
      Gathers-same events (Before n P) (Before (n + 1) P) x (λ k (lt, h). (omega arith, h)) (λ k (lt, h).
      elim (cases_eq k n) [
        | inl there ↦ absurd (fails (subst P there h))
        | inr other ↦ (omega arith, h)
      ]) g

  -- it does, and what leads to n is joined to what was
  pub next-joined : (x here z : List ℕ) → P n → Gathers events (Before n P) x → Gathers events (λ k. k ≡ n) here
      → ((p : ℕ) → get_or z p 0 ≡ max (get_or x p 0) (get_or here p 0)) → Gathers events (Before (n + 1) P) z
  next-joined x here z holds g h e =
      Gathers-same events (λ k. (Before n P k) ⊎ (k ≡ n)) (Before (n + 1) P) z (λ k t.
      elim t [
        | inl (lt, p) ↦ (omega arith, p)
        | inr there ↦ (omega arith, subst P (sym there) holds)
      ]) (λ k (lt, p).
      elim (cases_eq k n) [
        | inl there ↦ inr there
        | inr other ↦ inl (omega arith, p)
      ]) (Gathers-joined events (Before n P) (λ k. k ≡ n) x here z g h e)

  -- it does, and all before n where it does happen before n
  pub next-only : (here : List ℕ) → P n → ((k : ℕ) → k < n → P k → HappensBefore events k n) → Gathers events (λ k. k ≡ n) here
      → Gathers events (Before (n + 1) P) here
  next-only here holds before g = record {
    sound = λ i a h lt. let (k, t, r) = g.sound i a h lt in (k, (omega arith, subst P (sym t) holds), r);
    complete = λ i k a h (lt, t) r.
        elim (cases_eq k n) [
          | inl there ↦ g.complete i k a h there r
          | inr other ↦ g.complete i n a h refl (inr (leads-further r (to-ordered (before k (omega arith) t))))
        ];
  }
