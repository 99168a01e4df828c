-- What is handed on to an act, and the tables that keep it, from one act to the next.
use Rattle.std.proofs.Common.{◌≡◌, ℕ, ◌+◌, ◌<◌, ◌≤◌, ◌⊎◌, List, [], ◌∷◌, ◌++◌, length, get_or, set, max, inl, inr, refl, sym, subst, ◌∙◌, ap, arith, length-set}
use Rattle.std.proofs.lemmas.Bool.{cases_eq}
use Rattle.std.proofs.lemmas.List.{get_or-set_same, get_or-set_other, get_or_push, get_or_append_left, length_push}
use Rattle.lrc_trace.specs.declared.act.Act.{Act}
use Rattle.lrc_trace.specs.declared.act.Deed.{Deed}
use Rattle.lrc_trace.specs.declared.act.Deed.TheVariants.{Acquire, Arrive, Depart}
use Rattle.lrc_trace.specs.Run.{Does, is_arrive, arrives_before, departs_before}
use Rattle.lrc_trace.specs.Order.{Precedes, program, lock, barrier, HappensBefore}
use Rattle.lrc_trace.proofs.Positions.{Does-node, Does-deed, Does-one_node, Does-one_deed}
use Rattle.lrc_trace.proofs.HappensBefore.{Reaches-extends}
use Rattle.lrc_trace.proofs.Intervals.{count_of-rises, count_of-more}
use Rattle.lrc_judge.specs.declared.reach.Reach.{Reach}
use Rattle.lrc_judge.specs.Past.{Gathers, EachGathers, Acted, Released, Arrived}
use Rattle.lrc_judge.proofs.Gathering.{Gathers-same, Gathers-joined}

-- what comes right before an act: its node's earlier acts, and for an acquire the releases of the lock, for a depart the
-- arrives with its number
pub Precedes-cases : {run : List Act} {k n : ℕ} → Precedes run k n → (node : ℕ) (deed : Deed) → Does run n node deed
    → Acted run n node k ⊎ (((l : ℕ) × (deed ≡ Acquire l) × Released run n l k) ⊎ ((deed ≡ Depart) × Arrived run n (departs_before run node n) k))
Precedes-cases (program {a = a} lt h g) node deed here = inl (lt, (a, Does-node (Does-one_node g here) h))
Precedes-cases (lock {p = p} {l = l} lt h g) node deed here = inr (inl (l, Does-one_deed here g, (lt, (p, h))))
Precedes-cases {run} {k} {n} (barrier {p = p} lt h g e) node deed here =
    inr (inr (Does-one_deed here g, (lt, (p, h, e ∙ ap (λ m. departs_before run m n) (Does-one_node g here)))))

module _ (run : List Act) (n node : ℕ) (deed : Deed) (here : Does run n node deed) (own : Reach) (g : Gathers run (Acted run n node) own) where
  -- where the act is neither an acquire nor a depart, only its node's acts come before it
  pub handed_to_others : ((l : ℕ) → deed ≡ Acquire l → ⊥) → (deed ≡ Depart → ⊥) → Gathers run (λ k. Precedes run k n) own
  handed_to_others not_acquire not_depart =
      Gathers-same run (Acted run n node) (λ k. Precedes run k n) own (λ k (lt, (d, h)). program lt h here) (λ k p.
      elim (Precedes-cases p node deed here) [
        | inl acted ↦ acted
        | inr (inl (l, e, released)) ↦ absurd (not_acquire l e)
        | inr (inr (e, arrived)) ↦ absurd (not_depart e)
      ]) g

  pub handed_to_acquire : (l : ℕ) (released joined : Reach) → deed ≡ Acquire l → Gathers run (Released run n l) released
      → ((p : ℕ) → get_or joined.latest p 0 ≡ max (get_or own.latest p 0) (get_or released.latest p 0)) → Gathers run (λ k. Precedes run k n) joined
  handed_to_acquire l released joined is h e =
      Gathers-same run (λ k. Acted run n node k ⊎ Released run n l k) (λ k. Precedes run k n) joined (λ k t.
      elim t [
        | inl (lt, (d, a)) ↦ program lt a here
        | inr (lt, (p, r)) ↦ lock lt r (Does-deed is here)
      ]) (λ k p.
      elim (Precedes-cases p node deed here) [
        | inl acted ↦ inl acted
        | inr (inl (l', e', released')) ↦
            let same : l' ≡ l = cc in
            inr (subst (λ m. Released run n m k) same released')
        | inr (inr (e', arrived)) ↦ let never : ⊥ = cc in absurd never
      ]) (Gathers-joined run (Acted run n node) (Released run n l) own released joined g h e)

  pub handed_to_depart : (arrived joined : Reach) → deed ≡ Depart
      → Gathers run (Arrived run n (departs_before run node n)) arrived
      → ((p : ℕ) → get_or joined.latest p 0 ≡ max (get_or own.latest p 0) (get_or arrived.latest p 0)) → Gathers run (λ k. Precedes run k n) joined
  handed_to_depart arrived joined is h e =
      Gathers-same run (λ k. Acted run n node k ⊎ Arrived run n (departs_before run node n) k) (λ k. Precedes run k n) joined (λ k t.
      elim t [
        | inl (lt, (d, a)) ↦ program lt a here
        | inr (lt, (p, a, number)) ↦ barrier lt a (Does-deed is here) number
      ]) (λ k p.
      elim (Precedes-cases p node deed here) [
        | inl acted ↦ inl acted
        | inr (inl (l', e', released)) ↦ let never : ⊥ = cc in absurd never
        | inr (inr (e', arrived')) ↦ inr arrived'
      ]) (Gathers-joined run (Acted run n node) (Arrived run n (departs_before run node n)) own arrived joined g h e)

  -- where nobody has arrived so often, only the node's own acts come before its depart
  pub handed_to_lone_depart : deed ≡ Depart → ((p : ℕ) → arrives_before run p n ≤ departs_before run node n) → Gathers run (λ k. Precedes run k n) own
  handed_to_lone_depart is few =
      Gathers-same run (Acted run n node) (λ k. Precedes run k n) own (λ k (lt, (d, h)). program lt h here) (λ k p.
      elim (Precedes-cases p node deed here) [
        | inl acted ↦ acted
        | inr (inl (l, e, released)) ↦ let never : ⊥ = cc in absurd never
        | inr (inr (e, (lt, (q, a, number)))) ↦
            let more = count_of-more is_arrive run q k Arrive a refl in
            let rises = count_of-rises is_arrive run q (k + 1) n (omega arith) in
            let least = few q in
            absurd (omega arith)
      ]) g

-- The positions before n where P holds, and those before n + 1.
module _ (run : List Act) (n : ℕ) (P : ℕ → Type 0) where
  -- P doesn't hold at n
  pub next-same : (x : Reach) → (P n → ⊥) → Gathers run (λ k. (k < n) × P k) x → Gathers run (λ k. (k < n + 1) × P k) x
  next-same x fails g =
      Gathers-same run (λ k. (k < n) × P k) (λ k. (k < n + 1) × P k) x (λ k (lt, h). (omega arith, h)) (λ k (lt, h).
      elim (cases_eq k n) [
        | inl there ↦ absurd (fails (subst P there h))
        | inr other ↦ (omega arith, h)
      ]) g

  -- it does, and what n is reached by is joined to what was
  pub next-joined : (x here z : Reach) → P n → Gathers run (λ k. (k < n) × P k) x → Gathers run (λ k. k ≡ n) here
      → ((p : ℕ) → get_or z.latest p 0 ≡ max (get_or x.latest p 0) (get_or here.latest p 0)) → Gathers run (λ k. (k < n + 1) × P k) z
  next-joined x here z holds g h e =
      Gathers-same run (λ k. ((k < n) × P k) ⊎ (k ≡ n)) (λ k. (k < n + 1) × P k) z (λ k t.
      elim t [
        | inl (lt, p) ↦ (omega arith, p)
        | inr there ↦ (omega arith, subst P (sym there) holds)
      ]) (λ k (lt, p).
      elim (cases_eq k n) [
        | inl there ↦ inr there
        | inr other ↦ inl (omega arith, p)
      ]) (Gathers-joined run (λ k. (k < n) × P k) (λ k. k ≡ n) x here z g h e)

  -- it does, and all before n where it does happen before n
  pub next-only : (here : Reach) → P n → ((k : ℕ) → k < n → P k → HappensBefore run k n) → Gathers run (λ k. k ≡ n) here
      → Gathers run (λ k. (k < n + 1) × P k) here
  next-only here holds before g = record {
    sound = λ i p d h lt. let (k, t, r) = g.sound i p d h lt in (k, (omega arith, subst P (sym t) holds), r);
    complete = λ i k p d h (lt, t) r.
        elim (cases_eq k n) [
          | inl there ↦ g.complete i k p d h there r
          | inr other ↦ g.complete i n p d h refl (inr (Reaches-extends run r (before k (omega arith) t)))
        ];
  }

-- A table with a place for each x, for the positions where P x holds.
module _ (run : List Act) (n : ℕ) (P : ℕ → ℕ → Type 0) (table : List Reach) (old : EachGathers run (λ x k. (k < n) × P x k) table) where
  -- no place changes
  pub each-same : ((x : ℕ) → P x n → ⊥) → EachGathers run (λ x k. (k < n + 1) × P x k) table
  each-same fails x d h = next-same run n (P x) (get_or table x d) (fails x) (old x d h)

  -- one place changes
  pub each-set : (y : ℕ) (z : Reach) → ((x : ℕ) → P x n → x ≡ y) → Gathers run (λ k. (k < n + 1) × P y k) z
      → EachGathers run (λ x k. (k < n + 1) × P x k) (set table y z)
  each-set y z one g x d h =
      let within : x < length table = rw (← length-set table y z) h in
      elim (cases_eq x y) [
        | inl same ↦ rw (same, get_or-set_same table y z d (subst (λ m. m < length table) same within)) g
        | inr other ↦ rw (get_or-set_other table y x z d other) (next-same run n (P x) (get_or table x d) (λ p. other (one x p)) (old x d within))
      ]

  -- one place is added
  pub each-push : (z : Reach) → ((x : ℕ) → P x n → x ≡ length table) → Gathers run (λ k. (k < n + 1) × P (length table) k) z
      → EachGathers run (λ x k. (k < n + 1) × P x k) (table ++ z ∷ [])
  each-push z one g x d h =
      let long = length_push table z in
      elim (cases_eq x (length table)) [
        | inl same ↦ rw (same, get_or_push table z d (length table) refl) g
        | inr other ↦
            let within : x < length table = omega arith in
            rw (get_or_append_left table (z ∷ []) d x within) (next-same run n (P x) (get_or table x d) (λ p. other (one x p)) (old x d within))
      ]
