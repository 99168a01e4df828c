-- What reaches one of some positions: no positions, one set or another, the same set said otherwise, and one position.
use Rattle.std.proofs.Common.{◌≡◌, ℕ, ◌+◌, ◌<◌, ◌⊎◌, List, length, get_or, set, max, inl, inr, refl, sym, subst, arith, get_or-set_same, get_or-set_other}
use Rattle.std.proofs.lemmas.Bool.{cases_eq, cases_lt}
use Rattle.lrc_trace.specs.declared.act.Act.{Act}
use Rattle.lrc_trace.specs.declared.act.Deed.{Deed}
use Rattle.lrc_trace.specs.Run.{Does}
use Rattle.lrc_trace.specs.Order.{Precedes, program, base, Reaches}
use Rattle.lrc_trace.proofs.Positions.{Does-one_node}
use Rattle.lrc_trace.proofs.HappensBefore.{forward, Reaches-extends, Reaches-last}
use Rattle.lrc_judge.specs.declared.reach.Reach.{Reach}
use Rattle.lrc_judge.specs.Past.{Gathers}

module _ (run : List Act) where
  -- nothing reaches a position of none
  pub Gathers-none : (these : ℕ → Type 0) (reach : Reach) → ((p : ℕ) → get_or reach.latest p 0 ≡ 0) → ((k : ℕ) → these k → ⊥) → Gathers run these reach
  Gathers-none these reach zeros none = record {
    sound = λ i p d h lt. let z = zeros p in absurd (omega arith);
    complete = λ i k p d h t r. absurd (none k t);
  }

  -- the same positions, said otherwise
  pub Gathers-same : (these those : ℕ → Type 0) (reach : Reach) → ((k : ℕ) → these k → those k) → ((k : ℕ) → those k → these k)
      → Gathers run these reach → Gathers run those reach
  Gathers-same these those reach to from g = record {
    sound = λ i p d h lt. let (k, t, r) = g.sound i p d h lt in (k, to k t, r);
    complete = λ i k p d h t r. g.complete i k p d h (from k t) r;
  }

  -- the ones or the others
  pub Gathers-joined : (these those : ℕ → Type 0) (x y z : Reach) → Gathers run these x → Gathers run those y
      → ((p : ℕ) → get_or z.latest p 0 ≡ max (get_or x.latest p 0) (get_or y.latest p 0)) → Gathers run (λ k. these k ⊎ those k) z
  Gathers-joined these those x y z g h e = record {
    sound = λ i p d act lt.
        elim (cases_lt i (get_or x.latest p 0)) [
          | inl here ↦ let (k, t, r) = g.sound i p d act here in (k, inl t, r)
          | inr past ↦ let same = e p in let (k, t, r) = h.sound i p d act (omega arith) in (k, inr t, r)
        ];
    complete = λ i k p d act t r.
        let same = e p in
        elim t [
          | inl a ↦ let below = g.complete i k p d act a r in omega arith
          | inr b ↦ let below = h.complete i k p d act b r in omega arith
        ];
  }

  -- Where an act is by the node, what comes right before it gives what the act is reached by: one more than its own
  -- position is put at its node.
  pub Gathers-here : (n node : ℕ) (deed : Deed) (before after : Reach) → Does run n node deed → node < length before.latest
      → Gathers run (λ k. Precedes run k n) before → after.latest ≡ set before.latest node (n + 1) → Gathers run (λ k. k ≡ n) after
  Gathers-here n node deed before after here within g e = record {
    sound = λ i p d act lt.
        elim (cases_eq p node) [
          | inl same ↦
              let at : get_or after.latest p 0 ≡ n + 1 = rw (e, same, get_or-set_same before.latest node (n + 1) 0 within) in
              elim (cases_eq i n) [
                | inl there ↦ (n, refl, inl there)
                | inr other ↦ (n, refl, inr (base (program (omega arith) act (subst (λ m. Does run n m deed) (sym same) here))))
              ]
          | inr apart ↦
              let at : get_or after.latest p 0 ≡ get_or before.latest p 0 = rw (e, get_or-set_other before.latest node p (n + 1) 0 apart) in
              let (k, t, r) = g.sound i p d act (omega arith) in
              (n, refl, inr (Reaches-extends run r (base t)))
        ];
    complete = λ i k p d act t r.
        let r' : Reaches run i n = subst (λ m. Reaches run i m) t r in
        elim (cases_eq p node) [
          | inl same ↦
              let at : get_or after.latest p 0 ≡ n + 1 = rw (e, same, get_or-set_same before.latest node (n + 1) 0 within) in
              elim r' [
                | inl there ↦ omega arith
                | inr h ↦ let lt = forward h in omega arith
              ]
          | inr apart ↦
              let at : get_or after.latest p 0 ≡ get_or before.latest p 0 = rw (e, get_or-set_other before.latest node p (n + 1) 0 apart) in
              elim r' [
                | inl there ↦ absurd (apart (Does-one_node (subst (λ m. Does run m p d) there act) here))
                | inr h ↦
                    let (m, reaches, last) = Reaches-last run h in
                    let below = g.complete i m p d act last reaches in omega arith
              ]
        ];
  }

  -- what is gathered for one position reaches it
  pub Gathers-one : (n : ℕ) (reach : Reach) → Gathers run (λ k. k ≡ n) reach → (i p : ℕ) (d : Deed) → Does run i p d
      → i < get_or reach.latest p 0 → Reaches run i n
  Gathers-one n reach g i p d act lt = let (k, is, r) = g.sound i p d act lt in subst (λ m. Reaches run i m) is r
