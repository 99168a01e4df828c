-- What happens before what, where two neighbouring acts that are not ordered change places.
use Rattle.std.proofs.Common.{◌≡◌, ℕ, ◌+◌, ◌<◌, List, Bool, length, take, sym, subst, ◌∙◌, ap, arith}
use Rattle.lrc_trace.specs.declared.act.Act.{Act}
use Rattle.lrc_trace.specs.declared.act.Deed.{Deed}
use Rattle.lrc_trace.specs.Run.{Does, is_arrive, is_depart, count_of}
use Rattle.lrc_trace.specs.Order.{Precedes, program, lock, barrier, HappensBefore, base, further}
use Rattle.lrc_trace.proofs.Positions.{Does-one_node}
use Rattle.lrc_trace.proofs.HappensBefore.{Precedes-forward, forward as goes_forward}
use Rattle.lrc_lazy.specs.Swapped.{pair, Moved, before, forward, back, behind}
use Rattle.lrc_lazy.proofs.Moving.{moved, moved_order, first_stands, second_stands, does_moved, count_front, count_far, count_past}

module _ (front : List Act) (first second : Act) (rest : List Act) (apart : first.node ≡ second.node → ⊥) where
  abbrev run : List Act
  run = pair front first second rest

  abbrev other : List Act
  other = pair front second first rest

  abbrev k : ℕ
  k = length front

  pub count_moved : (kind : Deed → Bool) {i j p : ℕ} {d : Deed} → Moved k i j → Does run i p d → count_of kind p (take i run) ≡ count_of kind p (take j other)
  count_moved kind {i} {j} {p} (before lt e) does =
      count_front front first second rest kind p i (omega arith) ∙ ap (λ x. count_of kind p (take x other)) (sym e)
  count_moved kind {i} {j} {p} {d} (forward q e) does =
      let own : first.node ≡ p = Does-one_node (first_stands front first second rest) (subst (λ x. Does run x p d) q does) in
      let past = count_past kind front second first rest p (λ f. apart (own ∙ sym f)) in
      ap (λ x. count_of kind p (take x run)) q ∙ count_front front first second rest kind p k (omega arith) ∙ sym past
      ∙ ap (λ x. count_of kind p (take x other)) (sym e)
  count_moved kind {i} {j} {p} {d} (back q e) does =
      let own : second.node ≡ p = Does-one_node (second_stands front first second rest) (subst (λ x. Does run x p d) q does) in
      let past = count_past kind front first second rest p (λ f. apart (f ∙ sym own)) in
      ap (λ x. count_of kind p (take x run)) q ∙ past ∙ count_front front first second rest kind p k (omega arith)
      ∙ ap (λ x. count_of kind p (take x other)) (sym e)
  count_moved kind {i} {j} {p} (behind lt e) does =
      count_far front first second rest kind p i lt ∙ ap (λ x. count_of kind p (take x other)) (sym e)

  -- where the first of the two does not come before the second

  module _ (unordered : Precedes run k (k + 1) → ⊥) where
    precedes_moved : {i j m n : ℕ} → Moved k i m → Moved k j n → Precedes run i j → Precedes other m n
    precedes_moved {i} {j} {m} {n} a b p = go p (moved_order a b (Precedes-forward p) never)
      where
        never : i ≡ k → j ≡ k + 1 → ⊥
        never e f = unordered (subst (λ x. Precedes run x (k + 1)) e (subst (λ x. Precedes run i x) f p))

        go : Precedes run i j → m < n → Precedes other m n
        go (program lt x y) less =
            program less (does_moved front first second rest a x) (does_moved front first second rest b y)
        go (lock lt x y) less =
            lock less (does_moved front first second rest a x) (does_moved front first second rest b y)
        go (barrier lt x y e) less =
            barrier less (does_moved front first second rest a x) (does_moved front first second rest b y)
            (sym (count_moved is_arrive a x) ∙ e ∙ count_moved is_depart b y)

    pub order_moved : {i j m n : ℕ} → Moved k i m → Moved k j n → HappensBefore run i j → HappensBefore other m n
    order_moved a b (base p) = base (precedes_moved a b p)
    order_moved a b (further {j = x} h p) =
        let mid = moved k x in
        further (order_moved a mid.1 h) (precedes_moved mid.1 b p)

    pub never_ordered : HappensBefore run k (k + 1) → ⊥
    never_ordered (base p) = unordered p
    never_ordered (further h p) =
        let lt = goes_forward h in
        let lt' = Precedes-forward p in
        absurd (omega arith)
