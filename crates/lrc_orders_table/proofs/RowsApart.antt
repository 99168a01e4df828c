-- No two rows stand for equal states.
use Rattle.std.proofs.Common.{◌≡◌, ℕ, ◌<◌, List, Bool, true, false, inl, inr, refl, sym, subst, ◌∙◌, ap, arith}
use Rattle.std.specs.Prelude.{Some, nat_eq, slice_get, slice_index}
use Rattle.std.specs.Option.{option_eq}
use Rattle.std.proofs.lemmas.Bool.{and_parts, cases_lt, eqb-true}
use Rattle.std.proofs.lemmas.List.{ext_get_or}
use lib.Pointwise.{pointwise}
use mathlib.Core.Bool.{beq}
use Rattle.lrc_trace.specs.contracts.act.ActPartialEq.TheImpl.{eq-value as act_eq}
use Rattle.lrc_exec.specs.declared.spot.Spot.{Spot}
use Rattle.lrc_exec.specs.contracts.spot.SpotPartialEq.TheImpl.{eq-value as spot_eq}
use Rattle.lrc_orders.specs.declared.noted.Noted.{Noted}
use Rattle.lrc_orders.specs.contracts.noted.NotedPartialEq.TheImpl.{eq-value as noted_eq}
use Rattle.lrc_exec.specs.contracts.state.StatePartialEq.TheImpl.{eq-value as state_eq}
use Rattle.lrc_orders.proofs.Alike.{acts_same}
use Rattle.lrc_orders.proofs.Keeping.{item_at}
use Rattle.lrc_orders.proofs.KeptAlike.{both_true, equal_items, nat_itself, one_place}
use Rattle.lrc_orders.proofs.Same.{option_same, pointwise_same, spot_same}
use Rattle.lrc_orders.proofs.Widening.{apart_in, not_true}
use Rattle.lrc_orders_memory.specs.Sharing.{IsSharedAt}
use Rattle.lrc_orders_memory.proofs.Apart.{shared_place}
use Rattle.lrc_orders_table.specs.declared.rows.Row.{Row}
use Rattle.lrc_orders_table.specs.declared.rows.Rows.{Rows}
use Rattle.lrc_orders_table.specs.contracts.rows.RowPartialEq.TheImpl.{eq-value as row_eq}
use Rattle.lrc_orders_table.specs.Rows.{AreRowsDistinct, AreThreadsAt, IsRowAt, StandsFor}
use Rattle.lrc_orders_table.proofs.Linking.{notes_place}

-- ---- equal parts compare equal

beq_itself : (b : Bool) → beq b b ≡ true
beq_itself true = refl
beq_itself false = refl

spot_itself : (s : Spot) → spot_eq.it s s ≡ true
spot_itself s =
    both_true _ _ (nat_itself s.me) (both_true _ _ (nat_itself s.place) (both_true _ _ (equal_items nat_eq nat_itself s.privates s.privates refl)
    (both_true _ _ (equal_items beq beq_itself s.held s.held refl) (both_true _ _ (beq_itself s.arrived) (beq_itself s.stopped)))))

row_alike : (a b : Row) → a.threads ≡ b.threads → a.shared ≡ b.shared → a.notes ≡ b.notes → row_eq.it a b ≡ true
row_alike a b t s n =
    both_true _ _ (equal_items nat_eq nat_itself a.threads b.threads t)
    (both_true _ _ (subst (λ k. nat_eq a.shared k ≡ true) s (nat_itself a.shared)) (subst (λ k. nat_eq a.notes k ≡ true) n (nat_itself a.notes)))

-- threads at distinct numbers have these alone
threads_one : (keys : List Spot) (nodes : ℕ) (a b : List ℕ) (xs ys : List Spot) → ((i j : ℕ) (z : Spot) → slice_get keys i ≡ Some z → slice_get keys j ≡ Some z → i ≡ j)
    → AreThreadsAt keys nodes a xs → AreThreadsAt keys nodes b ys → xs ≡ ys → a ≡ b
threads_one keys nodes a b xs ys one s t e =
    ext_get_or 0 a b (s.long ∙ sym t.long) (λ k lt. elim (cases_lt k nodes) [
      | inl less ↦
          let count = s.count in
          let (z, at) = item_at xs k (omega (arith, less, count)) in
          one (slice_index a k) (slice_index b k) z (s.each k less ∙ at) (t.each k less ∙ ap (λ l. slice_get l k) (sym e) ∙ at)
      | inr past ↦ s.past k past ∙ sym (t.past k past)
    ])

module _ (all : Rows) (distinct : AreRowsDistinct all) where
  rows_one : (a b : Row) (x y : Noted) → StandsFor all a x → StandsFor all b y → noted_eq.it x y ≡ true → row_eq.it a b ≡ true
  rows_one a b x y s t e =
      let p = and_parts (state_eq.it x.state y.state) (pointwise act_eq.it x.notes.items y.notes.items) e in
      let q = and_parts (pointwise nat_eq x.state.memory.items y.state.memory.items) _ p.0 in
      let r = and_parts (pointwise (option_eq nat_eq) x.state.holders.items y.state.holders.items) _ q.1 in
      let u = and_parts (pointwise nat_eq x.state.arrivals.items y.state.arrivals.items) _ r.1 in
      let memory = pointwise_same nat_eq (λ m n h. eqb-true m n h) x.state.memory.items y.state.memory.items q.0 in
      let holders = pointwise_same (option_eq nat_eq) option_same x.state.holders.items y.state.holders.items r.0 in
      let spots = pointwise_same spot_eq.it spot_same x.state.spots.items y.state.spots.items u.1 in
      let acts : x.notes.items ≡ y.notes.items = acts_same x.notes.items y.notes.items p.1 in
      let held : IsSharedAt all.shared b.shared x.state.memory.items x.state.holders.items =
      subst (λ l. IsSharedAt all.shared b.shared l x.state.holders.items) (sym memory)
      (subst (λ l. IsSharedAt all.shared b.shared y.state.memory.items l) (sym holders) t.shared) in
      let shared : a.shared ≡ b.shared =
      shared_place all.shared distinct.shared a.shared b.shared x.state.memory.items x.state.holders.items s.shared held in
      let notes : a.notes ≡ b.notes =
      notes_place all.notes distinct.notes a.notes b.notes x.notes.items y.notes.items s.notes t.notes acts in
      let threads : a.threads ≡ b.threads =
      threads_one all.threads.keys all.nodes a.threads b.threads x.state.spots.items y.state.spots.items
      (λ i j z at there. one_place spot_eq.it all.threads.keys distinct.threads i j z z at there (spot_itself z) (spot_itself z)) s.threads t.threads spots in
      row_alike a b threads shared notes

  -- no two of them are equal
  pub row_apart : (i j : ℕ) (x y : Noted) → IsRowAt all i x → IsRowAt all j y → i < j → noted_eq.it x y ≡ false
  row_apart i j x y at there lt =
      not_true (row_eq.it at.row there.row) (noted_eq.it x y)
      (apart_in row_eq.it all.rows.keys i j at.row there.row distinct.rows at.there there.there lt) (rows_one at.row there.row x y at.stands there.stands)
