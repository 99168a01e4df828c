-- Numbers of threads, node by node.
use Rattle.std.proofs.Common.{◌≡◌, ℕ, ◌+◌, ◌<◌, ◌≤◌, List, inl, inr, length, replicate, sym, ◌∙◌, ap, arith}
use Rattle.std.specs.Prelude.{slice_get, slice_index, slice_set}
use Rattle.std.proofs.lemmas.Bool.{cases_eq, cases_lt}
use Rattle.std.proofs.lemmas.List.{get_or-set_same, get_or-set_other, get_or-replicate, get_or_past, length-replicate}
use Rattle.lrc_exec.specs.declared.spot.Spot.{Spot}
use Rattle.lrc_orders.specs.Kept.{Grows}
use Rattle.lrc_orders.proofs.Keeping.{item_at, stands_on}

-- the spots before a node have these numbers
abbrev pub Numbered : List Spot → (numbers : List ℕ) → List Spot → (node : ℕ) → Type 0
Numbered keys numbers spots node = (k : ℕ) → k < node → slice_get keys (slice_index numbers k) ≡ slice_get spots k

-- one number more
pub numbered_more : (old new : List Spot) (numbers : List ℕ) (number : ℕ) (spots : List Spot) (node : ℕ) → Grows old new → node < length numbers
    → node < length spots → Numbered old numbers spots node → slice_get new number ≡ slice_get spots node
    → Numbered new (slice_set numbers node number) spots (node + 1)
numbered_more old new numbers number spots node g within less each here k lt = elim (cases_eq k node) [
  | inl same ↦
      ap (λ n. slice_get new (slice_index (slice_set numbers node number) n)) same
      ∙ ap (slice_get new) (get_or-set_same numbers node number 0 within) ∙ here ∙ ap (slice_get spots) (sym same)
  | inr apart ↦
      let (x, at) = item_at spots k (omega (arith, lt, less, apart)) in
      ap (slice_get new) (get_or-set_other numbers node k number 0 apart)
      ∙ stands_on (slice_index numbers k) x g (each k (omega (arith, lt, apart)) ∙ at) ∙ sym at
]

pub past_more : (numbers : List ℕ) (number node : ℕ) → ((k : ℕ) → node ≤ k → slice_index numbers k ≡ 0)
    → (k : ℕ) → node + 1 ≤ k → slice_index (slice_set numbers node number) k ≡ 0
past_more numbers number node past k le =
    get_or-set_other numbers node k number 0 (λ e. omega (arith, le, e)) ∙ past k (omega (arith, le))

pub zeros : (n k : ℕ) → slice_index (replicate n 0) k ≡ 0
zeros n k = elim (cases_lt k n) [
  | inl lt ↦ get_or-replicate n k 0 0 lt
  | inr le ↦ get_or_past (replicate n 0) k 0 (omega (arith, le, length-replicate {A = ℕ} n 0))
]
