-- Numbers of threads, node by node.
use Rattle.std.proofs.Common.{◌≡◌, ℕ, ◌+◌, ◌<◌, ◌≤◌, Bool, true, false, List, [], ◌∷◌, ◌++◌, inl, inr, length, replicate, sym, ◌∙◌, ap, arith}
use Rattle.std.specs.Prelude.{Some, if◌then◌else◌, slice_get, slice_index, slice_set}
use Rattle.std.proofs.lemmas.Bool.{cases_eq, cases_lt}
use Rattle.std.proofs.lemmas.List.{get_or-set_same, get_or-set_other, get_or-replicate, get_or_past, length-replicate, length_push}
use Rattle.std.proofs.lemmas.Option.{slice_get_within}
use Rattle.lrc_exec.specs.declared.spot.Spot.{Spot}
use Rattle.lrc_orders.specs.Kept.{Grows}
use Rattle.lrc_trace.proofs.Positions.{slice_get-front, slice_get-seam}
use Rattle.lrc_orders.proofs.Keeping.{item_at, stands_on}
use Rattle.lrc_orders_table.specs.Rows.{AddsThreads}

-- the spots before a node have these numbers
abbrev pub Numbered : List Spot → (numbers : List ℕ) → List Spot → (node : ℕ) → Type 0
Numbered keys numbers spots node = (k : ℕ) → k < node → slice_get keys (slice_index numbers k) ≡ slice_get spots k

-- one number more
pub numbered_more : (old new : List Spot) (numbers : List ℕ) (number : ℕ) (spots : List Spot) (node : ℕ) → Grows old new → node < length numbers
    → node < length spots → Numbered old numbers spots node → slice_get new number ≡ slice_get spots node
    → Numbered new (slice_set numbers node number) spots (node + 1)
numbered_more old new numbers number spots node g within less each here k lt = elim (cases_eq k node) [
  | inl same ↦
      ap (λ n. slice_get new (slice_index (slice_set numbers node number) n)) same
      ∙ ap (slice_get new) (get_or-set_same numbers node number 0 within) ∙ here ∙ ap (slice_get spots) (sym same)
  | inr apart ↦
      let (x, at) = item_at spots k (omega (arith, lt, less, apart)) in
      ap (slice_get new) (get_or-set_other numbers node k number 0 apart)
      ∙ stands_on (slice_index numbers k) x g (each k (omega (arith, lt, apart)) ∙ at) ∙ sym at
]

-- ---- threads that are added

-- a thread that is put to others, if it is new
pub only_put : (b : Bool) (old new : List Spot) (thread : Spot) → new ≡ (if b then old else old ++ thread ∷ []) → AddsThreads old new (thread ∷ [])
only_put true old new thread is k x at = inl (ap (λ l. slice_get l k) (sym is) ∙ at)
only_put false old new thread is k x at =
    let there : slice_get (old ++ thread ∷ []) k ≡ Some x = ap (λ l. slice_get l k) (sym is) ∙ at in
    elim (cases_lt k (length old)) [
      | inl lt ↦ inl (sym (slice_get-front old (thread ∷ []) k lt) ∙ there)
      | inr le ↦
          let within = slice_get_within (old ++ thread ∷ []) k x there in
          let last : k ≡ length old = omega (arith, le, within, length_push old thread) in
          inr (0, sym (slice_get-seam old thread []) ∙ ap (slice_get (old ++ thread ∷ [])) (sym last) ∙ there)
    ]

pub only_more : (old mid new spots : List Spot) (thread : Spot) (j : ℕ) → slice_get spots j ≡ Some thread → AddsThreads old mid spots
    → AddsThreads mid new (thread ∷ []) → AddsThreads old new spots
only_more old mid new spots thread j here only more k x at = elim (more k x at) [
  | inl was ↦ only k x was
  | inr (i, is) ↦
      let first : i ≡ 0 = let within = slice_get_within (thread ∷ []) i x is in omega (arith, within) in
      let same : Some thread ≡ Some x = ap (slice_get (thread ∷ [])) (sym first) ∙ is in
      inr (j, here ∙ same)
]

pub past_more : (numbers : List ℕ) (number node : ℕ) → ((k : ℕ) → node ≤ k → slice_index numbers k ≡ 0)
    → (k : ℕ) → node + 1 ≤ k → slice_index (slice_set numbers node number) k ≡ 0
past_more numbers number node past k le =
    get_or-set_other numbers node k number 0 (λ e. omega (arith, le, e)) ∙ past k (omega (arith, le))

pub zeros : (n k : ℕ) → slice_index (replicate n 0) k ≡ 0
zeros n k = elim (cases_lt k n) [
  | inl lt ↦ get_or-replicate n k 0 0 lt
  | inr le ↦ get_or_past (replicate n 0) k 0 (omega (arith, le, length-replicate {A = ℕ} n 0))
]
