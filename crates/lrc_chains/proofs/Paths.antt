-- Chains and paths: that they go forward, that a chain goes on, and that one alone is told.
use Rattle.std.proofs.Common.{◌≡◌, ℕ, ◌+◌, ◌<◌, ◌≤◌, ◌⊎◌, List, [], ◌∷◌, length, inl, inr, refl, sym, arith}
use Rattle.std.proofs.lemmas.Bool.{cases_eq, cases_lt}
use Rattle.lrc_chains.specs.Chains.{IsChain, step, longer, IsLess, IsTold}
use Rattle.lrc_chains.specs.Starts.{IsPath, there, onward, IsToldPath}

-- of two lists the one is less, or they are the same
pub compared : (xs ys : List ℕ) → IsLess xs ys ⊎ ((xs ≡ ys) ⊎ IsLess ys xs)
compared [] [] = inr (inl refl)
compared [] (y ∷ ys) = inl tt
compared (x ∷ xs) [] = inr (inr tt)
compared (x ∷ xs) (y ∷ ys) =
    elim (cases_lt x y) [
      | inl lt ↦ inl (inl lt)
      | inr le ↦
          elim (cases_eq x y) [
            | inr other ↦ inr (inr (inl (omega arith)))
            | inl same ↦
                elim (compared xs ys) [
                  | inl less ↦ inl (inr (same, less))
                  | inr (inl e) ↦ inr (inl (cc))
                  | inr (inr more) ↦ inr (inr (inr (sym same, more)))
                ]
          ]
    ]

-- a path that goes on from its first position
pub record GoesOn (Precedes : ℕ → ℕ → Type 0) (to k : ℕ) (path : List ℕ) : Type 0 where
  pub next : ℕ
  pub rest : List ℕ
  pub is : path ≡ k ∷ rest
  pub precedes : Precedes k next
  pub on : IsPath Precedes to next rest

module _ {Precedes : ℕ → ℕ → Type 0} where
  pub chain-path : {i j : ℕ} {chain : List ℕ} → IsChain Precedes i j chain → IsPath Precedes j i chain
  chain-path (step p) = onward p there
  chain-path (longer p c) = onward p (chain-path c)

  -- a chain goes on by one position more
  pub extended : {i j k : ℕ} {chain : List ℕ} → IsChain Precedes i j chain → Precedes j k → (longer : List ℕ) × IsChain Precedes i k longer
  extended {i = i} {k = k} (step {j = j} p) q = (i ∷ j ∷ k ∷ [], longer p (step q))
  extended {i = i} (longer p c) q = let (rest, d) = extended c q in (i ∷ rest, longer p d)

  pub path-some : {to k : ℕ} {path : List ℕ} → IsPath Precedes to k path → 0 < length path
  path-some there = omega arith
  path-some (onward p path) = omega arith

  pub opened : {to k : ℕ} {path : List ℕ} → IsPath Precedes to k path → ((k ≡ to) × (path ≡ to ∷ [])) ⊎ GoesOn Precedes to k path
  opened there = inl (refl, refl)
  opened (onward {m = m} {path = rest} p q) = inr (record { next = m; rest = rest; is = refl; precedes = p; on = q })

  -- what is less begins no later
  pub less-head : {to k m : ℕ} {other path : List ℕ} → IsPath Precedes to k other → IsPath Precedes to m path → IsLess other path → k ≤ m
  less-head there there (inl lt) = omega arith
  less-head there there (inr (e, l)) = omega arith
  less-head there (onward p path) (inl lt) = omega arith
  less-head there (onward p path) (inr (e, l)) = omega arith
  less-head (onward p path) there (inl lt) = omega arith
  less-head (onward p path) there (inr (e, l)) = omega arith
  less-head (onward p path) (onward q other) (inl lt) = omega arith
  less-head (onward p path) (onward q other) (inr (e, l)) = omega arith

  pub told-alone : {i j : ℕ} {chain other : List ℕ} → IsTold Precedes i j chain → IsTold Precedes i j other → chain ≡ other
  told-alone {chain = chain} {other = other} t o =
      let short = t.shortest other o.is_chain in
      let long = o.shortest chain t.is_chain in
      elim (compared chain other) [
        | inl less ↦ absurd (o.least chain t.is_chain (omega arith) less)
        | inr (inl same) ↦ same
        | inr (inr more) ↦ absurd (t.least other o.is_chain (omega arith) more)
      ]

-- where the relation goes forward
module _ {Precedes : ℕ → ℕ → Type 0} (forward : (i j : ℕ) → Precedes i j → i < j) where
  -- a path is no more than its positions, which rise
  pub path-bound : {to k : ℕ} {path : List ℕ} → IsPath Precedes to k path → length path + k ≤ to + 1
  path-bound there = omega arith
  path-bound (onward {k = k} {m = m} p path) = let lt = forward k m p in let rest = path-bound path in omega arith

  pub path-chain : {to k : ℕ} {path : List ℕ} → k < to → IsPath Precedes to k path → IsChain Precedes k to path
  path-chain lt there = absurd (omega arith)
  path-chain lt (onward p there) = step p
  path-chain lt (onward p (onward {k = m} {m = n} q path)) =
      let further = forward m n q in
      let bound = path-bound path in
      let some = path-some path in
      longer p (path-chain (omega arith) (onward q path))

  pub told-path : {i j : ℕ} {path : List ℕ} → i < j → IsToldPath Precedes j i path → IsTold Precedes i j path
  told-path lt t = record {
    is_chain = path-chain lt t.is_path;
    shortest = λ other c. t.shortest other (chain-path c);
    least = λ other c. t.least other (chain-path c);
  }
