-- Chains and paths: that they go forward, what they say of happens before, and that one alone is told.
use Rattle.std.proofs.Common.{◌≡◌, ℕ, ◌+◌, ◌<◌, ◌≤◌, ◌⊎◌, List, [], ◌∷◌, length, inl, inr, refl, sym, arith}
use Rattle.std.proofs.lemmas.Bool.{cases_eq, cases_lt}
use Rattle.lrc_trace.specs.declared.act.Act.{Act}
use Rattle.lrc_trace.specs.Order.{Precedes, HappensBefore, base, further}
use Rattle.lrc_trace.proofs.HappensBefore.{Precedes-forward, transitive}
use Rattle.lrc_why_chains.specs.Chains.{IsChain, step, longer, IsLess, IsTold}
use Rattle.lrc_why_chains.specs.Starts.{IsPath, there, onward, IsToldPath}

-- of two lists the one is less, or they are the same
pub compared : (xs ys : List ℕ) → IsLess xs ys ⊎ ((xs ≡ ys) ⊎ IsLess ys xs)
compared [] [] = inr (inl refl)
compared [] (y ∷ ys) = inl tt
compared (x ∷ xs) [] = inr (inr tt)
compared (x ∷ xs) (y ∷ ys) =
    elim (cases_lt x y) [
      | inl lt ↦ inl (inl lt)
      | inr le ↦
          elim (cases_eq x y) [
            | inr other ↦ inr (inr (inl (omega arith)))
            | inl same ↦
                elim (compared xs ys) [
                  | inl less ↦ inl (inr (same, less))
                  | inr (inl e) ↦ inr (inl (cc))
                  | inr (inr more) ↦ inr (inr (inr (sym same, more)))
                ]
          ]
    ]

-- a path that goes on from its first position
pub record GoesOn (run : List Act) (to k : ℕ) (path : List ℕ) : Type 0 where
  pub next : ℕ
  pub rest : List ℕ
  pub is : path ≡ k ∷ rest
  pub precedes : Precedes run k next
  pub on : IsPath run to next rest

module _ {run : List Act} where
  pub chain-path : {i j : ℕ} {chain : List ℕ} → IsChain run i j chain → IsPath run j i chain
  chain-path (step p) = onward p there
  chain-path (longer p c) = onward p (chain-path c)

  pub chain-before : {i j : ℕ} {chain : List ℕ} → IsChain run i j chain → HappensBefore run i j
  chain-before (step p) = base p
  chain-before (longer p c) = transitive (base p) (chain-before c)

  extended : {i j k : ℕ} {chain : List ℕ} → IsChain run i j chain → Precedes run j k → (longer : List ℕ) × IsChain run i k longer
  extended {i = i} {k = k} (step {j = j} p) q = (i ∷ j ∷ k ∷ [], longer p (step q))
  extended {i = i} (longer p c) q = let (rest, d) = extended c q in (i ∷ rest, longer p d)

  pub before-chain : {i j : ℕ} → HappensBefore run i j → (chain : List ℕ) × IsChain run i j chain
  before-chain {i} {j} (base p) = (i ∷ j ∷ [], step p)
  before-chain (further h p) = let (chain, c) = before-chain h in extended c p

  -- a path is no more than its positions, which rise
  pub path-bound : {to k : ℕ} {path : List ℕ} → IsPath run to k path → length path + k ≤ to + 1
  path-bound there = omega arith
  path-bound (onward p path) = let lt = Precedes-forward p in let rest = path-bound path in omega arith

  pub path-some : {to k : ℕ} {path : List ℕ} → IsPath run to k path → 0 < length path
  path-some there = omega arith
  path-some (onward p path) = omega arith

  pub path-chain : {to k : ℕ} {path : List ℕ} → k < to → IsPath run to k path → IsChain run k to path
  path-chain lt there = absurd (omega arith)
  path-chain lt (onward p there) = step p
  path-chain lt (onward p (onward q path)) =
      let further = Precedes-forward q in
      let bound = path-bound path in
      let some = path-some path in
      longer p (path-chain (omega arith) (onward q path))

  pub opened : {to k : ℕ} {path : List ℕ} → IsPath run to k path → ((k ≡ to) × (path ≡ to ∷ [])) ⊎ GoesOn run to k path
  opened there = inl (refl, refl)
  opened (onward {m = m} {path = rest} p q) = inr (record { next = m; rest = rest; is = refl; precedes = p; on = q })

  -- what is less begins no later
  pub less-head : {to k m : ℕ} {other path : List ℕ} → IsPath run to k other → IsPath run to m path → IsLess other path → k ≤ m
  less-head there there (inl lt) = omega arith
  less-head there there (inr (e, l)) = omega arith
  less-head there (onward p path) (inl lt) = omega arith
  less-head there (onward p path) (inr (e, l)) = omega arith
  less-head (onward p path) there (inl lt) = omega arith
  less-head (onward p path) there (inr (e, l)) = omega arith
  less-head (onward p path) (onward q other) (inl lt) = omega arith
  less-head (onward p path) (onward q other) (inr (e, l)) = omega arith

  pub told-before : {i j : ℕ} {chain : List ℕ} → IsTold run i j chain → HappensBefore run i j
  told-before t = chain-before t.is_chain

  pub told-alone : {i j : ℕ} {chain other : List ℕ} → IsTold run i j chain → IsTold run i j other → chain ≡ other
  told-alone {chain = chain} {other = other} t o =
      let short = t.shortest other o.is_chain in
      let long = o.shortest chain t.is_chain in
      elim (compared chain other) [
        | inl less ↦ absurd (o.least chain t.is_chain (omega arith) less)
        | inr (inl same) ↦ same
        | inr (inr more) ↦ absurd (t.least other o.is_chain (omega arith) more)
      ]

  pub told-path : {i j : ℕ} {path : List ℕ} → i < j → IsToldPath run j i path → IsTold run i j path
  told-path lt t = record {
    is_chain = path-chain lt t.is_path;
    shortest = λ other c. t.shortest other (chain-path c);
    least = λ other c. t.least other (chain-path c);
  }
