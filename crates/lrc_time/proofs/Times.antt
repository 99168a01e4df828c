-- Lemmas on vector times, for the crates above too.
use Rattle.std.proofs.Common.{ℕ, zero, suc, ◌≡◌, ◌≢◌, ◌+◌, ◌<◌, ◌≤◌, ◌⊎◌, ◌∙◌, true, nat_le, List, [], ◌∷◌}
use Rattle.std.proofs.Common.{length, max, set, refl, ap, sym, inl, inr, ⊎_elim, arith}
use Rattle.std.proofs.lemmas.Bool.{cases_lt, leb-true, le-leb, and_parts, and_from}
use Rattle.std.proofs.lemmas.List.{get_or_past, get_or-set_same, get_or-set_other}
use Rattle.std.proofs.lemmas.Grind.{same_number_lists}
use Rattle.std.proofs.lemmas.List.Sums.{sum_by-cons, sum_by-set}
use Rattle.lrc_time.specs.Time.{zeros, entry, Covers, covers, joined, weight_of}

-- a time without entries knows nothing
pub entry-none : (node : ℕ) → entry [] node ≡ 0
entry-none node = refl

pub entry-zeros : (nodes node : ℕ) → entry (zeros nodes) node ≡ 0
entry-zeros zero node = entry-none node
entry-zeros (suc nodes) zero = refl
entry-zeros (suc nodes) (suc node) = entry-zeros nodes node

pub length-zeros : (nodes : ℕ) → length (zeros nodes) ≡ nodes
length-zeros zero = refl
length-zeros (suc nodes) = ap suc (length-zeros nodes)

-- times of equally many nodes with the same entries are the same
pub same_times : (a b : List ℕ) → length a ≡ length b → ((node : ℕ) → entry a node ≡ entry b node) → a ≡ b
same_times a b long each = same_number_lists a b long (λ k _. each k)

-- what a time knows once an entry is set
pub entry-set_same : (a : List ℕ) (node k : ℕ) → node < length a → entry (set a node k) node ≡ k
entry-set_same a node k within = get_or-set_same a node k 0 within

pub entry-set_other : (a : List ℕ) (node k other : ℕ) → other ≢ node → entry (set a node k) other ≡ entry a other
entry-set_other a node k other differ = get_or-set_other a node other k 0 differ

-- ---- covering

pub covers-refl : (a : List ℕ) → Covers a a
covers-refl a node = omega arith

pub covers-trans : (a b c : List ℕ) → Covers a b → Covers b c → Covers a c
covers-trans a b c upper lower node = omega (arith, upper node, lower node)

pub covers-antisym : (a b : List ℕ) → length a ≡ length b → Covers a b → Covers b a → a ≡ b
covers-antisym a b long above below = same_times a b long (λ node. omega (arith, above node, below node))

-- every time covers the one that knows nothing
pub covers-zeros : (a : List ℕ) (nodes : ℕ) → Covers a (zeros nodes)
covers-zeros a nodes node = omega (arith, entry-zeros nodes node)

-- to cover a time it is enough to cover the entries that it has
pub covers-below : (a b : List ℕ) (nodes : ℕ) → length b ≤ nodes
    → ((node : ℕ) → node < nodes → entry b node ≤ entry a node) → Covers a b
covers-below a b nodes long below node =
    ⊎_elim (λ within. below node within) (λ past. omega (arith, get_or_past b node 0 (omega arith))) (cases_lt node nodes)

-- a time whose entry was raised covers what it was
pub covers-raised : (a : List ℕ) (node k : ℕ) → entry a node ≤ k → Covers (set a node k) a
covers-raised [] node k higher other = omega arith
covers-raised (x ∷ xs) zero k higher zero = higher
covers-raised (x ∷ xs) zero k higher (suc other) = omega arith
covers-raised (x ∷ xs) (suc node) k higher zero = omega arith
covers-raised (x ∷ xs) (suc node) k higher (suc other) = covers-raised xs node k higher other

-- `covers` tests `Covers`
pub covers-true : (a b : List ℕ) → covers a b ≡ true → Covers a b
covers-true xs [] holds node = omega arith
covers-true [] (y ∷ ys) holds zero = leb-true y 0 (and_parts _ _ holds).0
covers-true [] (y ∷ ys) holds (suc node) = covers-true [] ys (and_parts (nat_le y 0) _ holds).1 node
covers-true (x ∷ xs) (y ∷ ys) holds zero = leb-true y x (and_parts _ _ holds).0
covers-true (x ∷ xs) (y ∷ ys) holds (suc node) = covers-true xs ys (and_parts (nat_le y x) _ holds).1 node

pub covers-holds : (a b : List ℕ) → Covers a b → covers a b ≡ true
covers-holds xs [] above = refl
covers-holds [] (y ∷ ys) above =
    and_from _ _ (le-leb y 0 (above zero)) (covers-holds [] ys (λ node. above (suc node)))
covers-holds (x ∷ xs) (y ∷ ys) above =
    and_from _ _ (le-leb y x (above zero)) (covers-holds xs ys (λ node. above (suc node)))

-- covering goes by the first entry and the others
pub covers-parts : (a b : List ℕ) → entry b zero ≤ entry a zero
    → ((node : ℕ) → entry b (suc node) ≤ entry a (suc node)) → Covers a b
covers-parts a b first later zero = first
covers-parts a b first later (suc node) = later node

-- a time covers another, or the other knows an interval that it doesn't
pub covers_or_lacks : (a b : List ℕ) → Covers a b ⊎ ((node : ℕ) × (entry a node < entry b node))
covers_or_lacks xs [] = inl (covers-true xs [] refl)
covers_or_lacks [] (y ∷ ys) =
    ⊎_elim
    (λ (more : 0 < y). inr (zero, more))
    (λ (first : y ≤ 0).
    ⊎_elim
    (λ (later : Covers [] ys). inl (covers-parts [] (y ∷ ys) first later))
    (λ (lacks : (node : ℕ) × (entry [] node < entry ys node)). inr (suc lacks.0, lacks.1))
    (covers_or_lacks [] ys))
    (cases_lt 0 y)
covers_or_lacks (x ∷ xs) (y ∷ ys) =
    ⊎_elim
    (λ (more : x < y). inr (zero, more))
    (λ (first : y ≤ x).
    ⊎_elim
    (λ (later : Covers xs ys). inl (covers-parts (x ∷ xs) (y ∷ ys) first later))
    (λ (lacks : (node : ℕ) × (entry xs node < entry ys node)). inr (suc lacks.0, lacks.1))
    (covers_or_lacks xs ys))
    (cases_lt x y)

-- ---- joins

pub entry-joined : (a b : List ℕ) (node : ℕ) → entry (joined a b) node ≡ max (entry a node) (entry b node)
entry-joined [] ys node = omega arith
entry-joined (x ∷ xs) [] node = omega arith
entry-joined (x ∷ xs) (y ∷ ys) zero = refl
entry-joined (x ∷ xs) (y ∷ ys) (suc node) = entry-joined xs ys node

pub length-joined : (a b : List ℕ) → length (joined a b) ≡ max (length a) (length b)
length-joined [] ys = omega arith
length-joined (x ∷ xs) [] = omega arith
length-joined (x ∷ xs) (y ∷ ys) = omega (arith, length-joined xs ys)

pub length-joined_same : (a b : List ℕ) → length a ≡ length b → length (joined a b) ≡ length a
length-joined_same a b same = omega (arith, length-joined a b)

pub covers-joined_first : (a b : List ℕ) → Covers (joined a b) a
covers-joined_first a b node = omega (arith, entry-joined a b node)

pub covers-joined_second : (a b : List ℕ) → Covers (joined a b) b
covers-joined_second a b node = omega (arith, entry-joined a b node)

pub covers-joined_least : (a b c : List ℕ) → Covers c a → Covers c b → Covers c (joined a b)
covers-joined_least a b c above_a above_b node = omega (arith, entry-joined a b node, above_a node, above_b node)

-- a time that covers the other is their join
pub joined-covers : (a b : List ℕ) → length a ≡ length b → Covers a b → joined a b ≡ a
joined-covers a b long above =
    same_times (joined a b) a (length-joined_same a b long) (λ node. omega (arith, entry-joined a b node, above node))

pub joined-none : (a : List ℕ) → joined a [] ≡ a
joined-none [] = refl
joined-none (x ∷ xs) = refl

-- the join stays when an entry becomes that of the join
pub joined-set : (a b : List ℕ) (node k : ℕ) → node < length a → k ≡ max (entry a node) (entry b node)
    → joined (set a node k) b ≡ joined a b
joined-set [] ys node k within greatest = absurd (omega arith)
joined-set (x ∷ xs) [] zero k within greatest = let same : k ≡ x = omega arith in cc
joined-set (x ∷ xs) [] (suc node) k within greatest =
    ap (λ l. x ∷ l) (sym (joined-none (set xs node k)) ∙ joined-set xs [] node k (omega arith) greatest ∙ joined-none xs)
joined-set (x ∷ xs) (y ∷ ys) zero k within greatest = let same : max k y ≡ max x y = omega arith in cc
joined-set (x ∷ xs) (y ∷ ys) (suc node) k within greatest =
    ap (λ l. max x y ∷ l) (joined-set xs ys node k (omega arith) greatest)

-- ---- weights

pub weight-first : (x : ℕ) (xs : List ℕ) → weight_of (x ∷ xs) ≡ x + weight_of xs
weight-first x xs = sum_by-cons (λ k. k) x xs

-- a time that covers another weighs at least as much
pub weight-covers : (a b : List ℕ) → Covers a b → weight_of b ≤ weight_of a
weight-covers a [] above = omega arith
weight-covers [] (y ∷ ys) above =
    let rest : weight_of ys ≤ weight_of [] = weight-covers [] ys (λ node. above (suc node)) in
    omega (arith, above zero, rest, weight-first y ys)
weight-covers (x ∷ xs) (y ∷ ys) above =
    let rest : weight_of ys ≤ weight_of xs = weight-covers xs ys (λ node. above (suc node)) in
    omega (arith, above zero, rest, weight-first x xs, weight-first y ys)

-- a time that covers another and differs from it weighs more
pub weight-covers_strictly : (a b : List ℕ) → length a ≡ length b → Covers a b → a ≢ b → weight_of b < weight_of a
weight-covers_strictly [] [] long above differ = absurd (differ refl)
weight-covers_strictly [] (y ∷ ys) long above differ = absurd (omega arith)
weight-covers_strictly (x ∷ xs) [] long above differ = absurd (omega arith)
weight-covers_strictly (x ∷ xs) (y ∷ ys) long above differ =
    let rest : weight_of ys ≤ weight_of xs = weight-covers xs ys (λ node. above (suc node)) in
    let first : y ≤ x = above zero in
    ⊎_elim
    (λ (less : y < x). omega (arith, less, rest, weight-first x xs, weight-first y ys))
    (λ (at_most : x ≤ y).
    let same : x ≡ y = omega arith in
    let others : weight_of ys < weight_of xs =
    weight-covers_strictly xs ys (omega arith) (λ node. above (suc node)) (λ equal. differ (cc)) in
    omega (arith, first, others, weight-first x xs, weight-first y ys))
    (cases_lt y x)

-- a time whose entry was raised weighs more, by as much
pub weight-raised : (a : List ℕ) (node k : ℕ) → node < length a → weight_of (set a node k) + entry a node ≡ weight_of a + k
weight-raised a node k within = sum_by-set (λ n. n) a node k 0 within
