-- Lemmas on lists of intervals that ascend by node and index.
use Rattle.std.proofs.Common.{◌≡◌, ℕ, ◌-◌, ◌∙◌, true, eqb, eqb-true, List, [], ◌∷◌, ◌++◌, length, get_or, ap, ⊎_elim, arith}
use Rattle.std.specs.Prelude.{IsTrue, ◌&&◌}
use Rattle.std.specs.List.{All, AllPairs}
use Rattle.std.specs.Option.{ForSome}
use Rattle.std.specs.Cmp.Lexicographic.{pointwise, pointwise_decides}
use Rattle.std.proofs.lemmas.Bool.{and_parts, and_from, cases_eq, eq-eqb}
use Rattle.std.proofs.lemmas.List.Quantifiers.{all_pairs_push}
use Rattle.std.proofs.lemmas.Option.{slice_get-get_or}
use Rattle.lrc_store.specs.Interval.{IntervalRecord, by_node, same_interval, last_interval}
use Rattle.lrc_store.proofs.Orders.{goes_on}
use Rattle.lrc_store.proofs.Ranks.{IsStrictWeakOrder-by_node}

-- where the last of ascending intervals comes before one, all do
all_before : (intervals : List IntervalRecord) (next : IntervalRecord) → AllPairs (λ a b. IsTrue (by_node a b)) intervals
    → ForSome (last_interval intervals) (λ last. IsTrue (by_node last next))
    → All (λ i. IsTrue (by_node i next)) intervals
all_before intervals next ascends below k d h =
    let last = get_or intervals (length intervals - 1) d in
    let last_is : IsTrue (by_node last next) = below last (slice_get-get_or intervals (length intervals - 1) d (omega arith)) in
    ⊎_elim
    (λ (here_last : k ≡ length intervals - 1). rw here_last last_is)
    (λ (earlier : k ≡ length intervals - 1 → ⊥).
    goes_on by_node IsStrictWeakOrder-by_node (get_or intervals k d) last next
    (ascends k (length intervals - 1) d (omega arith) (omega arith)) last_is)
    (cases_eq k (length intervals - 1))

-- an interval that comes after the last keeps a list ascending
pub ascending-push : (intervals : List IntervalRecord) (next : IntervalRecord)
    → AllPairs (λ a b. IsTrue (by_node a b)) intervals
    → ForSome (last_interval intervals) (λ last. IsTrue (by_node last next))
    → AllPairs (λ a b. IsTrue (by_node a b)) (intervals ++ next ∷ [])
ascending-push intervals next ascends below =
    all_pairs_push (λ a b. IsTrue (by_node a b)) intervals next ascends (all_before intervals next ascends below)

-- ---- the test whether two are the same

numbers : (xs ys : List ℕ) → (pointwise eqb xs ys ≡ true → xs ≡ ys) × (xs ≡ ys → pointwise eqb xs ys ≡ true)
numbers = pointwise_decides (λ x y. (eqb-true x y, eq-eqb x y))

same_interval-decides : (a b : IntervalRecord) → (same_interval a b ≡ true → a ≡ b) × (a ≡ b → same_interval a b ≡ true)
same_interval-decides a b = (
  (λ holds.
      let parts = and_parts (eqb a.node b.node) (pointwise eqb a.stamp b.stamp && pointwise eqb a.pages b.pages) holds in
      let rest = and_parts (pointwise eqb a.stamp b.stamp) (pointwise eqb a.pages b.pages) parts.1 in
      let node : a.node ≡ b.node = eqb-true a.node b.node parts.0 in
      let stamp : a.stamp ≡ b.stamp = (numbers a.stamp b.stamp).0 rest.0 in
      let pages : a.pages ≡ b.pages = (numbers a.pages b.pages).0 rest.1 in
      ap (λ n. record { node = n; stamp = a.stamp; pages = a.pages }) node
      ∙ ap (λ s. record { node = b.node; stamp = s; pages = a.pages }) stamp
      ∙ ap (λ p. record { node = b.node; stamp = b.stamp; pages = p }) pages),
  (λ equal.
      and_from _ _ (eq-eqb a.node b.node (ap (λ (i : IntervalRecord). i.node) equal))
      (and_from _ _ ((numbers a.stamp b.stamp).1 (ap (λ (i : IntervalRecord). i.stamp) equal))
      ((numbers a.pages b.pages).1 (ap (λ (i : IntervalRecord). i.pages) equal)))),
)

-- the test of two lists tells whether they are the same
pub same_intervals : (xs ys : List IntervalRecord)
    → (pointwise same_interval xs ys ≡ true → xs ≡ ys) × (xs ≡ ys → pointwise same_interval xs ys ≡ true)
same_intervals = pointwise_decides same_interval-decides
