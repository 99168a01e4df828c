-- The least of the next turns.
use Rattle.std.proofs.Common.{◌≡◌, ℕ, zero, suc, ◌+◌, ◌<◌, ◌≤◌, inl, inr, Bool, true, false, List, length, refl, sym, ap, subst, ◌∙◌, arith}
use Rattle.std.specs.Prelude.{Option, Some, None, option_map, nat_le, cond}
use Rattle.std.proofs.lemmas.Bool.{cases_eq, leb-true, leb-false}
use Rattle.lrc_protocol.specs.Run.{EntryRecord}
use Rattle.lrc_weave.specs.declared.order.Head.{Head}
use Rattle.lrc_weave.specs.Woven.{IsUpTo}
use Rattle.lrc_protocol.specs.Follows.{come_of, next_entry}
use Rattle.lrc_weave.specs.Next.{earlier_of, stamp_of, IsFirst, IsNextOf}
use Rattle.lrc_weave.proofs.Places.{within_outer}

-- the best next turn of the nodes below a number, where the nodes' next turns have these stamps
abbrev pub IsBest : (ℕ → Option ℕ) → ℕ → Option Head → Type 0
IsBest stamps below None = (m : ℕ) → m < below → stamps m ≡ None
IsBest stamps below (Some head) = (head.node < below) × (stamps head.node ≡ Some head.stamp)
    × ((m other : ℕ) → m < below → stamps m ≡ Some other → IsUpTo head.stamp head.node other m)

up_to_if : (a n b m : ℕ) → a ≤ b → n ≤ m → IsUpTo a n b m
up_to_if a n b m le order = elim (cases_eq a b) [
  | inl e ↦ inr (e, order)
  | inr ne ↦ inl (omega (arith, le, ne))
]

below_along : (a n b m c k : ℕ) → a < b → IsUpTo b m c k → IsUpTo a n c k
below_along a n b m c k lt (inl y) = inl (omega (arith, lt, y))
below_along a n b m c k lt (inr (e, y)) = inl (omega (arith, lt, e))

not_both : (o : Option ℕ) (x : ℕ) → o ≡ None → o ≡ Some x → ⊥
not_both o x none some = cc

same_stamp : (o : Option ℕ) (x y : ℕ) → o ≡ Some x → o ≡ Some y → x ≡ y
same_stamp o x y a b = cc

module _ (stamps : ℕ → Option ℕ) where
  -- what holds of each next turn of the nodes below a number, and of the one at it
  up_to_this : (P : ℕ → ℕ → Type 0) (below : ℕ) → ((other : ℕ) → stamps below ≡ Some other → P below other)
      → ((m other : ℕ) → m < below → stamps m ≡ Some other → P m other)
      → (m other : ℕ) → m < below + 1 → stamps m ≡ Some other → P m other
  up_to_this P below here all m other lt at = elim (cases_eq below m) [
    | inl e ↦ subst (λ i. stamps i ≡ Some other → P i other) e (here other) at
    | inr ne ↦ all m other (omega (arith, lt, ne)) at
  ]

  by_stamp : (below stamp : ℕ) → stamps below ≡ Some stamp → (head : Head) → IsBest stamps below (Some head) → (b : Bool) → nat_le head.stamp stamp ≡ b
      → IsBest stamps (below + 1) (cond b (Some head) (Some (record { stamp = stamp; node = below })))
  by_stamp below stamp at head best true le = (
    omega (arith, best.0),
    best.1,
    up_to_this (λ m other. IsUpTo head.stamp head.node other m) below
        (λ other there.
        up_to_if head.stamp head.node other below
        (omega (arith, leb-true head.stamp stamp le, same_stamp (stamps below) stamp other at there)) (omega (arith, best.0)))
        best.2,
  )
  by_stamp below stamp at head best false more = (
    omega arith,
    at,
    up_to_this (λ m other. IsUpTo stamp below other m) below
        (λ other there. inr (same_stamp (stamps below) stamp other at there, omega arith))
        (λ m other lt there.
        below_along stamp below head.stamp head.node other m (leb-false head.stamp stamp more) (best.2 m other lt there)),
  )

  by_next : (below : ℕ) (o : Option ℕ) → stamps below ≡ o → (best : Option Head) → IsBest stamps below best
      → IsBest stamps (below + 1) (earlier_of best o below)
  by_next below None at None all = λ m lt. elim (cases_eq below m) [
    | inl e ↦ subst (λ i. stamps i ≡ None) e at
    | inr ne ↦ all m (omega (arith, lt, ne))
  ]
  by_next below None at (Some head) best = (
    omega (arith, best.0),
    best.1,
    up_to_this (λ m other. IsUpTo head.stamp head.node other m) below (λ other there. absurd (not_both (stamps below) other at there)) best.2,
  )
  by_next below (Some stamp) at None all = (
    omega arith,
    at,
    up_to_this (λ m other. IsUpTo stamp below other m) below
        (λ other there. inr (same_stamp (stamps below) stamp other at there, omega arith))
        (λ m other lt there. absurd (not_both (stamps m) other (all m lt) there)),
  )
  by_next below (Some stamp) at (Some head) best = by_stamp below stamp at head best (nat_le head.stamp stamp) refl

  -- the next node's turn is looked at
  pub best_more : (below : ℕ) (best : Option Head) → IsBest stamps below best → IsBest stamps (below + 1) (earlier_of best (stamps below) below)
  best_more below best is = by_next below (stamps below) refl best is

  pub best_start : IsBest stamps 0 None
  best_start = λ m lt. absurd (omega (arith, lt))

  -- of all nodes
  pub best_all : (count : ℕ) → ((n stamp : ℕ) → stamps n ≡ Some stamp → n < count) → (best : Option Head) → IsBest stamps count best
      → IsFirst stamps (option_map (λ (h : Head). h.node) best)
  best_all count within None all = λ n. past n (stamps n) refl
    where
      past : (n : ℕ) (o : Option ℕ) → stamps n ≡ o → stamps n ≡ None
      past n None at = at
      past n (Some stamp) at = all n (within n stamp at)
  best_all count within (Some head) best = (head.stamp, best.1, λ m other at. best.2 m other (within m other at) at)

  best_below : (below : ℕ) → (best : Option Head) × IsBest stamps below best
  best_below zero = (None, best_start)
  best_below (suc below) =
      let before = best_below below in
      let best : Option Head = earlier_of before.0 (stamps below) below in
      let more : below + 1 ≡ suc below = omega arith in
      (best, subst (λ k. IsBest stamps k best) more (best_more below before.0 before.1))

-- ---- the stamps in logs

-- the stamp of a node's next turn, where so many turns of each node have come
abbrev pub head_stamp : List (List EntryRecord) → List ℕ → ℕ → Option ℕ
head_stamp logs come n = option_map (λ (e : EntryRecord). e.stamp) (next_entry logs come n)

-- a list of them
abbrev pub AreHeads : List (List EntryRecord) → List ℕ → List (Option ℕ) → Type 0
AreHeads logs come stamps = (n : ℕ) → stamp_of stamps n ≡ head_stamp logs come n

no_entry : (o : Option EntryRecord) → option_map (λ (e : EntryRecord). e.stamp) o ≡ None → o ≡ None
no_entry None none = refl
no_entry (Some entry) none = cc

some_entry : (o : Option EntryRecord) (stamp : ℕ) → option_map (λ (e : EntryRecord). e.stamp) o ≡ Some stamp
    → (entry : EntryRecord) × (o ≡ Some entry) × (entry.stamp ≡ stamp)
some_entry None stamp at = cc
some_entry (Some entry) stamp at = (entry, refl, (let same : entry.stamp ≡ stamp = cc in same))

module _ (logs : List (List EntryRecord)) (come : List ℕ) where
  next_is : (o : Option ℕ) → IsFirst (head_stamp logs come) o → IsNextOf logs come o
  next_is None none = λ n. no_entry (next_entry logs come n) (none n)
  next_is (Some n) first =
      let entry = some_entry (next_entry logs come n) first.0 first.1 in (
        entry.0,
        record {
          next = entry.1;
          least = λ m other at.
              subst (λ stamp. IsUpTo stamp n other.stamp m) (sym entry.2) (first.2 m other.stamp (ap (option_map (λ (e : EntryRecord). e.stamp)) at));
        },
      )

  -- what is first of a list of the stamps is next
  pub next_of : (stamps : List (Option ℕ)) (o : Option ℕ) → AreHeads logs come stamps → IsFirst (stamp_of stamps) o → IsNextOf logs come o
  next_of stamps None are none = next_is None (λ n. sym (are n) ∙ none n)
  next_of stamps (Some n) are first = next_is (Some n) (first.0, sym (are n) ∙ first.1, λ m other at. first.2 m other (are m ∙ at))

  -- a turn is next, or none is left
  pub next_or_none : (o : Option ℕ) × IsNextOf logs come o
  next_or_none =
      let best = best_below (head_stamp logs come) (length logs) in (
        option_map (λ (h : Head). h.node) best.0,
        next_is (option_map (λ (h : Head). h.node) best.0)
            (best_all (head_stamp logs come) (length logs)
            (λ n stamp at. (let entry = some_entry (next_entry logs come n) stamp at in within_outer logs n (come_of come n) entry.0 entry.1))
            best.0 best.1),
      )
