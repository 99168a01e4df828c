-- What a departure tells: of each node's own intervals, as the arrivals brought them, just those that the node does not know.
use Rattle.std.proofs.Common.{◌≡◌, ℕ, zero, suc, ◌+◌, ◌-◌, ◌<◌, ◌≤◌, max, List, [], ◌∷◌, ◌++◌, Bool, true, false}
use Rattle.std.proofs.Common.{cond, length, refl, sym, ap, subst, ◌∙◌, ⊎_elim, arith, append-nil}
use Rattle.std.specs.Prelude.{Contains, not, filter, fold, nat_le}
use Rattle.std.specs.List.{range_with_len}
use Rattle.std.proofs.lemmas.Bool.{cases_eq, cases_lt, le-leb, lt-leb}
use Rattle.lrc_time.specs.Time.{entry, joined}
use Rattle.lrc_time.proofs.Times.{entry-joined}
use Rattle.lrc_store.specs.Interval.{IntervalRecord, index_of}
use Rattle.lrc_store.proofs.Orders.{cases_Contains, none_Contains}
use Rattle.lrc_barrier.specs.declared.arrival.Arrival.{Arrival}
use Rattle.lrc_barrier.specs.Barrier.{is_news, intervals_of}
use Rattle.lrc_protocol.specs.Times.{indices_by}
use Rattle.lrc_node_laws.proofs.Indices.{indices-append, indices-here, indices-there}

-- ---- ranges

all_kept : (a n t : ℕ) → t < a → filter (λ k. not (nat_le k t)) (range_with_len a n) ≡ range_with_len a n
all_kept a zero t lt = refl
all_kept a (suc n) t lt =
    ap (λ b. cond (not b) (a ∷ filter (λ k. not (nat_le k t)) (range_with_len (a + 1) n)) (filter (λ k. not (nat_le k t)) (range_with_len (a + 1) n)))
    (lt-leb a t lt)
    ∙ ap (λ l. a ∷ l) (all_kept (a + 1) n t (omega (arith, lt)))

pub range-above : (a n t : ℕ) → a ≤ t + 1 → filter (λ k. not (nat_le k t)) (range_with_len a n) ≡ range_with_len (t + 1) (a + n - (t + 1))
range-above a zero t le =
    let none : 0 ≡ a + 0 - (t + 1) = omega (arith, le) in
    ap (range_with_len (t + 1)) none
range-above a (suc n) t le =
    ⊎_elim
    (λ (below : a < t + 1).
    let same : a + 1 + n - (t + 1) ≡ a + suc n - (t + 1) = omega arith in
    ap (λ b. cond (not b) (a ∷ filter (λ k. not (nat_le k t)) (range_with_len (a + 1) n)) (filter (λ k. not (nat_le k t)) (range_with_len (a + 1) n)))
    (le-leb a t (omega (arith, below)))
    ∙ range-above (a + 1) n t (omega (arith, below))
    ∙ ap (range_with_len (t + 1)) same)
    (λ (above : t + 1 ≤ a).
    let is : a ≡ t + 1 = omega (arith, le, above) in
    let long : suc n ≡ a + suc n - (t + 1) = omega (arith, is) in
    all_kept a (suc n) t (omega (arith, above)) ∙ ap (λ k. range_with_len k (suc n)) is ∙ ap (range_with_len (t + 1)) long)
    (cases_lt a (t + 1))

-- ---- what a time does not know

pub news-indices : (time : List ℕ) (q : ℕ) (xs : List IntervalRecord)
    → indices_by (filter (is_news time) xs) q ≡ filter (λ k. not (nat_le k (entry time q))) (indices_by xs q)
news-indices time q [] = refl
news-indices time q (x ∷ xs) =
    let rest : List IntervalRecord = filter (is_news time) xs in
    ⊎_elim
    (λ (here : x.node ≡ q).
    let same : is_news time x ≡ not (nat_le (index_of x) (entry time q)) = ap (λ k. not (nat_le (index_of x) (entry time k))) here in
    kept_here (is_news time x) x rest here
    ∙ ap (λ b. cond b (index_of x ∷ indices_by rest q) (indices_by rest q)) same
    ∙ ap (λ l. cond (not (nat_le (index_of x) (entry time q))) (index_of x ∷ l) l) (news-indices time q xs)
    ∙ ap (filter (λ k. not (nat_le k (entry time q)))) (sym (indices-here x xs q here)))
    (λ other.
    kept_there (is_news time x) x rest other
    ∙ news-indices time q xs
    ∙ ap (filter (λ k. not (nat_le k (entry time q)))) (sym (indices-there x xs q other)))
    (cases_eq x.node q)
  where
    kept_here : (b : Bool) (x : IntervalRecord) (rest : List IntervalRecord) → x.node ≡ q
        → indices_by (cond b (x ∷ rest) rest) q ≡ cond b (index_of x ∷ indices_by rest q) (indices_by rest q)
    kept_here true x rest here = indices-here x rest q here
    kept_here false x rest here = refl

    kept_there : (b : Bool) (x : IntervalRecord) (rest : List IntervalRecord) → (x.node ≡ q → ⊥) → indices_by (cond b (x ∷ rest) rest) q ≡ indices_by rest q
    kept_there true x rest other = indices-there x rest q other
    kept_there false x rest other = refl

-- ---- the arrivals, by node

-- a node's own intervals from one after the former up to the top, and no others
pub record IsOwn (former top : ℕ → ℕ) (from : ℕ) (intervals : List IntervalRecord) : Type 0 where
  pub own : indices_by intervals from ≡ range_with_len (former from + 1) (top from - former from)
  pub only : (q : ℕ) → (from ≡ q → ⊥) → indices_by intervals q ≡ []

abbrev pub AllOwn : (ℕ → ℕ) → (ℕ → ℕ) → ℕ → List Arrival → Type 0
AllOwn former top start [] = Unit {0}
AllOwn former top start (a ∷ arrivals) = IsOwn former top start a.intervals × AllOwn former top (start + 1) arrivals

none-own : (former top : ℕ → ℕ) (start q : ℕ) (arrivals : List Arrival) → AllOwn former top start arrivals → q < start
    → indices_by (intervals_of arrivals) q ≡ []
none-own former top start q [] h lt = refl
none-own former top start q (a ∷ arrivals) h lt =
    indices-append a.intervals (intervals_of arrivals) q
    ∙ ap (λ l. l ++ indices_by (intervals_of arrivals) q) (h.0.only q (λ e. omega (arith, lt, e)))
    ∙ none-own former top (start + 1) q arrivals h.1 (omega (arith, lt))

pub all-own : (former top : ℕ → ℕ) (start q : ℕ) (arrivals : List Arrival) → AllOwn former top start arrivals → start ≤ q → q < start + length arrivals
    → indices_by (intervals_of arrivals) q ≡ range_with_len (former q + 1) (top q - former q)
all-own former top start q [] h low high = absurd (omega (arith, low, high))
all-own former top start q (a ∷ arrivals) h low high =
    ⊎_elim
    (λ (here : start ≡ q).
    indices-append a.intervals (intervals_of arrivals) q
    ∙ ap (λ l. indices_by a.intervals q ++ l) (none-own former top (start + 1) q arrivals h.1 (omega (arith, here)))
    ∙ append-nil (indices_by a.intervals q)
    ∙ subst (λ k. indices_by a.intervals k ≡ range_with_len (former k + 1) (top k - former k)) here h.0.own)
    (λ (other : start ≡ q → ⊥).
    indices-append a.intervals (intervals_of arrivals) q
    ∙ ap (λ l. l ++ indices_by (intervals_of arrivals) q) (h.0.only q other)
    ∙ all-own former top (start + 1) q arrivals h.1 (above start q low other) (omega (arith, high)))
    (cases_eq start q)
  where
    above : (start q : ℕ) → start ≤ q → (start ≡ q → ⊥) → start + 1 ≤ q
    above start q low other = ⊎_elim (λ (lt : start < q). omega (arith, lt)) (λ (le : q ≤ start). absurd (other (omega (arith, low, le)))) (cases_lt start q)

-- what a departure tells of one node to a node with this time
pub told_between : (former top : ℕ → ℕ) (time : List ℕ) (q : ℕ) (arrivals : List Arrival) → AllOwn former top 0 arrivals → q < length arrivals
    → former q ≤ entry time q → former q ≤ top q
    → indices_by (filter (is_news time) (intervals_of arrivals)) q ≡ range_with_len (entry time q + 1) (top q - entry time q)
told_between former top time q arrivals h lt below most =
    let same : former q + 1 + (top q - former q) - (entry time q + 1) ≡ top q - entry time q = omega (arith, below, most) in
    news-indices time q (intervals_of arrivals)
    ∙ ap (filter (λ k. not (nat_le k (entry time q)))) (all-own former top 0 q arrivals h (omega arith) (omega (arith, lt)))
    ∙ range-above (former q + 1) (top q - former q) (entry time q) (omega (arith, below))
    ∙ ap (range_with_len (entry time q + 1)) same

-- ---- the time of all

pub join_entry-least : (q b : ℕ) (start : List ℕ) (times : List (List ℕ)) → b ≤ entry start q → b ≤ entry (fold joined start times) q
join_entry-least q b start [] s = s
join_entry-least q b start (t ∷ times) s =
    let both : entry (joined start t) q ≡ max (entry start q) (entry t q) = entry-joined start t q in
    join_entry-least q b (joined start t) times (omega (arith, s, both))

pub join_entry-some : (q : ℕ) (start : List ℕ) (times : List (List ℕ)) (t : List ℕ) → Contains times t → entry t q ≤ entry (fold joined start times) q
join_entry-some q start [] t there = absurd (none_Contains t there)
join_entry-some q start (u ∷ times) t there =
    let both : entry (joined start u) q ≡ max (entry start q) (entry u q) = entry-joined start u q in
    ⊎_elim
    (λ (same : u ≡ t).
    let is : entry u q ≡ entry t q = ap (λ t. entry t q) same in
    join_entry-least q (entry t q) (joined start u) times (omega (arith, both, is)))
    (λ later. join_entry-some q (joined start u) times t later)
    (cases_Contains u times t there)
