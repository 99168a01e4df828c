-- The values of the parts of an address.
use Rattle.std.proofs.Common.{◌≡◌, ℕ, ◌+◌, ◌*◌, ◌-◌, ◌%◌, ◌^◌, ◌<◌, ◌≤◌, Bool, true, false, List, [], ◌∷◌, filter, refl, sym, ap, subst, arith, ◌∙◌, inl, inr}
use Rattle.std.specs.Prelude.{Option, Some, None, is_none, cond, nat_lt, if◌then◌else◌, ◌⊎◌, ◌==◌}
use Rattle.std.proofs.lemmas.Bool.{cases_lt, ltb-true, lt-ltb, le-ltb, eqb-true}
use Rattle.std.proofs.Math.Nat.{mod-eq_of_lt}
use Rattle.lrc_program.specs.declared.Operator.TheVariants.{Add, Subtract, Multiply, Less}
use Rattle.lrc_exec.specs.Meaning.{combined, one_if}
use Rattle.lrc_named_core.specs.Tree.{Private, Expression, number, private, me, nodes, binary}
use Rattle.lrc_named_address.specs.Address.{Index, base_of, is_open, number_within, offset, offset_of, test_of, summand_of, times_tests, plus_summands, address_of}
use Rattle.lrc_named_address_laws.specs.Values.{value_of}
use Rattle.lrc_named_address_laws.proofs.Wrapped.{once, never, one_less, below_zero}

-- each index has its value
pub data Valued (names : Private → ℕ) (here count : ℕ) : List Index → List ℕ → Type 0 where
  no_index : Valued names here count [] []
  one_index : {i : Index} {is : List Index} {v : ℕ} {vs : List ℕ} →
      value_of names here count i.core ≡ Some v → Valued names here count is vs → Valued names here count (i ∷ is) (v ∷ vs)

-- each is below its size
abbrev pub Within : List Index → List ℕ → Type 0
Within [] vs = Unit {0}
Within (i ∷ is) [] = Unit {0}
Within (i ∷ is) (v ∷ vs) = (v < i.size) × Within is vs

-- some is not
abbrev pub Beyond : List Index → List ℕ → Type 0
Beyond [] vs = ⊥
Beyond (i ∷ is) [] = ⊥
Beyond (i ∷ is) (v ∷ vs) = (i.size ≤ v) ⊎ Beyond is vs

abbrev pub sum : List Index → List ℕ → ℕ
sum [] vs = 0
sum (i ∷ is) [] = 0
sum (i ∷ is) (v ∷ vs) = v * i.stride + sum is vs

-- the values of those that may be out of range
abbrev pub opens : List Index → List ℕ → List ℕ
opens [] vs = []
opens (i ∷ is) [] = []
opens (i ∷ is) (v ∷ vs) = cond (is_open i) (v ∷ opens is vs) (opens is vs)

-- ---- what is known is what the index is

known_if : (b : Bool) (n m : ℕ) → (if b then Some n else None) ≡ Some m → (b ≡ true) × (n ≡ m)
known_if true n m is = (refl, cc)
known_if false n m is = absurd (cc)

pub known_is : (core : Expression) (size n : ℕ) → number_within core size ≡ Some n → (core ≡ number n) × (n < size)
known_is (number m) size n is =
    let h = known_if (nat_lt m size) m n is in
    let lt : m < size = ltb-true m size h.0 in (ap number h.1, subst (λ k. k < size) h.1 lt)
known_is (private name) size n is = absurd (cc)
known_is me size n is = absurd (cc)
known_is nodes size n is = absurd (cc)
known_is (binary left o right) size n is = absurd (cc)

known_value : (names : Private → ℕ) (here count : ℕ) (core : Expression) (size n v : ℕ) → number_within core size ≡ Some n
    → value_of names here count core ≡ Some v → (n ≡ v) × (v < size)
known_value names here count core size n v is has =
    let h = known_is core size n is in
    let e : Some n ≡ Some v = sym (ap (value_of names here count) h.0) ∙ has in
    let same : n ≡ v = cc in (same, subst (λ k. k < size) same h.1)

-- ---- those that may be out of range

valued_if : (names : Private → ℕ) (here count : ℕ) (b : Bool) (i : Index) (v : ℕ) (is : List Index) (vs : List ℕ)
    → value_of names here count i.core ≡ Some v → Valued names here count is vs → Valued names here count (cond b (i ∷ is) is) (cond b (v ∷ vs) vs)
valued_if names here count true i v is vs has rest = one_index has rest
valued_if names here count false i v is vs has rest = rest

pub valued_opens : (names : Private → ℕ) (here count : ℕ) (is : List Index) (vs : List ℕ)
    → Valued names here count is vs → Valued names here count (filter is_open is) (opens is vs)
valued_opens names here count is vs no_index = no_index
valued_opens names here count xs ys (one_index {i = i} {is = is} {v = v} {vs = vs} has rest) =
    valued_if names here count (is_open i) i v (filter is_open is) (opens is vs) has (valued_opens names here count is vs rest)

within_none : (is : List Index) → Within is []
within_none [] = tt
within_none (i ∷ is) = tt

within_if : (b : Bool) (i : Index) (v : ℕ) (is : List Index) (vs : List ℕ) → v < i.size → Within is vs → Within (cond b (i ∷ is) is) (cond b (v ∷ vs) vs)
within_if true i v is vs lt rest = (lt, rest)
within_if false i v is vs lt rest = rest

pub within_opens : (is : List Index) (vs : List ℕ) → Within is vs → Within (filter is_open is) (opens is vs)
within_opens [] vs h = tt
within_opens (i ∷ is) [] h = within_none (filter is_open (i ∷ is))
within_opens (i ∷ is) (v ∷ vs) h = within_if (is_open i) i v (filter is_open is) (opens is vs) h.0 (within_opens is vs h.1)

below_itself : (v size : ℕ) → v < size → size ≤ v → ⊥
below_itself v size lt le = omega arith

beyond_if : (o : Option ℕ) (i : Index) (v : ℕ) (is : List Index) (vs : List ℕ) → ((n : ℕ) → o ≡ Some n → v < i.size)
    → (i.size ≤ v) ⊎ Beyond is vs → Beyond (cond (is_none o) (i ∷ is) is) (cond (is_none o) (v ∷ vs) vs)
beyond_if None i v is vs small h = h
beyond_if (Some n) i v is vs small (inl le) = absurd (below_itself v i.size (small n refl) le)
beyond_if (Some n) i v is vs small (inr rest) = rest

pub beyond_opens : (names : Private → ℕ) (here count : ℕ) (is : List Index) (vs : List ℕ)
    → Valued names here count is vs → Beyond is vs → Beyond (filter is_open is) (opens is vs)
beyond_opens names here count is vs no_index h = h
beyond_opens names here count xs ys (one_index {i = i} {is = is} {v = v} {vs = vs} has rest) (inl le) =
    beyond_if (number_within i.core i.size) i v (filter is_open is) (opens is vs)
    (λ n is. (known_value names here count i.core i.size n v is has).1) (inl le)
beyond_opens names here count xs ys (one_index {i = i} {is = is} {v = v} {vs = vs} has rest) (inr later) =
    beyond_if (number_within i.core i.size) i v (filter is_open is) (opens is vs)
    (λ n is. (known_value names here count i.core i.size n v is has).1) (inr (beyond_opens names here count is vs rest later))

split_if : (o : Option ℕ) (i : Index) (v : ℕ) (is : List Index) (vs : List ℕ) → ((n : ℕ) → o ≡ Some n → n ≡ v)
    → offset o i.stride + sum (cond (is_none o) (i ∷ is) is) (cond (is_none o) (v ∷ vs) vs) ≡ v * i.stride + sum is vs
split_if None i v is vs same = omega arith
split_if (Some n) i v is vs same = ap (λ k. k * i.stride + sum is vs) (same n refl)

-- the known ones and the others make the whole
pub split : (names : Private → ℕ) (here count base : ℕ) (is : List Index) (vs : List ℕ) → Valued names here count is vs
    → base_of base is + sum (filter is_open is) (opens is vs) ≡ base + sum is vs
split names here count base is vs no_index = refl
split names here count base xs ys (one_index {i = i} {is = is} {v = v} {vs = vs} has rest) =
    let h = split names here count (base + offset_of i) is vs rest in
    let k = split_if (number_within i.core i.size) i v (filter is_open is) (opens is vs)
    (λ n is. (known_value names here count i.core i.size n v is has).0) in
    omega (arith, h, k)

-- ---- the tests

product_of : (names : Private → ℕ) (here count : ℕ) (left : Expression) (i : Index) (a v : ℕ) → value_of names here count left ≡ Some a
    → value_of names here count i.core ≡ Some v
    → value_of names here count (binary left Multiply (test_of i)) ≡ combined Multiply (Some a) (Some (one_if (nat_lt v i.size)))
product_of names here count left i a v h k =
    ap (λ l. combined Multiply l (combined Less (value_of names here count i.core) (Some i.size))) h
    ∙ ap (λ r. combined Multiply (Some a) (combined Less r (Some i.size))) k

one_times : (b : Bool) → combined Multiply (Some 1) (Some (one_if b)) ≡ Some (one_if b)
one_times true = refl
one_times false = refl

zero_times : (b : Bool) → combined Multiply (Some 0) (Some (one_if b)) ≡ Some 0
zero_times true = refl
zero_times false = refl

pub tests_hold : (names : Private → ℕ) (here count : ℕ) (left : Expression) (is : List Index) (vs : List ℕ) → value_of names here count left ≡ Some 1
    → Valued names here count is vs → Within is vs → value_of names here count (times_tests left is) ≡ Some 1
tests_hold names here count left is vs h no_index within = h
tests_hold names here count left xs ys h (one_index {i = i} {is = is} {v = v} {vs = vs} has rest) within =
    tests_hold names here count (binary left Multiply (test_of i)) is vs
    (product_of names here count left i 1 v h has ∙ one_times (nat_lt v i.size) ∙ ap (λ b. Some (one_if b)) (lt-ltb v i.size within.0)) rest within.1

tests_failed : (names : Private → ℕ) (here count : ℕ) (left : Expression) (is : List Index) (vs : List ℕ) → value_of names here count left ≡ Some 0
    → Valued names here count is vs → value_of names here count (times_tests left is) ≡ Some 0
tests_failed names here count left is vs h no_index = h
tests_failed names here count left xs ys h (one_index {i = i} {is = is} {v = v} {vs = vs} has rest) =
    tests_failed names here count (binary left Multiply (test_of i)) is vs
    (product_of names here count left i 0 v h has ∙ zero_times (nat_lt v i.size)) rest

-- one more factor, that is 1 or 0
held : (names : Private → ℕ) (here count : ℕ) (left : Expression) (i : Index) (v : ℕ) → value_of names here count left ≡ Some 1
    → value_of names here count i.core ≡ Some v → v < i.size → value_of names here count (binary left Multiply (test_of i)) ≡ Some 1
held names here count left i v h has lt =
    product_of names here count left i 1 v h has ∙ one_times (nat_lt v i.size) ∙ ap (λ b. Some (one_if b)) (lt-ltb v i.size lt)

failed : (names : Private → ℕ) (here count : ℕ) (left : Expression) (i : Index) (v : ℕ) → value_of names here count left ≡ Some 1
    → value_of names here count i.core ≡ Some v → i.size ≤ v → value_of names here count (binary left Multiply (test_of i)) ≡ Some 0
failed names here count left i v h has le =
    product_of names here count left i 1 v h has ∙ one_times (nat_lt v i.size) ∙ ap (λ b. Some (one_if b)) (le-ltb v i.size le)

pub tests_fail : (names : Private → ℕ) (here count : ℕ) (left : Expression) (is : List Index) (vs : List ℕ) → value_of names here count left ≡ Some 1
    → Valued names here count is vs → Beyond is vs → value_of names here count (times_tests left is) ≡ Some 0
tests_fail names here count left is vs h no_index beyond = absurd beyond
tests_fail names here count left xs ys h (one_index {i = i} {is = is} {v = v} {vs = vs} has rest) (inl le) =
    tests_failed names here count (binary left Multiply (test_of i)) is vs (failed names here count left i v h has le) rest
tests_fail names here count left xs ys h (one_index {i = i} {is = is} {v = v} {vs = vs} has rest) (inr later) =
    elim (cases_lt v i.size) [
      | inl lt ↦ tests_fail names here count (binary left Multiply (test_of i)) is vs (held names here count left i v h has lt) rest later
      | inr le ↦ tests_failed names here count (binary left Multiply (test_of i)) is vs (failed names here count left i v h has le) rest
    ]

-- ---- the summands

summand_if : (names : Private → ℕ) (here count : ℕ) (b : Bool) (i : Index) (v : ℕ) → (b ≡ true → i.stride ≡ 1)
    → value_of names here count i.core ≡ Some v → v * i.stride < 2 ^ 64
    → value_of names here count (if b then i.core else binary i.core Multiply (number i.stride)) ≡ Some (v * i.stride)
summand_if names here count true i v one has small =
    let e : v ≡ v * 1 = omega arith in
    has ∙ ap Some e ∙ ap (λ k. Some (v * k)) (sym (one refl))
summand_if names here count false i v one has small =
    ap (λ l. combined Multiply l (Some i.stride)) has ∙ ap Some (mod-eq_of_lt small)

summand_value : (names : Private → ℕ) (here count : ℕ) (i : Index) (v : ℕ) → value_of names here count i.core ≡ Some v → v * i.stride < 2 ^ 64
    → value_of names here count (summand_of i) ≡ Some (v * i.stride)
summand_value names here count i v has small = summand_if names here count (i.stride == 1) i v (λ t. eqb-true i.stride 1 t) has small

some_if : (names : Private → ℕ) (here count : ℕ) (b : Bool) (i : Index) (v : ℕ) → value_of names here count i.core ≡ Some v
    → (x : ℕ) × (value_of names here count (if b then i.core else binary i.core Multiply (number i.stride)) ≡ Some x)
some_if names here count true i v has = (v, has)
some_if names here count false i v has = ((v * i.stride) % 2 ^ 64, ap (λ l. combined Multiply l (Some i.stride)) has)

pub sums_in : (names : Private → ℕ) (here count : ℕ) (left : Expression) (a : ℕ) (is : List Index) (vs : List ℕ) → value_of names here count left ≡ Some a
    → Valued names here count is vs → a + sum is vs < 2 ^ 64 → value_of names here count (plus_summands left is) ≡ Some (a + sum is vs)
sums_in names here count left a is vs h no_index small = let e : a ≡ a + 0 = omega arith in h ∙ ap Some e
sums_in names here count left a xs ys h (one_index {i = i} {is = is} {v = v} {vs = vs} has rest) small =
    let one : v * i.stride < 2 ^ 64 = omega arith in
    let two : a + v * i.stride < 2 ^ 64 = omega arith in
    let first : value_of names here count (binary left Add (summand_of i)) ≡ Some (a + v * i.stride) =
    ap (λ l. combined Add l (value_of names here count (summand_of i))) h
    ∙ ap (λ r. combined Add (Some a) r) (summand_value names here count i v has one) ∙ ap Some (mod-eq_of_lt two) in
    let e : a + v * i.stride + sum is vs ≡ a + (v * i.stride + sum is vs) = omega arith in
    sums_in names here count (binary left Add (summand_of i)) (a + v * i.stride) is vs first rest (omega arith) ∙ ap Some e

pub sums_some : (names : Private → ℕ) (here count : ℕ) (left : Expression) (a : ℕ) (is : List Index) (vs : List ℕ) → value_of names here count left ≡ Some a
    → Valued names here count is vs → (w : ℕ) × (value_of names here count (plus_summands left is) ≡ Some w)
sums_some names here count left a is vs h no_index = (a, h)
sums_some names here count left a xs ys h (one_index {i = i} {is = is} {v = v} {vs = vs} has rest) =
    let x = some_if names here count (i.stride == 1) i v has in
    sums_some names here count (binary left Add (summand_of i)) ((a + x.0) % 2 ^ 64) is vs
    (ap (λ l. combined Add l (value_of names here count (summand_of i))) h ∙ ap (λ r. combined Add (Some a) r) x.1) rest

-- ---- the whole

test_value : (names : Private → ℕ) (here count : ℕ) (i : Index) (v : ℕ) → value_of names here count i.core ≡ Some v
    → value_of names here count (test_of i) ≡ Some (one_if (nat_lt v i.size))
test_value names here count i v has = ap (λ l. combined Less l (Some i.size)) has

pub address_in : (names : Private → ℕ) (here count base : ℕ) (is : List Index) (vs : List ℕ) → Valued names here count is vs → Within is vs
    → base + sum is vs + 1 < 2 ^ 64 → value_of names here count (address_of base is) ≡ Some (base + sum is vs)
address_in names here count base is vs no_index within small = let e : base ≡ base + 0 = omega arith in ap Some e
address_in names here count base xs ys (one_index {i = i} {is = is} {v = v} {vs = vs} has rest) within small =
    let x = base + sum (i ∷ is) (v ∷ vs) in
    let t : value_of names here count (times_tests (test_of i) is) ≡ Some 1 =
    tests_hold names here count (test_of i) is vs
    (test_value names here count i v has ∙ ap (λ b. Some (one_if b)) (lt-ltb v i.size within.0)) rest within.1 in
    let near : base + 1 + sum (i ∷ is) (v ∷ vs) < 2 ^ 64 = omega arith in
    let s : value_of names here count (plus_summands (number (base + 1)) (i ∷ is)) ≡ Some (base + 1 + sum (i ∷ is) (v ∷ vs)) =
    sums_in names here count (number (base + 1)) (base + 1) (i ∷ is) (v ∷ vs) refl (one_index has rest) near in
    let e : base + 1 + sum (i ∷ is) (v ∷ vs) ≡ x + 1 = omega arith in
    let some : 1 ≤ 2 ^ 64 = omega arith in
    let below : x < 2 ^ 64 = omega arith in
    ap (λ l. combined Subtract (combined Multiply l (value_of names here count (plus_summands (number (base + 1)) (i ∷ is)))) (Some 1)) t
    ∙ ap (λ r. combined Subtract (combined Multiply (Some 1) r) (Some 1)) s
    ∙ ap (λ n. combined Subtract (Some n) (Some 1)) (once (base + 1 + sum (i ∷ is) (v ∷ vs)) (2 ^ 64) near ∙ e)
    ∙ ap Some (one_less x (2 ^ 64) some below)

first_fails : (names : Private → ℕ) (here count : ℕ) (i : Index) (is : List Index) (v : ℕ) (vs : List ℕ) → value_of names here count i.core ≡ Some v
    → Valued names here count is vs → (i.size ≤ v) ⊎ Beyond is vs → value_of names here count (times_tests (test_of i) is) ≡ Some 0
first_fails names here count i is v vs has rest (inl le) =
    tests_failed names here count (test_of i) is vs (test_value names here count i v has ∙ ap (λ b. Some (one_if b)) (le-ltb v i.size le)) rest
first_fails names here count i is v vs has rest (inr later) =
    elim (cases_lt v i.size) [
      | inl lt ↦ tests_fail names here count (test_of i) is vs (test_value names here count i v has ∙ ap (λ b. Some (one_if b)) (lt-ltb v i.size lt)) rest later
      | inr le ↦ tests_failed names here count (test_of i) is vs (test_value names here count i v has ∙ ap (λ b. Some (one_if b)) (le-ltb v i.size le)) rest
    ]

pub address_beyond : (names : Private → ℕ) (here count base : ℕ) (is : List Index) (vs : List ℕ) → Valued names here count is vs → Beyond is vs
    → value_of names here count (address_of base is) ≡ Some (2 ^ 64 - 1)
address_beyond names here count base is vs no_index beyond = absurd beyond
address_beyond names here count base xs ys (one_index {i = i} {is = is} {v = v} {vs = vs} has rest) beyond =
    let t = first_fails names here count i is v vs has rest beyond in
    let s = sums_some names here count (number (base + 1)) (base + 1) (i ∷ is) (v ∷ vs) refl (one_index has rest) in
    let some : 1 ≤ 2 ^ 64 = omega arith in
    let positive : 0 < 2 ^ 64 = omega arith in
    ap (λ l. combined Subtract (combined Multiply l (value_of names here count (plus_summands (number (base + 1)) (i ∷ is)))) (Some 1)) t
    ∙ ap (λ r. combined Subtract (combined Multiply (Some 0) r) (Some 1)) s.1
    ∙ ap (λ n. combined Subtract (Some n) (Some 1)) (never s.0 (2 ^ 64) positive)
    ∙ ap Some (below_zero (2 ^ 64) some)
