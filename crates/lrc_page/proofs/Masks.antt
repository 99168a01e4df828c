-- Lemmas on masks, for the crates above too.
use Rattle.std.proofs.Common.{ℕ, zero, suc, false, ◌≡◌, ◌≢◌, ◌*◌, ◌+◌, ◌/◌, ◌%◌, ◌^◌, ◌<◌, ◌≤◌, ◌∙◌, ◌||◌, List, length, get_or, set, eqb}
use Rattle.std.proofs.Common.{min, refl, ap, sym, ⊎_elim, w64, arith, length-set, get_or-set_same, get_or-set_other}
use Rattle.std.specs.Prelude.{bit_and, bit_or}
use Rattle.std.specs.Int.{bit_at, trailing_zeros}
use Rattle.std.proofs.lemmas.Bool.{cases_eq, cases_lt, eqb-true, eq-eqb, ne_eqb}
use Rattle.std.proofs.lemmas.List.{get_or_past}
use Rattle.std.proofs.Math.Pow.{pow-lt}
use Rattle.std.proofs.Math.Nat.{mod-eq_of_lt}
use Rattle.std.proofs.lemmas.Nat.Bits.{bit_at_set_same, bit_at_set_other, bit_at_and, bit_at-zero, bit_at-lt, bit_at-trailing_zeros}
use Rattle.lrc_page.specs.Mask.{has, no_offsets, with_offset, Meets}

-- the number that holds an offset's bit
abbrev word : List ℕ → ℕ → ℕ
word mask offset = get_or mask (offset / 64) 0

has-same_word : (a b : List ℕ) (offset : ℕ) → word a offset ≡ word b offset → has a offset ≡ has b offset
has-same_word a b offset same = ap (λ w. eqb (bit_at w (offset % 64)) 1) same

-- one bit more
pub has-with : (mask : List ℕ) (offset other : ℕ) → length mask ≡ 4 → offset < 256
    → has (set mask (offset / 64) (bit_or (get_or mask (offset / 64) 0) (1 * 2 ^ (offset % 64) % 2 ^ 64))) other
    ≡ (eqb other offset || has mask other)
has-with mask offset other long within =
    let place = offset / 64 in
    let bits = bit_or (get_or mask place 0) (1 * 2 ^ (offset % 64) % 2 ^ 64) in
    let inside : place < length mask = omega (arith, long) in
    let small : offset % 64 < 64 = omega arith in
    ⊎_elim
    (λ (same : other ≡ offset).
    rw (same, eq-eqb offset offset refl)
    (ap (λ w. eqb (bit_at w (offset % 64)) 1) (get_or-set_same mask place bits 0 inside)
    ∙ ap (λ bit. eqb bit 1) (bit_at_set_same w64 (get_or mask place 0) (offset % 64) small)))
    (λ (differ : other ≡ offset → ⊥).
    rw (ne_eqb other offset differ)
    (⊎_elim
    (λ (near : other / 64 ≡ place).
    let apart : other % 64 ≢ offset % 64 = λ even. differ (omega arith) in
    let read : word (set mask place bits) other ≡ bits =
    ap (λ i. get_or (set mask place bits) i 0) near ∙ get_or-set_same mask place bits 0 inside in
    ap (λ w. eqb (bit_at w (other % 64)) 1) read
    ∙ ap (λ bit. eqb bit 1) (bit_at_set_other w64 (get_or mask place 0) (offset % 64) small (other % 64) apart)
    ∙ ap (λ i. eqb (bit_at (get_or mask i 0) (other % 64)) 1) (sym near))
    (λ (far : other / 64 ≡ place → ⊥).
    has-same_word (set mask place bits) mask other (get_or-set_other mask place (other / 64) bits 0 far))
    (cases_eq (other / 64) place)))
    (cases_eq other offset)

-- two masks share an offset where the `&` of two of their numbers is not zero
pub meets-and : (a b : List ℕ) (place : ℕ) → bit_and (get_or a place 0) (get_or b place 0) < 2 ^ 64
    → bit_and (get_or a place 0) (get_or b place 0) ≢ 0 → Meets a b
meets-and a b place small some =
    let both = bit_and (get_or a place 0) (get_or b place 0) in
    let bit = trailing_zeros w64 both in
    let lowest = bit_at-trailing_zeros w64 both (omega arith) small in
    let ones : min (bit_at (get_or a place 0) bit) (bit_at (get_or b place 0) bit) ≡ 1 =
    sym (bit_at_and (get_or a place 0) (get_or b place 0) bit) ∙ lowest.1 in
    let below : bit < 64 = lowest.0 in
    let offset = place * 64 + bit in
    let here : offset / 64 ≡ place = omega arith in
    let there : offset % 64 ≡ bit = omega arith in (
      offset,
      (
        rw (here, there) (eq-eqb (bit_at (get_or a place 0) bit) 1 (omega (arith, bit_at-lt (get_or a place 0) bit))),
        rw (here, there) (eq-eqb (bit_at (get_or b place 0) bit) 1 (omega (arith, bit_at-lt (get_or b place 0) bit))),
      ),
    )

-- and only there
pub meets-none : (a b : List ℕ) → length a ≤ 4
    → ((place : ℕ) → place < 4 → bit_and (get_or a place 0) (get_or b place 0) ≡ 0) → Meets a b → ⊥
meets-none a b long none meets =
    let offset = meets.0 in
    let first : bit_at (word a offset) (offset % 64) ≡ 1 = eqb-true _ _ meets.1.0 in
    let second : bit_at (word b offset) (offset % 64) ≡ 1 = eqb-true _ _ meets.1.1 in
    ⊎_elim
    (λ (within : offset / 64 < 4).
    let zero_bit : bit_at (bit_and (word a offset) (word b offset)) (offset % 64) ≡ 0 =
    ap (λ n. bit_at n (offset % 64)) (none (offset / 64) within) ∙ bit_at-zero (offset % 64) in
    omega (arith, bit_at_and (word a offset) (word b offset) (offset % 64), first, second, zero_bit))
    (λ (past : 4 ≤ offset / 64).
    let zero_bit : bit_at (word a offset) (offset % 64) ≡ 0 =
    ap (λ n. bit_at n (offset % 64)) (get_or_past a (offset / 64) 0 (omega arith)) ∙ bit_at-zero (offset % 64) in
    omega (arith, first, zero_bit))
    (cases_lt (offset / 64) 4)

-- ---- a mask with one offset more

-- a bit of a number below 64 is one of its 64 bits
shifted : (k : ℕ) → k < 64 → 1 * 2 ^ k % 2 ^ 64 ≡ 2 ^ k
shifted k small =
    let below : 2 ^ k < 2 ^ 64 = pow-lt small in
    let one : 1 * 2 ^ k ≡ 2 ^ k = omega arith in
    ap (λ n. n % 2 ^ 64) one ∙ mod-eq_of_lt below

pub with_offset-is : (mask : List ℕ) (offset : ℕ)
    → set mask (offset / 64) (bit_or (get_or mask (offset / 64) 0) (1 * 2 ^ (offset % 64) % 2 ^ 64)) ≡ with_offset mask offset
with_offset-is mask offset =
    ap (λ bit. set mask (offset / 64) (bit_or (get_or mask (offset / 64) 0) bit)) (shifted (offset % 64) (omega arith))

-- an offset is in the mask if it is the new one or was there
pub has-with_offset : (mask : List ℕ) (offset other : ℕ) → length mask ≡ 4 → offset < 256
    → has (with_offset mask offset) other ≡ (eqb other offset || has mask other)
has-with_offset mask offset other long within =
    ap (λ m. has m other) (sym (with_offset-is mask offset)) ∙ has-with mask offset other long within

pub length-with_offset : (mask : List ℕ) (offset : ℕ) → length (with_offset mask offset) ≡ length mask
length-with_offset mask offset = simp length-set

zero_word : (place : ℕ) → get_or no_offsets place 0 ≡ 0
zero_word zero = refl
zero_word (suc zero) = refl
zero_word (suc (suc zero)) = refl
zero_word (suc (suc (suc zero))) = refl
zero_word (suc (suc (suc (suc place)))) = refl

pub has-no_offsets : (offset : ℕ) → has no_offsets offset ≡ false
has-no_offsets offset =
    let none : bit_at (get_or no_offsets (offset / 64) 0) (offset % 64) ≡ 0 =
    ap (λ word. bit_at word (offset % 64)) (zero_word (offset / 64)) ∙ bit_at-zero (offset % 64) in
    ap (λ bit. eqb bit 1) none
