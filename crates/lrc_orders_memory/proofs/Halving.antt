-- Words in halves: those of a number, what stays of them, and one of them changed.
use Rattle.std.proofs.Common.{◌≡◌, ℕ, zero, suc, ◌+◌, ◌-◌, ◌<◌, ◌≤◌, ◌/◌, List, [], ◌∷◌, ◌++◌, Bool, true, false, length, take, drop, get_or, refl, sym, subst, ◌∙◌, ap, arith}
use Rattle.std.specs.Prelude.{◌≢◌, ◌==◌, Some, if◌then◌else◌, slice_get, slice_index, slice_set}
use Rattle.std.proofs.lemmas.List.{get_or_append_left, get_or-append_right, get_or-set_same, length-append, length-drop, length-set, length-take-le, set-append_left, set-append_right, take-append-drop}
use Rattle.std.proofs.lemmas.Option.{get_or_from_slice_get}
use Rattle.lrc_orders_memory.specs.declared.parts.Halves.{Halves}
use Rattle.lrc_orders_memory.specs.declared.parts.Parts.{Parts}
use Rattle.lrc_orders_memory.specs.Parts.{AreHalvesAt, AreWordsAt, KeepsParts, Stays}

-- ---- what stays

pub stays_not : {A : Type 0} (old new : List A) → new ≡ old → Stays old new
stays_not old new e = record { each = λ k x at. ap (λ l. slice_get l k) e ∙ at }

pub stays_again : {A : Type 0} (a b c : List A) → Stays a b → Stays b c → Stays a c
stays_again a b c g h = record { each = λ k x at. h.each k x (g.each k x at) }

front : {A : Type 0} (xs ys : List A) (k : ℕ) (x : A) → slice_get xs k ≡ Some x → slice_get (xs ++ ys) k ≡ Some x
front [] ys k x at = cc
front (y ∷ xs) ys zero x at = at
front (y ∷ xs) ys (suc k) x at = front xs ys k x at

-- a list to which an item is put, or which stays
pub stays_put : {A : Type 0} (b : Bool) (old new : List A) (x : A) → new ≡ (if b then old else old ++ x ∷ []) → Stays old new
stays_put true old new x is = stays_not old new is
stays_put false old new x is = record { each = λ k y at. ap (λ l. slice_get l k) is ∙ front old (x ∷ []) k y at }

pub keeps_not : (parts : Parts) → KeepsParts parts parts
keeps_not parts = record { words = stays_not parts.words.keys parts.words.keys refl; halves = stays_not parts.halves.keys parts.halves.keys refl }

pub keeps_again : (a b c : Parts) → KeepsParts a b → KeepsParts b c → KeepsParts a c
keeps_again a b c g h = record {
  words = stays_again a.words.keys b.words.keys c.words.keys g.words h.words;
  halves = stays_again a.halves.keys b.halves.keys c.halves.keys g.halves h.halves;
}

-- ---- the words of a number

pub one_word : (parts : Parts) (levels number : ℕ) (words : List ℕ) → length words ≡ 1 → AreWordsAt parts levels number words
    → slice_get parts.words.keys number ≡ Some (slice_index words 0)
one_word parts levels number [] long at = absurd (omega (arith, long))
one_word parts levels number (word ∷ []) long at = at
one_word parts levels number (word ∷ other ∷ more) long at = absurd (omega (arith, long))

pub one_put : (parts : Parts) (levels number : ℕ) (words : List ℕ) → length words ≡ 1 → slice_get parts.words.keys number ≡ Some (slice_index words 0)
    → AreWordsAt parts levels number words
one_put parts levels number [] long at = absurd (omega (arith, long))
one_put parts levels number (word ∷ []) long at = at
one_put parts levels number (word ∷ other ∷ more) long at = absurd (omega (arith, long))

pub halves_put : (parts : Parts) (levels number : ℕ) (words : List ℕ) → 1 < length words
    → AreHalvesAt parts.halves.keys number words (λ n part. AreWordsAt parts levels n part) → AreWordsAt parts (suc levels) number words
halves_put parts levels number [] long at = absurd (omega (arith, long))
halves_put parts levels number (word ∷ []) long at = absurd (omega (arith, long))
halves_put parts levels number (word ∷ other ∷ more) long at = at

-- they have it still
pub words_kept : (old new : Parts) → KeepsParts old new → (levels number : ℕ) (words : List ℕ) → AreWordsAt old levels number words
    → AreWordsAt new levels number words
words_kept old new keeps levels number [] at = at
words_kept old new keeps levels number (word ∷ []) at = keeps.words.each number word at
words_kept old new keeps zero number (word ∷ other ∷ more) at = at
words_kept old new keeps (suc levels) number (word ∷ other ∷ more) at = record {
  halves = at.halves;
  there = keeps.halves.each number at.halves at.there;
  first = at.first;
  second = at.second;
  whole = at.whole;
  half = at.half;
  first_at = words_kept old new keeps levels at.halves.first at.first at.first_at;
  second_at = words_kept old new keeps levels at.halves.second at.second at.second_at;
}

-- ---- words taken apart, and put together

-- halves of words that have numbers
pub record InHalves (parts : Parts) (levels count : ℕ) (words : List ℕ) (halves : Halves) : Type 0 where
  pub under : ℕ
  pub level : levels ≡ suc under
  pub first : List ℕ
  pub second : List ℕ
  pub whole : words ≡ first ++ second
  pub half : count / 2 ≡ length first
  pub rest : count - count / 2 ≡ length second
  pub first_at : AreWordsAt parts under halves.first first
  pub second_at : AreWordsAt parts under halves.second second

pub two_halves : (parts : Parts) (levels number : ℕ) (words : List ℕ) → 1 < length words → AreWordsAt parts levels number words
    → (under : ℕ) × (levels ≡ suc under) × AreHalvesAt parts.halves.keys number words (λ n part. AreWordsAt parts under n part)
two_halves parts levels number [] long at = absurd (omega (arith, long))
two_halves parts levels number (word ∷ []) long at = absurd (omega (arith, long))
two_halves parts zero number (word ∷ other ∷ more) long at = absurd at
two_halves parts (suc levels) number (word ∷ other ∷ more) long at = (levels, refl, at)

pub taken_apart : (parts : Parts) (slice : List Halves) (levels count number : ℕ) (words : List ℕ) (d : Halves) → slice ≡ parts.halves.keys → 1 < count
    → count ≡ length words → AreWordsAt parts levels number words → InHalves parts levels count words (get_or slice number d)
taken_apart parts slice levels count number words d are more long at =
    let (under, level, h) = two_halves parts levels number words (omega (arith, more, long)) at in
    let same : h.halves ≡ get_or slice number d =
    sym (get_or_from_slice_get slice number h.halves d (ap (λ l. slice_get l number) are ∙ h.there)) in
    let sum : length words ≡ length h.first + length h.second = ap length h.whole ∙ length-append h.first h.second in
    let half : count / 2 ≡ length h.first = ap (λ n. n / 2) long ∙ sym h.half in
    record {
      under = under;
      level = level;
      first = h.first;
      second = h.second;
      whole = h.whole;
      half = half;
      rest = omega (arith, long, sum, half);
      first_at = subst (λ (x : Halves). AreWordsAt parts under x.first h.first) same h.first_at;
      second_at = subst (λ (x : Halves). AreWordsAt parts under x.second h.second) same h.second_at;
    }

-- where two halves stand, and the words of each have their number, so have both together
pub put_together : (parts : Parts) (levels under number : ℕ) (words first second : List ℕ) (halves : Halves) → 1 < length words → levels ≡ suc under
    → words ≡ first ++ second → length first ≡ length words / 2 → slice_get parts.halves.keys number ≡ Some halves
    → AreWordsAt parts under halves.first first → AreWordsAt parts under halves.second second → AreWordsAt parts levels number words
put_together parts levels under number words first second halves more level whole half there one two =
    subst (λ n. AreWordsAt parts n number words) (sym level) (halves_put parts under number words more (record {
      halves = halves;
      there = there;
      first = first;
      second = second;
      whole = whole;
      half = half;
      first_at = one;
      second_at = two;
    }))

-- a word in the first half, and in the second
pub read_first : (words first second : List ℕ) (place : ℕ) → words ≡ first ++ second → place < length first → slice_index words place ≡ slice_index first place
read_first words first second place whole less = ap (λ l. slice_index l place) whole ∙ get_or_append_left first second 0 place less

pub read_second : (words first second : List ℕ) (half place : ℕ) → words ≡ first ++ second → length first ≡ half → half ≤ place
    → slice_index words place ≡ slice_index second (place - half)
read_second words first second half place whole long past =
    ap (λ l. slice_index l place) whole ∙ get_or-append_right first second half place 0 long past

-- one word written
module _ (old mid new : Parts) (levels count place value : ℕ) (words : List ℕ) (halves : Halves) (more : 1 < count) (long : count ≡ length words)
    (i : InHalves old levels count words halves) (keeps : KeepsParts old mid) (again : KeepsParts mid new) where
  wide : 1 < length (slice_set words place value)
  wide = let same = length-set words place value in omega (arith, more, long, same)

  pub first_written : (number first : ℕ) → place < count / 2 → AreWordsAt mid i.under first (slice_set i.first place value)
      → slice_get new.halves.keys number ≡ Some (record { first = first; second = halves.second })
      → AreWordsAt new levels number (slice_set words place value)
  first_written number first less at there =
      let half = i.half in
      put_together new levels i.under number (slice_set words place value) (slice_set i.first place value) i.second (record { first = first; second = halves.second })
      wide i.level
      (ap (λ l. slice_set l place value) i.whole ∙ set-append_left i.first i.second place value (omega (arith, less, half)))
      (length-set i.first place value ∙ sym half ∙ ap (λ n. n / 2) (long ∙ sym (length-set words place value))) there
      (words_kept mid new again i.under first (slice_set i.first place value) at)
      (words_kept mid new again i.under halves.second i.second (words_kept old mid keeps i.under halves.second i.second i.second_at))

  pub second_written : (number second : ℕ) → count / 2 ≤ place → AreWordsAt mid i.under second (slice_set i.second (place - count / 2) value)
      → slice_get new.halves.keys number ≡ Some (record { first = halves.first; second = second })
      → AreWordsAt new levels number (slice_set words place value)
  second_written number second past at there =
      put_together new levels i.under number (slice_set words place value) i.first (slice_set i.second (place - count / 2) value) (record { first = halves.first; second = second })
      wide i.level
      (ap (λ l. slice_set l place value) i.whole ∙ set-append_right i.first i.second (count / 2) place value (sym i.half) past)
      (sym i.half ∙ ap (λ n. n / 2) (long ∙ sym (length-set words place value))) there
      (words_kept mid new again i.under halves.first i.first (words_kept old mid keeps i.under halves.first i.first i.first_at))
      (words_kept mid new again i.under second (slice_set i.second (place - count / 2) value) at)

-- one word alone
pub alone_written : (words : List ℕ) (place value : ℕ) → length words ≡ 1 → place < 1 → value ≡ slice_index (slice_set words place value) 0
alone_written words place value one less =
    let here : place ≡ 0 = omega (arith, less) in
    sym (ap (λ n. slice_index (slice_set words n value) 0) here ∙ get_or-set_same words 0 value 0 (omega (arith, one)))

-- both halves numbered
pub both_numbered : (first_made both new : Parts) (levels first second number half : ℕ) (words front back : List ℕ) → 1 < length words → length words ≤ levels
    → half ≡ length words / 2 → front ≡ take half words → back ≡ drop half words
    → ((n : ℕ) → length front ≤ n → AreWordsAt first_made n first front) → ((n : ℕ) → length back ≤ n → AreWordsAt both n second back)
    → KeepsParts first_made both → KeepsParts both new
    → slice_get new.halves.keys number ≡ Some (record { first = first; second = second })
    → AreWordsAt new levels number words
both_numbered first_made both new levels first second number half words front back more within half_is front_is back_is one two keeps again there =
    let under = levels - 1 in
    let fits : half ≤ length words = omega (arith, half_is) in
    let front_long : length front ≡ half = ap length front_is ∙ length-take-le half words fits in
    let back_long : length back ≡ length words - half = ap length back_is ∙ length-drop half words in
    let first_at = words_kept both new again under first front (words_kept first_made both keeps under first front
    (one under (omega (arith, front_long, half_is, more, within)))) in
    let second_at = words_kept both new again under second back (two under (omega (arith, back_long, half_is, more, within))) in
    put_together new levels under number words front back (record { first = first; second = second }) more (omega (arith, more, within))
    (sym (ap (λ l. l ++ back) front_is ∙ ap (λ l. take half words ++ l) back_is ∙ take-append-drop half words)) (front_long ∙ half_is) there first_at second_at

pub more_than_one : (words : List ℕ) (empty : Bool) → empty ≡ (length words == 0) → empty ≡ false → length words ≢ 1 → 1 < length words
more_than_one [] empty is not one = cc
more_than_one (word ∷ []) empty is not one = absurd (one refl)
more_than_one (word ∷ other ∷ more) empty is not one = omega arith
