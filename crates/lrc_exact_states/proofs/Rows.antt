-- Numbers of a node's intervals in a row: of neighbours it is enough to know the last changes between them.
use Rattle.std.proofs.Common.{◌≡◌, ℕ, zero, suc, ◌+◌, ◌<◌, ◌≤◌, inl, inr, refl, sym, ap, ap₂, ◌∙◌, arith}
use Rattle.std.specs.Prelude.{Option, Some, None}
use Rattle.std.proofs.lemmas.Bool.{cases_lt}
use Rattle.lrc_exact.specs.Memory.{Interval}
use Rattle.lrc_exact_states.specs.Levels.{Change, last_change, newest}
use Rattle.lrc_exact_states.specs.Key.{change_kept}
use Rattle.lrc_exact_states.proofs.Levels.{last-none, last-one}

-- ---- the last change is that of the later part, or else that of the earlier

abbrev pub over : Option Change → Option Change → Option Change
over None earlier = earlier
over (Some change) earlier = Some change

newest_over : (o : Option ℕ) (weight : ℕ) (x y : Option Change) → newest o weight (over x y) ≡ over (newest o weight x) y
newest_over None weight x y = refl
newest_over (Some value) weight x y = refl

module _ (f : ℕ → Interval) (word first mid : ℕ) (le : first ≤ mid) where
  pub last-parted : (last : ℕ) → mid ≤ last → last_change f word first last ≡ over (last_change f word mid last) (last_change f word first mid)
  last-parted zero less = sym (last-none f word first mid (omega (arith, less)))
  last-parted (suc last) less = elim (cases_lt last mid) [
    | inl lt ↦
        let is : mid ≡ suc last = omega (arith, lt, less) in
        ap (λ k. last_change f word first k) (sym is)
        ∙ ap (λ (o : Option Change). over o (last_change f word first mid)) (sym (last-none f word mid (suc last) (omega (arith, is))))
    | inr ge ↦
        last-one f word first last (omega (arith, le, ge))
        ∙ ap (λ (o : Option Change). newest ((f (suc last)).changed word) (f (suc last)).weight o) (last-parted last ge)
        ∙ newest_over ((f (suc last)).changed word) (f (suc last)).weight (last_change f word mid last) (last_change f word first mid)
        ∙ ap (λ (o : Option Change). over o (last_change f word first mid)) (sym (last-one f word mid last ge))
  ]

-- ---- a row

-- what changes between neighbours come to, from the first place on, over so many of them
abbrev pub joined_changes : (ℕ → Option Change) → (first count : ℕ) → Option Change
joined_changes changes first zero = None
joined_changes changes first (suc count) = over (changes (first + count)) (joined_changes changes first count)

-- numbers that do not fall
abbrev pub AreInRow : (ℕ → ℕ) → Type 0
AreInRow number = (place : ℕ) → number place ≤ number (place + 1)

module _ (f : ℕ → Interval) (word : ℕ) (number : ℕ → ℕ) (row : AreInRow number) where
  abbrev neighbours : ℕ → Option Change
  neighbours place = last_change f word (number place) (number (place + 1))

  no_lower : (first count : ℕ) → number first ≤ number (first + count)
  no_lower first zero = omega (arith, ap number (let e : first ≡ first + 0 = omega arith in e))
  no_lower first (suc count) =
      let before = no_lower first count in
      let next = row (first + count) in
      let is = ap number (let e : first + suc count ≡ first + count + 1 = omega arith in e) in
      omega (arith, before, next, is)

  pub row_change : (first count : ℕ) → last_change f word (number first) (number (first + count)) ≡ joined_changes neighbours first count
  row_change first zero =
      last-none f word (number first) (number (first + 0)) (let is = ap number (let e : first + 0 ≡ first = omega arith in e) in omega (arith, is))
  row_change first (suc count) =
      ap (λ k. last_change f word (number first) (number k)) (let e : first + suc count ≡ first + count + 1 = omega arith in e)
      ∙ last-parted f word (number first) (number (first + count)) (no_lower first count) (number (first + count + 1)) (row (first + count))
      ∙ ap (over (neighbours (first + count))) (row_change first count)

-- ---- what is kept of it

module _ (cap bound : ℕ) where
  over_kept : (x y : Option Change) → change_kept cap bound (over x y) ≡ over (change_kept cap bound x) (change_kept cap bound y)
  over_kept None y = refl
  over_kept (Some change) y = refl

  pub joined_kept : (changes : ℕ → Option Change) (first count : ℕ)
      → change_kept cap bound (joined_changes changes first count) ≡ joined_changes (λ place. change_kept cap bound (changes place)) first count
  joined_kept changes first zero = refl
  joined_kept changes first (suc count) =
      over_kept (changes (first + count)) (joined_changes changes first count)
      ∙ ap (over (change_kept cap bound (changes (first + count)))) (joined_kept changes first count)

-- changes that are the same between neighbours come to the same
pub joined_same : (changes changes' : ℕ → Option Change) (first count : ℕ) → ((place : ℕ) → first ≤ place → place < first + count → changes place ≡ changes' place)
    → joined_changes changes first count ≡ joined_changes changes' first count
joined_same changes changes' first zero same = refl
joined_same changes changes' first (suc count) same =
    ap₂ over (same (first + count) (omega arith) (omega arith)) (joined_same changes changes' first count (λ place low high. same place low (omega (arith, high))))

-- So two rows where what is kept of the changes between neighbours is the same keep the same of any two numbers.
module _ (cap bound bound' : ℕ) (f f' : ℕ → Interval) (word : ℕ) (number number' : ℕ → ℕ) (row : AreInRow number) (row' : AreInRow number') where
  pub rows_same : (first count : ℕ)
      → ((place : ℕ) → first ≤ place → place < first + count
      → change_kept cap bound (last_change f word (number place) (number (place + 1))) ≡ change_kept cap bound' (last_change f' word (number' place) (number' (place + 1))))
      → change_kept cap bound (last_change f word (number first) (number (first + count)))
      ≡ change_kept cap bound' (last_change f' word (number' first) (number' (first + count)))
  rows_same first count same =
      ap (change_kept cap bound) (row_change f word number row first count)
      ∙ joined_kept cap bound (λ place. last_change f word (number place) (number (place + 1))) first count
      ∙ joined_same (λ place. change_kept cap bound (last_change f word (number place) (number (place + 1))))
      (λ place. change_kept cap bound' (last_change f' word (number' place) (number' (place + 1)))) first count same
      ∙ sym (joined_kept cap bound' (λ place. last_change f' word (number' place) (number' (place + 1))) first count)
      ∙ sym (ap (change_kept cap bound') (row_change f' word number' row' first count))
