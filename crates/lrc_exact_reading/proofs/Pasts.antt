-- Which values fit the writes that are known, and that learning changes by their ranks keeps the fit. Writes are named by their positions.
use Rattle.std.proofs.Common.{◌≡◌, ℕ, zero, suc, ◌<◌, ◌≤◌, ◌⊎◌, Bool, true, false, inl, inr, refl, sym, subst, ap, ◌∙◌, arith}
use Rattle.std.proofs.lemmas.Bool.{cases_Bool, cases_eq, cases_lt, both_ways}

-- the last of the positions below a bound that pass, if there is one
pub last_of : (P : ℕ → Bool) (n : ℕ)
    → ((k : ℕ) → k < n → P k ≡ true → ⊥) ⊎ ((i : ℕ) × (i < n) × (P i ≡ true) × ((k : ℕ) → k < n → P k ≡ true → k ≤ i))
last_of P zero = inl (λ k lt is. absurd (omega arith))
last_of P (suc n) = elim (cases_Bool (P n)) [
  | inl passes ↦ inr (n, omega arith, passes, λ k lt is. omega arith)
  | inr fails ↦
      elim (last_of P n) [
        | inl none ↦
            inl (λ k lt is.
            elim (cases_eq k n) [
              | inl here ↦ both_ways (P n) fails (subst (λ m. P m ≡ true) here is)
              | inr apart ↦ none k (omega arith) is
            ])
        | inr (i, less, is, last) ↦
            inr (
              i,
              omega arith,
              is,
              λ k lt there.
                  elim (cases_eq k n) [
                    | inl here ↦ absurd (both_ways (P n) fails (subst (λ m. P m ≡ true) here there))
                    | inr apart ↦ last k (omega arith) there
                  ],
            )
      ]
]

-- Of writes it is known which comes before which, which two are in one interval, and what value each writes.
module _ (Before One : ℕ → ℕ → Type 0) (value : ℕ → ℕ) where
  -- i is a known write, and of those in its interval the last that is known
  pub record IsLastInside (P : ℕ → Bool) (i : ℕ) : Type 0 where
    pub known : P i ≡ true
    pub last : (k : ℕ) → P k ≡ true → One k i → k ≤ i

  -- i is the last of all known writes
  pub record IsLastOfAll (P : ℕ → Bool) (i : ℕ) : Type 0 where
    pub known : P i ≡ true
    pub last : (k : ℕ) → P k ≡ true → k ≤ i

  -- any two known writes are ordered
  abbrev pub AreOrderedIn : (ℕ → Bool) → Type 0
  AreOrderedIn P = (i k : ℕ) → P i ≡ true → P k ≡ true → i < k → Before i k

  -- A value fits the known writes:
  pub record FitsPast (P : ℕ → Bool) (v : ℕ) : Type 0 where
    -- it is 0 where there is none,
    pub none : ((k : ℕ) → P k ≡ true → ⊥) → v ≡ 0
    -- where there is one, it is that of the last in some interval,
    pub some : (k : ℕ) → P k ≡ true → (i : ℕ) × IsLastInside P i × (v ≡ value i)
    -- and where they are ordered, that of the last of all.
    pub strong : AreOrderedIn P → (i : ℕ) → IsLastOfAll P i → v ≡ value i

  -- the value of the last of all fits
  pub fits_last : (P : ℕ → Bool) (i : ℕ) → IsLastOfAll P i → FitsPast P (value i)
  fits_last P i top = record {
    none = λ none. absurd (none i top.known);
    some = λ k is. (i, record { known = top.known; last = λ m there one. top.last m there }, refl);
    strong = λ ordered k other. let a = top.last k other.known in let b = other.last i top.known in let same : i ≡ k = omega arith in ap value same;
  }

  -- What a write overwrote with the same value, so that no change says so: what its node knew at it, which that value fits.
  pub record IsSilent (K : ℕ → Bool) (y : ℕ) : Type 0 where
    pub below : ℕ → Bool
    pub fits : FitsPast below (value y)
    pub some_of : (k : ℕ) → below k ≡ true → K k ≡ true
    pub earlier : (k : ℕ) → below k ≡ true → k < y
    pub complete : (k : ℕ) → K k ≡ true → Before k y → (One k y → ⊥) → below k ≡ true
    pub whole : (c k : ℕ) → below c ≡ true → K k ≡ true → One k c → below k ≡ true

  -- Writes K are known, of which X were before: X has all that comes before one of it, and whole intervals; and what is new is in a change,
  -- or silent.
  pub record AreLearned (X K : ℕ → Bool) (Changed : ℕ → Type 0) (Lower : ℕ → ℕ → Type 0) : Type 0 where
    pub bound : ℕ
    pub bounded : (k : ℕ) → K k ≡ true → k < bound
    pub kept : (k : ℕ) → X k ≡ true → K k ≡ true
    pub down : (i k : ℕ) → X k ≡ true → K i ≡ true → Before i k → X i ≡ true
    pub whole : (i k : ℕ) → X i ≡ true → K k ≡ true → One k i → X k ≡ true
    pub changed : (y : ℕ) → X y ≡ false → IsLastInside K y → Changed y ⊎ IsSilent K y
    pub heavier : (i k : ℕ) → K i ≡ true → K k ≡ true → Before i k → (One i k → ⊥) → Lower i k

  module _ (forward : (i k : ℕ) → Before i k → i < k) (turned : (i k : ℕ) → One i k → One k i)
      (X K : ℕ → Bool) (Changed : ℕ → Type 0) (Lower : ℕ → ℕ → Type 0) (learned : AreLearned X K Changed Lower) where
    -- the last that is below a silent write is the last in its interval
    inside_below : (y c : ℕ) (silent : IsSilent K y) → silent.below c ≡ true → ((k : ℕ) → k < y → silent.below k ≡ true → k ≤ c) → IsLastInside K c
    inside_below y c silent is top = record {
      known = silent.some_of c is;
      last = λ k there one. let b = silent.whole c k is there one in top k (silent.earlier k b) b;
    }

    -- and where all are ordered, has the silent write's value
    value_below : AreOrderedIn K → (y c : ℕ) (silent : IsSilent K y) → silent.below c ≡ true
        → ((k : ℕ) → k < y → silent.below k ≡ true → k ≤ c) → value y ≡ value c
    value_below ordered y c silent is top =
        silent.fits.strong (λ a b p q lt. ordered a b (silent.some_of a p) (silent.some_of b q) lt) c
        record { known = is; last = λ k b. top k (silent.earlier k b) b }

    -- ---- where a change is taken
    module _ (i : ℕ) (here : IsLastInside K i) (new : X i ≡ false) (highest : (k : ℕ) → Changed k → Lower i k → ⊥) where
      -- what comes after it is silent, so has its value
      chain : AreOrderedIn K → (n y : ℕ) → y < n → IsLastInside K y → (i ≡ y) ⊎ Before i y → value y ≡ value i
      chain ordered zero y lt last from = absurd (omega arith)
      chain ordered (suc n) y lt last (inl same) = ap value (sym same)
      chain ordered (suc n) y lt last (inr later) =
          let less = forward i y later in
          let apart : (One i y → ⊥) = λ one. let most = here.last y last.known (turned i y one) in omega arith in
          let new_too : X y ≡ false = elim (cases_Bool (X y)) [
            | inl old ↦ absurd (both_ways (X i) new (learned.down i y old here.known later))
            | inr is ↦ is
          ] in
          elim (learned.changed y new_too last) [
            | inl change ↦ absurd (highest y change (learned.heavier i y here.known last.known later apart))
            | inr silent ↦
                let in_below = silent.complete i here.known later apart in
                elim (last_of silent.below y) [
                  | inl none ↦ absurd (none i less in_below)
                  | inr (c, before, is, top) ↦
                      let most = top i less in_below in
                      let from : (i ≡ c) ⊎ Before i c = elim (cases_eq i c) [
                        | inl same ↦ inl same
                        | inr other ↦ inr (ordered i c here.known (silent.some_of c is) (omega arith))
                      ] in
                      value_below ordered y c silent is top ∙ chain ordered n c (omega arith) (inside_below y c silent is top) from
                ]
          ]

      pub taking_fits : FitsPast K (value i)
      taking_fits = record {
        none = λ none. absurd (none i here.known);
        some = λ k is. (i, here, refl);
        strong = λ ordered b top.
            let most = top.last i here.known in
            let from : (i ≡ b) ⊎ Before i b = elim (cases_eq i b) [
              | inl same ↦ inl same
              | inr other ↦ inr (ordered i b here.known top.known (omega arith))
            ] in
            sym (chain ordered (suc b) b (omega arith) record { known = top.known; last = λ k there one. top.last k there } from);
      }

    -- ---- where there is no change
    module _ (v : ℕ) (fits : FitsPast X v) (calm : (k : ℕ) → Changed k → ⊥) where
      -- what is new is silent
      silent_at : (y : ℕ) → X y ≡ false → IsLastInside K y → IsSilent K y
      silent_at y new last = elim (learned.changed y new last) [ inl change ↦ absurd (calm y change) | inr silent ↦ silent ]

      ordered_before : AreOrderedIn K → AreOrderedIn X
      ordered_before ordered a b p q lt = ordered a b (learned.kept a p) (learned.kept b q) lt

      -- where all are ordered, it has the value from before
      even : AreOrderedIn K → (n y : ℕ) → y < n → IsLastInside K y → X y ≡ false → value y ≡ v
      even ordered zero y lt last new = absurd (omega arith)
      even ordered (suc n) y lt last new =
          let silent = silent_at y new last in
          let old_below : ((x : ℕ) → X x ≡ true → silent.below x ≡ true) = λ x old.
          let there = learned.kept x old in
          elim (cases_lt x y) [
            | inl less ↦
                silent.complete x there (ordered x y there last.known less)
                (λ one. both_ways (X y) new (learned.whole x y old last.known (turned x y one)))
            | inr least ↦
                elim (cases_eq x y) [
                  | inl same ↦ absurd (both_ways (X y) new (subst (λ m. X m ≡ true) same old))
                  | inr other ↦ absurd (both_ways (X y) new (learned.down y x old last.known (ordered y x last.known there (omega arith))))
                ]
          ] in
          elim (last_of silent.below y) [
            | inl none ↦
                silent.fits.none (λ k b. none k (silent.earlier k b) b)
                ∙ sym (fits.none (λ k old. let b = old_below k old in none k (silent.earlier k b) b))
            | inr (c, before, is, top) ↦
                value_below ordered y c silent is top
                ∙ elim (cases_Bool (X c)) [
                  | inl old ↦
                      sym (fits.strong (ordered_before ordered) c
                      record { known = old; last = λ k x. let b = old_below k x in top k (silent.earlier k b) b })
                  | inr new_too ↦ even ordered n c (omega arith) (inside_below y c silent is top) new_too
                ]
          ]

      -- where nothing was known before, the first that is new wrote 0
      some_zero : ((k : ℕ) → X k ≡ true → ⊥) → (n y : ℕ) → y < n → IsLastInside K y → (i : ℕ) × IsLastInside K i × (value i ≡ 0)
      some_zero nothing zero y lt last = absurd (omega arith)
      some_zero nothing (suc n) y lt last =
          let new : X y ≡ false = elim (cases_Bool (X y)) [ inl old ↦ absurd (nothing y old) | inr is ↦ is ] in
          let silent = silent_at y new last in
          elim (last_of silent.below y) [
            | inl none ↦ (y, last, silent.fits.none (λ k b. none k (silent.earlier k b) b))
            | inr (c, before, is, top) ↦ some_zero nothing n c (omega arith) (inside_below y c silent is top)
          ]

      some_kept : (k : ℕ) → K k ≡ true → (i : ℕ) × IsLastInside K i × (v ≡ value i)
      some_kept k is =
          elim (last_of X learned.bound) [
            | inl none ↦
                let nothing : ((m : ℕ) → X m ≡ true → ⊥) = λ m old. none m (learned.bounded m (learned.kept m old)) old in
                elim (last_of K learned.bound) [
                  | inl nowhere ↦ absurd (nowhere k (learned.bounded k is) is)
                  | inr (y, less, there, top) ↦
                      let (i, last, nil) = some_zero nothing (suc y) y (omega arith)
                      record { known = there; last = λ m known one. top m (learned.bounded m known) known } in
                      (i, last, fits.none nothing ∙ sym nil)
                ]
            | inr (x, less, old, top) ↦
                let (i, last, same) = fits.some x old in (
                  i,
                  record { known = learned.kept i last.known; last = λ m there one. last.last m (learned.whole i m last.known there one) one },
                  same,
                )
          ]

      pub keeping_fits : FitsPast K v
      keeping_fits = record {
        none = λ none. fits.none (λ k old. none k (learned.kept k old));
        some = some_kept;
        strong = λ ordered b top.
            elim (cases_Bool (X b)) [
              | inl old ↦ fits.strong (ordered_before ordered) b record { known = old; last = λ k x. top.last k (learned.kept k x) }
              | inr new ↦ sym (even ordered (suc b) b (omega arith) record { known = top.known; last = λ k there one. top.last k there } new)
            ];
      }
