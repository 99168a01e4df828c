-- Which of so many nodes are missing, and the lowest of them.
use Rattle.std.proofs.Common.{◌≡◌, ◌∙◌, ◌≤◌, ◌<◌, ◌+◌, ℕ, zero, suc, inl, inr, Bool, true, false, refl, sym, ap, arith}
use Rattle.std.proofs.Common.{Contains, List, ◌++◌, Some, map}
use Rattle.std.specs.List.{enumerate_from, flat_map, range_with_len}
use Rattle.std.proofs.lemmas.Bool.{cases_eq}
use Rattle.std.proofs.lemmas.List.Elements.{Contains-append_cases, Contains-append_left, Contains-append_right}
use Rattle.std.proofs.lemmas.Option.{same_Some}
use Rattle.lrc_explain_waits.specs.declared.missing.Missing.{Missing}
use Rattle.lrc_explain_waits.specs.declared.stand.Fate.{Fate}
use Rattle.lrc_explain_waits.specs.declared.stand.Stand.{Stand}
use Rattle.lrc_explain_waits.specs.Missing.{first_of, missing_if}

-- what stands for each of so many items that are made from their positions
pub each_range : {X Y : Type 0} (of : ℕ → X → List Y) (f : ℕ → X) (a n : ℕ)
    → flat_map (λ (at : ℕ × X). of at.0 at.1) (enumerate_from a (map f (range_with_len a n)))
    ≡ flat_map (λ k. of k (f k)) (range_with_len a n)
each_range of f a zero = refl
each_range of f a (suc n) = ap (λ l. of a (f a) ++ l) (each_range of f (a + 1) n)

-- ---- those that are missing, of nodes of which some are

pub record Among (test : ℕ → Bool) (f : ℕ → Stand) (a n : ℕ) (m : Missing) : Type 0 where
  pub low : a ≤ m.node
  pub high : m.node < a + n
  pub passes : test m.node ≡ true
  pub fate : m.fate ≡ (f m.node).fate

record Only (t : Bool) (k : ℕ) (stand : Stand) (m : Missing) : Type 0 where
  yes' : t ≡ true
  node : k ≡ m.node
  fate : m.fate ≡ stand.fate

only : (t : Bool) (k : ℕ) (stand : Stand) (m : Missing) → Contains (missing_if t k stand) m → Only t k stand m
only true k stand m (zero, lt, is) = record {
  yes' = refl;
  node = ap (λ (x : Missing). x.node) is;
  fate = sym (ap (λ (x : Missing). x.fate) is);
}
only true k stand m (suc i, lt, is) = absurd (omega (arith, lt))
only false k stand m (i, lt, is) = absurd (omega (arith, lt))

missing_same : {node node' : ℕ} {fate fate' : Fate} → node ≡ node' → fate ≡ fate'
    → ◌≡◌ {A = Missing} (record { node = node; fate = fate }) (record { node = node'; fate = fate' })
missing_same a b = cc

made : (t : Bool) (k : ℕ) (stand : Stand) (m : Missing) → Only t k stand m → Contains (missing_if t k stand) m
made true k stand m o = (0, omega arith, missing_same o.node (sym o.fate))
made false k stand m o = let e = o.yes' in let never : ⊥ = cc in absurd never

module _ (test : ℕ → Bool) (f : ℕ → Stand) where
  abbrev pub those : ℕ → ℕ → List Missing
  those a n = flat_map (λ k. missing_if (test k) k (f k)) (range_with_len a n)

  pub among : (a n : ℕ) (m : Missing) → Contains (those a n) m → Among test f a n m
  among a zero m (i, lt, is) = absurd (omega (arith, lt))
  among a (suc n) m inside =
      elim (Contains-append_cases (missing_if (test a) a (f a)) (those (a + 1) n) m inside) [
        | inl here ↦
            let o = only (test a) a (f a) m here in
            let at = o.node in
            record {
              low = omega arith;
              high = omega arith;
              passes = ap test (sym at) ∙ o.yes';
              fate = o.fate ∙ ap (λ k. (f k).fate) at;
            }
        | inr later ↦
            let rest = among (a + 1) n m later in
            let low = rest.low in
            let high = rest.high in
            record { low = omega arith; high = omega arith; passes = rest.passes; fate = rest.fate }
      ]

  pub within : (a n : ℕ) (m : Missing) → Among test f a n m → Contains (those a n) m
  within a zero m at = let low = at.low in let high = at.high in absurd (omega arith)
  within a (suc n) m at =
      let low = at.low in
      let high = at.high in
      elim (cases_eq a m.node) [
        | inl same ↦
            let here : Only (test a) a (f a) m = record {
              yes' = ap test same ∙ at.passes;
              node = same;
              fate = at.fate ∙ ap (λ k. (f k).fate) (sym same);
            } in
            Contains-append_left (missing_if (test a) a (f a)) (those (a + 1) n) m (made (test a) a (f a) m here)
        | inr other ↦
            Contains-append_right (missing_if (test a) a (f a)) (those (a + 1) n) m
            (within (a + 1) n m (record { low = omega (arith, other); high = omega arith; passes = at.passes; fate = at.fate }))
      ]

  -- the lowest of them
  pub record First (a n q : ℕ) : Type 0 where
    pub low : a ≤ q
    pub high : q < a + n
    pub passes : test q ≡ true
    pub before : (k : ℕ) → a ≤ k → k < q → test k ≡ false

  first_by : (a n q : ℕ) (t : Bool) → test a ≡ t → (first_of (those (a + 1) n) ≡ Some q → First (a + 1) n q)
      → first_of (missing_if t a (f a) ++ those (a + 1) n) ≡ Some q → First a (suc n) q
  first_by a n q true is more found =
      let same : a ≡ q = same_Some a q found in
      record { low = omega arith; high = omega arith; passes = ap test (sym same) ∙ is; before = λ k le lt. absurd (omega arith) }
  first_by a n q false is more found =
      let rest = more found in
      let low = rest.low in
      let high = rest.high in
      record {
        low = omega arith;
        high = omega arith;
        passes = rest.passes;
        before = λ k le lt. elim (cases_eq k a) [ inl same ↦ ap test same ∙ is | inr other ↦ rest.before k (omega (arith, other)) lt ];
      }

  pub first_is : (a n q : ℕ) → first_of (those a n) ≡ Some q → First a n q
  first_is a zero q found = let never : ⊥ = cc in absurd never
  first_is a (suc n) q found = first_by a n q (test a) refl (first_is (a + 1) n q) found

  pub is_first : (a n q : ℕ) → First a n q → first_of (those a n) ≡ Some q
  is_first a zero q at = let low = at.low in let high = at.high in absurd (omega arith)
  is_first a (suc n) q at =
      let low = at.low in
      let high = at.high in
      elim (cases_eq a q) [
        | inl same ↦
            ap (λ t. first_of (missing_if t a (f a) ++ those (a + 1) n)) (ap test same ∙ at.passes) ∙ ap Some same
        | inr other ↦
            ap (λ t. first_of (missing_if t a (f a) ++ those (a + 1) n)) (at.before a (omega arith) (omega (arith, other)))
            ∙ is_first (a + 1) n q (record {
              low = omega (arith, other);
              high = omega arith;
              passes = at.passes;
              before = λ k le lt. at.before k (omega arith) lt;
            })
      ]
