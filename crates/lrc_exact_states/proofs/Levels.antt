-- The last change of a word, and numbers that are the same up to a cap.
use Rattle.std.proofs.Common.{◌≡◌, ℕ, zero, suc, ◌+◌, ◌<◌, ◌≤◌, List, inl, inr, refl, sym, subst, ap, ◌∙◌, arith}
use Rattle.std.specs.Prelude.{◌-◌, ◌⊎◌, Option, Some, None, max, if◌then◌else◌, nat_le}
use Rattle.std.proofs.lemmas.Bool.{cases_lt, cond-true, cond-false, le-leb, lt-leb}
use Rattle.std.proofs.lemmas.Option.{same_Some}
use Rattle.lrc_time.specs.Time.{weight_of}
use Rattle.lrc_exact.specs.Memory.{Interval}
use Rattle.lrc_exact_states.specs.Levels.{AreLevels, AreRising, Change, IsCapped, exact, much, IsWeightAlike, last_change, newest, Levels, Table}

-- ---- the last change

module _ (f : ℕ → Interval) (word first : ℕ) where
  pub last-none : (last : ℕ) → last ≤ first → last_change f word first last ≡ None
  last-none zero le = refl
  last-none (suc last) le =
      cond-false (nat_le first last) (newest ((f (suc last)).changed word) (f (suc last)).weight (last_change f word first last)) None
      (lt-leb first last (omega (arith, le)))

  pub last-one : (i : ℕ) → first ≤ i
      → last_change f word first (suc i) ≡ newest ((f (suc i)).changed word) (f (suc i)).weight (last_change f word first i)
  last-one i le =
      cond-true (nat_le first i) (newest ((f (suc i)).changed word) (f (suc i)).weight (last_change f word first i)) None (le-leb first i le)

  -- the same of intervals that agree up to the last
  pub last-agree : (g : ℕ → Interval) (last : ℕ) → ((i : ℕ) → i < last → f (suc i) ≡ g (suc i)) → last_change f word first last ≡ last_change g word first last
  last-agree g zero same = refl
  last-agree g (suc last) same =
      ap (λ (k : Interval). if nat_le first last then newest (k.changed word) k.weight (last_change f word first last) else None) (same last (omega arith))
      ∙ ap (λ (o : Option Change). if nat_le first last then newest ((g (suc last)).changed word) (g (suc last)).weight o else None)
      (last-agree g last (λ i lt. same i (omega (arith, lt))))

  -- it is by one of the intervals
  pub record IsBy (last : ℕ) (change : Change) : Type 0 where
    pub index : ℕ
    pub new : first < index
    pub known : index ≤ last
    pub weighs : change.weight ≡ (f index).weight

  later : (last : ℕ) (change : Change) → IsBy last change → IsBy (suc last) change
  later last change b = let k = b.known in record { index = b.index; new = b.new; known = omega (arith, k); weighs = b.weighs }

  pub last-is : (last : ℕ) (change : Change) → last_change f word first last ≡ Some change → IsBy last change
  last-is zero change is = let never : ⊥ = cc in absurd never
  last-is (suc last) change is = elim (cases_lt last first) [
    | inl lt ↦
        let never : ◌≡◌ {A = Option Change} None (Some change) = sym (last-none (suc last) (omega (arith, lt))) ∙ is in
        let impossible : ⊥ = cc in
        absurd impossible
    | inr le ↦ go le ((f (suc last)).changed word) (sym (last-one last le) ∙ is) (λ e. last-is last change e)
  ]
    where
      go : first ≤ last → (o : Option ℕ) → newest o (f (suc last)).weight (last_change f word first last) ≡ Some change
          → (last_change f word first last ≡ Some change → IsBy last change) → IsBy (suc last) change
      go le None e before = later last change (before e)
      go le (Some v) e before =
          let same = same_Some (record { weight = (f (suc last)).weight; value = v }) change e in
          record {
            index = suc last;
            new = omega (arith, le);
            known = omega arith;
            weighs = sym (ap (λ (c : Change). c.weight) same);
          }

pub rising-agree : (f g : ℕ → Interval) (last : ℕ) → ((i : ℕ) → 1 ≤ i → i ≤ last → f i ≡ g i) → AreRising f last → AreRising g last
rising-agree f g last same rising i j some lt le =
    let r = rising i j some lt le in
    let a = ap (λ (k : Interval). k.weight) (same i some (omega (arith, lt, le))) in
    let b = ap (λ (k : Interval). k.weight) (same j (omega (arith, some, lt)) le) in
    omega (arith, r, a, b)

-- ---- numbers that are the same up to a cap

pub capped-refl : (cap a : ℕ) → IsCapped cap a a
capped-refl cap a = exact refl

pub capped-sym : {cap a b : ℕ} → IsCapped cap a b → IsCapped cap b a
capped-sym (exact e) = exact (sym e)
capped-sym (much x y) = much y x

pub capped-then : {cap a b c : ℕ} → IsCapped cap a b → IsCapped cap b c → IsCapped cap a c
capped-then (exact e) (exact d) = exact (d ∙ e)
capped-then (exact e) (much x y) = much (omega (arith, e, x)) y
capped-then (much x y) (exact d) = much x (omega (arith, d, y))
capped-then (much x y) (much x' y') = much x y'

pub capped-sum : {cap a b c d : ℕ} → IsCapped cap a b → IsCapped cap c d → IsCapped cap (a + c) (b + d)
capped-sum (exact e) (exact d) = exact (omega (arith, e, d))
capped-sum (exact e) (much x y) = much (omega (arith, x)) (omega (arith, y))
capped-sum (much x y) d = much (omega (arith, x)) (omega (arith, y))

pub capped-is : {cap a b : ℕ} (c d : ℕ) → a ≡ c → b ≡ d → IsCapped cap a b → IsCapped cap c d
capped-is c d one two (exact e) = exact (omega (arith, one, two, e))
capped-is c d one two (much x y) = much (omega (arith, one, x)) (omega (arith, two, y))

-- two weights are told apart alike
pub record AreToldApart (w v w' v' : ℕ) : Type 0 where
  pub less : w < v → w' < v'
  pub less' : w' < v' → w < v
  pub same : w ≡ v → w' ≡ v'
  pub same' : w' ≡ v' → w ≡ v

-- so they are where one of them is below the cap
module _ {cap : ℕ} {floor floor' : List ℕ} where
  pub told_apart : (w v w' v' : ℕ) → IsWeightAlike cap floor floor' w w' → IsWeightAlike cap floor floor' v v'
      → (w' < weight_of floor' + cap) ⊎ (v' < weight_of floor' + cap) → AreToldApart w v w' v'
  told_apart w v w' v' a b d = go a.capped b.capped d
    where
      lower : w' - weight_of floor' ≡ w - weight_of floor → cap ≤ v - weight_of floor → cap ≤ v' - weight_of floor' → w' < weight_of floor' + cap → AreToldApart w v w' v'
      lower e p q lt =
          let x = a.above in
          let x' = a.above' in
          record {
            less = λ l. omega (arith, e, p, q, lt, x, x');
            less' = λ l. omega (arith, e, p, q, lt, x, x');
            same = λ l. omega (arith, e, p, q, lt, x, x', l);
            same' = λ l. omega (arith, e, p, q, lt, x, x', l);
          }

      higher : v' - weight_of floor' ≡ v - weight_of floor → cap ≤ w - weight_of floor → cap ≤ w' - weight_of floor' → v' < weight_of floor' + cap → AreToldApart w v w' v'
      higher e p q lt =
          let y = b.above in
          let y' = b.above' in
          record {
            less = λ l. omega (arith, e, p, q, lt, y, y', l);
            less' = λ l. omega (arith, e, p, q, lt, y, y', l);
            same = λ l. omega (arith, e, p, q, lt, y, y', l);
            same' = λ l. omega (arith, e, p, q, lt, y, y', l);
          }

      go : IsCapped cap (w - weight_of floor) (w' - weight_of floor') → IsCapped cap (v - weight_of floor) (v' - weight_of floor') → (w' < weight_of floor' + cap) ⊎ (v' < weight_of floor' + cap)
          → AreToldApart w v w' v'
      go (exact e) (exact d) less =
          let x = a.above in
          let x' = a.above' in
          let y = b.above in
          let y' = b.above' in
          record {
            less = λ lt. omega (arith, lt, e, d, x, x', y, y');
            less' = λ lt. omega (arith, lt, e, d, x, x', y, y');
            same = λ eq. omega (arith, eq, e, d, x, x', y, y');
            same' = λ eq. omega (arith, eq, e, d, x, x', y, y');
          }
      go (exact e) (much p q) (inl lt) = lower e p q lt
      go (exact e) (much p q) (inr lt) = absurd (omega (arith, q, lt))
      go (much p q) (exact e) (inl lt) = absurd (omega (arith, q, lt))
      go (much p q) (exact e) (inr lt) = higher e p q lt
      go (much p q) (much r t) (inl lt) = absurd (omega (arith, q, lt))
      go (much p q) (much r t) (inr lt) = absurd (omega (arith, t, lt))

  pub weight-sym : {w w' : ℕ} → IsWeightAlike cap floor floor' w w' → IsWeightAlike cap floor' floor w' w
  weight-sym a = record { above = a.above'; above' = a.above; capped = capped-sym a.capped }

-- ---- levels

module _ {cap : ℕ} {floor floor' : List ℕ} {made made' : Table} {level : Levels} (levels : AreLevels cap floor floor' made made' level) where
  level_is : (q a a' b b' : ℕ) → level q a a' → a ≡ b → a' ≡ b' → level q b b'
  level_is q a a' b b' at one two = subst (λ x. level q x b') one (subst (λ x. level q a x) two at)

  -- of two levels the higher
  pub level_max : (q a a' b b' : ℕ) → level q a a' → level q b b' → level q (max a b) (max a' b')
  level_max q a a' b b' x y = elim (cases_lt b a) [
    | inl lt ↦
        let le = levels.order q b b' a a' y x (omega (arith, lt)) in
        level_is q a a' (max a b) (max a' b') x (omega (arith, lt)) (omega (arith, le))
    | inr le ↦
        let le' = levels.order q a a' b b' x y le in
        level_is q b b' (max a b) (max a' b') y (omega (arith, le)) (omega (arith, le'))
  ]
