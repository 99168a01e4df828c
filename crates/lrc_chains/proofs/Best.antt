-- The best start of a path: from no positions, from one set or another, from the same set said otherwise, and from one.
use Rattle.std.proofs.Common.{◌≡◌, ℕ, ◌+◌, ◌<◌, ◌≤◌, ◌⊎◌, List, [], ◌∷◌, length, inl, inr, refl, sym, subst, ap, arith}
use Rattle.std.specs.Prelude.{Option, Some, None}
use Rattle.std.proofs.lemmas.Bool.{cases_eq, cases_lt}
use Rattle.std.proofs.lemmas.Option.{same_Some}
use Rattle.lrc_chains.specs.declared.starts.Start.{Start}
use Rattle.lrc_chains.specs.Chains.{IsLess}
use Rattle.lrc_chains.specs.Starts.{IsPath, there, onward, IsToldPath, IsBest, better, from_here}
use Rattle.lrc_chains.proofs.Paths.{path-bound, path-some, less-head, opened}

-- a is as good as the size and the position
abbrev AsGood : Start → ℕ → ℕ → Type 0
AsGood a size position = (a.size < size) ⊎ ((a.size ≡ size) × (a.position ≤ position))

through : (a b : Start) (size position : ℕ) → AsGood a b.size b.position → AsGood b size position → AsGood a size position
through a b size position (inl lt) (inl lt') = inl (omega arith)
through a b size position (inl lt) (inr (e, le)) = inl (omega arith)
through a b size position (inr (e, le)) (inl lt) = inl (omega arith)
through a b size position (inr (e, le)) (inr (e', le')) = inr (omega arith, omega arith)

-- of two the one is told, and is as good as both
chosen : (a b : Start) → ((better (Some a) (Some b) ≡ Some a) × AsGood a b.size b.position)
    ⊎ ((better (Some a) (Some b) ≡ Some b) × AsGood b a.size a.position)
chosen a b =
    elim (cases_lt b.size a.size) [
      | inl lt ↦ inr (grind arith, inl lt)
      | inr le ↦
          elim (cases_eq b.size a.size) [
            | inr other ↦ inl (grind arith, inl (omega arith))
            | inl same ↦
                elim (cases_lt b.position a.position) [
                  | inl lt ↦ inr (grind arith, inr (same, omega arith))
                  | inr later ↦ inl (grind arith, inr (sym same, later))
                ]
          ]
    ]

module _ (Precedes : ℕ → ℕ → Type 0) (forward : (i j : ℕ) → Precedes i j → i < j) (to : ℕ) where
  pub Best-none : (these : ℕ → Type 0) → ((k : ℕ) (path : List ℕ) → these k → IsPath Precedes to k path → ⊥) → IsBest Precedes to these None
  Best-none these none = record {
    sound = λ start e. let never : ⊥ = cc in absurd never;
    complete = λ k path t p. absurd (none k path t p);
  }

  -- the same positions, said otherwise
  pub Best-same : (these those : ℕ → Type 0) (best : Option Start) → ((k : ℕ) → these k → those k) → ((k : ℕ) → those k → these k)
      → IsBest Precedes to these best → IsBest Precedes to those best
  Best-same these those best onto from g = record {
    sound = λ start e. let (t, rest) = g.sound start e in (onto start.position t, rest);
    complete = λ k path t p. g.complete k path (from k t) p;
  }

  -- the ones or the others
  pub Best-joined : (these those : ℕ → Type 0) (x y : Option Start) → IsBest Precedes to these x → IsBest Precedes to those y
      → IsBest Precedes to (λ k. these k ⊎ those k) (better x y)
  Best-joined these those None y g h = record {
    sound = λ start e. let (t, rest) = h.sound start e in (inr t, rest);
    complete = λ k path t p.
        elim t [
          | inl a ↦ let s = g.complete k path a p in let never : ⊥ = let e = s.is in cc in absurd never
          | inr b ↦ h.complete k path b p
        ];
  }
  Best-joined these those (Some a) None g h = record {
    sound = λ start e. let (t, rest) = g.sound start e in (inl t, rest);
    complete = λ k path t p.
        elim t [
          | inl a ↦ g.complete k path a p
          | inr b ↦ let s = h.complete k path b p in let never : ⊥ = let e = s.is in cc in absurd never
        ];
  }
  Best-joined these those (Some a) (Some b) g h =
      elim (chosen a b) [
        | inl (e, good) ↦ rw e (record {
          sound = λ start is. let (t, rest) = g.sound start is in (inl t, rest);
          complete = λ k path t p.
              elim t [
                | inl at ↦ g.complete k path at p
                | inr bt ↦
                    let s = h.complete k path bt p in
                    let same : b ≡ s.some = same_Some b s.some s.is in
                    record { some = a; is = refl; better = through a b (length path) k good (rw same s.better) }
              ];
        })
        | inr (e, good) ↦ rw e (record {
          sound = λ start is. let (t, rest) = h.sound start is in (inr t, rest);
          complete = λ k path t p.
              elim t [
                | inl at ↦
                    let s = g.complete k path at p in
                    let same : a ≡ s.some = same_Some a s.some s.is in
                    record { some = b; is = refl; better = through b a (length path) k good (rw same s.better) }
                | inr bt ↦ h.complete k path bt p
              ];
        })
      ]

  -- the last position itself
  only : (other : List ℕ) → IsPath Precedes to to other → IsLess other (to ∷ []) → ⊥
  only other q less =
      elim (opened q) [
        | inl (e, is) ↦
            let same : IsLess (to ∷ []) (to ∷ []) = subst (λ (x : List ℕ). IsLess x (to ∷ [])) is less in
            elim same [ inl lt ↦ omega arith | inr (e', l) ↦ l ]
        | inr g ↦
            let lt = forward to g.next g.precedes in
            let b = path-bound forward g.on in
            let some = path-some g.on in
            omega arith
      ]

  pub Told-last : IsToldPath Precedes to to (to ∷ [])
  Told-last = record {
    is_path = there;
    shortest = λ other p. let some = path-some p in omega arith;
    least = λ other p long less. only other p less;
  }

  pub Best-last : IsBest Precedes to (λ k. k ≡ to) (Some (record { size = 1; position = to }))
  Best-last = record {
    sound = λ start e.
        let same : record { size = 1; position = to } ≡ start = same_Some _ start e in
        rw (← same) (refl, (to ∷ [], Told-last, refl));
    complete = λ k path e p.
        let some = path-some p in
        elim (cases_eq (length path) 1) [
          | inl one ↦ record { some = record { size = 1; position = to }; is = refl; better = inr (sym one, omega arith) }
          | inr more ↦ record { some = record { size = 1; position = to }; is = refl; better = inl (omega arith) }
        ];
  }

  -- a position before the last, by what comes right behind it
  module _ (k : ℕ) (earlier : k < to) where
    pub none-here : (path : List ℕ) → IsBest Precedes to (λ m. Precedes k m) None → IsPath Precedes to k path → ⊥
    none-here path g q =
        elim (opened q) [
          | inl (e, is) ↦ omega arith
          | inr o ↦ let s = g.complete o.next o.rest o.precedes o.on in let e = s.is in cc
        ]

    as_short : (s : Start) (other : List ℕ) → IsBest Precedes to (λ m. Precedes k m) (Some s) → IsPath Precedes to k other → s.size + 1 ≤ length other
    as_short s other g q =
        elim (opened q) [
          | inl (e, is) ↦ absurd (omega arith)
          | inr o ↦
              let found = g.complete o.next o.rest o.precedes o.on in
              let same : s ≡ found.some = same_Some s found.some found.is in
              let good : AsGood s (length o.rest) o.next = rw same found.better in
              let long : length other ≡ length (k ∷ o.rest) = ap length o.is in
              elim good [ inl lt ↦ omega arith | inr (e, le) ↦ omega arith ]
        ]

    none-less : (s : Start) (path other : List ℕ) → IsBest Precedes to (λ m. Precedes k m) (Some s) → IsToldPath Precedes to s.position path
        → length path ≡ s.size → IsPath Precedes to k other → length other ≡ length path + 1 → IsLess other (k ∷ path) → ⊥
    none-less s path other g t long q e less =
        elim (opened q) [
          | inl (at, is) ↦ omega arith
          | inr o ↦
              let longer : length other ≡ length (k ∷ o.rest) = ap length o.is in
              let split : IsLess (k ∷ o.rest) (k ∷ path) = subst (λ (x : List ℕ). IsLess x (k ∷ path)) o.is less in
              elim split [
                | inl lt ↦ omega arith
                | inr (e', rest_less) ↦ rest_more s path g t long o.next o.rest o.precedes o.on (omega arith) rest_less
              ]
        ]
      where
        rest_more : (s : Start) (path : List ℕ) → IsBest Precedes to (λ m. Precedes k m) (Some s) → IsToldPath Precedes to s.position path
            → length path ≡ s.size → (m : ℕ) (other : List ℕ) → Precedes k m → IsPath Precedes to m other → length other ≡ length path
            → IsLess other path → ⊥
        rest_more s path g t long m other p rest e less =
            let found = g.complete m other p rest in
            let same : s ≡ found.some = same_Some s found.some found.is in
            let good : AsGood s (length other) m = rw same found.better in
            let head = less-head rest t.is_path less in
            elim good [
              | inl lt ↦ omega arith
              | inr (e'', le) ↦
                  let at : m ≡ s.position = omega arith in
                  t.least other (subst (λ (n : ℕ). IsPath Precedes to n other) at rest) e less
            ]

    -- what is told of the best start is told from here, one position longer
    pub Told-here : (s : Start) (path : List ℕ) → IsBest Precedes to (λ m. Precedes k m) (Some s) → IsToldPath Precedes to s.position path
        → IsToldPath Precedes to k (k ∷ path)
    Told-here s path g t =
        let (p, (told, is_told, long)) = g.sound s refl in
        let short = t.shortest told is_told.is_path in
        let as_long = is_told.shortest path t.is_path in
        let same : length path ≡ s.size = omega arith in
        record {
          is_path = onward p t.is_path;
          shortest = λ other q. let least = as_short s other g q in omega arith;
          least = λ other q e less. none-less s path other g t same q (omega arith) less;
        }

    pub Best-here : (best : Option Start) → IsBest Precedes to (λ m. Precedes k m) best → IsBest Precedes to (λ m. m ≡ k) (from_here best k)
    Best-here None g = Best-none (λ m. m ≡ k) (λ m path e p. none-here path g (subst (λ (n : ℕ). IsPath Precedes to n path) e p))
    Best-here (Some s) g =
        let here : Start = record { size = s.size + 1; position = k } in
        let (p, (path, t, long)) = g.sound s refl in
        record {
          sound = λ start e.
              let same : here ≡ start = same_Some here start e in
              rw (← same) (refl, (k ∷ path, Told-here s path g t, omega arith));
          complete = λ m other e q.
              let short = as_short s other g (subst (λ (n : ℕ). IsPath Precedes to n other) e q) in
              elim (cases_lt (s.size + 1) (length other)) [
                | inl lt ↦ record { some = here; is = refl; better = inl lt }
                | inr le ↦ record { some = here; is = refl; better = inr (omega arith, omega arith) }
              ];
        }

  -- how long a path is at most
  pub Best-bound : (these : ℕ → Type 0) (s : Start) → IsBest Precedes to these (Some s) → s.size + s.position ≤ to + 1
  Best-bound these s g = let (t, (path, told, long)) = g.sound s refl in let b = path-bound forward told.is_path in omega arith
