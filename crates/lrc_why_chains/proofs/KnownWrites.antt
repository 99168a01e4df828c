-- The known writes as a list: their places, the first two that race, and those that none follows.
use Rattle.std.proofs.Common.{suc, zero, ◌≡◌, ℕ, ◌+◌, ◌-◌, ◌<◌, ◌≤◌, List, [], ◌∷◌, length, get_or, inl, inr, refl, sym, subst, ◌∙◌, arith}
use Rattle.std.specs.Prelude.{IsTrue, false, Option, Some, None, MatchOption, Contains, slice_get}
use Rattle.std.specs.List.{insert}
use Rattle.std.proofs.lemmas.Bool.{cases_eq, cases_lt, false≢true}
use Rattle.std.proofs.lemmas.List.{get_or_default}
use Rattle.std.proofs.lemmas.List.Elements.{Contains-get_or}
use Rattle.std.proofs.lemmas.List.Kept.{AllPairs-from_increasing}
use Rattle.std.proofs.lemmas.Option.{slice_get-get_or}
use Rattle.lrc_trace.specs.declared.act.Act.{Act}
use Rattle.lrc_trace.specs.Order.{HappensBefore, Reaches, base, program}
use Rattle.lrc_trace.proofs.Positions.{Does-within, Does-node}
use Rattle.lrc_trace.proofs.HappensBefore.{forward, transitive}
use Rattle.lrc_judge.specs.declared.order.Order.{Order}
use Rattle.lrc_judge.specs.Order.{is_before, IsOrderOf}
use Rattle.lrc_why_chains.specs.declared.writes.Crossing.{Crossing}
use Rattle.lrc_why_chains.specs.Crossing.{IsFirstBeside}
use Rattle.lrc_why_chains.specs.Writes.{AreExactly, IsKnownWrite, IsLastKnownWrite, IsCrossing, IsFirstCrossing, IsUnfollowed}
use Rattle.lrc_why_chains.proofs.Exactly.{exactly_front, insert_front, front_here, front_there}

pub known_within : (run : List Act) (position word i : ℕ) → IsKnownWrite run position word i → i < length run
known_within run position word i (v, w) = let (p, does) = w.write in Does-within does

-- two known writes that are not in order race
pub beside_crosses : (run : List Act) (position word i j : ℕ) → IsKnownWrite run position word i → IsKnownWrite run position word j → i < j
    → (HappensBefore run i j → ⊥) → IsCrossing run position word i j
beside_crosses run position word i j (u, wi) (v, wj) lt unordered =
    let (p, does_i) = wi.write in
    let (q, does_j) = wj.write in
    record {
      earlier = (u, wi);
      later = (v, wj);
      races = record {
        earlier = lt;
        conflict = (
          p,
          q,
          word,
          record {
            apart = λ same. unordered (base (program lt (Does-node same does_i) does_j));
            first = inr (u, does_i);
            second = inr (v, does_j);
            writes = inl (u, does_i);
          },
        );
        unordered = unordered;
      };
    }

module _ (run : List Act) (position word : ℕ) (writes : List ℕ) (known : AreExactly (IsKnownWrite run position word) writes) where
  at : ℕ → ℕ
  at k = get_or writes k 0

  known_at : (k : ℕ) → k < length writes → IsKnownWrite run position word (get_or writes k 0)
  known_at k lt = (known.exact (get_or writes k 0)).0 (Contains-get_or writes k 0 lt)

  place_of : (i : ℕ) → IsKnownWrite run position word i → (k : ℕ) × (k < length writes) × (get_or writes k 0 ≡ i)
  place_of i h = let (k, lt, is) = (known.exact i).1 h in (k, lt, get_or_default writes k 0 i lt ∙ is)

  rises : (a b : ℕ) → a < b → b < length writes → get_or writes a 0 < get_or writes b 0
  rises a b lt within = AllPairs-from_increasing writes known.ascending a b 0 lt within

  never_falls : (a b : ℕ) → a ≤ b → b < length writes → get_or writes a 0 ≤ get_or writes b 0
  never_falls a b le within =
      elim (cases_lt a b) [
        | inl lt ↦ let less = rises a b lt within in omega arith
        | inr ge ↦ let same : a ≡ b = omega arith in rw same (omega arith)
      ]

  -- ---- the last

  pub last_of : (o : Option ℕ) → o ≡ slice_get writes (length writes - 1)
      → MatchOption o ((i : ℕ) → IsKnownWrite run position word i → ⊥) (IsLastKnownWrite run position word)
  last_of None is = λ i h.
      let (k, lt, at_k) = place_of i h in
      let some = slice_get-get_or writes (length writes - 1) 0 (omega (arith, lt)) in
      let never : ⊥ = cc in never
  last_of (Some x) is =
      elim (cases_lt 0 (length writes)) [
        | inl lt ↦
            let within : length writes - 1 < length writes = omega (arith, lt) in
            let some = slice_get-get_or writes (length writes - 1) 0 within in
            let here : x ≡ get_or writes (length writes - 1) 0 = cc in
            rw here (record {
              known = known_at (length writes - 1) within;
              last = λ k h. let (n, less, at_n) = place_of k h in
                  rw (← at_n) (never_falls n (length writes - 1) (omega (arith, less)) within);
            })
        | inr none ↦
            let empty : slice_get writes (length writes - 1) ≡ None = past writes (omega (arith, none)) in
            let never : ⊥ = cc in absurd never
      ]
    where
      past : (xs : List ℕ) → length xs ≡ 0 → slice_get xs (length xs - 1) ≡ None
      past [] e = refl
      past (y ∷ ys) e = absurd (omega (arith, e))

  -- ---- the first two that race

  module _ (order : Order) (are : IsOrderOf run order) where
    in_order : (n : ℕ) → ((m : ℕ) → m + 1 < n → IsTrue (is_before order (get_or writes m 0) (get_or writes (m + 1) 0)))
        → (i j : ℕ) → i < j → j < n → HappensBefore run (get_or writes i 0) (get_or writes j 0)
    in_order n steps i zero lt within = absurd (omega (arith, lt))
    in_order n steps i (suc j) lt within =
        let next : j + 1 ≡ suc j = omega arith in
        let step : HappensBefore run (get_or writes j 0) (get_or writes (suc j) 0) =
        subst (λ m. HappensBefore run (get_or writes j 0) (get_or writes m 0)) next
        ((are (get_or writes j 0) (get_or writes (j + 1) 0)).0 (steps j (omega (arith, within)))) in
        elim (cases_eq i j) [
          | inl same ↦ subst (λ m. HappensBefore run (get_or writes m 0) (get_or writes (suc j) 0)) (sym same) step
          | inr other ↦ transitive (in_order n steps i j (omega (arith, lt)) (omega (arith, within))) step
        ]

    -- no two of the first n race
    none_before : (n : ℕ) → n ≤ length writes
        → ((m : ℕ) → m + 1 < n → IsTrue (is_before order (get_or writes m 0) (get_or writes (m + 1) 0)))
        → (i j b : ℕ) → IsCrossing run position word i j → b < n → get_or writes b 0 ≡ j → ⊥
    none_before n long steps i j b c within at_b =
        let (a, less, at_a) = place_of i c.earlier in
        let lt = c.races.earlier in
        elim (cases_lt a b) [
          | inl below ↦ c.races.unordered (rw (← at_a, ← at_b) (in_order n steps a b below within))
          | inr above ↦ let falls = never_falls b a above less in omega (arith, lt, falls, at_a, at_b)
        ]

    pub no_crossing : (n : ℕ) → length writes ≤ n
        → ((m : ℕ) → m + 1 < n → IsTrue (is_before order (get_or writes m 0) (get_or writes (m + 1) 0)))
        → (i j : ℕ) → IsCrossing run position word i j → ⊥
    no_crossing n long steps i j c =
        let (b, less, at_b) = place_of j c.later in
        none_before (length writes) (omega arith) (λ m lt. steps m (omega arith)) i j b c less at_b

    pub first_crosses : (place : ℕ) (two : Crossing) → place < length writes
        → ((m : ℕ) → m + 1 < place → IsTrue (is_before order (get_or writes m 0) (get_or writes (m + 1) 0)))
        → IsFirstBeside order writes place two → IsFirstCrossing run position word two.earlier two.later
    first_crosses place two within steps first =
        let a = first.at in
        let less = first.before in
        let earlier : two.earlier ≡ get_or writes a 0 = first.earlier in
        let later : two.later ≡ get_or writes place 0 = first.later in
        let unordered : HappensBefore run two.earlier two.later → ⊥ = λ h. first.beside ((are two.earlier two.later).1 h) in
        record {
          crossing = beside_crosses run position word two.earlier two.later
              (subst (λ m. IsKnownWrite run position word m) (sym earlier) (known_at a (omega arith)))
              (subst (λ m. IsKnownWrite run position word m) (sym later) (known_at place within))
              (let lt = rises a place less within in omega arith) unordered;
          least_later = λ k l c.
              let (b, below, at_b) = place_of l c.later in
              elim (cases_lt b place) [
                | inl before ↦ absurd (none_before place (omega arith) steps k l b c before at_b)
                | inr behind ↦ let le = never_falls place b behind below in omega arith
              ];
          least_earlier = λ k c.
              let (b, below, at_b) = place_of k c.earlier in
              elim (cases_lt b a) [
                | inl before ↦ absurd (c.races.unordered ((are k two.later).0
                    (subst (λ m. IsTrue (is_before order m two.later)) at_b (first.first b before))))
                | inr behind ↦ let le = never_falls a b behind below in omega arith
              ];
        }

    -- what is found beside a write that does not follow the one before it
    pub crossing_or_none : (place : ℕ) (o : Option Crossing) → 0 < place → place < length writes
        → ((m : ℕ) → m + 1 < place → IsTrue (is_before order (get_or writes m 0) (get_or writes (m + 1) 0)))
        → is_before order (get_or writes (place - 1) 0) (get_or writes place 0) ≡ false
        → MatchOption o ((k : ℕ) → k < place → IsTrue (is_before order (get_or writes k 0) (get_or writes place 0))) (IsFirstBeside order writes place)
        → MatchOption o ((i j : ℕ) → IsCrossing run position word i j → ⊥) (λ two. IsFirstCrossing run position word two.earlier two.later)
    crossing_or_none place None positive within steps beside all = λ i j c. false≢true (sym beside ∙ all (place - 1) (omega arith))
    crossing_or_none place (Some two) positive within steps beside first = first_crosses place two within steps first

  -- ---- those that none follows

  -- a write from this place on, that none follows
  abbrev pub IsUnfollowedFrom : ℕ → ℕ → Type 0
  IsUnfollowedFrom n i = IsUnfollowed run position word i × ((k : ℕ) × (n ≤ k) × (k < length writes) × (get_or writes k 0 ≡ i))

  -- the list has exactly these, and each write from this place on is one of them, or happens before one
  pub record IsTail (n : ℕ) (last : List ℕ) : Type 0 where
    pub exactly : AreExactly (IsUnfollowedFrom n) last
    pub led : (k : ℕ) → n ≤ k → k < length writes → (u : ℕ) × Contains last u × Reaches run (get_or writes k 0) u

  pub tail_none : (n : ℕ) (last : List ℕ) → length writes ≤ n → last ≡ [] → IsTail n last
  tail_none n last long empty = rw empty (record {
    exactly = record {
      ascending = λ k lt. absurd (omega (arith, lt));
      exact = λ i. (λ (k, lt, is). absurd (omega (arith, lt)), λ (so, (k, le, lt, is)). absurd (omega arith));
    };
    led = λ k le lt. absurd (omega arith);
  })

  -- a place more, where a write happens before one of them
  pub tail_followed : (n m u : ℕ) (last : List ℕ) → m + 1 ≡ n → Contains last u → HappensBefore run (get_or writes m 0) u → IsTail n last → IsTail m last
  tail_followed n m u last next there follows old = record {
    exactly = record {
      ascending = old.exactly.ascending;
      exact = λ i. (
        λ h. let (so, (k, le, lt, is)) = (old.exactly.exact i).0 h in (so, (k, omega arith, lt, is)),
        λ (so, (k, le, lt, is)).
            elim (cases_eq k m) [
              | inl same ↦
                  let (other, place) = (old.exactly.exact u).0 there in
                  let at_m : get_or writes m 0 ≡ i = subst (λ x. get_or writes x 0 ≡ i) same is in
                  absurd (so.last u other.known (subst (λ x. HappensBefore run x u) at_m follows))
              | inr apart ↦ (old.exactly.exact i).1 (so, (k, omega arith, lt, is))
            ],
      );
    };
    led = λ k le lt.
        elim (cases_eq k m) [
          | inl same ↦ (u, there, inr (subst (λ x. HappensBefore run (get_or writes x 0) u) (sym same) follows))
          | inr apart ↦ old.led k (omega arith) lt
        ];
  }

  -- a place more, where a write happens before none of them
  pub tail_more : (n m : ℕ) (last more : List ℕ) → m + 1 ≡ n → m < length writes
      → ((u : ℕ) → Contains last u → HappensBefore run (get_or writes m 0) u → ⊥) → more ≡ insert last 0 (get_or writes m 0)
      → IsTail n last → IsTail m more
  tail_more n m last more next within none put old =
      let y = get_or writes m 0 in
      let unfollowed : IsUnfollowed run position word (get_or writes m 0) = record {
        known = known_at m within;
        last = λ k h before.
            let (b, lt, at_b) = place_of k h in
            elim (cases_lt m b) [
              | inl above ↦
                  let (u, there, reaches) = old.led b (omega arith) lt in
                  none u there (elim reaches [
                    | inl same ↦ subst (λ x. HappensBefore run (get_or writes m 0) x) (sym at_b ∙ same) before
                    | inr later ↦ transitive before (subst (λ x. HappensBefore run x u) at_b later)
                  ])
              | inr below ↦
                  let falls = never_falls b m below within in
                  let less = forward before in
                  omega (arith, falls, less, at_b)
            ];
      } in
      record {
        exactly = exactly_front (IsUnfollowedFrom n) (IsUnfollowedFrom m) last more (get_or writes m 0) put
            (λ i (so, (k, le, lt, is)). let up = rises m k (omega arith) lt in omega (arith, up, is))
            (λ i (so, (k, le, lt, is)). (so, (k, omega arith, lt, is)))
            (unfollowed, (m, omega arith, within, refl))
            (λ i (so, (k, le, lt, is)). elim (cases_eq k m) [
              | inl same ↦ inl (sym is ∙ subst (λ x. get_or writes x 0 ≡ get_or writes m 0) (sym same) refl)
              | inr apart ↦ inr (so, (k, omega arith, lt, is))
            ]) old.exactly;
        led = λ k le lt.
            elim (cases_eq k m) [
              | inl same ↦ (
                get_or writes m 0,
                subst (λ zs. Contains zs (get_or writes m 0)) (sym (put ∙ insert_front last (get_or writes m 0))) (front_here last (get_or writes m 0)),
                inl (subst (λ x. get_or writes x 0 ≡ get_or writes m 0) (sym same) refl),
              )
              | inr apart ↦
                  let (u, there, reaches) = old.led k (omega arith) lt in (
                    u,
                    subst (λ zs. Contains zs u) (sym (put ∙ insert_front last (get_or writes m 0))) (front_there last (get_or writes m 0) u there),
                    reaches,
                  )
            ];
      }

  pub tail_all : (last : List ℕ) → IsTail 0 last → AreExactly (IsUnfollowed run position word) last
  tail_all last tail = record {
    ascending = tail.exactly.ascending;
    exact = λ i. (
      λ h. ((tail.exactly.exact i).0 h).0,
      λ so. let (k, lt, is) = place_of i so.known in (tail.exactly.exact i).1 (so, (k, omega arith, lt, is)),
    );
  }
