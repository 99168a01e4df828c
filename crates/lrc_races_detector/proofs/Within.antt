-- One row is put in place of another, and what is within another stays so.
use Rattle.std.proofs.Common.{◌≡◌, ◌≢◌, ℕ, ◌<◌, ◌≤◌, ◌/◌, List, length, set, inl, inr, sym, subst, ◌∙◌, ap, arith}
use Rattle.std.specs.Prelude.{Option, Some, None, Bool, true, max, slice_get, slice_index}
use Rattle.std.specs.Bool.{OnTrue}
use Rattle.std.proofs.lemmas.Bool.{cases_eq}
use Rattle.std.proofs.lemmas.Option.{same_Some}
use Rattle.lrc_races_detector.specs.declared.vectors.Vector.{Vector}
use Rattle.lrc_races_detector.specs.Chunks.{IsChunkRaised}
use Rattle.lrc_races_detector.specs.Vectors.{IsPut, IsRaised, held}
use Rattle.lrc_races_detector.specs.Within.{entries_of, row_in, within_at, AreWithin, IsGrown, IsWithinSet}
use Rattle.lrc_races_detector.proofs.Pushing.{slice_get-set_same, slice_get-set_other}

-- ---- a row in its place

module _ (before reached : List Vector) (index : ℕ) (row : Vector) (room : index < length reached)
    (kept : (other : ℕ) → row_in reached other ≡ row_in before other) where
  pub set_here : row_in (set reached index row) index ≡ held row
  set_here = ap entries_of (slice_get-set_same reached index row room)

  pub set_others : (other : ℕ) → other ≢ index → row_in (set reached index row) other ≡ row_in before other
  set_others other apart = ap entries_of (slice_get-set_other reached index row other apart) ∙ kept other

  pub set_grown : ((thread : ℕ) → slice_index (row_in before index) thread ≤ slice_index (held row) thread) → IsGrown before (set reached index row) index
  set_grown more = record {
    here = λ thread.
        let now = ap (λ xs. slice_index xs thread) set_here in
        let le = more thread in
        omega arith;
    others = set_others;
  }

-- ---- what is more than before

pub joined_more : (old was new known : List ℕ) → old ≡ was → ((thread : ℕ) → slice_index new thread ≡ max (slice_index old thread) (slice_index known thread))
    → (thread : ℕ) → slice_index was thread ≤ slice_index new thread
joined_more old was new known same all thread =
    let e = ap (λ xs. slice_index xs thread) same in
    let one = all thread in
    omega arith

pub raised_more : (old was new : List ℕ) (at value : ℕ) → old ≡ was → IsRaised old new at value → (thread : ℕ) → slice_index was thread ≤ slice_index new thread
raised_more old was new at value same raised thread =
    let e = ap (λ xs. slice_index xs thread) same in
    elim (cases_eq thread at) [
      | inl own ↦
          let here = raised.here in
          subst (λ k. slice_index was k ≤ slice_index new k) (sym own) (let f = ap (λ xs. slice_index xs at) same in omega arith)
      | inr other ↦ let stays = raised.others thread other in omega arith
    ]

pub chunk_more : (old was new : List ℕ) (chunk value : ℕ) → old ≡ was → IsChunkRaised old new chunk value
    → (thread : ℕ) → slice_index was thread ≤ slice_index new thread
chunk_more old was new chunk value same raised thread =
    let e = ap (λ xs. slice_index xs thread) same in
    elim (cases_eq (thread / 128) chunk) [
      | inl own ↦ let now = raised.here thread own in omega (arith, e, now)
      | inr other ↦ let now = raised.others thread other in omega (arith, e, now)
    ]

put_more : (was new : List ℕ) (at value : ℕ) → IsPut was new at value → slice_index was at ≤ value → (thread : ℕ) → slice_index was thread ≤ slice_index new thread
put_more was new at value put le thread =
    elim (cases_eq thread at) [
      | inl own ↦
          let here = put.here in
          subst (λ k. slice_index was k ≤ slice_index new k) (sym own) (omega arith)
      | inr other ↦ let stays = put.others thread other in omega arith
    ]

grows : (before after : List Vector) (index : ℕ) → IsGrown before after index → (other thread : ℕ)
    → slice_index (row_in before other) thread ≤ slice_index (row_in after other) thread
grows before after index grown other thread =
    elim (cases_eq other index) [
      | inl same ↦ subst (λ i. slice_index (row_in before i) thread ≤ slice_index (row_in after i) thread) (sym same) (grown.here thread)
      | inr differs ↦ let e = ap (λ xs. slice_index xs thread) (grown.others other differs) in omega arith
    ]

-- ---- what is within another

module _ (before after : List Vector) (within kept : List (Option ℕ)) (index : ℕ) (grown : IsGrown before after index) where
  stays_within : (last : Option ℕ) → IsWithinSet within kept index last
      → ((one other : ℕ) → within_at (slice_get within one) ≡ Some other → (thread : ℕ) → thread ≢ one
      → slice_index (row_in before one) thread ≤ slice_index (row_in before other) thread)
      → (one other : ℕ) → one ≢ index → within_at (slice_get kept one) ≡ Some other → (thread : ℕ) → thread ≢ one
      → slice_index (row_in after one) thread ≤ slice_index (row_in after other) thread
  stays_within last put old one other differs is thread apart =
      let was = old one other (sym (put.others one differs) ∙ is) thread apart in
      let own = ap (λ xs. slice_index xs thread) (grown.others one differs) in
      let more = grows before after index grown other thread in
      omega arith

  pub still_within : (holds : Bool) → IsWithinSet within kept index None → AreWithin before within holds → AreWithin after kept holds
  still_within holds left old h one other is thread apart =
      elim (cases_eq one index) [
        | inl same ↦
            let none = left.here in
            let some : within_at (slice_get kept index) ≡ Some other = subst (λ i. within_at (slice_get kept i) ≡ Some other) same is in
            let never : ⊥ = cc in
            absurd never
        | inr differs ↦ stays_within None left (old h) one other differs is thread apart
      ]

  pub begun_within : (from : ℕ) → row_in after index ≡ row_in before from → (holds : Bool) → IsWithinSet within kept index (Some from)
      → AreWithin before within holds → AreWithin after kept holds
  begun_within from now holds begun old h one other is thread apart =
      elim (cases_eq one index) [
        | inl same ↦
            let some : within_at (slice_get kept index) ≡ Some other = subst (λ i. within_at (slice_get kept i) ≡ Some other) same is in
            let of : from ≡ other = same_Some from other (sym begun.here ∙ some) in
            let own : slice_index (row_in after one) thread ≡ slice_index (row_in before from) thread =
            ap (λ i. slice_index (row_in after i) thread) same ∙ ap (λ xs. slice_index xs thread) now in
            let more : slice_index (row_in before from) thread ≤ slice_index (row_in after from) thread = grows before after index grown from thread in
            let there : slice_index (row_in after from) thread ≡ slice_index (row_in after other) thread = ap (λ i. slice_index (row_in after i) thread) of in
            omega arith
        | inr differs ↦ stays_within (Some from) begun (old h) one other differs is thread apart
      ]

pub marked_within : (before after : List Vector) (within : List (Option ℕ)) (at value : ℕ) → IsPut (row_in before at) (row_in after at) at value
    → ((other : ℕ) → other ≢ at → row_in after other ≡ row_in before other)
    → (holds still : Bool) → OnTrue still ((holds ≡ true) × (slice_index (row_in before at) at ≤ value))
    → AreWithin before within holds → AreWithin after within still
marked_within before after within at value put others holds still may old h one other is thread apart =
    let (so, le) = subst (λ (b : Bool). OnTrue b ((holds ≡ true) × (slice_index (row_in before at) at ≤ value))) h may in
    let was = old so one other is thread apart in
    let grown : IsGrown before after at = record { here = put_more (row_in before at) (row_in after at) at value put le; others = others } in
    let more = grows before after at grown other thread in
    elim (cases_eq one at) [
      | inl same ↦
          let own : slice_index (row_in after one) thread ≡ slice_index (row_in before one) thread =
          subst (λ i. slice_index (row_in after i) thread ≡ slice_index (row_in before i) thread) (sym same) (put.others thread (λ e. apart (e ∙ sym same))) in
          omega arith
      | inr differs ↦ let own = ap (λ xs. slice_index xs thread) (others one differs) in omega arith
    ]

-- ---- what is handed

-- where the other is within, one entry is to be raised
pub raised_joined : (own now other : List ℕ) (at from value : ℕ) → at ≡ from → value ≡ slice_index other at → IsRaised own now at value
    → ((thread : ℕ) → thread ≢ from → slice_index other thread ≤ slice_index own thread)
    → (thread : ℕ) → slice_index now thread ≡ max (slice_index own thread) (slice_index other thread)
raised_joined own now other at from value same is raised within thread =
    elim (cases_eq thread at) [
      | inl here ↦
          subst (λ k. slice_index now k ≡ max (slice_index own k) (slice_index other k)) (sym here)
          (raised.here ∙ ap (λ v. max (slice_index own at) v) is)
      | inr apart ↦
          let less = within thread (λ e. apart (e ∙ sym same)) in
          let stays = raised.others thread apart in
          omega arith
    ]
