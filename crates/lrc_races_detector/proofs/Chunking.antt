-- Entries in chunks.
use Rattle.std.proofs.Common.{◌≡◌, ◌≢◌, ◌<◌, ◌≤◌, ◌+◌, ◌*◌, ◌/◌, ◌%◌, ◌⊎◌, ℕ, zero, suc, List, [], ◌∷◌, ◌++◌, length, max, set, inl, inr, refl, sym, subst, ◌∙◌, ap, ap₂, arith}
use Rattle.std.proofs.lemmas.Bool.{cases_eq, cases_lt}
use Rattle.std.proofs.lemmas.List.{get_or_past, length_push}
use Rattle.std.proofs.lemmas.Option.{slice_get_past}
use Rattle.std.specs.Prelude.{Some, slice_get, slice_index}
use Rattle.lrc_races_detector.specs.declared.chunks.Chunk.{Chunk}
use Rattle.lrc_races_detector.specs.Chunks.{entry_at, entry_of, entry_in, value_of, firsts, values, AreJoinedBelow, AreSharedBelow, IsChunkJoined, IsChunkPut, IsChunkRaised, IsAppended, IsLowered, IsListed, IsSpelled}
use Rattle.lrc_races_detector.specs.Vectors.{IsPut, IsRaised}
use Rattle.lrc_races_detector.proofs.Pushing.{slice_get-push_new, slice_get-push_old, slice_get-set_same, slice_get-set_other}

firsts_at : (f : ℕ → ℕ) (count p : ℕ) → p < count → slice_index (firsts f count) p ≡ f p
firsts_at f zero p lt = absurd (omega (arith, lt))
firsts_at f (suc count) zero lt = refl
firsts_at f (suc count) (suc p) lt = firsts_at (λ k. f (suc k)) count p (omega (arith, lt))

firsts_past : (f : ℕ → ℕ) (count p : ℕ) → count ≤ p → slice_index (firsts f count) p ≡ 0
firsts_past f zero p le = refl
firsts_past f (suc count) zero le = absurd (omega (arith, le))
firsts_past f (suc count) (suc p) le = firsts_past (λ k. f (suc k)) count p (omega (arith, le))

firsts_same : (f g : ℕ → ℕ) (count : ℕ) → ((k : ℕ) → f k ≡ g k) → firsts f count ≡ firsts g count
firsts_same f g zero same = refl
firsts_same f g (suc count) same = ap₂ (λ x xs. x ∷ xs) (same 0) (firsts_same (λ k. f (suc k)) (λ k. g (suc k)) count (λ k. same (suc k)))

entry_past : (chunks : List Chunk) (index place : ℕ) → length chunks ≤ index → entry_in chunks index place ≡ 0
entry_past chunks index place le = ap (λ c. entry_of c place) (slice_get_past chunks index le)

within : (p n : ℕ) → (p < n * 128) ⊎ ((n * 128 ≤ p) × (n ≤ p / 128))
within p n = elim (cases_lt p (n * 128)) [
  | inl lt ↦ inl lt
  | inr le ↦ inr (le, omega (arith, le))
]

-- the entry of a thread
pub at_values : (chunks : List Chunk) (p : ℕ) → slice_index (values chunks) p ≡ value_of chunks p
at_values chunks p =
    elim (within p (length chunks)) [
      | inl lt ↦ firsts_at (value_of chunks) (length chunks * 128) p lt
      | inr past ↦ firsts_past (value_of chunks) (length chunks * 128) p past.0 ∙ sym (entry_past chunks (p / 128) (p % 128) past.1)
    ]

pub same_values : (xs ys : List Chunk) → length xs ≡ length ys
    → ((index place : ℕ) → entry_in xs index place ≡ entry_in ys index place) → values xs ≡ values ys
same_values xs ys long same =
    ap (λ n. firsts (value_of xs) (n * 128)) long
    ∙ firsts_same (value_of xs) (value_of ys) (length ys * 128) (λ k. same (k / 128) (k % 128))

-- ---- a chunk is set

pub chunk_set : (before reached : List Chunk) (index : ℕ) (chunk : Chunk) → index < length reached
    → ((other place : ℕ) → entry_in reached other place ≡ entry_in before other place)
    → IsChunkPut before (set reached index chunk) index chunk
chunk_set before reached index chunk room kept = record {
  here = λ place. ap (λ c. entry_of c place) (slice_get-set_same reached index chunk room);
  others = λ other place ne. ap (λ c. entry_of c place) (slice_get-set_other reached index chunk other ne)
      ∙ kept other place;
}

-- where the others were as before
pub put_later : (before reached after : List Chunk) (index : ℕ) (chunk : Chunk)
    → ((other place : ℕ) → entry_in reached other place ≡ entry_in before other place)
    → IsChunkPut reached after index chunk
    → IsChunkPut before after index chunk
put_later before reached after index chunk kept c = record {
  here = c.here;
  others = λ other place ne. c.others other place ne ∙ kept other place;
}

-- all its entries are raised
pub raised_values : (before after : List Chunk) (index value : ℕ) (chunk : Chunk)
    → ((place : ℕ) → entry_at chunk place ≡ max (entry_in before index place) value)
    → IsChunkPut before after index chunk → IsChunkRaised (values before) (values after) index value
raised_values before after index value chunk all c = record {
  here = λ thread same.
      let was = at_values before thread ∙ ap (λ i. entry_in before i (thread % 128)) same in
      let now = at_values after thread ∙ ap (λ i. entry_in after i (thread % 128)) same ∙ c.here (thread % 128)
      ∙ all (thread % 128) in
      now ∙ ap (λ x. max x value) (sym was);
  others = λ thread apart. at_values after thread ∙ c.others (thread / 128) (thread % 128) apart
      ∙ sym (at_values before thread);
}

-- ---- one entry is set

kept : (before after : List Chunk) (thread value : ℕ) (chunk own : Chunk) (entries : List ℕ)
    → ((place : ℕ) → entry_at own place ≡ entry_in before (thread / 128) place)
    → IsSpelled own entries (thread % 128) value
    → ((place : ℕ) → entry_at chunk place ≡ slice_index entries place)
    → IsChunkPut before after (thread / 128) chunk → (other : ℕ) → other ≢ thread → value_of after other ≡ value_of before other
kept before after thread value chunk own entries was s now c other ne =
    elim (cases_eq (other / 128) (thread / 128)) [
      | inl same ↦
          let apart : other % 128 ≢ thread % 128 = λ e. ne (omega (arith, same, e)) in
          ap (λ i. entry_in after i (other % 128)) same ∙ c.here (other % 128) ∙ now (other % 128)
          ∙ s.others (other % 128) (omega arith) apart
          ∙ was (other % 128) ∙ sym (ap (λ i. entry_in before i (other % 128)) same)
      | inr apart ↦ c.others (other / 128) (other % 128) apart
    ]

pub put_values : (before after : List Chunk) (thread value : ℕ) (chunk own : Chunk) (entries : List ℕ)
    → ((place : ℕ) → entry_at own place ≡ entry_in before (thread / 128) place)
    → IsSpelled own entries (thread % 128) value
    → ((place : ℕ) → entry_at chunk place ≡ slice_index entries place)
    → IsChunkPut before after (thread / 128) chunk → IsPut (values before) (values after) thread value
put_values before after thread value chunk own entries was s now c = record {
  here = at_values after thread ∙ c.here (thread % 128) ∙ now (thread % 128) ∙ s.here;
  others = λ other ne. at_values after other ∙ kept before after thread value chunk own entries was s now c other ne
      ∙ sym (at_values before other);
}

pub raised_put : (before after : List Chunk) (thread value : ℕ) → value_of before thread < value
    → IsPut (values before) (values after) thread value
    → IsRaised (values before) (values after) thread value
raised_put before after thread value less p = record {
  here = let was = at_values before thread in let now = p.here in omega (arith, was, now, less);
  others = p.others;
}

pub raised_not : (chunks : List Chunk) (thread value : ℕ) → value ≤ value_of chunks thread
    → IsRaised (values chunks) (values chunks) thread value
raised_not chunks thread value least = record {
  here = let was = at_values chunks thread in omega (arith, was, least);
  others = λ other ne. refl;
}

pub lowered_put : (before after : List Chunk) (thread value : ℕ) → IsPut (values before) (values after) thread 0
    → IsLowered (values before) (values after) thread value
lowered_put before after thread value p = record {
  here = let now = p.here in omega (arith, now);
  others = p.others;
}

pub lowered_not : (chunks : List Chunk) (thread value : ℕ) → value_of chunks thread ≤ value
    → IsLowered (values chunks) (values chunks) thread value
lowered_not chunks thread value most = record {
  here = let was = at_values chunks thread in omega (arith, was, most);
  others = λ other ne. refl;
}

-- ---- all are

pub chunk_pushed : (before after : List Chunk) (index : ℕ) (pushed more : Chunk) → index ≤ length before
    → length before ≤ index
    → after ≡ before ++ pushed ∷ [] → ((place : ℕ) → entry_at pushed place ≡ entry_at more place)
    → IsChunkJoined before after index more
chunk_pushed before after index pushed more le ge is same =
    let at : index ≡ length before = omega arith in
    subst (λ xs. IsChunkJoined before xs index more) (sym is) (record {
      long = let long = length_push before pushed in omega arith;
      here = λ place.
          let now = ap (λ i. entry_in (before ++ pushed ∷ []) i place) at
          ∙ ap (λ o. entry_of o place) (slice_get-push_new before pushed) ∙ same place in
          let was = entry_past before index place ge in
          omega (arith, now, was);
      others = λ other place ne.
          elim (cases_lt other (length before)) [
            | inl lt ↦ ap (λ o. entry_of o place) (slice_get-push_old before pushed other lt)
            | inr past ↦
                entry_past (before ++ pushed ∷ []) other place
                (let long = length_push before pushed in omega (arith, long, past, ne, at))
                ∙ sym (entry_past before other place past)
          ];
    })

pub chunk_covered : (before : List Chunk) (index : ℕ) (own more : Chunk) → index < length before
    → slice_get before index ≡ Some own
    → ((place : ℕ) → entry_at more place ≤ entry_at own place) → IsChunkJoined before before index more
chunk_covered before index own more lt is all = record {
  long = lt;
  here = λ place. let was = ap (λ o. entry_of o place) is in let le = all place in omega (arith, was, le);
  others = λ other place ne. refl;
}

pub chunk_joined : (before after : List Chunk) (index : ℕ) (own more both : Chunk) → index < length after
    → slice_get before index ≡ Some own
    → ((place : ℕ) → entry_at both place ≡ max (entry_at own place) (entry_at more place))
    → IsChunkPut before after index both
    → IsChunkJoined before after index more
chunk_joined before after index own more both lt is all c = record {
  long = lt;
  here = λ place. c.here place ∙ all place ∙ ap (λ x. max x (entry_at more place))
      (sym (ap (λ o. entry_of o place) is));
  others = c.others;
}

pub joined_next : (before more old new : List Chunk) (index : ℕ) (own : Chunk) → AreJoinedBelow index before more old
    → slice_get more index ≡ Some own → IsChunkJoined old new index own → AreJoinedBelow (index + 1) before more new
joined_next before more old new index own j is c = record {
  long = let lt = c.long in omega (arith, lt);
  below = λ k place lt.
      elim (cases_eq k index) [
        | inl here ↦
            let one = c.here place in
            let was = j.above index place (omega arith) in
            let at = ap (λ o. entry_of o place) is in
            subst (λ i. entry_in new i place ≡ max (entry_in before i place) (entry_in more i place)) (sym here)
            (omega (arith, one, was, at))
        | inr other ↦ c.others k place other ∙ j.below k place (omega (arith, lt, other))
      ];
  above = λ k place le. c.others k place (λ e. omega (arith, le, e)) ∙ j.above k place (omega (arith, le));
}

pub joined_done : (before reserved more after : List Chunk) (count : ℕ) → reserved ≡ before → length more ≤ count
    → AreJoinedBelow count reserved more after
    → (index place : ℕ) → entry_in after index place ≡ max (entry_in before index place) (entry_in more index place)
joined_done before reserved more after count same end j index place =
    let was = ap (λ xs. entry_in xs index place) same in
    elim (cases_lt index count) [
      | inl lt ↦ let at = j.below index place lt in omega (arith, was, at)
      | inr past ↦
          let at = j.above index place past in
          let none = entry_past more index place (omega (arith, end, past)) in
          omega (arith, was, at, none)
    ]

pub joined_values : (before more after : List Chunk)
    → ((index place : ℕ) → entry_in after index place ≡ max (entry_in before index place) (entry_in more index place))
    → (p : ℕ) → slice_index (values after) p ≡ max (slice_index (values before) p) (slice_index (values more) p)
joined_values before more after all p =
    let was = at_values before p in
    let with_them = at_values more p in
    let now = at_values after p in
    let at = all (p / 128) (p % 128) in
    omega (arith, was, with_them, now, at)

pub listed_all : (chunks : List Chunk) (count : ℕ) (list : List ℕ) → length chunks ≤ count → IsListed count chunks list
    → (p : ℕ) → slice_index list p ≡ slice_index (values chunks) p
listed_all chunks count list end l p =
    elim (within p count) [
      | inl lt ↦ l.same p lt ∙ sym (at_values chunks p)
      | inr past ↦
          let (le, over) = past in
          let long = l.long in
          get_or_past list p 0 (omega (arith, le, long)) ∙ sym (at_values chunks p ∙ entry_past chunks (p / 128) (p % 128) (omega (arith, over, end)))
    ]

listed_one : (chunks : List Chunk) (count : ℕ) (before after : List ℕ) (chunk : Chunk) → IsListed count chunks before
    → slice_get chunks count ≡ Some chunk
    → IsAppended 128 before chunk after → (thread : ℕ) → thread < (count + 1) * 128 → slice_index after thread ≡ value_of chunks thread
listed_one chunks count before after chunk l is a thread lt =
    elim (cases_lt thread (count * 128)) [
      | inl old ↦ a.old thread (let long = l.long in omega (arith, old, long)) ∙ l.same thread old
      | inr new ↦
          let long = l.long in
          let index : thread / 128 ≡ count = omega (arith, new, lt) in
          let place : length before + thread % 128 ≡ thread = omega (arith, new, lt, long) in
          ap (λ t. slice_index after t) (sym place) ∙ a.new (thread % 128) (omega arith)
          ∙ ap (λ c. entry_of c (thread % 128)) (sym is)
          ∙ ap (λ i. entry_in chunks i (thread % 128)) (sym index)
    ]

pub listed_next : (chunks : List Chunk) (count : ℕ) (before after : List ℕ) (chunk : Chunk)
    → IsListed count chunks before → slice_get chunks count ≡ Some chunk
    → IsAppended 128 before chunk after → IsListed (count + 1) chunks after
listed_next chunks count before after chunk l is a = record {
  long = let long = l.long in let more = a.long in omega (arith, long, more);
  same = λ thread lt. listed_one chunks count before after chunk l is a thread lt;
}

-- ---- chunks are shared

shared_one : (more old : List Chunk) (count : ℕ) (pushed own : Chunk) → AreSharedBelow count more old
    → slice_get more count ≡ Some own → ((place : ℕ) → entry_at pushed place ≡ entry_at own place) → (index place : ℕ)
    → index < count + 1
    → entry_in (old ++ pushed ∷ []) index place ≡ entry_in more index place
shared_one more old count pushed own s is same index place lt =
    let long = s.long in
    elim (cases_eq index count) [
      | inl here ↦
          ap (λ k. entry_in (old ++ pushed ∷ []) k place) (here ∙ sym s.long)
          ∙ ap (λ o. entry_of o place) (slice_get-push_new old pushed)
          ∙ same place ∙ ap (λ o. entry_of o place) (sym is) ∙ ap (λ k. entry_in more k place) (sym here)
      | inr other ↦
          ap (λ o. entry_of o place) (slice_get-push_old old pushed index (omega (arith, long, lt, other)))
          ∙ s.same index place (omega (arith, lt, other))
    ]

pub shared_next : (more old new : List Chunk) (count : ℕ) (pushed own : Chunk) → count < length more
    → AreSharedBelow count more old → new ≡ old ++ pushed ∷ []
    → slice_get more count ≡ Some own → ((place : ℕ) → entry_at pushed place ≡ entry_at own place)
    → AreSharedBelow (count + 1) more new
shared_next more old new count pushed own lt s pushes is same = subst (λ xs. AreSharedBelow (count + 1) more xs)
    (sym pushes) (record {
      long = let long = s.long in let more_by_one = length_push old pushed in omega (arith, long, more_by_one);
      within = omega (arith, lt);
      same = λ index place below. shared_one more old count pushed own s is same index place below;
    })

pub shared_values : (more new : List Chunk) (count : ℕ) → length more ≤ count → AreSharedBelow count more new
    → values new ≡ values more
shared_values more new count end s =
    let long = s.long in
    let within_them = s.within in
    same_values new more (omega (arith, long, within_them, end)) (λ index place.
    elim (cases_lt index (length more)) [
      | inl lt ↦ s.same index place (omega (arith, lt, end))
      | inr le ↦ entry_past new index place (omega (arith, long, within_them, le))
          ∙ sym (entry_past more index place le)
    ])
