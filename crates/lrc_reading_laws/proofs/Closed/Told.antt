-- Lists of intervals that were made: what is taken out of them, added to them, or found in a store.
use Rattle.std.proofs.Common.{ℕ, zero, suc, List, [], ◌∷◌, ◌++◌, Bool, true, false, cond, map}
use Rattle.std.specs.Prelude.{Option, Some, None, not, Contains, filter, filter_map, slice_set, if◌then◌else◌}
use Rattle.std.proofs.lemmas.List.Elements.{Contains-append_left}
use Rattle.lrc_store.specs.Interval.{IntervalRecord, by_node}
use Rattle.lrc_store.specs.Order.{placed, ascending_part}
use Rattle.lrc_store.specs.Store.{StoreRecord, StoredRecord, interval_of, intervals_of, is_covered, is_newer, discarded, newer_of}
use Rattle.lrc_envelope.specs.Envelope.{EnvelopeRecord}
use Rattle.lrc_barrier.specs.declared.arrival.Arrival.{Arrival}
use Rattle.lrc_barrier.specs.Barrier.{intervals_of as intervals_told}
use Rattle.lrc_reading_laws.specs.Made.{AllMade, AllTold, AllKept, intervals_in}

-- ---- of all that were made, and one more

pub made-more : (made : List IntervalRecord) (new : List IntervalRecord) (intervals : List IntervalRecord) → AllMade made intervals → AllMade
    (made ++ new) intervals
made-more made new [] h = tt
made-more made new (i ∷ intervals) h = (Contains-append_left made new i h.0, made-more made new intervals h.1)

pub told-more : (made new : List IntervalRecord) (es : List EnvelopeRecord) → AllTold made es → AllTold (made ++ new) es
told-more made new [] h = tt
told-more made new (e ∷ es) h = (made-more made new (intervals_in e.message) h.0, told-more made new es h.1)

pub kept-more : (made new : List IntervalRecord) (arrivals : List (Option Arrival)) → AllKept made arrivals → AllKept (made ++ new) arrivals
kept-more made new [] h = tt
kept-more made new (None ∷ arrivals) h = kept-more made new arrivals h
kept-more made new (Some a ∷ arrivals) h = (made-more made new a.intervals h.0, kept-more made new arrivals h.1)

module _ (made : List IntervalRecord) where
  pub made-append : (xs ys : List IntervalRecord) → AllMade made xs → AllMade made ys → AllMade made (xs ++ ys)
  made-append [] ys h k = k
  made-append (x ∷ xs) ys h k = (h.0, made-append xs ys h.1 k)

  by_test : (b : Bool) (x : IntervalRecord) (xs : List IntervalRecord) → Contains made x → AllMade made xs → AllMade made (cond b (x ∷ xs) xs)
  by_test true x xs c h = (c, h)
  by_test false x xs c h = h

  pub made-filter : (p : IntervalRecord → Bool) (xs : List IntervalRecord) → AllMade made xs → AllMade made (filter p xs)
  made-filter p [] h = tt
  made-filter p (x ∷ xs) h = by_test (p x) x (filter p xs) h.0 (made-filter p xs h.1)

  -- ---- in order

  made-placed : (before : IntervalRecord → IntervalRecord → Bool) (x : IntervalRecord) (xs : List IntervalRecord) → Contains made x → AllMade made xs
      → AllMade made (placed before x xs)
  made-placed before x [] c h = (c, tt)
  made-placed before x (y ∷ xs) c h = here (made-placed before x xs c h.1) (before x y)
    where
      here : AllMade made (placed before x xs) → (b : Bool) → AllMade made (if b then x ∷ y ∷ xs else y ∷ placed before x xs)
      here rest true = (c, h)
      here rest false = (h.0, rest)

  made-part : (before : IntervalRecord → IntervalRecord → Bool) (test : IntervalRecord → Bool) (xs : List IntervalRecord) → AllMade made xs
      → AllMade made (ascending_part before test xs)
  made-part before test [] h = tt
  made-part before test (x ∷ xs) h = here (made-part before test xs h.1) (test x)
    where
      here : AllMade made (ascending_part before test xs) → (b : Bool)
          → AllMade made (if b then placed before x (ascending_part before test xs) else ascending_part before test xs)
      here rest true = made-placed before x (ascending_part before test xs) h.0 rest
      here rest false = rest

  pub made-newer : (store : StoreRecord) (since upto : List ℕ) → AllMade made (intervals_of store) → AllMade made (newer_of store since upto)
  made-newer store since upto h = made-part by_node (is_newer since upto) (intervals_of store) h

  -- ---- in a store that drops some

  dropped_by : (p : StoredRecord → Bool) (entries : List StoredRecord) → AllMade made (map interval_of entries) → AllMade made (map interval_of
      (filter p entries))
  dropped_by p [] h = tt
  dropped_by p (s ∷ entries) h = here (dropped_by p entries h.1) (p s)
    where
      here : AllMade made (map interval_of (filter p entries)) → (b : Bool) → AllMade made (map interval_of (cond b (s ∷ filter p entries) (filter p entries)))
      here rest true = (h.0, rest)
      here rest false = rest

  pub made-discarded : (store : StoreRecord) (time : List ℕ) → AllMade made (intervals_of store) → AllMade made (intervals_of (discarded store time))
  made-discarded store time h = dropped_by (λ stored. not (is_covered time (interval_of stored))) store.entries h

  -- ---- in messages

  pub told-append : (xs ys : List EnvelopeRecord) → AllTold made xs → AllTold made ys → AllTold made (xs ++ ys)
  told-append [] ys h k = k
  told-append (x ∷ xs) ys h k = (h.0, told-append xs ys h.1 k)

  pub told-without : (xs ys : List EnvelopeRecord) (e : EnvelopeRecord) → AllTold made (xs ++ e ∷ ys) → AllTold made (xs ++ ys)
  told-without [] ys e h = h.1
  told-without (x ∷ xs) ys e h = (h.0, told-without xs ys e h.1)

  pub told-there : (xs ys : List EnvelopeRecord) (e : EnvelopeRecord) → AllTold made (xs ++ e ∷ ys) → AllMade made (intervals_in e.message)
  told-there [] ys e h = h.0
  told-there (x ∷ xs) ys e h = told-there xs ys e h.1

  -- ---- in arrivals

  pub kept-set : (arrivals : List (Option Arrival)) (n : ℕ) (a : Arrival) → AllKept made arrivals → AllMade made a.intervals
      → AllKept made (slice_set arrivals n (Some a))
  kept-set [] n a h k = tt
  kept-set (None ∷ arrivals) zero a h k = (k, h)
  kept-set (Some b ∷ arrivals) zero a h k = (k, h.1)
  kept-set (None ∷ arrivals) (suc n) a h k = kept-set arrivals n a h k
  kept-set (Some b ∷ arrivals) (suc n) a h k = (h.0, kept-set arrivals n a h.1 k)

  pub kept-all : (arrivals : List (Option Arrival)) → AllKept made arrivals → AllMade made (intervals_told (filter_map (λ a. a) arrivals))
  kept-all [] h = tt
  kept-all (None ∷ arrivals) h = kept-all arrivals h
  kept-all (Some a ∷ arrivals) h = made-append a.intervals (intervals_told (filter_map (λ a. a) arrivals)) h.0 (kept-all arrivals h.1)
