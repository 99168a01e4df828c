-- A whole page, of any length: what holds of each of its words, in the terms of changes.
use Rattle.std.specs.Prelude.{◌≡◌, ℕ, ◌<◌, ◌≤◌, ◌⊎◌, ◌≢◌, Bool, IsTrue, Option, Some, None, unwrap_or}
use Rattle.std.specs.Prelude.{List, ◌∷◌, length, filter, slice_index, Contains, AllPairs}
use Rattle.lrc_page.specs.declared.changes.Change.{Change}
use Rattle.lrc_page.specs.Changes.{change_at, changes_between}
use Rattle.lrc_copies.specs.Word.{WordHistory, Fits}
use Rattle.lrc_copies.specs.Sound.{IsSoundList}

-- What each interval did to the page, and how the intervals stand to one another.
pub record PageHistory (A : Type 0) : Type 0 where
  -- the last value that the interval wrote to the word at an offset, if it wrote it
  pub wrote : A → ℕ → Option ℕ
  -- the interval's changes of the page: none where it did not write the page
  pub changes : A → List Change
  -- weight and order, as for one word
  pub weight : A → ℕ
  pub below : A → A → Bool

-- the same with regard to one word of the page
abbrev pub at_word : {A : Type 0} → PageHistory A → ℕ → WordHistory A
at_word h offset = record {
  wrote = λ a. h.wrote a offset;
  change = λ a. change_at (h.changes a) offset;
  weight = h.weight;
  below = h.below;
}

-- the copy fits the list, word by word
abbrev pub PageFits : {A : Type 0} → PageHistory A → List ℕ → List A → Type 0
PageFits h copy xs = (offset : ℕ) → offset < length copy → Fits (at_word h offset) (slice_index copy offset) xs

-- the list is sound for each of so many words
abbrev pub IsPageSound : {A : Type 0} → PageHistory A → ℕ → List A → Type 0
IsPageSound h words all = (offset : ℕ) → offset < words → IsSoundList (at_word h offset) all

-- the interval wrote no word of a page of so many words
abbrev pub IsUntouchedBy : {A : Type 0} → PageHistory A → ℕ → A → Type 0
IsUntouchedBy h words a = (offset : ℕ) → offset < words → h.wrote a offset ≡ None

-- the first list, and more intervals that did not write the page
pub record IsMoreUntouched {A : Type 0} (h : PageHistory A) (words : ℕ) (xs ys : List A) : Type 0 where
  pub kept : (a : A) → Contains xs a → Contains ys a
  pub more : (a : A) → Contains ys a → Contains xs a ⊎ IsUntouchedBy h words a

-- two histories say the same of what the members of the list wrote, and of which is below which;
pub record AgreeOnPage {A : Type 0} (xs : List A) (h h' : PageHistory A) : Type 0 where
  pub wrote : (a : A) (offset : ℕ) → Contains xs a → h.wrote a offset ≡ h'.wrote a offset
  pub below : (a b : A) → Contains xs a → Contains xs b → h.below a b ≡ h'.below a b

-- and of their changes and weights
pub record AgreeOnChanges {A : Type 0} (xs : List A) (h h' : PageHistory A) : Type 0 where
  pub page : AgreeOnPage xs h h'
  pub changes : (a : A) → Contains xs a → h.changes a ≡ h'.changes a
  pub weight : (a : A) → Contains xs a → h.weight a ≡ h'.weight a

-- In an interval that is below none of the list, one more word of the page is written:
pub record IsWrittenOnce {A : Type 0} (before after : PageHistory A) (xs : List A) (x : A) (offset value : ℕ) : Type 0 where
  -- it wrote this value last,
  pub wrote : after.wrote x offset ≡ Some value
  -- nothing else was written to another word,
  pub others : (a : A) (other : ℕ) → Contains (x ∷ xs) a → other ≢ offset → before.wrote a other ≡ after.wrote a other
  -- the intervals stand to one another as before,
  pub below : (a b : A) → Contains (x ∷ xs) a → Contains (x ∷ xs) b → before.below a b ≡ after.below a b
  -- and it is below none of the list.
  pub newest : (a : A) → Contains xs a → ¬ IsTrue (after.below x a)

-- what an interval made of its twin: each word of the copy has what it wrote last, or else what the twin has
pub record IsMadeOf {A : Type 0} (h : PageHistory A) (x : A) (twin copy : List ℕ) : Type 0 where
  pub long : length twin ≡ length copy
  pub has : (offset : ℕ) → offset < length copy
      → slice_index copy offset ≡ unwrap_or (h.wrote x offset) (slice_index twin offset)

-- an interval that wrote the page is closed, with this twin and this copy: its changes are those between the two
pub record IsClosedWith {A : Type 0} (h : PageHistory A) (x : A) (twin copy : List ℕ) : Type 0 where
  pub made : IsMadeOf h x twin copy
  pub changes : h.changes x ≡ changes_between twin copy

-- the members of the list that are below the interval
abbrev pub page_below : {A : Type 0} → PageHistory A → List A → A → List A
page_below h all x = filter (λ a. h.below a x) all

-- Intervals whose changes can be applied to a copy, one after another:
pub record ArePageNext {A : Type 0} (h : PageHistory A) (words : ℕ) (all xs more : List A) : Type 0 where
  -- they are some of all,
  pub members : (x : A) → Contains more x → Contains all x
  -- all below one of them are in, or among them, or did not write the page,
  pub complete : (x a : A) → Contains more x → Contains all a → IsTrue (h.below a x)
      → Contains xs a ⊎ (Contains more a ⊎ IsUntouchedBy h words a)
  -- none is below one that is in,
  pub newer : (x a : A) → Contains more x → Contains xs a → ¬ IsTrue (h.below x a)
  -- and they stand by rising weight.
  pub rising : AllPairs (λ a b. h.weight a ≤ h.weight b) more
