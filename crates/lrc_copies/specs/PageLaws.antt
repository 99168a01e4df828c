-- What holds of a whole page.
use Rattle.std.specs.Prelude.{◌≡◌, ℕ, IsTrue, List, [], ◌∷◌, ◌++◌, length, map, fold, replicate, slice_set, Contains}
use Rattle.lrc_page.specs.declared.size.Size.{Size}
use Rattle.lrc_page.specs.Page.{zero_page}
use Rattle.lrc_page.specs.Changes.{applied}
use Rattle.lrc_copies.specs.Sound.{IsAddedLast}
use Rattle.lrc_copies.specs.Page.{PageHistory, AgreeOnPage, AgreeOnChanges, page_below, PageFits, IsPageSound, IsUntouchedBy}
use Rattle.lrc_copies.specs.Page.{IsMoreUntouched, IsWrittenOnce, IsMadeOf, IsClosedWith, ArePageNext}

-- Before the first write a page is zero.
abbrev pub ZeroPageFitsNothing : Type 0 → Type 0
ZeroPageFitsNothing A = (h : PageHistory A) (words : ℕ) → PageFits h (replicate words 0) []

abbrev pub ZeroPageOfASizeFitsNothing : Type 0 → Type 0
ZeroPageOfASizeFitsNothing A = (h : PageHistory A) (size : Size) → PageFits h (zero_page size) []

-- A copy goes on to fit where the list gets more intervals that did not write the page.
abbrev pub UntouchedPageKeepsFitting : Type 0 → Type 0
UntouchedPageKeepsFitting A = (h : PageHistory A) (copy : List ℕ) (xs ys : List A) → IsMoreUntouched h (length copy) xs ys → PageFits h copy xs
    → PageFits h copy ys

-- Nothing counts for the fit but what the members wrote and which of them is below which, as where a node writes in an
-- interval that is no member,
abbrev pub OnlyMembersCountForThePage : Type 0 → Type 0
OnlyMembersCountForThePage A = (h h' : PageHistory A) (copy : List ℕ) (xs : List A) → AgreeOnPage xs h h' → PageFits h copy xs
    → PageFits h' copy xs

-- and for soundness their changes and weights besides.
abbrev pub OnlyMembersCountForSoundness : Type 0 → Type 0
OnlyMembersCountForSoundness A = (h h' : PageHistory A) (words : ℕ) (all : List A) → AgreeOnChanges all h h'
    → IsPageSound h words all → IsPageSound h' words all

-- A write in an interval that is below none of the list keeps the fit with the list and the interval.
abbrev pub WritingKeepsThePageFitting : Type 0 → Type 0
WritingKeepsThePageFitting A = (before after : PageHistory A) (copy : List ℕ) (xs : List A) (x : A) (offset value : ℕ)
    → IsWrittenOnce before after xs x offset value → PageFits before copy (x ∷ xs)
    → PageFits after (slice_set copy offset value) (x ∷ xs)

-- It leaves the copy what the interval made of the same twin.
abbrev pub WritingIsOverTheSameTwin : Type 0 → Type 0
WritingIsOverTheSameTwin A = (before after : PageHistory A) (copy : List ℕ) (xs : List A) (x : A) (offset value : ℕ) (twin : List ℕ)
    → IsWrittenOnce before after xs x offset value → IsMadeOf before x twin copy
    → IsMadeOf after x twin (slice_set copy offset value)

-- What an interval that is below none of the list makes of a twin that fits the list fits the list and the interval.
abbrev pub OpenIntervalKeepsThePageFitting : Type 0 → Type 0
OpenIntervalKeepsThePageFitting A = (h : PageHistory A) (twin copy : List ℕ) (x : A) (xs : List A) → IsMadeOf h x twin copy
    → ((a : A) → Contains xs a → ¬ IsTrue (h.below x a)) → PageFits h twin xs → PageFits h copy (x ∷ xs)

-- An interval that wrote the page is sound once it is closed with the changes between twin and copy, also where it wrote
-- what a word had before.
abbrev pub ClosingAWrittenPageStaysSound : Type 0 → Type 0
ClosingAWrittenPageStaysSound A = (h : PageHistory A) (all : List A) (x : A) (twin copy : List ℕ) → IsPageSound h (length copy) all
    → IsAddedLast h.weight h.below all x → IsClosedWith h x twin copy → PageFits h twin (page_below h all x)
    → IsPageSound h (length copy) (all ++ x ∷ [])

-- An interval that did not write the page is sound without changes, whatever copy its node has of it.
abbrev pub ClosingAnUntouchedPageStaysSound : Type 0 → Type 0
ClosingAnUntouchedPageStaysSound A = (h : PageHistory A) (all : List A) (x : A) (words : ℕ) → IsPageSound h words all
    → IsAddedLast h.weight h.below all x → IsUntouchedBy h words x → h.changes x ≡ [] → IsPageSound h words (all ++ x ∷ [])

-- To apply the changes of intervals by rising weight keeps the fit, where all below them are in, or among them, or did not
-- write the page.
abbrev pub RepairingKeepsThePageFitting : Type 0 → Type 0
RepairingKeepsThePageFitting A = (h : PageHistory A) (all xs more : List A) (copy : List ℕ) → IsPageSound h (length copy) all
    → ((a : A) → Contains xs a → Contains all a) → ArePageNext h (length copy) all xs more → PageFits h copy xs
    → PageFits h (fold applied copy (map h.changes more)) (xs ++ more)
