-- What holds of copies by times.
use Rattle.std.specs.Prelude.{◌≡◌, ℕ, ◌<◌, ◌↔◌, ◌⊎◌, ◌&&◌, Bool, not, Option, None, AllPairs, IsTrue, List, [], ◌∷◌, ◌++◌, length, map, fold, Contains}
use Rattle.lrc_time.specs.Time.{Covers, zeros, joined}
use Rattle.lrc_page.specs.declared.changes.Change.{Change}
use Rattle.lrc_page.specs.Changes.{applied}
use Rattle.lrc_copies.specs.Sound.{IsAddedLast}
use Rattle.lrc_copies.specs.Page.{PageFits, IsPageSound, IsUntouchedBy, IsClosedWith}
use Rattle.lrc_copies.specs.Stamps.{Stamps, stamp_weight, stamps_covered, covered, stamps_below, comes_before}
use Rattle.lrc_copies.specs.Stamps.{page_of_stamps, IsCut, AreStamped, IsClosedAt, StandsBetween, AreLacking}

-- An interval that is below another weighs less.
abbrev pub StampsBelowWeighLess : Type 0 → Type 0
StampsBelowWeighLess A = (s : Stamps A) (nodes : ℕ) (all : List A) (a b : A) → AreStamped s nodes all → Contains all a → Contains all b
    → IsTrue (stamps_below s a b) → stamp_weight s a < stamp_weight s b

-- The interval that a node closes next keeps the list stamped; it is added last; and what was a cut without covering it
-- still is.
abbrev pub ClosingKeepsStamps : Type 0 → Type 0
ClosingKeepsStamps A = (s : Stamps A) (nodes : ℕ) (all : List A) (time : List ℕ) (x : A) → AreStamped s nodes all
    → IsClosedAt s nodes all time x → AreStamped s nodes (all ++ x ∷ [])

abbrev pub ClosingAddsLast : Type 0 → Type 0
ClosingAddsLast A = (s : Stamps A) (nodes : ℕ) (all : List A) (time : List ℕ) (x : A) → IsClosedAt s nodes all time x
    → IsAddedLast (stamp_weight s) (stamps_below s) all x

abbrev pub ClosingKeepsCuts : Type 0 → Type 0
ClosingKeepsCuts A = (s : Stamps A) (all : List A) (time : List ℕ) (x : A) → IsCut s all time → ¬ IsTrue (stamps_covered s time x)
    → IsCut s (all ++ x ∷ []) time

-- The time that covers nothing is a cut, and so is the join of two cuts, which covers what one of the two does.
abbrev pub ZerosAreACut : Type 0 → Type 0
ZerosAreACut A = (s : Stamps A) (nodes count : ℕ) (all : List A) → AreStamped s nodes all → IsCut s all (zeros count)

abbrev pub JoinsAreCuts : Type 0 → Type 0
JoinsAreCuts A = (s : Stamps A) (all : List A) (t u : List ℕ) → IsCut s all t → IsCut s all u → IsCut s all (joined t u)

abbrev pub JoinsCoverEither : Type 0 → Type 0
JoinsCoverEither A = (s : Stamps A) (t u : List ℕ) (a : A) → IsTrue (stamps_covered s (joined t u) a)
    ↔ (IsTrue (stamps_covered s t a) ⊎ IsTrue (stamps_covered s u a))

-- Where a node closes an interval at a time that its twin fits, the interval is sound with the changes between twin and
-- copy, and the copy fits the interval's stamp.
abbrev pub ClosingAtATimeStaysSound : Type 0 → Type 0
ClosingAtATimeStaysSound A = (s : Stamps A) (wrote : A → ℕ → Option ℕ) (changes : A → List Change) (nodes : ℕ) (all : List A)
    (time : List ℕ) (x : A) (twin copy : List ℕ) → IsClosedAt s nodes all time x
    → IsPageSound (page_of_stamps s wrote changes) (length copy) all
    → IsClosedWith (page_of_stamps s wrote changes) x twin copy
    → PageFits (page_of_stamps s wrote changes) twin (covered s time all)
    → IsPageSound (page_of_stamps s wrote changes) (length copy) (all ++ x ∷ [])

abbrev pub ClosingAtATimeFits : Type 0 → Type 0
ClosingAtATimeFits A = (s : Stamps A) (wrote : A → ℕ → Option ℕ) (changes : A → List Change) (nodes : ℕ) (all : List A)
    (time : List ℕ) (x : A) (twin copy : List ℕ) → IsClosedAt s nodes all time x
    → IsClosedWith (page_of_stamps s wrote changes) x twin copy
    → PageFits (page_of_stamps s wrote changes) twin (covered s time all)
    → PageFits (page_of_stamps s wrote changes) copy (covered s (s.stamp x) (all ++ x ∷ []))

-- A copy that fits a time with an open interval fits the interval's stamp once it is closed.
abbrev pub ClosingKeepsThePageFitting : Type 0 → Type 0
ClosingKeepsThePageFitting A = (s : Stamps A) (wrote : A → ℕ → Option ℕ) (changes : A → List Change) (nodes : ℕ) (all : List A)
    (time : List ℕ) (x : A) (copy : List ℕ) → IsClosedAt s nodes all time x
    → PageFits (page_of_stamps s wrote changes) copy (x ∷ covered s time all)
    → PageFits (page_of_stamps s wrote changes) copy (covered s (s.stamp x) (all ++ x ∷ []))

-- So does one that fits the time, where the interval did not write the page.
abbrev pub ClosingUntouchedKeepsThePageFitting : Type 0 → Type 0
ClosingUntouchedKeepsThePageFitting A = (s : Stamps A) (wrote : A → ℕ → Option ℕ) (changes : A → List Change) (nodes : ℕ)
    (all : List A) (time : List ℕ) (x : A) (copy : List ℕ) → IsClosedAt s nodes all time x
    → IsUntouchedBy (page_of_stamps s wrote changes) (length copy) x
    → PageFits (page_of_stamps s wrote changes) copy (covered s time all)
    → PageFits (page_of_stamps s wrote changes) copy (covered s (s.stamp x) (all ++ x ∷ []))

-- What a time does not cover makes no difference to a copy that fits the time.
abbrev pub UncoveredIntervalsMakeNoDifference : Type 0 → Type 0
UncoveredIntervalsMakeNoDifference A = (s : Stamps A) (wrote : A → ℕ → Option ℕ) (changes : A → List Change) (all : List A)
    (time : List ℕ) (x : A) (copy : List ℕ) → ¬ IsTrue (stamps_covered s time x)
    → PageFits (page_of_stamps s wrote changes) copy (covered s time all)
    → PageFits (page_of_stamps s wrote changes) copy (covered s time (all ++ x ∷ []))

-- A copy that fits a time fits a later one, where no interval between the two wrote the page.
abbrev pub UntouchedPageFitsALaterTime : Type 0 → Type 0
UntouchedPageFitsALaterTime A = (s : Stamps A) (wrote : A → ℕ → Option ℕ) (changes : A → List Change) (all : List A)
    (since upto copy : List ℕ) → Covers upto since
    → ((a : A) → StandsBetween s all since upto a → IsUntouchedBy (page_of_stamps s wrote changes) (length copy) a)
    → PageFits (page_of_stamps s wrote changes) copy (covered s since all)
    → PageFits (page_of_stamps s wrote changes) copy (covered s upto all)

-- Repair. A copy that fits a time, an invalid one and the time that its node remembers of it or a base copy and the time up
-- to which all was collected, fits a later time once the changes of all intervals between the two were applied, by weight,
-- node and index.
abbrev pub RepairingReachesALaterTime : Type 0 → Type 0
RepairingReachesALaterTime A = (s : Stamps A) (wrote : A → ℕ → Option ℕ) (changes : A → List Change) (nodes : ℕ) (all : List A)
    (since upto : List ℕ) (missing : List A) (copy : List ℕ) → AreStamped s nodes all
    → IsPageSound (page_of_stamps s wrote changes) (length copy) all
    → IsCut s all since → IsCut s all upto → Covers upto since → AreLacking s wrote (length copy) all since upto missing
    → PageFits (page_of_stamps s wrote changes) copy (covered s since all)
    → PageFits (page_of_stamps s wrote changes) (fold applied copy (map changes missing)) (covered s upto all)

-- What a store says that a page misses is what a copy lacks: where the store has the intervals between the two times, and
-- none that the later one does not cover, and those that do not name the page did not write it, the intervals that name it
-- and that the earlier time does not cover, in order.
abbrev pub MissingIntervalsAreLacking : Type 0 → Type 0
MissingIntervalsAreLacking A = (s : Stamps A) (wrote : A → ℕ → Option ℕ) (words : ℕ) (all stored : List A) (since upto : List ℕ) (names : A → Bool)
    (part : List A) → ((a : A) → StandsBetween s all since upto a → Contains stored a)
    → ((a : A) → Contains stored a → Contains all a × IsTrue (stamps_covered s upto a))
    → ((a : A) → Contains all a → ¬ IsTrue (names a) → (offset : ℕ) → offset < words → wrote a offset ≡ None)
    → ((a : A) → Contains part a ↔ (Contains stored a × IsTrue (names a && not (stamps_covered s since a))))
    → AllPairs (λ a b. IsTrue (comes_before s a b)) part → AreLacking s wrote words all since upto part
