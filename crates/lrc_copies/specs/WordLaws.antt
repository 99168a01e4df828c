-- What holds of one word.
use Rattle.std.specs.Prelude.{◌≡◌, ℕ, ◌⊎◌, ◌↔◌, IsTrue, None, unwrap_or, List, [], ◌∷◌, ◌++◌, Contains}
use Rattle.lrc_copies.specs.Word.{WordHistory, IsUnwritten, AreWritersOrdered, IsLastWriter, Fits, HaveSameWriters, AgreeOn, IsBelowNone}
use Rattle.lrc_copies.specs.Sound.{IsLighterBelow, IsSoundList, IsAddedLast, IsClosedFrom, IsAddable, AreAddable, repaired_value}
use Rattle.lrc_copies.specs.Decided.{fits_list}

-- Before the first write a word is zero.
abbrev pub ZeroFitsNothing : Type 0 → Type 0
ZeroFitsNothing A = (w : WordHistory A) → Fits w 0 []

-- Where no member of a list wrote the word, what fits is zero.
abbrev pub UnwrittenWordsAreZero : Type 0 → Type 0
UnwrittenWordsAreZero A = (w : WordHistory A) (value : ℕ) (xs : List A) → IsUnwritten w xs → Fits w value xs → value ≡ 0

-- Of the members of a list only those that wrote the word count, and of these only that they are members: a copy goes
-- on to fit a list with more intervals of which none writes the word.
abbrev pub OnlyWritersCount : Type 0 → Type 0
OnlyWritersCount A = (w : WordHistory A) (value : ℕ) (xs ys : List A) → HaveSameWriters w xs ys → Fits w value xs → Fits w value ys

-- Nothing counts but what the members wrote and which of them is below which.
abbrev pub OnlyMembersCount : Type 0 → Type 0
OnlyMembersCount A = (w w' : WordHistory A) (value : ℕ) (xs : List A) → AgreeOn xs w w' → Fits w value xs → Fits w' value xs

-- Where a copy fits a list, what an open interval makes of the copy fits the list and the interval: its last value, or
-- what the copy had where it did not write.
abbrev pub OpenIntervalKeepsTheFit : Type 0 → Type 0
OpenIntervalKeepsTheFit A = (w : WordHistory A) (value : ℕ) (x : A) (xs : List A) → IsBelowNone w x xs → Fits w value xs
    → Fits w (unwrap_or (w.wrote x) value) (x ∷ xs)

-- Where the writers of a list are ordered, there is none, or one is the last: the heaviest. No question has to be
-- decided for that but which of two numbers is larger.
abbrev pub OrderedWritersHaveALast : Type 0 → Type 0
OrderedWritersHaveALast A = (w : WordHistory A) (xs : List A) → IsLighterBelow w xs → AreWritersOrdered w xs
    → IsUnwritten w xs ⊎ ((a : A) × (value : ℕ) × IsLastWriter w xs a value)

-- What is closed after all others is sound, also where it wrote what the word had before.
abbrev pub ClosingStaysSound : Type 0 → Type 0
ClosingStaysSound A = (w : WordHistory A) (all : List A) (x : A) (twin value : ℕ) → IsSoundList w all
    → IsAddedLast w.weight w.below all x → IsClosedFrom w all x twin value → IsSoundList w (all ++ x ∷ [])

-- So is what is closed without writing the word and without a change of it.
abbrev pub ClosingWithoutAWriteStaysSound : Type 0 → Type 0
ClosingWithoutAWriteStaysSound A = (w : WordHistory A) (all : List A) (x : A) → IsSoundList w all → IsAddedLast w.weight w.below all x
    → w.wrote x ≡ None → w.change x ≡ None → IsSoundList w (all ++ x ∷ [])

-- To apply the changes of one interval keeps the fit, where all below it are in and it is below none that is in.
abbrev pub AddingOneKeepsTheFit : Type 0 → Type 0
AddingOneKeepsTheFit A = (w : WordHistory A) (all xs : List A) (x : A) (value : ℕ) → IsSoundList w all
    → ((a : A) → Contains xs a → Contains all a) → IsAddable w all xs x → Fits w value xs
    → Fits w (unwrap_or (w.change x) value) (x ∷ xs)

-- To apply the changes of several keeps it, by rising weight.
abbrev pub RepairingKeepsTheFit : Type 0 → Type 0
RepairingKeepsTheFit A = (w : WordHistory A) (all xs more : List A) (value : ℕ) → IsSoundList w all
    → ((a : A) → Contains xs a → Contains all a) → AreAddable w all xs more → Fits w value xs
    → Fits w (repaired_value w value more) (xs ++ more)

-- Where intervals are named by numbers, a test tells whether a value fits.
abbrev pub FittingIsDecided : Type 0
FittingIsDecided = (w : WordHistory ℕ) (value : ℕ) (xs : List ℕ) → IsTrue (fits_list w value xs) ↔ Fits w value xs
