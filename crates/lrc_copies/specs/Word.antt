-- One word of a page, and the intervals in which nodes write it. What an interval is, is left open: an entry in a list of
-- all that were closed, or positions of a run. Of a list of intervals only membership counts.
use Rattle.std.specs.Prelude.{◌≡◌, ℕ, ◌⊎◌, Bool, IsTrue, Option, Some, List, Contains}

-- What each interval did to the word, and how the intervals stand to one another.
pub record WordHistory (A : Type 0) : Type 0 where
  -- the last value that the interval wrote to the word, if it wrote it
  pub wrote : A → Option ℕ
  -- the value that the interval's changes give to the word, if they name it
  pub change : A → Option ℕ
  -- the sum of the interval's stamp, or another number that rises along `below`
  pub weight : A → ℕ
  -- the first interval is below the second: what is done in it happens before what is done in the second
  pub below : A → A → Bool

-- a member of the list that wrote the word, this value last
pub record IsWriter {A : Type 0} (w : WordHistory A) (xs : List A) (a : A) (value : ℕ) : Type 0 where
  pub member : Contains xs a
  pub wrote : w.wrote a ≡ Some value

-- no member of the list wrote the word
abbrev pub IsUnwritten : {A : Type 0} → WordHistory A → List A → Type 0
IsUnwritten {A} w xs = (a : A) (value : ℕ) → ¬ IsWriter w xs a value

-- any two members that wrote the word are the same, or one is below the other
abbrev pub AreWritersOrdered : {A : Type 0} → WordHistory A → List A → Type 0
AreWritersOrdered {A} w xs = (a b : A) (u v : ℕ) → IsWriter w xs a u → IsWriter w xs b v
    → (a ≡ b) ⊎ (IsTrue (w.below a b) ⊎ IsTrue (w.below b a))

-- the member wrote the word, this value last, and every other member that wrote it is below
pub record IsLastWriter {A : Type 0} (w : WordHistory A) (xs : List A) (a : A) (value : ℕ) : Type 0 where
  pub writer : IsWriter w xs a value
  pub last : (b : A) (v : ℕ) → IsWriter w xs b v → (b ≡ a) ⊎ IsTrue (w.below b a)

-- the value is that of the last writer, or 0 where there is no writer
pub record IsLastValue {A : Type 0} (w : WordHistory A) (xs : List A) (value : ℕ) : Type 0 where
  pub none : IsUnwritten w xs → value ≡ 0
  pub last : (a : A) (v : ℕ) → IsLastWriter w xs a v → value ≡ v

-- A copy with this value at the word fits the list:
pub record Fits {A : Type 0} (w : WordHistory A) (value : ℕ) (xs : List A) : Type 0 where
  -- the value is 0, or the last that some member wrote;
  pub weak : (value ≡ 0) ⊎ ((a : A) × IsWriter w xs a value)
  -- and where the members that wrote are ordered, it is the last of them all.
  pub strong : AreWritersOrdered w xs → IsLastValue w xs value

-- the two lists have the same writers of the word
abbrev pub HaveSameWriters : {A : Type 0} → WordHistory A → List A → List A → Type 0
HaveSameWriters {A} w xs ys = (a : A) (value : ℕ) → (IsWriter w xs a value → Contains ys a) × (IsWriter w ys a value → Contains xs a)

-- two histories say the same of what the members of the list wrote, and of which is below which
pub record AgreeOn {A : Type 0} (xs : List A) (w w' : WordHistory A) : Type 0 where
  pub wrote : (a : A) → Contains xs a → w.wrote a ≡ w'.wrote a
  pub below : (a b : A) → Contains xs a → Contains xs b → w.below a b ≡ w'.below a b

-- the interval is below no member that wrote the word
abbrev pub IsBelowNone : {A : Type 0} → WordHistory A → A → List A → Type 0
IsBelowNone {A} w x xs = (a : A) (value : ℕ) → IsWriter w xs a value → ¬ IsTrue (w.below x a)
