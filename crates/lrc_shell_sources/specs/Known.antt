-- What is known of the files that a program reads.
use Rattle.std.specs.Prelude.{◌≡◌, ◌++◌, ℕ, List, [], take}
use Rattle.std.specs.declared.io.ErrorKind.{ErrorKind}
use Rattle.std.specs.declared.io.ErrorKind.TheVariants.{OutOfMemory}

-- of one file nothing is known, or that it cannot be read, or the bytes that it has
pub data Held : Type 0 where
  unknown : Held
  unreadable : Held
  holds : List ℕ → Held

-- of each path, and of standard input
pub record Known : Type 0 where
  pub files : List ℕ → Held
  pub input : Held

abbrev pub nothing_known : Known
nothing_known = record { files = λ path. unknown; input = unknown }

-- as far as it is known, these are the first bytes of the file, and no more than so many
abbrev pub IsFront : ℕ → Held → List ℕ → Type 0
IsFront most unknown bytes = Unit {0}
IsFront most unreadable bytes = ⊥
IsFront most (holds text) bytes = bytes ≡ take most text

-- as far as it is known, a read of the file may fail for this: a file that can be read fails by want of memory alone
abbrev pub IsCause : Held → ErrorKind → Type 0
IsCause unknown kind = Unit {0}
IsCause unreadable kind = Unit {0}
IsCause (holds text) kind = kind ≡ OutOfMemory

-- What is left of a file behind these bytes: where it is known what the file holds, it begins with them; of one that cannot be read
-- there are none.
abbrev pub IsReadOff : Held → List ℕ → Held → Type 0
IsReadOff unknown bytes left = left ≡ unknown
IsReadOff unreadable bytes left = (bytes ≡ []) × (left ≡ unreadable)
IsReadOff (holds text) bytes left = (rest : List ℕ) × (text ≡ bytes ++ rest) × (left ≡ holds rest)

-- as far as it is known, no byte is left
abbrev pub IsAtEnd : Held → Type 0
IsAtEnd unknown = Unit {0}
IsAtEnd unreadable = ⊥
IsAtEnd (holds text) = text ≡ []
