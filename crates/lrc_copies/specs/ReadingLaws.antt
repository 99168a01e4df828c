-- What holds of copies and lazy reading.
use Rattle.std.specs.Prelude.{ℕ, ◌<◌, Bool, IsTrue, Option, List, length, slice_index}
use Rattle.lrc_page.specs.declared.changes.Change.{Change}
use Rattle.lrc_trace.specs.declared.act.Act.{Act}
use Rattle.lrc_trace.specs.Reading.{MayRead}
use Rattle.lrc_copies.specs.Word.{WordHistory, Fits}
use Rattle.lrc_copies.specs.Page.{PageFits}
use Rattle.lrc_copies.specs.Stamps.{Stamps, page_of_stamps}
use Rattle.lrc_copies.specs.Reading.{HasWritesBefore, ListsWrites}

-- A value that fits the writes that happen before a read may be read: reading it is lazy.
abbrev pub FittingValueMayBeRead : Type 0 → Type 0
FittingValueMayBeRead A = (run : List Act) (j word : ℕ) (w : WordHistory A) (inside : A → ℕ → Bool) (xs : List A) (value : ℕ)
    → HasWritesBefore run j word w (λ a i. IsTrue (inside a i)) xs → Fits w value xs → MayRead run j word value

-- So may a word of a copy that fits what its node's time covers, with the node's own interval.
abbrev pub FittingCopyMayBeRead : Type 0 → Type 0
FittingCopyMayBeRead A = (run : List Act) (j node word : ℕ) (s : Stamps A) (wrote : A → ℕ → Option ℕ) (changes : A → List Change)
    (time : List ℕ) (xs : List A) (copy : List ℕ) (offset : ℕ)
    → ListsWrites run j node word s (λ a. wrote a offset) time xs → offset < length copy
    → PageFits (page_of_stamps s wrote changes) copy xs → MayRead run j word (slice_index copy offset)
