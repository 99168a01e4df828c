-- Reading in order: what one memory would give.
use Rattle.std.specs.Prelude.{◌≡◌, ℕ, ◌==◌, if◌then◌else◌, List, [], ◌∷◌, take}
use Rattle.lrc_trace.specs.declared.act.Act.{Act}
use Rattle.lrc_trace.specs.declared.act.Deed.{Deed}
use Rattle.lrc_trace.specs.declared.act.Deed.TheVariants.{Read, Write}
use Rattle.lrc_trace.specs.Run.{IsDone}

-- the value of a word after a deed that found it at this value
abbrev pub value_after : ℕ → Deed → ℕ → ℕ
value_after word (Write w v) value = if w == word then v else value
value_after word _ value = value

-- the value of a word after these acts, which found it at this value
abbrev pub value_after_all : ℕ → List Act → ℕ → ℕ
value_after_all word [] value = value
value_after_all word (a ∷ acts) value = value_after_all word acts (value_after word a.deed value)

-- the value of the last write to the word before a position, or 0 where there is none
abbrev pub last_value : List Act → ℕ → ℕ → ℕ
last_value run position word = value_after_all word (take position run) 0

-- every read gives the value of the last write before it
abbrev pub ReadsInOrder : List Act → Type 0
ReadsInOrder run = (j word value : ℕ) → IsDone run j (Read word value) → value ≡ last_value run j word
