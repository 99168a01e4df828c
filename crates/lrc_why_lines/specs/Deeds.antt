-- Deeds in words, with the labels of words and locks.
use Rattle.std.specs.Prelude.{ℕ, List, ◌++◌, codes, decimal}
use Rattle.lrc_trace.specs.declared.act.Deed.{Deed}
use Rattle.lrc_trace.specs.declared.act.Deed.TheVariants.{Read, Write, Acquire, Release}
use Rattle.lrc_labels.specs.Reading.{Label}
use Rattle.lrc_labels.specs.Show.{lock_label_text, word_label_text}
use Rattle.lrc_text.specs.ActText.{deed_text}

-- a name, and behind it the number of a word or a lock with its label
unfoldable pub word_text : List Label → (name : List ℕ) → ℕ → List ℕ
word_text labels name word = name ++ decimal word ++ word_label_text labels word

unfoldable pub lock_text : List Label → (name : List ℕ) → ℕ → List ℕ
lock_text labels name l = name ++ decimal l ++ lock_label_text labels l

-- an access: its word, and its value
unfoldable pub access_text : List Label → (name : List ℕ) → (word value : ℕ) → List ℕ
access_text labels name word value = word_text labels name word ++ (codes ": " ++ decimal value)

-- a deed as it is shown
unfoldable pub shown_deed : List Label → Deed → List ℕ
shown_deed labels (Read word value) = access_text labels (codes "read ") word value
shown_deed labels (Write word value) = access_text labels (codes "write ") word value
shown_deed labels (Acquire l) = lock_text labels (codes "acquire ") l
shown_deed labels (Release l) = lock_text labels (codes "release ") l
shown_deed labels deed = deed_text deed
