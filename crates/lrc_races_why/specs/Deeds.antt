-- What a line has of what its event's thread does.
use Rattle.std.specs.Prelude.{ℕ, ◌==◌, List, [], ◌∷◌, ◌++◌, codes, drop, flat_map}
use Rattle.std.specs.List.{after_first, before_first}
use Rattle.lrc_acts.specs.ActsText.{words_on}
use Rattle.lrc_races_text.specs.declared.form.Form.{Form}
use Rattle.lrc_races_text.specs.declared.form.Form.TheVariants.{Std, Acts}

-- what stands before the first bar, or all; and what stands behind it, or nothing
abbrev pub before_bar : List ℕ → List ℕ
before_bar text = before_first (λ byte. byte == 124) text

abbrev pub behind_bar : List ℕ → List ℕ
behind_bar text = after_first (λ byte. byte == 124) text

-- the words, with one blank between
abbrev pub blank_and : List ℕ → List ℕ
blank_and word = codes " " ++ word

abbrev pub parted : List (List ℕ) → List ℕ
parted [] = []
parted (word ∷ words) = word ++ flat_map blank_and words

-- what stands between the first bar and the second or the end; of acts the words behind the node
abbrev pub deed_text : Form → List ℕ → List ℕ
deed_text Std line = before_bar (behind_bar line)
deed_text Acts line = parted (drop 1 (words_on line))
