-- Words that are added one after another.
use Rattle.std.proofs.Common.{◌≡◌, ℕ, ◌<◌, List, [], ◌∷◌, ◌++◌, length, sym, ◌∙◌, ap, arith, append_assoc, append-nil}
use Rattle.std.specs.Prelude.{codes, drop, flat_map}
use Rattle.lrc_races_why.specs.Deeds.{blank_and, parted}

-- one word more of those that are left
pub word_more : (whole text blank after : List ℕ) (left behind : List (List ℕ)) (word : List ℕ) → whole ≡ text ++ flat_map blank_and left
    → left ≡ word ∷ behind → blank ≡ text ++ codes " " → after ≡ blank ++ word → whole ≡ after ++ flat_map blank_and behind
word_more whole text blank after left behind word old is e f =
    old ∙ ap (λ (l : List (List ℕ)). text ++ flat_map blank_and l) is
    ∙ ap (λ (t : List ℕ). text ++ t) (append_assoc (codes " ") word (flat_map blank_and behind))
    ∙ sym (append_assoc text (codes " ") (word ++ flat_map blank_and behind))
    ∙ sym (append_assoc (text ++ codes " ") word (flat_map blank_and behind))
    ∙ ap (λ (t : List ℕ). (t ++ word) ++ flat_map blank_and behind) (sym e)
    ∙ ap (λ (t : List ℕ). t ++ flat_map blank_and behind) (sym f)

pub words_fewer : (left behind : List (List ℕ)) (word : List ℕ) → left ≡ word ∷ behind → length behind < length left
words_fewer left behind word is = let e = ap length is in omega arith

pub words_all : (whole text : List ℕ) (left : List (List ℕ)) → whole ≡ text ++ flat_map blank_and left → left ≡ [] → text ≡ whole
words_all whole text left old none = sym (old ∙ ap (λ (l : List (List ℕ)). text ++ flat_map blank_and l) none ∙ append-nil text)

pub words_none : (text : List ℕ) (words : List (List ℕ)) → words ≡ [] → text ≡ text ++ parted words
words_none text words none = sym (ap (λ (l : List (List ℕ)). text ++ parted l) none ∙ append-nil text)

pub words_some : (text one after : List ℕ) (words rest : List (List ℕ)) (word : List ℕ) → words ≡ word ∷ rest → one ≡ text ++ word
    → after ≡ one ++ flat_map blank_and rest → after ≡ text ++ parted words
words_some text one after words rest word is e f =
    f ∙ ap (λ (t : List ℕ). t ++ flat_map blank_and rest) e ∙ append_assoc text word (flat_map blank_and rest)
    ∙ sym (ap (λ (l : List (List ℕ)). text ++ parted l) is)

-- the words behind the first one
pub words_behind : (text after : List ℕ) (words rest : List (List ℕ)) (word : List ℕ) → words ≡ word ∷ rest → after ≡ text ++ parted rest
    → after ≡ text ++ parted (drop 1 words)
words_behind text after words rest word is e = e ∙ sym (ap (λ (l : List (List ℕ)). text ++ parted (drop 1 l)) is)

pub words_nowhere : (text : List ℕ) (words : List (List ℕ)) → words ≡ [] → text ≡ text ++ parted (drop 1 words)
words_nowhere text words none = sym (ap (λ (l : List (List ℕ)). text ++ parted (drop 1 l)) none ∙ append-nil text)
