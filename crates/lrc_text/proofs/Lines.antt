-- Texts without bytes, and lines with one line more.
use Rattle.std.proofs.Common.{◌≡◌, ◌∙◌, ◌<◌, ◌+◌, ◌==◌, ℕ, true, false, List, [], ◌∷◌, ◌++◌, length, take, drop, get_or, refl, sym, ap, arith, rules, tests}
use Rattle.std.proofs.lemmas.List.{append_assoc, take_more, take-append-drop}

pub nil_of : (text : List ℕ) → true ≡ (length text == 0) → text ≡ []
nil_of [] e = refl
nil_of (b ∷ text) e = let zero : length (b ∷ text) ≡ 0 = search (rules, tests) in absurd (omega arith)

pub some_of : (text : List ℕ) → false ≡ (length text == 0) → 0 < length text
some_of [] e = absurd cc
some_of (b ∷ text) e = omega arith

-- the lines so far, with one more
pub lines_more : (lines : List (List ℕ)) (n m : ℕ) (line : List ℕ) → n ≡ m → (m < length lines) × (line ≡ get_or lines m line)
    → take (n + 1) lines ≡ take n lines ++ line ∷ []
lines_more lines n m line same turn =
    let at : line ≡ get_or lines n line = turn.1 ∙ ap (λ i. get_or lines i line) (sym same) in
    take_more lines n line (omega arith) ∙ ap (λ x. take n lines ++ x ∷ []) (sym at)

-- the lines before one, that line, and those after it
pub lines_at : (lines : List (List ℕ)) (n m : ℕ) (line : List ℕ) → n ≡ m → (m < length lines) × (line ≡ get_or lines m line)
    → lines ≡ take n lines ++ line ∷ drop (n + 1) lines
lines_at lines n m line same turn =
    sym (take-append-drop (n + 1) lines) ∙ ap (λ l. l ++ drop (n + 1) lines) (lines_more lines n m line same turn)
    ∙ append_assoc (take n lines) (line ∷ []) (drop (n + 1) lines)
