-- Bytes are cut into lines in one way.
use Rattle.std.proofs.Common.{◌≡◌, ℕ, ◌≤◌, List, [], ◌∷◌, ◌++◌, length, sym, subst, refl, ◌∙◌, ap₂, arith, append_assoc}
use Rattle.std.specs.Prelude.{flat_map}
use Rattle.lrc_races_lines.specs.Lacking.{Lacks}
use Rattle.lrc_races_lines.proofs.Spelled.{seam-not-lacking, seam-unique}
use Rattle.lrc_races_text.specs.Told.{IsCut, IsOneLine, AreLines, ended}

-- a first line stands before its line feed
first_line : (line front more : List ℕ) → (ended line ++ front) ++ more ≡ line ++ 10 ∷ (front ++ more)
first_line line front more = append_assoc (ended line) front more ∙ append_assoc line (10 ∷ []) (front ++ more)

not_nothing : (line more : List ℕ) → line ++ 10 ∷ more ≡ [] → ⊥
not_nothing [] more e = cc
not_nothing (x ∷ line) more e = cc

-- Whole lines at the front of others are the first of these, and behind them stand the others.
pub front_lines : (lines others : List (List ℕ)) (more : List ℕ) → AreLines lines → AreLines others
    → flat_map ended lines ++ more ≡ flat_map ended others
    → (behind : List (List ℕ)) × (others ≡ lines ++ behind) × (more ≡ flat_map ended behind)
front_lines [] others more a b e = (others, refl, e)
front_lines (x ∷ xs) [] more a b e = absurd (not_nothing x (flat_map ended xs ++ more) (sym (first_line x (flat_map ended xs) more) ∙ e))
front_lines (x ∷ xs) (y ∷ ys) more (p, a) (q, b) e =
    let parted : x ++ 10 ∷ (flat_map ended xs ++ more) ≡ y ++ 10 ∷ flat_map ended ys =
    sym (first_line x (flat_map ended xs) more) ∙ e ∙ append_assoc y (10 ∷ []) (flat_map ended ys) in
    let (same, tails) = seam-unique 10 x (flat_map ended xs ++ more) y (flat_map ended ys) p q parted in
    let (behind, are, is) = front_lines xs ys more a b tails in
    (behind, ap₂ (λ (l : List ℕ) (ls : List (List ℕ)). l ∷ ls) (sym same) are, is)

lines_one : (lines others : List (List ℕ)) (rest left : List ℕ) → AreLines lines → AreLines others → IsOneLine rest → IsOneLine left
    → flat_map ended lines ++ rest ≡ flat_map ended others ++ left → (lines ≡ others) × (rest ≡ left)
lines_one [] [] rest left a b c d e = (refl, e)
lines_one [] (y ∷ ys) rest left a b c d e =
    absurd (seam-not-lacking 10 y (flat_map ended ys ++ left) (subst (λ x. Lacks 10 x) (e ∙ first_line y (flat_map ended ys) left) c))
lines_one (x ∷ xs) [] rest left a b c d e =
    absurd (seam-not-lacking 10 x (flat_map ended xs ++ rest) (subst (λ y. Lacks 10 y) (sym e ∙ first_line x (flat_map ended xs) rest) d))
lines_one (x ∷ xs) (y ∷ ys) rest left (p, a) (q, b) c d e =
    let parted : x ++ 10 ∷ (flat_map ended xs ++ rest) ≡ y ++ 10 ∷ (flat_map ended ys ++ left) =
    sym (first_line x (flat_map ended xs) rest) ∙ e ∙ first_line y (flat_map ended ys) left in
    let (same, tails) = seam-unique 10 x (flat_map ended xs ++ rest) y (flat_map ended ys ++ left) p q parted in
    let (are, is) = lines_one xs ys rest left a b c d tails in
    (ap₂ (λ (l : List ℕ) (ls : List (List ℕ)). l ∷ ls) same are, is)

pub one_cut : {bytes rest left : List ℕ} {lines others : List (List ℕ)} → IsCut bytes lines rest → IsCut bytes others left
    → (lines ≡ others) × (rest ≡ left)
one_cut {rest = rest} {left = left} {lines = lines} {others = others} c d =
    lines_one lines others rest left c.each d.each c.last d.last (sym c.whole ∙ d.whole)

-- what stands before a line feed, and lacks one, is no longer than the line
pub line_at_most : (line front more behind : List ℕ) → Lacks 10 front → front ++ more ≡ line ++ 10 ∷ behind → length front ≤ length line
line_at_most line [] more behind l e = omega arith
line_at_most [] (x ∷ front) more behind (ne, l) e = let same : x ≡ 10 = cc in absurd (ne same)
line_at_most (y ∷ line) (x ∷ front) more behind (ne, l) e =
    let tails : front ++ more ≡ line ++ 10 ∷ behind = cc in
    let le = line_at_most line front more behind l tails in
    omega arith
