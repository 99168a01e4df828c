-- The points of a path, read off as they are written.
use Rattle.std.proofs.Common.{◌≡◌, ◌∙◌, ◌++◌, ◌∷◌, [], ◌&&◌, ◌<◌, ◌≤◌, ◌^◌, ℕ, Bool, List, false, true, ap, ap₂, append-nil, append_assoc, arith, codes, decimal, get_or, le-leb, length, refl, suc}
use Rattle.std.specs.Prelude.{cond}
use Rattle.std.proofs.lemmas.Fmt.{decimal_is_IsNumeral_wide}
use Rattle.std.proofs.lemmas.Str.Parse.{digit_at}
use Rattle.lrc_chart_svg.specs.Marks.{begins_with_digit, behind_byte, behind_digits, digits_first, from_height, is_digit}

abbrev AreDigits : List ℕ → Type 0
AreDigits ds = (k : ℕ) → k < length ds → (48 ≤ get_or ds k 0) × (get_or ds k 0 ≤ 57)

decimal_digits : (n : ℕ) → n < 10 ^ 64 → AreDigits (decimal n)
decimal_digits n few = λ k lt. digit_at (decimal n) k (decimal_is_IsNumeral_wide n few).0.1 lt

digit : (d : ℕ) → (48 ≤ d) × (d ≤ 57) → is_digit d ≡ true
digit d h = ap₂ (λ (a b : Bool). a && b) (le-leb 48 d h.0) (le-leb d 57 h.1)

all_behind : (ds s : List ℕ) → AreDigits ds → behind_digits (ds ++ s) ≡ behind_digits s
all_behind [] s are = refl
all_behind (d ∷ ds) s are =
    ap (λ b. cond b (behind_digits (ds ++ s)) (d ∷ (ds ++ s))) (digit d (are 0 (omega arith)))
    ∙ all_behind ds s (λ k lt. are (suc k) (omega (arith, lt)))

all_first : (ds s : List ℕ) → AreDigits ds → digits_first (ds ++ s) ≡ ds ++ digits_first s
all_first [] s are = refl
all_first (d ∷ ds) s are =
    ap (λ b. cond b (d ∷ digits_first (ds ++ s)) []) (digit d (are 0 (omega arith)))
    ∙ ap (λ l. d ∷ l) (all_first ds s (λ k lt. are (suc k) (omega (arith, lt))))

none_first : (s : List ℕ) → begins_with_digit s ≡ false → digits_first s ≡ []
none_first [] none = refl
none_first (first ∷ more) none = ap (λ b. cond b (first ∷ digits_first more) []) none

none_behind : (s : List ℕ) → begins_with_digit s ≡ false → behind_digits s ≡ s
none_behind [] none = refl
none_behind (first ∷ more) none = ap (λ b. cond b (behind_digits more) (first ∷ more)) none

-- as points are written
abbrev pub written : (x y : ℕ) (strokes : List ℕ) → List ℕ
written x y strokes = codes "M" ++ decimal x ++ codes " " ++ decimal y ++ strokes

from_is : (x y : ℕ) (s : List ℕ) → x < 10 ^ 64 → from_height (written x y s) ≡ decimal y ++ s
from_is x y s few =
    let blank : List ℕ = 32 ∷ [] in
    ap (λ l. behind_byte 32 (behind_digits l))
    (ap (λ l. l ++ s) (append_assoc (decimal x) blank (decimal y)) ∙ append_assoc (decimal x) (blank ++ decimal y) s)
    ∙ ap (behind_byte 32) (all_behind (decimal x) (blank ++ decimal y ++ s) (decimal_digits x few))

pub left_is : (x y : ℕ) (s : List ℕ) → x < 10 ^ 64 → digits_first (behind_byte 77 (written x y s)) ≡ decimal x
left_is x y s few =
    let blank : List ℕ = 32 ∷ [] in
    ap digits_first
    (ap (λ l. l ++ s) (append_assoc (decimal x) blank (decimal y)) ∙ append_assoc (decimal x) (blank ++ decimal y) s)
    ∙ all_first (decimal x) (blank ++ decimal y ++ s) (decimal_digits x few) ∙ append-nil (decimal x)

pub start_is : (x y : ℕ) (s : List ℕ) → x < 10 ^ 64 → y < 10 ^ 64 → begins_with_digit s ≡ false
    → digits_first (from_height (written x y s)) ≡ decimal y
start_is x y s few some none =
    ap digits_first (from_is x y s few) ∙ all_first (decimal y) s (decimal_digits y some) ∙ ap (λ l. decimal y ++ l) (none_first s none)
    ∙ append-nil (decimal y)

pub strokes_are : (x y : ℕ) (s : List ℕ) → x < 10 ^ 64 → y < 10 ^ 64 → begins_with_digit s ≡ false
    → behind_digits (from_height (written x y s)) ≡ s
strokes_are x y s few some none =
    ap behind_digits (from_is x y s few) ∙ all_behind (decimal y) s (decimal_digits y some) ∙ none_behind s none
