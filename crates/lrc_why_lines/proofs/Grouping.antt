-- Words by their pages: the first page, and the others.
use Rattle.std.proofs.Common.{◌≡◌, ℕ, zero, suc, ◌+◌, ◌-◌, ◌<◌, ◌≤◌, ◌/◌, ◌∙◌, List, [], ◌∷◌, ◌++◌, length, take, drop, get_or, refl, sym, ap, arith, zero-add, length-drop}
use Rattle.std.specs.Prelude.{◌==◌, Bool, true, false, if◌then◌else◌}
use Rattle.std.proofs.lemmas.Bool.{eqb-true, eq-eqb, false_from_ne_true}
use Rattle.std.proofs.lemmas.List.{take-append-drop, get_or-drop, get_or-take, length-take-le}
use Rattle.lrc_why_lines.specs.Pages.{on_page, pages_of}

drop_nil : (n : ℕ) → drop n (let none : List ℕ = [] in none) ≡ []
drop_nil zero = refl
drop_nil (suc n) = refl

drop_more : (xs : List ℕ) (i n : ℕ) → drop n (drop i xs) ≡ drop (i + n) xs
drop_more xs zero n = rw (zero-add n) refl
drop_more [] (suc i) n = drop_nil n ∙ sym (drop_nil (suc i + n))
drop_more (x ∷ xs) (suc i) n = let e : suc i + n ≡ suc (i + n) = omega arith in rw e (drop_more xs i n)

pick : (y f : ℕ) (page : List ℕ) (pages : List (List ℕ)) (b : Bool)
    → (front : List ℕ) × (others : List (List ℕ)) × ((if b then (y ∷ f ∷ page) ∷ pages else (y ∷ []) ∷ (f ∷ page) ∷ pages) ≡ (y ∷ front) ∷ others)
pick y f page pages true = (f ∷ page, pages, refl)
pick y f page pages false = ([], (f ∷ page) ∷ pages, refl)

-- the first page begins with the word
begins : (size y : ℕ) (pages : List (List ℕ)) → (front : List ℕ) × (others : List (List ℕ)) × (on_page size y pages ≡ (y ∷ front) ∷ others)
begins size y [] = ([], [], refl)
begins size y ([] ∷ pages) = ([], pages, refl)
begins size y ((f ∷ page) ∷ pages) = pick y f page pages ((y / size) == (f / size))

other_page : (size x y : ℕ) (front : List ℕ) (others : List (List ℕ)) → (x / size ≡ y / size → ⊥)
    → on_page size x ((y ∷ front) ∷ others) ≡ (x ∷ []) ∷ (y ∷ front) ∷ others
other_page size x y front others apart =
    let no : ((x / size) == (y / size)) ≡ false = false_from_ne_true _ (λ t. apart (eqb-true (x / size) (y / size) t)) in
    rw no refl

same_page : (size x y : ℕ) (front : List ℕ) (others : List (List ℕ)) → x / size ≡ y / size
    → on_page size x ((y ∷ front) ∷ others) ≡ (x ∷ y ∷ front) ∷ others
same_page size x y front others same =
    let yes : ((x / size) == (y / size)) ≡ true = eq-eqb (x / size) (y / size) same in
    rw yes refl

group : (size x : ℕ) (xs ys : List ℕ) → ((k : ℕ) → k < length xs → get_or xs k 0 / size ≡ x / size)
    → (0 < length ys → get_or ys 0 0 / size ≡ x / size → ⊥) → pages_of size ((x ∷ xs) ++ ys) ≡ (x ∷ xs) ∷ pages_of size ys
group size x [] [] same apart = refl
group size x [] (y ∷ ys) same apart =
    let (front, others, is) = begins size y (pages_of size ys) in
    ap (λ (pages : List (List ℕ)). on_page size x pages) is
    ∙ other_page size x y front others (λ e. apart (omega arith) (sym e))
    ∙ ap (λ (pages : List (List ℕ)). (x ∷ []) ∷ pages) (sym is)
group size x (z ∷ xs) ys same apart =
    let here : z / size ≡ x / size = same 0 (omega arith) in
    let later = group size z xs ys (λ k lt. same (suc k) (omega arith) ∙ sym here) (λ some e. apart some (e ∙ here)) in
    ap (λ (pages : List (List ℕ)). on_page size x pages) later ∙ same_page size x z xs (pages_of size ys) (sym here)

group_list : (size p : ℕ) (xs ys : List ℕ) → 0 < length xs → ((k : ℕ) → k < length xs → get_or xs k 0 / size ≡ p)
    → (0 < length ys → get_or ys 0 0 / size ≡ p → ⊥) → pages_of size (xs ++ ys) ≡ xs ∷ pages_of size ys
group_list size p [] ys some same apart = absurd (omega arith)
group_list size p (x ∷ xs) ys some same apart =
    let here : x / size ≡ p = same 0 (omega arith) in
    group size x xs ys (λ k lt. same (suc k) (omega arith) ∙ sym here) (λ more e. apart more (e ∙ here))

-- the page of the word at a place ends where the words of another page begin
pub first_page : (size : ℕ) (words : List ℕ) (start end : ℕ) → start < end → end ≤ length words
    → ((k : ℕ) → start ≤ k → k < end → get_or words k 0 / size ≡ get_or words start 0 / size)
    → (end < length words → get_or words end 0 / size ≡ get_or words start 0 / size → ⊥)
    → pages_of size (drop start words) ≡ take (end - start) (drop start words) ∷ pages_of size (drop end words)
first_page size words start end lt le same apart =
    let rest = drop start words in
    let many = end - start in
    let page = take many rest in
    let sum : start + many ≡ end = omega arith in
    let after : drop many rest ≡ drop end words = drop_more words start many ∙ ap (λ n. drop n words) sum in
    let long_rest : length rest ≡ length words - start = simp length-drop refl in
    let long : length page ≡ many = length-take-le many rest (omega arith) in
    let long_after : length (drop end words) ≡ length words - end = simp length-drop refl in
    let split : page ++ drop end words ≡ rest = ap (λ l. page ++ l) (sym after) ∙ take-append-drop many rest in
    ap (pages_of size) (sym split)
    ∙ group_list size (get_or words start 0 / size) page (drop end words) (omega arith)
    (λ k less. ap (λ n. n / size) (get_or-take many rest k 0 (omega arith) ∙ get_or-drop start words k 0) ∙ same (start + k) (omega arith) (omega arith))
    (λ some e.
    let at : get_or (drop end words) 0 0 ≡ get_or words (end + 0) 0 = get_or-drop end words 0 0 in
    let plain : end + 0 ≡ end = omega arith in
    apart (omega arith) (ap (λ n. n / size) (sym (at ∙ ap (λ n. get_or words n 0) plain)) ∙ e))
