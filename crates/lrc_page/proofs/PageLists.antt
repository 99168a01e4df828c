-- Lemmas on pages and the numbers of pages, for the crates above too.
use Rattle.std.proofs.Common.{ℕ, zero, suc, ◌≡◌, ◌≢◌, ◌+◌, ◌-◌, ◌⊎◌, ◌↔◌, inl, inr, sym, ◌<◌, ◌≤◌, ◌∷◌, [], ◌++◌}
use Rattle.std.proofs.Common.{List, length, get_or, take, replicate, refl, ap, ◌∙◌, ⊎_elim, arith}
use Rattle.std.specs.Prelude.{All, Contains}
use Rattle.std.specs.List.{insert}
use Rattle.std.specs.Option.{ForSome}
use Rattle.std.proofs.lemmas.Bool.{cases_eq, cases_order}
use Rattle.std.proofs.lemmas.List.{take-append-le, take_all}
use Rattle.std.proofs.lemmas.List.Elements.{All-cons}
use Rattle.std.proofs.lemmas.List.Edits.{length-insert, get_or-insert_at, get_or-insert_below, get_or-insert_above}
use Rattle.std.proofs.lemmas.List.Sorted.{IsPermutation-insert, IsPermutation-sym, Contains-permutation, All-permutation}
use Rattle.std.proofs.lemmas.Grind.{get_or_default_zero}
use Rattle.std.proofs.lemmas.List.Quantifiers.{all_pairs_push}
use Rattle.std.proofs.lemmas.Option.{slice_get-get_or}
use Rattle.lrc_page.specs.declared.TheConstants.{MOST_PAGES, MOST_PAGE_WORDS, MOST_WORDS}
use Rattle.lrc_page.specs.declared.size.Size.{Size}
use Rattle.lrc_page.specs.declared.size.Size.TheVariants.{Words64, Words256}
use Rattle.lrc_page.specs.Page.{words_of, zero_page}
use Rattle.lrc_page.specs.Pages.{IsRising, last_page}
use Rattle.lrc_page.specs.Place.{page_of, offset_of, pages_of}

-- ---- sizes

pub words_of-most : (size : Size) → words_of size ≤ 256
words_of-most Words64 = omega arith
words_of-most Words256 = omega arith

-- a list of zeros has zero everywhere
get_or-zeros : (n i : ℕ) → let none : ℕ = 0 in get_or (replicate n none) i none ≡ none
get_or-zeros zero i = refl
get_or-zeros (suc n) zero = refl
get_or-zeros (suc n) (suc i) = get_or-zeros n i

length-zeros : (n : ℕ) → let none : ℕ = 0 in length (replicate n none) ≡ n
length-zeros zero = refl
length-zeros (suc n) = let less = length-zeros n in omega arith

-- a list at the head of a longer one
pub take-whole : (n : ℕ) (xs ys rest : List ℕ) → xs ≡ ys → length ys ≡ n → take n (xs ++ rest) ≡ ys
take-whole n xs ys rest same long =
    let enough : n ≤ length xs = omega (arith, ap length same, long) in
    take-append-le n xs rest enough ∙ take_all n xs (omega (arith, ap length same, long)) ∙ same

-- the first of the most zeros
pub take-zeros : (size : Size) → take (words_of size) (replicate MOST_PAGE_WORDS 0) ≡ zero_page size
unfolding zero_page
take-zeros Words64 = refl
take-zeros Words256 = refl

pub length-zero_page : (size : Size) → length (zero_page size) ≡ words_of size
unfolding zero_page
length-zero_page size = length-zeros (words_of size)

-- ---- the places of words

-- a word is on one of the pages
pub page_of-within : (word words : ℕ) (size : Size) → word < words → page_of word size < pages_of words size
page_of-within word words Words64 below = omega arith
page_of-within word words Words256 below = omega arith

pub offset_of-within : (word : ℕ) (size : Size) → offset_of word size < words_of size
offset_of-within word Words64 = omega arith
offset_of-within word Words256 = omega arith

-- a page and an offset name one word
pub same_place : (a b : ℕ) (size : Size) → page_of a size ≡ page_of b size → offset_of a size ≡ offset_of b size → a ≡ b
same_place a b Words64 pages offsets = omega arith
same_place a b Words256 pages offsets = omega arith

-- ---- numbers of pages, ascending

-- where the last of rising numbers is below one, all are
pub all_pages_below : (pages : List ℕ) (page : ℕ) → IsRising pages → ForSome (last_page pages) (λ last. last < page)
    → All (λ p. p < page) pages
all_pages_below pages page rises below k d h =
    let last = get_or pages (length pages - 1) d in
    let last_is : last < page = below last (slice_get-get_or pages (length pages - 1) d (omega arith)) in
    ⊎_elim
    (λ (here_last : k ≡ length pages - 1). rw here_last last_is)
    (λ (earlier : k ≡ length pages - 1 → ⊥).
    let less : get_or pages k d < last = rises k (length pages - 1) d (omega arith) (omega arith) in
    omega arith)
    (cases_eq k (length pages - 1))

pub rising-push : (pages : List ℕ) (page : ℕ) → IsRising pages → ForSome (last_page pages) (λ last. last < page)
    → IsRising (pages ++ page ∷ [])
rising-push pages page rises below =
    all_pairs_push (λ (p q : ℕ). p < q) pages page rises (all_pages_below pages page rises below)

-- ---- lists of numbers with the same members

tail-rising : (x : ℕ) (xs : List ℕ) → IsRising (x ∷ xs) → IsRising xs
tail-rising x xs rises i j d before within = rises (suc i) (suc j) d (omega arith) (omega (arith, within))

above_head : (x : ℕ) (xs : List ℕ) → IsRising (x ∷ xs) → (p : ℕ) → Contains xs p → x < p
above_head x xs rises p (k, within, same) =
    let less : x < get_or xs k p = rises 0 (suc k) p (omega arith) (omega (arith, within)) in
    omega (arith, less, same)

head_least : (y : ℕ) (ys : List ℕ) → IsRising (y ∷ ys) → (p : ℕ) → Contains (y ∷ ys) p → y ≤ p
head_least y ys rises p (zero, within, same) = omega (arith, same)
head_least y ys rises p (suc k, within, same) =
    let later : Contains ys p = (k, omega (arith, within), same) in
    omega (arith, above_head y ys rises p later)

contains-head : (x : ℕ) (xs : List ℕ) → Contains (x ∷ xs) x
contains-head x xs = (0, omega arith, refl)

contains-tail : (x : ℕ) (xs : List ℕ) (p : ℕ) → Contains xs p → Contains (x ∷ xs) p
contains-tail x xs p (k, within, same) = (suc k, omega (arith, within), same)

contains-past_head : (x : ℕ) (xs : List ℕ) (p : ℕ) → x < p → Contains (x ∷ xs) p → Contains xs p
contains-past_head x xs p above (zero, within, same) = absurd (omega (arith, above, same))
contains-past_head x xs p above (suc k, within, same) = (k, omega (arith, within), same)

-- rising lists with the same members are the same
pub rising_same : (xs ys : List ℕ) → IsRising xs → IsRising ys
    → ((p : ℕ) → Contains xs p → Contains ys p) → ((p : ℕ) → Contains ys p → Contains xs p) → xs ≡ ys
rising_same [] [] rises rises_too onward back = refl
rising_same [] (y ∷ ys) rises rises_too onward back =
    let none : Contains [] y = back y (contains-head y ys) in
    absurd (omega (arith, none.1))
rising_same (x ∷ xs) [] rises rises_too onward back =
    let none : Contains [] x = onward x (contains-head x xs) in
    absurd (omega (arith, none.1))
rising_same (x ∷ xs) (y ∷ ys) rises rises_too onward back =
    let low : y ≤ x = head_least y ys rises_too x (onward x (contains-head x xs)) in
    let high : x ≤ y = head_least x xs rises y (back y (contains-head y ys)) in
    let same : x ≡ y = omega (arith, low, high) in
    let tails : xs ≡ ys =
    rising_same xs ys (tail-rising x xs rises) (tail-rising y ys rises_too)
    (λ p member. contains-past_head y ys p (omega (arith, above_head x xs rises p member, same))
    (onward p (contains-tail x xs p member)))
    (λ p member. contains-past_head x xs p (omega (arith, above_head y ys rises_too p member, same))
    (back p (contains-tail y ys p member))) in
    ap (λ n. n ∷ xs) same ∙ ap (λ l. y ∷ l) tails

-- ---- a number put at its place among rising ones

contains-cons : (x : ℕ) (xs : List ℕ) (p : ℕ) → Contains (x ∷ xs) p → (p ≡ x) ⊎ Contains xs p
contains-cons x xs p (zero, within, same) = inl (sym same)
contains-cons x xs p (suc k, within, same) = inr (k, omega (arith, within), same)

-- the numbers before a place are below the page, and those from there on above it
abbrev pub IsPlaceOf : List ℕ → ℕ → ℕ → Type 0
IsPlaceOf xs page i = record {
  within : i ≤ length xs;
  before : (k : ℕ) → k < i → get_or xs k 0 < page;
  after : (k : ℕ) → i ≤ k → k < length xs → page < get_or xs k 0;
}

pub contains-insert : (xs : List ℕ) (i page p : ℕ) → Contains (insert xs i page) p ↔ ((p ≡ page) ⊎ Contains xs p)
contains-insert xs i page p =
    let moved = IsPermutation-insert xs i page in (
      (λ member.
          contains-cons page xs p
          (Contains-permutation (insert xs i page) (page ∷ xs) p (IsPermutation-sym (page ∷ xs) (insert xs i page) moved) member)),
      (λ either.
          Contains-permutation (page ∷ xs) (insert xs i page) p moved
          (⊎_elim
          (λ (here : p ≡ page). rw here (contains-head page xs))
          (λ (later : Contains xs p). contains-tail page xs p later)
          either)),
    )

above : (xs : List ℕ) (i page : ℕ) → IsRising xs → IsPlaceOf xs page i → (a c d : ℕ) → a ≤ c → i ≤ c → c < length xs
    → (n : ℕ) → n ≡ get_or xs c d → get_or (insert xs i page) a d < n
above xs i page rises place a c d before late within n is =
    let zeroed : get_or xs c d ≡ get_or xs c 0 = get_or_default_zero xs c d within in
    ⊎_elim
    (λ (at : a ≡ i).
    let first : get_or (insert xs i page) a d ≡ page = rw at (get_or-insert_at xs i page d place.within) in
    omega (arith, first, is, zeroed, place.after c late within))
    (λ other.
    ⊎_elim
    (λ (low : a < i).
    let first : get_or (insert xs i page) a d ≡ get_or xs a d = get_or-insert_below xs i page d a low place.within in
    let less : get_or xs a d < get_or xs c d = rises a c d (omega arith) within in
    omega (arith, first, is, less))
    (λ (high : i < a).
    let e = a - 1 in
    let a_is : a ≡ e + 1 = omega arith in
    let first : get_or (insert xs i page) a d ≡ get_or xs e d =
    ap (λ m. get_or (insert xs i page) m d) a_is ∙ get_or-insert_above xs i page d e (omega arith) place.within in
    let less : get_or xs e d < get_or xs c d = rises e c d (omega arith) within in
    omega (arith, first, is, less))
    other)
    (cases_order a i)

pub rising-insert : (xs : List ℕ) (i page : ℕ) → IsRising xs → IsPlaceOf xs page i → IsRising (insert xs i page)
rising-insert xs i page rises place a b d before within =
    let long : length (insert xs i page) ≡ length xs + 1 = length-insert xs i page place.within in
    ⊎_elim
    (λ (at : b ≡ i).
    let second : get_or (insert xs i page) b d ≡ page = rw at (get_or-insert_at xs i page d place.within) in
    let first : get_or (insert xs i page) a d ≡ get_or xs a 0 =
    get_or-insert_below xs i page d a (omega arith) place.within ∙ get_or_default_zero xs a d (omega (arith, place.within)) in
    omega (arith, first, second, place.before a (omega arith)))
    (λ other.
    ⊎_elim
    (λ (low : b < i).
    let first : get_or (insert xs i page) a d ≡ get_or xs a d = get_or-insert_below xs i page d a (omega arith) place.within in
    let second : get_or (insert xs i page) b d ≡ get_or xs b d = get_or-insert_below xs i page d b low place.within in
    omega (arith, first, second, rises a b d before (omega (arith, place.within))))
    (λ (high : i < b).
    let c = b - 1 in
    let b_is : b ≡ c + 1 = omega arith in
    let second : get_or (insert xs i page) b d ≡ get_or xs c d =
    ap (λ m. get_or (insert xs i page) m d) b_is ∙ get_or-insert_above xs i page d c (omega arith) place.within in
    above xs i page rises place a c d (omega arith) (omega arith) (omega (arith, long, within)) (get_or (insert xs i page) b d) second)
    other)
    (cases_order b i)

pub all-insert : (P : ℕ → Type 0) (xs : List ℕ) (i page : ℕ) → All P xs → P page → All P (insert xs i page)
all-insert P xs i page each here =
    All-permutation P (page ∷ xs) (insert xs i page) (IsPermutation-insert xs i page)
    (All-cons P page xs here each)

-- in a rising list without the page, a number that is not above the page leaves all before it below
pub below-page : (xs : List ℕ) (page i : ℕ) → IsRising xs → ¬ (Contains xs page) → i ≤ length xs
    → (0 < i → get_or xs (i - 1) 0 ≤ page) → (k : ℕ) → k < i → get_or xs k 0 < page
below-page xs page i rises other within low k before =
    let last = i - 1 in
    let read : get_or xs last page ≡ get_or xs last 0 = get_or_default_zero xs last page (omega arith) in
    let apart : get_or xs last page ≢ page = λ same. other (last, omega arith, same) in
    ⊎_elim
    (λ (at : k ≡ last). rw at (omega (arith, read, apart, low (omega arith))))
    (λ (earlier : k ≡ last → ⊥).
    let less : get_or xs k 0 < get_or xs last 0 = rises k last 0 (omega arith) (omega arith) in
    omega (arith, less, low (omega arith)))
    (cases_eq k last)
