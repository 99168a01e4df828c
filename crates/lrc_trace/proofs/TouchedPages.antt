-- Lemmas on words by their pages, for the crates above too.
use Rattle.std.proofs.Common.{ℕ, zero, suc, ◌≡◌, ◌≢◌, ◌+◌, ◌<◌, ◌≤◌, ◌∙◌, ◌||◌, ◌&&◌, Bool, true, false, List, [], ◌∷◌}
use Rattle.std.proofs.Common.{length, get_or, set, eqb, refl, ap, sym, ⊎_elim, arith, lt-ltb, le-ltb}
use Rattle.std.specs.Prelude.{All}
use Rattle.std.specs.List.{insert}
use Rattle.std.proofs.lemmas.Bool.{cases_eq, cases_lt, eq-eqb, ne_eqb}
use Rattle.std.proofs.lemmas.List.{get_or_default, get_or-map, length-map}
use Rattle.std.proofs.lemmas.List.Elements.{All-set, All-cons}
use Rattle.std.proofs.lemmas.List.Sorted.{All-permutation, IsPermutation-insert}
use Rattle.std.proofs.Math.Seq.{map-set_same}
use Rattle.lrc_page.specs.Mask.{has, no_offsets, with_offset}
use Rattle.lrc_page.specs.Pages.{IsRising}
use Rattle.lrc_page.proofs.Masks.{has-with_offset, has-no_offsets, length-with_offset}
use Rattle.lrc_page.proofs.PageLists.{rising-insert}
use Rattle.lrc_trace.specs.declared.touched.TouchedPage.{TouchedPage}
use Rattle.lrc_trace.specs.Touched.{has_word, one_word, with_word, numbers_of, IsTouched}

-- ---- the place of a page

-- a page's number in the list of numbers
number_at : (pages : List TouchedPage) (k : ℕ) (d : TouchedPage) (e : ℕ) → k < length pages
    → get_or (numbers_of pages) k e ≡ (get_or pages k d).page
number_at pages k d e within = get_or-map (λ t. t.page) pages k d e within

-- pages ascend, so a later one has no lower number
pub rising_at : (pages : List TouchedPage) → IsRising (numbers_of pages) → (i j : ℕ) (d : TouchedPage) → i ≤ j → j < length pages
    → (get_or pages i d).page ≤ (get_or pages j d).page
rising_at pages rising i j d before within =
    ⊎_elim
    (λ (same : i ≡ j). rw same (omega arith))
    (λ (apart : i ≡ j → ⊥).
    let long : length (numbers_of pages) ≡ length pages = length-map pages (λ t. t.page) in
    let less : get_or (numbers_of pages) i 0 < get_or (numbers_of pages) j 0 = rising i j 0 (omega arith) (omega arith) in
    omega (arith, number_at pages i d 0 (omega arith), number_at pages j d 0 within, less))
    (cases_eq i j)

-- what a look at the page at a place says of those before it and after it
pub below_at : (pages : List TouchedPage) → IsRising (numbers_of pages) → (t : TouchedPage) (m page : ℕ) → m < length pages
    → (get_or pages m t).page < page → (k : ℕ) (d : TouchedPage) → k < m + 1 → (get_or pages k d).page < page
below_at pages rising t m page within less k d before =
    let last : (get_or pages m d).page ≡ (get_or pages m t).page = ap (λ (p : TouchedPage). p.page) (get_or_default pages m d t within) in
    omega (arith, rising_at pages rising k m d (omega arith) within, last)

pub above_at : (pages : List TouchedPage) → IsRising (numbers_of pages) → (t : TouchedPage) (m page : ℕ)
    → page ≤ (get_or pages m t).page → (k : ℕ) (d : TouchedPage) → m ≤ k → k < length pages → page ≤ (get_or pages k d).page
above_at pages rising t m page least k d after within =
    let first : (get_or pages m d).page ≡ (get_or pages m t).page =
    ap (λ (p : TouchedPage). p.page) (get_or_default pages m d t (omega arith)) in
    omega (arith, rising_at pages rising m k d after within, first)

pub above_strictly : (pages : List TouchedPage) → IsRising (numbers_of pages) → (t : TouchedPage) (m page : ℕ)
    → page ≤ (get_or pages m t).page → t ≡ get_or pages m t → t.page ≢ page
    → (k : ℕ) (d : TouchedPage) → m ≤ k → k < length pages → page < (get_or pages k d).page
above_strictly pages rising t m page least is other k d after within =
    let here : t.page ≡ (get_or pages m t).page = ap (λ (p : TouchedPage). p.page) is in
    let apart : page ≢ t.page = λ same. other (sym same) in
    let low : page + 1 ≤ (get_or pages m t).page = omega arith in
    let high : page + 1 ≤ (get_or pages k d).page = above_at pages rising t m (page + 1) low k d after within in
    omega arith

-- ---- one word more

-- the page is there
pub with_word-found : (page offset : ℕ) (pages : List TouchedPage) (n : ℕ) (d : TouchedPage) → n < length pages
    → ((k : ℕ) → k < n → (get_or pages k d).page < page) → (get_or pages n d).page ≡ page
    → with_word page offset pages ≡ set pages n (record { page = page; mask = with_offset (get_or pages n d).mask offset })
with_word-found page offset [] n d within before found = absurd (omega arith)
with_word-found page offset (t ∷ ts) zero d within before found =
    rw (le-ltb t.page page (omega arith), eq-eqb t.page page found)
    (ap (λ number. record { page = number; mask = with_offset t.mask offset } ∷ ts) found)
with_word-found page offset (t ∷ ts) (suc n) d within before found =
    rw (lt-ltb t.page page (before 0 (omega arith)))
    (ap (λ rest. t ∷ rest) (with_word-found page offset ts n d (omega arith) (λ k h. before (suc k) (omega arith)) found))

-- the page is not there
pub with_word-missing : (page offset : ℕ) (pages : List TouchedPage) (n : ℕ) (d : TouchedPage) → n ≤ length pages
    → ((k : ℕ) → k < n → (get_or pages k d).page < page) → (n < length pages → page < (get_or pages n d).page)
    → with_word page offset pages ≡ insert pages n (one_word page offset)
with_word-missing page offset [] zero d within before after = refl
with_word-missing page offset [] (suc n) d within before after = absurd (omega arith)
with_word-missing page offset (t ∷ ts) zero d within before after =
    rw (le-ltb t.page page (omega (arith, after (omega arith))), ne_eqb t.page page (λ same. omega (arith, after (omega arith)))) refl
with_word-missing page offset (t ∷ ts) (suc n) d within before after =
    rw (lt-ltb t.page page (before 0 (omega arith)))
    (ap (λ rest. t ∷ rest)
    (with_word-missing page offset ts n d (omega arith) (λ k h. before (suc k) (omega arith)) (λ h. after (omega arith))))

-- what is kept of the pages stays
map-insert : (pages : List TouchedPage) (n : ℕ) (t : TouchedPage)
    → numbers_of (insert pages n t) ≡ insert (numbers_of pages) n t.page
map-insert [] zero t = refl
map-insert [] (suc n) t = refl
map-insert (p ∷ ps) zero t = refl
map-insert (p ∷ ps) (suc n) t = ap (λ rest. p.page ∷ rest) (map-insert ps n t)

pub touched-found : (page offset : ℕ) (pages : List TouchedPage) (n : ℕ) (d : TouchedPage) → n < length pages
    → (get_or pages n d).page ≡ page → IsTouched pages
    → IsTouched (set pages n (record { page = page; mask = with_offset (get_or pages n d).mask offset }))
touched-found page offset pages n d within found is =
    let t : TouchedPage = record { page = page; mask = with_offset (get_or pages n d).mask offset } in
    record {
      rising = rw (map-set_same (λ (p : TouchedPage). p.page) pages n t d (sym found)) is.rising;
      masks =
          All-set (λ p. length p.mask ≡ 4) pages n t
          (length-with_offset (get_or pages n d).mask offset ∙ is.masks n d within) is.masks;
    }

pub touched-missing : (page offset : ℕ) (pages : List TouchedPage) (n : ℕ) (d : TouchedPage) → n ≤ length pages
    → ((k : ℕ) → k < n → (get_or pages k d).page < page)
    → ((k : ℕ) → n ≤ k → k < length pages → page < (get_or pages k d).page) → IsTouched pages
    → IsTouched (insert pages n (one_word page offset))
touched-missing page offset pages n d within before after is =
    let long : length (numbers_of pages) ≡ length pages = length-map pages (λ t. t.page) in
    record {
      rising =
          rw (map-insert pages n (one_word page offset))
          (rising-insert (numbers_of pages) n page is.rising (record {
            within = omega arith;
            before = λ k h. rw (number_at pages k d 0 (omega arith)) (before k h);
            after = λ k h w. rw (number_at pages k d 0 (omega arith)) (after k h (omega arith));
          }));
      masks =
          All-permutation (λ p. length p.mask ≡ 4) _ _ (IsPermutation-insert pages n (one_word page offset))
          (All-cons (λ p. length p.mask ≡ 4) (one_word page offset) pages (length-with_offset no_offsets offset) is.masks);
    }

-- ---- the words

-- one word of two
either : (new old rest : Bool) → ((new || old) || rest) ≡ (new || (old || rest))
either true old rest = refl
either false old rest = refl

behind : (first new rest : Bool) → (first || (new || rest)) ≡ (new || (first || rest))
behind true true rest = refl
behind true false rest = refl
behind false new rest = refl

on_page : (here new old : Bool) → (here && (new || old)) ≡ ((here && new) || (here && old))
on_page true new old = refl
on_page false new old = refl

alone : (new : Bool) → (new || false) ≡ new
alone true = refl
alone false = refl

has-one_word : (page offset p o : ℕ) → offset < 256
    → (eqb page p && has (with_offset no_offsets offset) o) ≡ (eqb page p && eqb o offset)
has-one_word page offset p o small =
    ap (λ there. eqb page p && there)
    (has-with_offset no_offsets offset o refl small ∙ ap (λ old. eqb o offset || old) (has-no_offsets o) ∙ alone (eqb o offset))

-- a word is there if it is the new one or was there
pub has_word-with_word : (page offset : ℕ) (pages : List TouchedPage) (p o : ℕ) → offset < 256
    → All (λ t. length t.mask ≡ 4) pages
    → has_word (with_word page offset pages) p o ≡ ((eqb page p && eqb o offset) || has_word pages p o)
has_word-with_word page offset [] p o small masks = ap (λ there. there || false) (has-one_word page offset p o small)
has_word-with_word page offset (t ∷ ts) p o small masks =
    let new = eqb page p && eqb o offset in
    let first = eqb t.page p && has t.mask o in
    ⊎_elim
    (λ (below : t.page < page).
    rw (lt-ltb t.page page below)
    (ap (λ rest. first || rest) (has_word-with_word page offset ts p o small (λ k d h. masks (suc k) d (omega arith)))
    ∙ behind first new (has_word ts p o)))
    (λ (above : page ≤ t.page).
    ⊎_elim
    (λ (same : t.page ≡ page).
    rw (le-ltb t.page page above, eq-eqb t.page page same)
    (ap (λ there. (eqb t.page p && there) || has_word ts p o) (has-with_offset t.mask offset o (masks 0 t (omega arith)) small)
    ∙ ap (λ there. there || has_word ts p o) (on_page (eqb t.page p) (eqb o offset) (has t.mask o))
    ∙ ap (λ number. ((eqb number p && eqb o offset) || first) || has_word ts p o) same
    ∙ either new first (has_word ts p o)))
    (λ (apart : t.page ≡ page → ⊥).
    rw (le-ltb t.page page above, ne_eqb t.page page apart)
    (ap (λ there. there || (first || has_word ts p o)) (has-one_word page offset p o small)))
    (cases_eq t.page page))
    (cases_lt t.page page)

-- ---- what is kept of the pages

-- where a page belongs
record HasPlace (pages : List TouchedPage) (page : ℕ) (d : TouchedPage) : Type 0 where
  place : ℕ
  within : place ≤ length pages
  before : (k : ℕ) → k < place → (get_or pages k d).page < page
  after : (k : ℕ) → place ≤ k → k < length pages → page ≤ (get_or pages k d).page

before_next : (t : TouchedPage) (ts : List TouchedPage) (page : ℕ) (d : TouchedPage) (n : ℕ) → t.page < page
    → ((k : ℕ) → k < n → (get_or ts k d).page < page) → (k : ℕ) → k < suc n → (get_or (t ∷ ts) k d).page < page
before_next t ts page d n below before zero h = below
before_next t ts page d n below before (suc k) h = before k (omega arith)

after_next : (t : TouchedPage) (ts : List TouchedPage) (page : ℕ) (d : TouchedPage) (n : ℕ)
    → ((k : ℕ) → n ≤ k → k < length ts → page ≤ (get_or ts k d).page)
    → (k : ℕ) → suc n ≤ k → k < length (t ∷ ts) → page ≤ (get_or (t ∷ ts) k d).page
after_next t ts page d n after zero h w = absurd (omega arith)
after_next t ts page d n after (suc k) h w = after k (omega arith) (omega (arith, w))

has_place : (pages : List TouchedPage) (page : ℕ) (d : TouchedPage) → IsRising (numbers_of pages) → HasPlace pages page d
has_place [] page d rising =
    record { place = 0; within = omega arith; before = λ k h. absurd (omega arith); after = λ k h w. absurd (omega arith) }
has_place (t ∷ ts) page d rising =
    ⊎_elim
    (λ (below : t.page < page).
    let rest = has_place ts page d (λ i j e before within. rising (suc i) (suc j) e (omega arith) (omega (arith, within))) in
    record {
      place = suc rest.place;
      within = omega (arith, rest.within);
      before = before_next t ts page d rest.place below rest.before;
      after = after_next t ts page d rest.place rest.after;
    })
    (λ (above : page ≤ t.page). record {
      place = 0;
      within = omega arith;
      before = λ k h. absurd (omega arith);
      after = λ k h w. above_at (t ∷ ts) rising d 0 page above k d (omega arith) w;
    })
    (cases_lt t.page page)

pub touched-with_word : (page offset : ℕ) (pages : List TouchedPage) → IsTouched pages → IsTouched (with_word page offset pages)
touched-with_word page offset pages is =
    let d : TouchedPage = one_word page offset in
    let at = has_place pages page d is.rising in
    ⊎_elim
    (λ (within : at.place < length pages).
    ⊎_elim
    (λ (found : (get_or pages at.place d).page ≡ page).
    rw (with_word-found page offset pages at.place d within at.before found) (touched-found page offset pages at.place d within found is))
    (λ (apart : (get_or pages at.place d).page ≡ page → ⊥).
    let t = get_or pages at.place d in
    let same : t ≡ get_or pages at.place t = get_or_default pages at.place d t within in
    let least : page ≤ (get_or pages at.place t).page =
    omega (arith, at.after at.place (omega arith) within, ap (λ (p : TouchedPage). p.page) same) in
    let after : (k : ℕ) → at.place ≤ k → k < length pages → page < (get_or pages k d).page =
    λ k. above_strictly pages is.rising t at.place page least same apart k d in
    rw (with_word-missing page offset pages at.place d at.within at.before (λ h. after at.place (omega arith) h))
    (touched-missing page offset pages at.place d at.within at.before after is))
    (cases_eq (get_or pages at.place d).page page))
    (λ (past : length pages ≤ at.place).
    rw (with_word-missing page offset pages at.place d at.within at.before (λ h. absurd (omega arith)))
    (touched-missing page offset pages at.place d at.within at.before (λ k late low. absurd (omega arith)) is))
    (cases_lt at.place (length pages))
