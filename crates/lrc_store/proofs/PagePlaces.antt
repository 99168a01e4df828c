-- A page among pages that ascend, and its notice.
use Rattle.std.proofs.Common.{◌≡◌, ℕ, ◌<◌, ◌≤◌, ◌+◌, ◌∙◌, Bool, true, not, cond, eqb, eqb-true, ltb, Option, None, Some, List, [], ◌∷◌, length}
use Rattle.std.proofs.Common.{get_or, map, refl, ap, sym, ⊎_elim, arith}
use Rattle.std.specs.List.{position, position_or_len}
use Rattle.std.proofs.lemmas.Bool.{true≢false, cases_lt, eq-eqb, lt-ltb, ltb-true}
use Rattle.std.proofs.lemmas.List.{length-map}
use Rattle.std.proofs.lemmas.List.Quantifiers.{position-Some}
use Rattle.lrc_page.specs.Pages.{IsRising}
use Rattle.lrc_store.specs.Store.{NoticeRecord}
use Rattle.lrc_store.proofs.Places.{fails-position_none}

module _ (pages : List ℕ) (page : ℕ) (rising : IsRising pages) where
  abbrev on_page : ℕ → Bool
  on_page named = eqb named page

  -- pages ascend with their places
  above : (i j d : ℕ) → i < j → j < length pages → get_or pages i d < get_or pages j d
  above i j d less within = rising i j d less within

  pub page_place-none : (d : ℕ) → ((k : ℕ) → k < length pages → get_or pages k d ≡ page → ⊥)
      → position on_page pages ≡ None
  page_place-none d never = by_found (position on_page pages) refl
    where
      by_found : (r : Option ℕ) → position on_page pages ≡ r → position on_page pages ≡ None
      by_found None is = is
      by_found (Some k) is =
          let passed = position-Some on_page pages k d is in
          absurd (never k passed.0 (eqb-true _ _ passed.1))

  pub page_place-some : (k : ℕ) (d : ℕ) → k < length pages → get_or pages k d ≡ page
      → position on_page pages ≡ Some k
  page_place-some k d within here = by_found (position on_page pages) refl
    where
      by_found : (r : Option ℕ) → position on_page pages ≡ r → position on_page pages ≡ Some k
      by_found None none = absurd (true≢false (sym (eq-eqb _ _ here) ∙ fails-position_none on_page pages none k d within))
      by_found (Some j) some =
          let passed = position-Some on_page pages j d some in
          let there : get_or pages j d ≡ page = eqb-true _ _ passed.1 in
          some ∙ ap Some
          (⊎_elim
          (λ (less : j < k). absurd (omega (arith, above j k d less within, here, there)))
          (λ (past : k ≤ j).
          ⊎_elim
          (λ (more : k < j). absurd (omega (arith, above k j d more passed.0, here, there)))
          (λ (not_more : j ≤ k). omega (arith, past, not_more))
          (cases_lt k j))
          (cases_lt j k))

  -- where pages below are parted from the others, and the first of these is another page, there is none
  pub page_place-parted : (place : ℕ) (d : ℕ) → ((k : ℕ) → k < place → get_or pages k d < page)
      → (place < length pages → page < get_or pages place d) → position on_page pages ≡ None
  page_place-parted place d below beyond =
      page_place-none d
      (λ k within here.
      ⊎_elim
      (λ (less : k < place). omega (arith, below k less, here))
      (λ (past : place ≤ k).
      ⊎_elim
      (λ (more : place < k). omega (arith, above place k d more within, beyond (omega (arith, more, within)), here))
      (λ (not_more : k ≤ place).
      let same : k ≡ place = omega (arith, past, not_more) in
      omega (arith, beyond (omega (arith, within, same)), ap (λ n. get_or pages n d) same, here))
      (cases_lt place k))
      (cases_lt k place))

  -- what parts them
  pub parts : (i j : ℕ) (d : ℕ) → i ≤ j → j < length pages → ltb (get_or pages j d) page ≡ true
      → ltb (get_or pages i d) page ≡ true
  parts i j d less within low =
      ⊎_elim
      (λ (before : i < j). lt-ltb _ _ (omega (arith, above i j d before within, ltb-true _ _ low)))
      (λ (not_before : j ≤ i). ap (λ n. ltb (get_or pages n d) page) (let same : i ≡ j = omega (arith, less, not_before) in same) ∙ low)
      (cases_lt i j)

-- a page has its notice where it stands itself
places-same : (notices : List NoticeRecord) (page : ℕ)
    → position_or_len (λ notice. eqb notice.page page) notices ≡ position_or_len (λ named. eqb named page) (map (λ notice. notice.page) notices)
places-same [] page = refl
places-same (n ∷ notices) page = ap (λ rest. cond (not (eqb n.page page)) (1 + rest) 0) (places-same notices page)

pub position-pages : (notices : List NoticeRecord) (page : ℕ)
    → position (λ notice. eqb notice.page page) notices ≡ position (λ named. eqb named page) (map (λ notice. notice.page) notices)
position-pages notices page =
    let places = places-same notices page in
    let long = length-map notices (λ (notice : NoticeRecord). notice.page) in
    cc (places, long)
