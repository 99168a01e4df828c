-- Lemmas on interval records and what is stored of them.
use Rattle.std.proofs.Common.{◌≡◌, ◌≢◌, ℕ, ◌<◌, ◌∙◌, true, false, cond, eqb, eqb-true, Some, None, List, []}
use Rattle.std.proofs.Common.{◌∷◌, length, get_or, set, map, refl, ap, sym, ⊎_elim, arith}
use Rattle.std.specs.List.{position, AllPairs}
use Rattle.lrc_page.specs.Pages.{IsRising}
use Rattle.std.proofs.lemmas.Bool.{cases_lt, ne_eqb}
use Rattle.std.proofs.lemmas.List.{get_or-map, length-map}
use Rattle.std.proofs.lemmas.List.Quantifiers.{position-Some}
use Rattle.lrc_page.specs.declared.changes.Change.{Change}
use Rattle.lrc_store.specs.Interval.{IntervalRecord}
use Rattle.lrc_store.specs.Store.{NoticeRecord, interval_of, without_changes, unread, notice_with}
use Rattle.lrc_store.proofs.Places.{map_one, map_none, fails-position_none}

-- the pages of notices made of pages
pub map-unread : (pages : List ℕ) → map (λ notice. notice.page) (map unread pages) ≡ pages
map-unread [] = refl
map-unread (page ∷ pages) = ap (λ rest. page ∷ rest) (map-unread pages)

-- an interval that is stored is that interval
pub interval_of-without_changes : (interval : IntervalRecord) → interval_of (without_changes interval) ≡ interval
interval_of-without_changes interval =
    ap (λ pages. record { node = interval.node; stamp = interval.stamp; pages = pages }) (map-unread interval.pages)

-- ---- one page's notice

-- no page has two notices
pub apart : (notices : List NoticeRecord) → IsRising (map (λ notice. notice.page) notices)
    → (i j : ℕ) (d : NoticeRecord) → i < length notices → j < length notices → i ≢ j
    → (get_or notices i d).page ≢ (get_or notices j d).page
apart notices rising i j d i_in j_in differ same =
    let pages = map (λ (notice : NoticeRecord). notice.page) notices in
    let long : length pages ≡ length notices = length-map notices (λ notice. notice.page) in
    let at_i : get_or pages i d.page ≡ (get_or notices i d).page = get_or-map (λ notice. notice.page) notices i d d.page i_in in
    let at_j : get_or pages j d.page ≡ (get_or notices j d).page = get_or-map (λ notice. notice.page) notices j d d.page j_in in
    let pairs : AllPairs (λ x y. x < y) pages = rising in
    ⊎_elim
    (λ (less : i < j).
    let below : get_or pages i d.page < get_or pages j d.page = pairs i j d.page less (omega arith) in
    absurd (omega arith))
    (λ at_most.
    let below : get_or pages j d.page < get_or pages i d.page = pairs j i d.page (omega arith) (omega arith) in
    absurd (omega arith))
    (cases_lt i j)

pub notice_with-other : (page : ℕ) (changes : List Change) (notice : NoticeRecord)
    → eqb notice.page page ≡ false → notice_with page changes notice ≡ notice
notice_with-other page changes notice other = ap (λ b. cond b (record { page = page; changes = Some changes }) notice) other

pub notice_with-same : (page : ℕ) (changes : List Change) (notice : NoticeRecord) → eqb notice.page page ≡ true
    → notice_with page changes notice ≡ record { page = page; changes = Some changes }
notice_with-same page changes notice same = ap (λ b. cond b (record { page = page; changes = Some changes }) notice) same

-- the notice of a page gets changes
pub map-notice_with : (page : ℕ) (changes : List Change) (notices : List NoticeRecord) (place : ℕ)
    → IsRising (map (λ notice. notice.page) notices)
    → position (λ notice. eqb notice.page page) notices ≡ Some place
    → map (notice_with page changes) notices ≡ set notices place (record { page = page; changes = Some changes })
map-notice_with page changes notices place rising found =
    map_one (notice_with page changes) notices place _
    (λ d within. notice_with-same page changes _ (position-Some _ notices place d found).1)
    (λ k d within differ.
    let passed = position-Some _ notices place d found in
    let there : (get_or notices place d).page ≡ page = eqb-true _ _ passed.1 in
    notice_with-other page changes _
    (ne_eqb _ _ (λ same. apart notices rising k place d within passed.0 differ (same ∙ sym there))))

-- a page without a notice gets none
pub map-notice_with_none : (page : ℕ) (changes : List Change) (notices : List NoticeRecord)
    → position (λ notice. eqb notice.page page) notices ≡ None → map (notice_with page changes) notices ≡ notices
map-notice_with_none page changes notices none =
    map_none (notice_with page changes) notices
    (λ k d within. notice_with-other page changes _ (fails-position_none _ notices none k d within))
