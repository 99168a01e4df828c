-- One page of one interval, as its notice stands in the arena.
use Rattle.std.proofs.Common.{◌≡◌, ℕ, ◌+◌, ◌<◌, ◌∙◌, eqb, eqb-true, List, None, Some, length, get_or, set, map, take, drop, ap, sym, subst, arith}
use Rattle.std.specs.List.{position}
use Rattle.std.specs.Option.{is_some}
use Rattle.std.proofs.Math.Seq.{map-set_same}
use Rattle.std.proofs.lemmas.List.{get_or-map, get_or-take, get_or-drop, length-map, set-get_or}
use Rattle.std.proofs.lemmas.List.Folds.{length-flat_map-take}
use Rattle.std.proofs.lemmas.List.Quantifiers.{position-Some}
use Rattle.lrc_page.specs.declared.changes.Change.{Change}
use Rattle.lrc_page.specs.Pages.{IsRising}
use Rattle.lrc_store.specs.Arena.{NotedRecord, notice_in, rank_of, stored_from}
use Rattle.lrc_store.specs.Interval.{IntervalRecord}
use Rattle.lrc_store.specs.Links.{ranked_of}
use Rattle.lrc_store.specs.Lists.{keys_of}
use Rattle.lrc_store.specs.Store.{NoticeRecord, StoredRecord, interval_of, key_of, notice_of, notice_with}
use Rattle.lrc_store.proofs.Arenas.{intervals_of-stored, interval_of-stored, stored-at, stored-set}
use Rattle.lrc_store.proofs.LinkedStores.{count_of-noted}
use Rattle.lrc_store.proofs.PagePlaces.{position-pages}
use Rattle.lrc_store.proofs.Places.{find-position, find-position_none, is_some-position}
use Rattle.lrc_store.proofs.Records.{map-notice_with, map-notice_with_none}
use Rattle.lrc_store.proofs.Starts.{count_of}

module _ (intervals : List IntervalRecord) (noted : List NotedRecord) (are : map rank_of noted ≡ ranked_of intervals)
    (at : ℕ) (i : IntervalRecord) (within : at < length intervals) where
  -- where the interval's notices begin, in the intervals as they are stored
  pub start_there : (start : ℕ) → start ≡ count_of (take at (map interval_of (stored_from intervals noted))) → start ≡ count_of (take at intervals)
  start_there start is = is ∙ ap (λ (l : List IntervalRecord). count_of (take at l)) (intervals_of-stored intervals noted are)

  -- the pages of its notices are its pages
  pages_there : (d : StoredRecord)
      → map (λ notice. notice.page) (get_or (stored_from intervals noted) at d).notices ≡ (get_or intervals at i).pages
  pages_there d = ap (λ (j : IntervalRecord). j.pages) (interval_of-stored intervals noted at i d within are)

  place_there : (page : ℕ) (d : StoredRecord)
      → position (λ notice. eqb notice.page page) (get_or (stored_from intervals noted) at d).notices
      ≡ position (λ named. eqb named page) (get_or intervals at i).pages
  place_there page d =
      position-pages (get_or (stored_from intervals noted) at d).notices page
      ∙ ap (position (λ named. eqb named page)) (pages_there d)

  -- it has a notice of just the pages that it names
  pub has_there : (page : ℕ) (d : StoredRecord)
      → is_some (position (λ named. eqb named page) (get_or intervals at i).pages)
      ≡ is_some (notice_of page (get_or (stored_from intervals noted) at d))
  has_there page d =
      ap is_some (sym (place_there page d))
      ∙ is_some-position (λ notice. eqb notice.page page) (get_or (stored_from intervals noted) at d).notices

  -- a page that it does not name has no notice
  pub no_notice : (page : ℕ) (d : StoredRecord) → position (λ named. eqb named page) (get_or intervals at i).pages ≡ None
      → notice_of page (get_or (stored_from intervals noted) at d) ≡ None
  no_notice page d none =
      find-position_none (λ notice. eqb notice.page page) (get_or (stored_from intervals noted) at d).notices (place_there page d ∙ none)

  pub no_notice_written : (page : ℕ) (changes : List Change) (d : StoredRecord)
      → position (λ named. eqb named page) (get_or intervals at i).pages ≡ None
      → stored_from intervals noted
      ≡ set (stored_from intervals noted) at
      (record (get_or (stored_from intervals noted) at d) {
        notices = map (notice_with page changes) (get_or (stored_from intervals noted) at d).notices;
      })
  no_notice_written page changes d none =
      let stored = stored_from intervals noted in
      let here = get_or stored at d in
      sym (ap (λ (notices : List NoticeRecord). set stored at (record here { notices = notices }))
      (map-notice_with_none page changes here.notices (place_there page d ∙ none))
      ∙ set-get_or stored at d)

  module _ (page offset : ℕ) (found : position (λ named. eqb named page) (get_or intervals at i).pages ≡ Some offset) where
    inside : offset < length (get_or intervals at i).pages
    inside = (position-Some (λ named. eqb named page) (get_or intervals at i).pages offset 0 found).0

    -- its notice is one of those that there are
    pub notice_within : count_of (take at intervals) + offset < length noted
    notice_within =
        omega (
          arith,
          inside,
          length-flat_map-take keys_of intervals at i within,
          length-map (get_or intervals at i).pages (λ page. key_of page (get_or intervals at i)),
          count_of-noted intervals (map rank_of noted) are,
          length-map noted rank_of,
        )

    read_there : (d : StoredRecord) (e : NoticeRecord) (n : NotedRecord)
        → get_or (get_or (stored_from intervals noted) at d).notices offset e ≡ notice_in (get_or noted (count_of (take at intervals) + offset) n)
    read_there d e n =
        let interval = get_or intervals at i in
        let behind = drop (count_of (take at intervals)) noted in
        let long : offset < length (take (length interval.pages) behind) =
        omega (
          arith,
          inside,
          ap (λ (s : StoredRecord). length s.notices) (stored-at intervals noted at i d within),
          length-map (take (length interval.pages) behind) notice_in,
          ap length (pages_there d),
          length-map (get_or (stored_from intervals noted) at d).notices (λ (notice : NoticeRecord). notice.page),
        ) in
        ap (λ (s : StoredRecord). get_or s.notices offset e) (stored-at intervals noted at i d within)
        ∙ get_or-map notice_in (take (length interval.pages) behind) offset n e long
        ∙ ap notice_in (get_or-take (length interval.pages) behind offset n inside ∙ get_or-drop (count_of (take at intervals)) noted offset n)

    -- the notice that a look-up finds
    pub notice_there : (d : StoredRecord) (n : NotedRecord)
        → notice_of page (get_or (stored_from intervals noted) at d) ≡ Some (notice_in (get_or noted (count_of (take at intervals) + offset) n))
    notice_there d n =
        find-position (λ notice. eqb notice.page page) (get_or (stored_from intervals noted) at d).notices offset (notice_in n)
        (place_there page d ∙ found)
        ∙ ap Some (read_there d (notice_in n) n)

    -- the notice gets changes
    pub notice_written : (changes : List Change) (old : NotedRecord) (d : StoredRecord) → IsRising (get_or intervals at i).pages
        → old ≡ get_or noted (count_of (take at intervals) + offset) old
        → stored_from intervals (set noted (count_of (take at intervals) + offset) (record old { changes = Some changes }))
        ≡ set (stored_from intervals noted) at
        (record (get_or (stored_from intervals noted) at d) {
          notices = map (notice_with page changes) (get_or (stored_from intervals noted) at d).notices;
        })
    notice_written changes old d rising read =
        let stored = stored_from intervals noted in
        let here = get_or stored at d in
        let place = place_there page d ∙ found in
        let there : notice_in old ≡ get_or here.notices offset (notice_in old) = ap notice_in read ∙ sym (read_there d (notice_in old) old) in
        let same : old.key.page ≡ page =
        ap (λ (n : NoticeRecord). n.page) there
        ∙ eqb-true _ _ (position-Some (λ notice. eqb notice.page page) here.notices offset (notice_in old) place).1 in
        stored-set intervals noted at offset i d (record old { changes = Some changes }) within inside
        ∙ ap (λ (p : ℕ). set stored at (record here { notices = set here.notices offset (record { page = p; changes = Some changes }) })) same
        ∙ ap (λ (notices : List NoticeRecord). set stored at (record here { notices = notices }))
        (sym (map-notice_with page changes here.notices offset (subst IsRising (sym (pages_there d)) rising) place))

-- changes leave a notice's weight and key
pub ranks-written : (noted : List NotedRecord) (place : ℕ) (changes : List Change) (old : NotedRecord) → old ≡ get_or noted place old
    → map rank_of (set noted place (record old { changes = Some changes })) ≡ map rank_of noted
ranks-written noted place changes old read =
    map-set_same rank_of noted place (record old { changes = Some changes }) old (ap rank_of read)
