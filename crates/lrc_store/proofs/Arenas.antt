-- The intervals with their notices, as they stand in two arenas.
use Rattle.std.proofs.Common.{◌≡◌, ℕ, zero, suc, ◌+◌, ◌<◌, ◌≤◌, ◌∙◌, Bool, true, false, cond, List, [], ◌∷◌, ◌++◌, length, get_or, set, map, take}
use Rattle.std.proofs.Common.{drop, refl, ap, sym, subst, arith, append_assoc, None}
use Rattle.std.specs.List.{All, filter, flat_map}
use Rattle.std.proofs.Math.Seq.{take-append_seam, drop-append_seam, take-length, take-set-lt}
use Rattle.std.proofs.lemmas.List.{length-append, length-map, take-append-le, drop-append-le, take-append-drop, take-map, drop-map, take-set-le}
use Rattle.std.proofs.lemmas.List.{map_more, drop-set-lt, drop-set-add, get_or-map, length-take-le, drop-drop, map-append, map-set}
use Rattle.std.proofs.lemmas.List.Concat.{flat_map-cons}
use Rattle.std.proofs.lemmas.List.Elements.{All-cons, All-head, All-tail, filter-append}
use Rattle.lrc_time.specs.Time.{weight_of}
use Rattle.lrc_store.specs.declared.key.Key.{Key}
use Rattle.lrc_store.specs.Arena.{NotedRecord, fresh_in, notice_in, rank_of, stored_from}
use Rattle.lrc_store.specs.Interval.{IntervalRecord, index_of}
use Rattle.lrc_store.specs.Links.{page_named, ranked, ranked_of, ranked_pages}
use Rattle.lrc_store.specs.Lists.{keys_of}
use Rattle.lrc_store.specs.Store.{NoticeRecord, StoredRecord, interval_of, key_of, unread, without_changes}
use Rattle.lrc_store.proofs.Filtered.{all_or_none}
use Rattle.lrc_store.proofs.LinkedStores.{pages_of_ranked, ranked_of-push}
use Rattle.lrc_store.proofs.Starts.{count_of}

-- ---- one interval's notices, and those behind

-- notices that begin with an interval's
begin : (interval : IntervalRecord) (rest : List (ℕ × Key)) (noted : List NotedRecord)
    → map rank_of noted ≡ ranked_pages interval ++ rest → map rank_of (take (length interval.pages) noted) ≡ ranked_pages interval
begin interval rest noted is =
    let long = length-map interval.pages (λ page. ranked page interval) in
    sym (take-map rank_of (length interval.pages) noted)
    ∙ ap (take (length interval.pages)) is
    ∙ ap (λ n. take n (ranked_pages interval ++ rest)) (sym long)
    ∙ take-append_seam (ranked_pages interval) rest

go_on : (interval : IntervalRecord) (rest : List (ℕ × Key)) (noted : List NotedRecord)
    → map rank_of noted ≡ ranked_pages interval ++ rest → map rank_of (drop (length interval.pages) noted) ≡ rest
go_on interval rest noted is =
    let long = length-map interval.pages (λ page. ranked page interval) in
    sym (drop-map rank_of (length interval.pages) noted)
    ∙ ap (drop (length interval.pages)) is
    ∙ ap (λ n. drop n (ranked_pages interval ++ rest)) (sym long)
    ∙ drop-append_seam (ranked_pages interval) rest

-- the notices of all begin with the first interval's
parted : (interval : IntervalRecord) (intervals : List IntervalRecord) (noted : List NotedRecord)
    → map rank_of noted ≡ ranked_of (interval ∷ intervals) → map rank_of noted ≡ ranked_pages interval ++ ranked_of intervals
parted interval intervals noted is = is ∙ flat_map-cons ranked_pages interval intervals

-- there are enough for it
enough : (interval : IntervalRecord) (rest : List (ℕ × Key)) (noted : List NotedRecord)
    → map rank_of noted ≡ ranked_pages interval ++ rest → length interval.pages ≤ length noted
enough interval rest noted is =
    omega (
      arith,
      length-map noted rank_of,
      ap length is,
      length-append (ranked_pages interval) rest,
      length-map interval.pages (λ page. ranked page interval),
    )

-- the pages of an interval's notices are its pages
pages_of_noted : (noted : List NotedRecord) → map (λ notice. notice.page) (map notice_in noted) ≡ map page_named (map rank_of noted)
pages_of_noted [] = refl
pages_of_noted (n ∷ noted) = ap (λ (l : List ℕ). n.key.page ∷ l) (pages_of_noted noted)

-- the interval with these notices, and with its own, where they begin
abbrev holding : IntervalRecord → List NotedRecord → StoredRecord
holding interval own = record { node = interval.node; stamp = interval.stamp; notices = map notice_in own }

abbrev pub one_stored : IntervalRecord → List NotedRecord → StoredRecord
one_stored interval noted = holding interval (take (length interval.pages) noted)

interval_of-one : (interval : IntervalRecord) (rest : List (ℕ × Key)) (noted : List NotedRecord)
    → map rank_of noted ≡ ranked_pages interval ++ rest → interval_of (one_stored interval noted) ≡ interval
interval_of-one interval rest noted is =
    ap (λ (pages : List ℕ). record { node = interval.node; stamp = interval.stamp; pages = pages })
    (pages_of_noted (take (length interval.pages) noted)
    ∙ ap (map page_named) (begin interval rest noted is)
    ∙ pages_of_ranked interval interval.pages)

-- ---- all intervals

-- without their notices they are the intervals
pub intervals_of-stored : (intervals : List IntervalRecord) (noted : List NotedRecord) → map rank_of noted ≡ ranked_of intervals
    → map interval_of (stored_from intervals noted) ≡ intervals
intervals_of-stored [] noted is = refl
intervals_of-stored (i ∷ is) noted are =
    let cut = parted i is noted are in
    let first = interval_of-one i (ranked_of is) noted cut in
    let rest = intervals_of-stored is (drop (length i.pages) noted) (go_on i (ranked_of is) noted cut) in
    cc (first, rest)

pub length-stored : (intervals : List IntervalRecord) (noted : List NotedRecord)
    → length (stored_from intervals noted) ≡ length intervals
length-stored [] noted = refl
length-stored (i ∷ is) noted = ap suc (length-stored is (drop (length i.pages) noted))

-- ---- an interval more

pub stored-append : (intervals more : List IntervalRecord) (noted others : List NotedRecord) → map rank_of noted ≡ ranked_of intervals
    → stored_from (intervals ++ more) (noted ++ others) ≡ stored_from intervals noted ++ stored_from more others
stored-append [] more [] others are = refl
stored-append [] more (n ∷ noted) others are = absurd (omega (arith, ap length are))
stored-append (i ∷ is) more noted others are =
    let cut = parted i is noted are in
    let long = enough i (ranked_of is) noted cut in
    let first = take-append-le (length i.pages) noted others long in
    let behind = drop-append-le (length i.pages) noted others long in
    let rest = stored-append is more (drop (length i.pages) noted) others (go_on i (ranked_of is) noted cut) in
    ap (λ (l : List NotedRecord). holding i l ∷ stored_from (is ++ more) (drop (length i.pages) (noted ++ others))) first
    ∙ ap (λ (l : List NotedRecord). one_stored i noted ∷ stored_from (is ++ more) l) behind
    ∙ ap (λ (l : List StoredRecord). one_stored i noted ∷ l) rest

-- notices without changes
unread_fresh : (interval : IntervalRecord) (pages : List ℕ) → map notice_in (map (fresh_in interval) pages) ≡ map unread pages
unread_fresh interval [] = refl
unread_fresh interval (page ∷ pages) = ap (λ (l : List NoticeRecord). unread page ∷ l) (unread_fresh interval pages)

ranked_fresh : (interval : IntervalRecord) (pages : List ℕ)
    → map rank_of (map (fresh_in interval) pages) ≡ map (λ page. ranked page interval) pages
ranked_fresh interval [] = refl
ranked_fresh interval (page ∷ pages) = ap (λ (l : List (ℕ × Key)). ranked page interval ∷ l) (ranked_fresh interval pages)

pub ranks-push : (interval : IntervalRecord) (noted : List NotedRecord)
    → map rank_of (noted ++ map (fresh_in interval) interval.pages) ≡ map rank_of noted ++ ranked_pages interval
ranks-push interval noted =
    map-append rank_of noted (map (fresh_in interval) interval.pages)
    ∙ ap (λ (l : List (ℕ × Key)). map rank_of noted ++ l) (ranked_fresh interval interval.pages)

-- the notices after it are those of all
pub noted-push : (intervals : List IntervalRecord) (interval : IntervalRecord) (noted : List NotedRecord) → map rank_of noted ≡ ranked_of intervals
    → map rank_of (noted ++ map (fresh_in interval) interval.pages) ≡ ranked_of (intervals ++ interval ∷ [])
noted-push intervals interval noted are =
    ranks-push interval noted
    ∙ ap (λ (l : List (ℕ × Key)). l ++ ranked_pages interval) are
    ∙ sym (ranked_of-push intervals interval)

pub stored-push : (intervals : List IntervalRecord) (interval : IntervalRecord) (noted : List NotedRecord) → map rank_of noted ≡ ranked_of intervals
    → stored_from (intervals ++ interval ∷ []) (noted ++ map (fresh_in interval) interval.pages)
    ≡ stored_from intervals noted ++ without_changes interval ∷ []
stored-push intervals interval noted are =
    let fresh = map (fresh_in interval) interval.pages in
    let whole : take (length interval.pages) fresh ≡ fresh =
    ap (λ n. take n fresh) (sym (length-map interval.pages (fresh_in interval))) ∙ take-length fresh in
    stored-append intervals (interval ∷ []) noted fresh are
    ∙ ap (λ (l : List NoticeRecord). stored_from intervals noted ++ record { node = interval.node; stamp = interval.stamp; notices = l } ∷ [])
    (ap (map notice_in) whole ∙ unread_fresh interval interval.pages)

-- ---- intervals are taken out

-- whether a notice stays depends on its rank
pub ranks-filter : (test : ℕ × Key → Bool) (noted : List NotedRecord)
    → map rank_of (filter (λ n. test (rank_of n)) noted) ≡ filter test (map rank_of noted)
ranks-filter test [] = refl
ranks-filter test (n ∷ noted) = by_test (test (rank_of n)) (ranks-filter test noted)
  where
    by_test : (b : Bool) → map rank_of (filter (λ n. test (rank_of n)) noted) ≡ filter test (map rank_of noted)
        → map rank_of (cond b (n ∷ filter (λ n. test (rank_of n)) noted) (filter (λ n. test (rank_of n)) noted))
        ≡ cond b (rank_of n ∷ filter test (map rank_of noted)) (filter test (map rank_of noted))
    by_test true rest = ap (λ (l : List (ℕ × Key)). rank_of n ∷ l) rest
    by_test false rest = rest

-- the notices of an interval stay just as it does
module _ (kept : IntervalRecord → Bool) (test : ℕ × Key → Bool)
    (alike : (interval : IntervalRecord) → All (λ notice. test notice ≡ kept interval) (ranked_pages interval)) where
  abbrev on_rank : NotedRecord → Bool
  on_rank noted = test (rank_of noted)

  all_alike : (b : Bool) (noted : List NotedRecord) → All (λ notice. test notice ≡ b) (map rank_of noted)
      → All (λ n. test (rank_of n) ≡ b) noted
  all_alike b [] are = λ k d within. absurd (omega (arith, within))
  all_alike b (n ∷ noted) are =
      All-cons (λ m. test (rank_of m) ≡ b) n noted (All-head (λ notice. test notice ≡ b) (rank_of n) (map rank_of noted) are)
      (all_alike b noted (All-tail (λ notice. test notice ≡ b) (rank_of n) (map rank_of noted) are))

  pub stored-filter : (intervals : List IntervalRecord) (noted : List NotedRecord) → map rank_of noted ≡ ranked_of intervals
      → stored_from (filter kept intervals) (filter on_rank noted)
      ≡ filter (λ stored. kept (interval_of stored)) (stored_from intervals noted)
  stored-filter [] noted are = refl
  stored-filter (i ∷ is) noted are =
      let n = length i.pages in
      let cut = parted i is noted are in
      let rest = stored-filter is (drop n noted) (go_on i (ranked_of is) noted cut) in
      let same : kept (interval_of (one_stored i noted)) ≡ kept i = ap kept (interval_of-one i (ranked_of is) noted cut) in
      let own : All (λ m. test (rank_of m) ≡ kept i) (take n noted) =
      all_alike (kept i) (take n noted)
      (subst (All (λ notice. test notice ≡ kept i)) (sym (begin i (ranked_of is) noted cut)) (alike i)) in
      let split : filter on_rank noted ≡ cond (kept i) (take n noted) [] ++ filter on_rank (drop n noted) =
      ap (filter on_rank) (sym (take-append-drop n noted))
      ∙ filter-append on_rank (take n noted) (drop n noted)
      ∙ ap (λ (l : List NotedRecord). l ++ filter on_rank (drop n noted)) (all_or_none on_rank (kept i) (take n noted) own) in
      ap (stored_from (cond (kept i) (i ∷ filter kept is) (filter kept is))) split
      ∙ by_test (kept i) (filter on_rank (drop n noted)) (length-take-le n noted (enough i (ranked_of is) noted cut))
      ∙ ap (λ (l : List StoredRecord). cond (kept i) (one_stored i noted ∷ l) l) rest
      ∙ ap (λ b. cond b (one_stored i noted ∷ filter (λ stored. kept (interval_of stored)) (stored_from is (drop n noted)))
      (filter (λ stored. kept (interval_of stored)) (stored_from is (drop n noted)))) (sym same)
    where
      by_test : (b : Bool) (after : List NotedRecord) → length (take (length i.pages) noted) ≡ length i.pages
          → stored_from (cond b (i ∷ filter kept is) (filter kept is)) (cond b (take (length i.pages) noted) [] ++ after)
          ≡ cond b (one_stored i noted ∷ stored_from (filter kept is) after) (stored_from (filter kept is) after)
      by_test true after long =
          let own = take (length i.pages) noted in
          let first : take (length i.pages) (own ++ after) ≡ own = ap (λ k. take k (own ++ after)) (sym long) ∙ take-append_seam own after in
          let behind : drop (length i.pages) (own ++ after) ≡ after = ap (λ k. drop k (own ++ after)) (sym long) ∙ drop-append_seam own after in
          ap (λ (l : List NotedRecord). holding i l ∷ stored_from (filter kept is) (drop (length i.pages) (own ++ after))) first
          ∙ ap (λ (l : List NotedRecord). one_stored i noted ∷ stored_from (filter kept is) l) behind
      by_test false after long = refl

-- ---- one interval among them

count_of-first : (i : IntervalRecord) (is : List IntervalRecord) → count_of (i ∷ is) ≡ length i.pages + count_of is
count_of-first i is =
    omega (
      arith,
      ap length (flat_map-cons keys_of i is),
      length-append (keys_of i) (flat_map keys_of is),
      length-map i.pages (λ page. key_of page i),
    )

-- the interval at a place has its notices from where they begin
pub stored-at : (intervals : List IntervalRecord) (noted : List NotedRecord) (at : ℕ) (i : IntervalRecord) (d : StoredRecord)
    → at < length intervals
    → get_or (stored_from intervals noted) at d
    ≡ one_stored (get_or intervals at i) (drop (count_of (take at intervals)) noted)
stored-at [] noted at i d within = absurd (omega (arith, within))
stored-at (x ∷ xs) noted zero i d within = refl
stored-at (x ∷ xs) noted (suc at) i d within =
    stored-at xs (drop (length x.pages) noted) at i d (omega (arith, within))
    ∙ ap (one_stored (get_or xs at i))
    (drop-drop (count_of (take at xs)) (length x.pages) noted
    ∙ ap (λ n. drop n noted) (sym (count_of-first x (take at xs))))

-- a notice of the interval at a place is written
pub stored-set : (intervals : List IntervalRecord) (noted : List NotedRecord) (at offset : ℕ) (i : IntervalRecord) (d : StoredRecord)
    (new : NotedRecord) → at < length intervals → offset < length (get_or intervals at i).pages
    → stored_from intervals (set noted (count_of (take at intervals) + offset) new)
    ≡ set (stored_from intervals noted) at
    (record (get_or (stored_from intervals noted) at d) {
      notices = set (get_or (stored_from intervals noted) at d).notices offset (notice_in new);
    })
stored-set [] noted at offset i d new within inside = absurd (omega (arith, within))
stored-set (x ∷ xs) noted zero offset i d new within inside =
    ap (λ k. stored_from (x ∷ xs) (set noted k new)) (let h : count_of (take zero (x ∷ xs)) + offset ≡ offset = omega arith in h)
    ∙ ap (λ (l : List NotedRecord). holding x l ∷ stored_from xs (drop (length x.pages) (set noted offset new)))
    (take-set-lt (length x.pages) noted offset new inside)
    ∙ ap (λ (l : List NoticeRecord). record { node = x.node; stamp = x.stamp; notices = l } ∷ stored_from xs (drop (length x.pages) (set noted offset new)))
    (map-set notice_in (take (length x.pages) noted) offset new)
    ∙ ap (λ (l : List NotedRecord).
    record { node = x.node; stamp = x.stamp; notices = set (map notice_in (take (length x.pages) noted)) offset (notice_in new) } ∷ stored_from xs l)
    (drop-set-lt (length x.pages) noted offset new inside)
stored-set (x ∷ xs) noted (suc at) offset i d new within inside =
    let n = length x.pages in
    let start = count_of (take at xs) in
    let place : count_of (x ∷ take at xs) + offset ≡ n + (start + offset) = omega (arith, count_of-first x (take at xs)) in
    let past : n ≤ n + (start + offset) = omega arith in
    ap (λ k. stored_from (x ∷ xs) (set noted k new)) place
    ∙ ap (λ (l : List NotedRecord). holding x l ∷ stored_from xs (drop n (set noted (n + (start + offset)) new)))
    (take-set-le n noted (n + (start + offset)) new past)
    ∙ ap (λ (l : List NotedRecord). one_stored x noted ∷ stored_from xs l) (drop-set-add n noted (start + offset) new)
    ∙ ap (λ (l : List StoredRecord). one_stored x noted ∷ l)
    (stored-set xs (drop n noted) at offset i d new (omega (arith, within)) inside)

-- the interval at a place is that of the notices there
pub interval_of-stored : (intervals : List IntervalRecord) (noted : List NotedRecord) (at : ℕ) (i : IntervalRecord) (d : StoredRecord)
    → at < length intervals → map rank_of noted ≡ ranked_of intervals
    → interval_of (get_or (stored_from intervals noted) at d) ≡ get_or intervals at i
interval_of-stored intervals noted at i d within are =
    let inside : at < length (stored_from intervals noted) = omega (arith, within, length-stored intervals noted) in
    sym (get_or-map interval_of (stored_from intervals noted) at d i inside)
    ∙ ap (λ (l : List IntervalRecord). get_or l at i) (intervals_of-stored intervals noted are)

-- one notice more of an interval, behind others
pub noted-more : (before now after : List NotedRecord) (pages : List ℕ) (n : ℕ) (interval : IntervalRecord) (weight index node : ℕ)
    → after ≡ now ++ record { weight = weight; key = record { node = node; index = index; page = get_or pages n 0 }; changes = None } ∷ []
    → now ≡ before ++ map (fresh_in interval) (take n pages)
    → weight ≡ weight_of interval.stamp → index ≡ index_of interval → node ≡ interval.node → n < length pages
    → after ≡ before ++ map (fresh_in interval) (take (n + 1) pages)
noted-more before now after pages n interval weight index node after_is now_is weight_is index_is node_is within =
    let page = get_or pages n 0 in
    let fresh : ℕ → ℕ → ℕ → NotedRecord =
    λ w i m. record { weight = w; key = record { node = m; index = i; page = page }; changes = None } in
    let done = map (fresh_in interval) (take n pages) in
    let same : fresh weight index node ≡ fresh_in interval page =
    ap (λ w. fresh w index node) weight_is
    ∙ ap (λ i. fresh (weight_of interval.stamp) i node) index_is
    ∙ ap (fresh (weight_of interval.stamp) (index_of interval)) node_is in
    after_is
    ∙ ap (λ (l : List NotedRecord). l ++ fresh weight index node ∷ []) now_is
    ∙ append_assoc before done (fresh weight index node ∷ [])
    ∙ ap (λ (l : List NotedRecord). before ++ l)
    (ap (λ (x : NotedRecord). done ++ x ∷ []) same ∙ sym (map_more (fresh_in interval) pages n 0 within))
