-- What comes of an input keeps it so that copies, base copies and those that came fit their times.
use Rattle.std.proofs.Common.{◌≡◌, ℕ, ◌+◌, ◌-◌, ◌<◌, ◌≤◌, List, [], ◌∷◌, ◌++◌, Bool, true, false, IsTrue, length, map, refl, sym, ap, subst, ◌∙◌, ⊎_elim, arith}
use Rattle.std.specs.Prelude.{Option, None, All, Contains, ◌==◌, not, filter, max, slice_index_or, if◌then◌else◌}
use Rattle.std.specs.List.{list_any, enumerate_from}
use Rattle.std.proofs.lemmas.Bool.{cases_lt, eqb-true, false≢true, or_left, or_right}
use Rattle.std.proofs.lemmas.List.{get_or-map, get_or_past}
use Rattle.std.proofs.lemmas.List.FromFn.{get_or-enumerate_from, length-enumerate_from}
use Rattle.std.proofs.lemmas.List.Elements.{All-nil, All-map, All-weaker}
use Rattle.lrc_time.specs.Time.{entry, Covers, joined}
use Rattle.lrc_time.proofs.Times.{entry-set_same, entry-joined, covers-joined_first}
use Rattle.lrc_page.specs.Page.{words_of}
use Rattle.lrc_store.specs.Interval.{IntervalRecord, index_of}
use Rattle.lrc_store.specs.Store.{StoredRecord, interval_of, notice_of}
use Rattle.lrc_store.proofs.Orders.{cases_Contains, none_Contains}
use Rattle.lrc_copies.specs.Page.{IsClosedWith}
use Rattle.lrc_copies.specs.Stamps.{stamp_index, stamps_covered, IsCut, IsClosedAt, StandsBetween}
use Rattle.lrc_copies.proofs.Stamping.{covered-le, le-covered, cut_longer}
use Rattle.lrc_copies.proofs.Timing.{uncovered_fits, untouched_fits_closed, closed_fits}
use Rattle.lrc_protocol.specs.Times.{next_time, is_named}
use Rattle.lrc_protocol.specs.Pages.{Copy, valid, written, invalid, absent, changes_of, closed, invalidated, come, Need, base_of, need_of}
use Rattle.lrc_protocol.specs.Pages.{changes_came, page_came, Memory, copy_at, keeper_at, with_interval, learned}
use Rattle.lrc_protocol.specs.Node.{Wait, nothing, needs_of}
use Rattle.lrc_protocol.specs.Turn.{with_needs}
use Rattle.lrc_node_laws.specs.Ranges.{IsWholeCopy}
use Rattle.lrc_node_laws.specs.Remembered.{IsBetween as IsRemembered}
use Rattle.lrc_node_laws.specs.Waits.{NoneWritten}
use Rattle.lrc_node_laws.proofs.Change.{View, News, is_settled}
use Rattle.lrc_node_laws.proofs.Lists.{length-placed}
use Rattle.lrc_node_laws.proofs.Needs.{needs-with, settled-needs}
use Rattle.lrc_node_laws.proofs.Opened.{unwritten-at}
use Rattle.lrc_node_laws.proofs.OwnCopies.{map-copy, placed-copy}
use Rattle.lrc_reading_laws.specs.Made.{AllMade}
use Rattle.lrc_reading_laws.specs.Written.{made_stamps, changes_on}
use Rattle.lrc_reading_laws.proofs.Laws.{bound_in}
use Rattle.lrc_reading_laws.proofs.Closed.Stored.{Member, made_at, in_index, in_range}
use Rattle.lrc_reading_laws.proofs.Stamped.Lists.{HasRecord, interval-from, found_once}
use Rattle.lrc_reading_laws.proofs.Fitting.Copies.{Wrote, history_on, FitsTime, CopyFits, BaseFits, Fit, Facts, later_fits, bound-settled}
use Rattle.lrc_reading_laws.proofs.Fitting.Later.{AtView}
use Rattle.lrc_reading_laws.proofs.Fitting.Repair.{unnamed}

-- ---- closing

-- the interval that is closed, if the node's own entry rises
abbrev pub closed_in : View → View → StoredRecord → List StoredRecord
closed_in v after x = if entry after.time v.setting.me == entry v.time v.setting.me then [] else x ∷ []

-- the interval is closed, with the changes between twins and copies, and is untouched by all else
pub record Shuts (count words : ℕ) (wrote : Wrote) (made : List StoredRecord) (v : View) (x : StoredRecord) : Type 0 where
  pub at : IsClosedAt made_stamps count made v.time x
  pub changes : (page : ℕ) (values twin : List ℕ) → copy_at v.memory page ≡ written values twin → IsClosedWith (history_on wrote page) x twin values
  pub leaves : (page : ℕ) → ((values twin : List ℕ) → copy_at v.memory page ≡ written values twin → ⊥)
      → ((offset : ℕ) → offset < words → wrote page x offset ≡ None) × (changes_on page x ≡ [])

-- a time that the node's time covers does not cover the interval that it closes
pub not_yet : (count : ℕ) (made : List StoredRecord) (time since : List ℕ) (x : StoredRecord) → IsClosedAt made_stamps count made time x → Covers time since
    → IsTrue (stamps_covered made_stamps since x) → ⊥
not_yet count made time since x at below c =
    let index : stamp_index made_stamps x ≡ entry time x.node + 1 =
    ap (λ stamp. entry stamp x.node) at.stamped ∙ entry-set_same time x.node (entry time x.node + 1) (omega (arith, at.counted, at.long)) in
    let less : stamp_index made_stamps x ≤ entry since x.node = covered-le made_stamps since x c in
    let up : entry since x.node ≤ entry time x.node = below x.node in
    omega (arith, index, less, up)

pub whole-long : (nodes words : ℕ) (copies : List Copy) (page : ℕ) (copy : Copy) → slice_index_or copies page absent ≡ copy
    → All (IsWholeCopy nodes words) copies → IsWholeCopy nodes words copy
whole-long nodes words copies page copy e h =
    ⊎_elim
    (λ (lt : page < length copies). subst (IsWholeCopy nodes words) e (h page absent lt))
    (λ (le : length copies ≤ page). subst (IsWholeCopy nodes words) (sym (get_or_past copies page absent le) ∙ e) tt)
    (cases_lt page (length copies))

pub not_written : (copy : Copy) (values twin : List ℕ) → changes_of copy ≡ None → copy ≡ written values twin → ⊥
not_written copy values twin none e = cc

module _ (count : ℕ) (wrote : Wrote) (made : List StoredRecord) (v : View) (a : AtView v) (x : StoredRecord)
    (shut : Shuts count (words_of v.size) wrote made v x) (h : Fit wrote made v.time v.wait v.memory) where
  abbrev words : ℕ
  words = words_of v.size

  closed-fits : (page : ℕ) (copy : Copy) → copy_at v.memory page ≡ copy → CopyFits wrote made v.time page copy
      → IsWholeCopy v.setting.nodes words copy → IsRemembered v.time v.memory page copy → CopyFits wrote (made ++ x ∷ []) x.stamp page (closed copy)
  closed-fits page (valid values) e f long b =
      untouched_fits_closed made_stamps (wrote page) (changes_on page) count made v.time x shut.at values
      (subst (λ n. (offset : ℕ) → offset < n → wrote page x offset ≡ None) (sym long)
      (shut.leaves page (λ other twin w. not_written (copy_at v.memory page) other twin (ap changes_of e) w)).0) f
  closed-fits page (written values twin) e f long b =
      closed_fits made_stamps (wrote page) (changes_on page) count made v.time x shut.at twin values (shut.changes page values twin e) f
  closed-fits page (invalid values since) e f long b =
      let other : IsTrue (stamps_covered made_stamps since x) → ⊥ = not_yet count made v.time since x shut.at b.1 in
      (uncovered_fits made_stamps (wrote page) (changes_on page) made since x values other f.0, cut_longer made_stamps made since x f.1 other)
  closed-fits page absent e f long b = tt

  pub closes-fit : (wait : Wait) → v.wait ≡ nothing → is_settled wait ≡ true → next_time v.setting.me v.time ≡ x.stamp
      → Fit wrote (made ++ x ∷ []) (next_time v.setting.me v.time) wait (with_interval v.setting.me (next_time v.setting.me v.time) v.memory)
  closes-fit wait w s stamp =
      record {
        copies = λ page.
            subst (CopyFits wrote (made ++ x ∷ []) (next_time v.setting.me v.time) page) (sym (map-copy closed refl v.memory.copies page))
            (subst (λ time. CopyFits wrote (made ++ x ∷ []) time page (closed (copy_at v.memory page))) (sym stamp)
            (closed-fits page (copy_at v.memory page) refl (h.copies page)
            (whole-long v.setting.nodes words v.memory.copies page (copy_at v.memory page) refl a.whole.copies) (a.between page)));
        bases = λ page values e.
            let was : FitsTime wrote made v.memory.collected page values =
            subst (λ w. FitsTime wrote made (bound_in w v.memory.collected page) page values) w (h.bases page values e) in
            subst (λ time. FitsTime wrote (made ++ x ∷ []) time page values) (sym (bound-settled wait v.memory.collected page s))
            (uncovered_fits made_stamps (wrote page) (changes_on page) made v.memory.collected x values
            (not_yet count made v.time v.memory.collected x shut.at a.exact.below) was);
        needs =
            subst (All (λ (need : Need). BaseFits wrote (made ++ x ∷ []) v.memory.collected need.page need.base)) (sym (settled-needs wait s))
            (All-nil (λ (need : Need). BaseFits wrote (made ++ x ∷ []) v.memory.collected need.page need.base));
      }

-- ---- what a list has

pub list_any-in : {X : Type 0} (test : X → Bool) (xs : List X) (x : X) → Contains xs x → test x ≡ true → list_any test xs ≡ true
list_any-in test [] x c e = absurd (none_Contains x c)
list_any-in test (y ∷ xs) x c e =
    ⊎_elim
    (λ (here : y ≡ x). or_left (test y) (list_any test xs) (ap test here ∙ e))
    (λ later. or_right (test y) (list_any test xs) (list_any-in test xs x later e))
    (cases_Contains y xs x c)

pub placed-base : (f : ℕ × Option (List ℕ) → Option (List ℕ)) (xs : List (Option (List ℕ))) (page : ℕ) → page < length xs
    → slice_index_or (map f (enumerate_from 0 xs)) page None ≡ f (page, slice_index_or xs page None)
placed-base f xs page lt =
    let same : 0 + page ≡ page = omega arith in
    get_or-map f (enumerate_from 0 xs) page (0, None) None (omega (arith, lt, length-enumerate_from 0 xs))
    ∙ ap f (get_or-enumerate_from 0 xs page (0, None) lt)
    ∙ ap (λ k. f (k, slice_index_or xs page None)) same

-- ---- news

-- an interval has an index where its stamp has an entry
pub node-within : (count : ℕ) (wrote : Wrote) (words : ℕ) (made : List StoredRecord) → Facts count words wrote made → (x : StoredRecord) → Contains made x
    → x.node < count
node-within count wrote words made facts x c =
    ⊎_elim (λ lt. lt)
    (λ (le : count ≤ x.node).
    let long : length x.stamp ≡ count = facts.stamped.long x c in
    let begun : 1 ≤ entry x.stamp x.node = facts.stamped.begun x c in
    let none : entry x.stamp x.node ≡ 0 = get_or_past x.stamp x.node 0 (omega (arith, long, le)) in
    absurd (omega (arith, begun, none)))
    (cases_lt x.node count)

-- what a time does not cover is above it
pub above-time : (time : List ℕ) (x : StoredRecord) → (IsTrue (stamps_covered made_stamps time x) → ⊥) → entry time x.node < stamp_index made_stamps x
above-time time x h =
    ⊎_elim (λ lt. lt) (λ le. absurd (h (le-covered made_stamps time x le))) (cases_lt (entry time x.node) (stamp_index made_stamps x))

module _ (count : ℕ) (wrote : Wrote) (made : List StoredRecord) (v : View) (facts : Facts count (words_of v.size) wrote made)
    (counted : v.setting.nodes ≡ count) (a : AtView v) (time : List ℕ) (intervals : List IntervalRecord) (news : News v time intervals)
    (told : AllMade (map interval_of made) intervals) (cut : IsCut made_stamps made v.time) (none : NoneWritten v.memory) where
  -- the record of what came with the node and index of an interval is the interval's own
  from_record : (x : StoredRecord) (m : Member x.node (stamp_index made_stamps x) intervals) (y : HasRecord made m.i) → Contains made x
      → Contains intervals (interval_of x)
  from_record x m y c =
      let same : x ≡ y.x =
      found_once made x y.x facts.found c y.in_list
      (sym m.node_is ∙ ap (λ (i : IntervalRecord). i.node) (sym y.is))
      (sym m.index_is ∙ ap index_of (sym y.is)) in
      subst (Contains intervals) (sym y.is ∙ ap interval_of (sym same)) m.in_list

  -- an interval that is new is among those that came
  new-came : (x : StoredRecord) → StandsBetween made_stamps made v.time (joined v.time time) x → Contains intervals (interval_of x)
  new-came x b =
      let q : ℕ = x.node in
      let k : ℕ = stamp_index made_stamps x in
      let later : entry v.time q < k = above-time v.time x b.later in
      let both : k ≤ entry (joined v.time time) q = covered-le made_stamps (joined v.time time) x b.known in
      let join : entry (joined v.time time) q ≡ max (entry v.time q) (entry time q) = entry-joined v.time time q in
      let upto : k ≤ entry time q = of_two (entry v.time q) (entry time q) (entry (joined v.time time) q) k join both later in
      let within : q < v.setting.nodes = subst (λ n. q < n) (sym counted) (node-within count wrote (words_of v.size) made facts x b.member) in
      let m : Member q k intervals =
      in_index q k intervals
      (subst (λ ks. Contains ks k) (sym (news.between q within))
      (in_range (entry v.time q + 1) (entry time q - entry v.time q) k (omega (arith, later)) (omega (arith, upto, later)))) in
      from_record x m (interval-from made m.i (made_at (map interval_of made) intervals m.i told m.in_list)) b.member
    where
      of_two : (a b c k : ℕ) → c ≡ max a b → k ≤ c → a < k → k ≤ b
      of_two a b c k e le lt = omega (arith, e, le, lt)

  new-unnamed : (page : ℕ) → is_named intervals page ≡ false → (x : StoredRecord) → StandsBetween made_stamps made v.time (joined v.time time) x
      → notice_of page x ≡ None
  new-unnamed page off x b =
      unnamed page x (λ n.
      false≢true (sym off ∙ list_any-in (λ (i : IntervalRecord). list_any (λ named. named == page) i.pages) intervals (interval_of x) (new-came x b) n))

  learned-fits : (page : ℕ) (copy : Copy) (b : Bool) → is_named intervals page ≡ b → CopyFits wrote made v.time page copy
      → IsWholeCopy v.setting.nodes (words_of v.size) copy → changes_of copy ≡ None
      → CopyFits wrote made (joined v.time time) page (if b then invalidated v.time copy else copy)
  learned-fits page (valid values) true n f long u = (f, cut)
  learned-fits page (valid values) false n f long u =
      later_fits wrote made (words_of v.size) page v.time (joined v.time time) values long (covers-joined_first v.time time)
      (λ x b. facts.untouched page x b.member (new-unnamed page n x b)) f
  learned-fits page (written values twin) b n f long u = cc
  learned-fits page (invalid values since) true n f long u = f
  learned-fits page (invalid values since) false n f long u = f
  learned-fits page absent true n f long u = tt
  learned-fits page absent false n f long u = tt

  pub learned-copies : ((page : ℕ) → CopyFits wrote made v.time page (copy_at v.memory page))
      → (page : ℕ) → CopyFits wrote made (joined v.time time) page (copy_at (learned v.time intervals v.memory) page)
  learned-copies h page =
      let f : ℕ × Copy → Copy = λ place. if is_named intervals place.0 then invalidated v.time place.1 else place.1 in
      ⊎_elim
      (λ (lt : page < length v.memory.copies).
      subst (CopyFits wrote made (joined v.time time) page) (sym (placed-copy f v.memory.copies page lt))
      (learned-fits page (copy_at v.memory page) (is_named intervals page) refl (h page)
      (whole-long v.setting.nodes (words_of v.size) v.memory.copies page (copy_at v.memory page) refl a.whole.copies)
      (unwritten-at v.memory page none)))
      (λ (le : length v.memory.copies ≤ page).
      subst (CopyFits wrote made (joined v.time time) page)
      (sym (get_or_past (learned v.time intervals v.memory).copies page absent (omega (arith, le, length-placed f v.memory.copies)))) tt)
      (cases_lt page (length v.memory.copies))

-- ---- needs

pub base_of-fits : (wrote : Wrote) (made : List StoredRecord) (collected : List ℕ) (page keeper : ℕ) (copy : Copy)
    → BaseFits wrote made collected page (base_of keeper copy)
base_of-fits wrote made collected page keeper (valid values) = tt
base_of-fits wrote made collected page keeper (written values twin) = tt
base_of-fits wrote made collected page keeper (invalid values since) = tt
base_of-fits wrote made collected page keeper absent = tt

abbrev pub NeedFits : Wrote → List StoredRecord → List ℕ → Need → Type 0
NeedFits wrote made collected need = BaseFits wrote made collected need.page need.base

pub new-needs : (wrote : Wrote) (made : List StoredRecord) (collected : List ℕ) (nodes : ℕ) (memory : Memory) (pages : List ℕ)
    → All (NeedFits wrote made collected) (map (need_of nodes memory) pages)
new-needs wrote made collected nodes memory pages =
    All-map (NeedFits wrote made collected) (need_of nodes memory) pages
    (λ k d within. base_of-fits wrote made collected _ (keeper_at memory _) (copy_at memory _))

pub changed-needs : (wrote : Wrote) (made : List StoredRecord) (collected : List ℕ) (page from : ℕ) (wait : Wait)
    → All (NeedFits wrote made collected) (needs_of wait) → All (NeedFits wrote made collected) (needs_of (with_needs (changes_came page from) wait))
changed-needs wrote made collected page from wait h =
    subst (All (NeedFits wrote made collected)) (sym (needs-with (changes_came page from) wait))
    (All-map (NeedFits wrote made collected) (changes_came page from) (needs_of wait)
    (All-weaker (NeedFits wrote made collected) (λ need. NeedFits wrote made collected (changes_came page from need))
    (λ need f. by_test need f (need.page == page)) (needs_of wait) h))
  where
    by_test : (need : Need) → NeedFits wrote made collected need → (b : Bool)
        → NeedFits wrote made collected (if b then record need { asked = filter (λ asked. not (asked.maker == from)) need.asked } else need)
    by_test need f true = f
    by_test need f false = f

pub sent-needs : (wrote : Wrote) (made : List StoredRecord) (collected : List ℕ) (page : ℕ) (values : List ℕ) (wait : Wait)
    → FitsTime wrote made collected page values → All (NeedFits wrote made collected) (needs_of wait)
    → All (NeedFits wrote made collected) (needs_of (with_needs (page_came page values) wait))
sent-needs wrote made collected page values wait fits h =
    subst (All (NeedFits wrote made collected)) (sym (needs-with (page_came page values) wait))
    (All-map (NeedFits wrote made collected) (page_came page values) (needs_of wait)
    (All-weaker (NeedFits wrote made collected) (λ need. NeedFits wrote made collected (page_came page values need))
    (λ need f. by_test need f (need.page == page) refl) (needs_of wait) h))
  where
    by_test : (need : Need) → NeedFits wrote made collected need → (b : Bool) → (need.page == page) ≡ b
        → NeedFits wrote made collected (if b then record need { base = come values } else need)
    by_test need f true e = subst (λ p. FitsTime wrote made collected p values) (sym (eqb-true need.page page e)) fits
    by_test need f false e = f
