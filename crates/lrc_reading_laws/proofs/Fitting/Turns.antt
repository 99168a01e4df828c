-- A turn of a node keeps it so that its copies, its base copies and those that came fit their times.
use Rattle.std.proofs.Common.{◌≡◌, ℕ, ◌+◌, ◌<◌, ◌≤◌, List, [], ◌∷◌, ◌++◌, Bool, true, false, length, map, refl, sym, ap, subst, ◌∙◌, arith, append-nil}
use Rattle.std.specs.Prelude.{Option, Some, None, Contains, ◌==◌, ◌&&◌, fold, max, if◌then◌else◌}
use Rattle.std.specs.List.{list_any, range_with_len}
use Rattle.std.proofs.lemmas.Bool.{and_from, eq-eqb, ne_eqb, false≢true}
use Rattle.std.proofs.lemmas.List.Elements.{All-nil, All-cons}
use Rattle.lrc_time.specs.Time.{entry, joined}
use Rattle.lrc_time.proofs.Times.{entry-set_same, entry-joined}
use Rattle.lrc_page.specs.Page.{words_of}
use Rattle.lrc_store.specs.Interval.{IntervalRecord}
use Rattle.lrc_store.specs.Store.{StoredRecord, interval_of, intervals_of, notice_of}
use Rattle.lrc_store.proofs.Orders.{filter-Contains, Contains-first}
use Rattle.lrc_envelope.specs.Records.{PageReplyRecord}
use Rattle.lrc_envelope.specs.declared.message.Message.TheVariants.{PageReply}
use Rattle.lrc_copies.specs.Stamps.{StandsBetween}
use Rattle.lrc_copies.proofs.Stamping.{covered-le}
use Rattle.lrc_protocol.specs.Times.{next_time, is_named}
use Rattle.lrc_protocol.specs.Pages.{Copy, valid, written, invalid, absent, dropped, need_of, changes_came, page_came, Memory, copy_at}
use Rattle.lrc_protocol.specs.Pages.{keeper_at, learned, with_interval, with_part}
use Rattle.lrc_protocol.specs.Barriers.{Collection, base_at, kept_pages, after_collection, with_keepers}
use Rattle.lrc_protocol.specs.Node.{Wait, nothing, grant, departure, access, upkeep, discard}
use Rattle.lrc_protocol.specs.Turn.{with_needs}
use Rattle.lrc_order_laws.proofs.Sends.{Came, comes}
use Rattle.lrc_node_laws.specs.Needs.{FitsKept}
use Rattle.lrc_node_laws.specs.Ranges.{IsWholeBase, CollectsAt}
use Rattle.lrc_node_laws.specs.Waits.{NoneWritten, IsQuiet}
use Rattle.lrc_node_laws.proofs.Change.{View, News, is_open, kept_in, needs_in}
use Rattle.lrc_node_laws.proofs.Lists.{length-placed}
use Rattle.lrc_node_laws.proofs.OwnCopies.{map-copy}
use Rattle.lrc_reading_laws.specs.Made.{AllMade}
use Rattle.lrc_reading_laws.specs.Written.{made_stamps}
use Rattle.lrc_reading_laws.proofs.Laws.{bound_in}
use Rattle.lrc_reading_laws.proofs.Closed.Stored.{in_range}
use Rattle.lrc_reading_laws.proofs.Stamped.Lists.{interval-in}
use Rattle.lrc_node_laws.proofs.Turning.{First, Brings, knowing, rests, manages, closes, learns, begins, discards, misses, gets_changes, gets_page}
use Rattle.lrc_reading_laws.proofs.Fitting.Copies.{Wrote, FitsTime, CopyFits, Fit, Facts, Stored, later_fits, base-within, bound-with, bound-open}
use Rattle.lrc_reading_laws.proofs.Fitting.First.{closed_in, Shuts, closes-fit, list_any-in, placed-base, above-time, learned-copies}
use Rattle.lrc_reading_laws.proofs.Fitting.First.{NeedFits, base_of-fits, new-needs, changed-needs, sent-needs}
use Rattle.lrc_reading_laws.proofs.Fitting.Later.{AtView}
use Rattle.lrc_reading_laws.proofs.Fitting.Repair.{unnamed}

-- ---- a collection ends

dropped-fits : (wrote : Wrote) (made : List StoredRecord) (time : List ℕ) (page : ℕ) (copy : Copy) → CopyFits wrote made time page copy
    → CopyFits wrote made time page (dropped copy)
dropped-fits wrote made time page (valid values) h = h
dropped-fits wrote made time page (written values twin) h = h
dropped-fits wrote made time page (invalid values since) h = tt
dropped-fits wrote made time page absent h = tt

no_base_left : (values : List ℕ) → None ≡ Some values → ⊥
no_base_left values e = cc

module _ (count : ℕ) (wrote : Wrote) (made : List StoredRecord) (v : View) (facts : Facts count (words_of v.size) wrote made) (a : AtView v)
    (s : Stored made v.time v.memory.collected v.memory.store) (h : Fit wrote made v.time v.wait v.memory) (collection : Collection)
    (w : v.wait ≡ discard collection) where
  now : collection.time ≡ v.time
  now = subst (CollectsAt v.time) w a.ranged.present

  -- a page that the node keeps, but not anew, was named by no interval since the last collection
  not_kept : (page : ℕ) → page < length v.memory.keepers → (keeper_at v.memory page == v.setting.me) ≡ true
      → list_any (λ k. k == page) collection.kept ≡ false → (x : StoredRecord) → StandsBetween made_stamps made v.memory.collected v.time x
      → notice_of page x ≡ None
  not_kept page lt mine none x b =
      let kept : FitsKept v.setting.me v.memory (discard collection) = subst (FitsKept v.setting.me v.memory) w a.needed.kept in
      unnamed page x (λ n.
      let there : Contains (intervals_of v.memory.store) (interval_of x) =
      (s.just (interval_of x)).1 (interval-in made x b.member, above-time v.memory.collected x b.later, covered-le made_stamps v.time x b.known) in
      let named : is_named (intervals_of v.memory.store) page ≡ true =
      list_any-in (λ (i : IntervalRecord). list_any (λ named. named == page) i.pages) (intervals_of v.memory.store) (interval_of x) there n in
      let in_range : Contains (range_with_len 0 (length v.memory.keepers)) page =
      in_range 0 (length v.memory.keepers) page (omega arith) (omega (arith, lt)) in
      let is_kept : Contains (kept_pages v.setting.me v.memory) page =
      (filter-Contains (λ page. is_named (intervals_of v.memory.store) page && (keeper_at v.memory page == v.setting.me))
      (range_with_len 0 (length v.memory.keepers)) page).1
      (in_range, and_from (is_named (intervals_of v.memory.store) page) (keeper_at v.memory page == v.setting.me) named mine) in
      false≢true (sym none ∙ list_any-in (λ k. k == page) collection.kept page (subst (λ l. Contains l page) (sym kept.0) is_kept) (eq-eqb page page refl)))

  base-fits : (page : ℕ) (values : List ℕ) → page < length v.memory.bases → base_at v.memory page ≡ Some values
      → (keeper_at v.memory page == v.setting.me) ≡ true → (b : Bool) → list_any (λ k. k == page) collection.kept ≡ b
      → FitsTime wrote made (if b then collection.time else v.memory.collected) page values → FitsTime wrote made collection.time page values
  base-fits page values lt e mine true kept f = f
  base-fits page values lt e mine false kept f =
      let long : length values ≡ words_of v.size = subst (IsWholeBase (words_of v.size)) e (a.whole.bases page None lt) in
      subst (λ time. FitsTime wrote made time page values) (sym now)
      (later_fits wrote made (words_of v.size) page v.memory.collected v.time values long a.exact.below
      (λ x b. facts.untouched page x b.member
      (not_kept page (omega (arith, lt, a.ranged.memory.bases, a.ranged.memory.keepers)) mine kept x b)) f)

  left-fits : (page : ℕ) (values : List ℕ) → page < length v.memory.bases → (b : Bool) → (keeper_at v.memory page == v.setting.me) ≡ b
      → (if b then base_at v.memory page else None) ≡ Some values → FitsTime wrote made collection.time page values
  left-fits page values lt true mine e =
      base-fits page values lt e mine (list_any (λ k. k == page) collection.kept) refl
      (subst (λ w. FitsTime wrote made (bound_in w v.memory.collected page) page values) w (h.bases page values e))
  left-fits page values lt false mine e = absurd (no_base_left values e)

  discards-fit : Fit wrote made v.time nothing (after_collection v.setting.me collection.time v.memory)
  discards-fit =
      let f : ℕ × Option (List ℕ) → Option (List ℕ) = λ place. if keeper_at v.memory place.0 == v.setting.me then place.1 else None in
      let after : Memory = after_collection v.setting.me collection.time v.memory in
      record {
        copies = λ page.
            subst (CopyFits wrote made v.time page) (sym (map-copy dropped refl v.memory.copies page))
            (dropped-fits wrote made v.time page (copy_at v.memory page) (h.copies page));
        bases = λ page values e.
            let within : page < length after.bases = base-within after page values e in
            let lt : page < length v.memory.bases = omega (arith, within, length-placed f v.memory.bases) in
            left-fits page values lt (keeper_at v.memory page == v.setting.me) refl (sym (placed-base f v.memory.bases page lt) ∙ e);
        needs = All-nil (NeedFits wrote made collection.time);
      }

-- ---- what comes of an input

open-none : (wait : Wait) (memory : Memory) → is_open wait ≡ true → IsQuiet wait memory → NoneWritten memory
open-none nothing memory o h = cc
open-none (grant lock) memory o h = h
open-none departure memory o h = h
open-none (access need) memory o h = cc
open-none (upkeep collection needs) memory o h = cc
open-none (discard collection) memory o h = cc

none_closed : (made : List StoredRecord) (v after : View) (x : StoredRecord) → entry after.time v.setting.me ≡ entry v.time v.setting.me
    → made ≡ made ++ closed_in v after x
none_closed made v after x e =
    sym (append-nil made) ∙ ap (λ b. made ++ (if b then [] else x ∷ [])) (sym (eq-eqb (entry after.time v.setting.me) (entry v.time v.setting.me) e))

one_closed : (v after : View) (x : StoredRecord) → (entry after.time v.setting.me ≡ entry v.time v.setting.me → ⊥) → x ∷ [] ≡ closed_in v after x
one_closed v after x e = ap (λ b. if b then [] else x ∷ []) (sym (ne_eqb (entry after.time v.setting.me) (entry v.time v.setting.me) e))

own_stays : (me : ℕ) (time news : List ℕ) → entry news me ≤ entry time me → entry (joined time news) me ≡ entry time me
own_stays me time news le = entry-joined time news me ∙ most (entry time me) (entry news me) le
  where
    most : (a b : ℕ) → b ≤ a → max a b ≡ a
    most a b le = omega (arith, le)

module _ (came : Came) (count : ℕ) (wrote : Wrote) (made : List StoredRecord) (v : View) (x : StoredRecord)
    (facts : Facts count (words_of v.size) wrote made) (counted : v.setting.nodes ≡ count) (a : AtView v)
    (s : Stored made v.time v.memory.collected v.memory.store)
    (told : (intervals : List IntervalRecord) → Brings came intervals → AllMade (map interval_of made) intervals)
    (sent : (from : ℕ) (m : PageReplyRecord) → came ≡ comes from (PageReply m) → FitsTime wrote made v.memory.collected m.page m.values)
    (stamp : next_time v.setting.me v.time ≡ x.stamp) (h : Fit wrote made v.time v.wait v.memory) where
  abbrev FitThen : View → Type 0
  FitThen after = Fit wrote (made ++ closed_in v after x) after.time after.wait after.memory

  -- where nothing is closed
  stays : (after : View) → entry after.time v.setting.me ≡ entry v.time v.setting.me → Fit wrote made after.time after.wait after.memory → FitThen after
  stays after e f = subst (λ all. Fit wrote all after.time after.wait after.memory) (none_closed made v after x e) f

  shuts : (after : View) → (entry after.time v.setting.me ≡ entry v.time v.setting.me → ⊥)
      → (Contains (closed_in v after x) x → Shuts count (words_of v.size) wrote made v x) → Shuts count (words_of v.size) wrote made v x
  shuts after e shut = shut (subst (λ l. Contains l x) (one_closed v after x e) (Contains-first x []))

  bound_was : (wait : Wait) → v.wait ≡ wait → (page : ℕ) (values : List ℕ) → base_at v.memory page ≡ Some values
      → FitsTime wrote made (bound_in wait v.memory.collected page) page values
  bound_was wait w page values e = subst (λ w. FitsTime wrote made (bound_in w v.memory.collected page) page values) w (h.bases page values e)

  learns-copies : (time : List ℕ) (intervals : List IntervalRecord) → is_open v.wait ≡ true → News v time intervals → Brings came intervals
      → (page : ℕ) → CopyFits wrote made (joined v.time time) page (copy_at (learned v.time intervals v.memory) page)
  learns-copies time intervals o n b =
      learned-copies count wrote made v facts counted a time intervals n (told intervals b) s.time_cut (open-none v.wait v.memory o a.quiet) h.copies

  pub first-fit : (after : View) → First came v after → (Contains (closed_in v after x) x → Shuts count (words_of v.size) wrote made v x) → FitThen after
  first-fit _ rests shut = stays v refl h
  first-fit _ (manages before manager e many) shut = stays v refl h
  first-fit _ (closes wait e settled) shut =
      let after : View = record v {
        wait = wait;
        time = next_time v.setting.me v.time;
        memory = with_interval v.setting.me (next_time v.setting.me v.time) v.memory;
      } in
      let more : entry after.time v.setting.me ≡ entry v.time v.setting.me + 1 =
      entry-set_same v.time v.setting.me (entry v.time v.setting.me + 1) (omega (arith, a.ranged.me, a.ranged.time)) in
      let rises : entry after.time v.setting.me ≡ entry v.time v.setting.me → ⊥ = λ same. omega (arith, more, same) in
      subst (λ new. Fit wrote (made ++ new) after.time after.wait after.memory) (one_closed v after x rises)
      (closes-fit count wrote made v a x (shuts after rises shut) h wait e settled stamp)
  first-fit _ (learns time intervals o n b) shut =
      stays (record (knowing v time intervals) { wait = nothing }) (own_stays v.setting.me v.time time n.own)
      (record {
        copies = learns-copies time intervals o n b;
        bases = λ page values e.
            subst (λ time. FitsTime wrote made time page values) (bound-open v.wait v.memory.collected page o) (h.bases page values e);
        needs = All-nil (NeedFits wrote made v.memory.collected);
      })
  first-fit _ (begins time intervals e c n b) shut =
      let after : View = record (knowing v time intervals) {
        wait = upkeep (record { time = time; kept = kept_in (knowing v time intervals) }) (needs_in (knowing v time intervals));
        memory = with_keepers (knowing v time intervals).memory;
      } in
      stays after (own_stays v.setting.me v.time time n.own)
      (record {
        copies = learns-copies time intervals (ap is_open e) n b;
        bases = bound_was departure e;
        needs = new-needs wrote made v.memory.collected v.setting.nodes (with_keepers (knowing v time intervals).memory) _;
      })
  first-fit _ (discards collection e) shut =
      stays (record v { wait = nothing; memory = after_collection v.setting.me collection.time v.memory }) refl
      (discards-fit count wrote made v facts a s h collection e)
  first-fit _ (misses page e lt b n) shut =
      stays (record v { wait = access (need_of v.setting.nodes v.memory page) }) refl
      (record {
        copies = h.copies;
        bases = bound_was nothing e;
        needs =
            All-cons (NeedFits wrote made v.memory.collected) (need_of v.setting.nodes v.memory page) []
            (base_of-fits wrote made v.memory.collected page (keeper_at v.memory page) (copy_at v.memory page))
            (All-nil (NeedFits wrote made v.memory.collected));
      })
  first-fit _ (gets_changes from m r) shut =
      stays
      (record v {
        wait = with_needs (changes_came m.page from) v.wait;
        memory = record v.memory { store = fold (with_part from m.page) v.memory.store m.parts };
      }) refl
      (record {
        copies = h.copies;
        bases = λ page values e.
            subst (λ time. FitsTime wrote made time page values) (sym (bound-with (changes_came m.page from) v.wait v.memory.collected page))
            (h.bases page values e);
        needs = changed-needs wrote made v.memory.collected m.page from v.wait h.needs;
      })
  first-fit _ (gets_page from m is r) shut =
      stays (record v { wait = with_needs (page_came m.page m.values) v.wait }) refl
      (record {
        copies = h.copies;
        bases = λ page values e.
            subst (λ time. FitsTime wrote made time page values) (sym (bound-with (page_came m.page m.values) v.wait v.memory.collected page))
            (h.bases page values e);
        needs = sent-needs wrote made v.memory.collected m.page m.values v.wait (sent from m is) h.needs;
      })
