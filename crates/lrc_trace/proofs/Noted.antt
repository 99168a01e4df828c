-- What a trace has once an access is noted.
use Rattle.std.proofs.Common.{ℕ, ◌≡◌, ◌≢◌, ◌<◌, ◌-◌, ◌++◌, ◌∷◌, [], ◌∙◌, ◌⊎◌, ◌↔◌, ◌||◌, ◌&&◌, inl, inr, Bool, true, false, List}
use Rattle.std.proofs.Common.{length, get_or, set, eqb, eqb-true, ap, sym, refl, subst, ⊎_elim, arith, length-set}
use Rattle.std.specs.Prelude.{IsTrue, Contains}
use Rattle.std.proofs.lemmas.Bool.{false≢true, cases_eq, eq-eqb, and_parts, and_from}
use Rattle.std.proofs.lemmas.List.{get_or_default, get_or-set_same, get_or-set_other}
use Rattle.std.proofs.lemmas.List.Elements.{Contains-push, Contains-push_cases, Contains-append_left}
use Rattle.lrc_page.specs.declared.size.Size.{Size}
use Rattle.lrc_page.specs.Place.{page_of, offset_of}
use Rattle.lrc_page.proofs.PageLists.{offset_of-within, same_place, words_of-most}
use Rattle.lrc_trace.specs.declared.trace.Segment.{Segment}
use Rattle.lrc_trace.specs.Touched.{has_word, with_word, IsTouched}
use Rattle.lrc_trace.specs.declared.touched.TouchedPage.{TouchedPage}
use Rattle.lrc_trace.specs.Segments.{opened, with_access, IsSegment, AreSegments}
use Rattle.lrc_trace.specs.Trace.{TraceRecord, NotedAccess, IsNoted, MayNote, has_access, noted}
use Rattle.lrc_trace.proofs.TouchedPages.{has_word-with_word}
use Rattle.lrc_trace.proofs.SegmentLists.{interval-with_access, last_is, noted-open, noted-fresh, segment-opened}

-- ---- one segment

or_parts : (a b : Bool) → (a || b) ≡ true → (a ≡ true) ⊎ (b ≡ true)
or_parts true b is = inl refl
or_parts false b is = inr is

or_left : (a b : Bool) → a ≡ true → (a || b) ≡ true
or_left a b is = rw is refl

or_right : (a b : Bool) → b ≡ true → (a || b) ≡ true
or_right true b is = refl
or_right false b is = is

-- the words of a segment with one more
words-with_word : (size : Size) (pages : List TouchedPage) (word w : ℕ) → IsTouched pages
    → IsTrue (has_word (with_word (page_of word size) (offset_of word size) pages) (page_of w size) (offset_of w size))
    ↔ (IsTrue (has_word pages (page_of w size) (offset_of w size)) ⊎ (w ≡ word))
words-with_word size pages word w is =
    let page = page_of word size in
    let offset = offset_of word size in
    let p = page_of w size in
    let o = offset_of w size in
    let new = eqb page p && eqb o offset in
    let small : offset < 256 = omega (arith, offset_of-within word size, words_of-most size) in
    let sum = has_word-with_word page offset pages p o small is.masks in (
      λ there. elim (or_parts new (has_word pages p o) (sym sum ∙ there)) [
        | inl this ↦
            let both = and_parts (eqb page p) (eqb o offset) this in
            inr (same_place w word size (sym (eqb-true page p both.0)) (eqb-true o offset both.1))
        | inr old ↦ inl old
      ],
      λ either. elim either [
        | inl old ↦ sum ∙ or_right new (has_word pages p o) old
        | inr same ↦
            let pages_are : page ≡ p = ap (λ n. page_of n size) (sym same) in
            let offsets_are : o ≡ offset = ap (λ n. offset_of n size) same in
            sum
            ∙ or_left new (has_word pages p o)
            (and_from (eqb page p) (eqb o offset) (eq-eqb page p pages_are) (eq-eqb o offset offsets_are))
      ],
    )

-- the accesses of a segment with one more
pub has_access-with_access : (size : Size) (s : Segment) (word : ℕ) (is_write : Bool) (w : ℕ) (b : Bool) → IsSegment s
    → IsTrue (has_access size (with_access (page_of word size) (offset_of word size) is_write s) b w)
    ↔ (IsTrue (has_access size s b w) ⊎ ((w ≡ word) × (b ≡ is_write)))
has_access-with_access size s word true w true is =
    let words = words-with_word size s.writes word w is.writes in (
      λ there. ⊎_elim (λ old. inl old) (λ same. inr (same, refl)) (words.0 there),
      λ either. words.1 (⊎_elim (λ old. inl old) (λ same. inr same.0) either),
    )
has_access-with_access size s word false w false is =
    let words = words-with_word size s.reads word w is.reads in (
      λ there. ⊎_elim (λ old. inl old) (λ same. inr (same, refl)) (words.0 there),
      λ either. words.1 (⊎_elim (λ old. inl old) (λ same. inr same.0) either),
    )
has_access-with_access size s word true w false is = (λ there. inl there, λ either. ⊎_elim (λ old. old) (λ same. absurd (cc (same.1))) either)
has_access-with_access size s word false w true is = (λ there. inl there, λ either. ⊎_elim (λ old. old) (λ same. absurd (cc (same.1))) either)

-- ---- a segment with its epoch, interval and time

-- the access is one of the segment
record IsIn (size : Size) (segment : Segment) (access : NotedAccess) : Type 0 where
  epoch : segment.epoch ≡ access.epoch
  interval : segment.interval ≡ access.interval
  time : segment.time ≡ access.time
  has : IsTrue (has_access size segment access.is_write access.word)

to_in : (trace : TraceRecord) (access : NotedAccess) (n : IsNoted trace access) → IsIn trace.size n.segment access
to_in trace access n = record { epoch = n.epoch; interval = n.interval; time = n.time; has = n.has }

from_in : (trace : TraceRecord) (access : NotedAccess) (s : Segment) → Contains trace.segments s → IsIn trace.size s access
    → IsNoted trace access
from_in trace access s there is =
    record { segment = s; there = there; epoch = is.epoch; interval = is.interval; time = is.time; has = is.has }

-- the access that is noted
abbrev pub this_access : ℕ → ℕ → List ℕ → ℕ → Bool → NotedAccess
this_access epoch interval time word is_write =
    record { epoch = epoch; interval = interval; time = time; word = word; is_write = is_write }

pub same_access : (access : NotedAccess) (epoch interval : ℕ) (time : List ℕ) (word : ℕ) (is_write : Bool) → access.epoch ≡ epoch
    → access.interval ≡ interval → access.time ≡ time → access.word ≡ word → access.is_write ≡ is_write
    → access ≡ this_access epoch interval time word is_write
same_access access epoch interval time word is_write e i t w b =
    let same : this_access access.epoch access.interval access.time access.word access.is_write ≡ this_access epoch interval time word is_write = cc in same

epoch_is : (page offset : ℕ) (is_write : Bool) (s : Segment) → (with_access page offset is_write s).epoch ≡ s.epoch
epoch_is page offset true s = refl
epoch_is page offset false s = refl

time_is : (page offset : ℕ) (is_write : Bool) (s : Segment) → (with_access page offset is_write s).time ≡ s.time
time_is page offset true s = refl
time_is page offset false s = refl

module _ (size : Size) (word : ℕ) (is_write : Bool) (s : Segment) (is : IsSegment s) where
  abbrev new : Segment
  new = with_access (page_of word size) (offset_of word size) is_write s

  in_old : (access : NotedAccess) → IsIn size s access → IsIn size new access
  in_old access old = record {
    epoch = epoch_is (page_of word size) (offset_of word size) is_write s ∙ old.epoch;
    interval = interval-with_access (page_of word size) (offset_of word size) is_write s ∙ old.interval;
    time = time_is (page_of word size) (offset_of word size) is_write s ∙ old.time;
    has = (has_access-with_access size s word is_write access.word access.is_write is).1 (inl old.has);
  }

  in_this : IsIn size new (this_access s.epoch s.interval s.time word is_write)
  in_this = record {
    epoch = epoch_is (page_of word size) (offset_of word size) is_write s;
    interval = interval-with_access (page_of word size) (offset_of word size) is_write s;
    time = time_is (page_of word size) (offset_of word size) is_write s;
    has = (has_access-with_access size s word is_write word is_write is).1 (inr (refl, refl));
  }

  in_new : (access : NotedAccess) → IsIn size new access
      → IsIn size s access ⊎ (access ≡ this_access s.epoch s.interval s.time word is_write)
  in_new access there =
      let e = sym there.epoch ∙ epoch_is (page_of word size) (offset_of word size) is_write s in
      let i = sym there.interval ∙ interval-with_access (page_of word size) (offset_of word size) is_write s in
      let t = sym there.time ∙ time_is (page_of word size) (offset_of word size) is_write s in
      ⊎_elim
      (λ old. inl (record { epoch = sym e; interval = sym i; time = sym t; has = old }))
      (λ (w, b). inr (same_access access s.epoch s.interval s.time word is_write e i t w b))
      ((has_access-with_access size s word is_write access.word access.is_write is).0 there.has)

-- a segment without accesses has none
no_access : (size : Size) (epoch interval : ℕ) (time : List ℕ) (is_write : Bool) (word : ℕ)
    → IsTrue (has_access size (opened epoch interval time) is_write word) → ⊥
no_access size epoch interval time true word there = false≢true there
no_access size epoch interval time false word there = false≢true there

-- the last of the segments is of the interval, or not
pub first_of_segments : (segments : List Segment) (interval : ℕ)
    → (((d : Segment) → 0 < length segments → (get_or segments (length segments - 1) d).interval ≢ interval)
    ⊎ ((d : Segment) × (0 < length segments) × ((get_or segments (length segments - 1) d).interval ≡ interval)))
first_of_segments [] interval = inl (λ d some. absurd (omega arith))
first_of_segments (t ∷ ts) interval =
    ⊎_elim
    (λ (same : (get_or (t ∷ ts) (length (t ∷ ts) - 1) t).interval ≡ interval). inr (t, omega arith, same))
    (λ (apart : (get_or (t ∷ ts) (length (t ∷ ts) - 1) t).interval ≡ interval → ⊥).
    inl (λ d some same.
    apart (ap (λ (s : Segment). s.interval) (get_or_default (t ∷ ts) (length (t ∷ ts) - 1) t d (omega arith)) ∙ same)))
    (cases_eq (get_or (t ∷ ts) (length (t ∷ ts) - 1) t).interval interval)

-- ---- a trace

module _ (trace : TraceRecord) (epoch interval : ℕ) (time : List ℕ) (word : ℕ) (is_write : Bool)
    (are : AreSegments trace.segments) (may : MayNote trace.segments epoch interval time) where
  abbrev after : TraceRecord
  after = noted trace epoch interval time word is_write

  abbrev this : NotedAccess
  this = this_access epoch interval time word is_write

  abbrev last : ℕ
  last = length trace.segments - 1

  -- in the last segment
  module _ (d : Segment) (some : 0 < length trace.segments) (here : (get_or trace.segments last d).interval ≡ interval) where
    abbrev s : Segment
    s = get_or trace.segments last d

    same_fields : (s.interval ≡ interval) × (s.epoch ≡ epoch) × (s.time ≡ time)
    same_fields =
        ⊎_elim (λ less. absurd (omega (arith, here))) (λ same. same) (may s (last_is trace.segments d some))

    is_segment : IsSegment s
    is_segment = are.each last d (omega arith)

    abbrev put : Segment
    put = with_access (page_of word trace.size) (offset_of word trace.size) is_write s

    segments_are : after.segments ≡ set trace.segments last put
    segments_are = noted-open trace.segments epoch interval time (page_of word trace.size) (offset_of word trace.size) is_write d some here

    put_there : Contains after.segments put
    put_there =
        rw segments_are (last, omega (arith, length-set {A = Segment}), get_or-set_same trace.segments last put put (omega arith))

    this_is : this ≡ this_access s.epoch s.interval s.time word is_write
    this_is = same_access this s.epoch s.interval s.time word is_write (sym same_fields.1) (sym same_fields.0) (sym same_fields.2) refl refl

    open-to : (access : NotedAccess) → IsNoted after access → IsNoted trace access ⊎ (access ≡ this)
    open-to access n =
        let (k, within, is) = subst (λ (xs : List Segment). Contains xs n.segment) segments_are n.there in
        ⊎_elim
        (λ (at : k ≡ last).
        let it : n.segment ≡ put =
        sym is ∙ ap (λ m. get_or (set trace.segments last put) m n.segment) at ∙ get_or-set_same trace.segments last put n.segment (omega arith) in
        ⊎_elim
        (λ old. inl (from_in trace access s (last, omega arith, get_or_default trace.segments last s d (omega arith)) old))
        (λ same. inr (same ∙ sym this_is))
        (in_new trace.size word is_write s is_segment access (subst (λ (x : Segment). IsIn trace.size x access) it (to_in after access n))))
        (λ (apart : k ≡ last → ⊥).
        let stays : get_or trace.segments k n.segment ≡ n.segment =
        sym (get_or-set_other trace.segments last k put n.segment apart) ∙ is in
        inl (from_in trace access n.segment (k, omega (arith, length-set {A = Segment}, within), stays) (to_in after access n)))
        (cases_eq k last)

    open-from : (access : NotedAccess) → IsNoted trace access ⊎ (access ≡ this) → IsNoted after access
    open-from access either =
        ⊎_elim
        (λ n.
        let (k, within, is) = n.there in
        ⊎_elim
        (λ (at : k ≡ last).
        let it : n.segment ≡ s = sym is ∙ ap (λ m. get_or trace.segments m n.segment) at ∙ get_or_default trace.segments last n.segment d (omega arith) in
        from_in after access put put_there
        (in_old trace.size word is_write s is_segment access (subst (λ (x : Segment). IsIn trace.size x access) it (to_in trace access n))))
        (λ (apart : k ≡ last → ⊥).
        let stays : get_or (set trace.segments last put) k n.segment ≡ n.segment =
        get_or-set_other trace.segments last k put n.segment apart ∙ is in
        from_in after access n.segment (rw segments_are (k, omega (arith, length-set {A = Segment}), stays)) (to_in trace access n))
        (cases_eq k last))
        (λ same. subst (λ (x : NotedAccess). IsNoted after x) (sym (same ∙ this_is))
        (from_in after (this_access s.epoch s.interval s.time word is_write) put put_there (in_this trace.size word is_write s is_segment)))
        either

  -- in one more
  module _ (other : (d : Segment) → 0 < length trace.segments → (get_or trace.segments last d).interval ≢ interval) where
    abbrev fresh : Segment
    fresh = opened epoch interval time

    abbrev added : Segment
    added = with_access (page_of word trace.size) (offset_of word trace.size) is_write fresh

    more : after.segments ≡ trace.segments ++ added ∷ []
    more = noted-fresh trace.segments epoch interval time (page_of word trace.size) (offset_of word trace.size) is_write other

    fresh_is : IsSegment fresh
    fresh_is = segment-opened epoch interval time

    -- a segment without accesses has none
    nothing : (access : NotedAccess) → IsIn trace.size fresh access → ⊥
    nothing access none = no_access trace.size epoch interval time access.is_write access.word none.has

    fresh-to : (access : NotedAccess) → IsNoted after access → IsNoted trace access ⊎ (access ≡ this)
    fresh-to access n =
        ⊎_elim
        (λ old. inl (from_in trace access n.segment old (to_in after access n)))
        (λ same.
        ⊎_elim
        (λ none. absurd (nothing access none))
        (λ it. inr it)
        (in_new trace.size word is_write fresh fresh_is access
        (subst (λ (x : Segment). IsIn trace.size x access) (sym same) (to_in after access n))))
        (Contains-push_cases trace.segments added n.segment (subst (λ (xs : List Segment). Contains xs n.segment) more n.there))

    fresh-from : (access : NotedAccess) → IsNoted trace access ⊎ (access ≡ this) → IsNoted after access
    fresh-from access either =
        ⊎_elim
        (λ n.
        from_in after access n.segment
        (subst (λ (xs : List Segment). Contains xs n.segment) (sym more) (Contains-append_left trace.segments (added ∷ []) n.segment n.there))
        (to_in trace access n))
        (λ same.
        subst (λ (x : NotedAccess). IsNoted after x) (sym same)
        (from_in after this added (subst (λ (xs : List Segment). Contains xs added) (sym more) (Contains-push trace.segments added))
        (in_this trace.size word is_write fresh fresh_is)))
        either

  decide : (((d : Segment) → 0 < length trace.segments → (get_or trace.segments last d).interval ≢ interval)
      ⊎ ((d : Segment) × (0 < length trace.segments) × ((get_or trace.segments last d).interval ≡ interval)))
  decide = first_of_segments trace.segments interval

  pub added-to : (access : NotedAccess) → IsNoted after access → IsNoted trace access ⊎ (access ≡ this)
  added-to access n = ⊎_elim (λ other. fresh-to other access n) (λ (d, some, here). open-to d some here access n) decide

  pub added-from : (access : NotedAccess) → IsNoted trace access ⊎ (access ≡ this) → IsNoted after access
  added-from access either = ⊎_elim (λ other. fresh-from other access either) (λ (d, some, here). open-from d some here access either) decide
