-- Lemmas on segments, for the crates above too.
use Rattle.std.proofs.Common.{ℕ, ◌≢◌, inl, inr, ◌≡◌, ◌<◌, ◌+◌, ◌-◌, ◌++◌, ◌∷◌, [], ◌∙◌, Bool, true, false, List, Some}
use Rattle.std.proofs.Common.{length, get_or, set, ap, sym, refl, subst, arith, length-set, ⊎_elim}
use Rattle.std.specs.Prelude.{slice_get}
use Rattle.std.specs.Option.{ForSome}
use Rattle.std.proofs.lemmas.Bool.{cases_eq, eq-eqb, ne_eqb}
use Rattle.std.proofs.lemmas.List.{get_or_default, get_or-map, get_or-set_same, length-append, length-map, map-append}
use Rattle.lrc_page.specs.Pages.{last_page}
use Rattle.std.proofs.lemmas.List.Elements.{All-set, All-push}
use Rattle.std.proofs.lemmas.Option.{same_Some, slice_get-get_or}
use Rattle.std.proofs.Math.Seq.{get_or-append_seam, map-set_same}
use Rattle.lrc_page.proofs.PageLists.{rising-push}
use Rattle.lrc_trace.specs.declared.trace.Segment.{Segment}
use Rattle.lrc_trace.specs.Segments.{MayFollow, opened, with_access, IsSegment, AreSegments, intervals_of}
use Rattle.lrc_trace.specs.Touched.{IsTouched}
use Rattle.lrc_trace.specs.Trace.{is_of, last_segment, noted_in, MayNote}
use Rattle.lrc_trace.proofs.TouchedPages.{touched-with_word}

-- no word
none : IsTouched []
none = record { rising = λ i j d before within. absurd (omega arith); masks = λ k d within. absurd (omega arith) }

pub segment-opened : (epoch interval : ℕ) (time : List ℕ) → IsSegment (opened epoch interval time)
segment-opened epoch interval time = record { reads = none; writes = none }

pub segment-with_access : (page offset : ℕ) (is_write : Bool) (s : Segment) → IsSegment s → IsSegment (with_access page offset is_write s)
segment-with_access page offset true s is = record { reads = is.reads; writes = touched-with_word page offset s.writes is.writes }
segment-with_access page offset false s is = record { reads = touched-with_word page offset s.reads is.reads; writes = is.writes }

pub interval-with_access : (page offset : ℕ) (is_write : Bool) (s : Segment) → (with_access page offset is_write s).interval ≡ s.interval
interval-with_access page offset true s = refl
interval-with_access page offset false s = refl

-- a segment may be put in the place of one of its interval
pub segments-set : (segments : List Segment) (n : ℕ) (s d : Segment) → s.interval ≡ (get_or segments n d).interval
    → IsSegment s → AreSegments segments → AreSegments (set segments n s)
segments-set segments n s d same is are = record {
  rising = rw (map-set_same (λ (t : Segment). t.interval) segments n s d same) are.rising;
  each = All-set IsSegment segments n s is are.each;
}

-- where the last segment is of an earlier interval
below_next : (segments : List Segment) (s : Segment)
    → ((d : Segment) → 0 < length segments → (get_or segments (length segments - 1) d).interval < s.interval)
    → ForSome (last_page (intervals_of segments)) (λ last. last < s.interval)
below_next [] s later last is = absurd (cc)
below_next (t ∷ ts) s later last is =
    let segments = t ∷ ts in
    let long : length (intervals_of segments) ≡ length segments = length-map segments (λ (p : Segment). p.interval) in
    let place = length segments - 1 in
    let here : slice_get (intervals_of segments) place ≡ Some (get_or (intervals_of segments) place 0) =
    slice_get-get_or (intervals_of segments) place 0 (omega arith) in
    let at : get_or (intervals_of segments) place 0 ≡ (get_or segments place t).interval =
    get_or-map (λ (p : Segment). p.interval) segments place t 0 (omega arith) in
    let same : Some last ≡ Some (get_or (intervals_of segments) place 0) =
    sym is ∙ ap (λ n. slice_get (intervals_of segments) (n - 1)) long ∙ here in
    let number : last ≡ get_or (intervals_of segments) place 0 = cc in
    omega (arith, later t (omega arith), at, number)

-- and one of a later interval behind the last
pub segments-push : (segments : List Segment) (s : Segment)
    → ((d : Segment) → 0 < length segments → (get_or segments (length segments - 1) d).interval < s.interval)
    → IsSegment s → AreSegments segments → AreSegments (segments ++ s ∷ [])
segments-push segments s later is are = record {
  rising = rw (map-append (λ (t : Segment). t.interval) segments (s ∷ []))
      (rising-push (intervals_of segments) s.interval are.rising (below_next segments s later));
  each = All-push IsSegment segments s are.each is;
}

-- ---- an access noted

-- the last segment
pub last_is : (segments : List Segment) (d : Segment) → 0 < length segments
    → last_segment segments ≡ Some (get_or segments (length segments - 1) d)
last_is segments d some = slice_get-get_or segments (length segments - 1) d (omega arith)

-- in a segment of the interval
pub noted-open : (segments : List Segment) (epoch interval : ℕ) (time : List ℕ) (page offset : ℕ) (is_write : Bool) (d : Segment)
    → 0 < length segments → (get_or segments (length segments - 1) d).interval ≡ interval
    → noted_in segments epoch interval time page offset is_write
    ≡ set segments (length segments - 1) (with_access page offset is_write (get_or segments (length segments - 1) d))
noted-open segments epoch interval time page offset is_write d some here =
    let last = get_or segments (length segments - 1) d in
    let open_is : is_of interval (last_segment segments) ≡ true =
    ap (is_of interval) (last_is segments d some) ∙ eq-eqb last.interval interval here in
    rw open_is
    (ap (λ s. set segments (length segments - 1) (with_access page offset is_write s))
    (get_or_default segments (length segments - 1) (opened epoch interval time) d (omega arith)))

-- in one more
pub noted-fresh : (segments : List Segment) (epoch interval : ℕ) (time : List ℕ) (page offset : ℕ) (is_write : Bool)
    → ((d : Segment) → 0 < length segments → (get_or segments (length segments - 1) d).interval ≢ interval)
    → noted_in segments epoch interval time page offset is_write
    ≡ segments ++ with_access page offset is_write (opened epoch interval time) ∷ []
noted-fresh [] epoch interval time page offset is_write other = refl
noted-fresh (t ∷ ts) epoch interval time page offset is_write other =
    let segments = t ∷ ts in
    let last = get_or segments (length segments - 1) t in
    let open_is : is_of interval (last_segment segments) ≡ false =
    ap (is_of interval) (last_is segments t (omega arith)) ∙ ne_eqb last.interval interval (other t (omega arith)) in
    rw open_is refl

-- what may be noted in a further segment is of a later interval
pub note-later : (segments : List Segment) (epoch interval : ℕ) (time : List ℕ) → MayNote segments epoch interval time
    → ((d : Segment) → 0 < length segments → (get_or segments (length segments - 1) d).interval ≢ interval)
    → (d : Segment) → 0 < length segments → (get_or segments (length segments - 1) d).interval < interval
note-later segments epoch interval time may other d some =
    elim (may (get_or segments (length segments - 1) d) (last_is segments d some)) [
      | inl less ↦ less
      | inr same ↦ absurd (other d some same.0)
    ]

-- ---- a further access of the interval

same_fields : (page offset : ℕ) (is_write : Bool) (s : Segment) (epoch interval : ℕ) (time : List ℕ)
    → (s.interval ≡ interval) × (s.epoch ≡ epoch) × (s.time ≡ time) → MayFollow (with_access page offset is_write s) epoch interval time
same_fields page offset true s epoch interval time same = inr same
same_fields page offset false s epoch interval time same = inr same

last_set : (segments : List Segment) (s t : Segment) → 0 < length segments → last_segment (set segments (length segments - 1) s) ≡ Some t → s ≡ t
last_set segments s t some is =
    let long : length (set segments (length segments - 1) s) ≡ length segments = length-set segments (length segments - 1) s in
    let at : last_segment (set segments (length segments - 1) s) ≡ Some s =
    last_is (set segments (length segments - 1) s) s (omega (arith, some, long))
    ∙ ap (λ n. Some (get_or (set segments (length segments - 1) s) (n - 1) s)) long
    ∙ ap Some (get_or-set_same segments (length segments - 1) s s (omega (arith, some))) in
    same_Some s t (sym at ∙ is)

last_push : (segments : List Segment) (s t : Segment) → last_segment (segments ++ s ∷ []) ≡ Some t → s ≡ t
last_push segments s t is =
    let long : length (segments ++ s ∷ []) ≡ length segments + 1 = length-append segments (s ∷ []) in
    let place : length (segments ++ s ∷ []) - 1 ≡ length segments = omega (arith, long) in
    let at : last_segment (segments ++ s ∷ []) ≡ Some s =
    last_is (segments ++ s ∷ []) s (omega (arith, long))
    ∙ ap (λ n. Some (get_or (segments ++ s ∷ []) n s)) place
    ∙ ap Some (get_or-append_seam segments s [] s) in
    same_Some s t (sym at ∙ is)

-- where an access of an interval was noted, another may be noted
pub noted-again : (segments : List Segment) (epoch interval : ℕ) (time : List ℕ) (page offset : ℕ) (is_write : Bool)
    → MayNote segments epoch interval time → MayNote (noted_in segments epoch interval time page offset is_write) epoch interval time
noted-again [] epoch interval time page offset is_write may t is =
    subst (λ (t : Segment). MayFollow t epoch interval time) (same_Some (with_access page offset is_write (opened epoch interval time)) t is)
    (same_fields page offset is_write (opened epoch interval time) epoch interval time (refl, refl, refl))
noted-again (first ∷ rest) epoch interval time page offset is_write may t is =
    let segments : List Segment = first ∷ rest in
    let last : Segment = get_or segments (length segments - 1) first in
    let last_there : last_segment segments ≡ Some last = last_is segments first (omega arith) in
    ⊎_elim
    (λ (here : last.interval ≡ interval).
    let put : Segment = with_access page offset is_write last in
    let same : (last.interval ≡ interval) × (last.epoch ≡ epoch) × (last.time ≡ time) =
    ⊎_elim (λ (less : last.interval < interval). absurd (omega (arith, less, here))) (λ same. same) (may last last_there) in
    let is_put : put ≡ t =
    last_set segments put t (omega arith)
    (ap last_segment (sym (noted-open segments epoch interval time page offset is_write first (omega arith) here)) ∙ is) in
    subst (λ (t : Segment). MayFollow t epoch interval time) is_put (same_fields page offset is_write last epoch interval time same))
    (λ (apart : last.interval ≢ interval).
    let added : Segment = with_access page offset is_write (opened epoch interval time) in
    let other : (d : Segment) → 0 < length segments → (get_or segments (length segments - 1) d).interval ≢ interval =
    λ d some same. apart (ap (λ (s : Segment). s.interval) (get_or_default segments (length segments - 1) first d (omega (arith, some))) ∙ same) in
    let is_added : added ≡ t =
    last_push segments added t (ap last_segment (sym (noted-fresh segments epoch interval time page offset is_write other)) ∙ is) in
    subst (λ (t : Segment). MayFollow t epoch interval time) is_added
    (same_fields page offset is_write (opened epoch interval time) epoch interval time (refl, refl, refl)))
    (cases_eq last.interval interval)
