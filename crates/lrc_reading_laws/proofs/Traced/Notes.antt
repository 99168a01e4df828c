-- The segments of a trace once an access is noted: their intervals ascend, and each has an access.
use Rattle.std.proofs.Common.{◌≡◌, ◌≢◌, ℕ, ◌-◌, ◌<◌, List, Bool, length, get_or, refl, sym, subst, inr, ⊎_elim, arith}
use Rattle.std.specs.Prelude.{IsTrue, All}
use Rattle.std.proofs.lemmas.List.Elements.{All-push, All-set}
use Rattle.lrc_page.specs.declared.size.Size.{Size}
use Rattle.lrc_page.specs.Place.{page_of, offset_of}
use Rattle.lrc_trace.specs.declared.trace.Segment.{Segment}
use Rattle.lrc_trace.specs.Segments.{opened, with_access, IsSegment, AreSegments}
use Rattle.lrc_trace.specs.Trace.{TraceRecord, MayNote, has_access, noted}
use Rattle.lrc_trace.proofs.SegmentLists.{segment-opened, segment-with_access, interval-with_access, segments-set}
use Rattle.lrc_trace.proofs.SegmentLists.{segments-push, noted-open, noted-fresh, note-later}
use Rattle.lrc_trace.proofs.Noted.{has_access-with_access, first_of_segments}

-- the segment has some access
abbrev pub HasSome : Size → Segment → Type 0
HasSome size s = (word : ℕ) × (is_write : Bool) × IsTrue (has_access size s is_write word)

some-with_access : (size : Size) (s : Segment) (word : ℕ) (is_write : Bool) → IsSegment s
    → HasSome size (with_access (page_of word size) (offset_of word size) is_write s)
some-with_access size s word is_write is = (word, is_write, (has_access-with_access size s word is_write word is_write is).1 (inr (refl, refl)))

module _ (trace : TraceRecord) (epoch interval : ℕ) (time : List ℕ) (word : ℕ) (is_write : Bool)
    (are : AreSegments trace.segments) (may : MayNote trace.segments epoch interval time) (each : All (HasSome trace.size) trace.segments) where
  abbrev page : ℕ
  page = page_of word trace.size

  abbrev offset : ℕ
  offset = offset_of word trace.size

  abbrev after : TraceRecord
  after = noted trace epoch interval time word is_write

  -- both of the segments after
  record Fit (segments : List Segment) : Type 0 where
    are_segments : AreSegments segments
    have_some : All (HasSome trace.size) segments

  fit_open : (d : Segment) → 0 < length trace.segments → (get_or trace.segments (length trace.segments - 1) d).interval ≡ interval → Fit after.segments
  fit_open d some here =
      let last : ℕ = length trace.segments - 1 in
      let s : Segment = get_or trace.segments last d in
      let put : Segment = with_access page offset is_write s in
      let is : IsSegment s = are.each last d (omega (arith, some)) in
      subst Fit (sym (noted-open trace.segments epoch interval time page offset is_write d some here)) (record {
        are_segments = segments-set trace.segments last put d (interval-with_access page offset is_write s) (segment-with_access page offset is_write s is) are;
        have_some = All-set (HasSome trace.size) trace.segments last put (some-with_access trace.size s word is_write is) each;
      })

  fit_fresh : ((d : Segment) → 0 < length trace.segments → (get_or trace.segments (length trace.segments - 1) d).interval ≢ interval) → Fit after.segments
  fit_fresh other =
      let fresh : Segment = opened epoch interval time in
      let added : Segment = with_access page offset is_write fresh in
      let is : IsSegment fresh = segment-opened epoch interval time in
      let later : (d : Segment) → 0 < length trace.segments → (get_or trace.segments (length trace.segments - 1) d).interval < interval =
      note-later trace.segments epoch interval time may other in
      subst Fit (sym (noted-fresh trace.segments epoch interval time page offset is_write other)) (record {
        are_segments = segments-push trace.segments added
            (λ d some. subst (λ k. (get_or trace.segments (length trace.segments - 1) d).interval < k)
            (sym (interval-with_access page offset is_write fresh)) (later d some))
            (segment-with_access page offset is_write fresh is) are;
        have_some = All-push (HasSome trace.size) trace.segments added each (some-with_access trace.size fresh word is_write is);
      })

  fit : Fit after.segments
  fit = ⊎_elim (λ other. fit_fresh other) (λ (d, some, here). fit_open d some here) (first_of_segments trace.segments interval)

  pub segments-noted : AreSegments after.segments
  segments-noted = fit.are_segments

  pub some-noted : All (HasSome trace.size) after.segments
  some-noted = fit.have_some
