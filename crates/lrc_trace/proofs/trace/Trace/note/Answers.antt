use Rattle.std.proofs.Common.{ℕ, ◌≡◌, ◌≢◌, ◌∙◌, ◌<◌, ◌-◌, ◌++◌, ◌∷◌, [], List, Result, Ok, Err, length, get_or, set, ap, sym, refl, subst, arith}
use Rattle.std.specs.Result.{OnErr}
use Rattle.std.proofs.lemmas.List.{get_or_default, set-get_or}
use Rattle.std.proofs.lemmas.Result.{IfOk-from_err}
use Rattle.lrc_page.specs.declared.size.Size.{Size}
use Rattle.lrc_trace.specs.Trace.{TraceRecord, MayNote, noted_in}
use Rattle.lrc_trace.specs.declared.trace.Segment.{Segment}
use Rattle.lrc_trace.specs.Segments.{opened, with_access, IsSegment, AreSegments}
use Rattle.lrc_trace.proofs.SegmentLists.{interval-with_access, note-later, noted-fresh, noted-open}
use Rattle.lrc_trace.proofs.SegmentLists.{segment-opened, segment-with_access, segments-push, segments-set}
use Rattle.lrc_trace.proofs.trace.Trace.note.Goals as goal
use Rattle.lrc_trace.proofs.trace.Trace.note.Goals.{else-count-gt0-via-then-count-gt0+else-index-interval, else-count-gt0-via-else-count-gt0}

abbrev trace_of : ℕ → Size → List Segment → TraceRecord
trace_of node size segments = record { node = node; size = size; segments = segments }

-- ---- in the last segment

pub invariant_of-self-then-index-interval : goal.invariant_of-self-then-index-interval
invariant_of-self-then-index-interval c =
    let segments = c.self.inside.segments.items in
    let it = c.index_mut.result.now in
    let last = c.len-count.result - 1 in
    let page = c.page_of-page.result in
    let offset = c.offset_of-offset.result in
    let is : IsSegment it = rw c.index_mut.ensures.value (c.self.invariant.each last it (omega arith)) in
    rw c.in_ok-add.ensures.ok
    (segments-set segments last (with_access page offset c.args.is_write it) it
    (interval-with_access page offset c.args.is_write it ∙ ap (λ (s : Segment). s.interval) c.index_mut.ensures.value)
    (segment-with_access page offset c.args.is_write it is) c.self.invariant)

pub returns-then-index-interval-clause-ok : goal.returns-then-index-interval-clause-ok
returns-then-index-interval-clause-ok c =
    let segments = c.self.inside.segments.items in
    let it = c.index_mut.result.now in
    let last = c.len-count.result - 1 in
    let page = c.page_of-page.result in
    let offset = c.offset_of-offset.result in
    let seen = c.index.result.now in
    let end = length segments - 1 in
    let count : last ≡ end = omega arith in
    let seen_is : seen ≡ get_or segments end seen = rw count at c.index.ensures in
    let it_is : it ≡ get_or segments end it = rw count at c.index_mut.ensures.value in
    let here : (get_or segments end seen).interval ≡ c.args.interval =
    ap (λ (s : Segment). s.interval) (sym seen_is) ∙ c.if-index-interval.true in
    let noted_is : noted_in segments c.args.epoch c.args.interval c.args.time.now page offset c.args.is_write
    ≡ set segments last c.add.new.self =
    noted-open segments c.args.epoch c.args.interval c.args.time.now page offset c.args.is_write seen (omega arith) here
    ∙ ap (λ s. set segments end (with_access page offset c.args.is_write s))
    (get_or_default segments end seen it (omega arith) ∙ sym it_is)
    ∙ ap (λ s. set segments end s) (sym c.in_ok-add.ensures.ok)
    ∙ ap (λ n. set segments n c.add.new.self) (sym count) in
    rw (← c.self.view_is, ← c.page_of-page.ensures.page, ← c.offset_of-offset.ensures.offset)
    (ap (λ list. trace_of c.self.inside.node c.self.inside.size list) (sym noted_is))

-- ---- in none: memory ran out

on_err_known : {T E P : Type 0} (r : Result T E) → P → OnErr r P
on_err_known (Ok x) known = tt
on_err_known (Err e) known = known

-- the last segment is written back as it was
unchanged : (c : goal.After-from_residual)
    → set c.self.inside.segments.items (c.len-count.result - 1) c.add.new.self ≡ c.self.inside.segments.items
unchanged c =
    let segments = c.self.inside.segments.items in
    let last = c.len-count.result - 1 in
    ap (λ (s : Segment). set segments last s) (c.in_err-add.ensures.err ∙ c.index_mut.ensures.value)
    ∙ set-get_or segments last c.index_mut.result.now

pub invariant_of-self : goal.invariant_of-self
invariant_of-self c = subst (λ segments. AreSegments segments) (sym (unchanged c)) c.self.invariant

pub returns-in_err-add-clause-ok : goal.returns-in_err-add-clause-ok
returns-in_err-add-clause-ok c = IfOk-from_err c.from_residual.result _ c.from_residual.ensures.0

pub returns-in_err-add-clause-err : goal.returns-in_err-add-clause-err
returns-in_err-add-clause-err c =
    on_err_known c.from_residual.result (ap (trace_of c.self.inside.node c.self.inside.size) (unchanged c) ∙ c.self.view_is)

pub returns-in_err-add-2-clause-ok : goal.returns-in_err-add-2-clause-ok
returns-in_err-add-2-clause-ok c = IfOk-from_err c.from_residual-in_err-add-2.result _ c.from_residual-in_err-add-2.ensures.0

pub returns-in_err-add-2-clause-err : goal.returns-in_err-add-2-clause-err
returns-in_err-add-2-clause-err c = on_err_known c.from_residual-in_err-add-2.result refl

pub invariant_of-self-in_err-push : goal.invariant_of-self-in_err-push
invariant_of-self-in_err-push c = subst (λ segments. AreSegments segments) (sym c.in_err-push.ensures.items) c.self.invariant

pub returns-in_err-push-clause-ok : goal.returns-in_err-push-clause-ok
returns-in_err-push-clause-ok c = IfOk-from_err c.from_residual-in_err-push.result _ c.from_residual-in_err-push.ensures.0

pub returns-in_err-push-clause-err : goal.returns-in_err-push-clause-err
returns-in_err-push-clause-err c =
    on_err_known c.from_residual-in_err-push.result
    (ap (trace_of c.self.inside.node c.self.inside.size) c.in_err-push.ensures.items ∙ c.self.view_is)

-- ---- in one more

-- the last segment is of another interval
other : (c : goal.In_ok-push) (d : Segment) → 0 < length c.self.inside.segments.items
    → (get_or c.self.inside.segments.items (length c.self.inside.segments.items - 1) d).interval ≢ c.args.interval
other c d some same =
    let segments = c.self.inside.segments.items in
    elim c.else-count-gt0.branch [
      | else-count-gt0-via-then-count-gt0+else-index-interval w ↦
          let seen = w.index.result.now in
          let end = length segments - 1 in
          let count : c.len-count.result - 1 ≡ end = omega arith in
          let seen_is : seen ≡ get_or segments end seen = rw count at w.index.ensures in
          w.if-index-interval.false
          (ap (λ (s : Segment). s.interval) (seen_is ∙ get_or_default segments end seen d (omega arith)) ∙ same)
      | else-count-gt0-via-else-count-gt0 w ↦ absurd (omega arith)
    ]

-- what is pushed is a segment with the access
pushed : (c : goal.In_ok-push)
    → c.add-2.new.self
    ≡ with_access c.page_of-page.result c.offset_of-offset.result c.args.is_write (opened c.args.epoch c.args.interval c.args.time.now)
pushed c =
    c.in_ok-add-2.ensures.ok
    ∙ ap (with_access c.page_of-page.result c.offset_of-offset.result c.args.is_write)
    (c.opened-segment.ensures ∙ ap (opened c.args.epoch c.args.interval) c.copy.ensures)

pub invariant_of-self-2 : goal.invariant_of-self-2
invariant_of-self-2 c =
    let segments = c.self.inside.segments.items in
    let page = c.page_of-page.result in
    let offset = c.offset_of-offset.result in
    let fresh = opened c.args.epoch c.args.interval c.args.time.now in
    let s = with_access page offset c.args.is_write fresh in
    let may : MayNote segments c.args.epoch c.args.interval c.args.time.now =
    subst (λ (t : TraceRecord). MayNote t.segments c.args.epoch c.args.interval c.args.time.now) (sym c.self.view_is) c.requires.later in
    rw (c.in_ok-push.ensures.items, pushed c)
    (segments-push segments s
    (λ d some. rw (interval-with_access page offset c.args.is_write fresh)
    (note-later segments c.args.epoch c.args.interval c.args.time.now may (other c) d some))
    (segment-with_access page offset c.args.is_write fresh (segment-opened c.args.epoch c.args.interval c.args.time.now))
    c.self.invariant)

pub returns-clause-ok : goal.returns-clause-ok
returns-clause-ok c =
    let segments = c.self.inside.segments.items in
    let page = c.page_of-page.result in
    let offset = c.offset_of-offset.result in
    let noted_is : noted_in segments c.args.epoch c.args.interval c.args.time.now page offset c.args.is_write ≡ c.push.new.self.items =
    noted-fresh segments c.args.epoch c.args.interval c.args.time.now page offset c.args.is_write (other c)
    ∙ ap (λ s. segments ++ s ∷ []) (sym (pushed c))
    ∙ sym c.in_ok-push.ensures.items in
    rw (← c.self.view_is, ← c.page_of-page.ensures.page, ← c.offset_of-offset.ensures.offset)
    (ap (λ list. trace_of c.self.inside.node c.self.inside.size list) (sym noted_is))
