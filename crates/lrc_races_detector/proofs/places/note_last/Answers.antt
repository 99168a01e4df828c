-- The entry of the thread is set, or put behind all others.
use Rattle.std.proofs.Common.{◌<◌, length, refl, sym, subst, ◌∙◌, ap, arith, rules}
use Rattle.std.proofs.lemmas.List.{get_or_default, get_or_read}
use Rattle.std.proofs.lemmas.Option.{slice_get_read}
use Rattle.lrc_races_detector.specs.declared.places.Place.{Place}
use Rattle.lrc_races_detector.specs.Placed.{IsPlace}
use Rattle.lrc_races_detector.proofs.Placing.{index_within, kept_first, kept_longer, noted_again, noted_first}
use Rattle.lrc_races_detector.proofs.places.note_last.Goals as goal
use Rattle.lrc_races_detector.proofs.places.note_last.Goals.{then-at-len+else-place-thread, else-at-len}

pub returns-then-place-thread-clause-noted : goal.returns-then-place-thread-clause-noted
returns-then-place-thread-clause-noted c =
    let lasts = c.args.lasts.now.items in
    let order = c.args.order.now.items in
    let at = c.place_of-at.result in
    let long = c.as_slice.ensures.len in
    let same = ap length c.as_slice.ensures.value in
    let len = c.len.ensures in
    let within = c.if-at-len.true in
    let lt : at < length order = omega arith in
    let place = c.index-place.result.now in
    let is = get_or_read order at place lt c.index-place.ensures in
    let index = index_within lasts order c.requires place (at, lt, sym (is place)) in
    rw c.noted.ensures (noted_again lasts order c.requires at lt place is c.args.placed c.args.is_write c.if-place-thread.true c.index-last.result.now
    (slice_get_read lasts (length lasts) place.index c.index-last.result.now refl index c.index-last.ensures))

pub returns-in_err-insert-clause-kept : goal.returns-in_err-insert-clause-kept
returns-in_err-insert-clause-kept c =
    rw (c.in_err-insert.ensures.items, c.in_ok-push.ensures.items, c.noted-2.ensures)
    (kept_longer c.args.lasts.now.items c.args.order.now.items c.requires c.args.placed c.args.is_write)

pub returns-clause-kept : goal.returns-clause-kept
returns-clause-kept c =
    let lasts = c.args.lasts.now.items in
    let order = c.args.order.now.items in
    let thread = c.args.placed.event.thread in
    let at = c.place_of-at.result in
    let place = subst (λ l. IsPlace l thread at) c.as_slice.ensures.value c.place_of-at.ensures in
    let long = c.as_slice.ensures.len in
    let same = ap length c.as_slice.ensures.value in
    let len = c.len.ensures in
    rw (c.in_ok-insert.ensures.items, c.in_ok-push.ensures.items, c.noted-2.ensures)
    (kept_first lasts order c.requires c.args.placed c.args.is_write at place
    (λ d lt own.
    elim c.if-at-len.branch [
      | then-at-len+else-place-thread w ↦
          w.if-place-thread.false (ap (λ (p : Place). p.thread) (w.index-place.ensures ∙ get_or_default order at w.index-place.result.now d lt) ∙ own)
      | else-at-len w ↦ let past = w.if-at-len.false in absurd (omega arith)
    ]) (record { thread = thread; index = c.in_ok-index.index }) refl (c.in_ok-index.ensures.found ∙ c.len-2.ensures ∙ search rules))

pub returns-clause-noted : goal.returns-clause-noted
returns-clause-noted c =
    let lasts = c.args.lasts.now.items in
    let order = c.args.order.now.items in
    let thread = c.args.placed.event.thread in
    let at = c.place_of-at.result in
    let place = subst (λ l. IsPlace l thread at) c.as_slice.ensures.value c.place_of-at.ensures in
    let long = c.as_slice.ensures.len in
    let same = ap length c.as_slice.ensures.value in
    let len = c.len.ensures in
    rw (c.in_ok-insert.ensures.items, c.in_ok-push.ensures.items, c.noted-2.ensures)
    (noted_first lasts order c.requires c.args.placed c.args.is_write at place
    (λ d lt own.
    elim c.if-at-len.branch [
      | then-at-len+else-place-thread w ↦
          w.if-place-thread.false (ap (λ (p : Place). p.thread) (w.index-place.ensures ∙ get_or_default order at w.index-place.result.now d lt) ∙ own)
      | else-at-len w ↦ let past = w.if-at-len.false in absurd (omega arith)
    ]) (record { thread = thread; index = c.in_ok-index.index }) refl (c.in_ok-index.ensures.found ∙ c.len-2.ensures ∙ search rules))
