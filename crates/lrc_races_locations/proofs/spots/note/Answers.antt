-- The row of the variable is noted in, and all others are as before.
use Rattle.std.proofs.Common.{◌≡◌, sym, subst, ◌∙◌, ap}
use Rattle.std.specs.Prelude.{Vec}
use Rattle.std.specs.declared.alloc.Global.{Global}
use Rattle.std.proofs.lemmas.Option.{slice_get-get_or}
use Rattle.lrc_races_trace.specs.declared.event.Placed.{Placed}
use Rattle.lrc_races_detector.proofs.Pushing.{slice_get-set_same, slice_get-set_other}
use Rattle.lrc_races_locations.specs.Spots.{items_of, row_of, IsRow}
use Rattle.lrc_races_locations.proofs.Rivaling.{rows_noted}
use Rattle.lrc_races_locations.proofs.spots.note.Goals as goal

pub returns : goal.returns
returns c = λ events at accesses old.
    let (lt, kept) = c.in_ok-reach.ensures in
    let rows = c.reach.new.rows.items in
    let v = c.args.variable in
    let placed = c.args.placed in
    let row = c.note_in.new.row in
    let was : c.index_mut.result.now.items ≡ row_of c.args.rows.now.items v =
    ap (λ (r : Vec Placed Global). r.items) c.index_mut.ensures.value ∙ sym (ap items_of (slice_get-get_or rows v _ lt)) ∙ kept v in
    rows_noted events placed v at accesses c.args.rows.now.items _ row.items (ap items_of (slice_get-set_same rows v row lt))
    (c.in_ok-note_in.ensures events v at accesses (subst (λ r. IsRow events placed.position v r) (sym was) (old v)))
    (λ w apart. ap items_of (slice_get-set_other rows v row w apart) ∙ kept w) old
