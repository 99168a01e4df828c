-- What is found is shown besides, and the access is noted.
use Rattle.std.proofs.Common.{◌≡◌, ◌<◌, ◌++◌, ◌∙◌, List, sym, subst, ap, refl}
use Rattle.std.specs.Prelude.{AllPairs}
use Rattle.lrc_races_trace.specs.declared.event.Placed.{Placed}
use Rattle.lrc_races_detector.specs.Vectors.{entries}
use Rattle.lrc_races_locations.specs.Spots.{row_of}
use Rattle.lrc_races_locations.specs.Finding.{AreFoundFrom}
use Rattle.lrc_races_locations.proofs.Showing.{shown_next}
use Rattle.lrc_races_locations.proofs.locator.Locator.access.Goals as goal

pub returns : goal.returns
returns c = λ sought events at accesses behind old.
    let locator = c.args.self.now in
    let v = c.args.variable in
    let row : c.row_of-row.result.now ≡ row_of locator.spots.items v =
    c.row_of-row.ensures ∙ ap (λ rows. row_of rows v) c.as_slice.ensures.value in
    let known = entries c.args.known in
    let found = subst (λ (r : List Placed). AreFoundFrom 0 r known c.args.placed locator.sides.keys c.find.new.sides.keys c.find.new.found.items) row
    (c.in_ok-find.ensures (subst (λ (r : List Placed). AllPairs (λ (p q : Placed). p.position < q.position) r) (sym row) (old.rows v).in_order)) in
    shown_next sought events c.args.placed v at accesses known behind locator old c.find.new.sides.keys c.find.new.found.items found _
    (c.in_ok-note.ensures events at accesses old.rows) refl
    (c.in_ok-extend_from_slice.ensures.items ∙ ap (λ ps. locator.pairs.items ++ ps) c.as_slice-2.ensures.value)
