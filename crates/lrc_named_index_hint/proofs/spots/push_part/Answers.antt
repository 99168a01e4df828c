-- The indices of each kind of a part.
use Rattle.std.proofs.Common.{◌≡◌, [], ◌++◌, map, append-nil, sym, ap, ◌∙◌}
use Rattle.lrc_named_tree.specs.View.{expression_of, expressions_of, named_of}
use Rattle.lrc_named_statement_faults.specs.Parts.{part_seen}
use Rattle.lrc_named_statement_faults.proofs.Growing.{two_pieces, well}
use Rattle.lrc_named_index_hint.specs.Spots.{spot_seen, spots_among, spots_in, spots_in_all, spots_in_part}
use Rattle.lrc_named_index_hint.proofs.spots.push_part.Goals as goal

pub returns-in_ok-push_among-in-Target : goal.returns-in_ok-push_among-in-Target
returns-in_ok-push_among-in-Target c =
    let at = c.args.at in
    let old = map spot_seen c.args.spots.now.items in
    let one = map spot_seen c.push_among.new.spots.items in
    let new = map spot_seen c.push_all.new.spots.items in
    let p = c.in-Target.place.now in
    let own = spots_among at (named_of p.name) 0 (expressions_of c.deref.result.now) in
    let inside = spots_in_all at (expressions_of c.deref-in-Target.result.now) in
    let is : spots_in_part at (part_seen c.args.part) ≡ own ++ inside =
    ap (λ x. spots_in_part at (part_seen x)) c.in-Target.is
    ∙ ap (λ l. spots_among at (named_of p.name) 0 (expressions_of l) ++ spots_in_all at (expressions_of p.indices.items)) (sym c.deref.ensures.value)
    ∙ ap (λ l. own ++ spots_in_all at (expressions_of l)) (sym c.deref-in-Target.ensures.value) in
    well (new ≡ one ++ inside) (new ≡ old ++ spots_in_part at (part_seen c.args.part)) c.push_all.result
    (λ h. two_pieces old one new own inside c.in_ok-push_among-in-Target.ensures h ∙ ap (λ l. old ++ l) (sym is)) c.push_all.ensures

pub returns-in_ok-push_among-in-Lock : goal.returns-in_ok-push_among-in-Lock
returns-in_ok-push_among-in-Lock c =
    let at = c.args.at in
    let old = map spot_seen c.args.spots.now.items in
    let one = map spot_seen c.push_among-in-Lock.new.spots.items in
    let new = map spot_seen c.push_all-in-Lock.new.spots.items in
    let p = c.in-Lock.place.now in
    let own = spots_among at (named_of p.name) 0 (expressions_of c.deref-in-Lock.result.now) in
    let inside = spots_in_all at (expressions_of c.deref-in-Lock-2.result.now) in
    let is : spots_in_part at (part_seen c.args.part) ≡ own ++ inside =
    ap (λ x. spots_in_part at (part_seen x)) c.in-Lock.is
    ∙ ap (λ l. spots_among at (named_of p.name) 0 (expressions_of l) ++ spots_in_all at (expressions_of p.indices.items)) (sym c.deref-in-Lock.ensures.value)
    ∙ ap (λ l. own ++ spots_in_all at (expressions_of l)) (sym c.deref-in-Lock-2.ensures.value) in
    well (new ≡ one ++ inside) (new ≡ old ++ spots_in_part at (part_seen c.args.part)) c.push_all-in-Lock.result
    (λ h. two_pieces old one new own inside c.in_ok-push_among-in-Lock.ensures h ∙ ap (λ l. old ++ l) (sym is)) c.push_all-in-Lock.ensures

pub returns-in-Counter : goal.returns-in-Counter
returns-in-Counter c =
    let old = map spot_seen c.args.spots.now.items in
    let is : spots_in_part c.args.at (part_seen c.args.part) ≡ [] = ap (λ p. spots_in_part c.args.at (part_seen p)) c.in-Counter.is in
    sym (append-nil old) ∙ ap (λ l. old ++ l) (sym is)

pub returns-in-Value : goal.returns-in-Value
returns-in-Value c =
    let old = map spot_seen c.args.spots.now.items in
    let new = map spot_seen c.push_in.new.spots.items in
    let inside = spots_in c.args.at (expression_of c.in-Value.value.now) in
    let is : spots_in_part c.args.at (part_seen c.args.part) ≡ inside = ap (λ p. spots_in_part c.args.at (part_seen p)) c.in-Value.is in
    well (new ≡ old ++ inside) (new ≡ old ++ spots_in_part c.args.at (part_seen c.args.part)) c.push_in.result (λ h. h ∙ ap (λ l. old ++ l) (sym is)) c.push_in.ensures
