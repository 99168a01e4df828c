-- A place is set alone where it has no index.
use Rattle.std.proofs.Common.{◌≡◌, ◌≤◌, [], ◌∷◌, ◌++◌, map, length, append-nil, sym, ap, ◌∙◌, arith}
use Rattle.lrc_named_tree.specs.View.{named_of, place_of}
use Rattle.lrc_named_statement_faults.proofs.Growing.{well}
use Rattle.lrc_named_uses.specs.Deeds.{deed_seen, sets, sets_place}
use Rattle.lrc_named_uses.proofs.Rows.{bare_with, bare_without}
use Rattle.lrc_named_uses.proofs.deeds.put_place.Goals as goal

pub returns-in-empty : goal.returns-in-empty
returns-in-empty c =
    let old = map deed_seen c.args.deeds.now.items in
    let new = map deed_seen c.put.new.deeds.items in
    let named = named_of c.args.place.now.name in
    let none : length c.as_slice.result.now ≡ 0 = omega arith in
    let none_there : length c.args.place.now.indices.items ≡ 0 = ap length (sym c.as_slice.ensures.value) ∙ none in
    let is : sets_place (place_of c.args.place.now) ≡ sets named ∷ [] = bare_without c.args.place.now.indices.items named none_there in
    well (new ≡ old ++ sets named ∷ []) (new ≡ old ++ sets_place (place_of c.args.place.now)) c.put.result (λ h. h ∙ ap (λ l. old ++ l) (sym is)) c.put.ensures

pub returns-in-len1-up : goal.returns-in-len1-up
returns-in-len1-up c =
    let old = map deed_seen c.args.deeds.now.items in
    let named = named_of c.args.place.now.name in
    let same : length c.as_slice.result.now ≡ length c.args.place.now.indices.items = ap length c.as_slice.ensures.value in
    let some : 1 ≤ length c.args.place.now.indices.items = omega (arith, c.in-len1-up.len_at_least, same) in
    let is : sets_place (place_of c.args.place.now) ≡ [] = bare_with c.args.place.now.indices.items named some in
    sym (append-nil old) ∙ ap (λ l. old ++ l) (sym is)
