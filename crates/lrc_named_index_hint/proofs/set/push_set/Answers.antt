-- What a part sets.
use Rattle.std.proofs.Common.{◌≡◌, ◌≤◌, [], ◌∷◌, ◌++◌, map, length, append-nil, sym, ap, ◌∙◌, arith}
use Rattle.lrc_named_tree.specs.View.{named_of}
use Rattle.lrc_named_statement_faults.specs.Parts.{part_seen}
use Rattle.lrc_named_statement_faults.specs.Statements.{set_in}
use Rattle.lrc_named_statement_faults.proofs.Growing.{well}
use Rattle.lrc_named_statement_faults.proofs.Names.{set_with, set_without}
use Rattle.lrc_named_index_hint.proofs.set.push_set.Goals as goal

pub returns-in-empty : goal.returns-in-empty
returns-in-empty c =
    let old = map named_of c.args.names.now.items in
    let new = map named_of c.push.new.names.items in
    let named = named_of c.in-Target.place.now.name in
    let none : length c.as_slice.result.now ≡ 0 = omega arith in
    let none_there : length c.in-Target.place.now.indices.items ≡ 0 = ap length (sym c.as_slice.ensures.value) ∙ none in
    let is : set_in (part_seen c.args.part) ≡ named ∷ [] = ap (λ p. set_in (part_seen p)) c.in-Target.is ∙ set_without c.in-Target.place.now.indices.items named none_there in
    well (new ≡ old ++ named ∷ []) (new ≡ old ++ set_in (part_seen c.args.part)) c.push.result (λ h. h ∙ ap (λ l. old ++ l) (sym is)) c.push.ensures

pub returns-in-len1-up : goal.returns-in-len1-up
returns-in-len1-up c =
    let old = map named_of c.args.names.now.items in
    let named = named_of c.in-Target.place.now.name in
    let same : length c.as_slice.result.now ≡ length c.in-Target.place.now.indices.items = ap length c.as_slice.ensures.value in
    let some : 1 ≤ length c.in-Target.place.now.indices.items = omega (arith, c.in-len1-up.len_at_least, same) in
    let is : set_in (part_seen c.args.part) ≡ [] = ap (λ p. set_in (part_seen p)) c.in-Target.is ∙ set_with c.in-Target.place.now.indices.items named some in
    sym (append-nil old) ∙ ap (λ l. old ++ l) (sym is)

pub returns-in-Counter : goal.returns-in-Counter
returns-in-Counter c =
    let old = map named_of c.args.names.now.items in
    let new = map named_of c.push-in-Counter.new.names.items in
    let named = named_of c.in-Counter.name in
    let is : set_in (part_seen c.args.part) ≡ named ∷ [] = ap (λ p. set_in (part_seen p)) c.in-Counter.is in
    well (new ≡ old ++ named ∷ []) (new ≡ old ++ set_in (part_seen c.args.part)) c.push-in-Counter.result (λ h. h ∙ ap (λ l. old ++ l) (sym is)) c.push-in-Counter.ensures

pub returns-in-Lock : goal.returns-in-Lock
returns-in-Lock c =
    let old = map named_of c.args.names.now.items in
    let is : set_in (part_seen c.args.part) ≡ [] = ap (λ p. set_in (part_seen p)) c.in-Lock.is in
    sym (append-nil old) ∙ ap (λ l. old ++ l) (sym is)

pub returns-in-Value : goal.returns-in-Value
returns-in-Value c =
    let old = map named_of c.args.names.now.items in
    let is : set_in (part_seen c.args.part) ≡ [] = ap (λ p. set_in (part_seen p)) c.in-Value.is in
    sym (append-nil old) ∙ ap (λ l. old ++ l) (sym is)
