-- The names of each kind of a part.
use Rattle.std.proofs.Common.{◌≡◌, [], ◌∷◌, ◌++◌, map, sym, ap, ◌∙◌}
use Rattle.lrc_named_tree.specs.View.{expression_of, expressions_of, named_of}
use Rattle.lrc_named_statement_faults.specs.Parts.{part_seen}
use Rattle.lrc_named_statement_faults.specs.Statements.{names_in, names_in_all, names_in_part}
use Rattle.lrc_named_statement_faults.proofs.Growing.{two_pieces, well}
use Rattle.lrc_named_statement_faults.proofs.privates.push_names_of_part.Goals as goal

pub returns-in_ok-push-in-Target : goal.returns-in_ok-push-in-Target
returns-in_ok-push-in-Target c =
    let old = map named_of c.args.names.now.items in
    let one = map named_of c.push.new.names.items in
    let new = map named_of c.push_all_names.new.names.items in
    let named = named_of c.in-Target.place.now.name in
    let inside = names_in_all (expressions_of c.deref.result.now) in
    let is : names_in_part (part_seen c.args.part) ≡ named ∷ inside =
    ap (λ p. names_in_part (part_seen p)) c.in-Target.is ∙ ap (λ l. named ∷ names_in_all (expressions_of l)) (sym c.deref.ensures.value) in
    well (new ≡ one ++ inside) (new ≡ old ++ names_in_part (part_seen c.args.part)) c.push_all_names.result
    (λ h. two_pieces old one new (named ∷ []) inside c.in_ok-push-in-Target.ensures h ∙ ap (λ l. old ++ l) (sym is)) c.push_all_names.ensures

pub returns-in_ok-push-in-Lock : goal.returns-in_ok-push-in-Lock
returns-in_ok-push-in-Lock c =
    let old = map named_of c.args.names.now.items in
    let one = map named_of c.push-in-Lock.new.names.items in
    let new = map named_of c.push_all_names-in-Lock.new.names.items in
    let named = named_of c.in-Lock.place.now.name in
    let inside = names_in_all (expressions_of c.deref-in-Lock.result.now) in
    let is : names_in_part (part_seen c.args.part) ≡ named ∷ inside =
    ap (λ p. names_in_part (part_seen p)) c.in-Lock.is ∙ ap (λ l. named ∷ names_in_all (expressions_of l)) (sym c.deref-in-Lock.ensures.value) in
    well (new ≡ one ++ inside) (new ≡ old ++ names_in_part (part_seen c.args.part)) c.push_all_names-in-Lock.result
    (λ h. two_pieces old one new (named ∷ []) inside c.in_ok-push-in-Lock.ensures h ∙ ap (λ l. old ++ l) (sym is)) c.push_all_names-in-Lock.ensures

pub returns-in-Counter : goal.returns-in-Counter
returns-in-Counter c =
    let old = map named_of c.args.names.now.items in
    let new = map named_of c.push-in-Counter.new.names.items in
    let named = named_of c.in-Counter.name in
    let is : names_in_part (part_seen c.args.part) ≡ named ∷ [] = ap (λ p. names_in_part (part_seen p)) c.in-Counter.is in
    well (new ≡ old ++ named ∷ []) (new ≡ old ++ names_in_part (part_seen c.args.part)) c.push-in-Counter.result (λ h. h ∙ ap (λ l. old ++ l) (sym is)) c.push-in-Counter.ensures

pub returns-in-Value : goal.returns-in-Value
returns-in-Value c =
    let old = map named_of c.args.names.now.items in
    let new = map named_of c.push_names.new.names.items in
    let inside = names_in (expression_of c.in-Value.value.now) in
    let is : names_in_part (part_seen c.args.part) ≡ inside = ap (λ p. names_in_part (part_seen p)) c.in-Value.is in
    well (new ≡ old ++ inside) (new ≡ old ++ names_in_part (part_seen c.args.part)) c.push_names.result (λ h. h ∙ ap (λ l. old ++ l) (sym is)) c.push_names.ensures
