-- By what is declared in front, if that has no fault.
use Rattle.std.proofs.Common.{◌≡◌, ◌==◌, ◌++◌, ℕ, List, [], length, map, sym, ap, subst, ◌∙◌}
use Rattle.std.specs.Prelude.{IfOk}
use Rattle.lrc_named_tree.specs.View.{block_of, declaration_of, program_of}
use Rattle.lrc_named_names.specs.Names.{Declared}
use Rattle.lrc_named_names.specs.View.{declared_of}
use Rattle.lrc_named_expression_faults.proofs.First.{if_ok}
use Rattle.lrc_named_statement_faults.specs.Parts.{part_seen, parts_of_block}
use Rattle.lrc_named_statement_faults.specs.Statements.{statement_scope}
use Rattle.lrc_named_faults.specs.Checked.{IsChecked}
use Rattle.lrc_named_index_hint.specs.Out.{IsBehind, IsOutAmong}
use Rattle.lrc_named_index_hint.specs.Over.{IsFound, IsOneOver}
use Rattle.lrc_named_index_hint.specs.Spots.{spot_seen, spots_in_parts}
use Rattle.lrc_named_index_hint.proofs.Behind.{behind_found, clean_of, is_zero, none_of_none, none_seen, not_behind, nothing_behind}
use Rattle.lrc_named_index_hint.proofs.outside.in_statements.Goals as goal

pub returns-then-is_empty : goal.returns-then-is_empty
returns-then-is_empty c =
    let front = map declaration_of c.args.front.now.declarations.items in
    let block = block_of c.args.statements.now in
    let parts = parts_of_block block in
    let spots = spots_in_parts c.args.at parts in
    let seen : map part_seen c.push_parts.new.parts.items ≡ parts = c.in_ok-push_parts.ensures ∙ ap (λ l. map part_seen l ++ parts) c.new-parts.ensures.items in
    let same : map spot_seen c.in_ok-spots.spots.items ≡ spots =
    c.in_ok-spots.ensures ∙ ap (λ l. spots_in_parts c.args.at (map part_seen l)) c.deref.ensures.value ∙ ap (spots_in_parts c.args.at) seen in
    let count : c.is_empty.result ≡ (length c.in_ok-spots.spots.items == 0) = c.is_empty.ensures ∙ ap (λ (n : ℕ). n == 0) c.in_ok-spots.spots.ok.0 in
    let none : spots ≡ [] = sym same
    ∙ none_seen c.in_ok-spots.spots.items (is_zero (length c.in_ok-spots.spots.items) (sym count ∙ c.if-is_empty.true)) in
    nothing_behind front (λ (t : List Declared) (v s : ℕ). IsOutAmong t c.args.at block v s) (λ t v s. none_of_none (statement_scope t parts) spots v s none)

pub parts_over-requires : goal.parts_over-requires
parts_over-requires c = (subst (IsChecked (program_of c.args.front.now)) c.in-Good.is c.in_ok-found.ensures).2

pub returns-in-Good : goal.returns-in-Good
returns-in-Good c =
    let front = map declaration_of c.args.front.now.declarations.items in
    let block = block_of c.args.statements.now in
    let parts = parts_of_block block in
    let table = declared_of c.in-Good.layout.names in
    let spots = spots_in_parts c.args.at parts in
    let checked = subst (IsChecked (program_of c.args.front.now)) c.in-Good.is c.in_ok-found.ensures in
    let seen : map part_seen c.push_parts.new.parts.items ≡ parts = c.in_ok-push_parts.ensures ∙ ap (λ l. map part_seen l ++ parts) c.new-parts.ensures.items in
    let same : map spot_seen c.in_ok-spots.spots.items ≡ spots =
    c.in_ok-spots.ensures ∙ ap (λ l. spots_in_parts c.args.at (map part_seen l)) c.deref.ensures.value ∙ ap (spots_in_parts c.args.at) seen in
    let own : map part_seen c.deref-in-Good.result.now ≡ parts = ap (map part_seen) c.deref-in-Good.ensures.value ∙ seen in
    let here : map spot_seen c.deref-in-Good-2.result.now ≡ spots = ap (map spot_seen) c.deref-in-Good-2.ensures.value ∙ same in
    let over = subst (λ p. IfOk c.parts_over.result (λ found. IsFound (λ v s. IsOneOver (statement_scope table p) (map spot_seen c.deref-in-Good-2.result.now) v s) found)) own
    c.parts_over.ensures in
    if_ok (λ found. IsFound (λ v s. IsOutAmong table c.args.at block v s) found)
    (λ found. IsFound (λ v s. IsBehind front (λ t. IsOutAmong t c.args.at block v s)) found) c.parts_over.result
    (λ found h. behind_found front table (λ (t : List Declared) (v s : ℕ). IsOutAmong t c.args.at block v s) found
    (clean_of front c.args.front.now.statements.items c.requires checked.0) checked.1 h)
    (subst (λ l. IfOk c.parts_over.result (λ found. IsFound (λ v s. IsOneOver (statement_scope table parts) l v s) found)) here over)

pub returns : goal.returns
returns c =
    let front = map declaration_of c.args.front.now.declarations.items in
    let block = block_of c.args.statements.now in
    let checked = subst (IsChecked (program_of c.args.front.now)) c.in-Bad.is c.in_ok-found.ensures in
    not_behind front c.args.front.now.statements.items c.in-Bad.field-0 (λ (t : List Declared) (v s : ℕ). IsOutAmong t c.args.at block v s) c.requires checked.0
