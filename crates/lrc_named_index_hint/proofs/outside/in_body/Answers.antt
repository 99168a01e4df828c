-- By what is declared in front, if that has no fault.
use Rattle.std.proofs.Common.{◌≡◌, ◌==◌, ℕ, List, [], length, map, sym, ap, subst, ◌∙◌}
use Rattle.std.specs.Prelude.{IfOk}
use Rattle.lrc_named_tree.specs.View.{declaration_of, expression_of, named_of, program_of}
use Rattle.lrc_named_names.specs.Names.{Declared}
use Rattle.lrc_named_names.specs.View.{declared_of}
use Rattle.lrc_named_expression_faults.proofs.First.{if_ok}
use Rattle.lrc_named_faults.specs.Checked.{IsChecked}
use Rattle.lrc_named_faults.specs.Declarations.{body_scope}
use Rattle.lrc_named_index_hint.specs.Out.{IsBehind}
use Rattle.lrc_named_index_hint.specs.Over.{IsFound, IsOneOver}
use Rattle.lrc_named_index_hint.specs.Spots.{spot_seen, spots_in}
use Rattle.lrc_named_index_hint.proofs.Behind.{behind_found, clean_of, is_zero, none_of_none, none_seen, not_behind, nothing_behind}
use Rattle.lrc_named_index_hint.proofs.outside.in_body.Goals as goal

pub returns-then-is_empty : goal.returns-then-is_empty
returns-then-is_empty c =
    let front = map declaration_of c.args.front.now.declarations.items in
    let own = map named_of c.args.parameters.now in
    let spots = spots_in c.args.at (expression_of c.args.body.now) in
    let count : c.is_empty.result ≡ (length c.in_ok-spots.spots.items == 0) = c.is_empty.ensures ∙ ap (λ (n : ℕ). n == 0) c.in_ok-spots.spots.ok.0 in
    let none : spots ≡ [] = sym c.in_ok-spots.ensures
    ∙ none_seen c.in_ok-spots.spots.items (is_zero (length c.in_ok-spots.spots.items) (sym count ∙ c.if-is_empty.true)) in
    nothing_behind front (λ (t : List Declared) (v s : ℕ). IsOneOver (body_scope t own) spots v s) (λ t v s. none_of_none (body_scope t own) spots v s none)

pub body_over-requires : goal.body_over-requires
body_over-requires c = (subst (IsChecked (program_of c.args.front.now)) c.in-Good.is c.in_ok-found.ensures).2

pub returns-in-Good : goal.returns-in-Good
returns-in-Good c =
    let front = map declaration_of c.args.front.now.declarations.items in
    let own = map named_of c.args.parameters.now in
    let table = declared_of c.in-Good.layout.names in
    let spots = spots_in c.args.at (expression_of c.args.body.now) in
    let checked = subst (IsChecked (program_of c.args.front.now)) c.in-Good.is c.in_ok-found.ensures in
    let same : map spot_seen c.deref.result.now ≡ spots = ap (map spot_seen) c.deref.ensures.value ∙ c.in_ok-spots.ensures in
    if_ok (λ found. IsFound (λ v s. IsOneOver (body_scope table own) spots v s) found)
    (λ found. IsFound (λ v s. IsBehind front (λ t. IsOneOver (body_scope t own) spots v s)) found) c.body_over.result
    (λ found h. behind_found front table (λ (t : List Declared) (v s : ℕ). IsOneOver (body_scope t own) spots v s) found
    (clean_of front c.args.front.now.statements.items c.requires checked.0) checked.1 h)
    (subst (λ l. IfOk c.body_over.result (λ found. IsFound (λ v s. IsOneOver (body_scope table own) l v s) found)) same c.body_over.ensures)

pub returns : goal.returns
returns c =
    let front = map declaration_of c.args.front.now.declarations.items in
    let own = map named_of c.args.parameters.now in
    let spots = spots_in c.args.at (expression_of c.args.body.now) in
    let checked = subst (IsChecked (program_of c.args.front.now)) c.in-Bad.is c.in_ok-found.ensures in
    not_behind front c.args.front.now.statements.items c.in-Bad.field-0 (λ (t : List Declared) (v s : ℕ). IsOneOver (body_scope t own) spots v s) c.requires checked.0
