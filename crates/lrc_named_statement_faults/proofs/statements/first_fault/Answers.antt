-- The parts, and the private names.
use Rattle.std.proofs.Common.{◌≡◌, ◌++◌, List, [], false, map, ap, subst, ◌∙◌}
use Rattle.lrc_named_tree.specs.View.{block_of, named_of}
use Rattle.lrc_named_tree.specs.Tree.{Named}
use Rattle.lrc_named_names.specs.Names.{Declared}
use Rattle.lrc_named_names.specs.View.{declared_of}
use Rattle.lrc_named_constants.specs.Well.{bytes_of}
use Rattle.lrc_named_expression_faults.specs.Fault.{IsFirstOf}
use Rattle.lrc_named_expression_faults.specs.Scope.{Scope}
use Rattle.lrc_named_expression_faults.proofs.First.{joined}
use Rattle.lrc_named_statement_faults.specs.Parts.{part_seen, parts_of_block}
use Rattle.lrc_named_statement_faults.specs.Statements.{IsInParts, IsOneTooMany, names_in_parts, private_names, set_names, statement_scope}
use Rattle.lrc_named_statement_faults.proofs.statements.first_fault.Goals as goal

-- the scope in which these names are set
abbrev with_names : List Declared → List Named → Scope
with_names table names = record { declared = table; known = []; assigned = bytes_of names; constant = false }

pub returns : goal.returns
returns c =
    let table = declared_of c.args.names.now in
    let parts = parts_of_block (block_of c.args.statements.now) in
    let seen : map part_seen c.push_parts.new.parts.items ≡ parts = c.in_ok-push_parts.ensures ∙ ap (λ l. map part_seen l ++ parts) c.new-parts.ensures.items in
    let names : map named_of c.in_ok-assigned.assigned.names.now ≡ set_names parts =
    ap (map named_of) (c.in_ok-assigned.ensures ∙ c.deref-2.ensures.value) ∙ c.in_ok-set.ensures ∙ ap (λ l. set_names (map part_seen l)) c.deref.ensures.value ∙ ap set_names seen in
    let third : map part_seen c.deref-3.result.now ≡ parts = ap (map part_seen) c.deref-3.ensures.value ∙ seen in
    let fourth : map part_seen c.deref-4.result.now ≡ parts = ap (map part_seen) c.deref-4.ensures.value ∙ seen in
    let inside = subst (λ l. IsFirstOf (λ f. IsInParts (with_names table l) parts f) c.in_ok-inside.inside) names
    (subst (λ p. IsFirstOf (λ f. IsInParts (with_names table (map named_of c.in_ok-assigned.assigned.names.now)) p f) c.in_ok-inside.inside) third c.in_ok-inside.ensures) in
    let many = subst (λ l. IsFirstOf (λ f. IsOneTooMany (private_names (with_names table l) (names_in_parts parts)) f) c.in_ok-many.many) names
    (subst (λ p. IsFirstOf (λ f. IsOneTooMany (private_names (with_names table (map named_of c.in_ok-assigned.assigned.names.now)) (names_in_parts p)) f) c.in_ok-many.many) fourth c.in_ok-many.ensures) in
    joined (λ f. IsInParts (statement_scope table parts) parts f) (λ f. IsOneTooMany (private_names (statement_scope table parts) (names_in_parts parts)) f)
    c.in_ok-inside.inside c.in_ok-many.many c.earlier.result c.earlier.ensures inside many
