-- In the statements; else in the declarations.
use Rattle.std.proofs.Common.{map, sym, subst, ◌∙◌, inl}
use Rattle.lrc_named_tree.specs.View.{block_of, declaration_of, program_of}
use Rattle.lrc_named_expression_faults.proofs.First.{if_ok}
use Rattle.lrc_named_index_hint.specs.Out.{IsBehind, IsOutAmong, IsOutInOne, IsOutOfRange}
use Rattle.lrc_named_index_hint.specs.Over.{IsFound}
use Rattle.lrc_named_index_hint.proofs.Behind.{none_found, some_found}
use Rattle.lrc_named_index_hint.proofs.Finding.{either_found}
use Rattle.lrc_named_index_hint.proofs.outside.out_of_range.Goals as goal

pub returns-then-is_some : goal.returns-then-is_some
returns-then-is_some c =
    let p = program_of c.args.program in
    let at = c.args.at in
    let there = subst (λ l. IsFound (λ v s. IsBehind p.declarations (λ t. IsOutAmong t at (block_of l) v s)) c.in_ok-found.found) c.deref.ensures.value
    c.in_ok-found.ensures in
    some_found (λ v s. IsBehind p.declarations (λ t. IsOutAmong t at p.statements v s)) (λ v s. IsOutOfRange p at v s) c.in_ok-found.found
    (sym c.is_some.ensures ∙ c.if-is_some.true) (λ v s h. inl h) there

pub returns : goal.returns
returns c =
    let p = program_of c.args.program in
    let at = c.args.at in
    let there = subst (λ l. IsFound (λ v s. IsBehind p.declarations (λ t. IsOutAmong t at (block_of l) v s)) c.in_ok-found.found) c.deref.ensures.value
    c.in_ok-found.ensures in
    let none = none_found (λ v s. IsBehind p.declarations (λ t. IsOutAmong t at p.statements v s)) c.in_ok-found.found
    (sym c.is_some.ensures ∙ c.if-is_some.false) there in
    if_ok (λ found. IsFound (λ v s. IsOutInOne p.declarations at v s) found) (λ found. IsFound (λ v s. IsOutOfRange p at v s) found) c.in_declarations.result
    (λ found h. either_found (λ v s. IsBehind p.declarations (λ t. IsOutAmong t at p.statements v s)) (λ v s. IsOutInOne p.declarations at v s) found none h)
    c.in_declarations.ensures
