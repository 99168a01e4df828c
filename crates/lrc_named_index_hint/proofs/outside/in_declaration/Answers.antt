-- An index of a function's body; other declarations have none.
use Rattle.std.proofs.Common.{ℕ, List, map, sym, subst}
use Rattle.std.specs.Prelude.{IfOk}
use Rattle.lrc_named_tree.specs.View.{declaration_of, expression_of, named_of}
use Rattle.lrc_named_names.specs.Names.{Declared}
use Rattle.lrc_named_faults.specs.Declarations.{body_scope}
use Rattle.lrc_named_index_hint.specs.Out.{IsBehind, IsOutIn}
use Rattle.lrc_named_index_hint.specs.Over.{IsFound, IsOneOver}
use Rattle.lrc_named_index_hint.specs.Spots.{spots_in}
use Rattle.lrc_named_index_hint.proofs.Behind.{nothing_behind}
use Rattle.lrc_named_index_hint.proofs.outside.in_declaration.Goals as goal

pub returns-in-Function : goal.returns-in-Function
returns-in-Function c =
    let front = map declaration_of c.args.front.now.declarations.items in
    let at = c.args.at in
    let body = expression_of c.in-Function.body in
    let inside = subst
    (λ l. IfOk c.in_body.result (λ found. IsFound (λ v s. IsBehind front (λ t. IsOneOver (body_scope t (map named_of l)) (spots_in at body) v s)) found))
    c.deref.ensures.value c.in_body.ensures in
    subst (λ d. IfOk c.in_body.result (λ found. IsFound (λ v s. IsBehind front (λ t. IsOutIn t at (declaration_of d) v s)) found)) (sym c.in-Function.is) inside

pub returns-in-Nodes : goal.returns-in-Nodes
returns-in-Nodes c =
    let front = map declaration_of c.args.front.now.declarations.items in
    let at = c.args.at in
    nothing_behind front (λ (t : List Declared) (v s : ℕ). IsOutIn t at (declaration_of c.args.declaration.now) v s)
    (λ t v s h. subst (λ d. IsOutIn t at (declaration_of d) v s) c.in-Nodes.is h)

pub returns-in-Const : goal.returns-in-Const
returns-in-Const c =
    let front = map declaration_of c.args.front.now.declarations.items in
    let at = c.args.at in
    nothing_behind front (λ (t : List Declared) (v s : ℕ). IsOutIn t at (declaration_of c.args.declaration.now) v s)
    (λ t v s h. subst (λ d. IsOutIn t at (declaration_of d) v s) c.in-Const.is h)

pub returns-in-Shared : goal.returns-in-Shared
returns-in-Shared c =
    let front = map declaration_of c.args.front.now.declarations.items in
    let at = c.args.at in
    nothing_behind front (λ (t : List Declared) (v s : ℕ). IsOutIn t at (declaration_of c.args.declaration.now) v s)
    (λ t v s h. subst (λ d. IsOutIn t at (declaration_of d) v s) c.in-Shared.is h)

pub returns-in-Lock : goal.returns-in-Lock
returns-in-Lock c =
    let front = map declaration_of c.args.front.now.declarations.items in
    let at = c.args.at in
    nothing_behind front (λ (t : List Declared) (v s : ℕ). IsOutIn t at (declaration_of c.args.declaration.now) v s)
    (λ t v s h. subst (λ d. IsOutIn t at (declaration_of d) v s) c.in-Lock.is h)
