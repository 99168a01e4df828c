-- The tokens of a function are marked, and none of another declaration.
use Rattle.std.proofs.Common.{◌≡◌, ◌∙◌, ◌&&◌, ap, map, refl, subst, sym}
use Rattle.std.specs.Prelude.{nat_le}
use Rattle.lrc_named_tree.specs.Ends.{last_of}
use Rattle.lrc_named_tree.specs.Tree.{function}
use Rattle.lrc_named_tree.specs.View.{declaration_of, expression_of, named_of}
use Rattle.lrc_named_constants.specs.Well.{bytes_of}
use Rattle.lrc_named_uses.specs.Shadows.{IsMarked, is_in, is_shadow_of}
use Rattle.lrc_named_uses.proofs.Shadowing.{marked_none, marked_same, same_test}
use Rattle.lrc_named_uses.proofs.shadows.mark.Goals as goal

pub returns-in_ok-own-in-Function : goal.returns-in_ok-own-in-Function
returns-in_ok-own-in-Function c =
    let tokens = c.args.tokens.now in
    let old = c.args.shadows.now.items in
    let new = c.mark_within.new.shadows.items in
    let named = named_of c.in-Function.function in
    let body = expression_of c.in-Function.body in
    let parameters = map named_of c.in-Function.parameters.items in
    let own : map named_of c.in_ok-own-in-Function.own.names.now ≡ parameters = ap (map named_of) (c.in_ok-own-in-Function.ensures ∙ c.deref.ensures.value) in
    subst (λ d. IsMarked tokens (λ at lexeme. is_shadow_of at lexeme (declaration_of d)) old new) (sym c.in-Function.is)
    (marked_same tokens (λ at lexeme. (nat_le named.at at && nat_le at c.last.result) && is_in (bytes_of (map named_of c.in_ok-own-in-Function.own.names.now)) lexeme)
    (λ at lexeme. is_shadow_of at lexeme (function c.in-Function.field-0 named parameters body)) old new
    (λ k lexeme. ap (λ last. (nat_le named.at k && nat_le k last) && is_in (bytes_of (map named_of c.in_ok-own-in-Function.own.names.now)) lexeme) c.last.ensures
    ∙ ap (λ l. (nat_le named.at k && nat_le k (last_of body)) && is_in (bytes_of l) lexeme) own
    ∙ same_test c.in-Function.field-0 k named parameters body lexeme)
    c.mark_within.ensures)

pub returns-in-Nodes : goal.returns-in-Nodes
returns-in-Nodes c =
    let old = c.args.shadows.now.items in
    subst (λ d. IsMarked c.args.tokens.now (λ at lexeme. is_shadow_of at lexeme (declaration_of d)) old old) (sym c.in-Nodes.is)
    (marked_none c.args.tokens.now _ old (λ k bytes. refl))

pub returns-in-Const : goal.returns-in-Const
returns-in-Const c =
    let old = c.args.shadows.now.items in
    subst (λ d. IsMarked c.args.tokens.now (λ at lexeme. is_shadow_of at lexeme (declaration_of d)) old old) (sym c.in-Const.is)
    (marked_none c.args.tokens.now _ old (λ k bytes. refl))

pub returns-in-Shared : goal.returns-in-Shared
returns-in-Shared c =
    let old = c.args.shadows.now.items in
    subst (λ d. IsMarked c.args.tokens.now (λ at lexeme. is_shadow_of at lexeme (declaration_of d)) old old) (sym c.in-Shared.is)
    (marked_none c.args.tokens.now _ old (λ k bytes. refl))

pub returns-in-Lock : goal.returns-in-Lock
returns-in-Lock c =
    let old = c.args.shadows.now.items in
    subst (λ d. IsMarked c.args.tokens.now (λ at lexeme. is_shadow_of at lexeme (declaration_of d)) old old) (sym c.in-Lock.is)
    (marked_none c.args.tokens.now _ old (λ k bytes. refl))
