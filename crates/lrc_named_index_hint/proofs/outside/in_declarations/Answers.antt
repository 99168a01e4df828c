-- From the last declaration on.
use Rattle.std.proofs.Common.{◌≡◌, [], ◌∷◌, ◌++◌, map, rules, sym, ap, ◌∙◌}
use Rattle.lrc_named_tree.specs.View.{declaration_of}
use Rattle.lrc_named_index_hint.specs.Out.{IsBehind, IsOutIn, IsOutInOne}
use Rattle.lrc_named_index_hint.proofs.Behind.{all_left, here_left, last_taken, none_found, none_left, one_less, some_found}
use Rattle.lrc_named_index_hint.proofs.outside.in_declarations.Goals as goal

pub loop-declaration-init : goal.loop-declaration-init
loop-declaration-init c = (all_left (map declaration_of c.args.front.now.declarations.items) c.args.at, c.requires)

pub in_last-requires : goal.in_last-requires
in_last-requires c = c.loop-declaration.invariant.1

pub loop-declaration-preserved : goal.loop-declaration-preserved
loop-declaration-preserved c =
    let all = map declaration_of c.args.front.now.declarations.items in
    let old = map declaration_of c.loop-declaration.front.declarations.items in
    let new = map declaration_of c.pop.new.self.items in
    let d = declaration_of c.in-Some.declaration in
    let taken = last_taken c.loop-declaration.front.declarations.items c.pop.new.self.items c.in-Some.declaration c.in-Some.ensures.items in
    let here : c.deref.result.now ≡ c.loop-declaration.taken.items ++ c.in-Some.declaration ∷ [] = c.deref.ensures.value ∙ c.in_ok-push.ensures.items in
    let none = none_found (λ v s. IsBehind new (λ t. IsOutIn t c.args.at d v s)) c.in_ok-found.found (sym c.is_some.ensures ∙ c.if-is_some.false)
    (c.in_ok-found.ensures c.loop-declaration.taken.items c.in-Some.declaration here) in
    (one_less all old new d c.args.at taken c.loop-declaration.invariant.0 none, c.loop-declaration.invariant.1)

pub returns-then-is_some : goal.returns-then-is_some
returns-then-is_some c =
    let all = map declaration_of c.args.front.now.declarations.items in
    let old = map declaration_of c.loop-declaration.front.declarations.items in
    let new = map declaration_of c.pop.new.self.items in
    let d = declaration_of c.in-Some.declaration in
    let taken = last_taken c.loop-declaration.front.declarations.items c.pop.new.self.items c.in-Some.declaration c.in-Some.ensures.items in
    let here : c.deref.result.now ≡ c.loop-declaration.taken.items ++ c.in-Some.declaration ∷ [] = c.deref.ensures.value ∙ c.in_ok-push.ensures.items in
    some_found (λ v s. IsBehind new (λ t. IsOutIn t c.args.at d v s)) (λ v s. IsOutInOne all c.args.at v s) c.in_ok-found.found
    (sym c.is_some.ensures ∙ c.if-is_some.true) (λ v s h. here_left all old new d c.args.at v s taken c.loop-declaration.invariant.0 h)
    (c.in_ok-found.ensures c.loop-declaration.taken.items c.in-Some.declaration here)

pub returns : goal.returns
returns c =
    let all = map declaration_of c.args.front.now.declarations.items in
    let none : c.loop-declaration.front.declarations.items ≡ [] = search rules in
    none_left all (map declaration_of c.loop-declaration.front.declarations.items) c.args.at (ap (map declaration_of) none) c.loop-declaration.invariant.0
