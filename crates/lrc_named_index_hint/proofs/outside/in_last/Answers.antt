-- The last one, if there is one.
use Rattle.std.proofs.Common.{◌≡◌, List, [], ◌∷◌, ◌++◌, map, sym}
use Rattle.lrc_named_tree.specs.declared.tree.Declaration as code_declaration
use Rattle.lrc_named_tree.specs.View.{declaration_of}
use Rattle.lrc_named_expression_faults.proofs.First.{if_ok}
use Rattle.lrc_named_index_hint.proofs.Behind.{IsFoundIn, last_found, none_last}
use Rattle.lrc_named_index_hint.proofs.outside.in_last.Goals as goal

pub returns-in-Some : goal.returns-in-Some
returns-in-Some c =
    let front = map declaration_of c.args.front.now.declarations.items in
    let all = c.args.taken.now in
    if_ok (λ found. IsFoundIn front c.args.at c.in-Some.declaration.now found)
    (λ found. (before : List code_declaration.Declaration) (last : code_declaration.Declaration) → all ≡ before ++ last ∷ [] → IsFoundIn front c.args.at last found)
    c.in_declaration.result (λ found h. last_found front c.args.at all c.in-Some.declaration.now found (sym c.in-Some.ensures.value) h) c.in_declaration.ensures

pub returns-in-None : goal.returns-in-None
returns-in-None c =
    none_last (map declaration_of c.args.front.now.declarations.items) c.args.at c.args.taken.now (sym c.in-None.ensures.value)
