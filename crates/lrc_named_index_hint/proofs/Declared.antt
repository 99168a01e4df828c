-- In declarations each name stands before its indices.
use Rattle.std.proofs.Common.{◌≡◌, ◌≤◌, ◌+◌, ℕ, List, [], ◌∷◌, arith}
use Rattle.lrc_named_tokens.specs.Token.{Token}
use Rattle.lrc_named_tree.specs.Tree.{Named, Place, Declaration, NamedTree, node_count, constant, shared, lock, function}
use Rattle.lrc_named_tree.specs.Grammar as grammar
use Rattle.lrc_named_tree.specs.Grammar.{Numbered, IsPlace, AreItems, AreNames, AreParameters, IsDeclaration, AreDeclarations, AreTokensOf, IsNamedProgram}
use Rattle.lrc_named_index_hint.proofs.Ordered.{AreOrdered, IsFrom, IsOrdered, from_less, indices_stand, numbered_from, stands}

abbrev pub OrderedItems : List Place → Type 0
OrderedItems [] = Unit {0}
OrderedItems (p ∷ others) = AreOrdered p.indices × OrderedItems others

-- in a constant's value, and in sizes
abbrev pub OrderedIn : Declaration → Type 0
OrderedIn (node_count at n) = Unit {0}
OrderedIn (constant at named e) = IsOrdered e
OrderedIn (shared at items) = OrderedItems items
OrderedIn (lock at items) = OrderedItems items
OrderedIn (function at named parameters body) = Unit {0}

abbrev pub OrderedAll : List Declaration → Type 0
OrderedAll [] = Unit {0}
OrderedAll (d ∷ others) = OrderedIn d × OrderedAll others

place_stands : {p : Place} {all rest : List Numbered} (n : ℕ) → IsPlace p all rest → IsFrom n all → AreOrdered p.indices × IsFrom n rest
place_stands n (grammar.place {at = at} {rest = rest} indices) h =
    let le = h.0 in
    let i = indices_stand (at + 1) indices h.1 in
    (i.1, from_less n (at + 1) rest (omega arith) i.2)

items_stand : {items : List Place} {all rest : List Numbered} (n : ℕ) → AreItems items all rest → IsFrom n all → OrderedItems items × IsFrom n rest
items_stand n (grammar.last_item p) h = let i = place_stands n p h in ((i.0, tt), i.1)
items_stand n (grammar.one_item {comma = comma} {rest = rest} p others) h =
    let i = place_stands n p h in
    let le = i.1.0 in
    let o = items_stand (comma + 1) others i.1.1 in
    ((i.0, o.0), from_less n (comma + 1) rest (omega arith) o.1)

names_stand : {names : List Named} {all rest : List Numbered} (n : ℕ) → AreNames names all rest → IsFrom n all → IsFrom n rest
names_stand n (grammar.last_name {at = at} {rest = rest}) h = let le = h.0 in from_less n (at + 1) rest (omega arith) h.1
names_stand n (grammar.one_name {comma = comma} {rest = rest} others) h =
    let le = h.0 in
    let next = h.1.0 in
    from_less n (comma + 1) rest (omega arith) (names_stand (comma + 1) others h.1.1)

parameters_stand : {parameters : List Named} {all rest : List Numbered} (n : ℕ) → AreParameters parameters all rest → IsFrom n all → IsFrom n rest
parameters_stand n (grammar.no_parameter {closes = closes} {rest = rest}) h = let le = h.0 in from_less n (closes + 1) rest (omega arith) h.1
parameters_stand n (grammar.some_parameters {closes = closes} {rest = rest} names) h =
    let behind = names_stand n names h in
    let le = behind.0 in
    from_less n (closes + 1) rest (omega arith) behind.1

declaration_stands : {d : Declaration} {all rest : List Numbered} (n : ℕ) → IsDeclaration d all rest → IsFrom n all → OrderedIn d × IsFrom n rest
declaration_stands n (grammar.node_count {ends = ends} {rest = rest}) h =
    let a = h.0 in
    let b = h.1.0 in
    let c = h.1.1.0 in
    (tt, from_less n (ends + 1) rest (omega arith) h.1.1.1)
declaration_stands n (grammar.constant {sets = sets} {ends = ends} {rest = rest} value) h =
    let a = h.0 in
    let b = h.1.0 in
    let c = h.1.1.0 in
    let v = stands (sets + 1) value h.1.1.1 in
    let d = v.2.0 in
    (v.1, from_less n (ends + 1) rest (omega arith) v.2.1)
declaration_stands n (grammar.shared {at = at} {ends = ends} {rest = rest} items) h =
    let a = h.0 in
    let i = items_stand (at + 1) items h.1 in
    let b = i.1.0 in
    (i.0, from_less n (ends + 1) rest (omega arith) i.1.1)
declaration_stands n (grammar.lock {at = at} {ends = ends} {rest = rest} items) h =
    let a = h.0 in
    let i = items_stand (at + 1) items h.1 in
    let b = i.1.0 in
    (i.0, from_less n (ends + 1) rest (omega arith) i.1.1)
declaration_stands n (grammar.function {opens = opens} {sets = sets} {ends = ends} {rest = rest} parameters body) h =
    let a = h.0 in
    let b = h.1.0 in
    let c = h.1.1.0 in
    let p = parameters_stand (opens + 1) parameters h.1.1.1 in
    let d = p.0 in
    let i = stands (sets + 1) body p.1 in
    let e = i.2.0 in
    (tt, from_less n (ends + 1) rest (omega arith) i.2.1)

declarations_stand : {all : List Declaration} {tokens rest : List Numbered} (n : ℕ) → AreDeclarations all tokens rest → IsFrom n tokens → OrderedAll all
declarations_stand n (grammar.last_declaration d) h = ((declaration_stands n d h).0, tt)
declarations_stand n (grammar.one_declaration d others) h =
    let i = declaration_stands n d h in
    (i.0, declarations_stand n others i.1)

of_program : {p : NamedTree} {all : List Numbered} → AreTokensOf p all → IsFrom 0 all → OrderedAll p.declarations
of_program (grammar.program declarations statements) h = declarations_stand 0 declarations h

pub all_ordered : (p : NamedTree) (tokens : List Token) → IsNamedProgram p tokens → OrderedAll p.declarations
all_ordered p tokens is = of_program is (numbered_from 0 tokens)
