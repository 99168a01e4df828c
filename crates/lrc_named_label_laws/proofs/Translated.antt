-- The names in the core of a named program are those of its tree, and the translation's own.
use Rattle.std.proofs.Common.{◌≡◌, ◌∙◌, ℕ, zero, suc, ◌+◌, ◌==◌, Bool, true, false, cond, List, [], ◌∷◌, ◌++◌, refl, sym, subst, filter}
use Rattle.std.specs.Prelude.{Some, slice_get}
use Rattle.std.specs.List.{AllByRecursion}
use Rattle.std.specs.Str.{bytes_eq}
use Rattle.lrc_labels.specs.Name.{is_name}
use Rattle.lrc_labels.proofs.Words.{name_is}
use Rattle.lrc_program.specs.declared.Operator.TheVariants.{Add, Multiply}
use Rattle.lrc_named_tree.specs.Tree.{Named, Expressions, Place, Declaration, Arms}
use Rattle.lrc_named_tree.specs.Tree as tree
use Rattle.lrc_named_names.specs.Names.{Declared, Item, Meaning, constant, function, lock, meaning_of, shared}
use Rattle.lrc_named_constants.specs.Constant.{Known}
use Rattle.lrc_named_constants.specs.Layout.{AreDeclared, DeclareLocks, DeclareShared, Declares, a_constant, a_function, a_node_count, as_meaning, locks}
use Rattle.lrc_named_constants.specs.Layout.{locks_in, no_declaration, no_more_lock, no_more_shared, one_declaration, one_more_lock, one_more_shared, shared_items, words_in}
use Rattle.lrc_named_core.specs.Tree.{named, Expression, number, binary, Origin, Block, empty, next, behind}
use Rattle.lrc_named_address.specs.Address.{Index, address, address_of, base_of, indices_of, is_open, plus_summands, summand_of, test_of, times_tests}
use Rattle.lrc_named_translation.specs.Made.{AreMade, IsByRule, IsMade, bare}
use Rattle.lrc_named_translation.specs.Made as made
use Rattle.lrc_named_statements.specs.Statements.{AreCores, ArePrinted, IsAddress, IsChoice, IsCore, IsElse, IsHeldFor, IsHeldWith}
use Rattle.lrc_named_statements.specs.Statements as rules
use Rattle.lrc_named_label_laws.proofs.Shape.{ArePlain, HasPlain, IsPlain}
use Rattle.lrc_named_label_laws.proofs.Elements.{meaning_first, meaning_later}
use Rattle.lrc_named_label_laws.proofs.Parsed.{AllNamed, AreNamedArms, IsNamed, IsNamedBlock, IsNamedBody, IsNamedPlace, IsNamedStatement}

-- ---- what is declared

abbrev pub IsNamedMeaning : Meaning → Type 0
IsNamedMeaning (constant n) = Unit {0}
IsNamedMeaning (shared item) = Unit {0}
IsNamedMeaning (lock item) = Unit {0}
IsNamedMeaning (function parameters body) = IsNamed body

abbrev pub IsNamedTable : List Declared → Type 0
IsNamedTable table = AllByRecursion (λ (d : Declared). IsNamedMeaning d.meaning) table

with_last : (table : List Declared) (d : Declared) → IsNamedTable table → IsNamedMeaning d.meaning → IsNamedTable (table ++ d ∷ [])
with_last [] d all one = (one, tt)
with_last (other ∷ table) d all one = (all.0, with_last table d all.1 one)

all_shared : {table new : List Declared} {items : List Place} → DeclareShared table items new → IsNamedTable table → IsNamedTable new
all_shared no_more_shared h = h
all_shared (one_more_shared {old = old} {p = p} {sizes = sizes} has rest) h =
    all_shared rest (with_last old (as_meaning p.name (shared (record { first = words_in old; sizes = sizes }))) h tt)

all_locks : {table new : List Declared} {items : List Place} → DeclareLocks table items new → IsNamedTable table → IsNamedTable new
all_locks no_more_lock h = h
all_locks (one_more_lock {old = old} {p = p} {sizes = sizes} has rest) h =
    all_locks rest (with_last old (as_meaning p.name (lock (record { first = locks_in old; sizes = sizes }))) h tt)

declared_named : {table new : List Declared} {d : Declaration} → Declares table d new → IsNamedBody d → IsNamedTable table → IsNamedTable new
declared_named a_node_count is h = h
declared_named (a_constant {old = old} {v = v} {named = x} has) is h = with_last old (as_meaning x (constant v)) h tt
declared_named (shared_items has) is h = all_shared has h
declared_named (locks has) is h = all_locks has h
declared_named (a_function {old = old} {named = x} {parameters = parameters} {body = body}) is h =
    with_last old (as_meaning x (function parameters body)) h is

pub table_named : {table new : List Declared} {ds : List Declaration} → AreDeclared table ds new → AllByRecursion IsNamedBody ds → IsNamedTable table → IsNamedTable new
table_named no_declaration all h = h
table_named (one_declaration here rest) all h = table_named rest all.1 (declared_named here all.0 h)

same_meaning : {m n : Meaning} → Some m ≡ Some n → m ≡ n
same_meaning e = cc

body_named : (table : List Declared) (name : List ℕ) (m : Meaning) → IsNamedTable table → meaning_of table name ≡ Some m → IsNamedMeaning m
body_named [] name m all is = absurd (cc)
body_named (d ∷ table) name m all is = by (body_named table name m all.1) (bytes_eq d.name name) refl
  where
    by : (meaning_of table name ≡ Some m → IsNamedMeaning m) → (b : Bool) → bytes_eq d.name name ≡ b → IsNamedMeaning m
    by later true e = subst IsNamedMeaning (same_meaning (sym (meaning_first d table name e) ∙ is)) all.0
    by later false e = later (sym (meaning_later d table name e) ∙ is)

-- ---- addresses

abbrev ArePlainAll : List Expression → Type 0
ArePlainAll es = AllByRecursion HasPlain es

abbrev ArePlainIndices : List Index → Type 0
ArePlainIndices is = AllByRecursion (λ (i : Index). HasPlain i.core) is

indices_plain : (es : List Expression) (sizes : List ℕ) → ArePlainAll es → ArePlainIndices (indices_of es sizes)
indices_plain [] sizes h = tt
indices_plain (e ∷ es) [] h = tt
indices_plain (e ∷ es) (size ∷ sizes) h = (h.0, indices_plain es sizes h.1)

open_plain : (is : List Index) → ArePlainIndices is → ArePlainIndices (filter is_open is)
open_plain [] h = tt
open_plain (i ∷ is) h = by (is_open i) (open_plain is h.1)
  where
    by : (b : Bool) → ArePlainIndices (filter is_open is) → ArePlainIndices (cond b (i ∷ filter is_open is) (filter is_open is))
    by true more = (h.0, more)
    by false more = more

tests_plain : (left : Expression) (is : List Index) → HasPlain left → ArePlainIndices is → HasPlain (times_tests left is)
tests_plain left [] l h = l
tests_plain left (i ∷ is) l h = tests_plain (binary left Multiply (test_of i)) is (l, (h.0, tt)) h.1

summand_plain : (i : Index) → HasPlain i.core → HasPlain (summand_of i)
summand_plain i h = by (i.stride == 1)
  where
    by : (b : Bool) → HasPlain (cond b i.core (binary i.core Multiply (number i.stride)))
    by true = h
    by false = (h, tt)

sums_plain : (left : Expression) (is : List Index) → HasPlain left → ArePlainIndices is → HasPlain (plus_summands left is)
sums_plain left [] l h = l
sums_plain left (i ∷ is) l h = sums_plain (binary left Add (summand_of i)) is (l, summand_plain i h.0) h.1

address_of_plain : (base : ℕ) (is : List Index) → ArePlainIndices is → HasPlain (address_of base is)
address_of_plain base [] h = tt
address_of_plain base (i ∷ is) h = ((tests_plain (test_of i) is (h.0, tt) h.1, sums_plain (number (base + 1)) (i ∷ is) tt h), tt)

address_plain : (item : Item) (es : List Expression) → ArePlainAll es → HasPlain (address item es)
address_plain item es h =
    address_of_plain (base_of item.first (indices_of es item.sizes)) (filter is_open (indices_of es item.sizes))
    (open_plain (indices_of es item.sizes) (indices_plain es item.sizes h))

-- ---- expressions

pub both_plain : (a b : Block) → ArePlain a → ArePlain b → ArePlain (behind a b)
both_plain empty b h k = k
both_plain (next s a) b h k = (h.0, both_plain a b h.1 k)

got : (es : List Expression) (n : ℕ) (p : Expression) → ArePlainAll es → slice_get es n ≡ Some p → HasPlain p
got [] n p h e = absurd (cc)
got (x ∷ es) zero p h e = let same : x ≡ p = cc in subst HasPlain same h.0
got (x ∷ es) (suc n) p h e = got es n p h.1 e

name_plain : (bytes : List ℕ) → is_name bytes ≡ true → IsPlain (named bytes)
name_plain bytes is = (name_is bytes is).0.span.each

-- what stands in parentheses
bare_named : (e : tree.Expression) → IsNamed e → IsNamed (bare e)
bare_named (tree.number at n) h = tt
bare_named (tree.me at) h = tt
bare_named (tree.nodes at) h = tt
bare_named (tree.element name indices last) h = h
bare_named (tree.call name arguments close) h = h
bare_named (tree.group opens e close) h = bare_named e h
bare_named (tree.negation at e) h = h
bare_named (tree.binary left o right) h = h
bare_named (tree.both left right) h = h
bare_named (tree.either left right) h = h

module _ {declared : List Declared} (table : IsNamedTable declared) where
  mutual
    one_made : {at : Origin} {known : List Known} {cores : List Expression} {e : tree.Expression} {taken after : ℕ} {before : Block} {p : Expression}
        → IsMade declared at known cores e taken before p after → IsNamed e → ArePlainAll cores → ArePlain before × HasPlain p
    one_made (made.a_value is) n c = (tt, tt)
    one_made (made.by_rule is none rule) n c = by_rule rule n c

    by_rule : {at : Origin} {known : List Known} {cores : List Expression} {e : tree.Expression} {taken after : ℕ} {before : Block} {p : Expression}
        → IsByRule declared at known cores e taken before p after → IsNamed e → ArePlainAll cores → ArePlain before × HasPlain p
    by_rule made.a_number n c = (tt, tt)
    by_rule made.the_node n c = (tt, tt)
    by_rule made.node_count n c = (tt, tt)
    by_rule {cores = cores} (made.a_parameter {p = p} known stands) n c = (tt, got cores _ p c stands)
    by_rule (made.a_private_name {name = name} unknown none) n c = (tt, name_plain name.bytes n.0)
    by_rule (made.a_constant unknown is) n c = (tt, tt)
    by_rule (made.a_shared_item {item = item} {before = before} {ps = ps} unknown is inner) n c =
        let h = all_made inner n.1 c in
        (both_plain before _ h.0 ((tt, address_plain item ps h.1), tt), tt)
    by_rule (made.a_call {name = name} {parameters = parameters} {body = body} {before = before} {inside = inside} is known_of given inner) n c =
        let h = all_made given n c in
        let k = one_made inner (body_named declared name.bytes (function parameters body) table is) h.1 in
        (both_plain before inside h.0 k.0, k.1)
    by_rule (made.parentheses inner) n c = one_made inner n c
    by_rule (made.a_negation inner) n c = let h = one_made inner n c in (h.0, (h.1, tt))
    by_rule (made.a_binary {first = first} {second = second} l r) n c =
        let h = one_made l n.0 c in
        let k = one_made r n.1 c in
        (both_plain first second h.0 k.0, (h.1, k.1))
    by_rule (made.both_at_once l r is) n c =
        let h = one_made l n.0 c in
        let k = one_made r n.1 c in
        (h.0, ((h.1, tt), (k.1, tt)))
    by_rule (made.both_in_turn {before = before} {inside = inside} l r is) n c =
        let h = one_made l n.0 c in
        let k = one_made r n.1 c in
        (both_plain before _ h.0 ((tt, (h.1, tt)), ((tt, both_plain inside _ k.0 ((tt, (k.1, tt)), tt), tt), tt)), tt)
    by_rule (made.either_at_once l r is) n c =
        let h = one_made l n.0 c in
        let k = one_made r n.1 c in
        (h.0, (((h.1, tt), (k.1, tt)), tt))
    by_rule (made.either_in_turn {before = before} {inside = inside} l r is) n c =
        let h = one_made l n.0 c in
        let k = one_made r n.1 c in
        (both_plain before _ h.0 ((tt, (h.1, tt)), (((tt, tt), both_plain inside _ k.0 ((tt, (k.1, tt)), tt), tt), tt)), tt)

    all_made : {at : Origin} {known : List Known} {cores : List Expression} {es : Expressions} {taken after : ℕ} {before : Block} {ps : List Expression}
        → AreMade declared at known cores es taken before ps after → AllNamed es → ArePlainAll cores → ArePlain before × ArePlainAll ps
    all_made made.no_expression n c = (tt, tt)
    all_made (made.one_expression {before = before} {behind_it = behind_it} one others) n c =
        let h = one_made one n.0 c in
        let k = all_made others n.1 c in
        (both_plain before behind_it h.0 k.0, (h.1, k.1))

  -- ---- statements

  place_made : {token : ℕ} {item : Item} {es : Expressions} {taken after : ℕ} {before : Block} {word : Expression}
      → IsAddress declared token item es taken before word after → AllNamed es → ArePlain before × HasPlain word
  place_made {item = item} (rules.an_address {ps = ps} inner) n = let h = all_made inner n tt in (h.0, address_plain item ps h.1)

  mutual
    statement_made : {held : ℕ} {s : tree.Statement} {b : Block} → IsCore declared held s b → IsNamedStatement s → ArePlain b
    statement_made (rules.read_into {p = p} {name = name} {indices = indices} {value = value} {before = before} none is means place) n =
        let inner = subst IsNamed is (bare_named value n.1) in
        let h = place_made place inner.1 in
        both_plain before _ h.0 ((name_plain p.name.bytes n.0.0, h.1), tt)
    statement_made (rules.set_to {p = p} {before = before} none no_item value) n =
        let h = one_made value n.1 tt in
        both_plain before _ h.0 ((name_plain p.name.bytes n.0.0, h.1), tt)
    statement_made (rules.changed_by {p = p} {before = before} none is value) n =
        let h = one_made value n.1 tt in
        let name = name_plain p.name.bytes n.0.0 in
        both_plain before _ h.0 ((name, (name, h.1)), tt)
    statement_made (rules.written {first = first} {second = second} means place value) n =
        let h = place_made place n.0.1 in
        let k = one_made value n.1 tt in
        both_plain first _ h.0 (both_plain second _ k.0 ((h.1, k.1), tt))
    statement_made (rules.written_over {first = first} {second = second} means is place value) n =
        let h = place_made place n.0.1 in
        let k = one_made value n.1 tt in
        both_plain first _ h.0 ((tt, h.1), both_plain second _ k.0 ((h.1, (tt, k.1)), tt))
    statement_made (rules.acquired {before = before} means place) n = let h = place_made place n.1 in both_plain before _ h.0 (h.1, tt)
    statement_made (rules.released {before = before} means place) n = let h = place_made place n.1 in both_plain before _ h.0 (h.1, tt)
    statement_made (rules.with_lock {before = before} {within = within} means place free inside) n =
        let h = place_made place n.0.1 in
        let k = block_made inside n.1 in
        both_plain before _ h.0 (h.1, both_plain within _ k (h.1, tt))
    statement_made (rules.with_lock_held means place is inner) n = held_with inner n.0 n.1
    statement_made rules.at_barrier n = (tt, tt)
    statement_made (rules.printed inner) n = printed inner n
    statement_made (rules.asserted {before = before} inner is) n =
        let h = one_made inner n tt in
        both_plain before _ h.0 ((tt, (tt, (h.1, tt))), tt)
    statement_made (rules.asserted_after {before = before} inner is) n =
        let h = one_made inner n tt in
        both_plain before _ h.0 ((tt, h.1), ((tt, (tt, (tt, tt))), tt))
    statement_made (rules.chosen inner) n = choice inner n.0 n.1 n.2 n.3
    statement_made (rules.repeated {before = before} {within = within} {again = again} first inside second) n =
        let h = one_made first n.0 tt in
        let k = block_made inside n.1 in
        let l = one_made second n.0 tt in
        both_plain before _ h.0 ((h.1, both_plain within again k l.0), tt)
    statement_made (rules.counted {name = name} {one = one} {two = two} {within = within} first end free inside) n =
        let h = one_made first n.1 tt in
        let k = one_made end n.2 tt in
        let l = block_made inside n.3 in
        let x = name_plain name.bytes n.0 in
        both_plain one _ h.0 (both_plain two _ k.0 ((x, h.1), (((x, k.1), both_plain within _ l ((x, (x, tt)), tt)), tt)))
    statement_made (rules.counted_held first end is inner) n = held_for inner n.0 n.1 n.2 n.3

    held_with : {held token close : ℕ} {p : Place} {inside : tree.Block} {b : Block} → IsHeldWith declared held token p inside close b → IsNamedPlace p
        → IsNamedBlock inside → ArePlain b
    held_with (rules.a_held_with {before = before} {within = within} means place inside) n m =
        let h = place_made place n.1 in
        let k = block_made inside m in
        both_plain before _ h.0 ((tt, h.1), (tt, both_plain within _ k (tt, tt)))

    held_for : {held token : ℕ} {name : Named} {first end : tree.Expression} {inside : tree.Block} {b : Block}
        → IsHeldFor declared held token name first end inside b → is_name name.bytes ≡ true → IsNamed first → IsNamed end → IsNamedBlock inside → ArePlain b
    held_for {name = name} (rules.a_held_for {one = one} {two = two} {within = within} first end inside) is n m o =
        let h = one_made first n tt in
        let k = one_made end m tt in
        let l = block_made inside o in
        let x = name_plain name.bytes is in
        both_plain one _ h.0 (both_plain two _ k.0 ((tt, k.1), ((x, h.1), (((x, tt), both_plain within _ l ((x, (x, tt)), tt)), tt))))

    choice : {held token : ℕ} {condition : tree.Expression} {then otherwise : tree.Block} {arms : Arms} {b : Block}
        → IsChoice declared held token condition then arms otherwise b → IsNamed condition → IsNamedBlock then → AreNamedArms arms → IsNamedBlock otherwise → ArePlain b
    choice (rules.a_choice {before = before} is first others) n m a o =
        let h = one_made is n tt in
        both_plain before _ h.0 ((h.1, block_made first m, elses others a o), tt)

    elses : {held : ℕ} {arms : Arms} {otherwise : tree.Block} {b : Block} → IsElse declared held arms otherwise b → AreNamedArms arms → IsNamedBlock otherwise → ArePlain b
    elses (rules.last_block is) a o = block_made is o
    elses (rules.else_if inner) a o = choice inner a.0 a.1 a.2 o

    printed : {held token : ℕ} {es : Expressions} {b : Block} → ArePrinted declared held token es b → AllNamed es → ArePlain b
    printed rules.none_printed n = tt
    printed (rules.one_printed {before = before} one others) n =
        let h = one_made one n.0 tt in
        both_plain before _ h.0 (h.1, printed others n.1)

    pub block_made : {held : ℕ} {statements : tree.Block} {b : Block} → AreCores declared held statements b → IsNamedBlock statements → ArePlain b
    block_made rules.no_statement n = tt
    block_made (rules.one_statement {first = first} {second = second} one others) n =
        both_plain first second (statement_made one n.0) (block_made others n.1)
