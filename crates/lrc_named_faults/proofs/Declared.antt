-- A declaration leads to one table.
use Rattle.std.proofs.Common.{◌≡◌, List, [], ◌∷◌, ◌++◌, refl, ap, subst}
use Rattle.lrc_named_tree.specs.Tree.{Declaration, Place}
use Rattle.lrc_named_names.specs.Names.{Declared, constant, lock, shared}
use Rattle.lrc_named_constants.specs.Layout.{DeclareLocks, no_more_lock, one_more_lock, DeclareShared, no_more_shared, one_more_shared, as_meaning, locks_in, words_in}
use Rattle.lrc_named_constants.specs.Layout.{Declares, a_constant, a_function, a_node_count, locks, shared_items}
use Rattle.lrc_named_constants.proofs.Unique.{one_constancy, one_list_of_sizes, value_alike}

one_shared : {old one other : List Declared} {items : List Place} → DeclareShared old items one → DeclareShared old items other → one ≡ other
one_shared no_more_shared no_more_shared = refl
one_shared {old = old} {other = other} (one_more_shared {p = p} {others = others} x rest) (one_more_shared y more) =
    one_shared rest
    (subst (λ l. DeclareShared (old ++ as_meaning p.name (shared (record { first = words_in old; sizes = l })) ∷ []) others other) (one_list_of_sizes y x) more)

one_locks : {old one other : List Declared} {items : List Place} → DeclareLocks old items one → DeclareLocks old items other → one ≡ other
one_locks no_more_lock no_more_lock = refl
one_locks {old = old} {other = other} (one_more_lock {p = p} {others = others} x rest) (one_more_lock y more) =
    one_locks rest
    (subst (λ l. DeclareLocks (old ++ as_meaning p.name (lock (record { first = locks_in old; sizes = l })) ∷ []) others other) (one_list_of_sizes y x) more)

pub one_table : {old one other : List Declared} {d : Declaration} → Declares old d one → Declares old d other → one ≡ other
one_table a_node_count a_node_count = refl
one_table {old = old} (a_constant {named = named} x) (a_constant y) = ap (λ v. old ++ as_meaning named (constant v) ∷ []) (value_alike (one_constancy x y))
one_table (shared_items x) (shared_items y) = one_shared x y
one_table (locks x) (locks y) = one_locks x y
one_table a_function a_function = refl
