-- What is known of statements in which names are used as what they are.
use Rattle.std.proofs.Common.{◌≡◌, ℕ, true, false, Some, None, List, refl, ap}
use Rattle.std.specs.Prelude.{Option, ◌≢◌}
use Rattle.lrc_named_tree.specs.Tree.{Expression, Expressions, Update, number, me, nodes, element, call, group, negation, binary, both, either, none, more, set, add, subtract}
use Rattle.lrc_named_names.specs.Names.{Item, Meaning, constant, shared, lock, function, Declared}
use Rattle.lrc_named_constants.specs.Well.{IsWell}
use Rattle.lrc_named_translation.specs.Made.{bare}
use Rattle.lrc_named_translation.specs.Meanings.{IsShared}
use Rattle.lrc_named_statements.specs.Statements.{operator_of}
use Rattle.lrc_named_statements.specs.Well.{IsSettable, is_shared}

pub shared_true : (m : Option Meaning) → is_shared m ≡ true → IsShared m
shared_true None is = absurd (cc)
shared_true (Some (constant n)) is = absurd (cc)
shared_true (Some (shared item)) is = tt
shared_true (Some (lock item)) is = absurd (cc)
shared_true (Some (function parameters body)) is = absurd (cc)

pub shared_false : (m : Option Meaning) → is_shared m ≡ false → (item : Item) → m ≢ Some (shared item)
shared_false m is item means = let t : is_shared m ≡ true = ap is_shared means in absurd (cc)

-- what is set and is no shared item is a private name, without indices
pub private_settable : (m : Option Meaning) (indices : Expressions) → IsSettable m indices → is_shared m ≡ false → (m ≡ None) × (indices ≡ none)
private_settable None none may is = (refl, refl)
private_settable None (more e others) may is = absurd may
private_settable (Some (constant n)) indices may is = absurd may
private_settable (Some (shared item)) indices may is = absurd (cc)
private_settable (Some (lock item)) indices may is = absurd may
private_settable (Some (function parameters body)) indices may is = absurd may

pub plain_set : (update : Update) → operator_of update ≡ None → update ≡ set
plain_set set is = refl
plain_set add is = absurd (cc)
plain_set subtract is = absurd (cc)

pub bare_well : (declared : List Declared) (parameters : List (List ℕ)) (below : ℕ) (e : Expression)
    → IsWell declared parameters below e → IsWell declared parameters below (bare e)
bare_well declared parameters below (number at n) well = well
bare_well declared parameters below (me at) well = well
bare_well declared parameters below (nodes at) well = well
bare_well declared parameters below (element name indices last) well = well
bare_well declared parameters below (call name arguments close) well = well
bare_well declared parameters below (group opens e close) well = bare_well declared parameters below e well
bare_well declared parameters below (negation at e) well = well
bare_well declared parameters below (binary left o right) well = well
bare_well declared parameters below (both left right) well = well
bare_well declared parameters below (either left right) well = well
