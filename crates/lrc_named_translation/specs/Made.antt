-- The core of expressions. `IsMade declared at known cores e taken before p after` says: in the core, where the statement that is
-- translated has taken so many names of its own, the expression e is the statements `before` and then the expression p, and then so
-- many names are taken. In the body of a function the parameters stand for `cores`, and `known` is known of them.
use Rattle.std.specs.Prelude.{◌≡◌, ◌+◌, ℕ, Bool, true, false, not, Option, Some, None, List, [], ◌∷◌, slice_get}
use Rattle.lrc_program.specs.declared.Operator.{Operator}
use Rattle.lrc_program.specs.declared.Operator.TheVariants.{Add, Multiply, Equal, NotEqual}
use Rattle.lrc_named_tree.specs.Tree.{Named, Expressions}
use Rattle.lrc_named_tree.specs.Tree as tree
use Rattle.lrc_named_tree.specs.Ends.{first_of, last_of}
use Rattle.lrc_named_constants.specs.declared.constancy.Constancy.{Constancy}
use Rattle.lrc_named_constants.specs.declared.constancy.Constancy.TheVariants.{Varies, Undefined, Value}
use Rattle.lrc_named_names.specs.Names.{Item, Meaning, Declared, meaning_of}
use Rattle.lrc_named_constants.specs.Constant.{Known, IsConstancy, AreConstancies, bound, known_as, parameter_of}
use Rattle.lrc_named_core.specs.Tree.{Private, named, own, Expression, number, private, me, nodes, binary, Trap, plain, index, Origin}
use Rattle.lrc_named_core.specs.Tree.{assign, read, if_else, Block, empty, only, next, behind, has_division}
use Rattle.lrc_named_address.specs.Address.{address}

abbrev pub HasNoValue : Constancy → Type 0
HasNoValue Varies = Unit {0}
HasNoValue Undefined = Unit {0}
HasNoValue (Value v) = ⊥

-- the expression without the parentheses around it
abbrev pub bare : tree.Expression → tree.Expression
bare (tree.number at n) = tree.number at n
bare (tree.me at) = tree.me at
bare (tree.nodes at) = tree.nodes at
bare (tree.element name indices last) = tree.element name indices last
bare (tree.call name arguments close) = tree.call name arguments close
bare (tree.group opens e close) = bare e
bare (tree.negation at e) = tree.negation at e
bare (tree.binary left o right) = tree.binary left o right
bare (tree.both left right) = tree.both left right
bare (tree.either left right) = tree.either left right

-- a name of the translation's own, for the value of an expression
abbrev pub holding : ℕ → tree.Expression → Private
holding k e = own k (first_of (bare e)) (last_of (bare e))

-- what a trap at an item says: that an index is out of range, where it has indices
abbrev pub trap_at : List ℕ → Expressions → Trap
trap_at name Expressions.none = plain
trap_at name (Expressions.more e others) = index name

-- a statement that uses an item, one that comes from the same
abbrev pub using_item : Origin → List ℕ → Expressions → Origin
using_item at name indices = record { statement = at.statement; line = at.line; trap = trap_at name indices }

-- 1 where the value is not 0, and else 0
abbrev pub truth : Expression → Expression
truth p = binary p NotEqual (number 0)

-- what the parameter of this name stands for
abbrev pub core_as : List Known → List Expression → List ℕ → Option Expression
core_as known cores name = slice_get cores (parameter_of known name)

-- nothing comes before an expression, and it does not divide
abbrev pub is_plain : Block → Expression → Bool
is_plain empty p = not (has_division p)
is_plain (next first rest) p = false

mutual
  pub data IsMade (declared : List Declared) (at : Origin) : List Known → List Expression → tree.Expression → ℕ → Block → Expression → ℕ → Type 0 where
    a_value : {known : List Known} {cores : List Expression} {e : tree.Expression} {taken v : ℕ} →
        IsConstancy declared known e (Value v) → IsMade declared at known cores e taken empty (number v) taken
    by_rule : {known : List Known} {cores : List Expression} {e : tree.Expression} {w : Constancy} {taken after : ℕ} {before : Block} {p : Expression} →
        IsConstancy declared known e w → HasNoValue w → IsByRule declared at known cores e taken before p after →
        IsMade declared at known cores e taken before p after

  -- what has no value before the run, by its form
  pub data IsByRule (declared : List Declared) (at : Origin) : List Known → List Expression → tree.Expression → ℕ → Block → Expression → ℕ → Type 0 where
    a_number : {known : List Known} {cores : List Expression} {token n taken : ℕ} →
        IsByRule declared at known cores (tree.number token n) taken empty (number n) taken
    the_node : {known : List Known} {cores : List Expression} {token taken : ℕ} →
        IsByRule declared at known cores (tree.me token) taken empty me taken
    node_count : {known : List Known} {cores : List Expression} {token taken : ℕ} →
        IsByRule declared at known cores (tree.nodes token) taken empty nodes taken
    a_parameter : {known : List Known} {cores : List Expression} {name : Named} {indices : Expressions} {last taken : ℕ} {p : Expression} {w : Constancy} →
        known_as known name.bytes ≡ Some w → core_as known cores name.bytes ≡ Some p →
        IsByRule declared at known cores (tree.element name indices last) taken empty p taken
    a_private_name : {known : List Known} {cores : List Expression} {name : Named} {indices : Expressions} {last taken : ℕ} →
        known_as known name.bytes ≡ None → meaning_of declared name.bytes ≡ None →
        IsByRule declared at known cores (tree.element name indices last) taken empty (private (named name.bytes)) taken
    a_constant : {known : List Known} {cores : List Expression} {name : Named} {indices : Expressions} {last taken n : ℕ} →
        known_as known name.bytes ≡ None → meaning_of declared name.bytes ≡ Some (Meaning.constant n) →
        IsByRule declared at known cores (tree.element name indices last) taken empty (number n) taken
    a_shared_item : {known : List Known} {cores : List Expression} {name : Named} {indices : Expressions} {item : Item} {last taken after : ℕ}
        {before : Block} {ps : List Expression} →
        known_as known name.bytes ≡ None → meaning_of declared name.bytes ≡ Some (Meaning.shared item) →
        AreMade declared at known cores indices taken before ps after →
        IsByRule declared at known cores (tree.element name indices last) taken
        (behind before (only (read (using_item at name.bytes indices) (own (after + 1) name.at last) (address item ps))))
        (private (own (after + 1) name.at last)) (after + 1)
    a_call : {known : List Known} {cores : List Expression} {name : Named} {arguments : Expressions} {parameters : List Named} {body : tree.Expression}
        {close taken between after : ℕ} {ws : List Constancy} {before inside : Block} {ps : List Expression} {p : Expression} →
        meaning_of declared name.bytes ≡ Some (Meaning.function parameters body) →
        AreConstancies declared known arguments ws → AreMade declared at known cores arguments taken before ps between →
        IsMade declared at (bound parameters ws) ps body between inside p after →
        IsByRule declared at known cores (tree.call name arguments close) taken (behind before inside) p after
    parentheses : {known : List Known} {cores : List Expression} {e : tree.Expression} {opens close taken after : ℕ} {before : Block} {p : Expression} →
        IsMade declared at known cores e taken before p after →
        IsByRule declared at known cores (tree.group opens e close) taken before p after
    a_negation : {known : List Known} {cores : List Expression} {e : tree.Expression} {token taken after : ℕ} {before : Block} {p : Expression} →
        IsMade declared at known cores e taken before p after →
        IsByRule declared at known cores (tree.negation token e) taken before (binary p Equal (number 0)) after
    a_binary : {known : List Known} {cores : List Expression} {left right : tree.Expression} {o : Operator} {taken between after : ℕ}
        {first second : Block} {p q : Expression} →
        IsMade declared at known cores left taken first p between → IsMade declared at known cores right between second q after →
        IsByRule declared at known cores (tree.binary left o right) taken (behind first second) (binary p o q) after
    -- `left and right` where nothing comes before the right side, and it does not divide
    both_at_once : {known : List Known} {cores : List Expression} {left right : tree.Expression} {taken between after : ℕ}
        {before inside : Block} {p q : Expression} →
        IsMade declared at known cores left taken before p between → IsMade declared at known cores right (between + 1) inside q after →
        is_plain inside q ≡ true →
        IsByRule declared at known cores (tree.both left right) taken before (binary (truth p) Multiply (truth q)) between
    -- else the right side is left out where the left one is 0
    both_in_turn : {known : List Known} {cores : List Expression} {left right : tree.Expression} {taken between after : ℕ}
        {before inside : Block} {p q : Expression} →
        IsMade declared at known cores left taken before p between → IsMade declared at known cores right (between + 1) inside q after →
        is_plain inside q ≡ false →
        IsByRule declared at known cores (tree.both left right) taken
        (behind before (next (assign at (holding (between + 1) left) (truth p))
        (only (if_else at (private (holding (between + 1) left))
        (behind inside (only (assign at (holding (between + 1) (tree.both left right)) (truth q)))) empty))))
        (private (holding (between + 1) (tree.both left right))) after
    -- `left or right`, likewise
    either_at_once : {known : List Known} {cores : List Expression} {left right : tree.Expression} {taken between after : ℕ}
        {before inside : Block} {p q : Expression} →
        IsMade declared at known cores left taken before p between → IsMade declared at known cores right (between + 1) inside q after →
        is_plain inside q ≡ true →
        IsByRule declared at known cores (tree.either left right) taken before
        (truth (binary (truth p) Add (truth q))) between
    -- else the right side is left out where the left one is not 0
    either_in_turn : {known : List Known} {cores : List Expression} {left right : tree.Expression} {taken between after : ℕ}
        {before inside : Block} {p q : Expression} →
        IsMade declared at known cores left taken before p between → IsMade declared at known cores right (between + 1) inside q after →
        is_plain inside q ≡ false →
        IsByRule declared at known cores (tree.either left right) taken
        (behind before (next (assign at (holding (between + 1) left) (truth p))
        (only (if_else at (binary (private (holding (between + 1) left)) Equal (number 0))
        (behind inside (only (assign at (holding (between + 1) (tree.either left right)) (truth q)))) empty))))
        (private (holding (between + 1) (tree.either left right))) after

  -- each of these, from the left
  pub data AreMade (declared : List Declared) (at : Origin) : List Known → List Expression → Expressions → ℕ → Block → List Expression → ℕ → Type 0 where
    no_expression : {known : List Known} {cores : List Expression} {taken : ℕ} →
        AreMade declared at known cores Expressions.none taken empty [] taken
    one_expression : {known : List Known} {cores : List Expression} {e : tree.Expression} {others : Expressions} {taken between after : ℕ}
        {before behind_it : Block} {p : Expression} {ps : List Expression} →
        IsMade declared at known cores e taken before p between → AreMade declared at known cores others between behind_it ps after →
        AreMade declared at known cores (Expressions.more e others) taken (behind before behind_it) (p ∷ ps) after
