-- Which expressions are constant, and what their values are. `IsConstancy declared known e w` says that w is known of the
-- expression e before a run. Names mean what is declared; in the body of a function a parameter is what its argument is.
use Rattle.std.specs.Prelude.{◌≡◌, ℕ, Option, Some, None, List, [], ◌∷◌, map, option_map, slice_get}
use Rattle.std.specs.List.{position_or_len}
use Rattle.std.specs.Str.{bytes_eq}
use Rattle.lrc_program.specs.declared.Operator.{Operator}
use Rattle.lrc_named_tree.specs.Tree.{Named, Expression, Expressions}
use Rattle.lrc_named_constants.specs.declared.constancy.Constancy.{Constancy}
use Rattle.lrc_named_constants.specs.declared.constancy.Constancy.TheVariants.{Varies, Value}
use Rattle.lrc_named_names.specs.Names.{Item, Meaning, Declared, meaning_of}
use Rattle.lrc_named_constants.specs.Combine.{joined, negated, both_of, either_of, called}

-- a parameter, and what is known of its argument
pub record Known : Type 0 where
  pub name : List ℕ
  pub constancy : Constancy

-- the names of parameters
abbrev pub names_of : List Known → List (List ℕ)
names_of known = map (λ (k : Known). k.name) known

-- the place of a name among the parameters; of one that is none, how many these are
abbrev pub parameter_of : List Known → List ℕ → ℕ
parameter_of known name = position_or_len (λ (k : Known). bytes_eq k.name name) known

-- what is known of the parameter of this name, where there is one
abbrev pub known_as : List Known → List ℕ → Option Constancy
known_as known name = option_map (λ (k : Known). k.constancy) (slice_get known (parameter_of known name))

-- parameters with what is known of their arguments
abbrev pub bound : List Named → List Constancy → List Known
bound [] constancies = []
bound (parameter ∷ parameters) [] = []
bound (parameter ∷ parameters) (c ∷ constancies) = record { name = parameter.bytes; constancy = c } ∷ bound parameters constancies

-- what is known of a name without arguments that is no parameter
abbrev pub constancy_of_meaning : Option Meaning → Constancy
constancy_of_meaning None = Varies
constancy_of_meaning (Some (Meaning.constant n)) = Value n
constancy_of_meaning (Some (Meaning.shared item)) = Varies
constancy_of_meaning (Some (Meaning.lock item)) = Varies
constancy_of_meaning (Some (Meaning.function parameters body)) = Varies

mutual
  pub data IsConstancy (declared : List Declared) : List Known → Expression → Constancy → Type 0 where
    a_number : {known : List Known} {at n : ℕ} → IsConstancy declared known (Expression.number at n) (Value n)
    me : {known : List Known} {at : ℕ} → IsConstancy declared known (Expression.me at) Varies
    nodes : {known : List Known} {at : ℕ} → IsConstancy declared known (Expression.nodes at) Varies
    a_parameter : {known : List Known} {named : Named} {indices : Expressions} {last : ℕ} {w : Constancy} →
        known_as known named.bytes ≡ Some w → IsConstancy declared known (Expression.element named indices last) w
    a_private_name : {known : List Known} {named : Named} {indices : Expressions} {last : ℕ} →
        known_as known named.bytes ≡ None → meaning_of declared named.bytes ≡ None →
        IsConstancy declared known (Expression.element named indices last) Varies
    a_constant : {known : List Known} {named : Named} {indices : Expressions} {last n : ℕ} →
        known_as known named.bytes ≡ None → meaning_of declared named.bytes ≡ Some (Meaning.constant n) →
        IsConstancy declared known (Expression.element named indices last) (Value n)
    a_shared_item : {known : List Known} {named : Named} {indices : Expressions} {last : ℕ} {item : Item} →
        known_as known named.bytes ≡ None → meaning_of declared named.bytes ≡ Some (Meaning.shared item) →
        IsConstancy declared known (Expression.element named indices last) Varies
    a_call : {known : List Known} {named : Named} {arguments : Expressions} {close : ℕ} {parameters : List Named} {body : Expression}
        {ws : List Constancy} {w : Constancy} →
        meaning_of declared named.bytes ≡ Some (Meaning.function parameters body) →
        AreConstancies declared known arguments ws → IsConstancy declared (bound parameters ws) body w →
        IsConstancy declared known (Expression.call named arguments close) (called ws w)
    parentheses : {known : List Known} {open_ close : ℕ} {e : Expression} {w : Constancy} →
        IsConstancy declared known e w → IsConstancy declared known (Expression.group open_ e close) w
    a_negation : {known : List Known} {at : ℕ} {e : Expression} {w : Constancy} →
        IsConstancy declared known e w → IsConstancy declared known (Expression.negation at e) (negated w)
    a_binary : {known : List Known} {left right : Expression} {o : Operator} {wl wr : Constancy} →
        IsConstancy declared known left wl → IsConstancy declared known right wr →
        IsConstancy declared known (Expression.binary left o right) (joined o wl wr)
    both : {known : List Known} {left right : Expression} {wl wr : Constancy} →
        IsConstancy declared known left wl → IsConstancy declared known right wr →
        IsConstancy declared known (Expression.both left right) (both_of wl wr)
    either : {known : List Known} {left right : Expression} {wl wr : Constancy} →
        IsConstancy declared known left wl → IsConstancy declared known right wr →
        IsConstancy declared known (Expression.either left right) (either_of wl wr)

  -- of each of these
  pub data AreConstancies (declared : List Declared) : List Known → Expressions → List Constancy → Type 0 where
    no_expression : {known : List Known} → AreConstancies declared known Expressions.none []
    one_expression : {known : List Known} {e : Expression} {others : Expressions} {w : Constancy} {ws : List Constancy} →
        IsConstancy declared known e w → AreConstancies declared known others ws →
        AreConstancies declared known (Expressions.more e others) (w ∷ ws)
