-- What is known before a run fits 64 bits.
use Rattle.std.proofs.Common.{◌≡◌, ◌≤◌, ◌<◌, ◌+◌, ◌-◌, ◌*◌, ◌%◌, ◌^◌, ℕ, zero, suc, Bool, true, false, not, List, [], ◌∷◌, refl, sym, subst, arith}
use Rattle.std.specs.Prelude.{Option, Some, None, nat_eq, nat_lt, nat_le, option_map, slice_get}
use Rattle.std.specs.List.{AllByRecursion}
use Rattle.std.proofs.lemmas.Nat.{mod_below}
use Rattle.lrc_program.specs.declared.Operator.{Operator}
use Rattle.lrc_program.specs.declared.Operator.TheVariants.{Add, Subtract, Multiply, Divide, Remainder, Equal, NotEqual}
use Rattle.lrc_program.specs.declared.Operator.TheVariants.{Less, LessOrEqual, Greater, GreaterOrEqual}
use Rattle.lrc_exec.specs.Meaning.{one_if, operated}
use Rattle.lrc_named_tree.specs.Tree.{Named, Expression, Expressions}
use Rattle.lrc_named_names.specs.Elements.{elements}
use Rattle.lrc_named_names.specs.Names.{Declared, Item, Meaning, constant, shared, lock, function, meaning_at, place_of}
use Rattle.lrc_named_constants.specs.declared.constancy.Constancy.{Constancy}
use Rattle.lrc_named_constants.specs.declared.constancy.Constancy.TheVariants.{Varies, Undefined, Value}
use Rattle.lrc_named_constants.specs.Combine.{both_of, called, constant_of, either_of, joined, negated, truth_of, unless_varies}
use Rattle.lrc_named_constants.specs.Constant.{AreConstancies, IsConstancy, Known, bound, known_as, no_expression, one_expression, parameter_of}
use Rattle.lrc_named_constants.specs.Constant as known
use Rattle.lrc_named_text_laws.specs.Spelled.{Fits}
use Rattle.lrc_named_laws.proofs.Parsed.{AreLegible, IsLegible}

-- ---- values

abbrev FitsIfSome : Option ℕ → Type 0
FitsIfSome None = Unit {0}
FitsIfSome (Some v) = Fits v

-- its value fits, where it has one
abbrev pub FitsAs : Constancy → Type 0
FitsAs Varies = Unit {0}
FitsAs Undefined = Unit {0}
FitsAs (Value v) = Fits v

wrapped : (n : ℕ) → Fits (n % 2 ^ 64)
wrapped n =
    let below : n % 18446744073709551616 < 18446744073709551616 = mod_below n 18446744073709551616 (omega arith) in
    omega (arith, below)

one_fits : (holds : Bool) → Fits (one_if holds)
one_fits true = omega arith
one_fits false = omega arith

operated_fits : (o : Operator) (x y : ℕ) → Fits x → FitsIfSome (operated o x y)
operated_fits Add x y h = wrapped (x + y)
operated_fits Subtract x y h = wrapped (x + (2 ^ 64 - y))
operated_fits Multiply x y h = wrapped (x * y)
operated_fits Divide x zero h = tt
operated_fits Divide x (suc y) h = omega (arith, h)
operated_fits Remainder x zero h = tt
operated_fits Remainder x (suc y) h = omega (arith, h)
operated_fits Equal x y h = one_fits (nat_eq x y)
operated_fits NotEqual x y h = one_fits (not (nat_eq x y))
operated_fits Less x y h = one_fits (nat_lt x y)
operated_fits LessOrEqual x y h = one_fits (nat_le x y)
operated_fits Greater x y h = one_fits (nat_lt y x)
operated_fits GreaterOrEqual x y h = one_fits (nat_le y x)

constant_fits : (o : Option ℕ) → FitsIfSome o → FitsAs (constant_of o)
constant_fits None h = tt
constant_fits (Some v) h = h

joined_fits : (o : Operator) (left right : Constancy) → FitsAs left → FitsAs (joined o left right)
joined_fits o Varies right h = tt
joined_fits o Undefined Varies h = tt
joined_fits o Undefined Undefined h = tt
joined_fits o Undefined (Value y) h = tt
joined_fits o (Value x) Varies h = tt
joined_fits o (Value x) Undefined h = tt
joined_fits o (Value x) (Value y) h = constant_fits (operated o x y) (operated_fits o x y h)

unless_fits : (right one : Constancy) → FitsAs one → FitsAs (unless_varies right one)
unless_fits Varies one h = tt
unless_fits Undefined one h = h
unless_fits (Value y) one h = h

small_fits : (n : ℕ) → n ≤ 1 → Fits n
small_fits n few = omega (arith, few)

both_fits : (left right : Constancy) → FitsAs right → FitsAs (both_of left right)
both_fits Varies right h = tt
both_fits Undefined right h = unless_fits right Undefined tt
both_fits (Value zero) right h = unless_fits right (Value 0) (small_fits 0 (omega arith))
both_fits (Value (suc x)) right h = joined_fits NotEqual right (Value 0) h

either_fits : (left right : Constancy) → FitsAs right → FitsAs (either_of left right)
either_fits Varies right h = tt
either_fits Undefined right h = unless_fits right Undefined tt
either_fits (Value zero) right h = joined_fits NotEqual right (Value 0) h
either_fits (Value (suc x)) right h = unless_fits right (Value 1) (small_fits 1 (omega arith))

called_fits : (ws : List Constancy) (w : Constancy) → FitsAs w → FitsAs (called ws w)
called_fits [] w h = h
called_fits (Varies ∷ ws) w h = tt
called_fits (Undefined ∷ ws) w h = called_fits ws w h
called_fits (Value v ∷ ws) w h = called_fits ws w h

-- ---- tables

-- an item of at least one element, of which the last is not beyond this
pub record IsPlaced (item : Item) : Type 0 where
  pub some : 1 ≤ elements item.sizes
  pub few : item.first + elements item.sizes ≤ 65536

abbrev pub IsSoundMeaning : Meaning → Type 0
IsSoundMeaning (constant n) = Fits n
IsSoundMeaning (shared item) = IsPlaced item
IsSoundMeaning (lock item) = IsPlaced item
IsSoundMeaning (function parameters body) = IsLegible body

-- constants fit, items are placed, and bodies are legible
abbrev pub IsSoundTable : List Declared → Type 0
IsSoundTable declared = (place : ℕ) (m : Meaning) → meaning_at declared place ≡ Some m → IsSoundMeaning m

-- ---- parameters

abbrev pub AllFit : List Known → Type 0
AllFit ks = AllByRecursion (λ (k : Known). FitsAs k.constancy) ks

fits_at : (ks : List Known) (i : ℕ) (w : Constancy) → AllFit ks → option_map (λ (k : Known). k.constancy) (slice_get ks i) ≡ Some w → FitsAs w
fits_at [] i w all is = absurd (cc)
fits_at (k ∷ ks) zero w all is = let e : k.constancy ≡ w = cc in subst FitsAs e all.0
fits_at (k ∷ ks) (suc i) w all is = fits_at ks i w all.1 is

pub bound_fit : (parameters : List Named) (ws : List Constancy) → AllByRecursion FitsAs ws → AllFit (bound parameters ws)
bound_fit [] ws all = tt
bound_fit (p ∷ parameters) [] all = tt
bound_fit (p ∷ parameters) (w ∷ ws) all = (all.0, bound_fit parameters ws all.1)

-- ---- expressions

module _ (declared : List Declared) (sound : IsSoundTable declared) where
  mutual
    pub constancy_fits : {ks : List Known} {e : Expression} {w : Constancy} → IsConstancy declared ks e w → AllFit ks → IsLegible e → FitsAs w
    constancy_fits known.a_number all legible = legible
    constancy_fits known.me all legible = tt
    constancy_fits known.nodes all legible = tt
    constancy_fits {ks = ks} {w = w} (known.a_parameter {named = name} is) all legible = fits_at ks (parameter_of ks name.bytes) w all is
    constancy_fits (known.a_private_name other means) all legible = tt
    constancy_fits (known.a_constant {named = name} {n = n} other means) all legible = sound (place_of declared name.bytes) (constant n) means
    constancy_fits (known.a_shared_item other means) all legible = tt
    constancy_fits (known.a_call {named = name} {parameters = parameters} {body = body} {ws = ws} {w = w} means are is) all legible =
        called_fits ws w
        (constancy_fits is (bound_fit parameters ws (constancies_fit are all legible)) (sound (place_of declared name.bytes) (function parameters body) means))
    constancy_fits (known.parentheses is) all legible = constancy_fits is all legible
    constancy_fits (known.a_negation {w = w} is) all legible = joined_fits Equal w (Value 0) (constancy_fits is all legible)
    constancy_fits (known.a_binary {o = o} {wl = l} {wr = r} left right) all legible = joined_fits o l r (constancy_fits left all legible.0)
    constancy_fits (known.both {wl = l} {wr = r} left right) all legible = both_fits l r (constancy_fits right all legible.1)
    constancy_fits (known.either {wl = l} {wr = r} left right) all legible = either_fits l r (constancy_fits right all legible.1)

    pub constancies_fit : {ks : List Known} {es : Expressions} {ws : List Constancy} → AreConstancies declared ks es ws → AllFit ks → AreLegible es
        → AllByRecursion FitsAs ws
    constancies_fit no_expression all legible = tt
    constancies_fit (one_expression is are) all legible = (constancy_fits is all legible.0, constancies_fit are all legible.1)
