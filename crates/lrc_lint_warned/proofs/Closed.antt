-- The value of an expression without a name, `me` and `nodes`.
use Rattle.std.proofs.Common.{◌≡◌, ◌≤◌, ℕ, List, refl, ap, ap₂, ◌∙◌, arith}
use Rattle.std.specs.Prelude.{◌&&◌, Bool, true, false, Option, Some, None}
use Rattle.lrc_program.specs.declared.Expression.{Expression}
use Rattle.lrc_program.specs.declared.Expression.TheVariants.{Number, Private, Me, Nodes, Binary'}
use Rattle.lrc_program.specs.declared.Operator.{Operator}
use Rattle.lrc_program.specs.Sizes.{names_in_expression}
use Rattle.lrc_program.specs.Statements.{Expression as Part, number, private, me, nodes, binary, expression_of}
use Rattle.lrc_exec.specs.Meaning.{combined, value_of}
use Rattle.lrc_lint_warned.specs.Constant.{constant_of, is_closed}

and_left : (a b : Bool) → (a && b) ≡ true → a ≡ true
and_left true b h = refl
and_left false b h = absurd (cc)

and_right : (a b : Bool) → (a && b) ≡ true → b ≡ true
and_right true b h = h
and_right false b h = absurd (cc)

pub closed_names : (e : Part) → is_closed e ≡ true → names_in_expression e ≤ 32
closed_names (number n) h = omega arith
closed_names (private k) h = absurd (cc)
closed_names me h = omega arith
closed_names nodes h = omega arith
closed_names (binary left o right) h =
    let first = closed_names left (and_left (is_closed left) (is_closed right) h) in
    let second = closed_names right (and_right (is_closed left) (is_closed right) h) in omega (arith, first, second)

-- it is a constant where it has a value
pub closed_value : (here count : ℕ) (privates : List ℕ) (e : Expression) → is_closed (expression_of e) ≡ true
    → value_of here count privates e ≡ constant_of (expression_of e)
closed_value here count privates (Number n) h = refl
closed_value here count privates (Private k) h = absurd (cc)
closed_value here count privates Me h = absurd (cc)
closed_value here count privates Nodes h = absurd (cc)
closed_value here count privates (Binary' p left o q right) h =
    ap₂ (combined o)
    (closed_value here count privates left (and_left (is_closed (expression_of left)) (is_closed (expression_of right)) h))
    (closed_value here count privates right (and_right (is_closed (expression_of left)) (is_closed (expression_of right)) h))

no_right : (o : Operator) (left : Option ℕ) → combined o left None ≡ None
no_right o None = refl
no_right o (Some x) = refl

-- any other is none
pub open_value : (e : Part) → is_closed e ≡ false → constant_of e ≡ None
open_value (number n) h = absurd (cc)
open_value (private k) h = refl
open_value me h = refl
open_value nodes h = refl
open_value (binary left o right) h = by (is_closed left) refl h (λ k. open_value left k) (λ k. open_value right k)
  where
    by : (b : Bool) → is_closed left ≡ b → (b && is_closed right) ≡ false → (is_closed left ≡ false → constant_of left ≡ None)
        → (is_closed right ≡ false → constant_of right ≡ None) → constant_of (binary left o right) ≡ None
    by true is h first second = ap (combined o (constant_of left)) (second h) ∙ no_right o (constant_of left)
    by false is h first second = ap (λ v. combined o v (constant_of right)) (first is)
