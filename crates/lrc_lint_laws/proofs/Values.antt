-- Constants, comparisons with 0, and divisions by the constant 0.
use Rattle.std.proofs.Common.{◌≡◌, inl, inr, ◌∙◌, ℕ, Bool, true, false, Option, Some, None, List, [], ◌∷◌, ◌++◌, refl, sym, ap, ap₂, arith, rules}
use Rattle.std.specs.Prelude.{nat_lt, nat_le}
use Rattle.std.specs.List.{Contains}
use Rattle.std.proofs.lemmas.Bool.{eqb-true, le-ltb}
use Rattle.std.proofs.lemmas.List.Elements.{Contains-append_cases}
use Rattle.std.proofs.lemmas.Option.{same_Some}
use Rattle.lrc_program.specs.declared.Expression.{Expression}
use Rattle.lrc_program.specs.declared.Expression.TheVariants.{Number, Private, Me, Nodes, Binary'}
use Rattle.lrc_program.specs.declared.Operator.{Operator}
use Rattle.lrc_program.specs.declared.Operator.TheVariants.{Add, Subtract, Multiply, Divide, Remainder, Equal, NotEqual, Less, LessOrEqual}
use Rattle.lrc_program.specs.declared.Operator.TheVariants.{Greater, GreaterOrEqual}
use Rattle.lrc_program.specs.declared.Statement.{Statement}
use Rattle.lrc_program.specs.declared.Statement.TheVariants.{Assign, Read, Write, Acquire, Release, Barrier, Print, If', While'}
use Rattle.lrc_program.specs.Statements.{Expression as Part, expression_of, statement_of}
use Rattle.lrc_trace.specs.declared.act.Cause.TheVariants.{DivisionByZero}
use Rattle.lrc_exec.specs.Meaning.{Thread, Next, traps, combined, next_of_statement, one_if, operated, or_trap, value_in, value_of}
use Rattle.lrc_lint_warned.specs.declared.found.Kind.{Kind}
use Rattle.lrc_lint_warned.specs.declared.found.Kind.TheVariants as kinds
use Rattle.lrc_lint_warned.specs.Constant.{constant_of, is_constant, is_value}
use Rattle.lrc_lint_warned.specs.Inside.{nodes_in, nodes_of}
use Rattle.lrc_lint_warned.specs.Operations.{below_zero_kind, division_kind, kind_if}
use Rattle.lrc_lint_laws.proofs.Listed.{in_none, in_one}

-- ---- constants

pub value_is : (o : Option ℕ) (n : ℕ) → is_value o n ≡ true → o ≡ Some n
value_is None n is = cc
value_is (Some v) n is = ap Some (eqb-true v n is)

pub constant_is : (e : Part) (n : ℕ) → is_constant e n ≡ true → constant_of e ≡ Some n
constant_is e n is = value_is (constant_of e) n is

-- both sides of what has a value have one
pub record Both (o : Operator) (left right : Option ℕ) (n : ℕ) : Type 0 where
  pub x : ℕ
  pub y : ℕ
  pub left_is : left ≡ Some x
  pub right_is : right ≡ Some y
  pub gives : operated o x y ≡ Some n

pub both : (o : Operator) (left right : Option ℕ) (n : ℕ) → combined o left right ≡ Some n → Both o left right n
both o None right n is = cc
both o (Some x) None n is = cc
both o (Some x) (Some y) n is = record { x = x; y = y; left_is = refl; right_is = refl; gives = is }

module _ (me nodes : ℕ) (privates : List ℕ) where
  abbrev V : Expression → Option ℕ
  V e = value_of me nodes privates e

  -- a constant has its value in every thread
  pub constant_value : (e : Expression) (n : ℕ) → constant_of (expression_of e) ≡ Some n → V e ≡ Some n
  constant_value (Number m) n is = is
  constant_value (Private k) n is = cc
  constant_value Me n is = cc
  constant_value Nodes n is = cc
  constant_value (Binary' p left o q right) n is =
      let b = both o (constant_of (expression_of left)) (constant_of (expression_of right)) n is in
      ap₂ (combined o) (constant_value left b.x b.left_is) (constant_value right b.y b.right_is) ∙ b.gives

-- ---- comparisons with 0

kind_is : (b : Bool) (kind other : Kind) → kind_if b kind ≡ Some other → (b ≡ true) × (kind ≡ other)
kind_is true kind other is = (refl, same_Some kind other is)
kind_is false kind other is = cc

not_below : (x : ℕ) → nat_lt x 0 ≡ false
not_below x = le-ltb x 0 (omega arith)

always_of : (a b : Bool) → kinds.BelowZero a ≡ kinds.BelowZero b → a ≡ b
always_of a b is = cc

below_by : (x v : ℕ) (b always : Bool) → Some (one_if b) ≡ Some v → b ≡ always → v ≡ one_if always
below_by x v b always is same = sym (same_Some (one_if b) v is) ∙ ap one_if same

less_zero : (x y v : ℕ) (always : Bool) → operated Less x y ≡ Some v → y ≡ 0 → false ≡ always → v ≡ one_if always
less_zero x y v always is zero_is same = below_by x v (nat_lt x y) always is (ap (nat_lt x) zero_is ∙ not_below x ∙ same)

greater_zero : (x y v : ℕ) (always : Bool) → operated Greater x y ≡ Some v → x ≡ 0 → false ≡ always → v ≡ one_if always
greater_zero x y v always is zero_is same = below_by x v (nat_lt y x) always is (ap (nat_lt y) zero_is ∙ not_below y ∙ same)

zero_le : (x : ℕ) → nat_le 0 x ≡ true
zero_le x = search rules

at_least_zero : (x y v : ℕ) (always : Bool) → operated GreaterOrEqual x y ≡ Some v → y ≡ 0 → true ≡ always → v ≡ one_if always
at_least_zero x y v always is zero_is same = below_by x v (nat_le y x) always is (ap (λ n. nat_le n x) zero_is ∙ zero_le x ∙ same)

zero_at_most : (x y v : ℕ) (always : Bool) → operated LessOrEqual x y ≡ Some v → x ≡ 0 → true ≡ always → v ≡ one_if always
zero_at_most x y v always is zero_is same = below_by x v (nat_le x y) always is (ap (λ n. nat_le n y) zero_is ∙ zero_le y ∙ same)

module _ (me nodes : ℕ) (privates : List ℕ) where
  zero_right : (left right : Expression) (o : Operator) (v : ℕ) → is_constant (expression_of right) 0 ≡ true
      → (b : Both o (value_of me nodes privates left) (value_of me nodes privates right) v) → b.y ≡ 0
  zero_right left right o v is b =
      same_Some b.y 0 (sym b.right_is ∙ constant_value me nodes privates right 0 (constant_is (expression_of right) 0 is))

  zero_left : (left right : Expression) (o : Operator) (v : ℕ) → is_constant (expression_of left) 0 ≡ true
      → (b : Both o (value_of me nodes privates left) (value_of me nodes privates right) v) → b.x ≡ 0
  zero_left left right o v is b =
      same_Some b.x 0 (sym b.left_is ∙ constant_value me nodes privates left 0 (constant_is (expression_of left) 0 is))

  -- what says whether a value is below 0 says the same each time
  pub below_zero_is : (e : Expression) (always : Bool) (v : ℕ) → below_zero_kind (expression_of e) ≡ Some (kinds.BelowZero always)
      → value_of me nodes privates e ≡ Some v → v ≡ one_if always
  below_zero_is (Binary' p left Less q right) always v is value =
      let b = both Less _ _ v value in let k = kind_is _ (kinds.BelowZero false) _ is in
      less_zero b.x b.y v always b.gives (zero_right left right Less v k.0 b) (always_of false always k.1)
  below_zero_is (Binary' p left Greater q right) always v is value =
      let b = both Greater _ _ v value in let k = kind_is _ (kinds.BelowZero false) _ is in
      greater_zero b.x b.y v always b.gives (zero_left left right Greater v k.0 b) (always_of false always k.1)
  below_zero_is (Binary' p left GreaterOrEqual q right) always v is value =
      let b = both GreaterOrEqual _ _ v value in let k = kind_is _ (kinds.BelowZero true) _ is in
      at_least_zero b.x b.y v always b.gives (zero_right left right GreaterOrEqual v k.0 b) (always_of true always k.1)
  below_zero_is (Binary' p left LessOrEqual q right) always v is value =
      let b = both LessOrEqual _ _ v value in let k = kind_is _ (kinds.BelowZero true) _ is in
      zero_at_most b.x b.y v always b.gives (zero_left left right LessOrEqual v k.0 b) (always_of true always k.1)
  below_zero_is (Binary' p left Add q right) always v is value = cc
  below_zero_is (Binary' p left Subtract q right) always v is value = cc
  below_zero_is (Binary' p left Multiply q right) always v is value = cc
  below_zero_is (Binary' p left Divide q right) always v is value = cc
  below_zero_is (Binary' p left Remainder q right) always v is value = cc
  below_zero_is (Binary' p left Equal q right) always v is value = cc
  below_zero_is (Binary' p left NotEqual q right) always v is value = cc
  below_zero_is (Number n) always v is value = cc
  below_zero_is (Private k) always v is value = cc
  below_zero_is Me always v is value = cc
  below_zero_is Nodes always v is value = cc

  -- ---- divisions by the constant 0

  none_left : (o : Operator) (right : Option ℕ) → combined o None right ≡ None
  none_left o right = refl

  none_right : (o : Operator) (left : Option ℕ) → combined o left None ≡ None
  none_right o None = refl
  none_right o (Some x) = refl

  by_zero : (left : Option ℕ) → combined Divide left (Some 0) ≡ None
  by_zero None = refl
  by_zero (Some x) = refl

  rest_by_zero : (left : Option ℕ) → combined Remainder left (Some 0) ≡ None
  rest_by_zero None = refl
  rest_by_zero (Some x) = refl

  divides : (e : Expression) (kind : Kind) → division_kind (expression_of e) ≡ Some kind → value_of me nodes privates e ≡ None
  divides (Binary' p left Divide q right) kind is =
      ap (combined Divide (value_of me nodes privates left))
      (constant_value me nodes privates right 0 (constant_is (expression_of right) 0 (kind_is _ _ _ is).0))
      ∙ by_zero (value_of me nodes privates left)
  divides (Binary' p left Remainder q right) kind is =
      ap (combined Remainder (value_of me nodes privates left))
      (constant_value me nodes privates right 0 (constant_is (expression_of right) 0 (kind_is _ _ _ is).0))
      ∙ rest_by_zero (value_of me nodes privates left)
  divides (Binary' p left Add q right) kind is = cc
  divides (Binary' p left Subtract q right) kind is = cc
  divides (Binary' p left Multiply q right) kind is = cc
  divides (Binary' p left Equal q right) kind is = cc
  divides (Binary' p left NotEqual q right) kind is = cc
  divides (Binary' p left Less q right) kind is = cc
  divides (Binary' p left LessOrEqual q right) kind is = cc
  divides (Binary' p left Greater q right) kind is = cc
  divides (Binary' p left GreaterOrEqual q right) kind is = cc
  divides (Number n) kind is = cc
  divides (Private k) kind is = cc
  divides Me kind is = cc
  divides Nodes kind is = cc

  here_too : (e : Expression) (part : Part) (kind : Kind) → expression_of e ≡ part → division_kind part ≡ Some kind → value_of me nodes privates e ≡ None
  here_too e part kind same is = divides e kind (ap division_kind same ∙ is)

  -- an expression with such a part has no value
  pub division_within : (e : Expression) (part : Part) (kind : Kind) → Contains (nodes_in (expression_of e)) part → division_kind part ≡ Some kind
      → value_of me nodes privates e ≡ None
  division_within (Binary' p left o q right) part kind has is =
      elim (Contains-append_cases (nodes_in (expression_of left)) (expression_of (Binary' p left o q right) ∷ nodes_in (expression_of right)) part has) [
        | inl h ↦ ap (λ l. combined o l (value_of me nodes privates right)) (division_within left part kind h is) ∙ none_left o (value_of me nodes privates right)
        | inr h ↦ elim (Contains-append_cases (expression_of (Binary' p left o q right) ∷ []) (nodes_in (expression_of right)) part h) [
          | inl own ↦ here_too (Binary' p left o q right) part kind (in_one _ part own) is
          | inr later ↦ ap (combined o (value_of me nodes privates left)) (division_within right part kind later is) ∙ none_right o (value_of me nodes privates left)
        ]
      ]
  division_within (Number n) part kind has is = here_too (Number n) part kind (in_one _ part has) is
  division_within (Private k) part kind has is = here_too (Private k) part kind (in_one _ part has) is
  division_within Me part kind has is = here_too Me part kind (in_one _ part has) is
  division_within Nodes part kind has is = here_too Nodes part kind (in_one _ part has) is

-- what a statement does that divides by the constant 0
module _ (t : Thread) (part : Part) (kind : Kind) (is : division_kind part ≡ Some kind) where
  no_value : (e : Expression) → Contains (nodes_in (expression_of e) ++ []) part → value_in t e ≡ None
  no_value e has =
      elim (Contains-append_cases (nodes_in (expression_of e)) [] part has) [
        | inl h ↦ division_within t.setting.me t.setting.nodes t.privates e part kind h is
        | inr h ↦ absurd (in_none part h)
      ]

  without : (o : Option ℕ) (go : ℕ → Next) → o ≡ None → or_trap o go ≡ traps DivisionByZero
  without None go none = refl
  without (Some v) go none = cc

  either : (o : Option ℕ) (go : ℕ → Next) → ((v : ℕ) → go v ≡ traps DivisionByZero) → or_trap o go ≡ traps DivisionByZero
  either None go each = refl
  either (Some v) go each = each v

  pub division_traps : (s : Statement) (rest : List Statement) → Contains (nodes_of (statement_of s)) part
      → next_of_statement t s rest ≡ traps DivisionByZero
  division_traps (Assign k e) rest has = without (value_in t e) _ (no_value e has)
  division_traps (Read k e) rest has = without (value_in t e) _ (no_value e has)
  division_traps (Write e v) rest has =
      elim (Contains-append_cases (nodes_in (expression_of e)) (nodes_in (expression_of v) ++ []) part has) [
        | inl h ↦ without (value_in t e) _ (division_within t.setting.me t.setting.nodes t.privates e part kind h is)
        | inr h ↦ either (value_in t e) _ (λ w. without (value_in t v) _ (no_value v h))
      ]
  division_traps (Acquire e) rest has = without (value_in t e) _ (no_value e has)
  division_traps (Release e) rest has = without (value_in t e) _ (no_value e has)
  division_traps Barrier rest has = absurd (in_none part has)
  division_traps (Print e) rest has = without (value_in t e) _ (no_value e has)
  division_traps (If' e p a q b) rest has = without (value_in t e) _ (no_value e has)
  division_traps (While' e p a) rest has = without (value_in t e) _ (no_value e has)
