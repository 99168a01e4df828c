-- What a function's body has in it, with the bodies of what it calls, and so on. In a body a name means what was declared before it.
use Rattle.std.specs.Prelude.{◌≡◌, ◌+◌, ◌≤◌, ℕ, min, true, false, Some, List, take, slice_get}
use Rattle.lrc_program.specs.declared.Operator.{Operator}
use Rattle.lrc_named_tree.specs.Tree.{Named, Expression, Expressions}
use Rattle.lrc_named_names.specs.Names.{Item, Meaning, Declared, place_of, meaning_at, meaning_of}
use Rattle.lrc_named_constants.specs.Well.{bytes_of, is_among}
use Rattle.lrc_named_expression_faults.specs.declared.extent.Extent.{Extent}

-- what was declared before this name
abbrev pub before : List Declared → List ℕ → List Declared
before declared name = take (place_of declared name) declared

-- `me`, `nodes` or a shared item stands in the expression, or in the body of a function that it calls, and so on
mutual
  pub data Varies : List Declared → (parameters : List (List ℕ)) → Expression → Type 0 where
    me : {declared : List Declared} {parameters : List (List ℕ)} {at : ℕ} → Varies declared parameters (Expression.me at)
    nodes : {declared : List Declared} {parameters : List (List ℕ)} {at : ℕ} → Varies declared parameters (Expression.nodes at)
    a_shared_item : {declared : List Declared} {parameters : List (List ℕ)} {named : Named} {indices : Expressions} {last : ℕ} {item : Item} →
        is_among parameters named.bytes ≡ false → meaning_of declared named.bytes ≡ Some (Meaning.shared item) →
        Varies declared parameters (Expression.element named indices last)
    in_an_index : {declared : List Declared} {parameters : List (List ℕ)} {named : Named} {indices : Expressions} {last : ℕ} →
        OneVaries declared parameters indices → Varies declared parameters (Expression.element named indices last)
    in_an_argument : {declared : List Declared} {parameters : List (List ℕ)} {named : Named} {arguments : Expressions} {close : ℕ} →
        OneVaries declared parameters arguments → Varies declared parameters (Expression.call named arguments close)
    in_a_body : {declared : List Declared} {parameters : List (List ℕ)} {named : Named} {arguments : Expressions} {close : ℕ}
        {own : List Named} {body : Expression} →
        meaning_of declared named.bytes ≡ Some (Meaning.function own body) → Varies (before declared named.bytes) (bytes_of own) body →
        Varies declared parameters (Expression.call named arguments close)
    in_parentheses : {declared : List Declared} {parameters : List (List ℕ)} {opens close : ℕ} {e : Expression} →
        Varies declared parameters e → Varies declared parameters (Expression.group opens e close)
    in_a_negation : {declared : List Declared} {parameters : List (List ℕ)} {at : ℕ} {e : Expression} →
        Varies declared parameters e → Varies declared parameters (Expression.negation at e)
    left : {declared : List Declared} {parameters : List (List ℕ)} {o : Operator} {a b : Expression} →
        Varies declared parameters a → Varies declared parameters (Expression.binary a o b)
    right : {declared : List Declared} {parameters : List (List ℕ)} {o : Operator} {a b : Expression} →
        Varies declared parameters b → Varies declared parameters (Expression.binary a o b)
    left_of_both : {declared : List Declared} {parameters : List (List ℕ)} {a b : Expression} →
        Varies declared parameters a → Varies declared parameters (Expression.both a b)
    right_of_both : {declared : List Declared} {parameters : List (List ℕ)} {a b : Expression} →
        Varies declared parameters b → Varies declared parameters (Expression.both a b)
    left_of_either : {declared : List Declared} {parameters : List (List ℕ)} {a b : Expression} →
        Varies declared parameters a → Varies declared parameters (Expression.either a b)
    right_of_either : {declared : List Declared} {parameters : List (List ℕ)} {a b : Expression} →
        Varies declared parameters b → Varies declared parameters (Expression.either a b)

  -- in one of these
  pub data OneVaries : List Declared → (parameters : List (List ℕ)) → Expressions → Type 0 where
    this : {declared : List Declared} {parameters : List (List ℕ)} {e : Expression} {others : Expressions} →
        Varies declared parameters e → OneVaries declared parameters (Expressions.more e others)
    another : {declared : List Declared} {parameters : List (List ℕ)} {e : Expression} {others : Expressions} →
        OneVaries declared parameters others → OneVaries declared parameters (Expressions.more e others)

-- so many operators and calls stand in the expression, and in the bodies of what it calls, and so on, counted at each call
mutual
  pub data Weighs : List Declared → Expression → ℕ → Type 0 where
    a_number : {declared : List Declared} {at n : ℕ} → Weighs declared (Expression.number at n) 0
    the_node : {declared : List Declared} {at : ℕ} → Weighs declared (Expression.me at) 0
    the_nodes : {declared : List Declared} {at : ℕ} → Weighs declared (Expression.nodes at) 0
    an_element : {declared : List Declared} {named : Named} {indices : Expressions} {last n : ℕ} →
        Weigh declared indices n → Weighs declared (Expression.element named indices last) n
    a_call : {declared : List Declared} {named : Named} {arguments : Expressions} {close n m : ℕ} {own : List Named} {body : Expression} →
        Weigh declared arguments n → meaning_of declared named.bytes ≡ Some (Meaning.function own body) →
        Weighs (before declared named.bytes) body m → Weighs declared (Expression.call named arguments close) (1 + (n + m))
    parentheses : {declared : List Declared} {opens close n : ℕ} {e : Expression} →
        Weighs declared e n → Weighs declared (Expression.group opens e close) n
    a_negation : {declared : List Declared} {at n : ℕ} {e : Expression} →
        Weighs declared e n → Weighs declared (Expression.negation at e) (1 + n)
    a_binary : {declared : List Declared} {o : Operator} {m n : ℕ} {a b : Expression} →
        Weighs declared a m → Weighs declared b n → Weighs declared (Expression.binary a o b) (1 + (m + n))
    both : {declared : List Declared} {m n : ℕ} {a b : Expression} →
        Weighs declared a m → Weighs declared b n → Weighs declared (Expression.both a b) (1 + (m + n))
    either : {declared : List Declared} {m n : ℕ} {a b : Expression} →
        Weighs declared a m → Weighs declared b n → Weighs declared (Expression.either a b) (1 + (m + n))

  -- in all of these
  pub data Weigh : List Declared → Expressions → ℕ → Type 0 where
    nothing : {declared : List Declared} → Weigh declared Expressions.none 0
    one_of : {declared : List Declared} {e : Expression} {others : Expressions} {m n : ℕ} →
        Weighs declared e m → Weigh declared others n → Weigh declared (Expressions.more e others) (m + n)

-- an extent says whether the expression varies, and how many operators and calls it has, as far as to 257
pub record IsExtent (declared : List Declared) (parameters : List (List ℕ)) (e : Expression) (extent : Extent) : Type 0 where
  pub varies : extent.varies ≡ true → Varies declared parameters e
  pub varies_only : Varies declared parameters e → extent.varies ≡ true
  pub count : ℕ
  pub weighs : Weighs declared e count
  pub weight : extent.weight ≡ min count 257

pub record AreExtent (declared : List Declared) (parameters : List (List ℕ)) (es : Expressions) (extent : Extent) : Type 0 where
  pub varies : extent.varies ≡ true → OneVaries declared parameters es
  pub varies_only : OneVaries declared parameters es → extent.varies ≡ true
  pub count : ℕ
  pub weigh : Weigh declared es count
  pub weight : extent.weight ≡ min count 257

-- the extent of the body of each function that is declared; none of those is over the limit
abbrev pub AreExtents : List Declared → List Extent → Type 0
AreExtents declared extents = (place : ℕ) (parameters : List Named) (body : Expression) → meaning_at declared place ≡ Some (Meaning.function parameters body)
    → (extent : Extent) × (slice_get extents place ≡ Some extent) × (extent.weight ≤ 256) × IsExtent (take place declared) (bytes_of parameters) body extent
