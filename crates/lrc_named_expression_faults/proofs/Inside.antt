-- The first fault of indices, and of an index.
use Rattle.std.proofs.Common.{◌≡◌, ◌≤◌, ◌<◌, inl, inr, ℕ, zero, suc, Bool, List, [], ◌∷◌, length, drop, get_or, refl, sym, ap, subst, ◌∙◌, arith}
use Rattle.std.specs.Prelude.{Option, Some, None, slice_get}
use Rattle.std.proofs.Math.Seq.{drop-cons}
use Rattle.lrc_named_tree.specs.declared.tree.Expression as code_expression
use Rattle.lrc_named_tree.specs.Tree.{Named, Expression, Expressions}
use Rattle.lrc_named_tree.specs.Ends.{first_of}
use Rattle.lrc_named_tree.specs.View.{expression_of, expressions_of}
use Rattle.lrc_named_constants.specs.declared.constancy.Constancy.{Constancy}
use Rattle.lrc_named_constants.specs.declared.constancy.Constancy.TheVariants.{Value}
use Rattle.lrc_named_constants.specs.Constant.{IsConstancy}
use Rattle.lrc_named_constants.proofs.Unique.{one_constancy, value_alike}
use Rattle.lrc_named_expression_faults.specs.declared.fault.FaultKind.TheVariants.{IndexOutOfRange, WrongArguments, WrongIndices, WrongUse}
use Rattle.lrc_named_expression_faults.specs.declared.fault.Fault.{Fault}
use Rattle.lrc_named_expression_faults.specs.Counts.{miscalled, miscounted}
use Rattle.lrc_named_expression_faults.specs.Expressions.{AreSome, AreWrongArguments, AreWrongIndices, IsBeyond, IsInCall, IsInElement, IsWrongUse, IsInExpression, IsInIndex, IsInIndices, IsValueOf}
use Rattle.lrc_named_expression_faults.specs.Fault.{IsFirstOf, IsNone, earlier, fault_at}
use Rattle.lrc_named_expression_faults.specs.Scope.{Scope, Sense}
use Rattle.lrc_named_expression_faults.proofs.First.{earlier_first, one_first, same_first, when_not, when_so}

first_dropped : (sizes : List ℕ) (i : ℕ) → slice_get (drop i sizes) 0 ≡ slice_get sizes i
first_dropped [] zero = refl
first_dropped [] (suc i) = refl
first_dropped (size ∷ sizes) zero = refl
first_dropped (size ∷ sizes) (suc i) = first_dropped sizes i

one_dropped : (sizes : List ℕ) (i : ℕ) → drop 1 (drop i sizes) ≡ drop (suc i) sizes
one_dropped [] zero = refl
one_dropped [] (suc i) = refl
one_dropped (size ∷ sizes) zero = refl
one_dropped (size ∷ sizes) (suc i) = one_dropped sizes i

-- the indices from one on
pub indices_step : (scope : Scope) (xs : List code_expression.Expression) (sizes : List ℕ) (i k : ℕ) (y : code_expression.Expression) (one first : Option Fault)
    → suc k ≡ i → suc k ≤ length xs → y ≡ get_or xs k y
    → IsFirstOf (λ f. IsInIndex (λ g. IsInExpression scope (expression_of y) g) scope (expression_of y) (slice_get sizes k) f) one
    → IsFirstOf (λ f. IsInIndices scope (expressions_of (drop i xs)) (drop i sizes) f) first
    → IsFirstOf (λ f. IsInIndices scope (expressions_of (drop k xs)) (drop k sizes) f) (earlier one first)
indices_step scope xs sizes i k y one first next lt is here later =
    let cut : drop k xs ≡ y ∷ drop i xs = drop-cons xs k y (omega arith) ∙ ap (λ n. get_or xs k y ∷ drop n xs) next ∙ ap (λ z. z ∷ drop i xs) (sym is) in
    let size : slice_get sizes k ≡ slice_get (drop k sizes) 0 = sym (first_dropped sizes k) in
    let rest : drop i sizes ≡ drop 1 (drop k sizes) = ap (λ n. drop n sizes) (sym next) ∙ sym (one_dropped sizes k) in
    let a = subst (λ s. IsFirstOf (λ f. IsInIndex (λ g. IsInExpression scope (expression_of y) g) scope (expression_of y) s f) one) size here in
    let b = subst (λ l. IsFirstOf (λ f. IsInIndices scope (expressions_of (drop i xs)) l f) first) rest later in
    subst (λ l. IsFirstOf (λ f. IsInIndices scope (expressions_of l) (drop k sizes) f) (earlier one first)) (sym cut)
    (earlier_first (λ f. IsInIndex (λ g. IsInExpression scope (expression_of y) g) scope (expression_of y) (slice_get (drop k sizes) 0) f)
    (λ f. IsInIndices scope (expressions_of (drop i xs)) (drop 1 (drop k sizes)) f) one first a b)

-- an index with a fault inside, and one without
pub index_with_fault : (IsInside : Fault → Type 0) (scope : Scope) (e : Expression) (size : ℕ) (fault : Fault) → IsFirstOf IsInside (Some fault)
    → IsFirstOf (λ f. IsInIndex IsInside scope e (Some size) f) (Some fault)
index_with_fault IsInside scope e size fault h =
    same_first IsInside (λ f. IsInIndex IsInside scope e (Some size) f) (Some fault) (λ f a. inl a)
    (λ f a. elim a [ inl i ↦ i | inr b ↦ absurd (b.0.0 fault h.0) ]) h

pub index_without : (IsInside : Fault → Type 0) (scope : Scope) (e : Expression) (size : ℕ) (found : Option Fault) → IsNone IsInside
    → IsFirstOf (λ f. IsBeyond IsInside scope e size f) found → IsFirstOf (λ f. IsInIndex IsInside scope e (Some size) f) found
index_without IsInside scope e size found clean h =
    same_first (λ f. IsBeyond IsInside scope e size f) (λ f. IsInIndex IsInside scope e (Some size) f) found (λ f a. inr a)
    (λ f a. elim a [ inl i ↦ absurd (clean f i) | inr b ↦ b ]) h

-- an index whose value is not below the size, one whose value is, and one without a value
pub beyond_so : (IsInside : Fault → Type 0) (scope : Scope) (e : Expression) (size value : ℕ) → IsNone IsInside → IsConstancy scope.declared scope.known e (Value value)
    → size ≤ value → IsFirstOf (λ f. IsBeyond IsInside scope e size f) (Some (fault_at (first_of e) IndexOutOfRange))
beyond_so IsInside scope e size value clean is over =
    when_so (IsNone IsInside × ((v : ℕ) × IsConstancy scope.declared scope.known e (Value v) × (size ≤ v))) (fault_at (first_of e) IndexOutOfRange)
    (clean, (value, is, over))

pub beyond_not : (IsInside : Fault → Type 0) (scope : Scope) (e : Expression) (size value : ℕ) → IsConstancy scope.declared scope.known e (Value value)
    → value < size → IsFirstOf (λ f. IsBeyond IsInside scope e size f) None
beyond_not IsInside scope e size value is under =
    when_not (IsNone IsInside × ((v : ℕ) × IsConstancy scope.declared scope.known e (Value v) × (size ≤ v))) (fault_at (first_of e) IndexOutOfRange)
    (λ h. let same : h.1.0 ≡ value = value_alike (one_constancy h.1.1 is) in let over : size ≤ h.1.0 = h.1.2 in omega arith)

pub beyond_none : (IsInside : Fault → Type 0) (scope : Scope) (e : Expression) (size : ℕ) → IsValueOf scope e None
    → IsFirstOf (λ f. IsBeyond IsInside scope e size f) None
beyond_none IsInside scope e size nothing =
    when_not (IsNone IsInside × ((v : ℕ) × IsConstancy scope.declared scope.known e (Value v) × (size ≤ v))) (fault_at (first_of e) IndexOutOfRange)
    (λ h. nothing h.1.0 h.1.1)

-- a number of indices, wrong and right
pub wrong_first : (named : Named) (indices : Expressions) (sizes : List ℕ) (token : ℕ) → Some token ≡ miscounted named.at indices sizes
    → IsFirstOf (λ f. AreWrongIndices named indices sizes f) (Some (fault_at token WrongIndices))
wrong_first named indices sizes token is =
    same_first (λ f. f ≡ fault_at token WrongIndices) (λ f. AreWrongIndices named indices sizes f) (Some (fault_at token WrongIndices))
    (λ f e. (token, sym is, e))
    (λ f h. let e = h.1 in let t : h.0 ≡ token = cc in h.2 ∙ ap (λ n. fault_at n WrongIndices) t)
    (one_first (fault_at token WrongIndices))

pub right_first : (named : Named) (indices : Expressions) (sizes : List ℕ) → None ≡ miscounted named.at indices sizes
    → IsFirstOf (λ f. AreWrongIndices named indices sizes f) None
right_first named indices sizes is = λ f h. let e = h.1 in absurd (cc)

-- a number of arguments, wrong and right
pub wrong_call_first : (arguments : Expressions) (close wanted token : ℕ) → Some token ≡ miscalled close arguments wanted
    → IsFirstOf (λ f. AreWrongArguments arguments close wanted f) (Some (fault_at token WrongArguments))
wrong_call_first arguments close wanted token is =
    same_first (λ f. f ≡ fault_at token WrongArguments) (λ f. AreWrongArguments arguments close wanted f) (Some (fault_at token WrongArguments))
    (λ f e. (token, sym is, e))
    (λ f h. let e = h.1 in let t : h.0 ≡ token = cc in h.2 ∙ ap (λ n. fault_at n WrongArguments) t)
    (one_first (fault_at token WrongArguments))

pub right_call_first : (arguments : Expressions) (close wanted : ℕ) → None ≡ miscalled close arguments wanted
    → IsFirstOf (λ f. AreWrongArguments arguments close wanted f) None
right_call_first arguments close wanted is = λ f h. let e = h.1 in absurd (cc)

pub indexed_not : (xs : List code_expression.Expression) (named : Named) → length xs ≡ 0
    → IsFirstOf (λ f. AreSome (expressions_of xs) × IsWrongUse named f) None
indexed_not [] named e = λ f h. h.0
indexed_not (x ∷ xs) named e = absurd (omega arith)

pub indexed_so : (xs : List code_expression.Expression) (named : Named) (x : Fault) → 1 ≤ length xs → x ≡ fault_at named.at WrongUse
    → IsFirstOf (λ f. AreSome (expressions_of xs) × IsWrongUse named f) (Some x)
indexed_so [] named x some e = absurd (omega arith)
indexed_so (y ∷ ys) named x some e =
    subst (λ z. IsFirstOf (λ f. AreSome (expressions_of (y ∷ ys)) × IsWrongUse named f) (Some z)) (sym e)
    (when_so (AreSome (expressions_of (y ∷ ys))) (fault_at named.at WrongUse) tt)

-- the faults of a name, by what it means
pub element_as : (k : Bool) (named : Named) (indices : Expressions) (s t : Sense) (found : Option Fault) → s ≡ t
    → IsFirstOf (λ f. IsInElement k t named indices f) found → IsFirstOf (λ f. IsInElement k s named indices f) found
element_as k named indices s t found e h = subst (λ u. IsFirstOf (λ f. IsInElement k u named indices f) found) (sym e) h

pub call_as : (scope : Scope) (named : Named) (arguments : Expressions) (close : ℕ) (s t : Sense) (found : Option Fault) → s ≡ t
    → IsFirstOf (λ f. IsInCall scope s named arguments close f) found → IsFirstOf (λ f. IsInCall scope t named arguments close f) found
call_as scope named arguments close s t found e h = subst (λ u. IsFirstOf (λ f. IsInCall scope u named arguments close f) found) e h

-- of what something else is known, no value is known
pub no_value : (scope : Scope) (e : Expression) (w : Constancy) → ((v : ℕ) → w ≡ Value v → ⊥) → IsConstancy scope.declared scope.known e w → IsValueOf scope e None
no_value scope e w other is = λ v h. other v (one_constancy is h)

-- the value that was found, and none
pub value_some : (scope : Scope) (e : Expression) (found : Option ℕ) (value : ℕ) → found ≡ Some value → IsValueOf scope e found
    → IsConstancy scope.declared scope.known e (Value value)
value_some scope e found value is h = subst (λ o. IsValueOf scope e o) is h

pub value_none : (scope : Scope) (e : Expression) (found : Option ℕ) → found ≡ None → IsValueOf scope e found → IsValueOf scope e None
value_none scope e found is h = subst (λ o. IsValueOf scope e o) is h
