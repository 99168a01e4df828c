-- In an expression without a fault names are used as what they are, also where more is declared behind.
use Rattle.std.proofs.Common.{◌≡◌, ◌<◌, ℕ, Bool, true, false, List, [], ◌++◌, length, append-nil, refl, sym, subst, inl, inr, arith}
use Rattle.std.specs.Prelude.{Option, Some, None, slice_get, drop}
use Rattle.lrc_named_tree.specs.Tree.{Named, Expression, Expressions, number, me, nodes, element, call, group, negation, binary, both, either, none, more}
use Rattle.lrc_named_names.specs.Names.{Declared, Meaning, constant, shared, lock, function, meaning_of, place_of}
use Rattle.lrc_named_constants.specs.Constant.{names_of}
use Rattle.lrc_named_constants.specs.Well.{AreWell, HasValue, IsWell, Takes, ValueUnless, count, is_among}
use Rattle.lrc_named_expression_faults.specs.declared.fault.FaultKind.TheVariants.{UnknownName, WrongArguments, WrongUse}
use Rattle.lrc_named_expression_faults.specs.declared.fault.Fault.{Fault}
use Rattle.lrc_named_expression_faults.specs.Expressions.{IsInCall, IsInElement, IsInExpression, IsInIndex, IsInIndices}
use Rattle.lrc_named_expression_faults.specs.Fault.{IsNone, fault_at}
use Rattle.lrc_named_expression_faults.specs.Scope.{Scope, private_name, sense_by, sense_of, shared_sizes}
use Rattle.lrc_named_expression_faults.proofs.Counting.{count_is_wanted}
use Rattle.lrc_named_expression_faults.proofs.Places.{kept}

-- a name without arguments
value_by : (a : Bool) (m : Option Meaning) (s k : Bool) (named : Named) (indices : Expressions) (whole : Option Meaning)
    → IsNone (λ f. IsInElement k (sense_by a m s) named indices f) → ((x : Meaning) → m ≡ Some x → whole ≡ Some x)
    → (sense_by a m s ≡ private_name → HasValue whole) → ValueUnless a whole
value_by true m s k named indices whole clean same closed = tt
value_by false (Some (constant v)) s k named indices whole clean same closed = subst HasValue (sym (same (constant v) refl)) tt
value_by false (Some (shared item)) s k named indices whole clean same closed = subst HasValue (sym (same (shared item) refl)) tt
value_by false (Some (lock item)) s k named indices whole clean same closed = absurd (clean (fault_at named.at WrongUse) refl)
value_by false (Some (function own body)) s k named indices whole clean same closed = absurd (clean (fault_at named.at WrongUse) refl)
value_by false None true k named indices whole clean same closed = closed refl
value_by false None false k named indices whole clean same closed = absurd (clean (fault_at named.at UnknownName) refl)

-- a name with arguments
takes_by : (scope : Scope) (a : Bool) (m : Option Meaning) (s : Bool) (named : Named) (arguments : Expressions) (close : ℕ) (whole : Option Meaning)
    → IsNone (λ f. IsInCall scope (sense_by a m s) named arguments close f) → ((x : Meaning) → m ≡ Some x → whole ≡ Some x)
    → ((x : Meaning) × (m ≡ Some x)) × Takes whole (count arguments)
takes_by scope true m s named arguments close whole clean same = absurd (clean (fault_at named.at WrongUse) refl)
takes_by scope false (Some (constant v)) s named arguments close whole clean same = absurd (clean (fault_at named.at WrongUse) refl)
takes_by scope false (Some (shared item)) s named arguments close whole clean same = absurd (clean (fault_at named.at WrongUse) refl)
takes_by scope false (Some (lock item)) s named arguments close whole clean same = absurd (clean (fault_at named.at WrongUse) refl)
takes_by scope false (Some (function own body)) s named arguments close whole clean same = (
  (function own body, refl),
  subst (λ w. Takes w (count arguments)) (sym (same (function own body) refl))
      (count_is_wanted arguments close (length own) (λ token is. clean (fault_at token WrongArguments) (inr (token, is, refl)))),
)
takes_by scope false None true named arguments close whole clean same = absurd (clean (fault_at named.at WrongUse) refl)
takes_by scope false None false named arguments close whole clean same = absurd (clean (fault_at named.at UnknownName) refl)

-- what is private here has a value in the whole, too
abbrev pub IsClosed : Scope → List Declared → Type 0
IsClosed scope others = (name : List ℕ) → sense_of scope name ≡ private_name → HasValue (meaning_of (scope.declared ++ others) name)

inside_index : (IsInside : Fault → Type 0) (scope : Scope) (e : Expression) (size : Option ℕ) → IsNone (λ f. IsInIndex IsInside scope e size f) → IsNone IsInside
inside_index IsInside scope e None clean = clean
inside_index IsInside scope e (Some size) clean = λ f h. clean f (inl h)

mutual
  pub clean_is_well : (scope : Scope) (others : List Declared) (e : Expression) → IsClosed scope others → IsNone (λ f. IsInExpression scope e f)
      → IsWell (scope.declared ++ others) (names_of scope.known) (length scope.declared) e
  clean_is_well scope others (number at n) closed clean = tt
  clean_is_well scope others (me at) closed clean = tt
  clean_is_well scope others (nodes at) closed clean = tt
  clean_is_well scope others (element named indices last) closed clean = (
    value_by (is_among (names_of scope.known) named.bytes) (meaning_of scope.declared named.bytes) (is_among scope.assigned named.bytes) scope.constant named indices
        (meaning_of (scope.declared ++ others) named.bytes) (λ f h. clean f (inl h))
        (λ x is. (kept scope.declared others named.bytes x is).means) (closed named.bytes),
    clean_are_well scope others indices (shared_sizes (sense_of scope named.bytes)) closed (λ f h. clean f (inr h)),
  )
  clean_is_well scope others (call named arguments close) closed clean =
      let h = takes_by scope (is_among (names_of scope.known) named.bytes) (meaning_of scope.declared named.bytes) (is_among scope.assigned named.bytes) named arguments close
      (meaning_of (scope.declared ++ others) named.bytes) (λ f h. clean f (inl h)) (λ x is. (kept scope.declared others named.bytes x is).means) in
      let k = kept scope.declared others named.bytes h.0.0 h.0.1 in
      let place = k.place in
      let within = k.within in
      let before : place_of (scope.declared ++ others) named.bytes < length scope.declared = omega (arith, place, within) in
      (before, h.1, clean_are_well scope others arguments [] closed (λ f h. clean f (inr h)))
  clean_is_well scope others (group opens e close) closed clean = clean_is_well scope others e closed clean
  clean_is_well scope others (negation at e) closed clean = clean_is_well scope others e closed clean
  clean_is_well scope others (binary left o right) closed clean =
      (clean_is_well scope others left closed (λ f h. clean f (inl h)), clean_is_well scope others right closed (λ f h. clean f (inr h)))
  clean_is_well scope others (both left right) closed clean =
      (clean_is_well scope others left closed (λ f h. clean f (inl h)), clean_is_well scope others right closed (λ f h. clean f (inr h)))
  clean_is_well scope others (either left right) closed clean =
      (clean_is_well scope others left closed (λ f h. clean f (inl h)), clean_is_well scope others right closed (λ f h. clean f (inr h)))

  clean_are_well : (scope : Scope) (others : List Declared) (es : Expressions) (sizes : List ℕ) → IsClosed scope others → IsNone (λ f. IsInIndices scope es sizes f)
      → AreWell (scope.declared ++ others) (names_of scope.known) (length scope.declared) es
  clean_are_well scope others none sizes closed clean = tt
  clean_are_well scope others (more e rest) sizes closed clean = (
    clean_is_well scope others e closed (inside_index (λ g. IsInExpression scope e g) scope e (slice_get sizes 0) (λ f h. clean f (inl h))),
    clean_are_well scope others rest (drop 1 sizes) closed (λ f h. clean f (inr h)),
  )

-- with nothing behind
private_has_value : (a : Bool) (m : Option Meaning) (s : Bool) → sense_by a m s ≡ private_name → HasValue m
private_has_value true m s e = absurd (cc)
private_has_value false None s e = tt
private_has_value false (Some x) s e = absurd (cc)

pub clean_is_well_here : (scope : Scope) (e : Expression) → IsNone (λ f. IsInExpression scope e f)
    → IsWell scope.declared (names_of scope.known) (length scope.declared) e
clean_is_well_here scope e clean =
    let same : scope.declared ++ [] ≡ scope.declared = append-nil scope.declared in
    subst (λ l. IsWell l (names_of scope.known) (length scope.declared) e) same
    (clean_is_well scope [] e
    (λ name is. subst (λ l. HasValue (meaning_of l name)) (sym same)
    (private_has_value (is_among (names_of scope.known) name) (meaning_of scope.declared name) (is_among scope.assigned name) is)) clean)
