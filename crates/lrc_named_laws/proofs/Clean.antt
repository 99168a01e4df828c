-- In an expression without a fault each name is a parameter, or declared, or set somewhere.
use Rattle.std.proofs.Common.{◌≡◌, ℕ, Bool, true, false, List, [], ◌∷◌, ◌++◌, append-nil, refl, ap, sym, subst, ◌∙◌, inl, inr}
use Rattle.std.specs.Prelude.{Option, Some, None, slice_get, drop, take}
use Rattle.std.proofs.lemmas.List.{take-append-drop}
use Rattle.lrc_named_tree.specs.Tree.{Named, Expression, Expressions, number, me, nodes, element, call, group, negation, binary, both, either, none, more}
use Rattle.lrc_named_names.specs.Names.{Declared, Meaning, constant, shared, lock, function, meaning_at, meaning_of}
use Rattle.lrc_named_constants.specs.Constant.{names_of}
use Rattle.lrc_named_constants.specs.Well.{Takes, bytes_of, count, is_among}
use Rattle.lrc_named_expression_faults.specs.declared.fault.Fault.{Fault}
use Rattle.lrc_named_expression_faults.specs.declared.fault.FaultKind.TheVariants.{UnknownName, WrongArguments, WrongUse}
use Rattle.lrc_named_expression_faults.specs.Expressions.{IsInCall, IsInElement, IsInExpression, IsInIndex, IsInIndices}
use Rattle.lrc_named_expression_faults.specs.Fault.{IsNone, fault_at}
use Rattle.lrc_named_expression_faults.specs.Scope.{Scope, sense_by, sense_of, shared_sizes}
use Rattle.lrc_named_expression_faults.proofs.Counting.{count_is_wanted}
use Rattle.lrc_named_expression_faults.proofs.Places.{kept}
use Rattle.lrc_named_faults.specs.Bodies.{AreBodiesClean}
use Rattle.lrc_named_faults.specs.Declarations.{body_scope, varying}

-- a name that is no parameter and not declared is one of these names; and a call has as many arguments as its function has parameters
abbrev mutual
  pub IsKnown : List Declared → (names parameters : List (List ℕ)) → Expression → Type 0
  IsKnown declared names parameters (number at n) = Unit {0}
  IsKnown declared names parameters (me at) = Unit {0}
  IsKnown declared names parameters (nodes at) = Unit {0}
  IsKnown declared names parameters (element name indices last) =
      (is_among parameters name.bytes ≡ false → meaning_of declared name.bytes ≡ None → is_among names name.bytes ≡ true)
      × AreKnown declared names parameters indices
  IsKnown declared names parameters (call name arguments close) =
      Takes (meaning_of declared name.bytes) (count arguments) × AreKnown declared names parameters arguments
  IsKnown declared names parameters (group opens e close) = IsKnown declared names parameters e
  IsKnown declared names parameters (negation at e) = IsKnown declared names parameters e
  IsKnown declared names parameters (binary left o right) = IsKnown declared names parameters left × IsKnown declared names parameters right
  IsKnown declared names parameters (both left right) = IsKnown declared names parameters left × IsKnown declared names parameters right
  IsKnown declared names parameters (either left right) = IsKnown declared names parameters left × IsKnown declared names parameters right

  pub AreKnown : List Declared → (names parameters : List (List ℕ)) → Expressions → Type 0
  AreKnown declared names parameters none = Unit {0}
  AreKnown declared names parameters (more e others) = IsKnown declared names parameters e × AreKnown declared names parameters others

-- a name without arguments
known_by : (a : Bool) (m : Option Meaning) (s k : Bool) (name : Named) (indices : Expressions) (whole : Option Meaning)
    → IsNone (λ f. IsInElement k (sense_by a m s) name indices f) → ((x : Meaning) → m ≡ Some x → whole ≡ Some x)
    → a ≡ false → whole ≡ None → s ≡ true
known_by true m s k name indices whole clean same off nothing = absurd (cc)
known_by false (Some x) s k name indices whole clean same off nothing = let h = same x refl in absurd (cc)
known_by false None true k name indices whole clean same off nothing = refl
known_by false None false k name indices whole clean same off nothing = absurd (clean (fault_at name.at UnknownName) refl)

-- a name with arguments
takes_by : (scope : Scope) (a : Bool) (m : Option Meaning) (s : Bool) (name : Named) (arguments : Expressions) (close : ℕ) (whole : Option Meaning)
    → IsNone (λ f. IsInCall scope (sense_by a m s) name arguments close f) → ((x : Meaning) → m ≡ Some x → whole ≡ Some x)
    → Takes whole (count arguments)
takes_by scope true m s name arguments close whole clean same = absurd (clean (fault_at name.at WrongUse) refl)
takes_by scope false (Some (constant v)) s name arguments close whole clean same = absurd (clean (fault_at name.at WrongUse) refl)
takes_by scope false (Some (shared item)) s name arguments close whole clean same = absurd (clean (fault_at name.at WrongUse) refl)
takes_by scope false (Some (lock item)) s name arguments close whole clean same = absurd (clean (fault_at name.at WrongUse) refl)
takes_by scope false (Some (function own body)) s name arguments close whole clean same =
    subst (λ w. Takes w (count arguments)) (sym (same (function own body) refl))
    (count_is_wanted arguments close _ (λ token is. clean (fault_at token WrongArguments) (inr (token, is, refl))))
takes_by scope false None true name arguments close whole clean same = absurd (clean (fault_at name.at WrongUse) refl)
takes_by scope false None false name arguments close whole clean same = absurd (clean (fault_at name.at UnknownName) refl)

inside_index : (IsInside : Fault → Type 0) (scope : Scope) (e : Expression) (size : Option ℕ) → IsNone (λ f. IsInIndex IsInside scope e size f) → IsNone IsInside
inside_index IsInside scope e None clean = clean
inside_index IsInside scope e (Some size) clean = λ f h. clean f (inl h)

-- the names that are set here are among these, and more may be declared behind
module _ (scope : Scope) (others : List Declared) (names : List (List ℕ)) (there : (n : List ℕ) → is_among scope.assigned n ≡ true → is_among names n ≡ true) where
  mutual
    known_there : (e : Expression) → IsNone (λ f. IsInExpression scope e f) → IsKnown (scope.declared ++ others) names (names_of scope.known) e
    known_there (number at n) clean = tt
    known_there (me at) clean = tt
    known_there (nodes at) clean = tt
    known_there (element name indices last) clean = (
      λ off nothing.
          there name.bytes
          (known_by (is_among (names_of scope.known) name.bytes) (meaning_of scope.declared name.bytes) (is_among scope.assigned name.bytes) scope.constant name indices
          (meaning_of (scope.declared ++ others) name.bytes) (λ f h. clean f (inl h)) (λ x is. (kept scope.declared others name.bytes x is).means) off nothing),
      all_known_there indices (shared_sizes (sense_of scope name.bytes)) (λ f h. clean f (inr h)),
    )
    known_there (call name arguments close) clean = (
      takes_by scope (is_among (names_of scope.known) name.bytes) (meaning_of scope.declared name.bytes) (is_among scope.assigned name.bytes) name arguments close
          (meaning_of (scope.declared ++ others) name.bytes) (λ f h. clean f (inl h)) (λ x is. (kept scope.declared others name.bytes x is).means),
      all_known_there arguments [] (λ f h. clean f (inr h)),
    )
    known_there (group opens e close) clean = known_there e clean
    known_there (negation at e) clean = known_there e clean
    known_there (binary left o right) clean = (known_there left (λ f h. clean f (inl h)), known_there right (λ f h. clean f (inr h)))
    known_there (both left right) clean = (known_there left (λ f h. clean f (inl h)), known_there right (λ f h. clean f (inr h)))
    known_there (either left right) clean = (known_there left (λ f h. clean f (inl h)), known_there right (λ f h. clean f (inr h)))

    all_known_there : (es : Expressions) (sizes : List ℕ) → IsNone (λ f. IsInIndices scope es sizes f)
        → AreKnown (scope.declared ++ others) names (names_of scope.known) es
    all_known_there none sizes clean = tt
    all_known_there (more e rest) sizes clean = (
      known_there e (inside_index (λ g. IsInExpression scope e g) scope e (slice_get sizes 0) (λ f h. clean f (inl h))),
      all_known_there rest (drop 1 sizes) (λ f h. clean f (inr h)),
    )

-- with nothing behind
pub known_here : (scope : Scope) (e : Expression) → IsNone (λ f. IsInExpression scope e f) → IsKnown scope.declared scope.assigned (names_of scope.known) e
known_here scope e clean =
    subst (λ l. IsKnown l scope.assigned (names_of scope.known) e) (append-nil scope.declared)
    (known_there scope [] scope.assigned (λ n h. h) e clean)

pub all_known_here : (scope : Scope) (es : Expressions) (sizes : List ℕ) → IsNone (λ f. IsInIndices scope es sizes f)
    → AreKnown scope.declared scope.assigned (names_of scope.known) es
all_known_here scope es sizes clean =
    subst (λ l. AreKnown l scope.assigned (names_of scope.known) es) (append-nil scope.declared)
    (all_known_there scope [] scope.assigned (λ n h. h) es sizes clean)

names_of-varying : (own : List Named) → names_of (varying own) ≡ bytes_of own
names_of-varying [] = refl
names_of-varying (p ∷ own) = ap (λ l. p.bytes ∷ l) (names_of-varying own)

-- in the body of a function nothing is set
pub body_known : (declared : List Declared) (names : List (List ℕ)) (place : ℕ) (own : List Named) (body : Expression) → AreBodiesClean declared
    → meaning_at declared place ≡ Some (function own body) → IsKnown declared names (bytes_of own) body
body_known declared names place own body clean is =
    subst (λ l. IsKnown l names (bytes_of own) body) (take-append-drop place declared)
    (subst (λ l. IsKnown (take place declared ++ drop place declared) names l body) (names_of-varying own)
    (known_there (body_scope (take place declared) own) (drop place declared) names (λ n h. absurd (cc)) body (clean place own body is)))
