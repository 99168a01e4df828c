-- The first fault of what has faults inside, and one of its own where it has none inside.
use Rattle.std.proofs.Common.{true, false, ◌||◌, Bool, ◌≡◌, ◌≤◌, ◌+◌, ◌⊎◌, inl, inr, ℕ, suc, List, [], ◌∷◌, ◌++◌, map, length, take, drop, get_or, refl, sym, ap, subst, ◌∙◌, arith}
use Rattle.std.specs.Prelude.{Option, Some, None, is_some, option_map, unwrap_or, if◌then◌else◌}
use Rattle.std.proofs.Math.Seq.{drop-cons, drop-length}
use Rattle.lrc_named_tree.specs.declared.tree.Name as code_name
use Rattle.lrc_named_tree.specs.Tree.{Expression}
use Rattle.lrc_named_tree.specs.View.{named_of}
use Rattle.lrc_named_names.specs.Names.{Declared, meaning_of}
use Rattle.lrc_named_constants.specs.declared.constancy.Constancy.TheVariants.{Value}
use Rattle.lrc_named_constants.specs.Constant.{IsConstancy}
use Rattle.lrc_named_constants.specs.Well.{bytes_of, is_among}
use Rattle.lrc_named_constants.proofs.Unique.{one_constancy, value_alike}
use Rattle.lrc_named_expression_faults.specs.declared.fault.Fault.{Fault}
use Rattle.lrc_named_expression_faults.specs.declared.fault.FaultKind.TheVariants.{DeclaredTwice}
use Rattle.lrc_named_expression_faults.specs.Fault.{IsFirstOf, IsNone, earlier, fault_at, precedes}
use Rattle.lrc_named_expression_faults.specs.Scope.{Scope}
use Rattle.lrc_named_expression_faults.proofs.First.{joined, nothing_first, same_first, when_so}
use Rattle.lrc_named_statement_faults.specs.Statements.{IsReserved}
use Rattle.lrc_named_statement_faults.proofs.Different.{taken_bytes}
use Rattle.lrc_named_faults.specs.Declarations.{IsInName, IsInParameters}

pub inside_first : (IsInside : Fault → Type 0) (P : Type 0) (own fault : Fault) → (P → IsNone IsInside) → IsFirstOf IsInside (Some fault)
    → IsFirstOf (λ f. IsInside f ⊎ (P × (f ≡ own))) (Some fault)
inside_first IsInside P own fault clean h =
    same_first IsInside (λ f. IsInside f ⊎ (P × (f ≡ own))) (Some fault) (λ f a. inl a)
    (λ f a. elim a [ inl i ↦ i | inr b ↦ absurd (clean b.0 fault h.0) ]) h

pub own_first : (IsInside : Fault → Type 0) (P : Type 0) (found own : Fault) → IsNone IsInside → P → found ≡ own
    → IsFirstOf (λ f. IsInside f ⊎ (P × (f ≡ own))) (Some found)
own_first IsInside P found own clean p is =
    subst (λ x. IsFirstOf (λ f. IsInside f ⊎ (P × (f ≡ own))) (Some x)) (sym is)
    (same_first (λ f. P × (f ≡ own)) (λ f. IsInside f ⊎ (P × (f ≡ own))) (Some own) (λ f b. inr b)
    (λ f a. elim a [ inl i ↦ absurd (clean f i) | inr b ↦ b ]) (when_so P own p))

-- a value that is no size
pub no_other_size : (scope : Scope) (e : Expression) (value : ℕ) → IsConstancy scope.declared scope.known e (Value value)
    → (1 ≤ value → value ≤ 65536 → ⊥) → (v : ℕ) → IsConstancy scope.declared scope.known e (Value v) → 1 ≤ v → v ≤ 65536 → ⊥
no_other_size scope e value is wrong v h low high =
    let same : v ≡ value = value_alike (one_constancy h is) in wrong (omega (arith, same)) (omega (arith, same))

pub is_some-option_map : {A B : Type 0} (f : A → B) (o : Option A) → is_some (option_map f o) ≡ is_some o
is_some-option_map f None = refl
is_some-option_map f (Some x) = refl

-- the parameters from one on
pub no_parameter_left : (table : List Declared) (before : List (List ℕ)) (ps : List code_name.Name)
    → IsFirstOf (λ f. IsInParameters table before (map named_of (drop (length ps) ps)) f) None
no_parameter_left table before ps =
    subst (λ l. IsFirstOf (λ f. IsInParameters table before (map named_of l) f) None) (sym (drop-length ps)) nothing_first

pub parameters_step : (table : List Declared) (function : List ℕ) (ps front : List code_name.Name) (i k : ℕ) (d : code_name.Name) (stood : Bool) (one first found : Option Fault)
    → suc k ≡ i → suc k ≤ length ps → front ≡ take k ps → found ≡ earlier one first
    → stood ≡ is_among (function ∷ bytes_of (map named_of front)) (named_of (get_or ps k d)).bytes
    → IsFirstOf (λ f. (((stood || is_some (meaning_of table (named_of (get_or ps k d)).bytes)) ≡ true) × (f ≡ fault_at (named_of (get_or ps k d)).at DeclaredTwice))
    ⊎ IsReserved (named_of (get_or ps k d)) f) one
    → IsFirstOf (λ f. IsInParameters table (function ∷ bytes_of (map named_of (take i ps))) (map named_of (drop i ps)) f) first
    → IsFirstOf (λ f. IsInParameters table (function ∷ bytes_of (map named_of (take k ps))) (map named_of (drop k ps)) f) found
parameters_step table function ps front i k d stood one first found next lt cut is stands a b =
    let before = function ∷ bytes_of (map named_of (take k ps)) in
    let p = named_of (get_or ps k d) in
    let row : drop k ps ≡ get_or ps k d ∷ drop i ps = drop-cons ps k d (omega arith) ∙ ap (λ n. get_or ps k d ∷ drop n ps) next in
    let up : k + 1 ≡ i = omega (arith, next) in
    let more : function ∷ bytes_of (map named_of (take i ps)) ≡ before ++ p.bytes ∷ [] =
    ap (λ n. function ∷ bytes_of (map named_of (take n ps))) (sym up) ∙ ap (λ l. function ∷ l) (taken_bytes ps k d (omega arith)) in
    let said = stands ∙ ap (λ l. is_among (function ∷ bytes_of (map named_of l)) p.bytes) cut in
    let here = subst (λ s. IsFirstOf (λ f. (((s || is_some (meaning_of table p.bytes)) ≡ true) × (f ≡ fault_at p.at DeclaredTwice)) ⊎ IsReserved p f) one) said a in
    let later = subst (λ l. IsFirstOf (λ f. IsInParameters table l (map named_of (drop i ps)) f) first) more b in
    subst (λ l. IsFirstOf (λ f. IsInParameters table before (map named_of l) f) found) (sym row)
    (joined (λ f. IsInName table before p f) (λ f. IsInParameters table (before ++ p.bytes ∷ []) (map named_of (drop i ps)) f) one first found is here later)

-- what is told where one fault was found
by_choice : (b : Bool) (one other : Fault) → Some (unwrap_or (if b then Some other else Some one) other) ≡ (if b then Some other else Some one)
by_choice true one other = refl
by_choice false one other = refl

pub told_is : (own : Option Fault) (fault : Fault) → Some (unwrap_or (earlier own (Some fault)) fault) ≡ earlier own (Some fault)
told_is None fault = refl
told_is (Some one) fault = by_choice (precedes fault one) one fault
