-- A fault of an index that is out of range: the index is one of those that begin at its token.
use Rattle.std.proofs.Common.{◌≡◌, ◌≤◌, ◌+◌, ◌⊎◌, ◌==◌, ℕ, zero, suc, Bool, true, List, [], ◌∷◌, ◌++◌, drop, if◌then◌else◌, refl, sym, ap, subst, ◌∙◌, arith, inl, inr}
use Rattle.std.specs.Prelude.{Option, Some, None, slice_get}
use Rattle.std.proofs.lemmas.Bool.Decides.{nat_tests}
use Rattle.lrc_named_tree.specs.Tree.{Named, Expression, Expressions, number, me, nodes, element, call, group, negation, binary, both, either, none, more, Block}
use Rattle.lrc_named_tree.specs.Ends.{first_of}
use Rattle.lrc_named_names.specs.Names.{Declared, constant, shared, lock, function}
use Rattle.lrc_named_expression_faults.specs.declared.fault.Fault.{Fault}
use Rattle.lrc_named_expression_faults.specs.declared.fault.FaultKind.{FaultKind}
use Rattle.lrc_named_expression_faults.specs.declared.fault.FaultKind.TheVariants.{IndexOutOfRange}
use Rattle.lrc_named_expression_faults.specs.Expressions.{IsBeyond, IsInCall, IsInElement, IsInExpression, IsInIndex, IsInIndices}
use Rattle.lrc_named_expression_faults.specs.Fault.{fault_at}
use Rattle.lrc_named_expression_faults.specs.Scope.{Scope, Sense, parameter, declared, private_name, unknown, lock_sizes, sense_of, shared_sizes}
use Rattle.lrc_named_statement_faults.specs.Parts.{Part, target, lock_place, counter, value, parts_of_block}
use Rattle.lrc_named_statement_faults.specs.Statements.{IsInCounter, IsInLock, IsInPart, IsInParts, IsInStatements, IsInTarget, IsReservedTarget, statement_scope}
use Rattle.lrc_named_index_hint.specs.Out.{IsOutAmong}
use Rattle.lrc_named_index_hint.specs.Over.{IsOneOver, sizes_of}
use Rattle.lrc_named_index_hint.specs.Spots.{Spot, spot_at, spots_among, spots_in, spots_in_all, spots_in_part, spots_in_parts}

-- such a fault is no other
pub of_kind : {f : Fault} {at : ℕ} {kind : FaultKind} → f.kind ≡ IndexOutOfRange → f ≡ fault_at at kind → IndexOutOfRange ≡ kind
of_kind k e = sym k ∙ ap (λ (g : Fault). g.kind) e

-- one of these is over its size
abbrev pub Some_over : Scope → List Spot → Type 0
Some_over scope spots = (v : ℕ) × (s : ℕ) × IsOneOver scope spots v s

one_front : (scope : Scope) (xs ys : List Spot) (v s : ℕ) → IsOneOver scope xs v s → IsOneOver scope (xs ++ ys) v s
one_front scope [] ys v s h = absurd h
one_front scope (x ∷ xs) ys v s h = elim h [ inl here ↦ inl here | inr later ↦ inr (one_front scope xs ys v s later) ]

one_back : (scope : Scope) (xs ys : List Spot) (v s : ℕ) → IsOneOver scope ys v s → IsOneOver scope (xs ++ ys) v s
one_back scope [] ys v s h = h
one_back scope (x ∷ xs) ys v s h = inr (one_back scope xs ys v s h)

front : (scope : Scope) (xs ys : List Spot) → Some_over scope xs → Some_over scope (xs ++ ys)
front scope xs ys h = (h.0, h.1, one_front scope xs ys h.0 h.1 h.2)

back : (scope : Scope) (xs ys : List Spot) → Some_over scope ys → Some_over scope (xs ++ ys)
back scope xs ys h = (h.0, h.1, one_back scope xs ys h.0 h.1 h.2)

-- faults of names are others
pub element_other : (k : Bool) (sense : Sense) (named : Named) (indices : Expressions) (f : Fault) → f.kind ≡ IndexOutOfRange
    → IsInElement k sense named indices f → ⊥
element_other k unknown named indices f is h = let e = of_kind is h in absurd (cc)
element_other k parameter named indices f is h = let e = of_kind is h.1 in absurd (cc)
element_other k private_name named indices f is h = let e = of_kind is h.1 in absurd (cc)
element_other k (declared (constant v)) named indices f is h = let e = of_kind is h.1 in absurd (cc)
element_other k (declared (lock item)) named indices f is h = let e = of_kind is h in absurd (cc)
element_other k (declared (function own body)) named indices f is h = let e = of_kind is h in absurd (cc)
element_other k (declared (shared item)) named indices f is h =
    elim h [ inl a ↦ (let e = of_kind is a.1 in absurd (cc)) | inr b ↦ (let e = of_kind is b.2 in absurd (cc)) ]

pub call_other : (scope : Scope) (sense : Sense) (named : Named) (arguments : Expressions) (close : ℕ) (f : Fault) → f.kind ≡ IndexOutOfRange
    → IsInCall scope sense named arguments close f → ⊥
call_other scope unknown named arguments close f is h = let e = of_kind is h in absurd (cc)
call_other scope parameter named arguments close f is h = let e = of_kind is h in absurd (cc)
call_other scope private_name named arguments close f is h = let e = of_kind is h in absurd (cc)
call_other scope (declared (constant v)) named arguments close f is h = let e = of_kind is h in absurd (cc)
call_other scope (declared (shared item)) named arguments close f is h = let e = of_kind is h in absurd (cc)
call_other scope (declared (lock item)) named arguments close f is h = let e = of_kind is h in absurd (cc)
call_other scope (declared (function own body)) named arguments close f is h =
    elim h [ inl a ↦ (let e = of_kind is a.1 in absurd (cc)) | inr b ↦ (let e = of_kind is b.2 in absurd (cc)) ]

target_other : (sense : Sense) (named : Named) (indices : Expressions) (f : Fault) → f.kind ≡ IndexOutOfRange → IsInTarget sense named indices f → ⊥
target_other unknown named indices f is h = let e = of_kind is h in absurd (cc)
target_other parameter named indices f is h = let e = of_kind is h in absurd (cc)
target_other private_name named indices f is h = let e = of_kind is h.1 in absurd (cc)
target_other (declared (constant v)) named indices f is h = let e = of_kind is h in absurd (cc)
target_other (declared (shared item)) named indices f is h = let e = of_kind is h.2 in absurd (cc)
target_other (declared (lock item)) named indices f is h = let e = of_kind is h in absurd (cc)
target_other (declared (function own body)) named indices f is h = let e = of_kind is h in absurd (cc)

lock_other : (sense : Sense) (named : Named) (indices : Expressions) (f : Fault) → f.kind ≡ IndexOutOfRange → IsInLock sense named indices f → ⊥
lock_other unknown named indices f is h = let e = of_kind is h in absurd (cc)
lock_other parameter named indices f is h = let e = of_kind is h in absurd (cc)
lock_other private_name named indices f is h = let e = of_kind is h in absurd (cc)
lock_other (declared (constant v)) named indices f is h = let e = of_kind is h in absurd (cc)
lock_other (declared (shared item)) named indices f is h = let e = of_kind is h in absurd (cc)
lock_other (declared (lock item)) named indices f is h = let e = of_kind is h.2 in absurd (cc)
lock_other (declared (function own body)) named indices f is h = let e = of_kind is h in absurd (cc)

counter_other : (sense : Sense) (named : Named) (f : Fault) → f.kind ≡ IndexOutOfRange → IsInCounter sense named f → ⊥
counter_other unknown named f is h = let e = of_kind is h in absurd (cc)
counter_other parameter named f is h = let e = of_kind is h in absurd (cc)
counter_other private_name named f is h = h
counter_other (declared meaning) named f is h = let e = of_kind is h in absurd (cc)

reserved_other : (indices : Expressions) (named : Named) (f : Fault) → f.kind ≡ IndexOutOfRange → IsReservedTarget indices named f → ⊥
reserved_other none named f is h = let e = of_kind is h.1 in absurd (cc)
reserved_other (more e others) named f is h = h

-- sizes of shared items and of locks are sizes
shared_are : (sense : Sense) (n s : ℕ) → slice_get (shared_sizes sense) n ≡ Some s → slice_get (sizes_of sense) n ≡ Some s
shared_are unknown n s h = h
shared_are parameter n s h = h
shared_are private_name n s h = h
shared_are (declared (constant v)) n s h = h
shared_are (declared (shared item)) n s h = h
shared_are (declared (lock item)) zero s h = absurd (cc)
shared_are (declared (lock item)) (suc n) s h = absurd (cc)
shared_are (declared (function own body)) n s h = h

locks_are : (sense : Sense) (n s : ℕ) → slice_get (lock_sizes sense) n ≡ Some s → slice_get (sizes_of sense) n ≡ Some s
locks_are unknown n s h = h
locks_are parameter n s h = h
locks_are private_name n s h = h
locks_are (declared (constant v)) n s h = h
locks_are (declared (shared item)) zero s h = absurd (cc)
locks_are (declared (shared item)) (suc n) s h = absurd (cc)
locks_are (declared (lock item)) n s h = h
locks_are (declared (function own body)) n s h = h

first_dropped : (sizes : List ℕ) (i : ℕ) → slice_get (drop i sizes) 0 ≡ slice_get sizes i
first_dropped [] zero = refl
first_dropped [] (suc i) = refl
first_dropped (size ∷ sizes) zero = refl
first_dropped (size ∷ sizes) (suc i) = first_dropped sizes i

dropped_next : (sizes : List ℕ) (i : ℕ) → drop 1 (drop i sizes) ≡ drop (suc i) sizes
dropped_next [] zero = refl
dropped_next [] (suc i) = refl
dropped_next (size ∷ sizes) zero = refl
dropped_next (size ∷ sizes) (suc i) = dropped_next sizes i

one_dropped : (sizes : List ℕ) (i : ℕ) → drop 1 (drop i sizes) ≡ drop (i + 1) sizes
one_dropped sizes i = let next : suc i ≡ i + 1 = omega arith in dropped_next sizes i ∙ ap (λ (n : ℕ). drop n sizes) next

-- an index that is beyond its size is over it
chosen : (b : Bool) (spot : Spot) → b ≡ true → (if b then spot ∷ [] else []) ≡ spot ∷ []
chosen b spot e = ap (λ (c : Bool). if c then spot ∷ [] else []) e

same_token : (m n : ℕ) → m ≡ n → (m == n) ≡ true
same_token m n e = grind (arith, nat_tests)

spot_over : (scope : Scope) (at : ℕ) (named : Named) (place size : ℕ) (e : Expression) (f : Fault) → f.at ≡ at
    → slice_get (sizes_of (sense_of scope named.bytes)) place ≡ Some size
    → IsBeyond (λ g. IsInExpression scope e g) scope e size f → Some_over scope (spot_at at (record { name = named; number = place; index = e }))
spot_over scope at named place size e f here sized h =
    let spot : Spot = record { name = named; number = place; index = e } in
    let token : first_of e ≡ at = sym (ap (λ (g : Fault). g.at) h.1) ∙ here in
    let one : spot_at at spot ≡ spot ∷ [] = chosen (first_of e == at) spot (same_token (first_of e) at token) in
    (h.0.1.0, size, subst (λ l. IsOneOver scope l h.0.1.0 size) (sym one) (inl (sized, record { clean = h.0.0; is = h.0.1.1; over = h.0.1.2 })))

-- an index: it is over its size, or one inside it is
index_over : (scope : Scope) (at : ℕ) (named : Named) (place : ℕ) (found : Option ℕ) (e : Expression) (f : Fault) → f.at ≡ at
    → ((s : ℕ) → found ≡ Some s → slice_get (sizes_of (sense_of scope named.bytes)) place ≡ Some s)
    → IsInIndex (λ g. IsInExpression scope e g) scope e found f
    → Some_over scope (spot_at at (record { name = named; number = place; index = e })) ⊎ IsInExpression scope e f
index_over scope at named place None e f here sized h = inr h
index_over scope at named place (Some size) e f here sized h =
    elim h [ inl inside ↦ inr inside | inr beyond ↦ inl (spot_over scope at named place size e f here (sized size refl) beyond) ]

-- among the indices of a name, or inside them
in_both : (scope : Scope) (at : ℕ) (named : Named) (es : Expressions) → Some_over scope (spots_among at named 0 es) ⊎ Some_over scope (spots_in_all at es)
    → Some_over scope (spots_among at named 0 es ++ spots_in_all at es)
in_both scope at named es h =
    elim h [
      | inl over ↦ front scope (spots_among at named 0 es) (spots_in_all at es) over
      | inr inside ↦ back scope (spots_among at named 0 es) (spots_in_all at es) inside
    ]

mutual
  pub in_expression : (scope : Scope) (at : ℕ) (e : Expression) (f : Fault) → f.kind ≡ IndexOutOfRange → f.at ≡ at → IsInExpression scope e f
      → Some_over scope (spots_in at e)
  in_expression scope at (number own n) f is here h = absurd h
  in_expression scope at (me own) f is here h = let e = of_kind is h.1 in absurd (cc)
  in_expression scope at (nodes own) f is here h = let e = of_kind is h.1 in absurd (cc)
  in_expression scope at (element named indices last) f is here h =
      elim h [
        | inl own ↦ absurd (element_other scope.constant (sense_of scope named.bytes) named indices f is own)
        | inr inside ↦ in_both scope at named indices
            (in_indices scope at named (shared_sizes (sense_of scope named.bytes)) 0 indices f is here (shared_are (sense_of scope named.bytes)) inside)
      ]
  in_expression scope at (call named arguments close) f is here h =
      elim h [
        | inl own ↦ absurd (call_other scope (sense_of scope named.bytes) named arguments close f is own)
        | inr inside ↦ in_arguments scope at arguments f is here inside
      ]
  in_expression scope at (group opens e close) f is here h = in_expression scope at e f is here h
  in_expression scope at (negation own e) f is here h = in_expression scope at e f is here h
  in_expression scope at (binary left o right) f is here h =
      elim h [
        | inl l ↦ front scope (spots_in at left) (spots_in at right) (in_expression scope at left f is here l)
        | inr r ↦ back scope (spots_in at left) (spots_in at right) (in_expression scope at right f is here r)
      ]
  in_expression scope at (both left right) f is here h =
      elim h [
        | inl l ↦ front scope (spots_in at left) (spots_in at right) (in_expression scope at left f is here l)
        | inr r ↦ back scope (spots_in at left) (spots_in at right) (in_expression scope at right f is here r)
      ]
  in_expression scope at (either left right) f is here h =
      elim h [
        | inl l ↦ front scope (spots_in at left) (spots_in at right) (in_expression scope at left f is here l)
        | inr r ↦ back scope (spots_in at left) (spots_in at right) (in_expression scope at right f is here r)
      ]

  in_arguments : (scope : Scope) (at : ℕ) (es : Expressions) (f : Fault) → f.kind ≡ IndexOutOfRange → f.at ≡ at → IsInIndices scope es [] f
      → Some_over scope (spots_in_all at es)
  in_arguments scope at none f is here h = absurd h
  in_arguments scope at (more e others) f is here h =
      elim h [
        | inl one ↦ front scope (spots_in at e) (spots_in_all at others) (in_expression scope at e f is here one)
        | inr later ↦ back scope (spots_in at e) (spots_in_all at others) (in_arguments scope at others f is here later)
      ]

  in_indices : (scope : Scope) (at : ℕ) (named : Named) (sizes : List ℕ) (before : ℕ) (es : Expressions) (f : Fault) → f.kind ≡ IndexOutOfRange → f.at ≡ at
      → ((n s : ℕ) → slice_get sizes n ≡ Some s → slice_get (sizes_of (sense_of scope named.bytes)) n ≡ Some s) → IsInIndices scope es (drop before sizes) f
      → Some_over scope (spots_among at named before es) ⊎ Some_over scope (spots_in_all at es)
  in_indices scope at named sizes before none f is here sized h = absurd h
  in_indices scope at named sizes before (more e others) f is here sized h =
      let one = spot_at at (record { name = named; number = before; index = e }) in
      elim h [
        | inl own ↦ elim (index_over scope at named before (slice_get (drop before sizes) 0) e f here
            (λ s x. sized before s (sym (first_dropped sizes before) ∙ x)) own) [
              | inl over ↦ inl (front scope one (spots_among at named (before + 1) others) over)
              | inr inside ↦ inr (front scope (spots_in at e) (spots_in_all at others) (in_expression scope at e f is here inside))
            ]
        | inr later ↦ elim (in_indices scope at named sizes (before + 1) others f is here sized
            (subst (λ l. IsInIndices scope others l f) (one_dropped sizes before) later)) [
              | inl over ↦ inl (back scope one (spots_among at named (before + 1) others) over)
              | inr inside ↦ inr (back scope (spots_in at e) (spots_in_all at others) inside)
            ]
      ]

in_part : (scope : Scope) (at : ℕ) (part : Part) (f : Fault) → f.kind ≡ IndexOutOfRange → f.at ≡ at → IsInPart scope part f
    → Some_over scope (spots_in_part at part)
in_part scope at (target p) f is here h =
    elim h [
      | inl own ↦ elim own [
        | inl reserved ↦ absurd (reserved_other p.indices p.name f is reserved)
        | inr wrong ↦ absurd (target_other (sense_of scope p.name.bytes) p.name p.indices f is wrong)
      ]
      | inr inside ↦ in_both scope at p.name p.indices
          (in_indices scope at p.name (shared_sizes (sense_of scope p.name.bytes)) 0 p.indices f is here (shared_are (sense_of scope p.name.bytes)) inside)
    ]
in_part scope at (lock_place p) f is here h =
    elim h [
      | inl own ↦ absurd (lock_other (sense_of scope p.name.bytes) p.name p.indices f is own)
      | inr inside ↦ in_both scope at p.name p.indices
          (in_indices scope at p.name (lock_sizes (sense_of scope p.name.bytes)) 0 p.indices f is here (locks_are (sense_of scope p.name.bytes)) inside)
    ]
in_part scope at (counter named) f is here h =
    elim h [
      | inl reserved ↦ (let e = of_kind is reserved.1 in absurd (cc))
      | inr wrong ↦ absurd (counter_other (sense_of scope named.bytes) named f is wrong)
    ]
in_part scope at (value e) f is here h = in_expression scope at e f is here h

in_parts : (scope : Scope) (at : ℕ) (parts : List Part) (f : Fault) → f.kind ≡ IndexOutOfRange → f.at ≡ at → IsInParts scope parts f
    → Some_over scope (spots_in_parts at parts)
in_parts scope at [] f is here h = absurd h
in_parts scope at (part ∷ others) f is here h =
    elim h [
      | inl one ↦ front scope (spots_in_part at part) (spots_in_parts at others) (in_part scope at part f is here one)
      | inr later ↦ back scope (spots_in_part at part) (spots_in_parts at others) (in_parts scope at others f is here later)
    ]

pub in_statements : (table : List Declared) (at : ℕ) (statements : Block) (f : Fault) → f.kind ≡ IndexOutOfRange → f.at ≡ at → IsInStatements table statements f
    → (v : ℕ) × (s : ℕ) × IsOutAmong table at statements v s
in_statements table at statements f is here h =
    elim h [
      | inl inside ↦ in_parts (statement_scope table (parts_of_block statements)) at (parts_of_block statements) f is here inside
      | inr many ↦ (let e = of_kind is many.4 in absurd (cc))
    ]
