-- In statements without a fault names are used as what they are.
use Rattle.std.proofs.Common.{inl, inr, ℕ, Bool, true, false, List, [], ◌∷◌, ◌++◌, length, refl}
use Rattle.std.specs.Prelude.{Option, Some, None, slice_get, drop}
use Rattle.lrc_named_tree.specs.Tree.{Named, Expression, Expressions, none, more, Place, Statement, Block, Arms, empty, next, no_arm, arm}
use Rattle.lrc_named_tree.specs.Tree.{assign, acquire, release, with_do, barrier, print, assert, if_else, while_do, for_do}
use Rattle.lrc_named_names.specs.Names.{Declared, Meaning, constant, shared, lock, function, meaning_of}
use Rattle.lrc_named_constants.specs.Well.{AreWell, IsWell, bytes_of, is_among}
use Rattle.lrc_named_expression_faults.specs.declared.fault.Fault.{Fault}
use Rattle.lrc_named_expression_faults.specs.declared.fault.FaultKind.TheVariants.{UnknownName, WrongUse}
use Rattle.lrc_named_expression_faults.specs.Expressions.{IsInExpression, IsInIndex, IsInIndices}
use Rattle.lrc_named_expression_faults.specs.Fault.{IsNone, fault_at}
use Rattle.lrc_named_expression_faults.specs.Scope.{Scope, lock_sizes, sense_by, sense_of, shared_sizes}
use Rattle.lrc_named_expression_faults.proofs.Clean.{clean_is_well_here}
use Rattle.lrc_named_statement_faults.specs.Parts.{Part, lock_place, target, parts_of, parts_of_arms, parts_of_block, parts_of_values}
use Rattle.lrc_named_statement_faults.specs.Statements.{IsInLock, IsInPart, IsInParts, IsInStatements, IsInTarget, set_names}
use Rattle.lrc_named_statements.specs.Well.{AreWellArms, IsLock, IsLockPlace, IsSettable, IsWellBlock, IsWellStatement}

-- the scope of statements, where these names are set
abbrev within : List Declared → List (List ℕ) → Scope
within table names = record { declared = table; known = []; assigned = names; constant = false }

abbrev HasNone : List Declared → List (List ℕ) → List Part → Type 0
HasNone table names parts = IsNone (λ f. IsInParts (within table names) parts f)

in_front : (scope : Scope) (xs ys : List Part) (f : Fault) → IsInParts scope xs f → IsInParts scope (xs ++ ys) f
in_front scope [] ys f h = absurd h
in_front scope (x ∷ xs) ys f h = elim h [ inl here ↦ inl here | inr later ↦ inr (in_front scope xs ys f later) ]

in_back : (scope : Scope) (xs ys : List Part) (f : Fault) → IsInParts scope ys f → IsInParts scope (xs ++ ys) f
in_back scope [] ys f h = h
in_back scope (x ∷ xs) ys f h = inr (in_back scope xs ys f h)

front : (table : List Declared) (names : List (List ℕ)) (xs ys : List Part) → HasNone table names (xs ++ ys) → HasNone table names xs
front table names xs ys clean = λ f h. clean f (in_front (within table names) xs ys f h)

back : (table : List Declared) (names : List (List ℕ)) (xs ys : List Part) → HasNone table names (xs ++ ys) → HasNone table names ys
back table names xs ys clean = λ f h. clean f (in_back (within table names) xs ys f h)

-- expressions and indices
well_value : (table : List Declared) (names : List (List ℕ)) (e : Expression) → IsNone (λ f. IsInExpression (within table names) e f)
    → IsWell table [] (length table) e
well_value table names e clean = clean_is_well_here (within table names) e clean

inside_index : (IsInside : Fault → Type 0) (scope : Scope) (e : Expression) (size : Option ℕ) → IsNone (λ f. IsInIndex IsInside scope e size f) → IsNone IsInside
inside_index IsInside scope e None clean = clean
inside_index IsInside scope e (Some size) clean = λ f h. clean f (inl h)

well_indices : (table : List Declared) (names : List (List ℕ)) (es : Expressions) (sizes : List ℕ) → IsNone (λ f. IsInIndices (within table names) es sizes f)
    → AreWell table [] (length table) es
well_indices table names none sizes clean = tt
well_indices table names (more e others) sizes clean = (
  well_value table names e
      (inside_index (λ g. IsInExpression (within table names) e g) (within table names) e (slice_get sizes 0) (λ f h. clean f (inl h))),
  well_indices table names others (drop 1 sizes) (λ f h. clean f (inr h)),
)

-- what is set, and locks
settable_by : (m : Option Meaning) (s : Bool) (named : Named) (indices : Expressions) → IsNone (λ f. IsInTarget (sense_by false m s) named indices f)
    → IsSettable m indices
settable_by None true named none clean = tt
settable_by None true named (more e others) clean = absurd (clean (fault_at named.at WrongUse) (tt, refl))
settable_by None false named indices clean = absurd (clean (fault_at named.at UnknownName) refl)
settable_by (Some (constant n)) s named indices clean = absurd (clean (fault_at named.at WrongUse) refl)
settable_by (Some (shared item)) s named indices clean = tt
settable_by (Some (lock item)) s named indices clean = absurd (clean (fault_at named.at WrongUse) refl)
settable_by (Some (function parameters body)) s named indices clean = absurd (clean (fault_at named.at WrongUse) refl)

lock_by : (m : Option Meaning) (s : Bool) (named : Named) (indices : Expressions) → IsNone (λ f. IsInLock (sense_by false m s) named indices f) → IsLock m
lock_by None true named indices clean = absurd (clean (fault_at named.at WrongUse) refl)
lock_by None false named indices clean = absurd (clean (fault_at named.at UnknownName) refl)
lock_by (Some (constant n)) s named indices clean = absurd (clean (fault_at named.at WrongUse) refl)
lock_by (Some (shared item)) s named indices clean = absurd (clean (fault_at named.at WrongUse) refl)
lock_by (Some (lock item)) s named indices clean = tt
lock_by (Some (function parameters body)) s named indices clean = absurd (clean (fault_at named.at WrongUse) refl)

well_target : (table : List Declared) (names : List (List ℕ)) (p : Place) → IsNone (λ f. IsInPart (within table names) (target p) f)
    → IsSettable (meaning_of table p.name.bytes) p.indices × AreWell table [] (length table) p.indices
well_target table names p clean = (
  settable_by (meaning_of table p.name.bytes) (is_among names p.name.bytes) p.name p.indices (λ f h. clean f (inl (inr h))),
  well_indices table names p.indices (shared_sizes (sense_of (within table names) p.name.bytes)) (λ f h. clean f (inr h)),
)

well_lock : (table : List Declared) (names : List (List ℕ)) (p : Place) → IsNone (λ f. IsInPart (within table names) (lock_place p) f) → IsLockPlace table p
well_lock table names p clean = (
  lock_by (meaning_of table p.name.bytes) (is_among names p.name.bytes) p.name p.indices (λ f h. clean f (inl h)),
  well_indices table names p.indices (lock_sizes (sense_of (within table names) p.name.bytes)) (λ f h. clean f (inr h)),
)

well_values : (table : List Declared) (names : List (List ℕ)) (es : Expressions) → HasNone table names (parts_of_values es) → AreWell table [] (length table) es
well_values table names none clean = tt
well_values table names (more e others) clean =
    (well_value table names e (λ f h. clean f (inl h)), well_values table names others (λ f h. clean f (inr h)))

mutual
  well_statement : (table : List Declared) (names : List (List ℕ)) (s : Statement) → HasNone table names (parts_of s) → IsWellStatement table s
  well_statement table names (assign p update e) clean =
      let t = well_target table names p (λ f h. clean f (inl h)) in
      (t.0, t.1, well_value table names e (λ f h. clean f (inr (inl h))))
  well_statement table names (acquire at p) clean = well_lock table names p (λ f h. clean f (inl h))
  well_statement table names (release at p) clean = well_lock table names p (λ f h. clean f (inl h))
  well_statement table names (with_do at p inside close) clean =
      (well_lock table names p (λ f h. clean f (inl h)), well_block table names inside (λ f h. clean f (inr h)))
  well_statement table names (barrier at) clean = tt
  well_statement table names (print at values) clean = well_values table names values clean
  well_statement table names (assert at e) clean = well_value table names e (λ f h. clean f (inl h))
  well_statement table names (if_else at e then others otherwise) clean =
      let a = parts_of_block then in
      let b = parts_of_arms others in
      let c = parts_of_block otherwise in
      let inside : HasNone table names (a ++ (b ++ c)) = λ f h. clean f (inr h) in
      let rest = back table names a (b ++ c) inside in (
        well_value table names e (λ f h. clean f (inl h)),
        well_block table names then (front table names a (b ++ c) inside),
        well_arms table names others (front table names b c rest),
        well_block table names otherwise (back table names b c rest),
      )
  well_statement table names (while_do at e inside) clean =
      (well_value table names e (λ f h. clean f (inl h)), well_block table names inside (λ f h. clean f (inr h)))
  well_statement table names (for_do at named first end inside) clean = (
    well_value table names first (λ f h. clean f (inr (inl h))),
    well_value table names end (λ f h. clean f (inr (inr (inl h)))),
    well_block table names inside (λ f h. clean f (inr (inr (inr h)))),
  )

  well_block : (table : List Declared) (names : List (List ℕ)) (b : Block) → HasNone table names (parts_of_block b) → IsWellBlock table b
  well_block table names empty clean = tt
  well_block table names (next first others) clean = (
    well_statement table names first (front table names (parts_of first) (parts_of_block others) clean),
    well_block table names others (back table names (parts_of first) (parts_of_block others) clean),
  )

  well_arms : (table : List Declared) (names : List (List ℕ)) (arms : Arms) → HasNone table names (parts_of_arms arms) → AreWellArms table arms
  well_arms table names no_arm clean = tt
  well_arms table names (arm at e inside others) clean =
      let behind : HasNone table names (parts_of_block inside ++ parts_of_arms others) = λ f h. clean f (inr h) in (
        well_value table names e (λ f h. clean f (inl h)),
        well_block table names inside (front table names (parts_of_block inside) (parts_of_arms others) behind),
        well_arms table names others (back table names (parts_of_block inside) (parts_of_arms others) behind),
      )

pub clean_block : (table : List Declared) (b : Block) → IsNone (λ f. IsInStatements table b f) → IsWellBlock table b
clean_block table b clean = well_block table (bytes_of (set_names (parts_of_block b))) b (λ f h. clean f (inl h))
