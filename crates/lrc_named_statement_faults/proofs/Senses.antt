-- The faults of a name, by what it means, and the first faults of parts.
use Rattle.std.proofs.Common.{◌≡◌, ◌≤◌, ◌⊎◌, ℕ, suc, false, List, [], ◌∷◌, map, length, drop, get_or, refl, sym, ap, subst, ◌∙◌, arith}
use Rattle.std.specs.Prelude.{Option, Some, None, slice_get, ◌==◌}
use Rattle.std.proofs.Math.Seq.{drop-cons, drop-length}
use Rattle.lrc_named_tree.specs.declared.tree.Expression as code_expression
use Rattle.lrc_named_tree.specs.Tree.{Named, Expressions, Place}
use Rattle.lrc_named_tree.specs.View.{expressions_of}
use Rattle.lrc_named_expression_faults.specs.declared.fault.Fault.{Fault}
use Rattle.lrc_named_expression_faults.specs.Expressions.{IsInIndices}
use Rattle.lrc_named_expression_faults.specs.Fault.{IsFirstOf, earlier}
use Rattle.lrc_named_expression_faults.specs.Scope.{Scope, Sense, lock_sizes, sense_of, shared_sizes}
use Rattle.lrc_named_expression_faults.proofs.First.{earlier_first, joined, nothing_first}
use Rattle.lrc_named_statement_faults.specs.declared.parts.Part as code_part
use Rattle.lrc_named_statement_faults.specs.Parts.{part_seen, lock_place, target}
use Rattle.lrc_named_statement_faults.specs.Statements.{IsInCounter, IsInLock, IsInPart, IsInParts, IsInTarget, IsReserved, IsReservedTarget, is_reserved}

pub target_as : (named : Named) (indices : Expressions) (s t : Sense) (found : Option Fault) → s ≡ t
    → IsFirstOf (λ f. IsInTarget t named indices f) found → IsFirstOf (λ f. IsInTarget s named indices f) found
target_as named indices s t found e h = subst (λ u. IsFirstOf (λ f. IsInTarget u named indices f) found) (sym e) h

pub lock_as : (named : Named) (indices : Expressions) (s t : Sense) (found : Option Fault) → s ≡ t
    → IsFirstOf (λ f. IsInLock t named indices f) found → IsFirstOf (λ f. IsInLock s named indices f) found
lock_as named indices s t found e h = subst (λ u. IsFirstOf (λ f. IsInLock u named indices f) found) (sym e) h

pub counter_as : (named : Named) (s t : Sense) (found : Option Fault) → s ≡ t → IsFirstOf (λ f. IsInCounter t named f) found
    → IsFirstOf (λ f. IsInCounter s named f) found
counter_as named s t found e h = subst (λ u. IsFirstOf (λ f. IsInCounter u named f) found) (sym e) h

-- a name set without an index, and with one
pub reserved_without : (xs : List code_expression.Expression) (named : Named) (found : Option Fault) → length xs ≡ 0 → IsFirstOf (λ f. IsReserved named f) found
    → IsFirstOf (λ f. IsReservedTarget (expressions_of xs) named f) found
reserved_without [] named found e h = h
reserved_without (x ∷ xs) named found e h = absurd (omega arith)

pub reserved_with : (xs : List code_expression.Expression) (named : Named) → 1 ≤ length xs → IsFirstOf (λ f. IsReservedTarget (expressions_of xs) named f) None
reserved_with [] named some = absurd (omega arith)
reserved_with (x ∷ xs) named some = λ f h. h

-- a place that is set, and a lock
pub target_first : (scope : Scope) (p : Place) (s : Sense) (sizes : List ℕ) (reserved own inside name found : Option Fault)
    → s ≡ sense_of scope p.name.bytes → sizes ≡ shared_sizes s → IsFirstOf (λ f. IsReservedTarget p.indices p.name f) reserved
    → IsFirstOf (λ f. IsInTarget s p.name p.indices f) own → IsFirstOf (λ f. IsInIndices scope p.indices sizes f) inside
    → name ≡ earlier reserved own → found ≡ earlier name inside → IsFirstOf (λ f. IsInPart scope (target p) f) found
target_first scope p s sizes reserved own inside name found sense all a b c n is =
    let t = sense_of scope p.name.bytes in
    let d = subst (λ u. IsFirstOf (λ f. IsInTarget u p.name p.indices f) own) sense b in
    let e = subst (λ l. IsFirstOf (λ f. IsInIndices scope p.indices l f) inside) (all ∙ ap shared_sizes sense) c in
    let h = subst (λ r. IsFirstOf (λ f. IsReservedTarget p.indices p.name f ⊎ IsInTarget t p.name p.indices f) r) (sym n)
    (earlier_first (λ f. IsReservedTarget p.indices p.name f) (λ f. IsInTarget t p.name p.indices f) reserved own a d) in
    subst (λ r. IsFirstOf (λ f. (IsReservedTarget p.indices p.name f ⊎ IsInTarget t p.name p.indices f) ⊎ IsInIndices scope p.indices (shared_sizes t) f) r) (sym is)
    (earlier_first (λ f. IsReservedTarget p.indices p.name f ⊎ IsInTarget t p.name p.indices f) (λ f. IsInIndices scope p.indices (shared_sizes t) f) name inside h e)

pub lock_first : (scope : Scope) (p : Place) (s : Sense) (sizes : List ℕ) (own inside found : Option Fault)
    → s ≡ sense_of scope p.name.bytes → sizes ≡ lock_sizes s → IsFirstOf (λ f. IsInLock s p.name p.indices f) own
    → IsFirstOf (λ f. IsInIndices scope p.indices sizes f) inside → found ≡ earlier own inside → IsFirstOf (λ f. IsInPart scope (lock_place p) f) found
lock_first scope p s sizes own inside found sense all b c is =
    let t = sense_of scope p.name.bytes in
    let d = subst (λ u. IsFirstOf (λ f. IsInLock u p.name p.indices f) own) sense b in
    let e = subst (λ l. IsFirstOf (λ f. IsInIndices scope p.indices l f) inside) (all ∙ ap lock_sizes sense) c in
    subst (λ r. IsFirstOf (λ f. IsInLock t p.name p.indices f ⊎ IsInIndices scope p.indices (lock_sizes t) f) r) (sym is)
    (earlier_first (λ f. IsInLock t p.name p.indices f) (λ f. IsInIndices scope p.indices (lock_sizes t) f) own inside d e)

-- the parts from one on
pub no_part_left : (scope : Scope) (xs : List code_part.Part) → IsFirstOf (λ f. IsInParts scope (map part_seen (drop (length xs) xs)) f) None
no_part_left scope xs = subst (λ l. IsFirstOf (λ f. IsInParts scope (map part_seen l) f) None) (sym (drop-length xs)) nothing_first

pub parts_step : (scope : Scope) (xs : List code_part.Part) (i k : ℕ) (y : code_part.Part) (one first found : Option Fault)
    → suc k ≡ i → suc k ≤ length xs → y ≡ get_or xs k y → found ≡ earlier one first → IsFirstOf (λ f. IsInPart scope (part_seen y) f) one
    → IsFirstOf (λ f. IsInParts scope (map part_seen (drop i xs)) f) first → IsFirstOf (λ f. IsInParts scope (map part_seen (drop k xs)) f) found
parts_step scope xs i k y one first found next lt here is a b =
    let cut : drop k xs ≡ y ∷ drop i xs = drop-cons xs k y (omega arith) ∙ ap (λ n. get_or xs k y ∷ drop n xs) next ∙ ap (λ z. z ∷ drop i xs) (sym here) in
    subst (λ l. IsFirstOf (λ f. IsInParts scope (map part_seen l) f) found) (sym cut)
    (joined (λ f. IsInPart scope (part_seen y) f) (λ f. IsInParts scope (map part_seen (drop i xs)) f) one first found is a b)

-- whether a name begins with `_`
pub reserved_some : (name : List ℕ) (first : ℕ) → Some first ≡ slice_get name 0 → (first == 95) ≡ is_reserved name
reserved_some [] first e = absurd (cc)
reserved_some (b ∷ name) first e = let same : first ≡ b = cc in ap (λ x. x == 95) same

pub reserved_none : (name : List ℕ) → None ≡ slice_get name 0 → false ≡ is_reserved name
reserved_none [] e = refl
reserved_none (b ∷ name) e = absurd (cc)
