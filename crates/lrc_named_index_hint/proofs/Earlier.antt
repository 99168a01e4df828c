-- Where a constant has to stand, a fault of an index that is out of range has one before it: the shared item that has the index.
use Rattle.std.proofs.Common.{◌≡◌, ◌≤◌, ◌<◌, ◌+◌, ◌⊎◌, ℕ, zero, suc, Bool, true, List, [], ◌∷◌, drop, refl, sym, ap, subst, ◌∙◌, arith, inl, inr}
use Rattle.std.specs.Prelude.{Option, Some, None, slice_get}
use Rattle.lrc_named_tree.specs.Tree.{Named, Expression, Expressions, number, me, nodes, element, call, group, negation, binary, both, either, none, more}
use Rattle.lrc_named_tree.specs.Ends.{first_of}
use Rattle.lrc_named_names.specs.Names.{constant, shared, lock, function}
use Rattle.lrc_named_expression_faults.specs.declared.fault.Fault.{Fault}
use Rattle.lrc_named_expression_faults.specs.declared.fault.FaultKind.TheVariants.{IndexOutOfRange, WrongUse}
use Rattle.lrc_named_expression_faults.specs.Expressions.{IsBeyond, IsInElement, IsInExpression, IsInIndex, IsInIndices}
use Rattle.lrc_named_expression_faults.specs.Fault.{fault_at}
use Rattle.lrc_named_expression_faults.specs.Scope.{Scope, Sense, parameter, declared, private_name, unknown, sense_of, shared_sizes}
use Rattle.lrc_named_index_hint.proofs.Ordered.{AreOrdered, BeginFrom, IsOrdered}
use Rattle.lrc_named_index_hint.proofs.Standing.{call_other, element_other, of_kind}

-- a fault of these before this one
abbrev pub Earlier : (Fault → Type 0) → ℕ → Type 0
Earlier IsOne at = (g : Fault) × IsOne g × (g.at < at)

-- what has sizes is a shared item, which may not stand where a constant has to
shared_item : (scope : Scope) (sense : Sense) (named : Named) (indices : Expressions) (n s : ℕ) → scope.constant ≡ true → slice_get (shared_sizes sense) n ≡ Some s
    → IsInElement scope.constant sense named indices (fault_at named.at WrongUse)
shared_item scope (declared (shared item)) named indices n s is sized = inl (is, refl)
shared_item scope unknown named indices zero s is sized = absurd (cc)
shared_item scope unknown named indices (suc n) s is sized = absurd (cc)
shared_item scope parameter named indices zero s is sized = absurd (cc)
shared_item scope parameter named indices (suc n) s is sized = absurd (cc)
shared_item scope private_name named indices zero s is sized = absurd (cc)
shared_item scope private_name named indices (suc n) s is sized = absurd (cc)
shared_item scope (declared (constant v)) named indices zero s is sized = absurd (cc)
shared_item scope (declared (constant v)) named indices (suc n) s is sized = absurd (cc)
shared_item scope (declared (lock item)) named indices zero s is sized = absurd (cc)
shared_item scope (declared (lock item)) named indices (suc n) s is sized = absurd (cc)
shared_item scope (declared (function own body)) named indices zero s is sized = absurd (cc)
shared_item scope (declared (function own body)) named indices (suc n) s is sized = absurd (cc)

later_size : (sizes : List ℕ) (n s : ℕ) → slice_get (drop 1 sizes) n ≡ Some s → slice_get sizes (suc n) ≡ Some s
later_size [] zero s e = absurd (cc)
later_size [] (suc n) s e = absurd (cc)
later_size (size ∷ sizes) n s e = e

-- of these sizes there is one
abbrev HasSize : List ℕ → Type 0
HasSize sizes = (n : ℕ) × (s : ℕ) × (slice_get sizes n ≡ Some s)

-- a fault of an index: one inside it, or that it is beyond a size there is
index_fault : (scope : Scope) (e : Expression) (found : Option ℕ) (f : Fault) → IsInIndex (λ g. IsInExpression scope e g) scope e found f
    → IsInExpression scope e f ⊎ ((f.at ≡ first_of e) × ((s : ℕ) × (found ≡ Some s)))
index_fault scope e None f h = inl h
index_fault scope e (Some size) f h =
    elim h [ inl inside ↦ inl inside | inr beyond ↦ inr (ap (λ (g : Fault). g.at) beyond.1, (size, refl)) ]

inside_is : (scope : Scope) (e : Expression) (found : Option ℕ) (f : Fault) → IsInExpression scope e f → IsInIndex (λ g. IsInExpression scope e g) scope e found f
inside_is scope e None f h = h
inside_is scope e (Some size) f h = inl h

mutual
  pub earlier_in : (scope : Scope) (e : Expression) (f : Fault) → scope.constant ≡ true → IsOrdered e → f.kind ≡ IndexOutOfRange → IsInExpression scope e f
      → Earlier (λ g. IsInExpression scope e g) f.at
  earlier_in scope (number own n) f is ordered kind h = absurd h
  earlier_in scope (me own) f is ordered kind h = let e = of_kind kind h.1 in absurd (cc)
  earlier_in scope (nodes own) f is ordered kind h = let e = of_kind kind h.1 in absurd (cc)
  earlier_in scope (element named indices last) f is ordered kind h =
      let sense = sense_of scope named.bytes in
      elim h [
        | inl own ↦ absurd (element_other scope.constant sense named indices f kind own)
        | inr inside ↦ elim (earlier_among scope (named.at + 1) (shared_sizes sense) indices f is ordered.0 ordered.1 kind inside) [
          | inl before ↦ (before.0, inr before.1, before.2)
          | inr beyond ↦
              let le = beyond.0 in
              (fault_at named.at WrongUse, inl (shared_item scope sense named indices beyond.1.0 beyond.1.1 is beyond.1.2), omega arith)
        ]
      ]
  earlier_in scope (call named arguments close) f is ordered kind h =
      let sense = sense_of scope named.bytes in
      elim h [
        | inl own ↦ absurd (call_other scope sense named arguments close f kind own)
        | inr inside ↦ let before = earlier_arguments scope arguments f is ordered kind inside in (before.0, inr before.1, before.2)
      ]
  earlier_in scope (group opens e close) f is ordered kind h = earlier_in scope e f is ordered kind h
  earlier_in scope (negation own e) f is ordered kind h = earlier_in scope e f is ordered kind h
  earlier_in scope (binary left o right) f is ordered kind h =
      elim h [
        | inl l ↦ let before = earlier_in scope left f is ordered.0 kind l in (before.0, inl before.1, before.2)
        | inr r ↦ let before = earlier_in scope right f is ordered.1 kind r in (before.0, inr before.1, before.2)
      ]
  earlier_in scope (both left right) f is ordered kind h =
      elim h [
        | inl l ↦ let before = earlier_in scope left f is ordered.0 kind l in (before.0, inl before.1, before.2)
        | inr r ↦ let before = earlier_in scope right f is ordered.1 kind r in (before.0, inr before.1, before.2)
      ]
  earlier_in scope (either left right) f is ordered kind h =
      elim h [
        | inl l ↦ let before = earlier_in scope left f is ordered.0 kind l in (before.0, inl before.1, before.2)
        | inr r ↦ let before = earlier_in scope right f is ordered.1 kind r in (before.0, inr before.1, before.2)
      ]

  earlier_arguments : (scope : Scope) (es : Expressions) (f : Fault) → scope.constant ≡ true → AreOrdered es → f.kind ≡ IndexOutOfRange → IsInIndices scope es [] f
      → Earlier (λ g. IsInIndices scope es [] g) f.at
  earlier_arguments scope none f is ordered kind h = absurd h
  earlier_arguments scope (more e others) f is ordered kind h =
      elim h [
        | inl one ↦ let before = earlier_in scope e f is ordered.0 kind one in (before.0, inl before.1, before.2)
        | inr later ↦ let before = earlier_arguments scope others f is ordered.1 kind later in (before.0, inr before.1, before.2)
      ]

  -- before it, or it is behind the name, which has sizes
  earlier_among : (scope : Scope) (n : ℕ) (sizes : List ℕ) (es : Expressions) (f : Fault) → scope.constant ≡ true → BeginFrom n es → AreOrdered es
      → f.kind ≡ IndexOutOfRange → IsInIndices scope es sizes f → Earlier (λ g. IsInIndices scope es sizes g) f.at ⊎ ((n ≤ f.at) × HasSize sizes)
  earlier_among scope n sizes none f is begins ordered kind h = absurd h
  earlier_among scope n sizes (more e others) f is begins ordered kind h =
      elim h [
        | inl own ↦ elim (index_fault scope e (slice_get sizes 0) f own) [
          | inl inside ↦
              let before = earlier_in scope e f is ordered.0 kind inside in
              inl (before.0, inl (inside_is scope e (slice_get sizes 0) before.0 before.1), before.2)
          | inr beyond ↦
              let here = beyond.0 in
              let le = begins.0 in
              inr (omega arith, (0, beyond.1.0, beyond.1.1))
        ]
        | inr later ↦ elim (earlier_among scope n (drop 1 sizes) others f is begins.1 ordered.1 kind later) [
          | inl before ↦ inl (before.0, inr before.1, before.2)
          | inr beyond ↦ inr (beyond.0, (suc beyond.1.0, beyond.1.1, later_size sizes beyond.1.0 beyond.1.1 beyond.1.2))
        ]
      ]
