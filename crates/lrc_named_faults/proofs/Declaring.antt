-- A constant and a function, declared behind what is.
use Rattle.std.proofs.Common.{◌≡◌, inl, inr, ℕ, List, [], ◌∷◌, refl, sym, ap, subst, arith}
use Rattle.std.specs.Prelude.{None}
use Rattle.lrc_named_tree.specs.Tree.{Named, Expression, Declaration}
use Rattle.lrc_named_tree.specs.Tree as tree
use Rattle.lrc_named_names.specs.Names.{Declared, constant, function}
use Rattle.lrc_named_names.specs.View.{declared_of}
use Rattle.lrc_named_constants.specs.Constant.{names_of}
use Rattle.lrc_named_constants.specs.Layout.{Declares, a_constant, a_function, as_meaning}
use Rattle.lrc_named_constants.specs.Well.{bytes_of}
use Rattle.lrc_named_expression_faults.specs.declared.extent.Extent.{Extent}
use Rattle.lrc_named_expression_faults.specs.Extent.{IsExtent}
use Rattle.lrc_named_expression_faults.specs.Fault.{IsNone}
use Rattle.lrc_named_faults.specs.declared.layout.Layout as code_layout
use Rattle.lrc_named_faults.specs.declared.values.Found.TheVariants.{Good}
use Rattle.lrc_named_faults.specs.Declarations.{IsClean, IsInBody, IsInConstant, body_scope, constant_scope, varying}
use Rattle.lrc_named_faults.specs.Found.{IsFunctionFound, IsNamedConstantFound, IsTaken}
use Rattle.lrc_named_faults.specs.Layout.{IsLaidOut, IsOneMore}
use Rattle.lrc_named_faults.specs.Values.{IsBodyFound, IsConstantFound}
use Rattle.lrc_named_faults.proofs.Laid.{laid_out_more}
use Rattle.lrc_named_faults.proofs.Weighing.{within_limit}

-- a constant and a body in which nothing is wrong
pub clean_constant : (table : List Declared) (e : Expression) (v : ℕ) → IsConstantFound (constant_scope table) e (Good v)
    → IsNone (λ f. IsInConstant (constant_scope table) e f)
clean_constant table e v h = λ f k. elim k [ inl inside ↦ h.0 f inside | inr own ↦ own.0.1 v h.1 ]

pub varying_names : (own : List Named) → names_of (varying own) ≡ bytes_of own
varying_names [] = refl
varying_names (p ∷ own) = ap (λ l. p.bytes ∷ l) (varying_names own)

pub body_extent : (table : List Declared) (own : List Named) (e : Expression) (x : Extent) → IsBodyFound (body_scope table own) e (Good x)
    → IsExtent table (bytes_of own) e x
body_extent table own e x h = subst (λ l. IsExtent table l e x) (varying_names own) h.1

pub clean_body : (table : List Declared) (own : List Named) (e : Expression) (x : Extent) → IsBodyFound (body_scope table own) e (Good x)
    → IsNone (λ f. IsInBody (body_scope table own) e f)
clean_body table own e x h =
    λ f k. elim k [ inl inside ↦ h.0 f inside | inr own_one ↦ within_limit table (names_of (varying own)) e x own_one.0.1.0 h.1 h.2 own_one.0.1.1 own_one.0.1.2 ]

no_function : {A : Type 0} (v : ℕ) (own : List Named) (body : Expression) → constant v ≡ function own body → A
no_function v own body e = absurd (cc)

pub constant_declared : (old new : code_layout.Layout) (at v : ℕ) (named : Named) (e : Expression) (x : Extent) → IsLaidOut old
    → IsOneMore old new (as_meaning named (constant v)) x → IsNamedConstantFound (declared_of old.names) named e (Good v)
    → IsTaken old new (tree.constant at named e) None
constant_declared old new at v named e x laid more h =
    let table = declared_of old.names in
    let w = more.words in
    let l = more.locks in
    let fw = laid.few_words in
    let fl = laid.few_locks in (
      h.0,
      subst (λ t. Declares table (tree.constant at named e) t) (sym more.names) (a_constant h.1),
      laid_out_more old new named (constant v) x laid more.names more.extents (omega (arith, w)) (omega (arith, l)) (omega (arith, w, fw)) (omega (arith, l, fl))
          (λ own body is. no_function v own body is),
      more.nodes,
    )

same_own : (ps qs : List Named) (one other : Expression) → function ps one ≡ function qs other → ps ≡ qs
same_own ps qs one other e = cc

same_body : (ps qs : List Named) (one other : Expression) → function ps one ≡ function qs other → one ≡ other
same_body ps qs one other e = cc

pub function_declared : (old new : code_layout.Layout) (at : ℕ) (named : Named) (own : List Named) (e : Expression) (x : Extent) → IsLaidOut old
    → IsOneMore old new (as_meaning named (function own e)) x → IsFunctionFound (declared_of old.names) named own e (Good x)
    → IsTaken old new (tree.function at named own e) None
function_declared old new at named own e x laid more h =
    let table = declared_of old.names in
    let w = more.words in
    let l = more.locks in
    let fw = laid.few_words in
    let fl = laid.few_locks in (
      h.0,
      subst (λ t. Declares table (tree.function at named own e) t) (sym more.names) a_function,
      laid_out_more old new named (function own e) x laid more.names more.extents (omega (arith, w)) (omega (arith, l)) (omega (arith, w, fw)) (omega (arith, l, fl))
          (λ ps body is.
          let p = same_own own ps e body is in
          let b = same_body own ps e body is in (
            subst (λ q. IsClean (body_scope table q) body) p (subst (λ y. IsClean (body_scope table own) y) b h.1),
            h.3,
            subst (λ q. IsExtent table (bytes_of q) body x) p (subst (λ y. IsExtent table (bytes_of own) y x) b h.2),
          )),
      more.nodes,
    )
