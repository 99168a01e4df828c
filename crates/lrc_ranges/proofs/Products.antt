-- The sides of a product that is not 0.
use Rattle.std.proofs.Common.{◌≡◌, ◌∙◌, ◌*◌, ◌%◌, ◌^◌, ◌<◌, ℕ, inl, inr, ap, subst, arith}
use Rattle.std.specs.Prelude.{Some}
use Rattle.std.proofs.Math.Nat.{mul_comm, zero-mod, zero-mul}
use Rattle.std.proofs.lemmas.Bool.{cases_lt}
use Rattle.std.proofs.lemmas.Option.{same_Some}
use Rattle.lrc_program.specs.declared.Operator.{Operator}
use Rattle.lrc_program.specs.declared.Operator.TheVariants.{Multiply}
use Rattle.lrc_exec.specs.Meaning.{operated}

some_side : (a b : ℕ) → 0 < (a * b) % 2 ^ 64 → 0 < a
some_side a b some = elim (cases_lt 0 a) [
  | inl lt ↦ lt
  | inr le ↦
      let none : a ≡ 0 = omega (arith, le) in
      let gone : (a * b) % 2 ^ 64 ≡ 0 = ap (λ x. (x * b) % 2 ^ 64) none ∙ ap (λ x. x % 2 ^ 64) (zero-mul b) ∙ zero-mod (2 ^ 64) in
      absurd (omega (arith, some, gone))
]

-- both sides are not 0 either
pub factors : (operator : Operator) (a b value : ℕ) → operator ≡ Multiply → operated operator a b ≡ Some value → 0 < value → (0 < a) × (0 < b)
factors operator a b value is gives some =
    let product : (a * b) % 2 ^ 64 ≡ value = same_Some ((a * b) % 2 ^ 64) value (subst (λ o. operated o a b ≡ Some value) is gives) in
    let one : 0 < (a * b) % 2 ^ 64 = omega (arith, product, some) in
    (some_side a b one, some_side b a (subst (λ n. 0 < n % 2 ^ 64) (mul_comm a b) one))
