-- The numbers of an address fit.
use Rattle.std.proofs.Common.{◌≤◌, ◌<◌, ◌+◌, ◌*◌, ℕ, zero, suc, Bool, true, false, List, [], ◌∷◌, filter, cond, arith, mul-le-mul_left}
use Rattle.std.specs.Prelude.{if◌then◌else◌, ◌==◌}
use Rattle.std.proofs.Math.Nat.{mul-le-mul_right}
use Rattle.lrc_program.specs.declared.Operator.TheVariants.{Add, Multiply}
use Rattle.lrc_named_core.specs.Tree.{Private, Expression, number, binary}
use Rattle.lrc_named_names.specs.Elements.{elements}
use Rattle.lrc_named_names.specs.Names.{Item}
use Rattle.lrc_named_address.specs.Address.{Index, address, address_of, base_of, indices_of, is_open, plus_summands, summand_of, test_of, times_tests}
use Rattle.lrc_named_address.proofs.Indices.{base_within}
use Rattle.lrc_named_text_laws.specs.Spelled.{Fits}
use Rattle.lrc_named_laws.proofs.Cores.{AreAllFit, IsFit}
use Rattle.lrc_named_laws.proofs.Values.{IsPlaced}

-- ---- sizes

pub some_size : (a b : ℕ) → 1 ≤ a * b → 1 ≤ a
some_size zero b h = absurd (omega (arith, h))
some_size (suc a) b h = omega arith

pub some_rest : (a b : ℕ) → 1 ≤ a * b → 1 ≤ b
some_rest a zero h = absurd (omega (arith, h))
some_rest a (suc b) h = omega arith

-- an array has as many elements as it has rows, and as many as one of them
pub rows_fewer : (size rest : ℕ) → 1 ≤ size * rest → size ≤ size * rest
rows_fewer size rest some = let le = mul-le-mul_left size (some_rest size rest some) in omega (arith, le)

pub row_smaller : (size rest : ℕ) → 1 ≤ size * rest → rest ≤ size * rest
row_smaller size rest some = let le = mul-le-mul_right rest (some_size size rest some) in omega (arith, le)

module _ (IsSuch : Private → Type 0) where
  abbrev IsFitIndex : Index → Type 0
  IsFitIndex i = IsFit IsSuch i.core × Fits i.size × Fits i.stride

  abbrev AreFitIndices : List Index → Type 0
  AreFitIndices [] = Unit {0}
  AreFitIndices (i ∷ others) = IsFitIndex i × AreFitIndices others

  indices_fit : (cores : List Expression) (sizes : List ℕ) → AreAllFit IsSuch cores → 1 ≤ elements sizes → elements sizes ≤ 65536
      → AreFitIndices (indices_of cores sizes)
  indices_fit [] sizes fit some few = tt
  indices_fit (core ∷ cores) [] fit some few = tt
  indices_fit (core ∷ cores) (size ∷ sizes) fit some few =
      let rows = rows_fewer size (elements sizes) some in
      let row = row_smaller size (elements sizes) some in (
        (fit.0, omega (arith, rows, few), omega (arith, row, few)),
        indices_fit cores sizes fit.1 (some_rest size (elements sizes) some) (omega (arith, row, few)),
      )

  kept : (b : Bool) (i : Index) (others : List Index) → IsFitIndex i → AreFitIndices others → AreFitIndices (cond b (i ∷ others) others)
  kept true i others fit more = (fit, more)
  kept false i others fit more = more

  open_fit : (indices : List Index) → AreFitIndices indices → AreFitIndices (filter is_open indices)
  open_fit [] fit = tt
  open_fit (i ∷ others) fit = kept (is_open i) i (filter is_open others) fit.0 (open_fit others fit.1)

  -- ---- expressions

  summand_by : (b : Bool) (i : Index) → IsFitIndex i → IsFit IsSuch (if b then i.core else binary i.core Multiply (number i.stride))
  summand_by true i fit = fit.0
  summand_by false i fit = (fit.0, fit.2)

  tests_fit : (left : Expression) (indices : List Index) → IsFit IsSuch left → AreFitIndices indices → IsFit IsSuch (times_tests left indices)
  tests_fit left [] before fit = before
  tests_fit left (i ∷ others) before fit = tests_fit (binary left Multiply (test_of i)) others (before, (fit.0.0, fit.0.1)) fit.1

  summands_fit : (left : Expression) (indices : List Index) → IsFit IsSuch left → AreFitIndices indices → IsFit IsSuch (plus_summands left indices)
  summands_fit left [] before fit = before
  summands_fit left (i ∷ others) before fit =
      summands_fit (binary left Add (summand_of i)) others (before, summand_by (i.stride == 1) i fit.0) fit.1

  small : (n : ℕ) → n ≤ 65536 → Fits n
  small n few = omega (arith, few)

  whole_fits : (base : ℕ) (indices : List Index) → base + 1 ≤ 65536 → AreFitIndices indices → IsFit IsSuch (address_of base indices)
  whole_fits base [] few fit = small base (omega (arith, few))
  whole_fits base (i ∷ others) few fit = (
    (tests_fit (test_of i) others (fit.0.0, fit.0.1) fit.1, summands_fit (number (base + 1)) (i ∷ others) (small (base + 1) few) fit),
    small 1 (omega arith),
  )

  pub address_fits : (item : Item) (cores : List Expression) → IsPlaced item → AreAllFit IsSuch cores → IsFit IsSuch (address item cores)
  address_fits item cores placed fit =
      let few = placed.few in
      let below = base_within item.first cores item.sizes placed.some in
      whole_fits (base_of item.first (indices_of cores item.sizes)) (filter is_open (indices_of cores item.sizes)) (omega (arith, below, few))
      (open_fit (indices_of cores item.sizes) (indices_fit cores item.sizes fit placed.some (omega (arith, few))))
