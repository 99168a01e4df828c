-- The number by which rows are looked up.
use Rattle.std.specs.Prelude.{ℕ, ◌*◌, ◌%◌, ◌^◌, bit_xor, fold}
use Rattle.std.specs.Prelude.{◌≡◌, true, nat_eq}
use Rattle.std.proofs.Common.{ap, ◌∙◌}
use Rattle.std.proofs.lemmas.Bool.{and_parts, eqb-true}
use lib.Pointwise.{pointwise, bytes_decides}
use Rattle.std.specs.Hash.{u64}
use Rattle.lrc_lazy_search.specs.contracts.found.RowPartialEq.TheImpl.{eq-value as row_eq}
use Rattle.lrc_lazy_search.specs.declared.found.Row.{Row}

-- a number of 64 bits, with one of 32 mixed in
abbrev pub mixed_number : (all number : ℕ) → ℕ
mixed_number all number = (bit_xor all number * 0x9e37_79b9_7f4a_7c15) % 2 ^ 64

-- rows that compare equal are equal
pub row_is : (a b : Row) → row_eq.it a b ≡ true → a ≡ b
row_is a b e =
    let p = and_parts (pointwise nat_eq a.threads b.threads) _ e in
    let q = and_parts (nat_eq a.common b.common) (nat_eq a.notes b.notes) p.1 in
    let threads : a.threads ≡ b.threads = (bytes_decides a.threads b.threads).0 p.0 in
    let common : a.common ≡ b.common = eqb-true a.common b.common q.0 in
    let notes : a.notes ≡ b.notes = eqb-true a.notes b.notes q.1 in
    ap (λ x. record a { threads = x }) threads
    ∙ ap (λ x. record a { threads = b.threads; common = x }) common
    ∙ ap (λ x. record b { notes = x }) notes

-- the numbers of a row, mixed
abbrev pub mixed_row : Row → ℕ
mixed_row row = mixed_number (mixed_number (fold mixed_number 0 row.threads) row.common) row.notes

-- equal rows have the same
pub respects : (x y : Row) → row_eq.it x y ≡ true → u64 (mixed_row x) ≡ u64 (mixed_row y)
respects x y e = ap (λ row. u64 (mixed_row row)) (row_is x y e)
