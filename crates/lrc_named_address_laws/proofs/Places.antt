-- The address of an element with these indices.
use Rattle.std.proofs.Common.{◌≡◌, ℕ, ◌+◌, ◌*◌, ◌-◌, ◌^◌, ◌<◌, ◌≤◌, List, [], ◌∷◌, length, filter, refl, sym, ap, arith, ◌∙◌, inl, inr}
use Rattle.std.specs.Prelude.{Some}
use Rattle.std.proofs.Math.Nat.{mul-le-mul_right}
use Rattle.std.proofs.lemmas.Bool.{cases_lt}
use Rattle.lrc_named_core.specs.Tree.{Private, Expression}
use Rattle.lrc_named_names.specs.Names.{Item}
use Rattle.lrc_named_names.specs.Elements.{elements}
use Rattle.lrc_named_address.specs.Address.{address, base_of, indices_of, is_open}
use Rattle.lrc_named_address_laws.specs.Elements.{element_at, AreWithin, IsBeyond}
use Rattle.lrc_named_address_laws.specs.Values.{value_of, HaveValues, no_value, one_value}
use Rattle.lrc_named_address_laws.proofs.Valued.{Valued, no_index, one_index, Within, Beyond, sum, opens, valued_opens, within_opens, beyond_opens, split, address_in, address_beyond}

valued_indices : (names : Private → ℕ) (here count : ℕ) (es : List Expression) (sizes vs : List ℕ) → HaveValues names here count es vs
    → length sizes ≡ length vs → Valued names here count (indices_of es sizes) vs
valued_indices names here count es [] vs no_value same = no_index
valued_indices names here count es (size ∷ sizes) vs no_value same = no_index
valued_indices names here count fs [] ws (one_value {e = e} {es = es} {v = v} {vs = vs} has rest) same = absurd (omega arith)
valued_indices names here count fs (size ∷ sizes) ws (one_value {e = e} {es = es} {v = v} {vs = vs} has rest) same =
    one_index has (valued_indices names here count es sizes vs rest (omega arith))

same_length : (sizes vs : List ℕ) → AreWithin sizes vs → length sizes ≡ length vs
same_length [] [] h = refl
same_length [] (v ∷ vs) h = absurd h
same_length (size ∷ sizes) [] h = absurd h
same_length (size ∷ sizes) (v ∷ vs) h = let k = same_length sizes vs h.1 in omega (arith, k)

within_indices : (names : Private → ℕ) (here count : ℕ) (es : List Expression) (sizes vs : List ℕ) → HaveValues names here count es vs
    → AreWithin sizes vs → Within (indices_of es sizes) vs
within_indices names here count es [] vs no_value h = tt
within_indices names here count es (size ∷ sizes) vs no_value h = tt
within_indices names here count fs [] ws (one_value {e = e} {es = es} {v = v} {vs = vs} has rest) h = absurd h
within_indices names here count fs (size ∷ sizes) ws (one_value {e = e} {es = es} {v = v} {vs = vs} has rest) h =
    (h.0, within_indices names here count es sizes vs rest h.1)

beyond_indices : (names : Private → ℕ) (here count : ℕ) (es : List Expression) (sizes vs : List ℕ) → HaveValues names here count es vs
    → IsBeyond sizes vs → Beyond (indices_of es sizes) vs
beyond_indices names here count es [] vs no_value h = absurd h
beyond_indices names here count es (size ∷ sizes) vs no_value h = absurd h
beyond_indices names here count fs [] ws (one_value {e = e} {es = es} {v = v} {vs = vs} has rest) h = absurd h
beyond_indices names here count fs (size ∷ sizes) ws (one_value {e = e} {es = es} {v = v} {vs = vs} has rest) (inl le) = inl le
beyond_indices names here count fs (size ∷ sizes) ws (one_value {e = e} {es = es} {v = v} {vs = vs} has rest) (inr later) =
    inr (beyond_indices names here count es sizes vs rest later)

sum_indices : (names : Private → ℕ) (here count : ℕ) (es : List Expression) (sizes vs : List ℕ) → HaveValues names here count es vs
    → length sizes ≡ length vs → sum (indices_of es sizes) vs ≡ element_at sizes vs
sum_indices names here count es [] vs no_value same = refl
sum_indices names here count es (size ∷ sizes) vs no_value same = refl
sum_indices names here count fs [] ws (one_value {e = e} {es = es} {v = v} {vs = vs} has rest) same = absurd (omega arith)
sum_indices names here count fs (size ∷ sizes) ws (one_value {e = e} {es = es} {v = v} {vs = vs} has rest) same =
    ap (λ n. v * elements sizes + n) (sum_indices names here count es sizes vs rest (omega arith))

-- an element lies within its array
pub element_within : (sizes vs : List ℕ) → AreWithin sizes vs → element_at sizes vs < elements sizes
element_within [] [] h = omega arith
element_within [] (v ∷ vs) h = absurd h
element_within (size ∷ sizes) [] h = absurd h
element_within (size ∷ sizes) (v ∷ vs) h =
    let k = element_within sizes vs h.1 in omega (arith, k, mul-le-mul_right (elements sizes) h.0)

row_less : (v w rest a b : ℕ) → a < rest → v < w → v * rest + a ≡ w * rest + b → ⊥
row_less v w rest a b small lt same = omega (arith, mul-le-mul_right rest lt, same, small)

row_same : (v w rest a b : ℕ) → a < rest → b < rest → v * rest + a ≡ w * rest + b → v ≡ w
row_same v w rest a b small less same =
    elim (cases_lt v w) [
      | inl lt ↦ absurd (row_less v w rest a b small lt same)
      | inr ge ↦ elim (cases_lt w v) [
        | inl gt ↦ absurd (row_less w v rest b a less gt (sym same))
        | inr le ↦ omega arith
      ]
    ]

-- different elements lie at different places
pub element_unique : (sizes vs ws : List ℕ) → AreWithin sizes vs → AreWithin sizes ws → element_at sizes vs ≡ element_at sizes ws → vs ≡ ws
element_unique [] [] [] h k same = refl
element_unique [] [] (w ∷ ws) h k same = absurd k
element_unique [] (v ∷ vs) ws h k same = absurd h
element_unique (size ∷ sizes) [] ws h k same = absurd h
element_unique (size ∷ sizes) (v ∷ vs) [] h k same = absurd k
element_unique (size ∷ sizes) (v ∷ vs) (w ∷ ws) h k same =
    let first : v ≡ w = row_same v w (elements sizes) (element_at sizes vs) (element_at sizes ws)
    (element_within sizes vs h.1) (element_within sizes ws k.1) same in
    let at : v * elements sizes ≡ w * elements sizes = ap (λ n. n * elements sizes) first in
    let rest : element_at sizes vs ≡ element_at sizes ws = omega (arith, at, same) in
    let others = element_unique sizes vs ws h.1 k.1 rest in cc

-- ---- addresses

pub in_range : (names : Private → ℕ) (here count : ℕ) (item : Item) (es : List Expression) (vs : List ℕ) → HaveValues names here count es vs
    → AreWithin item.sizes vs → item.first + elements item.sizes ≤ 65536
    → value_of names here count (address item es) ≡ Some (item.first + element_at item.sizes vs)
in_range names here count item es vs has within few =
    let is = indices_of es item.sizes in
    let same = same_length item.sizes vs within in
    let valued = valued_indices names here count es item.sizes vs has same in
    let whole = split names here count item.first is vs valued in
    let place = sum_indices names here count es item.sizes vs has same in
    let below = element_within item.sizes vs within in
    let e : base_of item.first is + sum (filter is_open is) (opens is vs) ≡ item.first + element_at item.sizes vs = omega (arith, whole, place) in
    let small : base_of item.first is + sum (filter is_open is) (opens is vs) + 1 < 2 ^ 64 = omega (arith, e, below, few) in
    address_in names here count (base_of item.first is) (filter is_open is) (opens is vs) (valued_opens names here count is vs valued)
    (within_opens is vs (within_indices names here count es item.sizes vs has within)) small ∙ ap Some e

pub out_of_range : (names : Private → ℕ) (here count : ℕ) (item : Item) (es : List Expression) (vs : List ℕ) → HaveValues names here count es vs
    → length item.sizes ≡ length vs → IsBeyond item.sizes vs
    → value_of names here count (address item es) ≡ Some (2 ^ 64 - 1)
out_of_range names here count item es vs has same beyond =
    let is = indices_of es item.sizes in
    let valued = valued_indices names here count es item.sizes vs has same in
    address_beyond names here count (base_of item.first is) (filter is_open is) (opens is vs) (valued_opens names here count is vs valued)
    (beyond_opens names here count is vs valued (beyond_indices names here count es item.sizes vs has beyond))
