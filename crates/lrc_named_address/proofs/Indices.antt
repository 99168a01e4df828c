-- The address of an element, as loops over the indices come to it.
use Rattle.std.proofs.Common.{◌≡◌, ℕ, zero, suc, min, ◌+◌, ◌*◌, ◌/◌, ◌<◌, ◌≤◌, Bool, true, false, List, [], ◌∷◌, ◌++◌, map, length, get_or, drop, take, filter, append_assoc, append-nil, refl, sym, ap, subst, arith, ◌∙◌, add-one}
use Rattle.std.specs.Prelude.{Option, Some, None, cond, nat_lt, if◌then◌else◌}
use Rattle.std.proofs.lemmas.Bool.{ltb-true}
use Rattle.std.proofs.Math.Seq.{drop-cons, take-suc}
use Rattle.std.proofs.Math.Nat.{mul-div_cancel_left, mul-le-mul_right}
use Rattle.std.proofs.lemmas.List.Elements.{filter-append}
use Rattle.lrc_named_names.specs.Elements.{elements}
use Rattle.lrc_named_core.specs.declared.tree.Expression as code_core
use Rattle.lrc_named_core.specs.View.{expression_of}
use Rattle.lrc_named_core.specs.Tree.{Expression, number, private, me, nodes, binary}
use Rattle.lrc_named_address.specs.declared.element.Index as code_index
use Rattle.lrc_named_address.specs.Address.{Index, base_of, indices_of, is_open, number_within, offset, offset_of}
use Rattle.lrc_named_address.specs.View.{index_of}

-- ---- the strides

-- an index, and those behind it
abbrev pub index_here : Expression → ℕ → List ℕ → Index
index_here core size sizes = record { core = core; size = size; stride = elements sizes }

pub indices_here : (cores : List code_core.Expression) (sizes : List ℕ) (i : ℕ) (d : code_core.Expression) → i < length cores → i < length sizes
    → indices_of (map expression_of (drop i cores)) (drop i sizes)
    ≡ index_here (expression_of (get_or cores i d)) (get_or sizes i 0) (drop (i + 1) sizes) ∷ indices_of (map expression_of (drop (i + 1) cores)) (drop (i + 1) sizes)
indices_here cores sizes i d lt less =
    let first : drop i cores ≡ get_or cores i d ∷ drop (i + 1) cores = rw add-one (drop-cons cores i d lt) in
    let second : drop i sizes ≡ get_or sizes i 0 ∷ drop (i + 1) sizes = rw add-one (drop-cons sizes i 0 less) in
    ap (λ l. indices_of (map expression_of l) (drop i sizes)) first
    ∙ ap (λ l. indices_of (map expression_of (get_or cores i d ∷ drop (i + 1) cores)) l) second

no_index : (cores : List Expression) → indices_of cores [] ≡ []
no_index [] = refl
no_index (c ∷ cores) = refl

pub indices_past : (cores : List code_core.Expression) (sizes : List ℕ) (i : ℕ) → min (length cores) (length sizes) ≤ i
    → indices_of (map expression_of (drop i cores)) (drop i sizes) ≡ []
indices_past [] sizes zero h = refl
indices_past [] sizes (suc i) h = refl
indices_past (c ∷ cores) [] zero h = refl
indices_past (c ∷ cores) [] (suc i) h = no_index (map expression_of (drop i cores))
indices_past (c ∷ cores) (s ∷ sizes) zero h = absurd (omega arith)
indices_past (c ∷ cores) (s ∷ sizes) (suc i) h = indices_past cores sizes i (omega arith)

stride_here : (sizes : List ℕ) (i : ℕ) → i < length sizes → elements (drop i sizes) ≡ get_or sizes i 0 * elements (drop (i + 1) sizes)
stride_here sizes i less =
    let second : drop i sizes ≡ get_or sizes i 0 ∷ drop (i + 1) sizes = rw add-one (drop-cons sizes i 0 less) in
    ap elements second

some_size : (size rest stride : ℕ) → stride ≡ size * rest → 1 ≤ stride → 0 < size
some_size zero rest stride is some = absurd (omega arith)
some_size (suc n) rest stride is some = omega arith

some_rest : (size rest stride : ℕ) → stride ≡ size * rest → 1 ≤ stride → 1 ≤ rest
some_rest size zero stride is some = absurd (omega (arith, is))
some_rest size (suc n) stride is some = omega arith

pub size_some : (sizes : List ℕ) (i stride : ℕ) → i < length sizes → stride ≡ elements (drop i sizes) → 1 ≤ stride → 0 < get_or sizes i 0
size_some sizes i stride less is some =
    some_size (get_or sizes i 0) (elements (drop (i + 1) sizes)) stride (is ∙ stride_here sizes i less) some

pub stride_next : (sizes : List ℕ) (i stride : ℕ) → i < length sizes → stride ≡ elements (drop i sizes) → 1 ≤ stride
    → stride / get_or sizes i 0 ≡ elements (drop (i + 1) sizes)
stride_next sizes i stride less is some =
    let large = size_some sizes i stride less is some in
    ap (λ s. s / get_or sizes i 0) (is ∙ stride_here sizes i less) ∙ mul-div_cancel_left (elements (drop (i + 1) sizes)) large

pub next_some : (sizes : List ℕ) (i stride : ℕ) → i < length sizes → stride ≡ elements (drop i sizes) → 1 ≤ stride
    → 1 ≤ stride / get_or sizes i 0
next_some sizes i stride less is some =
    let h = some_rest (get_or sizes i 0) (elements (drop (i + 1) sizes)) stride (is ∙ stride_here sizes i less) some in
    subst (λ n. 1 ≤ n) (sym (stride_next sizes i stride less is some)) h

map_push : (ks : List code_index.Index) (k : code_index.Index) → map index_of (ks ++ k ∷ []) ≡ map index_of ks ++ index_of k ∷ []
map_push [] k = refl
map_push (j ∷ ks) k = ap (λ l. index_of j ∷ l) (map_push ks k)

abbrev pub index_with : Expression → ℕ → ℕ → Index
index_with core size stride = record { core = core; size = size; stride = stride }

pub here_is : (x y : Expression) (size next : ℕ) (sizes : List ℕ) → x ≡ y → next ≡ elements sizes → index_with x size next ≡ index_here y size sizes
here_is x y size next sizes h k = ap (λ c. index_with c size next) h ∙ ap (λ n. index_with y size n) k

-- one index more
pub indices_step : (old new : List code_index.Index) (k : code_index.Index) (cores : List code_core.Expression) (sizes : List ℕ) (i : ℕ) (d : code_core.Expression)
    (all : List Index) → i < length cores → i < length sizes → new ≡ old ++ k ∷ []
    → index_of k ≡ index_here (expression_of (get_or cores i d)) (get_or sizes i 0) (drop (i + 1) sizes)
    → map index_of old ++ indices_of (map expression_of (drop i cores)) (drop i sizes) ≡ all
    → map index_of new ++ indices_of (map expression_of (drop (i + 1) cores)) (drop (i + 1) sizes) ≡ all
indices_step old new k cores sizes i d all lt less grown is before =
    let rest = indices_of (map expression_of (drop (i + 1) cores)) (drop (i + 1) sizes) in
    ap (λ l. map index_of l ++ rest) grown ∙ ap (λ l. l ++ rest) (map_push old k) ∙ append_assoc (map index_of old) (index_of k ∷ []) rest
    ∙ ap (λ y. map index_of old ++ y ∷ rest) is
    ∙ ap (λ l. map index_of old ++ l) (sym (indices_here cores sizes i d lt less)) ∙ before

-- ---- numbers

chosen : (b : Bool) (n m : ℕ) → (if b then Some n else None) ≡ Some m → (b ≡ true) × (n ≡ m)
chosen true n m is = (refl, cc)
chosen false n m is = absurd (cc)

at_most : (n size m : ℕ) → (if nat_lt n size then Some n else None) ≡ Some m → m < size
at_most n size m is =
    let h = chosen (nat_lt n size) n m is in
    let lt : n < size = ltb-true n size h.0 in subst (λ k. k < size) h.1 lt

-- a number is below the size that it is within
pub within_size : (core : Expression) (size n : ℕ) → number_within core size ≡ Some n → n < size
within_size (number m) size n is = at_most m size n is
within_size (private name) size n is = absurd (cc)
within_size me size n is = absurd (cc)
within_size nodes size n is = absurd (cc)
within_size (binary left o right) size n is = absurd (cc)

pub offset_some : (o : Option ℕ) (n stride : ℕ) → o ≡ Some n → offset o stride ≡ n * stride
offset_some (Some m) n stride is = let e : m ≡ n = cc in ap (λ k. k * stride) e
offset_some None n stride is = absurd (cc)

pub base_least : (base : ℕ) (is : List Index) → base ≤ base_of base is
base_least base [] = omega arith
base_least base (i ∷ others) = let h = base_least (base + offset_of i) others in omega (arith, h)

-- one more
pub base_step : (xs : List code_index.Index) (i base whole : ℕ) (d : code_index.Index) → i < length xs
    → base_of base (map index_of (drop i xs)) ≡ whole
    → base_of (base + offset_of (index_of (get_or xs i d))) (map index_of (drop (i + 1) xs)) ≡ whole
base_step xs i base whole d lt before =
    let first : drop i xs ≡ get_or xs i d ∷ drop (i + 1) xs = rw add-one (drop-cons xs i d lt) in
    sym (ap (λ l. base_of base (map index_of l)) first) ∙ before

-- no sum on the way is larger than the whole
pub base_small : (xs : List code_index.Index) (i base whole : ℕ) (d : code_index.Index) → i < length xs
    → base_of base (map index_of (drop i xs)) ≡ whole → base + offset_of (index_of (get_or xs i d)) ≤ whole
base_small xs i base whole d lt before =
    let h = base_least (base + offset_of (index_of (get_or xs i d))) (map index_of (drop (i + 1) xs)) in
    let e = base_step xs i base whole d lt before in omega (arith, h, e)

-- the same of an element of the list
pub base_step_at : (xs : List code_index.Index) (i base whole n : ℕ) (x : code_index.Index) → i < length xs → x ≡ get_or xs i x
    → base_of base (map index_of (drop i xs)) ≡ whole → n ≡ offset_of (index_of x)
    → base_of (base + n) (map index_of (drop (i + 1) xs)) ≡ whole
base_step_at xs i base whole n x lt is before by =
    let e : n ≡ offset_of (index_of (get_or xs i x)) = by ∙ ap (λ y. offset_of (index_of y)) is in
    ap (λ m. base_of (base + m) (map index_of (drop (i + 1) xs))) e ∙ base_step xs i base whole x lt before

pub offset_small : (xs : List code_index.Index) (i base whole : ℕ) (x : code_index.Index) → i < length xs → x ≡ get_or xs i x
    → base_of base (map index_of (drop i xs)) ≡ whole → whole ≤ 65536 → offset_of (index_of x) ≤ 65536
offset_small xs i base whole x lt is before small =
    let h = base_small xs i base whole x lt before in
    subst (λ y. offset_of (index_of y) ≤ 65536) (sym is) (omega (arith, h))

pub sum_small : (xs : List code_index.Index) (i base whole n : ℕ) (x : code_index.Index) → i < length xs → x ≡ get_or xs i x
    → base_of base (map index_of (drop i xs)) ≡ whole → whole ≤ 65536 → n ≡ offset_of (index_of x) → base + n ≤ 65536
sum_small xs i base whole n x lt is before small by =
    let h = base_small xs i base whole x lt before in
    let e : n ≡ offset_of (index_of (get_or xs i x)) = by ∙ ap (λ y. offset_of (index_of y)) is in omega (arith, h, e)

-- ---- the whole is within the item

offset_within : (o : Option ℕ) (size stride : ℕ) → ((n : ℕ) → o ≡ Some n → n < size) → 0 < size → offset o stride + stride ≤ size * stride
offset_within None size stride small some = omega (arith, mul-le-mul_right stride some)
offset_within (Some n) size stride small some = let h : n < size = small n refl in omega (arith, mul-le-mul_right stride h)

pub base_within : (base : ℕ) (cores : List Expression) (sizes : List ℕ) → 1 ≤ elements sizes → base_of base (indices_of cores sizes) + 1 ≤ base + elements sizes
base_within base [] sizes some = omega arith
base_within base (c ∷ cores) [] some = omega arith
base_within base (c ∷ cores) (s ∷ sizes) some =
    let large : 0 < s = some_size s (elements sizes) (s * elements sizes) refl some in
    let rest : 1 ≤ elements sizes = some_rest s (elements sizes) (s * elements sizes) refl some in
    let h = base_within (base + offset (number_within c s) (elements sizes)) cores sizes rest in
    let k = offset_within (number_within c s) s (elements sizes) (λ n is. within_size c s n is) large in
    omega (arith, h, k)

-- ---- those that may be out of range

filter_last : (xs : List Index) (x : Index) → filter is_open (xs ++ x ∷ []) ≡ filter is_open xs ++ cond (is_open x) (x ∷ []) []
filter_last xs x = filter-append is_open xs (x ∷ [])

open_step : (xs : List code_index.Index) (i : ℕ) (d : code_index.Index) → i < length xs
    → map index_of (take (i + 1) xs) ≡ map index_of (take i xs) ++ index_of (get_or xs i d) ∷ []
open_step xs i d lt =
    let step : take (i + 1) xs ≡ take i xs ++ get_or xs i d ∷ [] = rw add-one (take-suc xs i d lt) in
    ap (map index_of) step ∙ map_push (take i xs) (get_or xs i d)

open_more_at : (old new : List code_index.Index) (xs : List code_index.Index) (i : ℕ) (d : code_index.Index) → i < length xs
    → is_open (index_of (get_or xs i d)) ≡ true → new ≡ old ++ get_or xs i d ∷ [] → map index_of old ≡ filter is_open (map index_of (take i xs))
    → map index_of new ≡ filter is_open (map index_of (take (i + 1) xs))
open_more_at old new xs i d lt may grown before =
    let x = get_or xs i d in
    ap (map index_of) grown ∙ map_push old x ∙ ap (λ l. l ++ index_of x ∷ []) before
    ∙ sym (ap (filter is_open) (open_step xs i d lt) ∙ filter_last (map index_of (take i xs)) (index_of x)
    ∙ ap (λ b. filter is_open (map index_of (take i xs)) ++ cond b (index_of x ∷ []) []) may)

open_same_at : (old : List code_index.Index) (xs : List code_index.Index) (i : ℕ) (d : code_index.Index) → i < length xs
    → is_open (index_of (get_or xs i d)) ≡ false → map index_of old ≡ filter is_open (map index_of (take i xs))
    → map index_of old ≡ filter is_open (map index_of (take (i + 1) xs))
open_same_at old xs i d lt never before =
    let x = get_or xs i d in
    before ∙ sym (ap (filter is_open) (open_step xs i d lt) ∙ filter_last (map index_of (take i xs)) (index_of x)
    ∙ ap (λ b. filter is_open (map index_of (take i xs)) ++ cond b (index_of x ∷ []) []) never ∙ append-nil (filter is_open (map index_of (take i xs))))

pub open_more : (old new : List code_index.Index) (xs : List code_index.Index) (i : ℕ) (x : code_index.Index) → i < length xs → x ≡ get_or xs i x
    → is_open (index_of x) ≡ true → new ≡ old ++ x ∷ [] → map index_of old ≡ filter is_open (map index_of (take i xs))
    → map index_of new ≡ filter is_open (map index_of (take (i + 1) xs))
open_more old new xs i x lt is may grown before =
    open_more_at old new xs i x lt (sym (ap (λ y. is_open (index_of y)) is) ∙ may) (grown ∙ ap (λ y. old ++ y ∷ []) is) before

pub open_same : (old : List code_index.Index) (xs : List code_index.Index) (i : ℕ) (x : code_index.Index) → i < length xs → x ≡ get_or xs i x
    → is_open (index_of x) ≡ false → map index_of old ≡ filter is_open (map index_of (take i xs))
    → map index_of old ≡ filter is_open (map index_of (take (i + 1) xs))
open_same old xs i x lt is never before =
    open_same_at old xs i x lt (sym (ap (λ y. is_open (index_of y)) is) ∙ never) before
