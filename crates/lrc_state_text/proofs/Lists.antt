-- Lists with one item more.
use Rattle.std.proofs.Common.{◌≡◌, ◌∙◌, ◌+◌, ◌-◌, ◌<◌, ◌≤◌, ℕ, suc, Bool, List, [], ◌∷◌, ◌++◌, cond, map, length, take, get_or, ap, sym, refl, subst, arith}
use Rattle.std.specs.Prelude.{All, Option, None, Some, filter, filter_map, slice_get, slice_set}
use Rattle.std.specs.List.{range_with_len}
use Rattle.std.specs.Option.{option_to_list}
use Rattle.std.proofs.lemmas.List.{append_assoc, map_more, take_more, length-take-le, set-append_right}
use Rattle.std.proofs.lemmas.List.Elements.{All-filter, filter_map-append}
use Rattle.std.proofs.lemmas.List.FromFn.{get_or-range_with_len, length-range_with_len}
use Rattle.std.proofs.lemmas.Option.{get_or_from_slice_get, slice_get_within}
use Rattle.lrc_time.specs.Time.{entry, zeros}
use Rattle.lrc_text.specs.Each.{each}
use Rattle.lrc_text.proofs.Each.{each_more}
use Rattle.lrc_memory.proofs.Keepers.{kept_more}

-- the numbers below this one that pass a test, and this one where it does
pub shown_more : (p : ℕ → Bool) (n : ℕ) (b : Bool) (now next : List ℕ) → b ≡ p n → now ≡ filter p (range_with_len 0 n)
    → next ≡ now ++ cond b (n ∷ []) [] → next ≡ filter p (range_with_len 0 (n + 1))
shown_more p n b now next is so_far more = more ∙ ap (λ l. l ++ cond b (n ∷ []) []) so_far ∙ sym (kept_more p n b (sym is))

pub are_below : (p : ℕ → Bool) (n m : ℕ) (shown : List ℕ) → shown ≡ filter p (range_with_len 0 n) → n ≤ m → All (λ k. k < m) shown
are_below p n m shown is within =
    subst (λ (l : List ℕ). All (λ k. k < m) l) (sym is)
    (All-filter p (λ k. k < m) (range_with_len 0 n)
    (λ k d inside.
    let below : k < n = omega (arith, length-range_with_len 0 n, inside) in
    omega (arith, get_or-range_with_len 0 n k d below, below, within)))

-- what stands for the items so far, and for one more
pub mapped_next : {X Y : Type 0} (f : X → Y) (xs : List X) (i : ℕ) (x : X) (start now next : List Y) → slice_get xs i ≡ Some x
    → now ≡ start ++ map f (take i xs) → next ≡ now ++ f x ∷ [] → next ≡ start ++ map f (take (i + 1) xs)
mapped_next f xs i x start now next there so_far more =
    more ∙ ap (λ l. l ++ f x ∷ []) so_far ∙ append_assoc start (map f (take i xs)) (f x ∷ [])
    ∙ ap (λ y. start ++ (map f (take i xs) ++ f y ∷ [])) (sym (get_or_from_slice_get xs i x x there))
    ∙ ap (λ l. start ++ l) (sym (map_more f xs i x (slice_get_within xs i x there)))

only : {Y : Type 0} (found : Option Y) → filter_map (λ (o : Option Y). o) (found ∷ []) ≡ option_to_list found
only None = refl
only (Some y) = refl

found-one : {X Y : Type 0} (h : X → Option Y) (x : X) → filter_map h (x ∷ []) ≡ option_to_list (h x)
found-one h x = only (h x)

-- what is found of the items so far, and of one more
pub found_more : {X Y : Type 0} (h : X → Option Y) (xs : List X) (i : ℕ) (d : X) → i < length xs
    → filter_map h (take (i + 1) xs) ≡ filter_map h (take i xs) ++ option_to_list (h (get_or xs i d))
found_more h xs i d within =
    ap (filter_map h) (take_more xs i d within) ∙ filter_map-append h (take i xs) (get_or xs i d ∷ [])
    ∙ ap (λ l. filter_map h (take i xs) ++ l) (found-one h (get_or xs i d))

first-set : (m n x : ℕ) → m ≡ suc n → slice_set (zeros m) 0 x ≡ x ∷ zeros n
first-set m n x is = ap (λ k. slice_set (zeros k) 0 x) is

-- a time of which the entries below this one are set, and this one too
pub set_next : (last : List ℕ) (n x : ℕ) (now next : List ℕ) → n < length last → x ≡ entry last n
    → now ≡ take n last ++ zeros (length last - n) → next ≡ slice_set now n x
    → next ≡ take (n + 1) last ++ zeros (length last - (n + 1))
set_next last n x now next within is so_far more =
    let many : length (take n last) ≡ n = length-take-le n last (omega (arith, within)) in
    let none : n - n ≡ 0 = omega arith in
    let rest : length last - n ≡ suc (length last - (n + 1)) = omega (arith, within) in
    more ∙ ap (λ l. slice_set l n x) so_far ∙ set-append_right (take n last) (zeros (length last - n)) n n x many (omega arith)
    ∙ ap (λ k. take n last ++ slice_set (zeros (length last - n)) k x) none
    ∙ ap (λ l. take n last ++ l) (first-set (length last - n) (length last - (n + 1)) x rest)
    ∙ sym (append_assoc (take n last) (x ∷ []) (zeros (length last - (n + 1))))
    ∙ ap (λ y. (take n last ++ y ∷ []) ++ zeros (length last - (n + 1))) is
    ∙ ap (λ l. l ++ zeros (length last - (n + 1))) (sym (take_more last n 0 within))

pub each_next : {X Y : Type 0} (of : ℕ → X → List Y) (xs : List X) (i : ℕ) (x d : X) (start now next : List Y) → i < length xs
    → x ≡ get_or xs i d → now ≡ start ++ each of (take i xs) → next ≡ now ++ of i x → next ≡ start ++ each of (take (i + 1) xs)
each_next of xs i x d start now next within is so_far more =
    more ∙ ap (λ l. l ++ of i x) so_far ∙ append_assoc start (each of (take i xs)) (of i x)
    ∙ ap (λ y. start ++ (each of (take i xs) ++ of i y)) is
    ∙ ap (λ l. start ++ l) (sym (each_more of xs i d within))

pub found_next : {X Y : Type 0} (h : X → Option Y) (xs : List X) (i : ℕ) (x d : X) (now next : List Y) → i < length xs
    → x ≡ get_or xs i d → now ≡ filter_map h (take i xs) → next ≡ now ++ option_to_list (h x) → next ≡ filter_map h (take (i + 1) xs)
found_next h xs i x d now next within is so_far more =
    more ∙ ap (λ l. l ++ option_to_list (h x)) so_far
    ∙ ap (λ y. filter_map h (take i xs) ++ option_to_list (h y)) is
    ∙ sym (found_more h xs i d within)
