-- What changes in a list of numbers, each as often as it is due, when one number is due once less.
use Rattle.std.proofs.Common.{◌≡◌, ℕ, zero, suc, ◌+◌, ◌-◌, ◌<◌, ◌∙◌, ◌⊎◌, inl, inr, List, [], ◌∷◌, ◌++◌, length}
use Rattle.std.proofs.Common.{get_or, take, drop, replicate, refl, sym, ap, ⊎_elim, arith}
use Rattle.std.specs.Prelude.{Some, slice_get}
use Rattle.std.proofs.lemmas.Grind.{common_steps, replicate_next}
use Rattle.std.proofs.lemmas.List.{append-nil, append_cancel_right, get_or_push, take_more, take_all, length-append}
use Rattle.std.proofs.lemmas.Option.{slice_get_within, get_or_from_slice_get}
use Rattle.lrc_envelope.specs.declared.picker.Picker.{Picker}
use Rattle.lrc_envelope.specs.declared.picker.Picker.TheVariants.{Oldest, Newest, Twice}
use Rattle.lrc_post.specs.Wires.{each_due, given_next, without_next}

-- what is due below a number depends on nothing else
pub same_due : (f g : ℕ → ℕ) (n : ℕ) → ((k : ℕ) → k < n → g k ≡ f k) → each_due g n ≡ each_due f n
unfolding each_due
same_due f g zero same = refl
same_due f g (suc n) same =
    ap (λ xs. xs ++ replicate (g n) n) (same_due f g n (λ k below. same k (omega arith)))
    ∙ ap (λ m. each_due f n ++ replicate m n) (same n (omega arith))

-- the first of two lists, one after the other, is that of the first, or the first list has none
first_of : (p : ℕ) (rest xs ys : List ℕ) → xs ++ ys ≡ p ∷ rest
    → ((xs ≡ []) × (ys ≡ p ∷ rest)) ⊎ ((more : List ℕ) × (xs ≡ p ∷ more) × (more ++ ys ≡ rest))
first_of p rest [] ys is = inl (refl, is)
first_of p rest (x ∷ xs) ys is = inr (xs, ap (λ h. h ∷ xs) (ap (λ l. get_or l 0 0) is), ap (drop 1) is)

-- the first of a number some times over
first_copy : (n p k : ℕ) (rest : List ℕ) → replicate k n ≡ p ∷ rest
    → (j : ℕ) × (k ≡ suc j) × (n ≡ p) × (replicate j n ≡ rest)
first_copy n p zero rest is = grind (arith, ap length is)
first_copy n p (suc k) rest is = (k, refl, ap (λ l. get_or l 0 0) is, ap (drop 1) is)

-- the first number that is due is below the end, and due
pub first_due : (f : ℕ → ℕ) (n p : ℕ) (rest : List ℕ) → each_due f n ≡ p ∷ rest → (p < n) × (0 < f p)
unfolding each_due
first_due f zero p rest is = grind (arith, ap length is)
first_due f (suc n) p rest is =
    ⊎_elim
    (λ (none : (each_due f n ≡ []) × (replicate (f n) n ≡ p ∷ rest)).
    let copy = first_copy n p (f n) rest none.1 in
    let here : n ≡ p = copy.2 in
    let many : f n ≡ suc copy.0 = copy.1 in
    (omega (arith, here), rw (sym here) (omega (arith, many))))
    (λ (some : (more : List ℕ) × (each_due f n ≡ p ∷ more) × (more ++ replicate (f n) n ≡ rest)).
    let before = first_due f n p some.0 some.1 in
    (omega (arith, before.0), before.1))
    (first_of p rest (each_due f n) (replicate (f n) n) is)

-- once the first is due once less, the others are left
pub oldest_given : (f g : ℕ → ℕ) (n p : ℕ) (rest : List ℕ) → each_due f n ≡ p ∷ rest
    → ((k : ℕ) → k < n → (k ≡ p → ⊥) → g k ≡ f k) → f p ≡ suc (g p) → each_due g n ≡ rest
unfolding each_due
oldest_given f g zero p rest is same less = grind (arith, ap length is)
oldest_given f g (suc n) p rest is same less =
    ⊎_elim
    (λ (none : (each_due f n ≡ []) × (replicate (f n) n ≡ p ∷ rest)).
    let copy = first_copy n p (f n) rest none.1 in
    let here : n ≡ p = copy.2 in
    let many : f n ≡ suc copy.0 = copy.1 in
    let less_here : f n ≡ suc (g n) = rw here less in
    let left : g n ≡ copy.0 = omega (arith, many, less_here) in
    let below : each_due g n ≡ each_due f n = same_due f g n (λ k h. same k (omega arith) (λ e. omega (arith, e, here))) in
    ap (λ xs. xs ++ replicate (g n) n) (below ∙ none.0) ∙ ap (λ m. replicate m n) left ∙ copy.3)
    (λ (some : (more : List ℕ) × (each_due f n ≡ p ∷ more) × (more ++ replicate (f n) n ≡ rest)).
    let before = first_due f n p some.0 some.1 in
    let below : each_due g n ≡ some.0 = oldest_given f g n p some.0 some.1 (λ k h. same k (omega arith)) less in
    let here : g n ≡ f n = same n (omega arith) (λ e. omega (arith, e, before.0)) in
    ap (λ xs. xs ++ replicate (g n) n) below ∙ ap (λ m. some.0 ++ replicate m n) here ∙ some.2)
    (first_of p rest (each_due f n) (replicate (f n) n) is)

-- two lists with a last element are the same only where both parts are
same_last : (xs ys : List ℕ) (x y : ℕ) → xs ++ x ∷ [] ≡ ys ++ y ∷ [] → (xs ≡ ys) × (x ≡ y)
same_last xs ys x y is =
    let long : length xs ≡ length ys =
    omega (arith, sym (length-append xs (x ∷ [])) ∙ ap length is ∙ length-append ys (y ∷ [])) in
    let same : x ≡ y =
    sym (get_or_push xs x 0 (length xs) refl) ∙ ap (λ l. get_or l (length xs) 0) is ∙ get_or_push ys y 0 (length xs) (sym long) in
    (append_cancel_right xs ys (y ∷ []) (ap (λ z. xs ++ z ∷ []) (sym same) ∙ is), same)

-- no numbers have no last
no_last : (front : List ℕ) (p : ℕ) → [] ≡ front ++ p ∷ [] → ⊥
no_last front p is = omega (arith, ap length is ∙ length-append front (p ∷ []))

-- where a number is due, it stands last
last_copy : (f : ℕ → ℕ) (n j : ℕ) → f n ≡ suc j → each_due f (suc n) ≡ (each_due f n ++ replicate j n) ++ n ∷ []
unfolding each_due
last_copy f n j is =
    ap (λ m. each_due f n ++ replicate m n) is ∙ grind (arith, common_steps, replicate_next j n)

-- a number is due or not
due_or_not : (m : ℕ) → (m ≡ 0) ⊎ ((j : ℕ) × (m ≡ suc j))
due_or_not zero = inl refl
due_or_not (suc j) = inr (j, refl)

-- where the last number isn't due, nothing of it is there
none_here : (f : ℕ → ℕ) (n : ℕ) → f n ≡ 0 → each_due f (suc n) ≡ each_due f n
unfolding each_due
none_here f n is = ap (λ m. each_due f n ++ replicate m n) is ∙ append-nil (each_due f n)

-- the last number that is due is below the end, and due
pub last_due : (f : ℕ → ℕ) (n p : ℕ) (front : List ℕ) → each_due f n ≡ front ++ p ∷ [] → (p < n) × (0 < f p)
unfolding each_due
last_due f zero p front is = absurd (no_last front p is)
last_due f (suc n) p front is =
    ⊎_elim
    (λ (none : f n ≡ 0).
    let before = last_due f n p front (sym (none_here f n none) ∙ is) in
    (omega (arith, before.0), before.1))
    (λ (some : (j : ℕ) × (f n ≡ suc j)).
    let here : n ≡ p = (same_last (each_due f n ++ replicate some.0 n) front n p (sym (last_copy f n some.0 some.1) ∙ is)).1 in
    (omega (arith, here), rw (sym here) (omega (arith, some.1))))
    (due_or_not (f n))

-- once the last is due once less, the others are left
pub newest_given : (f g : ℕ → ℕ) (n p : ℕ) (front : List ℕ) → each_due f n ≡ front ++ p ∷ []
    → ((k : ℕ) → k < n → (k ≡ p → ⊥) → g k ≡ f k) → f p ≡ suc (g p) → each_due g n ≡ front
unfolding each_due
newest_given f g zero p front is same less = absurd (no_last front p is)
newest_given f g (suc n) p front is same less =
    ⊎_elim
    (λ (none : f n ≡ 0).
    let was : each_due f n ≡ front ++ p ∷ [] = sym (none_here f n none) ∙ is in
    let before = last_due f n p front was in
    let here : g n ≡ f n = same n (omega arith) (λ e. omega (arith, e, before.0)) in
    none_here g n (here ∙ none) ∙ newest_given f g n p front was (λ k h. same k (omega arith)) less)
    (λ (some : (j : ℕ) × (f n ≡ suc j)).
    let parts = same_last (each_due f n ++ replicate some.0 n) front n p (sym (last_copy f n some.0 some.1) ∙ is) in
    let here : n ≡ p = parts.1 in
    let less_here : f n ≡ suc (g n) = rw here less in
    let left : g n ≡ some.0 = omega (arith, some.1, less_here) in
    let below : each_due g n ≡ each_due f n = same_due f g n (λ k h. same k (omega arith) (λ e. omega (arith, e, here))) in
    ap (λ xs. xs ++ replicate (g n) n) below ∙ ap (λ m. each_due f n ++ replicate m n) left ∙ parts.0)
    (due_or_not (f n))

-- a list that has a first element
first_next : (xs : List ℕ) (p : ℕ) → slice_get xs 0 ≡ Some p → xs ≡ p ∷ drop 1 xs
first_next xs p is = grind (arith, common_steps)

-- a list that has a last element
last_next : (xs : List ℕ) (p : ℕ) → slice_get xs (length xs - 1) ≡ Some p → xs ≡ take (length xs - 1) xs ++ p ∷ []
last_next xs p is =
    let within : length xs - 1 < length xs = slice_get_within xs (length xs - 1) p is in
    let whole : length xs - 1 + 1 ≡ length xs = omega (arith, within) in
    sym (take_all (length xs) xs (omega arith)) ∙ ap (λ k. take k xs) (sym whole) ∙ take_more xs (length xs - 1) p within
    ∙ ap (λ x. take (length xs - 1) xs ++ x ∷ []) (get_or_from_slice_get xs (length xs - 1) p p is)

-- what is given next is below the end, and due
pub next_due : (picker : Picker) (f : ℕ → ℕ) (n p : ℕ) → given_next picker (each_due f n) ≡ Some p → (p < n) × (0 < f p)
next_due Oldest f n p is = first_due f n p _ (first_next _ p is)
next_due Newest f n p is = last_due f n p _ (last_next _ p is)
next_due Twice f n p is = first_due f n p _ (first_next _ p is)

-- once it is due once less, the others are left
pub next_given : (picker : Picker) (f g : ℕ → ℕ) (n p : ℕ) → given_next picker (each_due f n) ≡ Some p
    → ((k : ℕ) → k < n → (k ≡ p → ⊥) → g k ≡ f k) → f p ≡ suc (g p) → each_due g n ≡ without_next picker (each_due f n)
next_given Oldest f g n p is = oldest_given f g n p _ (first_next _ p is)
next_given Newest f g n p is = newest_given f g n p _ (last_next _ p is)
next_given Twice f g n p is = oldest_given f g n p _ (first_next _ p is)
