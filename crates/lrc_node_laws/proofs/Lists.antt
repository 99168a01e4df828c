-- Lists.
use Rattle.std.proofs.Common.{◌≡◌, ℕ, ◌+◌, ◌<◌, ◌≤◌, List, [], ◌∷◌, length, refl, ◌∙◌, arith}
use Rattle.std.specs.Prelude.{Option, Some, None, All, min, unwrap_or, option_map, map, filter_map}
use Rattle.std.specs.List.{enumerate_from, cons_option}
use Rattle.std.proofs.lemmas.List.{length-map}
use Rattle.std.proofs.lemmas.List.FromFn.{length-enumerate_from}
use Rattle.std.proofs.lemmas.List.Elements.{All-nil, All-cons, All-head, All-tail}
use Rattle.lrc_protocol.specs.Barriers.{least}

-- ---- lists made from each element with its place

pub length-placed : {X Y : Type 0} (f : ℕ × X → Y) (xs : List X) → length (map f (enumerate_from 0 xs)) ≡ length xs
length-placed f xs = length-map (enumerate_from 0 xs) f ∙ length-enumerate_from 0 xs

pub All-placed : {X Y : Type 0} (P : X → Type 0) (Q : Y → Type 0) (f : ℕ × X → Y) → ((n : ℕ) (x : X) → P x → Q (f (n, x))) → (start : ℕ) (xs : List X)
    → All P xs → All Q (map f (enumerate_from start xs))
All-placed P Q f says start [] h = All-nil Q
All-placed P Q f says start (x ∷ xs) h =
    All-cons Q (f (start, x)) (map f (enumerate_from (start + 1) xs)) (says start x (All-head P x xs h))
    (All-placed P Q f says (start + 1) xs (All-tail P x xs h))

All-cons_option : {X : Type 0} (P : X → Type 0) (o : Option X) (xs : List X) → ((x : X) → o ≡ Some x → P x) → All P xs → All P (cons_option o xs)
All-cons_option P None xs says h = h
All-cons_option P (Some x) xs says h = All-cons P x xs (says x refl) h

pub All-chosen : {X Y : Type 0} (P : X → Type 0) (Q : Y → Type 0) (f : X → Option Y) → ((x : X) (y : Y) → P x → f x ≡ Some y → Q y) → (xs : List X)
    → All P xs → All Q (filter_map f xs)
All-chosen P Q f says [] h = All-nil Q
All-chosen P Q f says (x ∷ xs) h =
    All-cons_option Q (f x) (filter_map f xs) (λ y e. says x y (All-head P x xs h) e) (All-chosen P Q f says xs (All-tail P x xs h))

pub places-below : {X : Type 0} (start n : ℕ) (xs : List X) → start + length xs ≤ n → All (λ (place : ℕ × X). place.0 < n) (enumerate_from start xs)
places-below start n [] h = All-nil (λ place. place.0 < n)
places-below start n (x ∷ xs) h =
    All-cons (λ place. place.0 < n) (start, x) (enumerate_from (start + 1) xs) (omega arith) (places-below (start + 1) n xs (omega arith))

-- ---- the least of some numbers

least-below : (n : ℕ) (o : Option ℕ) (x : ℕ) → x < n → unwrap_or (option_map (min x) o) x < n
least-below n None x lt = lt
least-below n (Some y) x lt = omega arith

pub least_or-below : (n : ℕ) (xs : List ℕ) (other : ℕ) → All (λ x. x < n) xs → other < n → unwrap_or (least xs) other < n
least_or-below n [] other h lt = lt
least_or-below n (x ∷ xs) other h lt = least-below n (least xs) x (All-head (λ x. x < n) x xs h)
