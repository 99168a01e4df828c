-- Lists that grow by what stands for each item.
use Rattle.std.proofs.Common.{◌≡◌, ◌<◌, ◌+◌, ℕ, List, [], ◌∷◌, ◌++◌, map, length, take, get_or, refl, sym, ap, ◌∙◌, append_assoc, append-nil, add-one}
use Rattle.std.specs.Prelude.{Result, Ok, Err, OnOk}
use Rattle.std.proofs.Math.Seq.{take-suc}

-- one of the items, seen so
seen_last : {A B : Type 0} (f : A → B) (old : List A) (x : A) → map f (old ++ x ∷ []) ≡ map f old ++ f x ∷ []
seen_last f [] x = refl
seen_last f (y ∷ ys) x = ap (λ l. f y ∷ l) (seen_last f ys x)

pub seen_push : {A B : Type 0} (f : A → B) (old new : List A) (x : A) → new ≡ old ++ x ∷ [] → map f new ≡ map f old ++ f x ∷ []
seen_push f old new x grown = ap (map f) grown ∙ seen_last f old x

-- a list that has a piece for each item
pub record IsPieced {A B : Type 0} (f : List A → List B) (g : A → List B) : Type 0 where
  pub nothing : f [] ≡ []
  pub next : (x : A) (xs : List A) → f (x ∷ xs) ≡ g x ++ f xs

last_piece : {A B : Type 0} (f : List A → List B) (g : A → List B) → IsPieced f g → (xs : List A) (x : A) → f (xs ++ x ∷ []) ≡ f xs ++ g x
last_piece f g is [] x = is.next x [] ∙ ap (λ l. g x ++ l) is.nothing ∙ append-nil (g x) ∙ ap (λ l. l ++ g x) (sym is.nothing)
last_piece f g is (y ∷ ys) x =
    is.next y (ys ++ x ∷ []) ∙ ap (λ l. g y ++ l) (last_piece f g is ys x) ∙ sym (append_assoc (g y) (f ys) (g x)) ∙ ap (λ l. l ++ g x) (sym (is.next y ys))

pub piece_step : {A B : Type 0} (f : List A → List B) (g : A → List B) → IsPieced f g → (xs : List A) (i : ℕ) (x : A) (start old new : List B)
    → i < length xs → x ≡ get_or xs i x → old ≡ start ++ f (take i xs) → new ≡ old ++ g x → new ≡ start ++ f (take (i + 1) xs)
piece_step f g is xs i x start old new lt here before grown =
    let cut : take (i + 1) xs ≡ take i xs ++ x ∷ [] = rw add-one (take-suc xs i x lt ∙ ap (λ y. take i xs ++ y ∷ []) (sym here)) in
    grown ∙ ap (λ l. l ++ g x) before ∙ append_assoc start (f (take i xs)) (g x) ∙ ap (λ l. start ++ l) (sym (last_piece f g is (take i xs) x))
    ∙ ap (λ l. start ++ f l) (sym cut)

pub piece_step_at : {A B : Type 0} (f : List A → List B) (g : A → List B) → IsPieced f g → (xs : List A) (i : ℕ) (d : A) (start old new : List B)
    → i < length xs → old ≡ start ++ f (take i xs) → new ≡ old ++ g (get_or xs i d) → new ≡ start ++ f (take (i + 1) xs)
piece_step_at f g is xs i d start old new lt before grown =
    let cut : take (i + 1) xs ≡ take i xs ++ get_or xs i d ∷ [] = rw add-one (take-suc xs i d lt) in
    grown ∙ ap (λ l. l ++ g (get_or xs i d)) before ∙ append_assoc start (f (take i xs)) (g (get_or xs i d))
    ∙ ap (λ l. start ++ l) (sym (last_piece f g is (take i xs) (get_or xs i d))) ∙ ap (λ l. start ++ f l) (sym cut)

-- what is so of a result that went well
pub well : {A E : Type 0} (P Q : Type 0) (r : Result A E) → (P → Q) → OnOk r P → OnOk r Q
well P Q (Ok x) f h = f h
well P Q (Err e) f h = tt

-- two pieces and three
pub two_pieces : {B : Type 0} (old one new a b : List B) → one ≡ old ++ a → new ≡ one ++ b → new ≡ old ++ (a ++ b)
two_pieces old one new a b first second = second ∙ ap (λ l. l ++ b) first ∙ append_assoc old a b

pub four_pieces : {B : Type 0} (old one two three new a b c d : List B) → one ≡ old ++ a → two ≡ one ++ b → three ≡ two ++ c → new ≡ three ++ d
    → new ≡ old ++ (a ++ (b ++ (c ++ d)))
four_pieces old one two three new a b c d first second third fourth =
    let end = two_pieces two three new c d third fourth in
    let back = two_pieces one two new b (c ++ d) second end in
    two_pieces old one new a (b ++ (c ++ d)) first back
