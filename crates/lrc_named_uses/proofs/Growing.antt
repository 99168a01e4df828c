-- Lists that grow by three pieces, and those that have some for each item.
use Rattle.std.proofs.Common.{◌≡◌, List, ◌++◌, map, refl}
use Rattle.std.specs.List.{flat_map}
use Rattle.lrc_named_statement_faults.proofs.Growing.{IsPieced, two_pieces}

pub three_pieces : {B : Type 0} (old one two new a b c : List B) → one ≡ old ++ a → two ≡ one ++ b → new ≡ two ++ c → new ≡ old ++ (a ++ (b ++ c))
three_pieces old one two new a b c first second third = two_pieces old one new a (b ++ c) first (two_pieces one two new b c second third)

pub flat_pieced : {A S B : Type 0} (of : S → List B) (seen : A → S) → IsPieced (λ (xs : List A). flat_map of (map seen xs)) (λ x. of (seen x))
flat_pieced of seen = record { nothing = refl; next = λ x xs. refl }
