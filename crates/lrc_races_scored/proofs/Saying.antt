-- The words of a line, one after another.
use Rattle.std.proofs.Common.{◌≡◌, ◌∙◌, ℕ, List, [], ◌∷◌, ◌++◌, ap, append_assoc}
use Rattle.std.specs.Prelude.{OnOk, Result}
use Rattle.std.proofs.lemmas.List.{append-nil}
use Rattle.std.proofs.lemmas.Result.{on_ok_weaker}
use Rattle.lrc_races_text.specs.Spelled.{together}

three : (old a b c : List ℕ) → (((old ++ a) ++ b) ++ c) ++ [] ≡ old ++ together (a ∷ b ∷ c ∷ [])
three old a b c = simp (append_assoc, append-nil)

pub three_said : {T E : Type 0} (result : Result T E) (old one new a b c : List ℕ) → one ≡ (old ++ a) ++ b → OnOk result (new ≡ (one ++ c) ++ [])
    → OnOk result (new ≡ old ++ together (a ∷ b ∷ c ∷ []))
three_said result old one new a b c e ok = on_ok_weaker result (λ is. is ∙ ap (λ t. (t ++ c) ++ []) e ∙ three old a b c) ok

five : (old a b c d e : List ℕ) → (((((old ++ a) ++ b) ++ c) ++ d) ++ e) ++ [] ≡ old ++ together (a ∷ b ∷ c ∷ d ∷ e ∷ [])
five old a b c d e = simp (append_assoc, append-nil)

pub five_said : {T E : Type 0} (result : Result T E) (old one two new a b b' c d d' e : List ℕ) → b ≡ b' → d ≡ d' → one ≡ (old ++ a) ++ b
    → two ≡ (one ++ c) ++ d → OnOk result (new ≡ (two ++ e) ++ []) → OnOk result (new ≡ old ++ together (a ∷ b' ∷ c ∷ d' ∷ e ∷ []))
five_said result old one two new a b b' c d d' e same same' f g ok =
    on_ok_weaker result (λ is. is ∙ ap (λ t. (t ++ e) ++ []) (g ∙ ap (λ t. (t ++ c) ++ d) f ∙ ap (λ w. (((old ++ a) ++ w) ++ c) ++ d) same
    ∙ ap (λ w. (((old ++ a) ++ b') ++ c) ++ w) same') ∙ five old a b' c d' e) ok

eleven : (old a b c d e f g h i j k : List ℕ) → (((((((((((old ++ a) ++ b) ++ c) ++ d) ++ e) ++ f) ++ g) ++ h) ++ i) ++ j) ++ k) ++ []
    ≡ old ++ together (a ∷ b ∷ c ∷ d ∷ e ∷ f ∷ g ∷ h ∷ i ∷ j ∷ k ∷ [])
eleven old a b c d e f g h i j k = simp (append_assoc, append-nil)

pub eleven_said : {T E : Type 0} (result : Result T E) (old one two three four five new a b b' c d e f g h i j k : List ℕ) → b ≡ b' → one ≡ (old ++ a) ++ b
    → two ≡ (one ++ c) ++ d → three ≡ (two ++ e) ++ f → four ≡ (three ++ g) ++ h → five ≡ (four ++ i) ++ j → OnOk result (new ≡ (five ++ k) ++ [])
    → OnOk result (new ≡ old ++ together (a ∷ b' ∷ c ∷ d ∷ e ∷ f ∷ g ∷ h ∷ i ∷ j ∷ k ∷ []))
eleven_said result old one two three four five new a b b' c d e f g h i j k same e1 e2 e3 e4 e5 ok =
    on_ok_weaker result (λ is. is ∙ ap (λ t. (t ++ k) ++ []) (e5 ∙ ap (λ t. (t ++ i) ++ j) (e4 ∙ ap (λ t. (t ++ g) ++ h) (e3
    ∙ ap (λ t. (t ++ e) ++ f) (e2 ∙ ap (λ t. (t ++ c) ++ d) (e1 ∙ ap (λ w. (old ++ a) ++ w) same))))) ∙ eleven old a b' c d e f g h i j k) ok
