-- What was added one behind the other.
use Rattle.std.proofs.Common.{◌≡◌, ℕ, List, ◌++◌, append_assoc}

pub four_pushed : (old : List ℕ) {first second third fourth : List ℕ} (a b c d : List ℕ) → first ≡ old ++ a → second ≡ first ++ b → third ≡ second ++ c
    → fourth ≡ third ++ d → fourth ≡ old ++ (a ++ b ++ c ++ d)
four_pushed old a b c d h1 h2 h3 h4 = rw (h4, h3, h2, h1) (simp append_assoc)
