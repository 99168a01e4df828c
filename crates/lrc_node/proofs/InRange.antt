-- What is in range, as the code tests it and as the protocol says it.
use Rattle.std.proofs.Common.{◌≡◌, ℕ, Bool, true, false, List, refl, sym}
use Rattle.std.specs.Prelude.{IsTrue, ◌↔◌}
use Rattle.std.proofs.lemmas.Bool.{false≢true, false_from_ne_true}
use Rattle.lrc_time.specs.Time.{Covers, covers}
use Rattle.lrc_time.proofs.Times.{covers-true, covers-holds}

-- the test of a time against another
pub covers_is : (r : Bool) (a b : List ℕ) → (IsTrue r ↔ Covers a b) → r ≡ covers a b
covers_is true a b iff = sym (covers-holds a b (iff.0 refl))
covers_is false a b iff = sym (false_from_ne_true (covers a b) (λ h. false≢true (iff.1 (covers-true a b h))))
