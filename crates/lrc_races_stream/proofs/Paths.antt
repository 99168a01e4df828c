-- Whether a path is `-`.
use Rattle.std.proofs.Common.{◌≡◌, ◌∙◌, ℕ, Bool, List, codes, false, sym, true, true≢false}
use Rattle.std.proofs.lemmas.Slice.Eq.{bytes_eq-Decides}
use Rattle.std.specs.Str.{bytes_eq}

pub is_dash : (path : List ℕ) (test : Bool) → test ≡ bytes_eq path (codes "-") → test ≡ true → path ≡ codes "-"
is_dash path test is holds = (bytes_eq-Decides path (codes "-")).0 (sym is ∙ holds)

pub is_other : (path : List ℕ) (test : Bool) → test ≡ bytes_eq path (codes "-") → test ≡ false → path ≡ codes "-" → ⊥
is_other path test is fails dash = true≢false (sym ((bytes_eq-Decides path (codes "-")).1 dash) ∙ sym is ∙ fails)
