-- What `lint` says of a text.
use Rattle.std.proofs.Common.{◌≡◌, ℕ, List, Option, Some, None, MatchOption, Result, Ok, Err, IfOk, inl, inr}
use Rattle.lrc_text.specs.Parts.{whole_text}
use Rattle.lrc_lint_fault.specs.declared.linted.Linted.{Linted}
use Rattle.lrc_named.specs.Named.{IsReadAsNamed}
use Rattle.lrc_named_linted.specs.Linted.{IsSound}
use Rattle.lrc_named_warned.specs.Warned.{HasFault}
use Rattle.lrc_named_warned.proofs.Telling.{not_faulty}
use Rattle.lrc_cli.specs.Answer.{IsLinted, IsLintedAsCore, IsToldAsNamed}

pub none_case : {A : Type 0} (P : Type 0) (Q : A → Type 0) (o : Option A) → o ≡ None → MatchOption o P Q → P
none_case P Q None e h = h
none_case P Q (Some a) e h = absurd (cc)

pub sound_has_no_fault : (text : List ℕ) → IsSound text → HasFault text → ⊥
sound_has_no_fault text sound fault = not_faulty text sound.tokens sound.tree sound.declared sound.core sound.is sound.written fault

-- of a text that is read as a named program
pub named_told : {E : Type 0} (file text : List ℕ) (r : Result Linted E) → IsReadAsNamed text
    → IfOk r (λ linted. IsToldAsNamed file text (whole_text linted.parts.items) linted.status)
    → IfOk r (λ linted. IsLinted file text (whole_text linted.parts.items) linted.status)
named_told file text (Ok linted) named told = inl (named, told)
named_told file text (Err e) named told = tt

-- of a text of the core
pub core_told : {E : Type 0} (file text : List ℕ) (r : Result Linted E) → (IsReadAsNamed text → ⊥)
    → IfOk r (λ linted. IsLintedAsCore file text (whole_text linted.parts.items) linted.status)
    → IfOk r (λ linted. IsLinted file text (whole_text linted.parts.items) linted.status)
core_told file text (Ok linted) other told = inr (other, told)
core_told file text (Err e) other told = tt
