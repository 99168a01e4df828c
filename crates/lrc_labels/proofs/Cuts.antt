-- What a text is cut into.
use Rattle.std.proofs.Common.{◌≡◌, ◌∙◌, ◌<◌, ◌≤◌, ◌+◌, ◌-◌, ℕ, suc, Bool, true, false, cond, not}
use Rattle.std.proofs.Common.{ap, arith, sym, refl, List, [], ◌∷◌, length, take, drop, Some, None, subst}
use Rattle.std.specs.List.{prefix_len, position}
use Rattle.std.proofs.lemmas.List.{take_rest, length-drop}
use Rattle.std.specs.Prelude.{nat_lt}
use borrow.Author.Tests.{ltb-true, ltb-false}
use Rattle.lrc_labels.specs.Cut.{cut, in_front}

-- how many bytes stand in front of the first divider
abbrev pub before : (ℕ → Bool) → List ℕ → ℕ
before is_divider text = prefix_len (λ byte. not (is_divider byte)) text

-- a text without a divider is one piece
pub cut_whole : (is_divider : ℕ → Bool) (text : List ℕ) → length text ≤ before is_divider text → cut is_divider text ≡ text ∷ []
cut_whole is_divider [] h = refl
cut_whole is_divider (byte ∷ rest) h = first (cut_whole is_divider rest) (is_divider byte) h
  where
    first : (length rest ≤ before is_divider rest → cut is_divider rest ≡ rest ∷ []) → (b : Bool) → suc (length rest) ≤ cond (not b) (1 + before is_divider rest) 0
        → cond b ([] ∷ cut is_divider rest) (in_front byte (cut is_divider rest)) ≡ (byte ∷ rest) ∷ []
    first more true k = absurd (omega arith)
    first more false k = ap (in_front byte) (more (omega arith))

abbrev CutsFirst : (ℕ → Bool) → List ℕ → Type 0
CutsFirst is_divider text =
    before is_divider text < length text
    → cut is_divider text ≡ take (before is_divider text) text ∷ cut is_divider (drop (before is_divider text + 1) text)

-- the first piece stands in front of the first divider
pub cut_first : (is_divider : ℕ → Bool) (text : List ℕ) → before is_divider text < length text
    → cut is_divider text ≡ take (before is_divider text) text ∷ cut is_divider (drop (before is_divider text + 1) text)
cut_first is_divider [] h = absurd (omega arith)
cut_first is_divider (byte ∷ rest) h = first (cut_first is_divider rest) (is_divider byte) h
  where
    first : CutsFirst is_divider rest → (b : Bool) → cond (not b) (1 + before is_divider rest) 0 < suc (length rest)
        → cond b ([] ∷ cut is_divider rest) (in_front byte (cut is_divider rest))
        ≡ take (cond (not b) (1 + before is_divider rest) 0) (byte ∷ rest) ∷ cut is_divider (drop (cond (not b) (1 + before is_divider rest) 0 + 1) (byte ∷ rest))
    first more true k = refl
    first more false k =
        let one : 1 + before is_divider rest ≡ suc (before is_divider rest) = omega arith in
        let two : 1 + before is_divider rest + 1 ≡ suc (before is_divider rest + 1) = omega arith in
        ap (in_front byte) (more (omega arith))
        ∙ sym (ap (λ (n : ℕ). take n (byte ∷ rest) ∷ cut is_divider (drop (1 + before is_divider rest + 1) (byte ∷ rest))) one
        ∙ ap (λ (n : ℕ). take (suc (before is_divider rest)) (byte ∷ rest) ∷ cut is_divider (drop n (byte ∷ rest))) two)

-- where `position` finds a divider, and where it finds none
pub cut_at : (is_divider : ℕ → Bool) (text : List ℕ) (at : ℕ) → Some at ≡ position is_divider text
    → (at < length text) × (cut is_divider text ≡ take at text ∷ cut is_divider (drop (at + 1) text))
cut_at is_divider text at h = found (nat_lt (before is_divider text) (length text)) (before is_divider text) refl refl h
  where
    found : (b : Bool) (n : ℕ) → nat_lt (before is_divider text) (length text) ≡ b → before is_divider text ≡ n → Some at ≡ cond b (Some n) None
        → (at < length text) × (cut is_divider text ≡ take at text ∷ cut is_divider (drop (at + 1) text))
    found true n lt is e =
        let same : at ≡ before is_divider text = cc in
        let within : before is_divider text < length text = omega (arith, ltb-true _ _ lt) in
        (omega arith, subst (λ m. cut is_divider text ≡ take m text ∷ cut is_divider (drop (m + 1) text)) (sym same) (cut_first is_divider text within))
    found false n lt is e = absurd (cc)

pub cut_none : (is_divider : ℕ → Bool) (text : List ℕ) → None ≡ position is_divider text → cut is_divider text ≡ text ∷ []
cut_none is_divider text h = none (nat_lt (before is_divider text) (length text)) refl h
  where
    none : (b : Bool) → nat_lt (before is_divider text) (length text) ≡ b → None ≡ cond b (Some (before is_divider text)) None → cut is_divider text ≡ text ∷ []
    none true lt e = absurd (cc)
    none false lt e = cut_whole is_divider text (omega (arith, ltb-false _ _ lt))

-- the same, with what stands behind the divider as code reads it
pub cut_found : (is_divider : ℕ → Bool) (text : List ℕ) (at : ℕ) → Some at ≡ position is_divider text
    → (cut is_divider text ≡ take at text ∷ cut is_divider (take (length text - (at + 1)) (drop (at + 1) text)))
    × (length (take (length text - (at + 1)) (drop (at + 1) text)) < length text)
cut_found is_divider text at h =
    let there = cut_at is_divider text at h in
    let rest : take (length text - (at + 1)) (drop (at + 1) text) ≡ drop (at + 1) text = take_rest text (at + 1) in
    subst (λ (l : List ℕ). (cut is_divider text ≡ take at text ∷ cut is_divider l) × (length l < length text)) (sym rest)
    (there.1, omega (arith, length-drop (at + 1) text, there.0))
