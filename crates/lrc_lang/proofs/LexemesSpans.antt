-- Fronts of a text that are as long as they can be.
use Rattle.std.proofs.Common.{◌≡◌, ℕ, ◌<◌, ◌≤◌, List, [], ◌∷◌, ◌++◌, length, get_or, take, drop, sym, ap, subst, arith, All, length-append}
use Rattle.std.proofs.lemmas.List.{take-append-drop, drop_more}
use Rattle.lrc_lang.specs.Lexemes.{BeginsWith, IsSpan}

-- a front that ends before a byte of another kind
pub span_before : (P : ℕ → Type 0) (text : List ℕ) (place : ℕ) → place < length text → All P (take place text) → ¬ P (get_or text place 0)
    → IsSpan P text (take place text) (drop place text)
span_before P text place within each other = record {
  whole = sym (take-append-drop place text);
  each = each;
  no_more = λ h. other (rw (drop_more text place 0 within) at h);
}

-- where the text begins so, the rest is shorter
pub span_takes : {P : ℕ → Type 0} {text front rest : List ℕ} → BeginsWith P text → IsSpan P text front rest → length rest < length text
span_takes {P} {text} {front} {rest} begins span = go front span.whole
  where
    go : (xs : List ℕ) → text ≡ xs ++ rest → length rest < length text
    go [] e = absurd (span.no_more (subst (λ t. BeginsWith P t) e begins))
    go (x ∷ xs) e = omega (arith, ap length e, length-append xs rest)

pub span_keeps : {P : ℕ → Type 0} {text front rest : List ℕ} → IsSpan P text front rest → length rest ≤ length text
span_keeps {front = front} {rest = rest} span = omega (arith, ap length span.whole, length-append front rest)
