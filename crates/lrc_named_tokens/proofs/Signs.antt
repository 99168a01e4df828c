-- Signs: one byte or two.
use Rattle.std.proofs.Common.{◌≡◌, ◌≢◌, ◌⊎◌, ℕ, ◌-◌, ◌≤◌, List, [], ◌∷◌, ◌++◌, length, refl, sym, ap, ◌∙◌, subst, arith, inl, inr}
use Rattle.lrc_lang.specs.Lexemes.{IsDigit, IsLetter, HasFront}
use Rattle.lrc_lang.specs.Lexer.{IsReady}
use Rattle.lrc_named_tokens.specs.declared.token.Sign.{Sign}
use Rattle.lrc_named_tokens.specs.declared.token.Sign.TheVariants as signs
use Rattle.lrc_named_tokens.specs.Token.{sign, token, bad_byte}
use Rattle.lrc_named_tokens.specs.Lexemes.{sign_text, IsSign, BeginsNothing, along, Lexes, takes_sign, stops_at_byte}
use Rattle.lrc_named_tokens.specs.Lexer.{Takes, HasNoLong, IsLong}

-- how a sign may be spelled
IsSpelling : List ℕ → Type 0
IsSpelling text = ((first : ℕ) × (text ≡ first ∷ [])) ⊎ ((first : ℕ) × (second : ℕ) × (text ≡ first ∷ second ∷ []))

sign_spelling : (mark : Sign) → IsSpelling (sign_text mark)
unfolding IsSpelling
sign_spelling signs.Semicolon = inl (_, refl)
sign_spelling signs.Assign = inl (_, refl)
sign_spelling signs.OpenBracket = inl (_, refl)
sign_spelling signs.CloseBracket = inl (_, refl)
sign_spelling signs.OpenBrace = inl (_, refl)
sign_spelling signs.CloseBrace = inl (_, refl)
sign_spelling signs.OpenParenthesis = inl (_, refl)
sign_spelling signs.CloseParenthesis = inl (_, refl)
sign_spelling signs.Plus = inl (_, refl)
sign_spelling signs.Minus = inl (_, refl)
sign_spelling signs.Star = inl (_, refl)
sign_spelling signs.Slash = inl (_, refl)
sign_spelling signs.Percent = inl (_, refl)
sign_spelling signs.Equal = inr (_, _, refl)
sign_spelling signs.NotEqual = inr (_, _, refl)
sign_spelling signs.Less = inl (_, refl)
sign_spelling signs.LessOrEqual = inr (_, _, refl)
sign_spelling signs.Greater = inl (_, refl)
sign_spelling signs.GreaterOrEqual = inr (_, _, refl)
sign_spelling signs.Comma = inl (_, refl)
sign_spelling signs.Range = inr (_, _, refl)
sign_spelling signs.AddAssign = inr (_, _, refl)
sign_spelling signs.SubtractAssign = inr (_, _, refl)

-- a sign at the front is one byte, or two that stand there
front_of_sign : (first : ℕ) (behind : List ℕ) (mark : Sign) → HasFront (first ∷ behind) (sign_text mark)
    → (sign_text mark ≡ first ∷ []) ⊎ ((second : ℕ) × (rest : List ℕ) × (sign_text mark ≡ first ∷ second ∷ []) × (behind ≡ second ∷ rest))
unfolding IsSpelling
front_of_sign first behind mark front = go (sign_text mark) (sign_spelling mark) front
  where
    go : (text : List ℕ) → IsSpelling text → HasFront (first ∷ behind) text
        → (text ≡ first ∷ []) ⊎ ((second : ℕ) × (rest : List ℕ) × (text ≡ first ∷ second ∷ []) × (behind ≡ second ∷ rest))
    go text (inl one) front =
        let e : first ∷ behind ≡ one.0 ∷ front.0 = front.1 ∙ ap (λ t. t ++ front.0) one.1 in
        let is : text ≡ one.0 ∷ [] = one.1 in
        inl (cc)
    go text (inr two) front =
        let e : first ∷ behind ≡ two.0 ∷ two.1 ∷ front.0 = front.1 ∙ ap (λ t. t ++ front.0) two.2 in
        let is : text ≡ two.0 ∷ two.1 ∷ [] = two.2 in
        inr (two.1, front.0, cc, cc)

length-sign_text : (mark : Sign) → length (sign_text mark) ≤ 2
unfolding IsSpelling
length-sign_text mark = go (sign_text mark) (sign_spelling mark)
  where
    go : (text : List ℕ) → IsSpelling text → length text ≤ 2
    go text (inl one) = omega (arith, ap length one.1)
    go text (inr two) = omega (arith, ap length two.2)

no_long_there : {first second : ℕ} {behind rest : List ℕ} → HasNoLong first behind → behind ≡ second ∷ rest → (mark : Sign)
    → sign_text mark ≢ first ∷ second ∷ []
no_long_there {first} none whole mark spelled = subst (HasNoLong first) whole none mark spelled

-- two bytes that are a sign
long_sign_is : {first : ℕ} {behind rest : List ℕ} {mark : Sign} → IsLong first behind mark rest → IsSign (first ∷ behind) mark rest
long_sign_is {first} {behind} {rest} {mark} is = record {
  whole = ap (λ t. first ∷ t) is.whole ∙ sym (ap (λ t. t ++ rest) is.spelled);
  longest = λ other front. omega (arith, length-sign_text other, ap length is.spelled);
}

pub long_sign_is_taken : {first : ℕ} {behind rest : List ℕ} {mark : Sign} → IsLong first behind mark rest → Takes (first ∷ behind) (token (sign mark)) rest
long_sign_is_taken {first} {behind} {rest} {mark} is p more follows =
    let two : length (first ∷ behind) - length rest ≡ length (sign_text mark) = omega (arith, ap length is.whole, ap length is.spelled) in
    takes_sign (long_sign_is is) (subst (λ n. Lexes (along n p) rest more) two follows)

-- a byte that is a sign, where no longer one stands
short_sign_is : {first : ℕ} {behind : List ℕ} {mark : Sign} → sign_text mark ≡ first ∷ [] → HasNoLong first behind → IsSign (first ∷ behind) mark behind
short_sign_is {first} {behind} {mark} is none = record {
  whole = sym (ap (λ t. t ++ behind) is);
  longest = λ other front. elim (front_of_sign first behind other front) [
    | inl one ↦ omega (arith, ap length one, ap length is)
    | inr two ↦ absurd (no_long_there none two.3 other two.2)
  ];
}

pub short_sign_is_taken : {first : ℕ} {behind : List ℕ} {mark : Sign} → sign_text mark ≡ first ∷ [] → HasNoLong first behind
    → Takes (first ∷ behind) (token (sign mark)) behind
short_sign_is_taken {first} {behind} {mark} is none p more follows =
    let one : length (first ∷ behind) - length behind ≡ length (sign_text mark) = omega (arith, ap length is) in
    takes_sign (short_sign_is is none) (subst (λ n. Lexes (along n p) behind more) one follows)

-- a byte that begins nothing
begins_nothing : {first : ℕ} {behind : List ℕ} → IsReady (first ∷ behind) → ¬ IsDigit first → ¬ IsLetter first
    → HasNoLong first behind → ((mark : Sign) → sign_text mark ≢ first ∷ []) → BeginsNothing first behind
begins_nothing {first} {behind} ready no_digit no_letter none no_sign = record {
  no_blank = λ h. ready (inl h);
  no_line_feed = λ h. ready (inr (inl h));
  no_comment = λ h. ready (inr (inr h));
  no_number = no_digit;
  no_word = no_letter;
  no_sign = λ mark front. elim (front_of_sign first behind mark front) [ inl one ↦ no_sign mark one | inr two ↦ no_long_there none two.3 mark two.2 ];
}

pub bad_byte_is_taken : {first : ℕ} {behind : List ℕ} → IsReady (first ∷ behind) → ¬ IsDigit first → ¬ IsLetter first
    → HasNoLong first behind → ((mark : Sign) → sign_text mark ≢ first ∷ []) → Takes (first ∷ behind) bad_byte behind
bad_byte_is_taken ready no_digit no_letter none no_sign p more follows =
    rw follows (stops_at_byte (begins_nothing ready no_digit no_letter none no_sign))
