-- Signs: one byte, or one byte and `=`.
use Rattle.std.proofs.Common.{◌≡◌, ◌≢◌, ◌⊎◌, ℕ, ◌≤◌, List, [], ◌∷◌, ◌++◌, length, refl, sym, ap, ◌∙◌, subst, arith, inl, inr}
use Rattle.lrc_lang.specs.declared.token.Sign.{Sign}
use Rattle.lrc_lang.specs.declared.token.Sign.TheVariants.{Semicolon, Assign, OpenBracket, CloseBracket, OpenBrace, CloseBrace, OpenParenthesis}
use Rattle.lrc_lang.specs.declared.token.Sign.TheVariants.{CloseParenthesis, Plus, Minus, Star, Slash, Percent, Equal, NotEqual, Less, LessOrEqual}
use Rattle.lrc_lang.specs.declared.token.Sign.TheVariants.{Greater, GreaterOrEqual}
use Rattle.lrc_lang.specs.Token.{sign, token, bad_byte}
use Rattle.lrc_lang.specs.Lexemes.{IsDigit, IsLetter, BeginsWith, HasFront, sign_text, IsSign, BeginsNothing, takes_sign, stops_at_byte}
use Rattle.lrc_lang.specs.Lexer.{IsReady, Takes}

-- how a sign may be spelled
IsSpelling : List ℕ → Type 0
IsSpelling text = ((first : ℕ) × (text ≡ first ∷ [])) ⊎ ((first : ℕ) × (text ≡ first ∷ 61 ∷ []))

sign_spelling : (mark : Sign) → IsSpelling (sign_text mark)
unfolding IsSpelling
sign_spelling Semicolon = inl (_, refl)
sign_spelling Assign = inl (_, refl)
sign_spelling OpenBracket = inl (_, refl)
sign_spelling CloseBracket = inl (_, refl)
sign_spelling OpenBrace = inl (_, refl)
sign_spelling CloseBrace = inl (_, refl)
sign_spelling OpenParenthesis = inl (_, refl)
sign_spelling CloseParenthesis = inl (_, refl)
sign_spelling Plus = inl (_, refl)
sign_spelling Minus = inl (_, refl)
sign_spelling Star = inl (_, refl)
sign_spelling Slash = inl (_, refl)
sign_spelling Percent = inl (_, refl)
sign_spelling Equal = inr (_, refl)
sign_spelling NotEqual = inr (_, refl)
sign_spelling Less = inl (_, refl)
sign_spelling LessOrEqual = inr (_, refl)
sign_spelling Greater = inl (_, refl)
sign_spelling GreaterOrEqual = inr (_, refl)

-- the text goes on with `=`
GoesOn : List ℕ → Type 0
GoesOn behind = BeginsWith (λ byte. byte ≡ 61) behind

-- a sign at the front is one byte, or it is one byte and a `=` that stands there
front_of_sign : (first : ℕ) (behind : List ℕ) (mark : Sign) → HasFront (first ∷ behind) (sign_text mark) → (sign_text mark ≡ first ∷ [])
    ⊎ ((sign_text mark ≡ first ∷ 61 ∷ []) × GoesOn behind)
unfolding IsSpelling GoesOn
front_of_sign first behind mark front = go (sign_text mark) (sign_spelling mark) front
  where
    go : (text : List ℕ) → IsSpelling text → HasFront (first ∷ behind) text → (text ≡ first ∷ []) ⊎ ((text ≡ first ∷ 61 ∷ []) × GoesOn behind)
    go text (inl one) front =
        let e : first ∷ behind ≡ one.0 ∷ front.0 = front.1 ∙ ap (λ t. t ++ front.0) one.1 in
        let is : text ≡ one.0 ∷ [] = one.1 in
        inl (cc)
    go text (inr two) front =
        let e : first ∷ behind ≡ two.0 ∷ 61 ∷ front.0 = front.1 ∙ ap (λ t. t ++ front.0) two.1 in
        let is : text ≡ two.0 ∷ 61 ∷ [] = two.1 in
        let rest : behind ≡ 61 ∷ front.0 = cc in
        let goes_on : GoesOn behind = subst (λ t. GoesOn t) (sym rest) refl in
        inr (cc, goes_on)

length-sign_text : (mark : Sign) → length (sign_text mark) ≤ 2
unfolding IsSpelling
length-sign_text mark = go (sign_text mark) (sign_spelling mark)
  where
    go : (text : List ℕ) → IsSpelling text → length text ≤ 2
    go text (inl one) = omega (arith, ap length one.1)
    go text (inr two) = omega (arith, ap length two.1)

-- a byte and a `=` that are a sign
pub long_sign_is : {first : ℕ} {behind rest : List ℕ} {mark : Sign} → sign_text mark ≡ first ∷ 61 ∷ [] → behind ≡ 61 ∷ rest
    → IsSign (first ∷ behind) mark rest
long_sign_is {first} {behind} {rest} {mark} is goes_on = record {
  whole = ap (λ t. first ∷ t) goes_on ∙ sym (ap (λ t. t ++ rest) is);
  longest = λ other front. omega (arith, length-sign_text other, ap length is);
}

pub long_sign_is_taken : {first : ℕ} {behind rest : List ℕ} {mark : Sign} → sign_text mark ≡ first ∷ 61 ∷ [] → behind ≡ 61 ∷ rest
    → Takes (first ∷ behind) (token (sign mark)) rest
long_sign_is_taken is goes_on line more follows = takes_sign (long_sign_is is goes_on) follows

-- a byte that is a sign, where no longer one stands
pub short_sign_is : {first : ℕ} {behind : List ℕ} {mark : Sign} → sign_text mark ≡ first ∷ []
    → (BeginsWith (λ byte. byte ≡ 61) behind → (longer : Sign) → sign_text longer ≢ first ∷ 61 ∷ []) → IsSign (first ∷ behind) mark behind
unfolding GoesOn
short_sign_is {first} {behind} {mark} is no_longer = record {
  whole = sym (ap (λ t. t ++ behind) is);
  longest = λ other front. elim (front_of_sign first behind other front) [
    | inl one ↦ omega (arith, ap length one, ap length is)
    | inr two ↦ absurd (no_longer two.1 other two.0)
  ];
}

pub short_sign_is_taken : {first : ℕ} {behind : List ℕ} {mark : Sign} → sign_text mark ≡ first ∷ []
    → (BeginsWith (λ byte. byte ≡ 61) behind → (longer : Sign) → sign_text longer ≢ first ∷ 61 ∷ []) → Takes (first ∷ behind) (token (sign mark)) behind
short_sign_is_taken is no_longer line more follows = takes_sign (short_sign_is is no_longer) follows

-- a byte that begins nothing
pub begins_nothing : {first : ℕ} {behind : List ℕ} → IsReady (first ∷ behind) → ¬ IsDigit first → ¬ IsLetter first
    → (BeginsWith (λ byte. byte ≡ 61) behind → (longer : Sign) → sign_text longer ≢ first ∷ 61 ∷ []) → ((mark : Sign) → sign_text mark ≢ first ∷ [])
    → BeginsNothing first behind
unfolding GoesOn
begins_nothing {first} {behind} ready no_digit no_letter no_longer no_sign = record {
  no_blank = λ h. ready (inl h);
  no_line_feed = λ h. ready (inr (inl h));
  no_comment = λ h. ready (inr (inr h));
  no_number = no_digit;
  no_word = no_letter;
  no_sign = λ mark front. elim (front_of_sign first behind mark front) [ inl one ↦ no_sign mark one | inr two ↦ no_longer two.1 mark two.0 ];
}

pub bad_byte_is_taken : {first : ℕ} {behind : List ℕ} → IsReady (first ∷ behind) → ¬ IsDigit first → ¬ IsLetter first
    → (BeginsWith (λ byte. byte ≡ 61) behind → (longer : Sign) → sign_text longer ≢ first ∷ 61 ∷ []) → ((mark : Sign) → sign_text mark ≢ first ∷ [])
    → Takes (first ∷ behind) bad_byte behind
bad_byte_is_taken ready no_digit no_letter no_longer no_sign line more none =
    rw none (stops_at_byte (begins_nothing ready no_digit no_letter no_longer no_sign))
