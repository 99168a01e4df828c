-- Every text has lexemes: something stands at the front of what is left of it, and the rest is shorter.
use Rattle.std.proofs.Common.{◌≡◌, ◌≢◌, ◌⊎◌, ℕ, zero, suc, ◌+◌, ◌-◌, ◌<◌, ◌≤◌, List, [], ◌∷◌, length, refl, sym, ap, ◌∙◌, arith, inl, inr}
use native.Mathlib.Decide.{dec_le, ℕ_discrete}
use Rattle.lrc_lang.specs.Lexemes.{IsDigit, IsLetter, IsLetterOrDigit, IsWithinLine, BeginsWith, value_of}
use Rattle.lrc_lang.specs.Lexer.{IsReady}
use Rattle.lrc_lang.proofs.LexemesExist.{dec_either, dec_not, dec_digit, dec_letter, dec_blank, dec_begins, dec_same, split_of}
use Rattle.lrc_lang.proofs.LexemesSpans.{span_takes, span_keeps}
use Rattle.lrc_named_tokens.specs.declared.token.Sign.{Sign}
use Rattle.lrc_named_tokens.specs.Token.{number, name, keyword, sign, finish, Lexeme, token, bad_byte, bad_number, Place, Located}
use Rattle.lrc_named_tokens.specs.Lexemes.{keyword_text, IsKeyword, sign_text, along, next_line, at, Lexes, passes_blank, passes_line_feed}
use Rattle.lrc_named_tokens.specs.Lexemes.{passes_comment, stops_at_end}
use Rattle.lrc_named_tokens.specs.Lexer.{Follows, Takes, HasNoLong}
use Rattle.lrc_named_tokens.proofs.Steps.{number_is_taken, bad_number_is_taken, keyword_is_taken, name_is_taken}
use Rattle.lrc_named_tokens.proofs.Signs.{long_sign_is_taken, short_sign_is_taken, bad_byte_is_taken}
use Rattle.lrc_named_tokens.proofs.Unique.{keyword_from, keyword_from-text, sign_from, sign_from-text}

dec_keyword : (word : List ℕ) → Dec (IsKeyword word)
dec_keyword word = elim (dec_same word (keyword_text (keyword_from word))) [
  | yes e ↦ yes (keyword_from word, e)
  | no h ↦ no (λ is. h (is.1 ∙ ap keyword_text (sym (ap keyword_from is.1 ∙ keyword_from-text is.0))))
]

-- a sign that is spelled so, or that there is none
dec_sign : (text : List ℕ) → ((mark : Sign) × (sign_text mark ≡ text)) ⊎ ((mark : Sign) → sign_text mark ≢ text)
dec_sign text = elim (dec_same (sign_text (sign_from text)) text) [
  | yes e ↦ inl (sign_from text, e)
  | no h ↦ inr (λ mark e. h (ap sign_text (sym (ap sign_from e) ∙ sign_from-text mark) ∙ e))
]

-- ---- fronts

Taken : List ℕ → Type 0
Taken text = (found : Lexeme) × (rest : List ℕ) × Takes text found rest × (length rest < length text)

digits_taken : (text : List ℕ) → BeginsWith IsDigit text → Taken text
unfolding Taken
digits_taken text begins =
    let s = split_of IsDigit dec_digit text in
    let shorter = span_takes begins s.2 in
    elim (dec_le (value_of s.0) 18446744073709551615) [
      | yes fits ↦ elim (dec_begins IsLetter dec_letter s.1) [
        | yes letter ↦ (bad_number, s.1, bad_number_is_taken begins s.2 (inr letter), shorter)
        | no other ↦ (token (number (value_of s.0)), s.1, number_is_taken begins s.2 other (omega arith, refl), shorter)
      ]
      | no over ↦ (bad_number, s.1, bad_number_is_taken begins s.2 (inl (omega (arith, over))), shorter)
    ]

word_taken : (text : List ℕ) → BeginsWith IsLetter text → Taken text
unfolding Taken
word_taken text begins =
    let s = split_of IsLetterOrDigit (λ byte. dec_either (dec_letter byte) (dec_digit byte)) text in
    let shorter = span_takes (begins_word text begins) s.2 in
    elim (dec_keyword s.0) [
      | yes is ↦ (token (keyword is.0), s.1, keyword_is_taken begins s.2 is.1, shorter)
      | no other ↦ (token (name s.0), s.1, name_is_taken begins s.2 other, shorter)
    ]
  where
    begins_word : (t : List ℕ) → BeginsWith IsLetter t → BeginsWith IsLetterOrDigit t
    begins_word [] h = h
    begins_word (byte ∷ rest) h = inl h

other_taken : (first : ℕ) (behind : List ℕ) → IsReady (first ∷ behind) → ¬ IsDigit first → ¬ IsLetter first → Taken (first ∷ behind)
unfolding Taken
other_taken first behind ready no_digit no_letter = go behind ready
  where
    short : (behind : List ℕ) → IsReady (first ∷ behind) → HasNoLong first behind → Taken (first ∷ behind)
    short behind ready no_longer = elim (dec_sign (first ∷ [])) [
      | inl is ↦ (token (sign is.0), behind, short_sign_is_taken is.1 no_longer, omega arith)
      | inr none ↦ (bad_byte, behind, bad_byte_is_taken ready no_digit no_letter no_longer none, omega arith)
    ]

    go : (behind : List ℕ) → IsReady (first ∷ behind) → Taken (first ∷ behind)
    go [] ready = short [] ready tt
    go (second ∷ rest) ready = elim (dec_sign (first ∷ second ∷ [])) [
      | inl is ↦ (token (sign is.0), rest, long_sign_is_taken (record { second = second; spelled = is.1; whole = refl }), omega arith)
      | inr none ↦ short (second ∷ rest) ready none
    ]

-- ---- whole texts

-- what may stand behind a lexeme stands there
follows_from : {rest : List ℕ} {p : Place} → (all : List Located) × Lexes p rest all → (found : Lexeme) → (more : List Located) × Follows found p rest more
follows_from inside (token (number value)) = inside
follows_from inside (token (name word)) = inside
follows_from inside (token (keyword which)) = inside
follows_from inside (token (sign mark)) = inside
follows_from inside (token finish) = ([], refl)
follows_from inside bad_byte = ([], refl)
follows_from inside bad_number = ([], refl)

lexed : (turns : ℕ) (p : Place) (text : List ℕ) → length text ≤ turns → (all : List Located) × Lexes p text all
unfolding Taken
lexed turns p [] within = (_, stops_at_end)
lexed zero p (byte ∷ rest) within = absurd (omega arith)
lexed (suc turns) p (byte ∷ rest) within = elim (dec_blank byte) [
  | yes blank ↦ let r = lexed turns (along 1 p) rest (omega arith) in (r.0, passes_blank blank r.1)
  | no no_blank ↦ elim (ℕ_discrete byte 10) [
    | yes feed ↦ let r = lexed turns (next_line p) rest (omega arith) in (r.0, passes_line_feed feed r.1)
    | no no_feed ↦ elim (ℕ_discrete byte 35) [
      | yes hash ↦
          let s = split_of IsWithinLine (λ b. dec_not (ℕ_discrete b 10)) rest in
          let shorter = span_keeps s.2 in
          let r = lexed turns (along (1 + length s.0) p) s.1 (omega arith) in
          (r.0, passes_comment hash s.2 r.1)
      | no no_hash ↦
          let ready : IsReady (byte ∷ rest) = λ h. elim h [ inl b ↦ no_blank b | inr g ↦ elim g [ inl f ↦ no_feed f | inr c ↦ no_hash c ] ] in
          let t : Taken (byte ∷ rest) = elim (dec_digit byte) [
            | yes digit ↦ digits_taken (byte ∷ rest) digit
            | no no_digit ↦ elim (dec_letter byte) [
              | yes letter ↦ word_taken (byte ∷ rest) letter
              | no no_letter ↦ other_taken byte rest ready no_digit no_letter
            ]
          ] in
          let more = follows_from (lexed turns (along (length (byte ∷ rest) - length t.1) p) t.1 (omega (arith, t.3))) t.0 in
          (at p t.0 ∷ more.0, t.2 p more.0 more.1)
    ]
  ]
]

pub exists : (p : Place) (text : List ℕ) → (all : List Located) × Lexes p text all
exists p text = lexed (length text) p text (omega arith)
