-- Every text has lexemes: something stands at the front of what is left of it, and the rest is shorter.
use Rattle.std.proofs.Common.{◌≡◌, ◌≢◌, ◌⊎◌, ℕ, zero, suc, ◌+◌, ◌<◌, ◌≤◌, List, [], ◌∷◌, length, refl, sym, ap, ◌∙◌, arith, inl, inr, Bool, true, false}
use Rattle.std.specs.Bool.{Decides}
use Rattle.std.specs.Str.{bytes_eq}
use Rattle.std.proofs.lemmas.List.Elements.{All-nil, All-cons}
use Rattle.std.proofs.lemmas.Slice.Eq.{bytes_eq-Decides}
use native.Mathlib.Decide.{dec_le, ℕ_discrete}
use Rattle.lrc_lang.specs.declared.token.Sign.{Sign}
use Rattle.lrc_lang.specs.Token.{number, name, keyword, sign, finish, Lexeme, token, bad_byte, bad_number, Placed}
use Rattle.lrc_lang.specs.Lexemes.{IsBlank, IsDigit, IsLetter, IsLetterOrDigit, IsWithinLine, BeginsWith, IsSpan, value_of, keyword_text, IsKeyword}
use Rattle.lrc_lang.specs.Lexemes.{sign_text, at, Lexes, passes_blank, passes_line_feed, passes_comment, stops_at_end, Follows, NextIs}
use Rattle.lrc_lang.specs.Lexer.{IsReady, Passes, Takes}
use Rattle.lrc_lang.proofs.LexemesSpans.{span_takes, span_keeps}
use Rattle.lrc_lang.proofs.LexemesSteps.{number_is_taken, bad_number_is_taken, keyword_is_taken, name_is_taken}
use Rattle.lrc_lang.proofs.LexemesSigns.{long_sign_is_taken, short_sign_is_taken, bad_byte_is_taken}
use Rattle.lrc_lang.proofs.LexemesUnique.{unique, keyword_from, keyword_from-text, sign_from, sign_from-text}

-- ---- tests

pub dec_both : {A B : Type 0} → Dec A → Dec B → Dec (A × B)
dec_both (yes a) (yes b) = yes (a, b)
dec_both (yes a) (no h) = no (λ p. h p.1)
dec_both (no h) b = no (λ p. h p.0)

pub dec_either : {A B : Type 0} → Dec A → Dec B → Dec (A ⊎ B)
dec_either (yes a) b = yes (inl a)
dec_either (no h) (yes b) = yes (inr b)
dec_either (no h) (no g) = no (λ s. elim s [ inl a ↦ h a | inr b ↦ g b ])

pub dec_not : {A : Type 0} → Dec A → Dec (¬ A)
dec_not (yes a) = no (λ h. h a)
dec_not (no h) = yes h

pub dec_digit : (byte : ℕ) → Dec (IsDigit byte)
dec_digit byte = dec_both (dec_le 48 byte) (dec_le byte 57)

pub dec_letter : (byte : ℕ) → Dec (IsLetter byte)
dec_letter byte = dec_either (dec_both (dec_le 65 byte) (dec_le byte 90)) (dec_either (dec_both (dec_le 97 byte) (dec_le byte 122)) (ℕ_discrete byte 95))

pub dec_blank : (byte : ℕ) → Dec (IsBlank byte)
dec_blank byte = dec_either (ℕ_discrete byte 9) (dec_either (ℕ_discrete byte 13) (ℕ_discrete byte 32))

pub dec_begins : (P : ℕ → Type 0) → ((byte : ℕ) → Dec (P byte)) → (text : List ℕ) → Dec (BeginsWith P text)
dec_begins P test [] = no (λ h. h)
dec_begins P test (byte ∷ rest) = test byte

pub dec_same : (xs ys : List ℕ) → Dec (xs ≡ ys)
dec_same xs ys = go (bytes_eq xs ys) (bytes_eq-Decides xs ys)
  where
    go : (r : Bool) → Decides r (xs ≡ ys) → Dec (xs ≡ ys)
    go true h = yes (h.0 refl)
    go false h = no (λ e. let t = h.1 e in absurd (cc))

dec_keyword : (word : List ℕ) → Dec (IsKeyword word)
dec_keyword word = elim (dec_same word (keyword_text (keyword_from word))) [
  | yes e ↦ yes (keyword_from word, e)
  | no h ↦ no (λ is. h (is.1 ∙ ap keyword_text (sym (ap keyword_from is.1 ∙ keyword_from-text is.0))))
]

-- a sign that is spelled so, or that there is none
dec_sign : (text : List ℕ) → ((mark : Sign) × (sign_text mark ≡ text)) ⊎ ((mark : Sign) → sign_text mark ≢ text)
dec_sign text = elim (dec_same (sign_text (sign_from text)) text) [
  | yes e ↦ inl (sign_from text, e)
  | no h ↦ inr (λ mark e. h (ap sign_text (sym (ap sign_from e) ∙ sign_from-text mark) ∙ e))
]

-- ---- fronts

pub split_of : (P : ℕ → Type 0) → ((byte : ℕ) → Dec (P byte)) → (text : List ℕ) → (front : List ℕ) × (rest : List ℕ) × IsSpan P text front rest
split_of P test [] = ([], [], record { whole = refl; each = All-nil P; no_more = λ h. h })
split_of P test (byte ∷ text) =
    let r = split_of P test text in
    elim (test byte) [
      | yes p ↦ (byte ∷ r.0, r.1, record { whole = ap (λ t. byte ∷ t) r.2.whole; each = All-cons P byte r.0 p r.2.each; no_more = r.2.no_more })
      | no h ↦ ([], byte ∷ text, record { whole = refl; each = All-nil P; no_more = h })
    ]

Taken : List ℕ → Type 0
Taken text = (found : Lexeme) × (rest : List ℕ) × Takes text found rest × (length rest < length text)

digits_taken : (text : List ℕ) → BeginsWith IsDigit text → Taken text
unfolding Taken
digits_taken text begins =
    let s = split_of IsDigit dec_digit text in
    let shorter = span_takes begins s.2 in
    elim (dec_le (value_of s.0) 18446744073709551615) [
      | yes fits ↦ elim (dec_begins IsLetter dec_letter s.1) [
        | yes letter ↦ (bad_number, s.1, bad_number_is_taken begins s.2 (inr letter), shorter)
        | no other ↦ (token (number (value_of s.0)), s.1, number_is_taken begins s.2 other (omega arith, refl), shorter)
      ]
      | no over ↦ (bad_number, s.1, bad_number_is_taken begins s.2 (inl (omega (arith, over))), shorter)
    ]

word_taken : (text : List ℕ) → BeginsWith IsLetter text → Taken text
unfolding Taken
word_taken text begins =
    let s = split_of IsLetterOrDigit (λ byte. dec_either (dec_letter byte) (dec_digit byte)) text in
    let shorter = span_takes (begins_word text begins) s.2 in
    elim (dec_keyword s.0) [
      | yes is ↦ (token (keyword is.0), s.1, keyword_is_taken begins s.2 is.1, shorter)
      | no other ↦ (token (name s.0), s.1, name_is_taken begins s.2 other, shorter)
    ]
  where
    begins_word : (t : List ℕ) → BeginsWith IsLetter t → BeginsWith IsLetterOrDigit t
    begins_word [] h = h
    begins_word (byte ∷ rest) h = inl h

other_taken : (first : ℕ) (behind : List ℕ) → IsReady (first ∷ behind) → ¬ IsDigit first → ¬ IsLetter first → Taken (first ∷ behind)
unfolding Taken
other_taken first behind ready no_digit no_letter = go behind ready
  where
    short : (behind : List ℕ) → IsReady (first ∷ behind) → (BeginsWith (λ byte. byte ≡ 61) behind → (longer : Sign) → sign_text longer ≢ first ∷ 61 ∷ [])
        → Taken (first ∷ behind)
    short behind ready no_longer = elim (dec_sign (first ∷ [])) [
      | inl is ↦ (token (sign is.0), behind, short_sign_is_taken is.1 no_longer, omega arith)
      | inr none ↦ (bad_byte, behind, bad_byte_is_taken ready no_digit no_letter no_longer none, omega arith)
    ]

    go : (behind : List ℕ) → IsReady (first ∷ behind) → Taken (first ∷ behind)
    go [] ready = short [] ready (λ h. absurd h)
    go (second ∷ rest) ready = elim (dec_sign (first ∷ 61 ∷ [])) [
      | inl is ↦ elim (ℕ_discrete second 61) [
        | yes e ↦ (token (sign is.0), rest, long_sign_is_taken is.1 (ap (λ b. b ∷ rest) e), omega arith)
        | no other ↦ short (second ∷ rest) ready (λ e. absurd (other e))
      ]
      | inr none ↦ short (second ∷ rest) ready (λ e. none)
    ]

-- ---- whole texts

-- what may stand behind a lexeme stands there
follows_from : {rest : List ℕ} {line : ℕ} → (all : List Placed) × Lexes line rest all → (found : Lexeme) → (more : List Placed) × Follows found line rest more
follows_from inside (token (number value)) = inside
follows_from inside (token (name word)) = inside
follows_from inside (token (keyword which)) = inside
follows_from inside (token (sign mark)) = inside
follows_from inside (token finish) = ([], refl)
follows_from inside bad_byte = ([], refl)
follows_from inside bad_number = ([], refl)

lexed : (turns : ℕ) (line : ℕ) (text : List ℕ) → length text ≤ turns → (all : List Placed) × Lexes line text all
unfolding Taken
lexed turns line [] within = (_, stops_at_end)
lexed zero line (byte ∷ rest) within = absurd (omega arith)
lexed (suc turns) line (byte ∷ rest) within = elim (dec_blank byte) [
  | yes blank ↦ let r = lexed turns line rest (omega arith) in (r.0, passes_blank blank r.1)
  | no no_blank ↦ elim (ℕ_discrete byte 10) [
    | yes feed ↦ let r = lexed turns (line + 1) rest (omega arith) in (r.0, passes_line_feed feed r.1)
    | no no_feed ↦ elim (ℕ_discrete byte 35) [
      | yes hash ↦
          let s = split_of IsWithinLine (λ b. dec_not (ℕ_discrete b 10)) rest in
          let shorter = span_keeps s.2 in
          let r = lexed turns line s.1 (omega arith) in
          (r.0, passes_comment hash s.2 r.1)
      | no no_hash ↦
          let ready : IsReady (byte ∷ rest) = λ h. elim h [ inl b ↦ no_blank b | inr g ↦ elim g [ inl f ↦ no_feed f | inr c ↦ no_hash c ] ] in
          let t : Taken (byte ∷ rest) = elim (dec_digit byte) [
            | yes digit ↦ digits_taken (byte ∷ rest) digit
            | no no_digit ↦ elim (dec_letter byte) [
              | yes letter ↦ word_taken (byte ∷ rest) letter
              | no no_letter ↦ other_taken byte rest ready no_digit no_letter
            ]
          ] in
          let more = follows_from (lexed turns line t.1 (omega (arith, t.3))) t.0 in
          (at line t.0 ∷ more.0, t.2 line more.0 more.1)
    ]
  ]
]

pub exists : (line : ℕ) (text : List ℕ) → (all : List Placed) × Lexes line text all
exists line text = lexed (length text) line text (omega arith)

pub follows_exists : (line : ℕ) (rest : List ℕ) (found : Lexeme) → (more : List Placed) × Follows found line rest more
follows_exists line rest found = follows_from (exists line rest) found

-- what stands next, from what is passed over and what is taken
pub next_from : {line behind : ℕ} {text middle rest : List ℕ} {found : Lexeme} → Passes line text behind middle → Takes middle found rest
    → NextIs line text (at behind found) behind rest
next_from {line} {behind} {text} {middle} {rest} {found} passed taken = record {
  split = λ all inside.
      let more = follows_exists behind rest found in
      (more.0, unique inside (joined more.0 more.1), more.1);
  joined = joined;
}
  where
    joined : (more : List Placed) → Follows found behind rest more → Lexes line text (at behind found ∷ more)
    joined more follows = passed (at behind found ∷ more) (taken behind more follows)
