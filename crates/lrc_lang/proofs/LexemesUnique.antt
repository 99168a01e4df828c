-- A text has one list of lexemes at most: its first byte tells which rule holds, and each rule takes one front.
use Rattle.std.proofs.Common.{◌≡◌, ◌⊎◌, ℕ, ◌+◌, cond, eqb, leb, ◌&&◌, ◌||◌, List, [], ◌∷◌, ◌++◌, length}
use Rattle.std.proofs.Common.{take, drop, refl, sym, ap, ◌∙◌, subst, arith, inl, inr, All}
use Rattle.std.proofs.lemmas.Bool.Decides.{nat_tests}
use Rattle.std.proofs.lemmas.List.{take_at, drop_at}
use Rattle.std.proofs.lemmas.List.Elements.{All-head, All-tail}
use Rattle.lrc_lang.specs.declared.token.Keyword.{Keyword}
use Rattle.lrc_lang.specs.declared.token.Keyword.TheVariants as keywords
use Rattle.lrc_lang.specs.declared.token.Sign.{Sign}
use Rattle.lrc_lang.specs.declared.token.Sign.TheVariants as signs
use Rattle.lrc_lang.specs.Token.{number, name, keyword, sign, finish, token, bad_byte, bad_number, Placed}
use Rattle.lrc_lang.specs.Lexemes.{IsBlank, IsLineFeed, IsHash, IsDigit, IsLetter, IsLetterOrDigit, IsWithinLine, BeginsWith, HasFront, IsSpan, value_of}
use Rattle.lrc_lang.specs.Lexemes.{IsNumber, IsNoNumber, keyword_text, IsKeyword, sign_text, IsSign, BeginsNothing, at, Lexes, passes_blank}
use Rattle.lrc_lang.specs.Lexemes.{passes_line_feed, passes_comment, takes_number, takes_keyword, takes_name, takes_sign, stops_at_number, stops_at_byte}
use Rattle.lrc_lang.specs.Lexemes.{stops_at_end}

-- ---- spans

spans_agree : (P : ℕ → Type 0) (front rest other last : List ℕ) → All P front → All P other → ¬ BeginsWith P rest → ¬ BeginsWith P last → front ++ rest ≡ other
    ++ last → (front ≡ other) × (rest ≡ last)
spans_agree P [] rest [] last each all stops ends e = (refl, e)
spans_agree P [] rest (y ∷ ys) last each all stops ends e =
    absurd (stops (subst (λ t. BeginsWith P t) (sym e) (All-head P y ys all)))
spans_agree P (x ∷ xs) rest [] last each all stops ends e =
    absurd (ends (subst (λ t. BeginsWith P t) e (All-head P x xs each)))
spans_agree P (x ∷ xs) rest (y ∷ ys) last each all stops ends e =
    let heads : x ≡ y = cc in
    let tails : xs ++ rest ≡ ys ++ last = cc in
    let same = spans_agree P xs rest ys last (All-tail P x xs each) (All-tail P y ys all) stops ends tails in
    (cc, same.1)

-- a text has one front of a kind
pub span_unique : {P : ℕ → Type 0} {text front rest other last : List ℕ} → IsSpan P text front rest → IsSpan P text other last → (front ≡ other) × (rest ≡ last)
span_unique {P} {text} {front} {rest} {other} {last} one two =
    spans_agree P front rest other last one.each two.each one.no_more two.no_more (sym one.whole ∙ two.whole)

-- ---- keywords and signs have spellings of their own

pub keyword_from : List ℕ → Keyword
keyword_from (a ∷ b ∷ rest) =
    cond (eqb (a + b) 230) keywords.Words (cond (eqb (a + b) 219) keywords.Locks (cond (eqb (a + b) 196) keywords.Acquire
    (cond (eqb (a + b) 215) keywords.Release (cond (eqb (a + b) 195) keywords.Barrier (cond (eqb (a + b) 226) keywords.Print
    (cond (eqb (a + b) 207) keywords.If (cond (eqb (a + b) 209) keywords.Else (cond (eqb (a + b) 223) keywords.While
    (cond (eqb (a + b) 210) keywords.Me keywords.Nodes)))))))))
keyword_from _ = keywords.Nodes

pub keyword_from-text : (which : Keyword) → keyword_from (keyword_text which) ≡ which
unfolding keyword_from
keyword_from-text keywords.Words = refl
keyword_from-text keywords.Locks = refl
keyword_from-text keywords.Acquire = refl
keyword_from-text keywords.Release = refl
keyword_from-text keywords.Barrier = refl
keyword_from-text keywords.Print = refl
keyword_from-text keywords.If = refl
keyword_from-text keywords.Else = refl
keyword_from-text keywords.While = refl
keyword_from-text keywords.Me = refl
keyword_from-text keywords.Nodes = refl

keyword_text-injective : (one other : Keyword) → keyword_text one ≡ keyword_text other → one ≡ other
keyword_text-injective one other e = sym (keyword_from-text one) ∙ ap keyword_from e ∙ keyword_from-text other

pub sign_from : List ℕ → Sign
sign_from (a ∷ []) =
    cond (eqb a 59) signs.Semicolon (cond (eqb a 61) signs.Assign (cond (eqb a 91) signs.OpenBracket (cond (eqb a 93) signs.CloseBracket
    (cond (eqb a 123) signs.OpenBrace (cond (eqb a 125) signs.CloseBrace (cond (eqb a 40) signs.OpenParenthesis
    (cond (eqb a 41) signs.CloseParenthesis (cond (eqb a 43) signs.Plus (cond (eqb a 45) signs.Minus (cond (eqb a 42) signs.Star
    (cond (eqb a 47) signs.Slash (cond (eqb a 37) signs.Percent (cond (eqb a 60) signs.Less signs.Greater)))))))))))))
sign_from (a ∷ b ∷ rest) =
    cond (eqb a 61) signs.Equal (cond (eqb a 33) signs.NotEqual (cond (eqb a 60) signs.LessOrEqual signs.GreaterOrEqual))
sign_from [] = signs.Semicolon

pub sign_from-text : (mark : Sign) → sign_from (sign_text mark) ≡ mark
unfolding sign_from
sign_from-text signs.Semicolon = refl
sign_from-text signs.Assign = refl
sign_from-text signs.OpenBracket = refl
sign_from-text signs.CloseBracket = refl
sign_from-text signs.OpenBrace = refl
sign_from-text signs.CloseBrace = refl
sign_from-text signs.OpenParenthesis = refl
sign_from-text signs.CloseParenthesis = refl
sign_from-text signs.Plus = refl
sign_from-text signs.Minus = refl
sign_from-text signs.Star = refl
sign_from-text signs.Slash = refl
sign_from-text signs.Percent = refl
sign_from-text signs.Equal = refl
sign_from-text signs.NotEqual = refl
sign_from-text signs.Less = refl
sign_from-text signs.LessOrEqual = refl
sign_from-text signs.Greater = refl
sign_from-text signs.GreaterOrEqual = refl

-- a text begins with one longest sign
pub sign_unique : {text rest last : List ℕ} {mark other : Sign} → IsSign text mark rest → IsSign text other last → (mark ≡ other) × (rest ≡ last)
sign_unique {text} {rest} {last} {mark} {other} one two =
    let below = one.longest other (last, two.whole) in
    let above = two.longest mark (rest, one.whole) in
    let front = sym (take_at (sign_text mark) rest _ refl) ∙ ap (take (length (sign_text mark))) (sym one.whole ∙ two.whole)
    ∙ take_at (sign_text other) last _ (omega arith) in
    let back = sym (drop_at (sign_text mark) rest _ refl) ∙ ap (drop (length (sign_text mark))) (sym one.whole ∙ two.whole)
    ∙ drop_at (sign_text other) last _ (omega arith) in
    (sym (sign_from-text mark) ∙ ap sign_from front ∙ sign_from-text other, back)

-- ---- which rule holds

pub data Kind : Type 0 where
  ends blanks feeds comments digits words others : Kind

unfoldable pub kind_of_byte : ℕ → Kind
kind_of_byte byte =
    cond (eqb byte 9 || eqb byte 13 || eqb byte 32) blanks (cond (eqb byte 10) feeds (cond (eqb byte 35) comments
    (cond (leb 48 byte && leb byte 57) digits
    (cond ((leb 65 byte && leb byte 90) || (leb 97 byte && leb byte 122) || eqb byte 95) words others))))

unfoldable pub kind_of : List ℕ → Kind
kind_of [] = ends
kind_of (byte ∷ rest) = kind_of_byte byte

pub byte-blank : (byte : ℕ) → IsBlank byte → kind_of_byte byte ≡ blanks
unfolding kind_of_byte
byte-blank byte h = grind (arith, nat_tests)

pub byte-feed : (byte : ℕ) → IsLineFeed byte → kind_of_byte byte ≡ feeds
unfolding kind_of_byte
byte-feed byte h = grind (arith, nat_tests)

pub byte-hash : (byte : ℕ) → IsHash byte → kind_of_byte byte ≡ comments
unfolding kind_of_byte
byte-hash byte h = grind (arith, nat_tests)

pub byte-digit : (byte : ℕ) → IsDigit byte → kind_of_byte byte ≡ digits
unfolding kind_of_byte
byte-digit byte h = grind (arith, nat_tests)

pub byte-letter : (byte : ℕ) → IsLetter byte → kind_of_byte byte ≡ words
unfolding kind_of_byte
byte-letter byte h = grind (arith, nat_tests)

pub kind-begins_digit : (text : List ℕ) → BeginsWith IsDigit text → kind_of text ≡ digits
unfolding kind_of
kind-begins_digit [] h = absurd h
kind-begins_digit (byte ∷ rest) h = byte-digit byte h

pub kind-begins_letter : (text : List ℕ) → BeginsWith IsLetter text → kind_of text ≡ words
unfolding kind_of
kind-begins_letter [] h = absurd h
kind-begins_letter (byte ∷ rest) h = byte-letter byte h

kind-sign_text : (mark : Sign) (rest : List ℕ) → kind_of (sign_text mark ++ rest) ≡ others
unfolding kind_of kind_of_byte
kind-sign_text signs.Semicolon rest = refl
kind-sign_text signs.Assign rest = refl
kind-sign_text signs.OpenBracket rest = refl
kind-sign_text signs.CloseBracket rest = refl
kind-sign_text signs.OpenBrace rest = refl
kind-sign_text signs.CloseBrace rest = refl
kind-sign_text signs.OpenParenthesis rest = refl
kind-sign_text signs.CloseParenthesis rest = refl
kind-sign_text signs.Plus rest = refl
kind-sign_text signs.Minus rest = refl
kind-sign_text signs.Star rest = refl
kind-sign_text signs.Slash rest = refl
kind-sign_text signs.Percent rest = refl
kind-sign_text signs.Equal rest = refl
kind-sign_text signs.NotEqual rest = refl
kind-sign_text signs.Less rest = refl
kind-sign_text signs.LessOrEqual rest = refl
kind-sign_text signs.Greater rest = refl
kind-sign_text signs.GreaterOrEqual rest = refl

kind-sign : {text rest : List ℕ} {mark : Sign} → IsSign text mark rest → kind_of text ≡ others
kind-sign {rest = rest} {mark = mark} is = ap kind_of is.whole ∙ kind-sign_text mark rest

kind-nothing : {byte : ℕ} {rest : List ℕ} → BeginsNothing byte rest → kind_of (byte ∷ rest) ≡ others
unfolding kind_of kind_of_byte
kind-nothing {byte} {rest} h =
    let no_blank = h.no_blank in
    let no_line_feed = h.no_line_feed in
    let no_comment = h.no_comment in
    let no_number = h.no_number in
    let no_word = h.no_word in
    grind (arith, nat_tests)

-- what stands in a text of this kind
View : Kind → ℕ → List ℕ → List Placed → Type 0
View ends line text all = all ≡ at line (token finish) ∷ []
View blanks line text all = (rest : List ℕ) × (drop 1 text ≡ rest) × Lexes line rest all
View feeds line text all = (rest : List ℕ) × (drop 1 text ≡ rest) × Lexes (line + 1) rest all
View comments line text all = (front : List ℕ) × (rest : List ℕ) × IsSpan IsWithinLine (drop 1 text) front rest × Lexes line rest all
View digits line text all = (front : List ℕ) × (rest : List ℕ) × IsSpan IsDigit text front rest
    × (((more : List Placed) × IsNumber front rest × Lexes line rest more × (all ≡ at line (token (number (value_of front))) ∷ more))
    ⊎ (IsNoNumber front rest × (all ≡ at line bad_number ∷ [])))
View words line text all = (front : List ℕ) × (rest : List ℕ) × (more : List Placed) × IsSpan IsLetterOrDigit text front rest × Lexes line rest more
    × (((which : Keyword) × (front ≡ keyword_text which) × (all ≡ at line (token (keyword which)) ∷ more))
    ⊎ (¬ IsKeyword front × (all ≡ at line (token (name front)) ∷ more)))
View others line text all =
    ((mark : Sign) × (rest : List ℕ) × (more : List Placed) × IsSign text mark rest × Lexes line rest more × (all ≡ at line (token (sign mark)) ∷ more))
    ⊎ (((mark : Sign) → ¬ HasFront text (sign_text mark)) × (all ≡ at line bad_byte ∷ []))

view : {line : ℕ} {text : List ℕ} {all : List Placed} → Lexes line text all → View (kind_of text) line text all
unfolding View kind_of
view (passes_blank {byte = byte} {rest = rest} h inside) = rw (byte-blank byte h) (rest, refl, inside)
view (passes_line_feed {byte = byte} {rest = rest} h inside) = rw (byte-feed byte h) (rest, refl, inside)
view (passes_comment {byte = byte} {words = front} {rest = rest} h span inside) = rw (byte-hash byte h) (front, rest, span, inside)
view (takes_number {text = text} {digits = front} {rest = rest} {more = more} h is inside) =
    rw (kind-begins_digit text h.begins) (front, rest, h.span, inl (more, is, inside, refl))
view (takes_keyword {text = text} {rest = rest} {which = which} {more = more} h inside) =
    rw (kind-begins_letter text h.begins) (keyword_text which, rest, more, h.span, inside, inl (which, refl, refl))
view (takes_name {text = text} {word = front} {rest = rest} {more = more} h other inside) =
    rw (kind-begins_letter text h.begins) (front, rest, more, h.span, inside, inr (other, refl))
view (takes_sign {rest = rest} {mark = mark} {more = more} is inside) = rw (kind-sign is) (inl (mark, rest, more, is, inside, refl))
view (stops_at_number {text = text} {digits = front} {rest = rest} h bad) = rw (kind-begins_digit text h.begins) (front, rest, h.span, inr (bad, refl))
view (stops_at_byte h) = rw (kind-nothing h) (inr (h.no_sign, refl))
view stops_at_end = refl

view_at : {line : ℕ} {text : List ℕ} {all : List Placed} {kind : Kind} → kind_of text ≡ kind → Lexes line text all → View kind line text all
view_at {line} {text} {all} is inside = subst (λ k. View k line text all) is (view inside)

pub number_or_not : {front rest : List ℕ} → IsNumber front rest → IsNoNumber front rest → ⊥
number_or_not is (inl over) = omega (arith, is.in_range)
number_or_not is (inr letter) = is.no_letter letter

-- a text whose lexemes are known, read again
pub unique : {line : ℕ} {text : List ℕ} {one other : List Placed} → Lexes line text one → Lexes line text other → one ≡ other
unfolding View kind_of
unique {line} {other = other} (passes_blank {byte = byte} h inside) again =
    let v = view_at (byte-blank byte h) again in
    unique inside (subst (λ r. Lexes line r other) (sym v.1) v.2)
unique {line} {other = other} (passes_line_feed {byte = byte} h inside) again =
    let v = view_at (byte-feed byte h) again in
    unique inside (subst (λ r. Lexes (line + 1) r other) (sym v.1) v.2)
unique {line} {other = other} (passes_comment {byte = byte} h span inside) again =
    let v = view_at (byte-hash byte h) again in
    unique inside (subst (λ r. Lexes line r other) (sym (span_unique span v.2).1) v.3)
unique {line} {text} {other = other} (takes_number {digits = front} {rest = rest} {more = more} h is inside) again =
    let v = view_at (kind-begins_digit text h.begins) again in
    let same = span_unique h.span v.2 in
    elim v.3 [
      | inl w ↦
          let behind = unique inside (subst (λ r. Lexes line r w.0) (sym same.1) w.2) in
          cc (w.3, same.0)
      | inr w ↦ absurd (number_or_not is (subst (λ r. IsNoNumber front r) (sym same.1) (subst (λ f. IsNoNumber f v.1) (sym same.0) w.0)))
    ]
unique {line} {text} {other = other} (takes_keyword {rest = rest} {which = which} {more = more} h inside) again =
    let v = view_at (kind-begins_letter text h.begins) again in
    let same = span_unique h.span v.3 in
    let behind = unique inside (subst (λ r. Lexes line r v.2) (sym same.1) v.4) in
    elim v.5 [
      | inl w ↦
          let spelled = keyword_text-injective which w.0 (same.0 ∙ w.1) in
          cc (w.2)
      | inr w ↦ absurd (w.0 (which, sym same.0))
    ]
unique {line} {text} {other = other} (takes_name {word = front} {rest = rest} {more = more} h is inside) again =
    let v = view_at (kind-begins_letter text h.begins) again in
    let same = span_unique h.span v.3 in
    let behind = unique inside (subst (λ r. Lexes line r v.2) (sym same.1) v.4) in
    elim v.5 [
      | inl w ↦ absurd (is (w.0, same.0 ∙ w.1))
      | inr w ↦ cc (w.1, same.0)
    ]
unique {line} {text} {other = other} (takes_sign {rest = rest} {mark = mark} {more = more} is inside) again =
    let v = view_at (kind-sign is) again in
    elim v [
      | inl w ↦
          let same = sign_unique is w.3 in
          let behind = unique inside (subst (λ r. Lexes line r w.2) (sym same.1) w.4) in
          cc (w.5, same.0)
      | inr w ↦ absurd (w.0 mark (rest, is.whole))
    ]
unique {line} {text} {other = other} (stops_at_number {digits = front} {rest = rest} h bad) again =
    let v = view_at (kind-begins_digit text h.begins) again in
    let same = span_unique h.span v.2 in
    elim v.3 [
      | inl w ↦ absurd (number_or_not w.1 (subst (λ r. IsNoNumber v.0 r) same.1 (subst (λ f. IsNoNumber f rest) same.0 bad)))
      | inr w ↦ sym w.1
    ]
unique {line} {text} {other = other} (stops_at_byte h) again =
    let v = view_at (kind-nothing h) again in
    elim v [
      | inl w ↦ absurd (h.no_sign w.0 (w.1, w.3.whole))
      | inr w ↦ sym w.1
    ]
unique stops_at_end again = sym (view_at refl again)
