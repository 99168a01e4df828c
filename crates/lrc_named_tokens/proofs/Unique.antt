-- A text has one list of lexemes at most: its first byte tells which rule holds, and each rule takes one front.
use Rattle.std.proofs.Common.{◌≡◌, ◌⊎◌, ℕ, ◌+◌, ◌*◌, cond, eqb, List, [], ◌∷◌, ◌++◌, length}
use Rattle.std.proofs.Common.{take, drop, refl, sym, ap, ◌∙◌, subst, arith, inl, inr}
use Rattle.std.proofs.lemmas.Bool.Decides.{nat_tests}
use Rattle.std.proofs.lemmas.List.{take_at, drop_at}
use Rattle.lrc_lang.specs.Lexemes.{IsDigit, IsLetterOrDigit, IsWithinLine, HasFront, IsSpan, value_of, IsNumber, IsNoNumber}
use Rattle.lrc_lang.proofs.LexemesUnique.{span_unique, Kind, ends, blanks, feeds, comments, digits, words, others, kind_of_byte, kind_of}
use Rattle.lrc_lang.proofs.LexemesUnique.{byte-blank, byte-feed, byte-hash, kind-begins_digit, kind-begins_letter, number_or_not}
use Rattle.lrc_named_tokens.specs.declared.token.Keyword.{Keyword}
use Rattle.lrc_named_tokens.specs.declared.token.Keyword.TheVariants as keywords
use Rattle.lrc_named_tokens.specs.declared.token.Sign.{Sign}
use Rattle.lrc_named_tokens.specs.declared.token.Sign.TheVariants as signs
use Rattle.lrc_named_tokens.specs.Token.{number, name, keyword, sign, finish, token, bad_byte, bad_number, Place, Located}
use Rattle.lrc_named_tokens.specs.Lexemes.{keyword_text, IsKeyword, sign_text, IsSign, BeginsNothing, along, next_line, at, Lexes, passes_blank}
use Rattle.lrc_named_tokens.specs.Lexemes.{passes_line_feed, passes_comment, takes_number, takes_keyword, takes_name, takes_sign, stops_at_number}
use Rattle.lrc_named_tokens.specs.Lexemes.{stops_at_byte, stops_at_end}

-- ---- keywords and signs have spellings of their own

-- the keyword with this sum of its first two letters and its length
keyword_numbered : ℕ → Keyword
keyword_numbered n =
    cond (eqb n 725) keywords.Words (cond (eqb n 692) keywords.Locks (cond (eqb n 637) keywords.Acquire (cond (eqb n 694) keywords.Release (cond (eqb
    n 634) keywords.Barrier (cond (eqb n 713) keywords.Print (cond (eqb n 635) keywords.If (cond (eqb n 655) keywords.Else (cond (eqb n 704)
    keywords.While (cond (eqb n 644) keywords.Me (cond (eqb n 698) keywords.Nodes (cond (eqb n 665) keywords.Const (cond (eqb n 699) keywords.Shared
    (cond (eqb n 685) keywords.Lock (cond (eqb n 650) keywords.Fn (cond (eqb n 660) keywords.For (cond (eqb n 659) keywords.In (cond (eqb n 700)
    keywords.With (cond (eqb n 678) keywords.Assert (cond (eqb n 642) keywords.And (cond (eqb n 689) keywords.Or keywords.Not))))))))))))))))))))

pub keyword_from : List ℕ → Keyword
keyword_from (a ∷ b ∷ rest) = keyword_numbered (3 * a + 3 * b + 7 * length (a ∷ b ∷ rest))
keyword_from _ = keywords.Not

pub keyword_from-text : (which : Keyword) → keyword_from (keyword_text which) ≡ which
unfolding keyword_from keyword_numbered
keyword_from-text keywords.Words = refl
keyword_from-text keywords.Locks = refl
keyword_from-text keywords.Acquire = refl
keyword_from-text keywords.Release = refl
keyword_from-text keywords.Barrier = refl
keyword_from-text keywords.Print = refl
keyword_from-text keywords.If = refl
keyword_from-text keywords.Else = refl
keyword_from-text keywords.While = refl
keyword_from-text keywords.Me = refl
keyword_from-text keywords.Nodes = refl
keyword_from-text keywords.Const = refl
keyword_from-text keywords.Shared = refl
keyword_from-text keywords.Lock = refl
keyword_from-text keywords.Fn = refl
keyword_from-text keywords.For = refl
keyword_from-text keywords.In = refl
keyword_from-text keywords.With = refl
keyword_from-text keywords.Assert = refl
keyword_from-text keywords.And = refl
keyword_from-text keywords.Or = refl
keyword_from-text keywords.Not = refl

keyword_text-injective : (one other : Keyword) → keyword_text one ≡ keyword_text other → one ≡ other
keyword_text-injective one other e = sym (keyword_from-text one) ∙ ap keyword_from e ∙ keyword_from-text other

pub sign_from : List ℕ → Sign
sign_from (a ∷ []) =
    cond (eqb a 59) signs.Semicolon (cond (eqb a 61) signs.Assign (cond (eqb a 91) signs.OpenBracket (cond (eqb a 93) signs.CloseBracket (cond (eqb a
    123) signs.OpenBrace (cond (eqb a 125) signs.CloseBrace (cond (eqb a 40) signs.OpenParenthesis (cond (eqb a 41) signs.CloseParenthesis (cond (eqb
    a 43) signs.Plus (cond (eqb a 45) signs.Minus (cond (eqb a 42) signs.Star (cond (eqb a 47) signs.Slash (cond (eqb a 37) signs.Percent (cond (eqb
    a 60) signs.Less (cond (eqb a 62) signs.Greater signs.Comma))))))))))))))
sign_from (a ∷ b ∷ rest) =
    cond (eqb a 61) signs.Equal (cond (eqb a 33) signs.NotEqual (cond (eqb a 60) signs.LessOrEqual (cond (eqb a 62) signs.GreaterOrEqual (cond (eqb a
    46) signs.Range (cond (eqb a 43) signs.AddAssign signs.SubtractAssign)))))
sign_from [] = signs.Semicolon

pub sign_from-text : (mark : Sign) → sign_from (sign_text mark) ≡ mark
unfolding sign_from
sign_from-text signs.Semicolon = refl
sign_from-text signs.Assign = refl
sign_from-text signs.OpenBracket = refl
sign_from-text signs.CloseBracket = refl
sign_from-text signs.OpenBrace = refl
sign_from-text signs.CloseBrace = refl
sign_from-text signs.OpenParenthesis = refl
sign_from-text signs.CloseParenthesis = refl
sign_from-text signs.Plus = refl
sign_from-text signs.Minus = refl
sign_from-text signs.Star = refl
sign_from-text signs.Slash = refl
sign_from-text signs.Percent = refl
sign_from-text signs.Equal = refl
sign_from-text signs.NotEqual = refl
sign_from-text signs.Less = refl
sign_from-text signs.LessOrEqual = refl
sign_from-text signs.Greater = refl
sign_from-text signs.GreaterOrEqual = refl
sign_from-text signs.Comma = refl
sign_from-text signs.Range = refl
sign_from-text signs.AddAssign = refl
sign_from-text signs.SubtractAssign = refl

-- a text begins with one longest sign
pub sign_unique : {text rest last : List ℕ} {mark other : Sign} → IsSign text mark rest → IsSign text other last → (mark ≡ other) × (rest ≡ last)
sign_unique {text} {rest} {last} {mark} {other} one two =
    let below = one.longest other (last, two.whole) in
    let above = two.longest mark (rest, one.whole) in
    let front = sym (take_at (sign_text mark) rest _ refl) ∙ ap (take (length (sign_text mark))) (sym one.whole ∙ two.whole)
    ∙ take_at (sign_text other) last _ (omega arith) in
    let back = sym (drop_at (sign_text mark) rest _ refl) ∙ ap (drop (length (sign_text mark))) (sym one.whole ∙ two.whole)
    ∙ drop_at (sign_text other) last _ (omega arith) in
    (sym (sign_from-text mark) ∙ ap sign_from front ∙ sign_from-text other, back)

-- ---- which rule holds

kind-sign_text : (mark : Sign) (rest : List ℕ) → kind_of (sign_text mark ++ rest) ≡ others
unfolding kind_of kind_of_byte
kind-sign_text signs.Semicolon rest = refl
kind-sign_text signs.Assign rest = refl
kind-sign_text signs.OpenBracket rest = refl
kind-sign_text signs.CloseBracket rest = refl
kind-sign_text signs.OpenBrace rest = refl
kind-sign_text signs.CloseBrace rest = refl
kind-sign_text signs.OpenParenthesis rest = refl
kind-sign_text signs.CloseParenthesis rest = refl
kind-sign_text signs.Plus rest = refl
kind-sign_text signs.Minus rest = refl
kind-sign_text signs.Star rest = refl
kind-sign_text signs.Slash rest = refl
kind-sign_text signs.Percent rest = refl
kind-sign_text signs.Equal rest = refl
kind-sign_text signs.NotEqual rest = refl
kind-sign_text signs.Less rest = refl
kind-sign_text signs.LessOrEqual rest = refl
kind-sign_text signs.Greater rest = refl
kind-sign_text signs.GreaterOrEqual rest = refl
kind-sign_text signs.Comma rest = refl
kind-sign_text signs.Range rest = refl
kind-sign_text signs.AddAssign rest = refl
kind-sign_text signs.SubtractAssign rest = refl

kind-sign : {text rest : List ℕ} {mark : Sign} → IsSign text mark rest → kind_of text ≡ others
kind-sign {rest = rest} {mark = mark} is = ap kind_of is.whole ∙ kind-sign_text mark rest

kind-nothing : {byte : ℕ} {rest : List ℕ} → BeginsNothing byte rest → kind_of (byte ∷ rest) ≡ others
unfolding kind_of kind_of_byte
kind-nothing {byte} {rest} h =
    let no_blank = h.no_blank in
    let no_line_feed = h.no_line_feed in
    let no_comment = h.no_comment in
    let no_number = h.no_number in
    let no_word = h.no_word in
    grind (arith, nat_tests)

-- what stands in a text of this kind
View : Kind → Place → List ℕ → List Located → Type 0
View ends p text all = all ≡ at p (token finish) ∷ []
View blanks p text all = (rest : List ℕ) × (drop 1 text ≡ rest) × Lexes (along 1 p) rest all
View feeds p text all = (rest : List ℕ) × (drop 1 text ≡ rest) × Lexes (next_line p) rest all
View comments p text all = (front : List ℕ) × (rest : List ℕ) × IsSpan IsWithinLine (drop 1 text) front rest × Lexes (along (1 + length front) p) rest all
View digits p text all = (front : List ℕ) × (rest : List ℕ) × IsSpan IsDigit text front rest
    × (((more : List Located) × IsNumber front rest × Lexes (along (length front) p) rest more × (all ≡ at p (token (number (value_of front))) ∷ more))
    ⊎ (IsNoNumber front rest × (all ≡ at p bad_number ∷ [])))
View words p text all = (front : List ℕ) × (rest : List ℕ) × (more : List Located) × IsSpan IsLetterOrDigit text front rest
    × Lexes (along (length front) p) rest more × (((which : Keyword) × (front ≡ keyword_text which) × (all ≡ at p (token (keyword which)) ∷ more))
    ⊎ (¬ IsKeyword front × (all ≡ at p (token (name front)) ∷ more)))
View others p text all =
    ((mark : Sign) × (rest : List ℕ) × (more : List Located) × IsSign text mark rest × Lexes (along (length (sign_text mark)) p) rest more
    × (all ≡ at p (token (sign mark)) ∷ more))
    ⊎ (((mark : Sign) → ¬ HasFront text (sign_text mark)) × (all ≡ at p bad_byte ∷ []))

view : {p : Place} {text : List ℕ} {all : List Located} → Lexes p text all → View (kind_of text) p text all
unfolding View kind_of
view (passes_blank {byte = byte} {rest = rest} h inside) = rw (byte-blank byte h) (rest, refl, inside)
view (passes_line_feed {byte = byte} {rest = rest} h inside) = rw (byte-feed byte h) (rest, refl, inside)
view (passes_comment {byte = byte} {words = front} {rest = rest} h span inside) = rw (byte-hash byte h) (front, rest, span, inside)
view (takes_number {text = text} {digits = front} {rest = rest} {more = more} h is inside) =
    rw (kind-begins_digit text h.begins) (front, rest, h.span, inl (more, is, inside, refl))
view (takes_keyword {text = text} {rest = rest} {which = which} {more = more} h inside) =
    rw (kind-begins_letter text h.begins) (keyword_text which, rest, more, h.span, inside, inl (which, refl, refl))
view (takes_name {text = text} {word = front} {rest = rest} {more = more} h other inside) =
    rw (kind-begins_letter text h.begins) (front, rest, more, h.span, inside, inr (other, refl))
view (takes_sign {rest = rest} {mark = mark} {more = more} is inside) = rw (kind-sign is) (inl (mark, rest, more, is, inside, refl))
view (stops_at_number {text = text} {digits = front} {rest = rest} h bad) = rw (kind-begins_digit text h.begins) (front, rest, h.span, inr (bad, refl))
view (stops_at_byte h) = rw (kind-nothing h) (inr (h.no_sign, refl))
view stops_at_end = refl

view_at : {p : Place} {text : List ℕ} {all : List Located} {kind : Kind} → kind_of text ≡ kind → Lexes p text all → View kind p text all
view_at {p} {text} {all} is inside = subst (λ k. View k p text all) is (view inside)

-- what stands behind a front stands behind the same front, wherever the text is read
moved : (p : Place) (extra : ℕ) {front other rest last : List ℕ} {all : List Located} → front ≡ other → rest ≡ last
    → Lexes (along (extra + length other) p) last all → Lexes (along (extra + length front) p) rest all
moved p extra {front} {last = last} {all = all} fronts rests inside =
    subst (λ r. Lexes (along (extra + length front) p) r all) (sym rests)
    (subst (λ f. Lexes (along (extra + length f) p) last all) (sym fronts) inside)

behind_front : (p : Place) {front other rest last : List ℕ} {all : List Located} → front ≡ other → rest ≡ last
    → Lexes (along (length other) p) last all → Lexes (along (length front) p) rest all
behind_front p {front} {last = last} {all = all} fronts rests inside =
    subst (λ r. Lexes (along (length front) p) r all) (sym rests) (subst (λ f. Lexes (along (length f) p) last all) (sym fronts) inside)

-- a text whose lexemes are known, read again
pub unique : {p : Place} {text : List ℕ} {one other : List Located} → Lexes p text one → Lexes p text other → one ≡ other
unfolding View kind_of
unique {p} {other = other} (passes_blank {byte = byte} h inside) again =
    let v = view_at (byte-blank byte h) again in
    unique inside (subst (λ r. Lexes (along 1 p) r other) (sym v.1) v.2)
unique {p} {other = other} (passes_line_feed {byte = byte} h inside) again =
    let v = view_at (byte-feed byte h) again in
    unique inside (subst (λ r. Lexes (next_line p) r other) (sym v.1) v.2)
unique {p} (passes_comment {byte = byte} h span inside) again =
    let v = view_at (byte-hash byte h) again in
    let same = span_unique span v.2 in
    unique inside (moved p 1 same.0 same.1 v.3)
unique {p} {text} {other = other} (takes_number {digits = front} {rest = rest} {more = more} h is inside) again =
    let v = view_at (kind-begins_digit text h.begins) again in
    let same = span_unique h.span v.2 in
    elim v.3 [
      | inl w ↦
          let behind = unique inside (behind_front p same.0 same.1 w.2) in
          cc (w.3, same.0)
      | inr w ↦ absurd (number_or_not is (subst (λ r. IsNoNumber front r) (sym same.1) (subst (λ f. IsNoNumber f v.1) (sym same.0) w.0)))
    ]
unique {p} {text} {other = other} (takes_keyword {rest = rest} {which = which} {more = more} h inside) again =
    let v = view_at (kind-begins_letter text h.begins) again in
    let same = span_unique h.span v.3 in
    let behind = unique inside (behind_front p same.0 same.1 v.4) in
    elim v.5 [
      | inl w ↦
          let spelled = keyword_text-injective which w.0 (same.0 ∙ w.1) in
          cc (w.2)
      | inr w ↦ absurd (w.0 (which, sym same.0))
    ]
unique {p} {text} {other = other} (takes_name {word = front} {rest = rest} {more = more} h is inside) again =
    let v = view_at (kind-begins_letter text h.begins) again in
    let same = span_unique h.span v.3 in
    let behind = unique inside (behind_front p same.0 same.1 v.4) in
    elim v.5 [
      | inl w ↦ absurd (is (w.0, same.0 ∙ w.1))
      | inr w ↦ cc (w.1, same.0)
    ]
unique {p} {text} {other = other} (takes_sign {rest = rest} {mark = mark} {more = more} is inside) again =
    let v = view_at (kind-sign is) again in
    elim v [
      | inl w ↦
          let same = sign_unique is w.3 in
          let behind = unique inside (behind_front p (ap sign_text same.0) same.1 w.4) in
          cc (w.5, same.0)
      | inr w ↦ absurd (w.0 mark (rest, is.whole))
    ]
unique {p} {text} {other = other} (stops_at_number {digits = front} {rest = rest} h bad) again =
    let v = view_at (kind-begins_digit text h.begins) again in
    let same = span_unique h.span v.2 in
    elim v.3 [
      | inl w ↦ absurd (number_or_not w.1 (subst (λ r. IsNoNumber v.0 r) same.1 (subst (λ f. IsNoNumber f rest) same.0 bad)))
      | inr w ↦ sym w.1
    ]
unique {p} {text} {other = other} (stops_at_byte h) again =
    let v = view_at (kind-nothing h) again in
    elim v [
      | inl w ↦ absurd (h.no_sign w.0 (w.1, w.3.whole))
      | inr w ↦ sym w.1
    ]
unique stops_at_end again = sym (view_at refl again)
