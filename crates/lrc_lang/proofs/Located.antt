-- Where what stands in a text begins: from what the lexer has found out about the text.
use Rattle.std.proofs.Common.{◌≡◌, ◌≢◌, ℕ, ◌+◌, ◌-◌, ◌<◌, ◌≤◌, ◌^◌, List, [], ◌∷◌, ◌++◌, length, fold, get_or, take, drop, refl, sym, ap, ◌∙◌, subst, arith}
use Rattle.std.proofs.Common.{append_assoc, length-take, map}
use Rattle.std.proofs.Math.Seq.{take-append-add}
use Rattle.std.proofs.lemmas.List.{nil_from_length, take-append-drop, map-append}
use Rattle.std.proofs.lemmas.List.Sums.{fold-append}
use Rattle.lrc_lang.specs.declared.token.Keyword.{Keyword}
use Rattle.lrc_lang.specs.declared.token.Sign.{Sign}
use Rattle.lrc_lang.specs.Token.{number, name, keyword, sign, finish, Lexeme, token, bad_byte, bad_number, Placed}
use Rattle.lrc_lang.specs.Lexemes.{IsBlank, IsLineFeed, IsHash, IsDigit, IsLetter, IsLetterOrDigit, IsWithinLine, BeginsWith, IsSpan, value_of}
use Rattle.lrc_lang.specs.Lexemes.{IsNoNumber, keyword_text, IsKeyword, sign_text, at, Lexes, passes_blank, passes_line_feed, passes_comment}
use Rattle.lrc_lang.specs.Lexemes.{takes_number, takes_keyword, takes_name, takes_sign, stops_at_number, stops_at_byte, stops_at_end, Follows, IsShorter}
use Rattle.lrc_lang.specs.FirstFault.{placed}
use Rattle.lrc_lang.specs.Lexer.{IsReady}
use Rattle.lrc_lang.specs.Parser.Past.{GoesOn}
use Rattle.lrc_lang.specs.Positions.{places_in, places_behind, with_byte, behind_line_feed, Located, located_at, located, HasLocated}
use Rattle.lrc_lang.specs.Positions.{PassesTo, TakesHere, NextAt}
use Rattle.lrc_lang.proofs.LexemesPast.{nothing_follows}
use Rattle.lrc_lang.proofs.LexemesSigns.{long_sign_is, short_sign_is, begins_nothing}
use Rattle.lrc_lang.proofs.LexemesSteps.{front_is}

-- ---- what is taken is taken here

pub number_here : {text digits rest : List ℕ} {value : ℕ} → BeginsWith IsDigit text → IsSpan IsDigit text digits rest → ¬ BeginsWith IsLetter rest
    → (value_of digits < 2 ^ 64) × (value ≡ value_of digits) → TakesHere text (token (number value)) rest
number_here {text} begins span no_letter is line more follows =
    subst (λ v. (whole : Lexes line text (at line (token (number v)) ∷ more)) × (places_in whole ≡ text ∷ places_in follows)) (sym is.1)
    (takes_number (record { begins = begins; span = span }) (record { in_range = omega (arith, is.0); no_letter = no_letter }) follows, refl)

pub bad_number_here : {text digits rest : List ℕ} → BeginsWith IsDigit text → IsSpan IsDigit text digits rest → IsNoNumber digits rest
    → TakesHere text bad_number rest
bad_number_here {text} begins span bad line more none =
    subst (λ m. (whole : Lexes line text (at line bad_number ∷ m)) × (places_in whole ≡ text ∷ [])) (sym none)
    (stops_at_number (record { begins = begins; span = span }) bad, refl)

pub keyword_here : {text word rest : List ℕ} {which : Keyword} → BeginsWith IsLetter text → IsSpan IsLetterOrDigit text word rest
    → word ≡ keyword_text which → TakesHere text (token (keyword which)) rest
keyword_here {text} {rest = rest} begins span is line more follows =
    (takes_keyword (record { begins = begins; span = subst (λ w. IsSpan IsLetterOrDigit text w rest) is span }) follows, refl)

pub name_here : {text word rest : List ℕ} → BeginsWith IsLetter text → IsSpan IsLetterOrDigit text word rest → ¬ IsKeyword word
    → TakesHere text (token (name word)) rest
name_here begins span other line more follows = (takes_name (record { begins = begins; span = span }) other follows, refl)

pub long_sign_here : {first : ℕ} {behind rest : List ℕ} {mark : Sign} → sign_text mark ≡ first ∷ 61 ∷ [] → behind ≡ 61 ∷ rest
    → TakesHere (first ∷ behind) (token (sign mark)) rest
long_sign_here is goes_on line more follows = (takes_sign (long_sign_is is goes_on) follows, refl)

pub short_sign_here : {first : ℕ} {behind : List ℕ} {mark : Sign} → sign_text mark ≡ first ∷ []
    → (BeginsWith (λ byte. byte ≡ 61) behind → (longer : Sign) → sign_text longer ≢ first ∷ 61 ∷ []) → TakesHere (first ∷ behind) (token (sign mark)) behind
short_sign_here is no_longer line more follows = (takes_sign (short_sign_is is no_longer) follows, refl)

pub bad_byte_here : {first : ℕ} {behind : List ℕ} → IsReady (first ∷ behind) → ¬ IsDigit first → ¬ IsLetter first
    → (BeginsWith (λ byte. byte ≡ 61) behind → (longer : Sign) → sign_text longer ≢ first ∷ 61 ∷ []) → ((mark : Sign) → sign_text mark ≢ first ∷ [])
    → TakesHere (first ∷ behind) bad_byte behind
bad_byte_here {first} {behind} ready no_digit no_letter no_longer no_sign line more none =
    subst (λ m. (whole : Lexes line (first ∷ behind) (at line bad_byte ∷ m)) × (places_in whole ≡ (first ∷ behind) ∷ [])) (sym none)
    (stops_at_byte (begins_nothing ready no_digit no_letter no_longer no_sign), refl)

end_of_nothing : (line : ℕ) (more : List Placed) → more ≡ []
    → (whole : Lexes line [] (at line (token finish) ∷ more)) × (places_in whole ≡ [] ∷ [])
end_of_nothing line more none =
    subst (λ m. (whole : Lexes line [] (at line (token finish) ∷ m)) × (places_in whole ≡ [] ∷ [])) (sym none) (stops_at_end, refl)

pub end_here : (text rest : List ℕ) → length text < 1 → TakesHere text (token finish) rest
end_here text rest empty line more none =
    subst (λ t. (whole : Lexes line t (at line (token finish) ∷ more)) × (places_in whole ≡ t ∷ [])) (sym (nil_from_length text (omega arith)))
    (end_of_nothing line more none)

-- ---- what is passed over

pub passes_on : {line between behind : ℕ} {text middle rest : List ℕ} → PassesTo line text between middle → PassesTo between middle behind rest
    → PassesTo line text behind rest
passes_on front back all inside =
    let inner = back all inside in
    let outer = front all inner.0 in
    (outer.0, outer.1 ∙ inner.1)

pub blank_to : (line : ℕ) (text : List ℕ) → 1 ≤ length text → IsBlank (get_or text 0 0)
    → PassesTo line text line (take (length text - 1) (drop 1 text))
blank_to line text some blank =
    subst (λ t. PassesTo line t line (take (length text - 1) (drop 1 text))) (sym (front_is text some)) (λ all inside. (passes_blank blank inside, refl))

pub line_feed_to : (line : ℕ) (text : List ℕ) → 1 ≤ length text → IsLineFeed (get_or text 0 0)
    → PassesTo line text (line + 1) (take (length text - 1) (drop 1 text))
line_feed_to line text some feed =
    subst (λ t. PassesTo line t (line + 1) (take (length text - 1) (drop 1 text))) (sym (front_is text some))
    (λ all inside. (passes_line_feed feed inside, refl))

pub comment_to : (line : ℕ) (text words rest : List ℕ) → 1 ≤ length text → IsHash (get_or text 0 0)
    → IsSpan IsWithinLine (take (length text - 1) (drop 1 text)) words rest → PassesTo line text line rest
comment_to line text words rest some hash span =
    subst (λ t. PassesTo line t line rest) (sym (front_is text some)) (λ all inside. (passes_comment hash span inside, refl))

-- ---- one step

pub no_longer_than : (found : Lexeme) (text rest : List ℕ) → IsShorter found text rest → length rest ≤ length text
no_longer_than (token (number value)) text rest shorter = omega (arith, shorter)
no_longer_than (token (name word)) text rest shorter = omega (arith, shorter)
no_longer_than (token (keyword which)) text rest shorter = omega (arith, shorter)
no_longer_than (token (sign mark)) text rest shorter = omega (arith, shorter)
no_longer_than (token finish) text rest shorter = shorter
no_longer_than bad_byte text rest shorter = omega (arith, shorter)
no_longer_than bad_number text rest shorter = omega (arith, shorter)

pub next_at : {line behind : ℕ} {text middle rest : List ℕ} {found : Lexeme} → PassesTo line text behind middle → length middle ≤ length text
    → TakesHere middle found rest → IsShorter found middle rest → NextAt line text (at behind found) (length middle) rest
next_at {behind = behind} {middle = middle} {rest = rest} {found = found} passed within taken shorter = record {
  place = middle;
  is_left = refl;
  within = within;
  behind = no_longer_than found middle rest shorter;
  joined = λ more follows.
      let here = taken behind more follows in
      let whole = passed (at behind found ∷ more) here.0 in
      (whole.0, whole.1 ∙ here.1);
}

-- ---- a text, as far as it is read

-- These stand in the text, and then what stands in the rest, which begins on this line.
pub record IsLocatedTo (text : List ℕ) (so_far : List Located) (line : ℕ) (rest : List ℕ) : Type 0 where
  pub on : (all : List Placed) (inside : Lexes line rest all) → HasLocated text (so_far ++ located text all (places_in inside))

pub nothing_located : (text : List ℕ) → IsLocatedTo text [] 1 text
nothing_located text = record { on = λ all inside. record { lexemes = all; lexed = inside; each = refl } }

-- behind a token that goes on stands the rest, at the same places
goes_to : {line : ℕ} {rest : List ℕ} {more : List Placed} (found : Lexeme) → GoesOn found → (inside : Lexes line rest more)
    → (follows : Follows found line rest more) × (places_behind found line rest more follows ≡ places_in inside)
goes_to (token (number value)) on inside = (inside, refl)
goes_to (token (name word)) on inside = (inside, refl)
goes_to (token (keyword which)) on inside = (inside, refl)
goes_to (token (sign mark)) on inside = (inside, refl)
goes_to (token finish) on inside = absurd on
goes_to bad_byte on inside = absurd on
goes_to bad_number on inside = absurd on

pub one_located : {text rest last : List ℕ} {so_far : List Located} {found : Placed} {line left : ℕ} {one : Located} → IsLocatedTo text so_far line rest
    → (next : NextAt line rest found left last) → GoesOn found.lexeme → one ≡ located_at text found next.place
    → IsLocatedTo text (so_far ++ one ∷ []) found.line last
one_located {text} {so_far = so_far} {found = found} {one = one} past next goes is = record {
  on = λ all inside.
      let behind = goes_to found.lexeme goes inside in
      let here = next.joined all behind.0 in
      let places = here.1 ∙ ap (λ p. next.place ∷ p) behind.1 in
      let whole = past.on (found ∷ all) here.0 in
      let these = ap (λ p. so_far ++ located text (found ∷ all) p) places in
      let first = ap (λ l. so_far ++ l ∷ located text all (places_in inside)) (sym is) in
      subst (HasLocated text) (these ∙ first ∙ sym (append_assoc so_far (one ∷ []) (located text all (places_in inside)))) whole;
}

pub all_located : {text rest last : List ℕ} {so_far : List Located} {found : Placed} {line left : ℕ} {one : Located} → IsLocatedTo text so_far line rest
    → (next : NextAt line rest found left last) → ¬ GoesOn found.lexeme → one ≡ located_at text found next.place
    → HasLocated text (so_far ++ one ∷ [])
all_located {text} {last = last} {so_far = so_far} {found = found} {one = one} past next off is =
    let follows = nothing_follows found.line last found.lexeme off in
    let here = next.joined [] follows in
    let whole = past.on (found ∷ []) here.0 in
    let these = ap (λ p. so_far ++ located text (found ∷ []) p) here.1 in
    let first = ap (λ l. so_far ++ l ∷ []) (sym is) in
    subst (HasLocated text) (these ∙ first) whole

-- ---- columns

take_on : (text : List ℕ) (a b : ℕ) → a ≤ b → a ≤ length text → take b text ≡ take a text ++ take (b - a) (drop a text)
take_on text a b up within =
    let long : length (take a text) ≡ a = simp length-take (omega arith) in
    let sum : b ≡ length (take a text) + (b - a) = omega (arith, long) in
    ap (take b) (sym (take-append-drop a text)) ∙ ap (λ n. take n (take a text ++ drop a text)) sum ∙ take-append-add (take a text) (drop a text) (b - a)

pub behind_more : (text : List ℕ) (a b : ℕ) → a ≤ b → a ≤ length text
    → fold with_byte (behind_line_feed (take a text)) (take (b - a) (drop a text)) ≡ behind_line_feed (take b text)
behind_more text a b up within =
    sym (fold-append with_byte 0 (take a text) (take (b - a) (drop a text))) ∙ ap behind_line_feed (sym (take_on text a b up within))

pub behind_next : (text : List ℕ) (a b before behind : ℕ) → a ≤ b → a ≤ length text → before ≡ behind_line_feed (take a text)
    → behind ≡ fold with_byte before (take (b - a) (drop a text)) → behind ≡ behind_line_feed (take b text)
behind_next text a b before behind up within was is =
    is ∙ ap (λ n. fold with_byte n (take (b - a) (drop a text))) was ∙ behind_more text a b up within

pub located_there : (text place : List ℕ) (found : Placed) (left behind : ℕ) → length place ≡ left → behind ≡ behind_line_feed (take (length text - left) text)
    → record { line = found.line; column = behind + 1; offset = length text - left; lexeme = found.lexeme } ≡ located_at text found place
located_there text place found left behind is_left is =
    let there : ℕ → Located = λ n. record { line = found.line; column = behind_line_feed (take n text) + 1; offset = n; lexeme = found.lexeme } in
    let column : ℕ → Located = λ b. record { line = found.line; column = b + 1; offset = length text - left; lexeme = found.lexeme } in
    ap column is ∙ ap there (ap (λ l. length text - l) (sym is_left))

pub begun : {text rest : List ℕ} {so_far : List Located} {line : ℕ} → so_far ≡ [] → line ≡ 1 → rest ≡ text → IsLocatedTo text so_far line rest
begun {text} none first whole = rw (none, first, whole) (nothing_located text)

pub pushed : {C : Type 0} (seen : C → Located) (old new : List C) (one : C) → new ≡ old ++ one ∷ [] → map seen new ≡ map seen old ++ seen one ∷ []
pushed seen old new one is = ap (map seen) is ∙ map-append seen old (one ∷ [])

pub within_bound : (text : List ℕ) (a b before behind : ℕ) → before ≤ a → a ≤ b → behind ≤ before + length (take (b - a) (drop a text)) → behind ≤ b
within_bound text a b before behind was up is =
    let long : length (take (b - a) (drop a text)) ≤ b - a = simp length-take (omega arith) in
    omega arith

-- what stands at its places stands there
pub placed_located : {line : ℕ} {text : List ℕ} {all : List Placed} (whole : List ℕ) (lexed : Lexes line text all)
    → map placed (located whole all (places_in lexed)) ≡ all
placed_located whole (passes_blank is inside) = placed_located whole inside
placed_located whole (passes_line_feed is inside) = placed_located whole inside
placed_located whole (passes_comment is span inside) = placed_located whole inside
placed_located {line} whole (takes_number {digits = digits} begins is inside) =
    ap (λ others. at line (token (number (value_of digits))) ∷ others) (placed_located whole inside)
placed_located {line} whole (takes_keyword {which = which} word inside) =
    ap (λ others. at line (token (keyword which)) ∷ others) (placed_located whole inside)
placed_located {line} whole (takes_name {word = bytes} word other inside) =
    ap (λ others. at line (token (name bytes)) ∷ others) (placed_located whole inside)
placed_located {line} whole (takes_sign {mark = mark} is inside) =
    ap (λ others. at line (token (sign mark)) ∷ others) (placed_located whole inside)
placed_located whole (stops_at_number digits bad) = refl
placed_located whole (stops_at_byte nothing) = refl
placed_located whole stops_at_end = refl

pub lexed_located : {text : List ℕ} {all : List Located} → HasLocated text all → Lexes 1 text (map placed all)
lexed_located {text} h = subst (Lexes 1 text) (sym (ap (map placed) h.each ∙ placed_located text h.lexed)) h.lexed
