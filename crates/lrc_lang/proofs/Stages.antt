-- What the last token was, by the stage behind it: only behind `words` and `locks` may a number pass its limit.
use Rattle.std.proofs.Common.{◌≡◌, ◌<◌, ◌⊎◌, ℕ, Option, Some, None, refl, sym, ap, subst, ◌∙◌}
use Rattle.lrc_program.specs.declared.TheConstants.{MOST_WORDS}
use Rattle.lrc_lang.specs.declared.token.Keyword.TheVariants.{Words, Locks}
use Rattle.lrc_lang.specs.declared.token.Keyword.{Keyword}
use Rattle.lrc_lang.specs.declared.token.Sign.{Sign}
use Rattle.lrc_lang.specs.declared.token.Sign.TheVariants as signs
use Rattle.lrc_lang.specs.Token.{Token}
use Rattle.lrc_lang.specs.Symbol.{Symbol, number, name, keyword, sign, finish, Names, number_of, symbol_of, symbol_of_sign}
use Rattle.lrc_program.specs.Tree.{Block}
use Rattle.lrc_lang.specs.Parser.Body.{Body, body_with, whole_of, if_some}
use Rattle.lrc_lang.specs.Parser.State as state
use Rattle.lrc_lang.specs.Parser.State.{Stage, words, words_number, words_end, locks, locks_number, locks_end, statements, nothing, ParserState, state_with}
use Rattle.lrc_lang.specs.Parser.SeenState.{IsOutOfRange}
use Rattle.lrc_lang.specs.Faults.{IsNumberOutOfRange}
use Rattle.lrc_lang.proofs.Foreign as foreign
use Rattle.lrc_lang.proofs.Foreign.{foreign_refused}
use Rattle.lrc_lang.proofs.Options.{none_some, some_same}

-- a stage where no number of words or locks comes next
abbrev IsOther : Stage → Type 0
IsOther words_number = ⊥
IsOther locks_number = ⊥
IsOther _ = Unit {0}

-- the stage behind a symbol
abbrev IsBehindSymbol : Symbol → Stage → Type 0
IsBehindSymbol (keyword Words) stage = stage ≡ words_number
IsBehindSymbol (keyword Locks) stage = stage ≡ locks_number
IsBehindSymbol _ stage = IsOther stage

stage_same : {s t : ParserState} (P : Stage → Type 0) → Some s ≡ Some t → P s.stage → P t.stage
stage_same P q h = subst (λ s. P s.stage) (some_same q) h

finished_stage : (s : ParserState) (found : Option Block) {t : ParserState}
    → if_some found (λ whole. Some (state.finished s whole)) ≡ Some t → t.stage ≡ nothing
finished_stage s None q = absurd (none_some q)
finished_stage s (Some whole) q = stage_same (λ stage. stage ≡ nothing) q refl

end_at : (s : ParserState) (stage : Stage) {t : ParserState} → state.moved stage s finish ≡ Some t → t.stage ≡ nothing
end_at s statements q = finished_stage s (whole_of s.body) q
end_at s _ q = absurd (none_some q)

-- behind the end of the text nothing comes
pub end_of_state : (s : ParserState) {t : ParserState} → state_with s finish ≡ Some t → t.stage ≡ nothing
end_of_state s q = end_at s s.stage q

same_stage : (s : ParserState) (found : Option Body) {t : ParserState} → if_some found (λ b. Some (record s { body = b })) ≡ Some t → t.stage ≡ s.stage
same_stage s None q = absurd (none_some q)
same_stage s (Some b) q = stage_same (λ stage. stage ≡ s.stage) q refl

other_stage : (s : ParserState) (found : Option Body) {t : ParserState} → s.stage ≡ statements → if_some found (λ b. Some (record s { body = b })) ≡ Some t
    → IsOther t.stage
other_stage s found e q = subst IsOther (sym (same_stage s found q ∙ e)) tt

no_body : (s : ParserState) (found : Option Body) {t : ParserState} → found ≡ None → if_some found (λ b. Some (record s { body = b })) ≡ Some t → ⊥
no_body s None e q = none_some q
no_body s (Some b) e q = none_some (sym e)

behind_statements : (s : ParserState) (symbol : Symbol) {t : ParserState} → s.stage ≡ statements
    → state.in_statements s symbol ≡ Some t → IsBehindSymbol symbol t.stage
behind_statements s finish e q = subst IsOther (sym (finished_stage s (whole_of s.body) q)) tt
behind_statements s (keyword Words) e q = absurd (no_body s (body_with s.body (keyword Words)) (foreign_refused s.body foreign.words) q)
behind_statements s (keyword Locks) e q = absurd (no_body s (body_with s.body (keyword Locks)) (foreign_refused s.body foreign.locks) q)
behind_statements s symbol e q = other_stage s (body_with s.body symbol) e q

behind_at : (s : ParserState) (stage : Stage) (symbol : Symbol) {t : ParserState} → s.stage ≡ stage
    → state.moved stage s symbol ≡ Some t → IsBehindSymbol symbol t.stage
behind_at s words (keyword Words) e q = stage_same (IsBehindSymbol (keyword Words)) q refl
behind_at s words_number (number n) e q = stage_same IsOther q tt
behind_at s words_end (sign signs.Semicolon) e q = stage_same IsOther q tt
behind_at s locks (keyword Locks) e q = stage_same (IsBehindSymbol (keyword Locks)) q refl
behind_at s locks_number (number n) e q = stage_same IsOther q tt
behind_at s locks_end (sign signs.Semicolon) e q = stage_same IsOther q tt
behind_at s statements symbol e q = behind_statements s symbol e q
behind_at s _ _ e q = absurd (none_some q)

behind_symbol : (s : ParserState) (symbol : Symbol) {t : ParserState} → state_with s symbol ≡ Some t → IsBehindSymbol symbol t.stage
behind_symbol s symbol q = behind_at s s.stage symbol refl q

-- ---- the last token

-- a token behind which no number of words or locks comes
abbrev IsPlain : Option Token → Type 0
IsPlain (Some (Token.keyword Words)) = ⊥
IsPlain (Some (Token.keyword Locks)) = ⊥
IsPlain _ = Unit {0}

-- the last token, by the stage behind it
abbrev pub Says : Stage → Option Token → Type 0
Says words_number last = last ≡ Some (Token.keyword Words)
Says locks_number last = last ≡ Some (Token.keyword Locks)
Says _ last = IsPlain last

says_plain : (stage : Stage) (last : Option Token) → IsPlain last → IsOther stage → Says stage last
says_plain words_number last h o = absurd o
says_plain locks_number last h o = absurd o
says_plain _ last h o = h

says_words : (stage : Stage) → stage ≡ words_number → Says stage (Some (Token.keyword Words))
says_words stage e = subst (λ s. Says s (Some (Token.keyword Words))) (sym e) refl

says_locks : (stage : Stage) → stage ≡ locks_number → Says stage (Some (Token.keyword Locks))
says_locks stage e = subst (λ s. Says s (Some (Token.keyword Locks))) (sym e) refl

says_keyword : (word : Keyword) (stage : Stage) → IsBehindSymbol (keyword word) stage → Says stage (Some (Token.keyword word))
says_keyword Words stage h = says_words stage h
says_keyword Locks stage h = says_locks stage h
says_keyword _ stage h = says_plain stage _ tt h

sign_is_other : (mark : Sign) (stage : Stage) → IsBehindSymbol (symbol_of_sign mark) stage → IsOther stage
sign_is_other signs.Plus stage h = h
sign_is_other _ stage h = h

says_token : (names : Names) (t : Token) (stage : Stage) → IsBehindSymbol (symbol_of names t) stage → Says stage (Some t)
says_token names (Token.number n) stage h = says_plain stage _ tt h
says_token names (Token.name bytes) stage h = says_plain stage _ tt h
says_token names (Token.keyword word) stage h = says_keyword word stage h
says_token names (Token.sign mark) stage h = says_plain stage _ tt (sign_is_other mark stage h)
says_token names Token.finish stage h = says_plain stage _ tt h

pub next_says : (names : Names) (s : ParserState) (t : Token) {next : ParserState} → state_with s (symbol_of names t) ≡ Some next → Says next.stage (Some t)
next_says names s t {next} q = says_token names t next.stage (behind_symbol s (symbol_of names t) q)

-- ---- so a number passes its limit just where it is said to

number_over : (stage : Stage) (n : ℕ) → Says stage (Some (Token.keyword Words)) → (n < 1) ⊎ (MOST_WORDS < n) → IsOutOfRange stage (number n)
number_over words_number n h o = o
number_over locks_number n h o = cc
number_over _ n h o = absurd h

locks_over : (stage : Stage) (n : ℕ) → Says stage (Some (Token.keyword Locks)) → 64 < n → IsOutOfRange stage (number n)
locks_over words_number n h o = cc
locks_over locks_number n h o = o
locks_over _ n h o = absurd h

pub symbol_out_of_range : (names : Names) (stage : Stage) (last : Option Token) (t : Token) → Says stage last → IsNumberOutOfRange last t
    → IsOutOfRange stage (symbol_of names t)
symbol_out_of_range names stage (Some (Token.keyword Words)) (Token.number n) h o = number_over stage n h o
symbol_out_of_range names stage (Some (Token.keyword Locks)) (Token.number n) h o = locks_over stage n h o
symbol_out_of_range names stage _ _ h o = absurd o

sign_not_over : (stage : Stage) (mark : Sign) → IsOutOfRange stage (symbol_of_sign mark) → ⊥
sign_not_over words_number signs.Plus o = o
sign_not_over locks_number signs.Plus o = o
sign_not_over _ _ o = o

name_not_over : (stage : Stage) (k : ℕ) → IsOutOfRange stage (name k) → ⊥
name_not_over words_number k o = o
name_not_over locks_number k o = o
name_not_over _ k o = o

keyword_not_over : (stage : Stage) (which : Keyword) → IsOutOfRange stage (keyword which) → ⊥
keyword_not_over words_number which o = o
keyword_not_over locks_number which o = o
keyword_not_over _ which o = o

end_not_over : (stage : Stage) → IsOutOfRange stage finish → ⊥
end_not_over words_number o = o
end_not_over locks_number o = o
end_not_over _ o = o

stage_out_of_range : (stage : Stage) (last : Option Token) (n : ℕ) → Says stage last → IsOutOfRange stage (number n) → IsNumberOutOfRange last (Token.number n)
stage_out_of_range words_number last n h o = subst (λ l. IsNumberOutOfRange l (Token.number n)) (sym h) o
stage_out_of_range locks_number last n h o = subst (λ l. IsNumberOutOfRange l (Token.number n)) (sym h) o
stage_out_of_range _ last n h o = absurd o

pub number_out_of_range : (names : Names) (stage : Stage) (last : Option Token) (t : Token) → Says stage last → IsOutOfRange stage (symbol_of names t)
    → IsNumberOutOfRange last t
number_out_of_range names stage last (Token.number n) h o = stage_out_of_range stage last n h o
number_out_of_range names stage last (Token.name bytes) h o = absurd (name_not_over stage (number_of names bytes) o)
number_out_of_range names stage last (Token.keyword word) h o = absurd (keyword_not_over stage word o)
number_out_of_range names stage last (Token.sign mark) h o = absurd (sign_not_over stage mark o)
number_out_of_range names stage last Token.finish h o = absurd (end_not_over stage o)

over_words : (s : ParserState) (n : ℕ) → s.stage ≡ words_number → (t : ParserState) × (state_with s (number n) ≡ Some t)
over_words s n e = (_, ap (λ stage. state.moved stage s (number n)) e)

over_locks : (s : ParserState) (n : ℕ) → s.stage ≡ locks_number → (t : ParserState) × (state_with s (number n) ≡ Some t)
over_locks s n e = (_, ap (λ stage. state.moved stage s (number n)) e)

number_taken : (s : ParserState) (stage : Stage) (n : ℕ) → s.stage ≡ stage → IsOutOfRange stage (number n) → (t : ParserState)
    × (state_with s (number n) ≡ Some t)
number_taken s words_number n e o = over_words s n e
number_taken s locks_number n e o = over_locks s n e
number_taken s _ n e o = absurd o

-- a number that passes its limit may stand there
pub over_taken : (names : Names) (s : ParserState) (t : Token) → IsOutOfRange s.stage (symbol_of names t) → (next : ParserState)
    × (state_with s (symbol_of names t) ≡ Some next)
over_taken names s (Token.number n) o = number_taken s s.stage n refl o
over_taken names s (Token.name bytes) o = absurd (name_not_over s.stage (number_of names bytes) o)
over_taken names s (Token.keyword word) o = absurd (keyword_not_over s.stage word o)
over_taken names s (Token.sign mark) o = absurd (sign_not_over s.stage mark o)
over_taken names s Token.finish o = absurd (end_not_over s.stage o)
