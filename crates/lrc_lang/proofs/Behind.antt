-- The parser behind some tokens: what it keeps says which token may come next, and which limits that would pass.
use Rattle.std.proofs.Common.{◌≡◌, ◌<◌, ◌≤◌, ◌⊎◌, List, [], ◌∷◌, ◌++◌, Option, Some, None, Ok, Err, refl, sym, ap, subst, ◌∙◌, inl, inr, ⊎_elim, arith}
use Rattle.lrc_lang.specs.declared.fault.FaultKind.{FaultKind}
use Rattle.lrc_lang.specs.declared.fault.FaultKind.TheVariants.{BadByte, BadNumber, Unexpected, TooDeep, TooManyNames, OverLimit, NoMemory}
use Rattle.lrc_lang.specs.declared.limits.Limits as code_limits
use Rattle.lrc_lang.specs.declared.state.ParserState as code_state
use Rattle.lrc_lang.specs.declared.token.Keyword.TheVariants as keywords
use Rattle.lrc_lang.specs.declared.token.Sign.{Sign}
use Rattle.lrc_lang.specs.declared.token.Sign.TheVariants as signs
use Rattle.lrc_lang.specs.Token.{Token, Lexeme, token, bad_byte, bad_number}
use Rattle.lrc_lang.specs.Symbol.{Names, names_with, symbol_of, symbol_of_sign}
use Rattle.lrc_lang.specs.Counts.{names_of, open_with, open_of, operators_with, operators_of, last_of, IsOpening}
use Rattle.lrc_lang.specs.Counts.{IsTooDeep, IsNameTooMany, IsOperator, IsOperatorTooMany}
use Rattle.lrc_lang.specs.Faults.{IsUnexpected, IsNumberOutOfRange, IsOverLimit, HasFault, rank, IsFaultOf, IsFaultless}
use Rattle.lrc_lang.specs.Parser.State as state
use Rattle.lrc_lang.specs.Parser.State.{ParserState, state_with}
use Rattle.lrc_lang.specs.Parser.SeenState.{state_seen, TakesSymbol}
use Rattle.lrc_lang.specs.Parser.SeenLimits.{names_seen, TakesToken}
use Rattle.lrc_lang.specs.Parser.SeenParser.{TakesLexeme}
use Rattle.lrc_lang.proofs.Reaching.{Reaches, Reaches-start, Reaches-push, refused-IsUnexpected, taken-IsUnexpected, fold-append}
use Rattle.lrc_lang.proofs.Stages.{Says, next_says, symbol_out_of_range, number_out_of_range, over_taken}

-- Behind these tokens the parser is in this state and has counted so much.
pub record IsBehind (before : List Token) (s : code_state.ParserState) (l : code_limits.Limits) : Type 0 where
  pub reaches : Reaches before (state_seen s)
  pub says : Says (state_seen s).stage (last_of before)
  pub names : names_seen l ≡ names_of before
  pub nested : l.nested ≡ open_of before
  pub operators : l.operators ≡ operators_of before

pub IsBehind-start : (s : code_state.ParserState) (l : code_limits.Limits) →
    state_seen s ≡ state.start → names_seen l ≡ [] → l.nested ≡ 0 → l.operators ≡ 0 → IsBehind [] s l
IsBehind-start s l is names nested operators = record {
  reaches = subst (λ t. Reaches [] t) (sym is) Reaches-start;
  says = subst (λ t. Says t.stage None) (sym is) tt;
  names = names;
  nested = nested;
  operators = operators;
}

-- ---- a token that is taken

module _ (before : List Token) (s s' : code_state.ParserState) (l l' : code_limits.Limits) (t : Token) (b : IsBehind before s l)
    (taken : TakesLexeme (Ok tt) s l (token t) s' l') where
  step : state_with (state_seen s) (symbol_of (names_of before) t) ≡ Some (state_seen s')
  step = subst (λ names. state_with (state_seen s) (symbol_of names t) ≡ Some (state_seen s')) b.names taken.0.0

  pub IsBehind-push : IsBehind (before ++ t ∷ []) s' l'
  IsBehind-push = record {
    reaches = Reaches-push before (state_seen s) t b.reaches step;
    says = subst (λ last. Says (state_seen s').stage last) (sym (fold-append (λ _ u. Some u) None before (t ∷ [])))
        (next_says (names_of before) (state_seen s) t step);
    names = taken.1.0 ∙ ap (λ names. names_with names t) b.names ∙ sym (fold-append names_with [] before (t ∷ []));
    nested = taken.1.1 ∙ ap (λ n. open_with n t) b.nested ∙ sym (fold-append open_with 0 before (t ∷ []));
    operators = taken.1.2 ∙ ap (λ n. operators_with n (symbol_of [] t)) b.operators
        ∙ sym (fold-append (λ n u. operators_with n (symbol_of [] u)) 0 before (t ∷ []));
  }

  no_limit : IsOverLimit before t → ⊥
  no_limit =
      ⊎_elim
      (λ large. taken.0.1 (symbol_out_of_range (names_seen l) (state_seen s).stage (last_of before) t b.says large))
      (λ many. taken.1.5 (subst (λ n. IsOperatorTooMany n t) (sym b.operators) many))

  pub IsFaultless-taken : IsFaultless before (token t)
  IsFaultless-taken Unexpected h = taken-IsUnexpected before (state_seen s) t b.reaches step h
  IsFaultless-taken TooDeep h = taken.1.3 (subst (λ n. IsTooDeep n t) (sym b.nested) h)
  IsFaultless-taken TooManyNames h = taken.1.4 (subst (λ names. IsNameTooMany names t) (sym b.names) h)
  IsFaultless-taken OverLimit h = no_limit h
  IsFaultless-taken _ h = h

-- ---- what is not taken

-- a number is neither an opening nor a name, a name is no opening, and an operator is neither
abbrev IsNumber : Token → Type 0
IsNumber (Token.number n) = Unit {0}
IsNumber _ = ⊥

out_of_range_is_number : (last : Option Token) (t : Token) → IsNumberOutOfRange last t → IsNumber t
out_of_range_is_number last (Token.number n) large = tt
out_of_range_is_number (Some (Token.keyword keywords.Words)) _ large = large
out_of_range_is_number (Some (Token.keyword keywords.Locks)) _ large = large
out_of_range_is_number _ _ large = absurd large

number_not_opening : (t : Token) → IsNumber t → IsOpening t → ⊥
number_not_opening (Token.number n) is opening = opening
number_not_opening _ is opening = is

number_no_name : (names : Names) (t : Token) → IsNumber t → IsNameTooMany names t → ⊥
number_no_name names (Token.number n) is many = many
number_no_name names _ is many = is

name_not_opening : (names : Names) (t : Token) → IsNameTooMany names t → IsOpening t → ⊥
name_not_opening names (Token.name bytes) many opening = opening
name_not_opening names _ many opening = many

operator_sign_not_opening : (mark : Sign) → IsOperator (symbol_of_sign mark) → IsOpening (Token.sign mark) → ⊥
operator_sign_not_opening signs.OpenBrace is opening = is
operator_sign_not_opening signs.OpenParenthesis is opening = is
operator_sign_not_opening _ is opening = opening

operator_not_opening : (t : Token) → IsOperator (symbol_of [] t) → IsOpening t → ⊥
operator_not_opening (Token.sign mark) is opening = operator_sign_not_opening mark is opening
operator_not_opening _ is opening = is

operator_no_name : (names : Names) (t : Token) → IsOperator (symbol_of [] t) → IsNameTooMany names t → ⊥
operator_no_name names (Token.name bytes) is many = is
operator_no_name names _ is many = many

bad_byte_first : (before : List Token) (other : FaultKind) → rank other < rank BadByte → ¬ HasFault other before bad_byte
bad_byte_first before BadByte r h = omega arith
bad_byte_first before _ r h = h

bad_number_first : (before : List Token) (other : FaultKind) → rank other < rank BadNumber → ¬ HasFault other before bad_number
bad_number_first before BadNumber r h = omega arith
bad_number_first before _ r h = h

-- no fault of a token comes before this one, if none of those does that come before it in rank
none_before : (before : List Token) (t : Token) (kind : FaultKind) → rank kind ≤ rank OverLimit
    → (rank Unexpected < rank kind → ¬ IsUnexpected before t) → (rank TooDeep < rank kind → ¬ IsTooDeep (open_of before) t)
    → (rank TooManyNames < rank kind → ¬ IsNameTooMany (names_of before) t)
    → (other : FaultKind) → rank other < rank kind → ¬ HasFault other before (token t)
none_before before t kind low expected shut few Unexpected r h = expected r h
none_before before t kind low expected shut few TooDeep r h = shut r h
none_before before t kind low expected shut few TooManyNames r h = few r h
none_before before t kind low expected shut few OverLimit r h = omega arith
none_before before t kind low expected shut few _ r h = h

unexpected_fault : (before : List Token) (t : Token) → IsUnexpected before t → IsFaultOf before (token t) Unexpected
unexpected_fault before t has = record {
  has = has;
  first = none_before before t Unexpected (omega arith) (λ r h. omega arith) (λ r h. omega arith) (λ r h. omega arith);
}

deep_fault : (before : List Token) (t : Token) → ¬ IsUnexpected before t → IsTooDeep (open_of before) t → IsFaultOf before (token t) TooDeep
deep_fault before t expected has = record {
  has = has;
  first = none_before before t TooDeep (omega arith) (λ r h. expected h) (λ r h. omega arith) (λ r h. omega arith);
}

names_fault : (before : List Token) (t : Token) → ¬ IsUnexpected before t → IsNameTooMany (names_of before) t → IsFaultOf before (token t) TooManyNames
names_fault before t expected has = record {
  has = has;
  first = none_before before t TooManyNames (omega arith) (λ r h. expected h) (λ r h. name_not_opening (names_of before) t has h.0) (λ r h. omega arith);
}

over_fault : (before : List Token) (t : Token) → ¬ IsUnexpected before t → (¬ IsOpening t) → (¬ IsNameTooMany (names_of before) t) → IsOverLimit before t
    → IsFaultOf before (token t) OverLimit
over_fault before t expected shut few has = record {
  has = has;
  first = none_before before t OverLimit (omega arith) (λ r h. expected h) (λ r h. shut h.0) (λ r h. few h);
}

module _ (before : List Token) (s s' : code_state.ParserState) (l l' : code_limits.Limits) (b : IsBehind before s l) where
  expected : (t : Token) {next : ParserState} → state_with (state_seen s) (symbol_of (names_seen l) t) ≡ Some next → ¬ IsUnexpected before t
  expected t {next} q =
      taken-IsUnexpected before (state_seen s) t b.reaches (subst (λ names. state_with (state_seen s) (symbol_of names t) ≡ Some next) b.names q)

  symbol_fault : (t : Token) (kind : FaultKind) → TakesSymbol (Err kind) (state_seen s) (symbol_of (names_seen l) t) (state_seen s') → (kind ≡ NoMemory)
      ⊎ IsFaultOf before (token t) kind
  symbol_fault t Unexpected q =
      inr (unexpected_fault before t
      (refused-IsUnexpected before (state_seen s) t b.reaches (subst (λ names. state_with (state_seen s) (symbol_of names t) ≡ None) b.names q)))
  symbol_fault t OverLimit over =
      let large : IsNumberOutOfRange (last_of before) t = number_out_of_range (names_seen l) (state_seen s).stage (last_of before) t b.says over in
      let is : IsNumber t = out_of_range_is_number (last_of before) t large in
      inr (over_fault before t (expected t (over_taken (names_seen l) (state_seen s) t over).1) (number_not_opening t is)
      (number_no_name (names_of before) t is) (inl large))
  symbol_fault t NoMemory q = inl refl
  symbol_fault t _ q = absurd q

  token_fault : (t : Token) (kind : FaultKind) {next : ParserState} → state_with (state_seen s) (symbol_of (names_seen l) t) ≡ Some next
      → TakesToken (Err kind) l t l' → (kind ≡ NoMemory) ⊎ IsFaultOf before (token t) kind
  token_fault t TooDeep q deep = inr (deep_fault before t (expected t q) (subst (λ n. IsTooDeep n t) b.nested deep))
  token_fault t TooManyNames q many = inr (names_fault before t (expected t q) (subst (λ names. IsNameTooMany names t) b.names many))
  token_fault t OverLimit q many =
      inr (over_fault before t (expected t q) (operator_not_opening t many.0) (operator_no_name (names_of before) t many.0)
      (inr (subst (λ n. IsOperatorTooMany n t) b.operators many)))
  token_fault t NoMemory q many = inl refl
  token_fault t _ q many = absurd many

  -- what is not taken has this fault, unless memory ran out
  pub fault_of : (next : Lexeme) (kind : FaultKind) → TakesLexeme (Err kind) s l next s' l' → (kind ≡ NoMemory) ⊎ IsFaultOf before next kind
  fault_of (token t) kind taken = ⊎_elim (λ h. symbol_fault t kind h) (λ h. token_fault t kind h.1 h.2) taken
  fault_of bad_byte kind is = inr (subst (λ k. IsFaultOf before bad_byte k) (sym is) (record { has = tt; first = bad_byte_first before }))
  fault_of bad_number kind is = inr (subst (λ k. IsFaultOf before bad_number k) (sym is) (record { has = tt; first = bad_number_first before }))
