-- The parser behind some tokens: what it keeps says which token may come next, and which limits that would pass.
use Rattle.std.proofs.Common.{◌≡◌, ◌<◌, ◌≤◌, ◌⊎◌, ℕ, List, [], ◌∷◌, ◌++◌, length, Some, None, Ok, Err, refl, sym, ap, subst, ◌∙◌, inl, inr, ⊎_elim, arith}
use Rattle.lrc_lang.specs.declared.fault.FaultKind.{FaultKind}
use Rattle.lrc_lang.specs.declared.fault.FaultKind.TheVariants.{BadByte, BadNumber, Unexpected, TooDeep, OverLimit, NoMemory}
use Rattle.lrc_lang.specs.Faults.{rank}
use Rattle.lrc_lang.specs.Parser.Seen.{Fails}
use Rattle.lrc_named_tokens.specs.declared.token.Sign.TheVariants as signs
use Rattle.lrc_named_tokens.specs.Token.{Token, Lexeme, token, bad_byte, bad_number}
use Rattle.lrc_named_parse.specs.declared.limits.Limits as code_limits
use Rattle.lrc_named_parse.specs.declared.state.State as code_state
use Rattle.lrc_named_parse.specs.Counts.{apart, open_with, open_of, counted_with, counted_of, IsOpening, IsTooDeep, IsOperator, IsOperatorTooMany}
use Rattle.lrc_named_parse.specs.Faults.{IsUnexpected, HasFault, IsFaultOf, IsFaultless}
use Rattle.lrc_named_parse.specs.State as state
use Rattle.lrc_named_parse.specs.State.{State, state_with}
use Rattle.lrc_named_parse.specs.SeenState.{state_seen}
use Rattle.lrc_named_parse.specs.SeenLimits.{counted_seen}
use Rattle.lrc_named_parse.specs.SeenParser.{TakesLimits, TakesLexeme}
use Rattle.lrc_named_parse.proofs.Reaching.{Reaches, Reaches-start, Reaches-push, refused-IsUnexpected, taken-IsUnexpected, fold-append}

-- Behind these tokens, of which there are so many, the parser is in this state and has counted so much.
pub record IsBehind (before : List Token) (i : ℕ) (s : code_state.State) (l : code_limits.Limits) : Type 0 where
  pub many : length before ≡ i
  pub reaches : Reaches before (state_seen s)
  pub nested : l.nested ≡ open_of before
  pub counted : counted_seen l.counted ≡ counted_of before

pub IsBehind-start : (s : code_state.State) (l : code_limits.Limits) →
    state_seen s ≡ state.start → l.nested ≡ 0 → counted_seen l.counted ≡ apart → IsBehind [] 0 s l
IsBehind-start s l is nested counted = record {
  many = refl;
  reaches = subst (λ t. Reaches [] t) (sym is) Reaches-start;
  nested = nested;
  counted = counted;
}

-- ---- a token that is taken

module _ (before : List Token) (i : ℕ) (s s' : code_state.State) (l l' : code_limits.Limits) (t : Token) (b : IsBehind before i s l)
    (taken : TakesLexeme (Ok tt) s l i (token t) s' l') where
  step : state_with (state_seen s) (length before) t ≡ Some (state_seen s')
  step = subst (λ n. state_with (state_seen s) n t ≡ Some (state_seen s')) (sym b.many) taken.0

  pub IsBehind-push : (n : ℕ) → length (before ++ t ∷ []) ≡ n → IsBehind (before ++ t ∷ []) n s' l'
  IsBehind-push n many = record {
    many = many;
    reaches = Reaches-push before (state_seen s) t b.reaches step;
    nested = taken.1.0 ∙ ap (λ m. open_with m t) b.nested ∙ sym (fold-append open_with 0 before (t ∷ []));
    counted = taken.1.1 ∙ ap (λ m. counted_with m t) b.counted ∙ sym (fold-append counted_with apart before (t ∷ []));
  }

  pub IsFaultless-taken : IsFaultless before (token t)
  IsFaultless-taken Unexpected h = taken-IsUnexpected before (state_seen s) t b.reaches step h
  IsFaultless-taken TooDeep h = taken.1.2 (subst (λ n. IsTooDeep n t) (sym b.nested) h)
  IsFaultless-taken OverLimit h = taken.1.3 (subst (λ n. IsOperatorTooMany n t) (sym b.counted) h)
  IsFaultless-taken _ h = h

-- ---- what is not taken

operator_not_opening : (t : Token) → IsOperator t → IsOpening t → ⊥
operator_not_opening (Token.sign signs.OpenBrace) is opening = is
operator_not_opening (Token.sign signs.OpenParenthesis) is opening = is
operator_not_opening (Token.sign signs.OpenBracket) is opening = is
operator_not_opening (Token.sign _) is opening = opening
operator_not_opening _ is opening = opening

bad_byte_first : (before : List Token) (other : FaultKind) → rank other < rank BadByte → ¬ HasFault other before bad_byte
bad_byte_first before BadByte r h = omega arith
bad_byte_first before _ r h = h

bad_number_first : (before : List Token) (other : FaultKind) → rank other < rank BadNumber → ¬ HasFault other before bad_number
bad_number_first before BadNumber r h = omega arith
bad_number_first before _ r h = h

-- no fault of a token comes before this one, if none of those does that come before it in rank
none_before : (before : List Token) (t : Token) (kind : FaultKind) → rank kind ≤ rank OverLimit
    → (rank Unexpected < rank kind → ¬ IsUnexpected before t) → (rank TooDeep < rank kind → ¬ IsTooDeep (open_of before) t)
    → (other : FaultKind) → rank other < rank kind → ¬ HasFault other before (token t)
none_before before t kind low expected shut Unexpected r h = expected r h
none_before before t kind low expected shut TooDeep r h = shut r h
none_before before t kind low expected shut OverLimit r h = omega arith
none_before before t kind low expected shut _ r h = h

unexpected_fault : (before : List Token) (t : Token) → IsUnexpected before t → IsFaultOf before (token t) Unexpected
unexpected_fault before t has = record {
  has = has;
  first = none_before before t Unexpected (omega arith) (λ r h. omega arith) (λ r h. omega arith);
}

deep_fault : (before : List Token) (t : Token) → ¬ IsUnexpected before t → IsTooDeep (open_of before) t → IsFaultOf before (token t) TooDeep
deep_fault before t expected has = record {
  has = has;
  first = none_before before t TooDeep (omega arith) (λ r h. expected h) (λ r h. omega arith);
}

over_fault : (before : List Token) (t : Token) → ¬ IsUnexpected before t → IsOperatorTooMany (counted_of before) t → IsFaultOf before (token t) OverLimit
over_fault before t expected has = record {
  has = has;
  first = none_before before t OverLimit (omega arith) (λ r h. expected h) (λ r h. operator_not_opening t has.0 h.0);
}

module _ (before : List Token) (i : ℕ) (s s' : code_state.State) (l l' : code_limits.Limits) (b : IsBehind before i s l) where
  expected : (t : Token) {next : State} → state_with (state_seen s) i t ≡ Some next → ¬ IsUnexpected before t
  expected t {next} q =
      taken-IsUnexpected before (state_seen s) t b.reaches (subst (λ n. state_with (state_seen s) n t ≡ Some next) (sym b.many) q)

  state_fault : (t : Token) (kind : FaultKind) → Fails kind (state_with (state_seen s) i t) → (kind ≡ NoMemory) ⊎ IsFaultOf before (token t) kind
  state_fault t Unexpected q =
      inr (unexpected_fault before t
      (refused-IsUnexpected before (state_seen s) t b.reaches (subst (λ n. state_with (state_seen s) n t ≡ None) (sym b.many) q)))
  state_fault t NoMemory q = inl refl
  state_fault t _ q = absurd q

  token_fault : (t : Token) (kind : FaultKind) {next : State} → state_with (state_seen s) i t ≡ Some next
      → TakesLimits (Err kind) l t l' → (kind ≡ NoMemory) ⊎ IsFaultOf before (token t) kind
  token_fault t TooDeep q deep = inr (deep_fault before t (expected t q) (subst (λ n. IsTooDeep n t) b.nested deep))
  token_fault t OverLimit q many = inr (over_fault before t (expected t q) (subst (λ n. IsOperatorTooMany n t) b.counted many))
  token_fault t _ q many = absurd many

  -- what is not taken has this fault, unless memory ran out
  pub fault_of : (next : Lexeme) (kind : FaultKind) → TakesLexeme (Err kind) s l i next s' l' → (kind ≡ NoMemory) ⊎ IsFaultOf before next kind
  fault_of (token t) kind taken = ⊎_elim (λ h. state_fault t kind h) (λ h. token_fault t kind h.1 h.2) taken
  fault_of bad_byte kind is = inr (subst (λ k. IsFaultOf before bad_byte k) (sym is) (record { has = tt; first = bad_byte_first before }))
  fault_of bad_number kind is = inr (subst (λ k. IsFaultOf before bad_number k) (sym is) (record { has = tt; first = bad_number_first before }))
