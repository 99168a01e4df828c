-- Reading a text on, token by token, up to its first fault and what may stand there.
use Rattle.std.proofs.Common.{◌≡◌, ◌≢◌, ◌⊎◌, ◌<◌, ◌≤◌, ◌+◌, ℕ, true, List, [], ◌∷◌, ◌++◌, length, map, get_or, take, drop, None, Some, Option, is_some, Ok, Err, refl}
use Rattle.std.proofs.Common.{sym, ap, subst, ◌∙◌, inl, inr, ⊎_elim, append-nil, arith, length-take}
use Rattle.std.proofs.lemmas.List.{length-map, map-append, take_all, take_more, drop_more, take-append-drop}
use Rattle.lrc_lang.specs.declared.fault.FaultKind.{FaultKind}
use Rattle.lrc_lang.specs.declared.fault.FaultKind.TheVariants.{TooLong, BadByte, BadNumber, Unexpected, TooDeep, TooManyNames, OverLimit, NoMemory}
use Rattle.lrc_lang.specs.declared.kind.Kind.{Kind}
use Rattle.lrc_lang.specs.declared.first_fault.Stop.{Stop}
use Rattle.lrc_lang.specs.declared.positions.Located as code_located
use Rattle.lrc_lang.specs.declared.token.Lexeme.TheVariants as code_lexemes
use Rattle.lrc_lang.specs.declared.token.Token.TheVariants as code_tokens
use Rattle.lrc_lang.specs.declared.limits.Limits as code_limits
use Rattle.lrc_lang.specs.declared.state.ParserState as code_state
use Rattle.lrc_lang.specs.Token.{Token, Lexeme, token, bad_byte, bad_number, Placed}
use Rattle.lrc_lang.specs.Symbol.{Names, symbol_of}
use Rattle.lrc_lang.specs.Faults.{IsFaultOf, IsFaultless, AreFaultless}
use Rattle.lrc_lang.specs.FirstFault.{placed, HasFaultAt, TellsKinds, IsFirstFaultOf}
use Rattle.lrc_lang.specs.Positions.{Located}
use Rattle.lrc_lang.specs.Parser.Located.{located_of}
use Rattle.lrc_lang.specs.Parser.SeenLimits.{names_seen, TakesToken}
use Rattle.lrc_lang.specs.Parser.SeenParser.{TakesLexeme}
use Rattle.lrc_lang.specs.Parser.SeenState.{state_seen, TakesSymbol}
use Rattle.lrc_lang.specs.Parser.State.{ParserState, state_with}
use Rattle.lrc_lang.specs.Parser.Stops.{IsTaken, IsRefused, ListsKinds, Stops, kinds_taken}
use Rattle.lrc_lang.proofs.Behind.{IsBehind, IsBehind-push, IsFaultless-taken, fault_of}
use Rattle.lrc_lang.proofs.MayStand.{exactly}
use Rattle.lrc_lang.proofs.Options.{none_some}
use Rattle.lrc_lang.proofs.Reading.{ArePassed, ArePassed-none, ArePassed-push}

-- ---- why the parser stops

-- what it refuses it does not take
pub refused : (kind : FaultKind) (s s' : code_state.ParserState) (l l' : code_limits.Limits) (next : Lexeme)
    → IsRefused kind (state_seen s) (names_seen l) next → TakesLexeme (Err kind) s l next s' l'
refused Unexpected s s' l l' (token t) h = inl h
refused Unexpected s s' l l' bad_byte h = absurd h
refused Unexpected s s' l l' bad_number h = absurd h
refused BadByte s s' l l' (token t) h = absurd h
refused BadByte s s' l l' bad_byte h = refl
refused BadByte s s' l l' bad_number h = absurd h
refused _ s s' l l' next h = absurd h

-- ---- what has been read

-- The tokens so far have no fault, and the parser is behind them.
pub record IsReadTo (passed : List Placed) (s : code_state.ParserState) (l : code_limits.Limits) : Type 0 where
  pub before : List Token
  pub are : ArePassed passed before
  pub behind : IsBehind before s l

pub nothing_read : (s : code_state.ParserState) (l : code_limits.Limits) → IsBehind [] s l → IsReadTo [] s l
nothing_read s l b = record { before = []; are = ArePassed-none; behind = b }

pub faultless_so_far : {passed : List Placed} {s : code_state.ParserState} {l : code_limits.Limits} → (r : IsReadTo passed s l) → AreFaultless [] passed r.before
faultless_so_far {passed} r =
    subst (λ tokens. AreFaultless [] passed tokens) (append-nil r.before)
    (subst (λ lexemes. AreFaultless [] lexemes (r.before ++ [])) (append-nil passed) (r.are.tokens [] [] refl))

read_token : (passed : List Placed) (s s' : code_state.ParserState) (l l' : code_limits.Limits) (line : ℕ) (next : Lexeme) → IsReadTo passed s l
    → TakesLexeme (Ok tt) s l next s' l' → IsReadTo (passed ++ record { line = line; lexeme = next } ∷ []) s' l'
read_token passed s s' l l' line (token t) r taken = record {
  before = r.before ++ t ∷ [];
  are = ArePassed-push passed r.before line t r.are (IsFaultless-taken r.before s s' l l' t r.behind taken);
  behind = IsBehind-push r.before s s' l l' t r.behind taken;
}
read_token passed s s' l l' line bad_byte r taken = absurd taken
read_token passed s s' l l' line bad_number r taken = absurd taken

-- what the code reads past the last
abbrev pub past_all : code_located.Located
past_all = record { line = 0; column = 0; offset = 0; lexeme = code_lexemes.Token (code_tokens.Number 0) }

-- one more of the lexemes has been read
pub read_more : (xs : List code_located.Located) (i : ℕ) (s s' : code_state.ParserState) (l l' : code_limits.Limits) (stop : Option Stop) → i < length xs
    → stop ≡ None → IsReadTo (map placed (map located_of (take i xs))) s l → Stops stop s l (located_of (get_or xs i past_all)).lexeme s' l'
    → IsReadTo (map placed (map located_of (take (i + 1) xs))) s' l'
read_more xs i s s' l l' None within none r taken =
    let x = get_or xs i past_all in
    let more : take (i + 1) xs ≡ take i xs ++ x ∷ [] = take_more xs i past_all within in
    let seen = ap (λ ys. map placed (map located_of ys)) more ∙ ap (map placed) (map-append located_of (take i xs) (x ∷ []))
    ∙ map-append placed (map located_of (take i xs)) (located_of x ∷ []) in
    subst (λ passed. IsReadTo passed s' l') (sym seen) (read_token _ s s' l l' (located_of x).line (located_of x).lexeme r taken)
read_more xs i s s' l l' (Some stop) within none r taken = absurd (none_some (sym none))

tells_kinds : (kind : FaultKind) (before : List Token) (s : code_state.ParserState) (l : code_limits.Limits) (some : List Kind) → IsBehind before s l
    → ListsKinds kind (state_seen s) some → TellsKinds kind before some
tells_kinds Unexpected before s l some b are = exactly before (state_seen s) some b.reaches are
tells_kinds BadByte before s l some b are = exactly before (state_seen s) some b.reaches are
tells_kinds _ before s l some b are = tt

fault_but_memory : (kind : FaultKind) {A : Type 0} → kind ≢ NoMemory → (kind ≡ NoMemory) ⊎ A → A
fault_but_memory kind other (inl e) = absurd (other e)
fault_but_memory kind other (inr a) = a

-- the first that is not taken has the first fault
pub stopped : (xs : List code_located.Located) (i : ℕ) (s s' : code_state.ParserState) (l l' : code_limits.Limits) (found : Option Stop) (stop : Stop)
    → i < length xs → found ≡ Some stop → IsReadTo (map placed (map located_of (take i xs))) s l
    → Stops found s l (located_of (get_or xs i past_all)).lexeme s' l' → IsFirstFaultOf (map located_of xs) i stop.kind stop.may_stand.items
stopped xs i s s' l l' found stop within is r told =
    let x = get_or xs i past_all in
    let h : Stops (Some stop) s l (located_of x).lexeme s' l' = subst (λ f. Stops f s l (located_of x).lexeme s' l') is told in
    record {
      before = r.before;
      has = record {
        front = map located_of (take i xs);
        found = located_of x;
        others = map located_of (drop (i + 1) xs);
        split = ap (map located_of) (sym (take-append-drop i xs) ∙ ap (λ ys. take i xs ++ ys) (drop_more xs i past_all within))
            ∙ map-append located_of (take i xs) (x ∷ drop (i + 1) xs);
        place = simp (length-map, length-take) (omega arith);
        faultless = faultless_so_far r;
        fault = fault_but_memory stop.kind h.1 (fault_of r.before s s' l l' r.behind (located_of x).lexeme stop.kind h.0);
      };
      tells = tells_kinds stop.kind r.before s l stop.may_stand.items r.behind h.2;
    }

-- where all are taken, none has a fault
pub none_stopped : (xs : List code_located.Located) (i : ℕ) (s : code_state.ParserState) (l : code_limits.Limits) → length xs ≤ i
    → IsReadTo (map placed (map located_of (take i xs))) s l → (tokens : List Token) × AreFaultless [] (map placed (map located_of xs)) tokens
none_stopped xs i s l all r =
    (r.before, subst (λ ys. AreFaultless [] (map placed (map located_of ys)) r.before) (take_all i xs all) (faultless_so_far r))
