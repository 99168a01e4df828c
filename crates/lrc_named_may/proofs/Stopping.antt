-- Reading a text on, token by token, up to its first fault and what may stand there.
use Rattle.std.proofs.Common.{◌≡◌, ◌≢◌, ◌⊎◌, ◌<◌, ◌≤◌, ◌+◌, ℕ, true, List, [], ◌∷◌, ◌++◌, length, map, get_or, take, drop, None, Some, Option, is_some, Ok, Err, refl}
use Rattle.std.proofs.Common.{sym, ap, subst, ◌∙◌, inl, inr, ⊎_elim, append_assoc, append-nil, arith, length-append, length-take}
use Rattle.std.proofs.lemmas.List.{length-map, map-append, take_all, take_more, drop_more, take-append-drop}
use Rattle.lrc_lang.specs.declared.fault.FaultKind.{FaultKind}
use Rattle.lrc_lang.specs.declared.fault.FaultKind.TheVariants.{BadByte, Unexpected, NoMemory}
use Rattle.lrc_named_tokens.specs.declared.token.Located as code_located
use Rattle.lrc_named_tokens.specs.declared.token.Lexeme.TheVariants as code_lexemes
use Rattle.lrc_named_tokens.specs.declared.token.Token.TheVariants as code_tokens
use Rattle.lrc_named_tokens.specs.Token.{Token, Lexeme, token, bad_byte, bad_number, Located}
use Rattle.lrc_named_tokens.specs.View.{located_of}
use Rattle.lrc_named_parse.specs.declared.limits.Limits as code_limits
use Rattle.lrc_named_parse.specs.declared.state.State as code_state
use Rattle.lrc_named_parse.specs.Faults.{IsFaultless, AreFaultless}
use Rattle.lrc_named_parse.specs.SeenParser.{TakesLexeme}
use Rattle.lrc_named_parse.specs.SeenState.{state_seen}
use Rattle.lrc_named_parse.proofs.Behind.{IsBehind, IsBehind-push, IsFaultless-taken, fault_of}
use Rattle.lrc_named_may.specs.declared.first_fault.Stop.{Stop}
use Rattle.lrc_named_may.specs.declared.kind.Kind.{Kind}
use Rattle.lrc_named_may.specs.FirstFault.{TellsKinds, IsFirstFaultOf}
use Rattle.lrc_named_may.specs.Stops.{IsRefused, IsTaken, ListsKinds, Stops, kinds_taken}
use Rattle.lrc_named_may.proofs.MayStand.{exactly}

-- ---- why the parser stops

-- what it refuses it does not take, and tells what it takes in place of it
pub refused : (kind : FaultKind) (s : code_state.State) (l : code_limits.Limits) (at : ℕ) (next : Lexeme) (some : List Kind)
    → IsRefused kind at (state_seen s) next → some ≡ kinds_taken at (state_seen s)
    → TakesLexeme (Err kind) s l at next s l × (kind ≢ NoMemory) × ListsKinds kind at (state_seen s) some
refused Unexpected s l at (token t) some h are = (inl h, λ e. absurd (cc), are)
refused Unexpected s l at bad_byte some h are = absurd h
refused Unexpected s l at bad_number some h are = absurd h
refused BadByte s l at (token t) some h are = absurd h
refused BadByte s l at bad_byte some h are = (refl, λ e. absurd (cc), are)
refused BadByte s l at bad_number some h are = absurd h
refused _ s l at next some h are = absurd h

fails_not : {A : Type 0} (x : Option A) → is_some x ≡ true → x ≡ None → ⊥
fails_not None h e = absurd (cc)
fails_not (Some a) h e = absurd (cc)

-- of what it takes but for a limit or a bad number it tells nothing
pub limited : (kind : FaultKind) (s s' : code_state.State) (l l' : code_limits.Limits) (at : ℕ) (next : Lexeme) (some : List Kind)
    → IsTaken at (state_seen s) next → TakesLexeme (Err kind) s l at next s' l' → ListsKinds kind at (state_seen s) some
limited Unexpected s s' l l' at (token t) some is taken = ⊎_elim (λ none. absurd (fails_not _ is none)) (λ limits. absurd limits.2) taken
limited Unexpected s s' l l' at bad_byte some is taken = absurd is
limited Unexpected s s' l l' at bad_number some is taken = absurd (cc)
limited BadByte s s' l l' at (token t) some is taken = ⊎_elim (λ none. absurd none) (λ limits. absurd limits.2) taken
limited BadByte s s' l l' at bad_byte some is taken = absurd is
limited BadByte s s' l l' at bad_number some is taken = absurd (cc)
limited _ s s' l l' at next some is taken = tt

-- what it takes but for a limit or a bad number, and why not
pub stopped_by : (stop : Stop) (kind : FaultKind) (s s' : code_state.State) (l l' : code_limits.Limits) (at : ℕ) (next : Lexeme) → stop.kind ≡ kind
    → kind ≢ NoMemory → IsTaken at (state_seen s) next → TakesLexeme (Err kind) s l at next s' l' → Stops (Some stop) s l at next s' l'
stopped_by stop kind s s' l l' at next same other taken h =
    let here : TakesLexeme (Err stop.kind) s l at next s' l' = subst (λ k. TakesLexeme (Err k) s l at next s' l') (sym same) h in
    (here, λ e. other (sym same ∙ e), limited stop.kind s s' l l' at next stop.may_stand.items taken here)

-- ---- what has been read

-- behind tokens without a fault, one more that has none
push_faultless : (front : List Token) (passed : List Located) (tokens : List Token) (next : Located) (t : Token) → next.lexeme ≡ token t
    → AreFaultless front passed tokens → IsFaultless (front ++ tokens) (token t) → AreFaultless front (passed ++ next ∷ []) (tokens ++ t ∷ [])
push_faultless front [] [] next t e are last = (e, subst (λ b. IsFaultless b (token t)) (append-nil front) last, refl)
push_faultless front [] (u ∷ tokens) next t e are last = absurd (cc)
push_faultless front (first ∷ passed) [] next t e are last = absurd are
push_faultless front (first ∷ passed) (u ∷ tokens) next t e are last = (
  are.0,
  are.1,
  push_faultless (front ++ u ∷ []) passed tokens next t e are.2 (subst (λ b. IsFaultless b (token t)) (sym (append_assoc front (u ∷ []) tokens)) last),
)

-- The tokens so far have no fault, and the parser is behind them.
pub record IsReadTo (passed : List Located) (i : ℕ) (s : code_state.State) (l : code_limits.Limits) : Type 0 where
  pub before : List Token
  pub faultless : AreFaultless [] passed before
  pub behind : IsBehind before i s l

pub nothing_read : (s : code_state.State) (l : code_limits.Limits) → IsBehind [] 0 s l → IsReadTo [] 0 s l
nothing_read s l b = record { before = []; faultless = refl; behind = b }

read_token : (passed : List Located) (i : ℕ) (s s' : code_state.State) (l l' : code_limits.Limits) (next : Located) (found : Lexeme) → next.lexeme ≡ found
    → IsReadTo passed i s l → TakesLexeme (Ok tt) s l i found s' l' → IsReadTo (passed ++ next ∷ []) (i + 1) s' l'
read_token passed i s s' l l' next (token t) e r taken = record {
  before = r.before ++ t ∷ [];
  faultless = push_faultless [] passed r.before next t e r.faultless (IsFaultless-taken r.before i s s' l l' t r.behind taken);
  behind = IsBehind-push r.before i s s' l l' t r.behind taken (i + 1) (length-append r.before (t ∷ []) ∙ ap (λ n. n + 1) r.behind.many);
}
read_token passed i s s' l l' next bad_byte e r taken = absurd taken
read_token passed i s s' l l' next bad_number e r taken = absurd taken

-- what the code reads past the last
abbrev pub past_all : code_located.Located
past_all = record { place = record { line = 0; column = 0; offset = 0 }; lexeme = code_lexemes.Token (code_tokens.Number 0) }

none_some : {A : Type 0} {a : A} → None ≡ Some a → ⊥
none_some e = cc

-- one more of the lexemes has been read
pub read_more : (xs : List code_located.Located) (i at : ℕ) (s s' : code_state.State) (l l' : code_limits.Limits) (stop : Option Stop) → i < length xs
    → at ≡ i → stop ≡ None → IsReadTo (map located_of (take i xs)) i s l → Stops stop s l at (located_of (get_or xs i past_all)).lexeme s' l'
    → IsReadTo (map located_of (take (i + 1) xs)) (i + 1) s' l'
read_more xs i at s s' l l' None within same none r taken =
    let x = get_or xs i past_all in
    let more : take (i + 1) xs ≡ take i xs ++ x ∷ [] = take_more xs i past_all within in
    let seen = ap (map located_of) more ∙ map-append located_of (take i xs) (x ∷ []) in
    let here = subst (λ n. TakesLexeme (Ok tt) s l n (located_of x).lexeme s' l') same taken in
    subst (λ passed. IsReadTo passed (i + 1) s' l') (sym seen) (read_token _ i s s' l l' (located_of x) (located_of x).lexeme refl r here)
read_more xs i at s s' l l' (Some stop) within same none r taken = absurd (none_some (sym none))

tells_kinds : (kind : FaultKind) (before : List Token) (i : ℕ) (s : code_state.State) (l : code_limits.Limits) (some : List Kind) → IsBehind before i s l
    → ListsKinds kind i (state_seen s) some → TellsKinds kind before some
tells_kinds Unexpected before i s l some b are = exactly before i (state_seen s) some b.many b.reaches are
tells_kinds BadByte before i s l some b are = exactly before i (state_seen s) some b.many b.reaches are
tells_kinds _ before i s l some b are = tt

fault_but_memory : (kind : FaultKind) {A : Type 0} → kind ≢ NoMemory → (kind ≡ NoMemory) ⊎ A → A
fault_but_memory kind other (inl e) = absurd (other e)
fault_but_memory kind other (inr a) = a

-- the first that is not taken has the first fault
pub stopped : (xs : List code_located.Located) (i at : ℕ) (s s' : code_state.State) (l l' : code_limits.Limits) (found : Option Stop) (stop : Stop)
    → i < length xs → at ≡ i → found ≡ Some stop → IsReadTo (map located_of (take i xs)) i s l
    → Stops found s l at (located_of (get_or xs i past_all)).lexeme s' l' → IsFirstFaultOf (map located_of xs) i stop.kind stop.may_stand.items
stopped xs i at s s' l l' found stop within same is r told =
    let x = get_or xs i past_all in
    let h : Stops (Some stop) s l i (located_of x).lexeme s' l' =
    subst (λ n. Stops (Some stop) s l n (located_of x).lexeme s' l') same (subst (λ f. Stops f s l at (located_of x).lexeme s' l') is told) in
    record {
      before = r.before;
      has = record {
        front = map located_of (take i xs);
        found = located_of x;
        others = map located_of (drop (i + 1) xs);
        split = ap (map located_of) (sym (take-append-drop i xs) ∙ ap (λ ys. take i xs ++ ys) (drop_more xs i past_all within))
            ∙ map-append located_of (take i xs) (x ∷ drop (i + 1) xs);
        place = simp (length-map, length-take) (omega arith);
        faultless = r.faultless;
        fault = fault_but_memory stop.kind h.1 (fault_of r.before i s s' l l' r.behind (located_of x).lexeme stop.kind h.0);
      };
      tells = tells_kinds stop.kind r.before i s l stop.may_stand.items r.behind h.2;
    }

-- where all are taken, none has a fault
pub none_stopped : (xs : List code_located.Located) (i : ℕ) (s : code_state.State) (l : code_limits.Limits) → length xs ≤ i
    → IsReadTo (map located_of (take i xs)) i s l → (tokens : List Token) × AreFaultless [] (map located_of xs) tokens
none_stopped xs i s l all r = (r.before, subst (λ ys. AreFaultless [] (map located_of ys) r.before) (take_all i xs all) r.faultless)
