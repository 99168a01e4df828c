-- Reading a text on, token by token, up to its end or to its first fault.
use Rattle.std.proofs.Common.{◌≡◌, ◌<◌, ◌≤◌, ◌⊎◌, ℕ, zero, suc, ◌+◌, false, List, [], ◌∷◌, ◌++◌, length, map, drop, get_or}
use Rattle.std.proofs.Common.{Option, Some, None, Ok, Err, refl, sym, ap, subst, ◌∙◌, inl, inr, ⊎_elim, append_assoc, length-append, arith, add-one}
use Rattle.lrc_lang.specs.declared.fault.FaultKind.{FaultKind}
use Rattle.lrc_lang.specs.declared.fault.FaultKind.TheVariants.{NoMemory}
use Rattle.std.proofs.lemmas.List.{length-map}
use Rattle.lrc_named_tokens.specs.declared.token.Located as code_located
use Rattle.lrc_named_tokens.specs.declared.token.Lexeme.TheVariants as code_lexemes
use Rattle.lrc_named_tokens.specs.declared.token.Token.TheVariants as code_tokens
use Rattle.lrc_named_tokens.specs.View.{lexeme_of, located_of, place_of}
use Rattle.lrc_named_tokens.specs.Token.{Token, finish, Lexeme, token, bad_byte, bad_number, Place, Located}
use Rattle.lrc_named_tokens.specs.Lexemes.{Lexes, HasLexemes}
use Rattle.lrc_named_tokens.specs.Lexemes as lexemes
use Rattle.lrc_named_tree.specs.Tree.{Block, Declaration}
use Rattle.lrc_named_expression.specs.Partial.{Partial, partial_with, value_of}
use Rattle.lrc_named_expression.proofs.Options.{none_some, some_same}
use Rattle.lrc_named_statement.specs.Body as body
use Rattle.lrc_named_parse.specs.declared.limits.Limits as code_limits
use Rattle.lrc_named_parse.specs.declared.state.State as code_state
use Rattle.lrc_named_parse.specs.Faults.{IsFirstFault, AreFaultless, HasProgram}
use Rattle.lrc_named_parse.specs.State.{Stage, State, Purpose, value_of_constant, size_of, body_of, IsEnded, program_in, state_with, moved, finished, is_ending}
use Rattle.lrc_named_parse.specs.State.{continued}
use Rattle.lrc_named_parse.specs.State as state
use Rattle.lrc_named_parse.specs.SeenState.{state_seen}
use Rattle.lrc_named_parse.specs.SeenParser.{AreOfText, TakesLexeme}
use Rattle.lrc_named_parse.proofs.Continuing.{does_not_end}
use Rattle.lrc_named_parse.proofs.Few.{few}
use Rattle.lrc_named_parse.proofs.From.{Completes}
use Rattle.lrc_named_statement.proofs.Foreign.{partial_refused}
use Rattle.lrc_named_parse.proofs.Behind.{IsBehind, IsBehind-push, IsFaultless-taken, fault_of}

-- ---- behind the end of the text

ended_same : {s t : State} → Some s ≡ Some t → IsEnded s.stage → IsEnded t.stage
ended_same q h = subst (λ s. IsEnded s.stage) (some_same q) h

finished_ended : (before : List Declaration) (found : Option Block) {t : State} → finished before found ≡ Some t → IsEnded t.stage
finished_ended before None q = absurd (none_some q)
finished_ended before (Some r) q = ended_same q tt

no_ending : (purpose : Purpose) → is_ending purpose finish ≡ false
no_ending (value_of_constant first n) = refl
no_ending (size_of items n sizes) = refl
no_ending (body_of first n parameters) = refl

expression_refused : (before : List Declaration) (purpose : Purpose) (x : Partial) (i : ℕ) → moved before (state.in_expression purpose x) i finish ≡ None
expression_refused before purpose x i =
    does_not_end before purpose (value_of x) (is_ending purpose finish) (partial_with x i finish) (no_ending purpose)
    ∙ ap (continued before purpose) (partial_refused x i)

end_at : (before : List Declaration) (stage : Stage) (i : ℕ) {t : State} → moved before stage i finish ≡ Some t → IsEnded t.stage
end_at before state.at_declaration i q = finished_ended before (body.whole_of body.start) q
end_at before (state.in_statements b) i q = finished_ended before (body.whole_of b) q
end_at before (state.in_expression purpose x) i q = absurd (none_some (sym (expression_refused before purpose x i) ∙ q))
end_at before _ i q = absurd (none_some q)

end_of_state : (s : State) (i : ℕ) {t : State} → state_with s i finish ≡ Some t → IsEnded t.stage
end_of_state s i q = end_at s.declarations s.stage i q

-- ---- what is left of a text

-- Some text, from some place on, has these; where none is left, the text has ended.
abbrev Remains : List Located → Stage → Type 0
Remains [] stage = IsEnded stage
Remains (next ∷ more) stage = (p : Place) × (text : List ℕ) × Lexes p text (next ∷ more)

remains_of : {p : Place} {text : List ℕ} {all : List Located} (stage : Stage) → Lexes p text all → Remains all stage
remains_of stage (lexemes.passes_blank b d) = remains_of stage d
remains_of stage (lexemes.passes_line_feed b d) = remains_of stage d
remains_of stage (lexemes.passes_comment b w d) = remains_of stage d
remains_of stage (lexemes.takes_number a b d) = (_, _, lexemes.takes_number a b d)
remains_of stage (lexemes.takes_keyword a d) = (_, _, lexemes.takes_keyword a d)
remains_of stage (lexemes.takes_name a b d) = (_, _, lexemes.takes_name a b d)
remains_of stage (lexemes.takes_sign a d) = (_, _, lexemes.takes_sign a d)
remains_of stage (lexemes.stops_at_number a b) = (_, _, lexemes.stops_at_number a b)
remains_of stage (lexemes.stops_at_byte a) = (_, _, lexemes.stops_at_byte a)
remains_of stage lexemes.stops_at_end = (_, _, lexemes.stops_at_end)

token_same : {t u : Token} → token t ≡ token u → t ≡ u
token_same e = cc

next_remains : {p : Place} {text : List ℕ} {next : Located} {more : List Located} (stage : Stage) (t : Token) → Lexes p text (next ∷ more) →
    next.lexeme ≡ token t → (t ≡ finish → IsEnded stage) → Remains more stage
next_remains stage t (lexemes.passes_blank b d) e f = next_remains stage t d e f
next_remains stage t (lexemes.passes_line_feed b d) e f = next_remains stage t d e f
next_remains stage t (lexemes.passes_comment b w d) e f = next_remains stage t d e f
next_remains stage t (lexemes.takes_number a b d) e f = remains_of stage d
next_remains stage t (lexemes.takes_keyword a d) e f = remains_of stage d
next_remains stage t (lexemes.takes_name a b d) e f = remains_of stage d
next_remains stage t (lexemes.takes_sign a d) e f = remains_of stage d
next_remains stage t (lexemes.stops_at_number a b) e f = absurd (cc)
next_remains stage t (lexemes.stops_at_byte a) e f = absurd (cc)
next_remains stage t lexemes.stops_at_end e f = f (sym (token_same e))

-- ---- so far

-- Of these lexemes this many have been read, and the parser is behind their tokens, of which none has a fault: so what is
-- left decides.
pub record IsRead (all : List Located) (i : ℕ) (s : code_state.State) (l : code_limits.Limits) : Type 0 where
  pub before : List Token
  pub faults : (place : Place) (kind : FaultKind) → IsFirstFault before (drop i all) place kind → IsFirstFault [] all place kind
  pub tokens : (more : List Token) → AreFaultless before (drop i all) more → AreFaultless [] all (before ++ more)
  pub behind : IsBehind before i s l
  pub left : Remains (drop i all) (state_seen s).stage

pub IsRead-start : (text : List ℕ) (all : List Located) (s : code_state.State) (l : code_limits.Limits) → HasLexemes text all → IsBehind [] 0 s l →
    IsRead all 0 s l
IsRead-start text all s l lexed b = record {
  before = [];
  faults = λ place kind h. h;
  tokens = λ more h. h;
  behind = b;
  left = remains_of (state_seen s).stage lexed;
}

module _ (all : List Located) (i : ℕ) (s s' : code_state.State) (l l' : code_limits.Limits) (r : IsRead all i s l) (next : Located)
    (rest : drop i all ≡ next ∷ drop (suc i) all) where
  there : Remains (next ∷ drop (suc i) all) (state_seen s).stage
  there = subst (λ left. Remains left (state_seen s).stage) rest r.left

  push_as : (t : Token) → next.lexeme ≡ token t → TakesLexeme (Ok tt) s l i (token t) s' l' → IsRead all (suc i) s' l'
  push_as t e taken =
      let faultless = IsFaultless-taken r.before i s s' l l' t r.behind taken in
      record {
        before = r.before ++ t ∷ [];
        faults = λ place kind h.
            r.faults place kind (subst (λ left. IsFirstFault r.before left place kind) (sym rest) (inr (t, e, faultless, h)));
        tokens = λ more h.
            subst (λ tokens. AreFaultless [] all tokens) (sym (append_assoc r.before (t ∷ []) more))
            (r.tokens (t ∷ more) (subst (λ left. AreFaultless r.before left (t ∷ more)) (sym rest) (e, faultless, h)));
        behind = IsBehind-push r.before i s s' l l' t r.behind taken (suc i)
            (length-append r.before (t ∷ []) ∙ ap (λ n. n + 1) r.behind.many ∙ add-one i);
        left = next_remains (state_seen s').stage t there.2 e
            (λ is. end_of_state (state_seen s) i (subst (λ u. state_with (state_seen s) i u ≡ Some (state_seen s')) is taken.0));
      }

  -- what is taken is read
  push_at : (found : Lexeme) → next.lexeme ≡ found → TakesLexeme (Ok tt) s l i found s' l' → IsRead all (suc i) s' l'
  push_at (token t) e taken = push_as t e taken
  push_at bad_byte e taken = absurd taken
  push_at bad_number e taken = absurd taken

  IsRead-push : TakesLexeme (Ok tt) s l i next.lexeme s' l' → IsRead all (suc i) s' l'
  IsRead-push taken = push_at next.lexeme refl taken

  -- what is not taken is the first fault, unless memory ran out
  fault_here : (kind : FaultKind) → TakesLexeme (Err kind) s l i next.lexeme s' l' → (kind ≡ NoMemory) ⊎ IsFirstFault [] all next.place kind
  fault_here kind taken =
      ⊎_elim inl (λ f. inr (r.faults next.place kind (subst (λ left. IsFirstFault r.before left next.place kind) (sym rest) (inl (f, refl)))))
      (fault_of r.before i s s' l l' r.behind next.lexeme kind taken)

-- ---- all

ended_at : (before : List Declaration) (stage : Stage) → IsEnded stage →
    Completes (record { declarations = before; stage = stage }) (program_in (record { declarations = before; stage = stage })) []
ended_at before (state.ended statements) h = (refl, refl)
ended_at before _ h = absurd h

ended_completes : (s : State) → IsEnded s.stage → Completes s (program_in s) []
ended_completes s h = ended_at s.declarations s.stage h

nothing_left : (all : List Located) (i : ℕ) → length all ≤ i → drop i all ≡ []
nothing_left [] zero h = refl
nothing_left [] (suc i) h = refl
nothing_left (x ∷ all) zero h = absurd (omega arith)
nothing_left (x ∷ all) (suc i) h = nothing_left all i (omega arith)

-- where all are read, they are the tokens of a program
all_read : (all : List Located) (i : ℕ) (s : code_state.State) (l : code_limits.Limits) → IsRead all i s l → length all ≤ i →
    HasProgram all (program_in (state_seen s)) × IsEnded (state_seen s).stage
all_read all i s l r h =
    let none = nothing_left all i h in
    let ended : IsEnded (state_seen s).stage = subst (λ left. Remains left (state_seen s).stage) none r.left in (
      record {
        tokens = r.before ++ [];
        faultless = r.tokens [] (subst (λ left. AreFaultless r.before left []) (sym none) refl);
        parsed = r.behind.reaches.backwards (program_in (state_seen s)) [] (ended_completes (state_seen s) ended);
      },
      ended,
    )

-- ---- the lexemes of the code

-- what the code reads past the last
abbrev past_all : code_located.Located
past_all = record { place = record { line = 0; column = 0; offset = 0 }; lexeme = code_lexemes.Token (code_tokens.Number 0) }

-- the next one, and what is behind it
drop_at : (xs : List code_located.Located) (i : ℕ) → i < length xs →
    drop i (map located_of xs) ≡ located_of (get_or xs i past_all) ∷ drop (suc i) (map located_of xs)
drop_at [] i h = absurd (omega arith)
drop_at (x ∷ xs) zero h = refl
drop_at (x ∷ xs) (suc i) h = drop_at xs i (omega arith)

module _ (xs : List code_located.Located) (i at : ℕ) (s s' : code_state.State) (l l' : code_limits.Limits) (within : i < length xs) (same : at ≡ i)
    (r : IsRead (map located_of xs) i s l) where
  pub one_more : TakesLexeme (Ok tt) s l at (lexeme_of (get_or xs i past_all).lexeme) s' l' → IsRead (map located_of xs) (i + 1) s' l'
  one_more taken =
      subst (λ n. IsRead (map located_of xs) n s' l') (sym (add-one i))
      (IsRead-push (map located_of xs) i s s' l l' r (located_of (get_or xs i past_all)) (drop_at xs i within)
      (subst (λ n. TakesLexeme (Ok tt) s l n (lexeme_of (get_or xs i past_all).lexeme) s' l') same taken))

  pub first_fault : (kind : FaultKind) → TakesLexeme (Err kind) s l at (lexeme_of (get_or xs i past_all).lexeme) s' l' →
      (kind ≡ NoMemory) ⊎ IsFirstFault [] (map located_of xs) (place_of (get_or xs i past_all).place) kind
  first_fault kind taken =
      fault_here (map located_of xs) i s s' l l' r (located_of (get_or xs i past_all)) (drop_at xs i within) kind
      (subst (λ n. TakesLexeme (Err kind) s l n (lexeme_of (get_or xs i past_all).lexeme) s' l') same taken)

pub none_left : (xs : List code_located.Located) (i : ℕ) (s : code_state.State) (l : code_limits.Limits) → length xs ≤ i → IsRead (map located_of xs) i s l →
    HasProgram (map located_of xs) (program_in (state_seen s)) × IsEnded (state_seen s).stage
none_left xs i s l h r = all_read (map located_of xs) i s l r (omega (arith, h, length-map xs located_of))

pub few_lexemes : (xs : List code_located.Located) → AreOfText (map located_of xs) → length xs ≤ 65537
few_lexemes xs a = omega (arith, a.fits, few a.lexed, length-map xs located_of)
