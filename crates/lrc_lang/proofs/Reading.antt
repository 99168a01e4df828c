-- Reading a text on, token by token, up to its end or to its first fault.
use Rattle.std.proofs.Common.{◌≡◌, ◌≢◌, ◌≤◌, ◌⊎◌, ℕ, List, [], ◌∷◌, ◌++◌, length, Ok, Err, refl, sym, subst, inl, inr, ⊎_elim, append_assoc, append-nil}
use Rattle.lrc_lang.specs.declared.fault.FaultKind.{FaultKind}
use Rattle.lrc_lang.specs.declared.fault.FaultKind.TheVariants.{NoMemory}
use Rattle.lrc_lang.specs.declared.fault.ParseFault as code_fault
use Rattle.lrc_lang.specs.declared.limits.Limits as code_limits
use Rattle.lrc_lang.specs.declared.state.ParserState as code_state
use Rattle.lrc_lang.specs.Token.{Token, finish, Lexeme, token, bad_byte, bad_number, Placed}
use Rattle.lrc_lang.specs.Lexemes.{at, NextIs}
use Rattle.lrc_lang.specs.Parser.Past.{GoesOn}
use Rattle.lrc_lang.specs.Grammar.{IsProgram}
use Rattle.lrc_lang.specs.Faults.{IsFaultOf, IsFaultless, IsFirstFault, AreFaultless, IsText, HasFirstFault}
use Rattle.lrc_lang.specs.Parser.State.{program_in}
use Rattle.lrc_lang.specs.Parser.SeenState.{state_seen}
use Rattle.lrc_lang.specs.Parser.SeenParser.{IsOutOfMemory, TakesLexeme}
use Rattle.lrc_lang.proofs.LexemesExist as exist
use Rattle.lrc_lang.proofs.LexemesPast.{IsPast, nothing_past, one_past, found_past, all_past}
use Rattle.lrc_lang.proofs.States.{FromStage, at_end, CompletesState}
use Rattle.lrc_lang.proofs.Stages.{end_of_state}
use Rattle.lrc_lang.proofs.Behind.{IsBehind, IsBehind-push, IsFaultless-taken, fault_of}

-- What has been passed is these tokens, and none has a fault: so what stands behind them decides.
pub record ArePassed (passed : List Placed) (before : List Token) : Type 0 where
  pub faults : (rest : List Placed) (line : ℕ) (kind : FaultKind) → IsFirstFault before rest line kind → IsFirstFault [] (passed ++ rest) line kind
  pub tokens : (rest : List Placed) (more : List Token) → AreFaultless before rest more → AreFaultless [] (passed ++ rest) (before ++ more)

pub ArePassed-none : ArePassed [] []
ArePassed-none = record { faults = λ rest line kind h. h; tokens = λ rest more h. h }

pub ArePassed-push : (passed : List Placed) (before : List Token) (line : ℕ) (t : Token) →
    ArePassed passed before → IsFaultless before (token t) → ArePassed (passed ++ at line (token t) ∷ []) (before ++ t ∷ [])
ArePassed-push passed before own t are faultless = record {
  faults = λ rest line kind h.
      subst (λ all. IsFirstFault [] all line kind) (sym (append_assoc passed (at own (token t) ∷ []) rest))
      (are.faults (at own (token t) ∷ rest) line kind (inr (t, refl, faultless, h)));
  tokens = λ rest more h.
      let all = are.tokens (at own (token t) ∷ rest) (t ∷ more) (refl, faultless, h) in
      let regrouped = subst (λ lexemes. AreFaultless [] lexemes (before ++ t ∷ more)) (sym (append_assoc passed (at own (token t) ∷ []) rest)) all in
      subst (λ tokens. AreFaultless [] ((passed ++ at own (token t) ∷ []) ++ rest) tokens) (sym (append_assoc before (t ∷ []) more)) regrouped;
}

-- The text has been read up to a line and a rest, and the parser is behind the tokens so far.
pub record IsRead (text : List ℕ) (line : ℕ) (rest : List ℕ) (s : code_state.ParserState) (l : code_limits.Limits) : Type 0 where
  pub passed : List Placed
  pub before : List Token
  pub past : IsPast text passed line rest
  pub are : ArePassed passed before
  pub behind : IsBehind before s l

pub IsRead-start : (text : List ℕ) (s : code_state.ParserState) (l : code_limits.Limits) → IsBehind [] s l → IsRead text 1 text s l
IsRead-start text s l b = record { passed = []; before = []; past = nothing_past text; are = ArePassed-none; behind = b }

module _ (text : List ℕ) (line : ℕ) (rest : List ℕ) (s s' : code_state.ParserState) (l l' : code_limits.Limits) (r : IsRead text line rest s l) where
  -- a token that is taken is read
  pub IsRead-push : (own : ℕ) (t : Token) (behind : ℕ) (last : List ℕ) → NextIs line rest (at own (token t)) behind last → GoesOn (token t) →
      TakesLexeme (Ok tt) s l (token t) s' l' → IsRead text behind last s' l'
  IsRead-push own t behind last next on taken = record {
    passed = r.passed ++ at own (token t) ∷ [];
    before = r.before ++ t ∷ [];
    past = one_past r.past next on;
    are = ArePassed-push r.passed r.before own t r.are (IsFaultless-taken r.before s s' l l' t r.behind taken);
    behind = IsBehind-push r.before s s' l l' t r.behind taken;
  }

  -- what is not taken is the first fault, unless memory ran out
  pub fault_here : length text ≤ 65536 → (own : ℕ) (found : Lexeme) (behind : ℕ) (last : List ℕ) (kind : FaultKind)
      → NextIs line rest (at own found) behind last →
      TakesLexeme (Err kind) s l found s' l' → (kind ≡ NoMemory) ⊎ HasFirstFault text own kind
  fault_here fits own found behind last kind next taken =
      let all = exist.exists 1 text in
      let more = found_past r.past next all.1 in
      let first : IsFaultOf r.before found kind → HasFirstFault text own kind =
      λ f. inr (
        fits,
        all.0,
        all.1,
        subst (λ lexemes. IsFirstFault [] lexemes own kind) (sym more.1) (r.are.faults (at own found ∷ more.0) own kind (inl (f, refl))),
      ) in
      ⊎_elim inl (λ f. inr (first f)) (fault_of r.before s s' l l' r.behind found kind taken)

  module _ (own behind : ℕ) (last : List ℕ) (next : NextIs line rest (at own (token finish)) behind last)
      (taken : TakesLexeme (Ok tt) s l (token finish) s' l') where
    ended : CompletesState (state_seen s') (program_in (state_seen s')) []
    ended =
        let e = end_of_state (state_seen s) taken.0.0 in
        subst (λ stage. FromStage (state_seen s').body stage (state_seen s').words (state_seen s').locks (program_in (state_seen s')) []) (sym e) (at_end refl)

    parsed : IsProgram (program_in (state_seen s')) (r.before ++ finish ∷ [])
    parsed =
        let b = IsBehind-push r.before s s' l l' finish r.behind taken in
        subst (λ tokens. IsProgram (program_in (state_seen s')) tokens) (append-nil (r.before
        ++ finish ∷ [])) (b.reaches.backwards (program_in (state_seen s')) [] ended)

    -- the end of the text, once it is taken, ends a program
    pub program_here : length text ≤ 65536 → IsText text (program_in (state_seen s'))
    program_here fits = record {
      fits = fits;
      lexemes = r.passed ++ at own (token finish) ∷ [];
      lexed = all_past r.past next (λ on. on);
      tokens = r.before ++ finish ∷ [];
      faultless = r.are.tokens (at own (token finish) ∷ []) (finish ∷ []) (refl, IsFaultless-taken r.before s s' l l' finish r.behind taken, refl);
      parsed = parsed;
    }

-- ---- at any lexeme

goes_on : (t : Token) → (token t ≢ token finish) → GoesOn (token t)
goes_on (Token.number n) no_end = tt
goes_on (Token.name bytes) no_end = tt
goes_on (Token.keyword which) no_end = tt
goes_on (Token.sign mark) no_end = tt
goes_on finish no_end = absurd (no_end refl)

-- what is taken and is not the end of the text is read
pub IsRead-more : (text : List ℕ) (line : ℕ) (rest : List ℕ) (s s' : code_state.ParserState) (l l' : code_limits.Limits) → IsRead text line rest s l →
    (own : ℕ) (found : Lexeme) (behind : ℕ) (last : List ℕ) → NextIs line rest (at own found) behind last → found ≢ token finish →
    TakesLexeme (Ok tt) s l found s' l' → IsRead text behind last s' l'
IsRead-more text line rest s s' l l' r own (token t) behind last next no_end taken =
    IsRead-push text line rest s s' l l' r own t behind last next (goes_on t no_end) taken
IsRead-more text line rest s s' l l' r own bad_byte behind last next no_end taken = absurd taken
IsRead-more text line rest s s' l l' r own bad_number behind last next no_end taken = absurd taken

-- the end of the text, where it is taken, ends a program
pub IsText-end : (text : List ℕ) (line : ℕ) (rest : List ℕ) (s s' : code_state.ParserState) (l l' : code_limits.Limits) → IsRead text line rest s l →
    length text ≤ 65536 → (own : ℕ) (found : Lexeme) (behind : ℕ) (last : List ℕ) → NextIs line rest (at own found) behind last → found ≡ token finish →
    TakesLexeme (Ok tt) s l found s' l' → IsText text (program_in (state_seen s'))
IsText-end text line rest s s' l l' r fits own found behind last next e taken =
    program_here text line rest s s' l l' r own behind last
    (subst (λ f. NextIs line rest (at own f) behind last) e next)
    (subst (λ f. TakesLexeme (Ok tt) s l f s' l') e taken)
    fits

-- ---- the answer at a fault

fault_there : (text : List ℕ) (own : ℕ) (kind : FaultKind) (e : code_fault.ParseFault) → e.kind ≡ kind → e.line ≡ own →
    HasFirstFault text own kind → HasFirstFault text e.line e.kind
fault_there text own kind e k line f =
    subst (λ n. HasFirstFault text n e.kind) (sym line) (subst (λ which. HasFirstFault text own which) (sym k) f)

answer_but_memory : (text : List ℕ) (own : ℕ) (kind : FaultKind) (e : code_fault.ParseFault) → e.kind ≡ kind → (kind ≢ NoMemory) →
    (kind ≢ NoMemory → e.line ≡ own) → (kind ≡ NoMemory) ⊎ HasFirstFault text own kind → IsOutOfMemory e ⊎ HasFirstFault text e.line e.kind
answer_but_memory text own kind e k other line f =
    ⊎_elim (λ m. absurd (other m)) (λ h. inr (fault_there text own kind e k (line other) h)) f

pub fault_answer : (text : List ℕ) (own : ℕ) (kind : FaultKind) (e : code_fault.ParseFault) → e.kind ≡ kind →
    (kind ≢ NoMemory → e.line ≡ own) → (kind ≡ NoMemory → e.line ≡ 0) → (kind ≡ NoMemory) ⊎ HasFirstFault text own kind →
    IsOutOfMemory e ⊎ HasFirstFault text e.line e.kind
fault_answer text own NoMemory e k line no_line f = inl (k, no_line refl)
fault_answer text own kind e k line no_line f = answer_but_memory text own kind e k (λ m. cc) line f
