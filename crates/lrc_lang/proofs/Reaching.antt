-- The parser's state behind some tokens says which programs begin with them.
use Rattle.std.proofs.Common.{◌≡◌, List, [], ◌∷◌, ◌++◌, Some, None, fold, refl, sym, subst, ◌∙◌, append_assoc}
use Rattle.lrc_lang.specs.Token.{Token}
use Rattle.lrc_lang.specs.Symbol.{Symbol, names_with, symbol_of, symbols_after}
use Rattle.lrc_program.specs.Tree.{ProgramTree}
use Rattle.lrc_lang.specs.Grammar.{IsProgram}
use Rattle.lrc_lang.specs.Counts.{names_of}
use Rattle.lrc_lang.specs.Faults.{IsUnexpected}
use Rattle.lrc_lang.specs.Parser.State as state
use Rattle.lrc_lang.specs.Parser.State.{ParserState, state_with, program_in}
use Rattle.lrc_lang.proofs.States.{CompletesState, Turns, goes, stops, turns_state, back_state, completion, completed, from_start, to_start}
use Rattle.lrc_lang.proofs.Options.{none_some, some_same}

pub fold-append : {A B : Type 0} (f : B → A → B) (a : B) (xs ys : List A) → fold f a (xs ++ ys) ≡ fold f (fold f a xs) ys
fold-append f a [] ys = refl
fold-append f a (x ∷ xs) ys = fold-append f (f a x) xs ys

-- Behind these tokens the parser is in this state: what completes the one completes the other.
pub record Reaches (before : List Token) (s : ParserState) : Type 0 where
  pub forwards : (p : ProgramTree) (rest : List Token) → IsProgram p (before ++ rest) → CompletesState s p (symbols_after (names_of before) rest)
  pub backwards : (p : ProgramTree) (rest : List Token) → CompletesState s p (symbols_after (names_of before) rest) → IsProgram p (before ++ rest)

pub Reaches-start : Reaches [] state.start
Reaches-start = record {
  forwards = λ p rest d. from_start p (symbols_after [] rest) d;
  backwards = λ p rest k. to_start p (symbols_after [] rest) k;
}

next_turn : {s t : ParserState} {p : ProgramTree} {symbol : Symbol} {all : List Symbol} →
    state_with s symbol ≡ Some t → Turns (state_with s) s p (symbol ∷ all) → CompletesState t p all
next_turn {p = p} {all = all} q (goes u r k) = subst (λ s. CompletesState s p all) (some_same (sym r ∙ q)) k

refused_turn : {s : ParserState} {p : ProgramTree} {symbol : Symbol} {all : List Symbol} →
    state_with s symbol ≡ None → Turns (state_with s) s p (symbol ∷ all) → ⊥
refused_turn q (goes u r k) = none_some (sym q ∙ r)

-- one more token
pub Reaches-push : (before : List Token) (s : ParserState) (t : Token) {next : ParserState} →
    Reaches before s → state_with s (symbol_of (names_of before) t) ≡ Some next → Reaches (before ++ t ∷ []) next
Reaches-push before s t {next} r q = record {
  forwards = λ p rest d.
      let k = r.forwards p (t ∷ rest) (subst (λ tokens. IsProgram p tokens) (append_assoc before (t ∷ []) rest) d) in
      subst (λ names. CompletesState next p (symbols_after names rest)) (sym (fold-append names_with [] before (t ∷ []))) (next_turn q (turns_state s k));
  backwards = λ p rest k.
      let here = subst (λ names. CompletesState next p (symbols_after names rest)) (fold-append names_with [] before (t ∷ [])) k in
      let d = r.backwards p (t ∷ rest) (back_state s (symbol_of (names_of before) t) p (symbols_after (names_with (names_of before) t) rest) q here) in
      subst (λ tokens. IsProgram p tokens) (sym (append_assoc before (t ∷ []) rest)) d;
}

-- a token that the parser refuses is one that no program has there
pub refused-IsUnexpected : (before : List Token) (s : ParserState) (t : Token) →
    Reaches before s → state_with s (symbol_of (names_of before) t) ≡ None → IsUnexpected before t
refused-IsUnexpected before s t r q rest p d = refused_turn q (turns_state s (r.forwards p (t ∷ rest) d))

-- and one that the parser takes is one that some program has there
pub taken-IsUnexpected : (before : List Token) (s : ParserState) (t : Token) {next : ParserState} →
    Reaches before s → state_with s (symbol_of (names_of before) t) ≡ Some next → IsUnexpected before t → ⊥
taken-IsUnexpected before s t {next} r q unexpected =
    let c = completed (names_with (names_of before) t) next in
    unexpected (completion next) c.0 (r.backwards c.0 (t ∷ completion next) (back_state s (symbol_of (names_of before) t) c.0 _ q c.1))

-- ---- no tokens are those of two programs

both_turn : {s : ParserState} {p q : ProgramTree} {all : List Symbol} → ((t : ParserState) → CompletesState t p all → CompletesState t q all → p ≡ q) →
    (symbol : Symbol) → Turns (state_with s) s p (symbol ∷ all) → Turns (state_with s) s q (symbol ∷ all) → p ≡ q
both_turn {q = q} {all = all} same symbol (goes t r k) (goes u v m) = same t k (subst (λ s. CompletesState s q all) (some_same (sym v ∙ r)) m)

both_stop : {s : ParserState} {p q : ProgramTree} → Turns (state_with s) s p [] → Turns (state_with s) s q [] → p ≡ q
both_stop (stops e) (stops f) = e ∙ sym f

completes_one : (all : List Symbol) (s : ParserState) (p q : ProgramTree) → CompletesState s p all → CompletesState s q all → p ≡ q
completes_one [] s p q k m = both_stop (turns_state s k) (turns_state s m)
completes_one (symbol ∷ all) s p q k m =
    both_turn (λ t k m. completes_one all t p q k m) symbol (turns_state s k) (turns_state s m)

pub one_program : (tokens : List Token) (p q : ProgramTree) → IsProgram p tokens → IsProgram q tokens → p ≡ q
one_program tokens p q d e = completes_one _ state.start p q (from_start p _ d) (from_start q _ e)
