-- What completes a text of which some symbols have come, and that one more symbol takes it one step on.
use Rattle.std.proofs.Common.{◌≡◌, ℕ, List, [], ◌∷◌, Option, Some, None, refl, sym, ap, subst, ◌∙◌}
use Rattle.lrc_lang.specs.declared.token.Keyword.TheVariants.{Words, Locks}
use Rattle.lrc_lang.specs.declared.token.Sign.TheVariants.{Semicolon}
use Rattle.lrc_lang.specs.Token.{Token}
use Rattle.lrc_lang.specs.Symbol.{Symbol, number, keyword, sign, finish, Names, symbols_after}
use Rattle.lrc_program.specs.Tree.{Block, ProgramTree}
use Rattle.lrc_lang.specs.Grammar.{AreSymbolsOf, program}
use Rattle.lrc_lang.specs.Parser.Body.{Body, body_with, whole_of, if_some}
use Rattle.lrc_lang.specs.Parser.Body as body
use Rattle.lrc_lang.specs.Parser.State as state
use Rattle.lrc_lang.specs.Parser.State.{Stage, words, words_number, words_end, locks, locks_number, locks_end}
use Rattle.lrc_lang.specs.Parser.State.{statements, nothing, ParserState, state_with, program_in}
use Rattle.lrc_lang.proofs.Statements.{CompletesBody, all_statements, statements_all}
use Rattle.lrc_lang.proofs.StatementSteps as steps
use Rattle.lrc_lang.proofs.StatementSteps.{turns_body}
use Rattle.lrc_lang.proofs.StatementsBack.{back_body, whole_body}
use Rattle.lrc_lang.proofs.StatementsEnd.{body_completion, body_completed}
use Rattle.lrc_lang.proofs.Foreign.{the_end, foreign_refused}
use Rattle.lrc_lang.proofs.Options.{none_some, some_same}

-- what completes a text at a stage, with these numbers and statements so far
pub data FromStage : Body → Stage → ℕ → ℕ → ProgramTree → List Symbol → Type 0 where
  at_words : {b : Body} {w l : ℕ} {p : ProgramTree} {all : List Symbol} → FromStage b words_number w l p all → FromStage b words w l p (keyword Words ∷ all)
  at_words_number : {b : Body} {w l n : ℕ} {p : ProgramTree} {all : List Symbol} → FromStage b words_end n l p all
      → FromStage b words_number w l p (number n ∷ all)
  at_words_end : {b : Body} {w l : ℕ} {p : ProgramTree} {all : List Symbol} → FromStage b locks w l p all → FromStage b words_end w l p (sign Semicolon ∷ all)
  at_locks : {b : Body} {w l : ℕ} {p : ProgramTree} {all : List Symbol} → FromStage b locks_number w l p all → FromStage b locks w l p (keyword Locks ∷ all)
  at_locks_number : {b : Body} {w l n : ℕ} {p : ProgramTree} {all : List Symbol} → FromStage b locks_end w n p all
      → FromStage b locks_number w l p (number n ∷ all)
  at_locks_end : {b : Body} {w l : ℕ} {p : ProgramTree} {all : List Symbol} → FromStage b statements w l p all
      → FromStage b locks_end w l p (sign Semicolon ∷ all)
  in_statements : {b : Body} {w l : ℕ} {whole : Block} {p : ProgramTree} {all : List Symbol} → CompletesBody b whole all
      → p ≡ record { words = w; locks = l; statements = whole } → FromStage b statements w l p all
  at_end : {b : Body} {w l : ℕ} {p : ProgramTree} → p ≡ record { words = w; locks = l; statements = b.before } → FromStage b nothing w l p []

-- these symbols complete what has come to this program
abbrev pub CompletesState : ParserState → ProgramTree → List Symbol → Type 0
CompletesState s p all = FromStage s.body s.stage s.words s.locks p all

-- The next symbol can stand there, and the symbols behind it complete what has come with it; or all has come.
pub data Turns (step : Symbol → Option ParserState) (s : ParserState) (p : ProgramTree) : List Symbol → Type 0 where
  goes : {symbol : Symbol} {all : List Symbol} (t : ParserState) → step symbol ≡ Some t → CompletesState t p all → Turns step s p (symbol ∷ all)
  stops : p ≡ program_in s → Turns step s p []

abbrev in_body : Body → ℕ → ℕ → ParserState
in_body b w l = record { stage = statements; words = w; locks = l; body = b }

statements_turn : (b : Body) (w l : ℕ) {whole : Block} {p : ProgramTree} {all : List Symbol} →
    steps.Turns (body_with b) (whole_of b) whole all → p ≡ record { words = w; locks = l; statements = whole } →
    Turns (state.in_statements (in_body b w l)) (in_body b w l) p all
statements_turn b w l (steps.goes {symbol = finish} c q k) e = absurd (none_some (sym (foreign_refused b the_end) ∙ q))
statements_turn b w l (steps.goes {symbol = symbol} c q k) e =
    goes _ (ap (λ next. if_some next (λ c. Some (in_body c w l))) q) (in_statements k e)
statements_turn b w l (steps.stops q) e =
    goes _ (ap (λ next. if_some next (λ whole. Some (state.finished (in_body b w l) whole))) q) (at_end e)

stage_turns : (b : Body) (stage : Stage) (w l : ℕ) {p : ProgramTree} {all : List Symbol} → FromStage b stage w l p all →
    Turns (state.moved stage (record { stage = stage; words = w; locks = l; body = b })) (record { stage = stage; words = w; locks = l; body = b }) p all
stage_turns b words w l (at_words k) = goes _ refl k
stage_turns b words_number w l (at_words_number k) = goes _ refl k
stage_turns b words_end w l (at_words_end k) = goes _ refl k
stage_turns b locks w l (at_locks k) = goes _ refl k
stage_turns b locks_number w l (at_locks_number k) = goes _ refl k
stage_turns b locks_end w l (at_locks_end k) = goes _ refl k
stage_turns b statements w l (in_statements k e) = statements_turn b w l (turns_body b k) e
stage_turns b nothing w l (at_end e) = stops e

-- what completes the text begins with a symbol that can stand there, unless all has come
pub turns_state : (s : ParserState) {p : ProgramTree} {all : List Symbol} → CompletesState s p all → Turns (state_with s) s p all
turns_state s k = stage_turns s.body s.stage s.words s.locks k

-- ---- and back

at_same : {s t : ParserState} (p : ProgramTree) (all : List Symbol) → Some s ≡ Some t → CompletesState t p all → CompletesState s p all
at_same p all q k = subst (λ s. CompletesState s p all) (sym (some_same q)) k

from_statements : {b : Body} {w l : ℕ} {p : ProgramTree} {all : List Symbol} → FromStage b statements w l p all →
    (whole : Block) × CompletesBody b whole all × (p ≡ record { words = w; locks = l; statements = whole })
from_statements (in_statements k e) = (_, k, e)

from_end : (b : Body) (w l : ℕ) (p : ProgramTree) (all : List Symbol) → FromStage b nothing w l p all →
    (all ≡ []) × (p ≡ record { words = w; locks = l; statements = b.before })
from_end b w l p all (at_end e) = (refl, e)

finish_back : (s : ParserState) (found : Option Block) (p : ProgramTree) (all : List Symbol) {t : ParserState} →
    whole_of s.body ≡ found → if_some found (λ whole. Some (state.finished s whole)) ≡ Some t → CompletesState t p all →
    FromStage s.body statements s.words s.locks p (finish ∷ all)
finish_back s None p all v q k = absurd (none_some q)
finish_back s (Some whole) p all v q k =
    let e = from_end _ s.words s.locks p all (at_same p all q k) in
    subst (λ rest. FromStage s.body statements s.words s.locks p (finish ∷ rest)) (sym e.0) (in_statements (whole_body s.body whole v) e.1)

body_back : (s : ParserState) (symbol : Symbol) (found : Option Body) (p : ProgramTree) (all : List Symbol) {t : ParserState} →
    body_with s.body symbol ≡ found → if_some found (λ b. Some (record s { body = b })) ≡ Some t → s.stage ≡ statements → CompletesState t p all →
    FromStage s.body statements s.words s.locks p (symbol ∷ all)
body_back s symbol None p all v q e k = absurd (none_some q)
body_back s symbol (Some b) p all v q e k =
    let there : FromStage b s.stage s.words s.locks p all = at_same p all q k in
    let c = from_statements (subst (λ stage. FromStage b stage s.words s.locks p all) e there) in
    in_statements (back_body s.body symbol c.0 all v c.1) c.2

statements_back : (s : ParserState) (symbol : Symbol) (p : ProgramTree) (all : List Symbol) {t : ParserState} →
    s.stage ≡ statements → state.in_statements s symbol ≡ Some t → CompletesState t p all →
    FromStage s.body statements s.words s.locks p (symbol ∷ all)
statements_back s finish p all e q k = finish_back s (whole_of s.body) p all refl q k
statements_back s symbol p all e q k = body_back s symbol (body_with s.body symbol) p all refl q e k

stage_back : (s : ParserState) (stage : Stage) (symbol : Symbol) (p : ProgramTree) (all : List Symbol) {t : ParserState} →
    s.stage ≡ stage → state.moved stage s symbol ≡ Some t → CompletesState t p all → FromStage s.body stage s.words s.locks p (symbol ∷ all)
stage_back s words (keyword Words) p all e q k = at_words (at_same p all q k)
stage_back s words_number (number n) p all e q k = at_words_number (at_same p all q k)
stage_back s words_end (sign Semicolon) p all e q k = at_words_end (at_same p all q k)
stage_back s locks (keyword Locks) p all e q k = at_locks (at_same p all q k)
stage_back s locks_number (number n) p all e q k = at_locks_number (at_same p all q k)
stage_back s locks_end (sign Semicolon) p all e q k = at_locks_end (at_same p all q k)
stage_back s statements symbol p all e q k = statements_back s symbol p all e q k
stage_back s _ _ p all e q k = absurd (none_some q)

-- where a symbol can stand, it and what completes the text behind it complete the text in front of it
pub back_state : (s : ParserState) (symbol : Symbol) (p : ProgramTree) (all : List Symbol) {t : ParserState} →
    state_with s symbol ≡ Some t → CompletesState t p all → CompletesState s p (symbol ∷ all)
back_state s symbol p all q k = stage_back s s.stage symbol p all refl q k

-- ---- every text that has begun can be completed

abbrev completing : Stage → List Token → List Token
completing words rest = Token.keyword Words ∷ Token.number 1 ∷ Token.sign Semicolon ∷ Token.keyword Locks ∷ Token.number 0 ∷ Token.sign Semicolon ∷ rest
completing words_number rest = Token.number 1 ∷ Token.sign Semicolon ∷ Token.keyword Locks ∷ Token.number 0 ∷ Token.sign Semicolon ∷ rest
completing words_end rest = Token.sign Semicolon ∷ Token.keyword Locks ∷ Token.number 0 ∷ Token.sign Semicolon ∷ rest
completing locks rest = Token.keyword Locks ∷ Token.number 0 ∷ Token.sign Semicolon ∷ rest
completing locks_number rest = Token.number 0 ∷ Token.sign Semicolon ∷ rest
completing locks_end rest = Token.sign Semicolon ∷ rest
completing statements rest = rest
completing nothing rest = []

-- tokens that complete what has come
abbrev pub completion : ParserState → List Token
completion s = completing s.stage (body_completion s.body)

completed_at : (names : Names) (b : Body) (stage : Stage) (w l : ℕ) →
    (p : ProgramTree) × FromStage b stage w l p (symbols_after names (completing stage (body_completion b)))
completed_at names b words w l = let k = body_completed names b in
    (_, at_words (at_words_number (at_words_end (at_locks (at_locks_number (at_locks_end (in_statements k.1 refl)))))))
completed_at names b words_number w l = let k = body_completed names b in
    (_, at_words_number (at_words_end (at_locks (at_locks_number (at_locks_end (in_statements k.1 refl))))))
completed_at names b words_end w l = let k = body_completed names b in (_, at_words_end (at_locks (at_locks_number (at_locks_end (in_statements k.1 refl)))))
completed_at names b locks w l = let k = body_completed names b in (_, at_locks (at_locks_number (at_locks_end (in_statements k.1 refl))))
completed_at names b locks_number w l = let k = body_completed names b in (_, at_locks_number (at_locks_end (in_statements k.1 refl)))
completed_at names b locks_end w l = let k = body_completed names b in (_, at_locks_end (in_statements k.1 refl))
completed_at names b statements w l = let k = body_completed names b in (_, in_statements k.1 refl)
completed_at names b nothing w l = (_, at_end refl)

pub completed : (names : Names) (s : ParserState) → (p : ProgramTree) × CompletesState s p (symbols_after names (completion s))
completed names s = completed_at names s.body s.stage s.words s.locks

-- ---- the beginning

pub from_start : (p : ProgramTree) (all : List Symbol) → AreSymbolsOf p all → CompletesState state.start p all
from_start p all (program d) = at_words (at_words_number (at_words_end (at_locks (at_locks_number (at_locks_end (in_statements (all_statements d) refl))))))

to_start_statements : {p : ProgramTree} {w l : ℕ} {all : List Symbol} → FromStage body.start statements w l p all →
    AreSymbolsOf p (keyword Words ∷ number w ∷ sign Semicolon ∷ keyword Locks ∷ number l ∷ sign Semicolon ∷ all)
to_start_statements {w = w} {l = l} {all = all} (in_statements k e) =
    subst (λ p. AreSymbolsOf p (keyword Words ∷ number w ∷ sign Semicolon ∷ keyword Locks ∷ number l ∷ sign Semicolon ∷ all)) (sym e)
    (program (statements_all k))

to_start_ : (p : ProgramTree) (all : List Symbol) → FromStage body.start words 1 0 p all → AreSymbolsOf p all
to_start_ p all (at_words (at_words_number (at_words_end (at_locks (at_locks_number (at_locks_end k)))))) = to_start_statements k

pub to_start : (p : ProgramTree) (all : List Symbol) → CompletesState state.start p all → AreSymbolsOf p all
to_start p all k = to_start_ p all k
