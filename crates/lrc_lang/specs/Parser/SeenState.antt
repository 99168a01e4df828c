-- The parser's state as the definitions see it, without where it lies in memory.
use Rattle.std.specs.Prelude.{◌≡◌, ◌<◌, ◌⊎◌, Some, None, Result, Ok, Err}
use Rattle.lrc_program.specs.declared.TheConstants.{MOST_WORDS}
use Rattle.lrc_lang.specs.declared.fault.FaultKind.{FaultKind}
use Rattle.lrc_lang.specs.declared.fault.FaultKind.TheVariants as kinds
use Rattle.lrc_lang.specs.declared.state.Stage as code_stage
use Rattle.lrc_lang.specs.declared.state.Stage.TheVariants as code_stages
use Rattle.lrc_lang.specs.declared.state.ParserState as code_state
use Rattle.lrc_lang.specs.Symbol.{Symbol, number}
use Rattle.lrc_lang.specs.Parser.SeenBody.{body_seen}
use Rattle.lrc_lang.specs.Parser.State.{Stage, words, words_number, words_end, locks, locks_number, locks_end, statements, nothing, ParserState, state_with}

abbrev pub stage_seen : code_stage.Stage → Stage
stage_seen code_stages.Words = words
stage_seen code_stages.WordsNumber = words_number
stage_seen code_stages.WordsEnd = words_end
stage_seen code_stages.Locks = locks
stage_seen code_stages.LocksNumber = locks_number
stage_seen code_stages.LocksEnd = locks_end
stage_seen code_stages.Statements = statements
stage_seen code_stages.Nothing = nothing

abbrev pub state_seen : code_state.ParserState → ParserState
state_seen s = record { stage = stage_seen s.stage; words = s.words; locks = s.locks; body = body_seen s.body }

-- a number of words or of locks that is out of its range
abbrev pub IsOutOfRange : Stage → Symbol → Type 0
IsOutOfRange words_number (number n) = (n < 1) ⊎ (MOST_WORDS < n)
IsOutOfRange locks_number (number n) = 64 < n
IsOutOfRange _ _ = ⊥

-- what came out where the next symbol was taken: the state that the definitions make of it, with no number out of
-- its range, or why not
abbrev pub TakesSymbol : Result (Unit {0}) FaultKind → ParserState → Symbol → ParserState → Type 0
TakesSymbol (Ok x) old symbol new = (state_with old symbol ≡ Some new) × (¬ IsOutOfRange old.stage symbol)
TakesSymbol (Err kinds.Unexpected) old symbol new = state_with old symbol ≡ None
TakesSymbol (Err kinds.OverLimit) old symbol new = IsOutOfRange old.stage symbol
TakesSymbol (Err kinds.NoMemory) old symbol new = Unit {0}
TakesSymbol (Err _) old symbol new = ⊥
