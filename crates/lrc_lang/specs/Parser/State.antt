-- A text of which some symbols have come: what the parser keeps of it, and what the next symbol makes of that.
use Rattle.std.specs.Prelude.{ℕ, Option, Some, None}
use Rattle.lrc_lang.specs.declared.token.Keyword.TheVariants.{Words, Locks}
use Rattle.lrc_lang.specs.declared.token.Sign.TheVariants.{Semicolon}
use Rattle.lrc_lang.specs.Symbol.{Symbol, number, keyword, sign, finish}
use Rattle.lrc_program.specs.Tree.{ProgramTree, Block}
use Rattle.lrc_lang.specs.Parser.Body.{Body, body_with, whole_of, if_some}
use Rattle.lrc_lang.specs.Parser.Body as body

-- what has to come next
pub data Stage : Type 0 where
  words : Stage
  words_number : Stage
  words_end : Stage
  locks : Stage
  locks_number : Stage
  locks_end : Stage
  statements : Stage
  nothing : Stage

-- the stage, the two numbers once they have come, and the statements so far
pub record ParserState : Type 0 where
  pub stage : Stage
  pub words : ℕ
  pub locks : ℕ
  pub body : Body

abbrev pub start : ParserState
start = record { stage = words; words = 1; locks = 0; body = body.start }

abbrev pub at_words : ParserState → Symbol → Option ParserState
at_words s (keyword Words) = Some (record s { stage = words_number })
at_words s _ = None

abbrev pub at_words_number : ParserState → Symbol → Option ParserState
at_words_number s (number n) = Some (record s { stage = words_end; words = n })
at_words_number s _ = None

abbrev pub at_words_end : ParserState → Symbol → Option ParserState
at_words_end s (sign Semicolon) = Some (record s { stage = locks })
at_words_end s _ = None

abbrev pub at_locks : ParserState → Symbol → Option ParserState
at_locks s (keyword Locks) = Some (record s { stage = locks_number })
at_locks s _ = None

abbrev pub at_locks_number : ParserState → Symbol → Option ParserState
at_locks_number s (number n) = Some (record s { stage = locks_end; locks = n })
at_locks_number s _ = None

abbrev pub at_locks_end : ParserState → Symbol → Option ParserState
at_locks_end s (sign Semicolon) = Some (record s { stage = statements })
at_locks_end s _ = None

-- the text ends behind these statements
abbrev pub finished : ParserState → Block → ParserState
finished s whole = record s { stage = nothing; body = body.holding whole }

abbrev pub in_statements : ParserState → Symbol → Option ParserState
in_statements s finish = if_some (whole_of s.body) (λ whole. Some (finished s whole))
in_statements s symbol = if_some (body_with s.body symbol) (λ b. Some (record s { body = b }))

abbrev pub moved : Stage → ParserState → Symbol → Option ParserState
moved words s symbol = at_words s symbol
moved words_number s symbol = at_words_number s symbol
moved words_end s symbol = at_words_end s symbol
moved locks s symbol = at_locks s symbol
moved locks_number s symbol = at_locks_number s symbol
moved locks_end s symbol = at_locks_end s symbol
moved statements s symbol = in_statements s symbol
moved nothing s symbol = None

-- the text with one more symbol, or None where it cannot stand there
abbrev pub state_with : ParserState → Symbol → Option ParserState
state_with s symbol = moved s.stage s symbol

-- the program, once the text has ended
abbrev pub program_in : ParserState → ProgramTree
program_in s = record { words = s.words; locks = s.locks; statements = s.body.before }
