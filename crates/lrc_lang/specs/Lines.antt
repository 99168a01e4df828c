-- The lines of a text's statements. A statement's line is the line on which its first token begins.
use Rattle.std.specs.Prelude.{◌≡◌, ◌-◌, ℕ, List, [], ◌∷◌, ◌++◌, length, map, slice_index_or}
use Rattle.lrc_lang.specs.Token.{Token, token, Placed}
use Rattle.lrc_lang.specs.Symbol.{Symbol, finish, symbols}
use Rattle.lrc_program.specs.Tree.{Statement, Block, ProgramTree}
use Rattle.lrc_lang.specs.Lexemes.{Lexes}
use Rattle.lrc_lang.specs.Grammar.{IsStatement, assign, read, write, acquire, release, barrier, print, if_alone, if_else, while_do}
use Rattle.lrc_lang.specs.Grammar.{IsBlock, braces, AreStatements, none, one_more, AreSymbolsOf, program, IsProgram}

-- Where statements begin, in the order of the text: each in front of those of its blocks, and a first block in front of a
-- second one. A place in a text is what stands from there to the text's end.
abbrev mutual
  -- the statements of a statement's blocks
  pub begins_within : {s : Statement} {all rest : List Symbol} → IsStatement s all rest → List (List Symbol)
  begins_within (assign value) = []
  begins_within (read word) = []
  begins_within (write word value) = []
  begins_within (acquire lock) = []
  begins_within (release lock) = []
  begins_within barrier = []
  begins_within (print value) = []
  begins_within (if_alone condition then) = begins_in_block then
  begins_within (if_else condition then otherwise) = begins_in_block then ++ begins_in_block otherwise
  begins_within (while_do condition inside) = begins_in_block inside

  pub begins_in_block : {b : Block} {all rest : List Symbol} → IsBlock b all rest → List (List Symbol)
  begins_in_block (braces inside) = begins inside

  pub begins : {b : Block} {all rest : List Symbol} → AreStatements b all rest → List (List Symbol)
  begins none = []
  begins (one_more {all = all} first others) = all ∷ (begins_within first ++ begins others)

-- the statements of a program
abbrev pub begins_in : {p : ProgramTree} {all : List Symbol} → AreSymbolsOf p all → List (List Symbol)
begins_in (program statements) = begins statements

-- on which line that begins which stands from a place to the text's end, where these stand in the whole text
abbrev pub line_of : List Placed → List Symbol → ℕ
line_of lexemes rest = slice_index_or (map (λ found. found.line) lexemes) (length lexemes - length rest) 0

-- The text is this program's, and these are the lines of its statements in the order of the text, and at last the line of
-- the text's end.
pub record HasLines (text : List ℕ) (p : ProgramTree) (lines : List ℕ) : Type 0 where
  pub lexemes : List Placed
  pub lexed : Lexes 1 text lexemes
  pub tokens : List Token
  pub are_tokens : map (λ found. found.lexeme) lexemes ≡ map token tokens
  pub parsed : IsProgram p tokens
  pub each : lines ≡ map (line_of lexemes) (begins_in parsed ++ (finish ∷ []) ∷ [])
