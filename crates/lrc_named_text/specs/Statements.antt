-- The text of a core.
use Rattle.std.specs.Prelude.{ℕ, List, [], ◌++◌, codes, decimal, slice_index}
use Rattle.lrc_named_names.specs.Names.{Declared}
use Rattle.lrc_named_core.specs.Tree.{Private, Expression, Origin, Statement, assign, read, write, acquire, release, barrier, print, if_else, while_do}
use Rattle.lrc_named_core.specs.Tree.{Block, empty, next}
use Rattle.lrc_named_text.specs.declared.expression.Room.TheVariants.{Whole}
use Rattle.lrc_named_text.specs.Expressions.{expression_text, private_text}
use Rattle.lrc_named_text.specs.Labels.{labels_text}

-- the end of the line of a statement: on which line of the named program's text it comes from
abbrev pub line_text : (lines : List ℕ) → Origin → List ℕ
line_text lines origin = codes "  # line " ++ decimal (slice_index lines origin.line) ++ codes "\n"

-- the words of a statement without a block
abbrev pub set_text : Private → Expression → List ℕ
set_text name value = private_text name ++ codes " = " ++ expression_text Whole value ++ codes ";"

abbrev pub read_text : Private → Expression → List ℕ
read_text name word = private_text name ++ codes " = [" ++ expression_text Whole word ++ codes "];"

abbrev pub write_text : Expression → Expression → List ℕ
write_text word value = codes "[" ++ expression_text Whole word ++ codes "] = " ++ expression_text Whole value ++ codes ";"

abbrev pub keyword_text : List ℕ → Expression → List ℕ
keyword_text keyword e = keyword ++ expression_text Whole e ++ codes ";"

-- the line of a condition
abbrev pub head_text : List ℕ → Expression → List ℕ
head_text keyword condition = keyword ++ expression_text Whole condition ++ codes " {"

-- what stands before the lines of a block that lies one deeper
abbrev pub deeper : List ℕ → List ℕ
deeper indent = indent ++ codes "    "

-- the line in front of the second block of a choice, where something stands in it
abbrev pub else_text : (indent : List ℕ) → Block → List ℕ
else_text indent empty = []
else_text indent (next first rest) = indent ++ codes "} else {\n"

-- the lines of a statement, and of statements, with this in front of each
abbrev mutual
  pub statement_text : (lines indent : List ℕ) → Statement → List ℕ
  statement_text lines indent (assign origin name value) = indent ++ set_text name value ++ line_text lines origin
  statement_text lines indent (read origin name word) = indent ++ read_text name word ++ line_text lines origin
  statement_text lines indent (write origin word value) = indent ++ write_text word value ++ line_text lines origin
  statement_text lines indent (acquire origin lock) = indent ++ keyword_text (codes "acquire ") lock ++ line_text lines origin
  statement_text lines indent (release origin lock) = indent ++ keyword_text (codes "release ") lock ++ line_text lines origin
  statement_text lines indent (barrier origin) = indent ++ codes "barrier;" ++ line_text lines origin
  statement_text lines indent (print origin value) = indent ++ keyword_text (codes "print ") value ++ line_text lines origin
  statement_text lines indent (if_else origin condition then otherwise) =
      indent ++ head_text (codes "if ") condition ++ line_text lines origin ++ block_text lines (deeper indent) then
      ++ else_text indent otherwise ++ block_text lines (deeper indent) otherwise ++ indent ++ codes "}\n"
  statement_text lines indent (while_do origin condition inside) =
      indent ++ head_text (codes "while ") condition ++ line_text lines origin ++ block_text lines (deeper indent) inside ++ indent ++ codes "}\n"

  pub block_text : (lines indent : List ℕ) → Block → List ℕ
  block_text lines indent empty = []
  block_text lines indent (next first rest) = statement_text lines indent first ++ block_text lines indent rest

-- the text of a core with these words and locks, where this is declared; `lines` has the line of each token of the named program's text
abbrev pub core_text : (words locks : ℕ) → List Declared → (lines : List ℕ) → Block → List ℕ
core_text words locks declared lines statements =
    codes "words " ++ decimal words ++ codes "; locks " ++ decimal locks ++ codes ";\n" ++ labels_text declared ++ block_text lines [] statements
