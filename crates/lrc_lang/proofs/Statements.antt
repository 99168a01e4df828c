-- What completes statements of which some symbols have come.
use Rattle.std.proofs.Common.{◌≡◌, ℕ, List, [], ◌∷◌, refl, sym, ap, subst, ◌∙◌}
use Rattle.lrc_lang.specs.declared.token.Keyword.TheVariants.{Else}
use Rattle.lrc_lang.specs.declared.token.Sign.TheVariants.{Semicolon, Assign, OpenBracket, CloseBracket, CloseBrace}
use Rattle.lrc_lang.specs.Symbol.{Symbol, keyword, sign, finish}
use Rattle.lrc_program.specs.Tree.{Expression, Statement, Block, empty, next}
use Rattle.lrc_lang.specs.Grammar.{IsExpression, IsStatement, IsBlock, AreStatements, none, one_more}
use Rattle.lrc_lang.specs.Parser.Partial.{Partial, nothing}
use Rattle.lrc_lang.specs.Parser.Body as body
use Rattle.lrc_lang.specs.Parser.Body.{Purpose, assigned, word_read, word_written, written, acquired, released, printed, if_condition, while_condition}
use Rattle.lrc_lang.specs.Parser.Body.{Place, at_statement, after_name, after_equals, in_expression, after_word, before_end, after_then, after_else}
use Rattle.lrc_lang.specs.Parser.Body.{Owner, then_of, else_of, inside_of, Around, Body, push, body_with, whole_of, if_some, Ending, semicolon, bracket}
use Rattle.lrc_lang.specs.Parser.Body.{brace, is_ending, ending_of}
use Rattle.lrc_lang.proofs.Expressions.{Completes}

-- The symbols complete statements to a block, up to the end of the text.
mutual
  -- where a statement may begin and a block may end
  pub data FromStatement : List Around → Block → Block → List Symbol → Type 0 where
    begins : {outer : List Around} {before whole : Block} {s : Statement} {all more : List Symbol} →
        IsStatement s all more → FromStatement outer (push before s) whole more →
        FromStatement outer before whole all
    closes : {around : Around} {outer : List Around} {inside whole : Block} {all : List Symbol} →
        FromOwner outer around.before around.owner inside whole all →
        FromStatement (around ∷ outer) inside whole (sign CloseBrace ∷ all)
    is_all : {before whole : Block} → before ≡ whole → FromStatement [] before whole (finish ∷ [])

  -- behind the end of a block
  pub data FromOwner : List Around → Block → Owner → Block → Block → List Symbol → Type 0 where
    from_then : {outer : List Around} {before first whole : Block} {condition : Expression} {all : List Symbol} →
        FromThen outer before condition first whole all →
        FromOwner outer before (then_of condition) first whole all
    from_else : {outer : List Around} {before first second whole : Block} {condition : Expression} {all : List Symbol} →
        FromStatement outer (push before (Statement.if_else condition first second)) whole all →
        FromOwner outer before (else_of condition first) second whole all
    from_inside : {outer : List Around} {before inside whole : Block} {condition : Expression} {all : List Symbol} →
        FromStatement outer (push before (Statement.while_do condition inside)) whole all →
        FromOwner outer before (inside_of condition) inside whole all

  -- behind the first block of an `if`
  pub data FromThen : List Around → Block → Expression → Block → Block → List Symbol → Type 0 where
    no_else : {outer : List Around} {before first whole : Block} {condition : Expression} {all : List Symbol} →
        FromStatement outer (push before (Statement.if_else condition first empty)) whole all →
        FromThen outer before condition first whole all
    has_else : {outer : List Around} {before first second whole : Block} {condition : Expression} {all more : List Symbol} →
        IsBlock second all more →
        FromStatement outer (push before (Statement.if_else condition first second)) whole more →
        FromThen outer before condition first whole (keyword Else ∷ all)

-- behind an expression that stands for this
pub data FromPurpose : List Around → Block → Purpose → Expression → Block → List Symbol → Type 0 where
  assigns : {outer : List Around} {before whole : Block} {k : ℕ} {value : Expression} {all : List Symbol} →
      FromStatement outer (push before (Statement.assign k value)) whole all →
      FromPurpose outer before (assigned k) value whole (sign Semicolon ∷ all)
  reads : {outer : List Around} {before whole : Block} {k : ℕ} {value : Expression} {all : List Symbol} →
      FromStatement outer (push before (Statement.read k value)) whole all →
      FromPurpose outer before (word_read k) value whole (sign CloseBracket ∷ sign Semicolon ∷ all)
  names_word : {outer : List Around} {before whole : Block} {w value : Expression} {all more : List Symbol} →
      IsExpression value all (sign Semicolon ∷ more) →
      FromStatement outer (push before (Statement.write w value)) whole more →
      FromPurpose outer before word_written w whole (sign CloseBracket ∷ sign Assign ∷ all)
  writes : {outer : List Around} {before whole : Block} {w value : Expression} {all : List Symbol} →
      FromStatement outer (push before (Statement.write w value)) whole all →
      FromPurpose outer before (written w) value whole (sign Semicolon ∷ all)
  acquires : {outer : List Around} {before whole : Block} {value : Expression} {all : List Symbol} →
      FromStatement outer (push before (Statement.acquire value)) whole all →
      FromPurpose outer before acquired value whole (sign Semicolon ∷ all)
  releases : {outer : List Around} {before whole : Block} {value : Expression} {all : List Symbol} →
      FromStatement outer (push before (Statement.release value)) whole all →
      FromPurpose outer before released value whole (sign Semicolon ∷ all)
  prints : {outer : List Around} {before whole : Block} {value : Expression} {all : List Symbol} →
      FromStatement outer (push before (Statement.print value)) whole all →
      FromPurpose outer before printed value whole (sign Semicolon ∷ all)
  tests : {outer : List Around} {before first whole : Block} {value : Expression} {all more : List Symbol} →
      IsBlock first all more → FromThen outer before value first whole more →
      FromPurpose outer before if_condition value whole all
  repeats : {outer : List Around} {before inside whole : Block} {value : Expression} {all more : List Symbol} →
      IsBlock inside all more →
      FromStatement outer (push before (Statement.while_do value inside)) whole more →
      FromPurpose outer before while_condition value whole all

-- in an expression
pub record FromExpression (outer : List Around) (before : Block) (purpose : Purpose) (x : Partial) (whole : Block) (all : List Symbol) : Type 0 where
  pub value : Expression
  pub more : List Symbol
  pub completed : Completes x value all more
  pub behind : FromPurpose outer before purpose value whole more

pub data FromPlace : List Around → Block → Place → Block → List Symbol → Type 0 where
  in_statement : {outer : List Around} {before whole : Block} {all : List Symbol} →
      FromStatement outer before whole all →
      FromPlace outer before at_statement whole all
  in_name : {outer : List Around} {before whole : Block} {k : ℕ} {all : List Symbol} →
      FromPlace outer before (after_equals k) whole all →
      FromPlace outer before (after_name k) whole (sign Assign ∷ all)
  in_equals : {outer : List Around} {before whole : Block} {k : ℕ} {all : List Symbol} →
      FromExpression outer before (assigned k) nothing whole all →
      FromPlace outer before (after_equals k) whole all
  in_brackets : {outer : List Around} {before whole : Block} {k : ℕ} {all : List Symbol} →
      FromExpression outer before (word_read k) nothing whole all →
      FromPlace outer before (after_equals k) whole (sign OpenBracket ∷ all)
  in_whole : {outer : List Around} {before whole : Block} {purpose : Purpose} {x : Partial} {all : List Symbol} →
      FromExpression outer before purpose x whole all →
      FromPlace outer before (in_expression purpose x) whole all
  in_word : {outer : List Around} {before whole : Block} {w : Expression} {all : List Symbol} →
      FromExpression outer before (written w) nothing whole all →
      FromPlace outer before (after_word w) whole (sign Assign ∷ all)
  in_end : {outer : List Around} {before whole : Block} {s : Statement} {all : List Symbol} →
      FromStatement outer (push before s) whole all →
      FromPlace outer before (before_end s) whole (sign Semicolon ∷ all)
  in_then : {outer : List Around} {before first whole : Block} {condition : Expression} {all : List Symbol} →
      FromThen outer before condition first whole all →
      FromPlace outer before (after_then condition first) whole all
  in_else : {outer : List Around} {before first second whole : Block} {condition : Expression} {all more : List Symbol} →
      IsBlock second all more →
      FromStatement outer (push before (Statement.if_else condition first second)) whole more →
      FromPlace outer before (after_else condition first) whole all

-- these symbols, up to the end of the text, complete the statements to this block
abbrev pub CompletesBody : Body → Block → List Symbol → Type 0
CompletesBody b whole all = FromPlace b.outer b.before b.place whole all

-- ---- blocks

abbrev pub appended : Block → Block → Block
appended empty others = others
appended (next first rest) others = next first (appended rest others)

pub appended-push : (before : Block) (s : Statement) (others : Block) → appended (push before s) others ≡ appended before (next s others)
appended-push empty s others = refl
appended-push (next first rest) s others = ap (next first) (appended-push rest s others)

pub appended-empty : (before : Block) → appended before empty ≡ before
appended-empty empty = refl
appended-empty (next first rest) = ap (next first) (appended-empty rest)

-- statements, and what comes behind them
pub enter : {outer : List Around} (before : Block) {inside whole : Block} {all more : List Symbol} →
    AreStatements inside all more → FromStatement outer (appended before inside) whole more →
    FromStatement outer before whole all
enter {outer} before {whole = whole} {all = all} none k = subst (λ b. FromStatement outer b whole all) (appended-empty before) k
enter {outer} before {whole = whole} {more = more} (one_more {first = s} {others = others} d ds) k =
    begins d (enter (push before s) ds (subst (λ b. FromStatement outer b whole more) (sym (appended-push before s others)) k))

-- the rest of a block, and what comes behind it
pub record Leaves (outer : List Around) (around : Around) (before whole : Block) (all : List Symbol) : Type 0 where
  pub inside : Block
  pub more : List Symbol
  pub spelled : AreStatements inside all (sign CloseBrace ∷ more)
  pub behind : FromOwner outer around.before around.owner (appended before inside) whole more

pub leave : {outer : List Around} {around : Around} (before : Block) {whole : Block} {all : List Symbol} →
    FromStatement (around ∷ outer) before whole all → Leaves outer around before whole all
leave {outer} {around} before {whole} (begins {s = s} d k) =
    let l = leave (push before s) k in
    let same : appended (push before s) l.inside ≡ appended before (next s l.inside) = appended-push before s l.inside in
    let behind = subst (λ b. FromOwner outer around.before around.owner b whole l.more) same l.behind in
    record { inside = next s l.inside; more = l.more; spelled = one_more d l.spelled; behind = behind }
leave {outer} {around} before {whole} (closes {all = all} o) =
    let behind = subst (λ b. FromOwner outer around.before around.owner b whole all) (sym (appended-empty before)) o in
    record { inside = empty; more = all; spelled = none; behind = behind }

-- ---- the beginning

pub all_statements : {whole : Block} {all : List Symbol} → AreStatements whole all (finish ∷ []) → CompletesBody body.start whole all
all_statements d = in_statement (enter empty d (is_all refl))

pub record All (before whole : Block) (all : List Symbol) : Type 0 where
  pub inside : Block
  pub spelled : AreStatements inside all (finish ∷ [])
  pub same : appended before inside ≡ whole

pub leave_all : (before : Block) {whole : Block} {all : List Symbol} → FromStatement [] before whole all → All before whole all
leave_all before (begins {s = s} d k) =
    let l = leave_all (push before s) k in
    record { inside = next s l.inside; spelled = one_more d l.spelled; same = sym (appended-push before s l.inside) ∙ l.same }
leave_all before (is_all q) = record { inside = empty; spelled = none; same = appended-empty before ∙ q }

pub statements_all_at : {whole : Block} {all : List Symbol} → FromPlace [] empty at_statement whole all → AreStatements whole all (finish ∷ [])
statements_all_at {whole} {all} (in_statement k) =
    let l = leave_all empty k in
    subst (λ b. AreStatements b all (finish ∷ [])) l.same l.spelled

pub statements_all : {whole : Block} {all : List Symbol} → CompletesBody body.start whole all → AreStatements whole all (finish ∷ [])
statements_all k = statements_all_at k
