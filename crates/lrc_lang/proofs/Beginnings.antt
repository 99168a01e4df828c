-- Which tokens begin a statement is decided by the token before.
use Rattle.std.proofs.Common.{◌≡◌, ◌+◌, ◌-◌, ◌≤◌, ℕ, suc, Bool, true, false, List, [], ◌∷◌, ◌++◌, length, map, refl, sym, ap, ap₂, subst, ◌∙◌, arith}
use Rattle.std.proofs.Common.{append_assoc, append-nil, length-append, Result, Ok, Err, IfOk}
use Rattle.std.specs.Prelude.{if◌then◌else◌, slice_index_or}
use Rattle.lrc_lang.specs.declared.token.Keyword.{Keyword}
use Rattle.lrc_lang.specs.declared.token.Keyword.TheVariants.{Locks, Else}
use Rattle.lrc_lang.specs.declared.token.Sign.{Sign}
use Rattle.lrc_lang.specs.declared.token.Sign.TheVariants.{Semicolon, OpenBrace, CloseBrace}
use Rattle.lrc_lang.specs.Token as tokens
use Rattle.lrc_lang.specs.Token.{Token, Lexeme, token, Placed}
use Rattle.lrc_lang.specs.Symbol.{Symbol, keyword, sign, finish, Names, names_with, symbol_of_sign, symbol_of, symbols_after, symbols}
use Rattle.lrc_program.specs.Tree.{Expression, Statement, Block, ProgramTree}
use Rattle.lrc_lang.specs.Grammar as grammar
use Rattle.lrc_lang.specs.Grammar.{IsFactor, IsTerm, IsSum, IsExpression, IsStatement, IsBlock, AreStatements, AreSymbolsOf}
use Rattle.lrc_lang.specs.Lexemes.{Lexes, NextIs}
use Rattle.lrc_lang.specs.Faults.{AreFaultless, IsText}
use Rattle.lrc_lang.specs.Lines.{begins_within, begins_in_block, begins, begins_in, line_of, HasLines}
use Rattle.lrc_lang.specs.Parser.Marked.{is_seam, is_marked, marks, marked}
use Rattle.lrc_lang.specs.Parser.Past.{GoesOn}
use Rattle.lrc_lang.proofs.LexemesPast.{IsPast, nothing_past, one_past, all_past}
use Rattle.lrc_lang.proofs.LexemesUnique.{unique}

-- ---- over symbols

abbrev seam : Symbol → Bool
seam (sign Semicolon) = true
seam (sign OpenBrace) = true
seam (sign CloseBrace) = true
seam _ = false

abbrev mark : Bool → Symbol → Bool
mark behind finish = true
mark behind (keyword Else) = false
mark behind (keyword Locks) = false
mark behind (sign CloseBrace) = false
mark behind _ = behind

-- the places at which something is marked
abbrev begun : Bool → List Symbol → List (List Symbol)
begun behind [] = []
begun behind (s ∷ more) = (if mark behind s then (s ∷ more) ∷ [] else []) ++ begun (seam s) more

-- in an expression nothing is marked
mutual
  factor_unmarked : {e : Expression} {all rest : List Symbol} → IsFactor e all rest → begun false all ≡ begun false rest
  factor_unmarked grammar.a_number = refl
  factor_unmarked grammar.a_name = refl
  factor_unmarked grammar.me = refl
  factor_unmarked grammar.nodes = refl
  factor_unmarked (grammar.parentheses inside) = unmarked inside

  term_unmarked : {e : Expression} {all rest : List Symbol} → IsTerm e all rest → begun false all ≡ begun false rest
  term_unmarked (grammar.factor f) = factor_unmarked f
  term_unmarked (grammar.product left is right) = term_unmarked left ∙ factor_unmarked right

  sum_unmarked : {e : Expression} {all rest : List Symbol} → IsSum e all rest → begun false all ≡ begun false rest
  sum_unmarked (grammar.term t) = term_unmarked t
  sum_unmarked (grammar.sum left is right) = sum_unmarked left ∙ term_unmarked right

  unmarked : {e : Expression} {all rest : List Symbol} → IsExpression e all rest → begun false all ≡ begun false rest
  unmarked (grammar.one_sum s) = sum_unmarked s
  unmarked (grammar.comparison left is right) = sum_unmarked left ∙ sum_unmarked right

-- in statements their beginnings are marked
mutual
  within_marked : {s : Statement} {all rest : List Symbol} (d : IsStatement s all rest) → begun true all ≡ all ∷ (begins_within d ++ begun true rest)
  within_marked {all = all} (grammar.assign value) = ap (λ l. all ∷ l) (unmarked value)
  within_marked {all = all} (grammar.read word) = ap (λ l. all ∷ l) (unmarked word)
  within_marked {all = all} (grammar.write word value) = ap (λ l. all ∷ l) (unmarked word ∙ unmarked value)
  within_marked {all = all} (grammar.acquire lock) = ap (λ l. all ∷ l) (unmarked lock)
  within_marked {all = all} (grammar.release lock) = ap (λ l. all ∷ l) (unmarked lock)
  within_marked grammar.barrier = refl
  within_marked {all = all} (grammar.print value) = ap (λ l. all ∷ l) (unmarked value)
  within_marked {all = all} (grammar.if_alone condition first) = ap (λ l. all ∷ l) (unmarked condition ∙ block_marked first)
  within_marked {all = all} {rest = rest} (grammar.if_else condition first otherwise) =
      ap (λ l. all ∷ l)
      (unmarked condition ∙ block_marked first ∙ ap (λ l. begins_in_block first ++ l) (block_marked otherwise)
      ∙ sym (append_assoc (begins_in_block first) (begins_in_block otherwise) (begun true rest)))
  within_marked {all = all} (grammar.while_do condition inside) = ap (λ l. all ∷ l) (unmarked condition ∙ block_marked inside)

  block_marked : {b : Block} {all rest : List Symbol} (d : IsBlock b all rest) → begun false all ≡ begins_in_block d ++ begun true rest
  block_marked (grammar.braces inside) = all_marked inside

  all_marked : {b : Block} {all rest : List Symbol} (d : AreStatements b all rest) → begun true all ≡ begins d ++ begun true rest
  all_marked grammar.none = refl
  all_marked {rest = rest} (grammar.one_more {all = all} first others) =
      within_marked first ∙ ap (λ l. all ∷ l)
      (ap (λ l. begins_within first ++ l) (all_marked others) ∙ sym (append_assoc (begins_within first) (begins others) (begun true rest)))

program_marked : {p : ProgramTree} {all : List Symbol} (d : AreSymbolsOf p all) → begun false all ≡ begins_in d ++ (finish ∷ []) ∷ []
program_marked (grammar.program statements) = all_marked statements

-- ---- over lexemes

seam_sign : (which : Sign) → is_seam (token (tokens.sign which)) ≡ seam (symbol_of_sign which)
seam_sign Semicolon = refl
seam_sign OpenBrace = refl
seam_sign CloseBrace = refl
seam_sign _ = refl

seam_same : (names : Names) (t : Token) → is_seam (token t) ≡ seam (symbol_of names t)
seam_same names (tokens.number n) = refl
seam_same names (tokens.name bytes) = refl
seam_same names (tokens.keyword which) = refl
seam_same names (tokens.sign which) = seam_sign which
seam_same names tokens.finish = refl

mark_keyword : (behind : Bool) (which : Keyword) → is_marked behind (token (tokens.keyword which)) ≡ mark behind (keyword which)
mark_keyword behind Locks = refl
mark_keyword behind Else = refl
mark_keyword behind _ = refl

mark_sign : (behind : Bool) (which : Sign) → is_marked behind (token (tokens.sign which)) ≡ mark behind (symbol_of_sign which)
mark_sign behind CloseBrace = refl
mark_sign behind _ = refl

mark_same : (behind : Bool) (names : Names) (t : Token) → is_marked behind (token t) ≡ mark behind (symbol_of names t)
mark_same behind names (tokens.number n) = refl
mark_same behind names (tokens.name bytes) = refl
mark_same behind names (tokens.keyword which) = mark_keyword behind which
mark_same behind names (tokens.sign which) = mark_sign behind which
mark_same behind names tokens.finish = refl

cons_head : {A : Type 0} {x y : A} {xs ys : List A} → x ∷ xs ≡ y ∷ ys → x ≡ y
cons_head e = cc

cons_tail : {A : Type 0} {x y : A} {xs ys : List A} → x ∷ xs ≡ y ∷ ys → xs ≡ ys
cons_tail e = cc

length_symbols : (names : Names) (ts : List Token) → length (symbols_after names ts) ≡ length ts
length_symbols names [] = refl
length_symbols names (t ∷ ts) = ap suc (length_symbols (names_with names t) ts)

same_length : (lexemes : List Placed) (ts : List Token) → map (λ found. found.lexeme) lexemes ≡ map token ts → length lexemes ≡ length ts
same_length [] [] e = refl
same_length [] (t ∷ ts) e = cc
same_length (found ∷ lexemes) [] e = cc
same_length (found ∷ lexemes) (t ∷ ts) e = ap suc (same_length lexemes ts (cons_tail e))

line_behind : (front : List Placed) (found : Placed) (tail : List Placed) →
    slice_index_or (map (λ l. l.line) (front ++ found ∷ tail)) (length front) 0 ≡ found.line
line_behind [] found tail = refl
line_behind (first ∷ front) found tail = line_behind front found tail

one_marked : (b : Bool) (line : ℕ) (place : List Symbol) (f : List Symbol → ℕ) (rest : List (List Symbol)) → line ≡ f place →
    (if b then line ∷ [] else []) ++ map f rest ≡ map f ((if b then place ∷ [] else []) ++ rest)
one_marked true line place f rest e = ap (λ n. n ∷ map f rest) e
one_marked false line place f rest e = refl

-- the lines of the marked are those of the places that begin something
lines_marked : (names : Names) (front tail : List Placed) (behind : Bool) (ts : List Token) → map (λ found. found.lexeme) tail ≡ map token ts →
    marked behind tail ≡ map (line_of (front ++ tail)) (begun behind (symbols_after names ts))
lines_marked names front [] behind [] e = refl
lines_marked names front [] behind (t ∷ ts) e = cc
lines_marked names front (found ∷ tail) behind [] e = cc
lines_marked names front (found ∷ tail) behind (t ∷ ts) e =
    let here : found.lexeme ≡ token t = cons_head e in
    let s = symbol_of names t in
    let syms = symbols_after (names_with names t) ts in
    let whole = front ++ found ∷ tail in
    let later : marked (seam s) tail ≡ map (line_of whole) (begun (seam s) syms) =
    subst (λ l. marked (seam s) tail ≡ map (line_of l) (begun (seam s) syms)) (append_assoc front (found ∷ []) tail)
    (lines_marked (names_with names t) (front ++ found ∷ []) tail (seam s) ts (cons_tail e)) in
    let place : length whole - length (s ∷ syms) ≡ length front =
    omega (arith, length-append front (found ∷ tail), length_symbols (names_with names t) ts, same_length tail ts (cons_tail e)) in
    let line_is : found.line ≡ line_of whole (s ∷ syms) =
    sym (ap (λ n. slice_index_or (map (λ l. l.line) whole) n 0) place ∙ line_behind front found tail) in
    ap (λ b. (if b then found.line ∷ [] else []) ++ marked (is_seam found.lexeme) tail) (ap (is_marked behind) here ∙ mark_same behind names t)
    ∙ ap (λ b. (if mark behind s then found.line ∷ [] else []) ++ marked b tail) (ap is_seam here ∙ seam_same names t)
    ∙ ap (λ l. (if mark behind s then found.line ∷ [] else []) ++ l) later
    ∙ one_marked (mark behind s) found.line (s ∷ syms) (line_of whole) (begun (seam s) syms) line_is

-- the lines of a text are those of the marked
all_lines : (lexemes : List Placed) (ts : List Token) (p : ProgramTree) → map (λ found. found.lexeme) lexemes ≡ map token ts → (d : AreSymbolsOf p (symbols ts)) →
    marked false lexemes ≡ map (line_of lexemes) (begins_in d ++ (finish ∷ []) ∷ [])
all_lines lexemes ts p e d = lines_marked [] [] lexemes false ts e ∙ ap (map (line_of lexemes)) (program_marked d)

pub lines_same : (text : List ℕ) (p q : ProgramTree) (lines others : List ℕ) → HasLines text p lines → HasLines text q others → lines ≡ others
lines_same text p q lines others h k =
    h.each ∙ sym (all_lines h.lexemes h.tokens p h.are_tokens h.parsed)
    ∙ ap (marked false) (unique h.lexed k.lexed)
    ∙ all_lines k.lexemes k.tokens q k.are_tokens k.parsed ∙ sym k.each

tokens_of : (before : List Token) (lexemes : List Placed) (ts : List Token) → AreFaultless before lexemes ts → map (λ found. found.lexeme) lexemes ≡ map token ts
tokens_of before [] ts a = sym (ap (map token) a)
tokens_of before (next ∷ others) [] a = absurd a
tokens_of before (next ∷ others) (t ∷ ts) a = ap₂ ◌∷◌ a.0 (tokens_of (before ++ t ∷ []) others ts a.2)

pub has_lines : (text : List ℕ) (p : ProgramTree) (is : IsText text p) (lines : List ℕ) → lines ≡ marked false is.lexemes → HasLines text p lines
has_lines text p is lines e =
    let are = tokens_of [] is.lexemes is.tokens is.faultless in
    record {
      lexemes = is.lexemes;
      lexed = is.lexed;
      tokens = is.tokens;
      are_tokens = are;
      parsed = is.parsed;
      each = e ∙ all_lines is.lexemes is.tokens p are is.parsed;
    }

-- ---- reading

-- The text has been read up to a line and a rest, and these lines were kept of what was passed.
pub record IsMarkedTo (text : List ℕ) (line : ℕ) (rest : List ℕ) (lines : List ℕ) (behind : Bool) : Type 0 where
  pub passed : List Placed
  pub past : IsPast text passed line rest
  pub kept : (more : List Placed) → marked false (passed ++ more) ≡ lines ++ marked behind more

module _ (text : List ℕ) (line : ℕ) (rest : List ℕ) (lines new : List ℕ) (behind : Bool) (m : IsMarkedTo text line rest lines behind) (found : Placed) (next : ℕ)
    (last : List ℕ) (is : NextIs line rest found next last) (kept : new ≡ lines ++ marks behind found) where
  kept_one : (more : List Placed) → marked false (m.passed ++ found ∷ more) ≡ new ++ marked (is_seam found.lexeme) more
  kept_one more =
      m.kept (found ∷ more) ∙ sym (append_assoc lines (marks behind found) (marked (is_seam found.lexeme) more))
      ∙ ap (λ l. l ++ marked (is_seam found.lexeme) more) (sym kept)

  pub marked_more : GoesOn found.lexeme → IsMarkedTo text next last new (is_seam found.lexeme)
  marked_more on = record {
    passed = m.passed ++ found ∷ [];
    past = one_past m.past is on;
    kept = λ more. ap (marked false) (append_assoc m.passed (found ∷ []) more) ∙ kept_one more;
  }

  pub marked_all : (¬ GoesOn found.lexeme) → (all : List Placed) → Lexes 1 text all → new ≡ marked false all
  marked_all off all lexed =
      sym (ap (marked false) (unique lexed (all_past m.past is off)) ∙ kept_one [] ∙ append-nil new)

pub if_ok : {A E : Type 0} {P Q : A → Type 0} (r : Result A E) → ((x : A) → P x → Q x) → IfOk r P → IfOk r Q
if_ok (Ok x) f h = f x h
if_ok (Err e) f h = tt

-- the marked lines of a program's text are its lines
pub lines_given : {A E : Type 0} (items : A → List ℕ) (text : List ℕ) (r : Result A E) →
    ((all : List Placed) → Lexes 1 text all → IfOk r (λ x. items x ≡ marked false all)) →
    (p : ProgramTree) → IsText text p → IfOk r (λ x. HasLines text p (items x))
lines_given items text r each p is = if_ok r (λ x e. has_lines text p is (items x) e) (each is.lexemes is.lexed)
