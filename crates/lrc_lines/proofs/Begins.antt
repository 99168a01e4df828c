-- Where statements begin in the order of the text, each begins with its own tokens.
use Rattle.std.proofs.Common.{◌≡◌, ◌+◌, ◌-◌, ◌≤◌, ℕ, suc, List, [], ◌∷◌, ◌++◌, length, map, drop, refl, sym, ap, ap₂, subst, ◌∙◌, arith}
use Rattle.std.proofs.Common.{append_assoc, append-nil, length-append, Some}
use Rattle.std.specs.Prelude.{slice_get, slice_index_or}
use Rattle.std.proofs.lemmas.List.{length-map, map-append}
use Rattle.std.proofs.lemmas.Option.{slice_get-get_or}
use Rattle.std.proofs.Math.Seq.{drop-append_seam}
use Rattle.lrc_program.specs.declared.Program.{Program}
use Rattle.lrc_program.specs.declared.Statement as code
use Rattle.lrc_program.specs.declared.Statement.{Row_of-Statement, end_of-Statement, more_of-Statement}
use Rattle.lrc_program.specs.declared.Statement.TheVariants.{Assign, Read, Write, Acquire, Release, Barrier, Print, If', While'}
use Rattle.lrc_lang.specs.Grammar as grammar
use Rattle.lrc_lang.specs.Grammar.{IsFactor, IsTerm, IsSum, IsExpression, IsStatement, IsBlock, AreStatements, AreSymbolsOf}
use Rattle.lrc_lang.specs.Lines.{begins_within, begins_in_block, begins, begins_in, line_of, HasLines}
use Rattle.lrc_lang.specs.Symbol.{Symbol, finish, Names, names_with, symbols_after, symbols}
use Rattle.lrc_lang.specs.Token.{Token, token, Placed}
use Rattle.lrc_program.specs.Tree.{Expression, Statement, Block, ProgramTree, if_else, while_do, empty, next, statement_of, row_of, block_of, program_of}
use Rattle.lrc_lines.specs.Begins.{BeginsOn, BeginInTurn, BeginOnLines}
use Rattle.lrc_lines.specs.Begins as turn
use Rattle.lrc_lines.specs.Places.{in_order, within, within_block}

-- ---- statements in the order of the text, over trees

abbrev mutual
  inside : Statement → List Statement
  inside (if_else condition then otherwise) = inside_block then ++ inside_block otherwise
  inside (while_do condition body) = inside_block body
  inside _ = []

  inside_block : Block → List Statement
  inside_block empty = []
  inside_block (next first others) = first ∷ (inside first ++ inside_block others)

mutual
  within_inside : (s : code.Statement) → map statement_of (within s) ≡ inside (statement_of s)
  within_inside (If' e p a q b) = map-append statement_of (within_block a) (within_block b) ∙ ap₂ ◌++◌ (row_inside a) (row_inside b)
  within_inside (While' e p a) = row_inside a
  within_inside (Assign name e) = refl
  within_inside (Read name e) = refl
  within_inside (Write e v) = refl
  within_inside (Acquire e) = refl
  within_inside (Release e) = refl
  within_inside Barrier = refl
  within_inside (Print e) = refl

  row_inside : {m : _} (row : Row_of-Statement m) → map statement_of (within_block row) ≡ inside_block (row_of row)
  row_inside end_of-Statement = refl
  row_inside (more_of-Statement first more) =
      ap (λ l. statement_of first ∷ l)
      (map-append statement_of (within first) (within_block more) ∙ ap₂ ◌++◌ (within_inside first) (row_inside more))

order_inside : (ss : List code.Statement) → map statement_of (in_order ss) ≡ inside_block (block_of ss)
order_inside [] = refl
order_inside (s ∷ ss) =
    ap (λ l. statement_of s ∷ l) (map-append statement_of (within s) (in_order ss) ∙ ap₂ ◌++◌ (within_inside s) (order_inside ss))

-- ---- places, one behind the other

-- the symbols from a later place on
abbrev Later : List Symbol → List Symbol → Type 0
Later now last = (front : List Symbol) × (now ≡ front ++ last)

abbrev here : (now : List Symbol) → Later now now
here now = ([], refl)

abbrev behind : (x : Symbol) {now last : List Symbol} → Later now last → Later (x ∷ now) last
behind x l = (x ∷ l.0, ap (λ m. x ∷ m) l.1)

abbrev then : {now more last : List Symbol} → Later now more → Later more last → Later now last
then {now} {more} {last} l m = (l.0 ++ m.0, l.1 ∙ ap (λ k. l.0 ++ k) m.1 ∙ sym (append_assoc l.0 m.0 last))

abbrev past : {x : Symbol} {now last : List Symbol} → Later now (x ∷ last) → Later now last
past {x} {now} {last} l = then l (behind x (here last))

-- behind an expression comes a later place
mutual
  factor_later : {e : Expression} {all rest : List Symbol} → IsFactor e all rest → Later all rest
  factor_later grammar.a_number = behind _ (here _)
  factor_later grammar.a_name = behind _ (here _)
  factor_later grammar.me = behind _ (here _)
  factor_later grammar.nodes = behind _ (here _)
  factor_later (grammar.parentheses e) = behind _ (past (later e))

  term_later : {e : Expression} {all rest : List Symbol} → IsTerm e all rest → Later all rest
  term_later (grammar.factor f) = factor_later f
  term_later (grammar.product left is right) = then (past (term_later left)) (factor_later right)

  sum_later : {e : Expression} {all rest : List Symbol} → IsSum e all rest → Later all rest
  sum_later (grammar.term t) = term_later t
  sum_later (grammar.sum left is right) = then (past (sum_later left)) (term_later right)

  later : {e : Expression} {all rest : List Symbol} → IsExpression e all rest → Later all rest
  later (grammar.one_sum s) = sum_later s
  later (grammar.comparison left is right) = then (past (sum_later left)) (sum_later right)

-- statements begin at places one behind the other, each with its own symbols, and a later place comes last
data Chain : List Symbol → List Statement → List (List Symbol) → List Symbol → Type 0 where
  stops : {now last : List Symbol} → Later now last → Chain now [] [] last
  begun : {now more rest last : List Symbol} {x : Symbol} {s : Statement} {ss : List Statement} {places : List (List Symbol)}
      → Later now (x ∷ more) → IsStatement s (x ∷ more) rest → Chain more ss places last → Chain now (s ∷ ss) ((x ∷ more) ∷ places) last

chain_later : {first now last : List Symbol} {ss : List Statement} {places : List (List Symbol)} → Later first now → Chain now ss places last
    → Chain first ss places last
chain_later l (stops m) = stops (then l m)
chain_later l (begun m s more) = begun (then l m) s more

chain_past : {x : Symbol} {now last : List Symbol} {ss : List Statement} {places : List (List Symbol)} → Chain now ss places (x ∷ last)
    → Chain now ss places last
chain_past (stops l) = stops (past l)
chain_past (begun l s more) = begun l s (chain_past more)

chain_append : {now middle last : List Symbol} {ss ts : List Statement} {places others : List (List Symbol)} → Chain now ss places middle
    → Chain middle ts others last → Chain now (ss ++ ts) (places ++ others) last
chain_append (stops l) second = chain_later l second
chain_append (begun l s more) second = begun l s (chain_append more second)

mutual
  statement_chain : {s : Statement} {all rest : List Symbol} (d : IsStatement s all rest) → Chain all (s ∷ inside s) (all ∷ begins_within d) rest
  statement_chain (grammar.assign value) = begun (here _) (grammar.assign value) (stops (behind _ (past (later value))))
  statement_chain (grammar.read word) = begun (here _) (grammar.read word) (stops (behind _ (behind _ (past (past (later word))))))
  statement_chain (grammar.write word value) =
      begun (here _) (grammar.write word value) (stops (then (past (past (later word))) (past (later value))))
  statement_chain (grammar.acquire lock) = begun (here _) (grammar.acquire lock) (stops (past (later lock)))
  statement_chain (grammar.release lock) = begun (here _) (grammar.release lock) (stops (past (later lock)))
  statement_chain grammar.barrier = begun (here _) grammar.barrier (stops (behind _ (here _)))
  statement_chain (grammar.print value) = begun (here _) (grammar.print value) (stops (past (later value)))
  statement_chain {rest = rest} (grammar.if_alone {then = first} {more = more} condition block) =
      begun (here _) (grammar.if_alone condition block)
      (subst (λ places. Chain more (inside_block first ++ []) places rest) (append-nil (begins_in_block block))
      (chain_later (later condition) (chain_append (block_chain block) (stops (here rest)))))
  statement_chain (grammar.if_else condition block otherwise) =
      begun (here _) (grammar.if_else condition block otherwise)
      (chain_later (later condition) (chain_append (chain_past (block_chain block)) (block_chain otherwise)))
  statement_chain (grammar.while_do condition block) =
      begun (here _) (grammar.while_do condition block) (chain_later (later condition) (block_chain block))

  block_chain : {b : Block} {all rest : List Symbol} (d : IsBlock b all rest) → Chain all (inside_block b) (begins_in_block d) rest
  block_chain (grammar.braces statements) = chain_later (behind _ (here _)) (chain_past (all_chain statements))

  all_chain : {b : Block} {all rest : List Symbol} (d : AreStatements b all rest) → Chain all (inside_block b) (begins d) rest
  all_chain grammar.none = stops (here _)
  all_chain (grammar.one_more first others) = chain_append (statement_chain first) (all_chain others)

program_chain : {p : ProgramTree} {all : List Symbol} (d : AreSymbolsOf p all) → Chain all (inside_block p.statements) (begins_in d) (finish ∷ [])
program_chain (grammar.program statements) = chain_later (behind _ (behind _ (behind _ (behind _ (behind _ (behind _ (here _))))))) (all_chain statements)

-- ---- lines of places

length_symbols : (names : Names) (ts : List Token) → length (symbols_after names ts) ≡ length ts
length_symbols names [] = refl
length_symbols names (t ∷ ts) = ap suc (length_symbols (names_with names t) ts)

same_head : {A : Type 0} {x y : A} {xs ys : List A} → x ∷ xs ≡ y ∷ ys → x ≡ y
same_head e = cc

same_tail : {A : Type 0} {x y : A} {xs ys : List A} → x ∷ xs ≡ y ∷ ys → xs ≡ ys
same_tail e = cc

module _ (lexemes : List Placed) (tokens : List Token) (are : map (λ found. found.lexeme) lexemes ≡ map token tokens) where
  lines_length : length (map (λ found. found.line) lexemes) ≡ length (symbols tokens)
  lines_length =
      length-map lexemes (λ found. found.line) ∙ sym (length-map lexemes (λ found. found.lexeme)) ∙ ap length are ∙ length-map tokens token
      ∙ sym (length_symbols [] tokens)

  -- the line of a place, by what stands in front of it
  line_there : (front : List Symbol) (x : Symbol) (more : List Symbol) → symbols tokens ≡ front ++ x ∷ more
      → slice_get (map (λ found. found.line) lexemes) (length front) ≡ Some (line_of lexemes (x ∷ more))
  line_there front x more is =
      let lines = map (λ found. found.line) lexemes in
      let whole : length lines ≡ length front + length (x ∷ more) = lines_length ∙ ap length is ∙ length-append front (x ∷ more) in
      let place : length front ≡ length lexemes - length (x ∷ more) = omega (arith, whole, length-map lexemes (λ found. found.line)) in
      slice_get-get_or lines (length front) 0 (omega (arith, whole)) ∙ ap (λ n. Some (slice_index_or lines n 0)) place

  from_there : (front rest : List Symbol) → symbols tokens ≡ front ++ rest → drop (length front) (symbols tokens) ≡ rest
  from_there front rest is = ap (drop (length front)) is ∙ drop-append_seam front rest

  abbrev Turn : ℕ → List code.Statement → List (List Symbol) → Type 0
  Turn from ss places = BeginInTurn lexemes tokens from ss (map (line_of lexemes) (places ++ (finish ∷ []) ∷ []))

  in_turn : {now last : List Symbol} {ts : List Statement} {places : List (List Symbol)} (ss : List code.Statement) (front : List Symbol)
      → Chain now ts places last → last ≡ finish ∷ [] → map statement_of ss ≡ ts → symbols tokens ≡ front ++ now → Turn (length front) ss places
  in_turn [] front (stops l) end same is =
      let further : Later (symbols tokens) _ = then (front, is) l in
      let front' = front ++ l.0 in
      let the_end : symbols tokens ≡ front' ++ finish ∷ [] = further.1 ∙ ap (λ last. front' ++ last) end in
      turn.end (omega (arith, length-append front l.0)) (from_there front' (finish ∷ []) the_end) (line_there front' finish [] the_end)
  in_turn (s ∷ ss) front (stops l) end same is = cc
  in_turn [] front (begun l d more) end same is = cc
  in_turn (s ∷ ss) front (begun {more = after} {rest = rest} {x = x} {s = t} {places = places} l d more) end same is =
      let further : Later (symbols tokens) (x ∷ after) = then (front, is) l in
      let front' = front ++ l.0 in
      let shorter : length front ≤ length front' = omega (arith, length-append front l.0) in
      let spelled = subst (λ t. IsStatement t (drop (length front') (symbols tokens)) rest) (sym (same_head same))
      (subst (λ all. IsStatement t all rest) (sym (from_there front' (x ∷ after) further.1)) d) in
      let behind_it : symbols tokens ≡ (front' ++ x ∷ []) ++ after = further.1 ∙ sym (append_assoc front' (x ∷ []) after) in
      turn.next shorter (record { rest = rest; spells = spelled; on = line_there front' x after further.1 })
      (subst (λ n. Turn n ss places) (length-append front' (x ∷ [])) (in_turn ss (front' ++ x ∷ []) more end (same_tail same) behind_it))

pub begin_on_lines : (text : List ℕ) (p : Program) (lines : List ℕ) → HasLines text (program_of p) lines → BeginOnLines text p lines
begin_on_lines text p lines has = record {
  lexemes = has.lexemes;
  lexed = has.lexed;
  tokens = has.tokens;
  are_tokens = has.are_tokens;
  in_turn = subst (λ l. BeginInTurn has.lexemes has.tokens 0 (in_order p.statements.items) l) (sym has.each)
      (in_turn has.lexemes has.tokens has.are_tokens (in_order p.statements.items) [] (program_chain has.parsed) refl
      (order_inside p.statements.items) refl);
}
