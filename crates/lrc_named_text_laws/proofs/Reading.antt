-- The text of a core is read as this core.
use Rattle.std.proofs.Common.{◌≡◌, ℕ, List, [], ◌∷◌, ◌++◌, map, refl, sym, ap, ap₂, subst, ◌∙◌}
use Rattle.std.specs.List.{AllByRecursion}
use Rattle.lrc_lang.specs.Faults.{AreFaultless, IsText}
use Rattle.lrc_lang.specs.Grammar.{AreSymbolsOf, IsProgram}
use Rattle.lrc_lang.specs.Grammar as grammar
use Rattle.lrc_lang.specs.Symbol.{symbol_of, symbols}
use Rattle.lrc_lang.specs.Token.{Lexeme, Placed, Token, finish, token}
use Rattle.lrc_program.specs.Tree.{ProgramTree}
use Rattle.lrc_lang.proofs.LexemesUnique.{unique}
use Rattle.lrc_lang.proofs.Reaching.{one_program}
use Rattle.lrc_named_core.specs.Tree.{Block}
use Rattle.lrc_named_names.specs.Names.{Declared}
use Rattle.lrc_named_text.specs.Statements.{core_text}
use Rattle.lrc_named_acts_laws.specs.Coded.{block_coded}
use Rattle.lrc_named_text_laws.specs.Named.{numbers_among, with_statements}
use Rattle.lrc_named_text_laws.specs.Spelled.{AreLabelled, AreSpelled, Fits}
use Rattle.lrc_named_text_laws.proofs.Numbering.{all_names, block_names, by_all}
use Rattle.lrc_named_text_laws.proofs.Parsing.{Sy, block_parsed}
use Rattle.lrc_named_text_laws.proofs.Texts.{core_stands}
use Rattle.lrc_named_text_laws.proofs.Tokens.{block_tokens, program_tokens}

abbrev pub tree_of : (words locks : ℕ) → Block → ProgramTree
tree_of words locks statements =
    record { words = words; locks = locks; statements = block_coded (numbers_among (with_statements [] statements)) statements }

-- the tokens are in the grammar
pub parsed : (words locks : ℕ) (statements : Block) → IsProgram (tree_of words locks statements) (program_tokens words locks statements)
parsed words locks statements =
    let names = with_statements [] statements in
    let ts = program_tokens words locks statements in
    let all_is : all_names [] ts ≡ names = block_names statements [] (finish ∷ []) in
    let symbols_are : symbols ts ≡ Sy names ts = by_all ts [] ∙ ap (λ n. map (symbol_of n) ts) all_is in
    subst (AreSymbolsOf (tree_of words locks statements)) (sym symbols_are) (grammar.program (block_parsed names statements (finish ∷ [])))

pub same_token : {t u : Token} → token t ≡ token u → t ≡ u
same_token e = cc

pub head_same : {A : Type 0} {x y : A} {xs ys : List A} → x ∷ xs ≡ y ∷ ys → x ≡ y
head_same e = cc

pub tail_same : {A : Type 0} {x y : A} {xs ys : List A} → x ∷ xs ≡ y ∷ ys → xs ≡ ys
tail_same e = cc

-- the tokens of a text without a fault are what stands in it
faultless_tokens : (before : List Token) (lexemes : List Placed) (found ts : List Token) → AreFaultless before lexemes found
    → map (λ (p : Placed). p.lexeme) lexemes ≡ map token ts → found ≡ ts
faultless_tokens before [] found [] are is = are
faultless_tokens before [] found (t ∷ ts) are is = absurd (cc)
faultless_tokens before (p ∷ lexemes) [] ts are is = absurd are
faultless_tokens before (p ∷ lexemes) (u ∷ found) [] are is = absurd (cc)
faultless_tokens before (p ∷ lexemes) (u ∷ found) (t ∷ ts) are is =
    ap₂ ◌∷◌ (same_token (sym are.0 ∙ head_same is)) (faultless_tokens (before ++ u ∷ []) lexemes found ts are.2 (tail_same is))

pub read_as : (words locks : ℕ) (declared : List Declared) (lines : List ℕ) (statements : Block) (p : ProgramTree)
    → Fits words → Fits locks → AreLabelled declared → AllByRecursion Fits lines → AreSpelled statements
    → IsText (core_text words locks declared lines statements) p → p ≡ tree_of words locks statements
read_as words locks declared lines statements p small_words small_locks labelled fit spelled is =
    let (all, lexed, lexemes_are) = (core_stands words locks declared lines statements small_words small_locks labelled fit spelled).on 1 in
    let same = unique is.lexed lexed in
    let tokens_are = faultless_tokens [] is.lexemes is.tokens (program_tokens words locks statements) is.faultless (ap (map (λ (q : Placed). q.lexeme)) same ∙ lexemes_are) in
    one_program (program_tokens words locks statements) p (tree_of words locks statements) (subst (IsProgram p) tokens_are is.parsed) (parsed words locks statements)
