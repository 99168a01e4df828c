-- As many statements begin as there are.
use Rattle.std.proofs.Common.{◌≡◌, ◌∙◌, ℕ, zero, suc, Some, List, [], ◌∷◌, ◌++◌, length, refl, ap, arith}
use Rattle.std.specs.Prelude.{slice_get}
use Rattle.std.proofs.lemmas.List.{length-append, length-map}
use Rattle.lrc_program.specs.declared.Program.{Program}
use Rattle.lrc_lang.specs.Symbol.{Symbol, symbols}
use Rattle.lrc_lang.specs.Token.{Token}
use Rattle.lrc_program.specs.Tree.{Statement, Block, ProgramTree, program_of, block_of}
use Rattle.lrc_lang.specs.Grammar as grammar
use Rattle.lrc_lang.specs.Grammar.{IsStatement, IsBlock, AreStatements, AreSymbolsOf, IsProgram}
use Rattle.lrc_lang.specs.Lines.{begins_within, begins_in_block, begins, begins_in}
use Rattle.lrc_lint_warned.specs.declared.places.Scan.TheVariants.{Statements}
use Rattle.lrc_lint_warned.specs.Derived.{place_in}
use Rattle.lrc_lint_warned.specs.Inside.{statements_in, within}
use Rattle.lrc_lint_warned.specs.Places.{places_in}
use Rattle.lrc_lint_warned.proofs.Derived.{statements_stand}
use Rattle.lrc_lint_laws.proofs.Listed.{to_mapped, to_zipped}
use Rattle.lrc_lint_warned.specs.Places.{statement_at}
use Rattle.lrc_lint_laws.specs.Comes.{statements_of_text}

pub same_sum : {A B : Type 0} (a c : List A) (b d : List B) → length a ≡ length b → length c ≡ length d → length (a ++ c) ≡ length (b ++ d)
same_sum a c b d one other = omega (arith, length-append a c, length-append b d)

mutual
  count_statement : {s : Statement} {all rest : List Symbol} (d : IsStatement s all rest) → length (begins_within d) ≡ length (within s)
  count_statement (grammar.assign value) = refl
  count_statement (grammar.read word) = refl
  count_statement (grammar.write word value) = refl
  count_statement (grammar.acquire lock) = refl
  count_statement (grammar.release lock) = refl
  count_statement grammar.barrier = refl
  count_statement (grammar.print value) = refl
  count_statement (grammar.if_alone {then = then} condition first) =
      let h = count_block first in
      omega (arith, h, length-append (statements_in then) (statements_in Block.empty))
  count_statement (grammar.if_else {then = then} {otherwise = otherwise} condition first second) =
      same_sum (begins_in_block first) (begins_in_block second) (statements_in then) (statements_in otherwise) (count_block first) (count_block second)
  count_statement (grammar.while_do condition inside) = count_block inside

  count_block : {b : Block} {all rest : List Symbol} (d : IsBlock b all rest) → length (begins_in_block d) ≡ length (statements_in b)
  count_block (grammar.braces inside) = count_all inside

  count_all : {b : Block} {all rest : List Symbol} (d : AreStatements b all rest) → length (begins d) ≡ length (statements_in b)
  count_all grammar.none = refl
  count_all (grammar.one_more {first = first} {others = others} one more) =
      ap suc (same_sum (begins_within one) (begins more) (within first) (statements_in others) (count_statement one) (count_all more))

count_program : {p : ProgramTree} {all : List Symbol} (d : AreSymbolsOf p all) → length (begins_in d) ≡ length (statements_in p.statements)
count_program (grammar.program statements) = count_all statements

pub as_many : (p : ProgramTree) (tokens : List Token) → IsProgram p tokens → length (places_in Statements tokens) ≡ length (statements_in p.statements)
as_many p tokens d =
    ap length (statements_stand p tokens d) ∙ length-map (begins_in d) (place_in (symbols tokens)) ∙ count_program d

there : {A B : Type 0} (xs : List A) (ys : List B) (k : ℕ) (y : B) → length xs ≡ length ys → slice_get ys k ≡ Some y → (x : A) × (slice_get xs k ≡ Some x)
there xs [] k y same is = cc
there [] (b ∷ ys) k y same is = absurd (omega (arith, same))
there (a ∷ xs) (b ∷ ys) zero y same is = (a, refl)
there (a ∷ xs) (b ∷ ys) (suc k) y same is = there xs ys k y (omega (arith, same)) is

-- each statement of the text has its place
pub placed : (program : Program) (tokens : List Token) → IsProgram (program_of program) tokens → (k : ℕ) (s : Statement)
    → slice_get (statements_in (block_of program.statements.items)) k ≡ Some s
    → (at : ℕ) × (slice_get (places_in Statements tokens) k ≡ Some at)
    × (slice_get (statements_of_text program tokens) k ≡ Some (record { at = at; statement = s }))
placed program tokens d k s is =
    let all = statements_in (block_of program.statements.items) in
    let (at, place) = there (places_in Statements tokens) all k s (as_many (program_of program) tokens d) is in (
      at,
      place,
      to_mapped statement_at (Rattle.std.specs.List.zip (places_in Statements tokens) all) k (at, s) (to_zipped (places_in Statements tokens) all k at s place is),
    )
