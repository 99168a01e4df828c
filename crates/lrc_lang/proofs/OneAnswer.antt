-- A text has one answer: one program, or one first fault, and never both.
use Rattle.std.proofs.Common.{◌≡◌, ◌<◌, ◌⊎◌, ℕ, zero, suc, List, [], ◌∷◌, ◌++◌, Result, Ok, Err, IfOk, IfErr}
use Rattle.std.proofs.Common.{MatchResult, refl, sym, ap, ap₂, subst, ◌∙◌, inl, inr, ⊎_elim, arith}
use Rattle.lrc_lang.specs.declared.fault.FaultKind.{FaultKind}
use Rattle.lrc_lang.specs.declared.fault.FaultKind.TheVariants.{TooLong, BadByte, BadNumber, Unexpected, TooDeep, TooManyNames, OverLimit, NoMemory}
use Rattle.lrc_lang.specs.declared.fault.ParseFault.{ParseFault}
use Rattle.lrc_program.specs.declared.Program.{Program}
use Rattle.lrc_lang.specs.Token.{Token, Lexeme, token, Placed}
use Rattle.lrc_program.specs.Tree.{ProgramTree, program_of}
use Rattle.lrc_lang.specs.Grammar.{IsProgram}
use Rattle.lrc_lang.specs.Faults.{HasFault, rank, IsFaultOf, IsFaultless, IsFirstFault, AreFaultless, IsText, HasFirstFault}
use Rattle.lrc_lang.specs.Parser.SeenParser.{IsOutOfMemory}
use Rattle.lrc_lang.proofs.LexemesUnique.{unique}
use Rattle.lrc_lang.proofs.Reaching.{one_program}

token_same : {t u : Token} → token t ≡ token u → t ≡ u
token_same e = cc

-- ---- one fault of what stands next

kind_at : ℕ → FaultKind
kind_at zero = TooLong
kind_at (suc zero) = BadByte
kind_at (suc (suc zero)) = BadNumber
kind_at (suc (suc (suc zero))) = Unexpected
kind_at (suc (suc (suc (suc zero)))) = TooDeep
kind_at (suc (suc (suc (suc (suc zero))))) = TooManyNames
kind_at (suc (suc (suc (suc (suc (suc zero)))))) = OverLimit
kind_at (suc (suc (suc (suc (suc (suc (suc n))))))) = NoMemory

kind_at-rank : (kind : FaultKind) → kind_at (rank kind) ≡ kind
unfolding kind_at
kind_at-rank = elim [
  | TooLong ↦ refl
  | BadByte ↦ refl
  | BadNumber ↦ refl
  | Unexpected ↦ refl
  | TooDeep ↦ refl
  | TooManyNames ↦ refl
  | OverLimit ↦ refl
  | NoMemory ↦ refl
]

rank_same : (kind other : FaultKind) → rank kind ≡ rank other → kind ≡ other
rank_same kind other e = sym (kind_at-rank kind) ∙ ap kind_at e ∙ kind_at-rank other

three_ways : (m n : ℕ) → (m < n) ⊎ (n < m) ⊎ (m ≡ n)
three_ways m n = grind arith

one_kind : (before : List Token) (next : Lexeme) (kind other : FaultKind) → IsFaultOf before next kind → IsFaultOf before next other → kind ≡ other
one_kind before next kind other f g =
    ⊎_elim
    (λ below. absurd (g.first kind below f.has))
    (⊎_elim (λ above. absurd (f.first other above g.has)) (λ same. rank_same kind other same))
    (three_ways (rank kind) (rank other))

-- ---- one answer of lexemes

-- faultless lexemes are the tokens that they are
same_tokens : (before : List Token) (lexemes : List Placed) (tokens others : List Token) →
    AreFaultless before lexemes tokens → AreFaultless before lexemes others → tokens ≡ others
same_tokens before [] tokens others a b = a ∙ sym b
same_tokens before (next ∷ lexemes) [] others a b = absurd a
same_tokens before (next ∷ lexemes) (t ∷ tokens) [] a b = absurd b
same_tokens before (next ∷ lexemes) (t ∷ tokens) (u ∷ others) a b =
    let same : t ≡ u = token_same (sym a.0 ∙ b.0) in
    let rest = subst (λ v. AreFaultless (before ++ v ∷ []) lexemes others) (sym same) b.2 in
    ap₂ ◌∷◌ same (same_tokens (before ++ t ∷ []) lexemes tokens others a.2 rest)

-- and among them is no fault
pub no_fault : (before : List Token) (lexemes : List Placed) (tokens : List Token) (line : ℕ) (kind : FaultKind) →
    AreFaultless before lexemes tokens → IsFirstFault before lexemes line kind → ⊥
no_fault before [] tokens line kind a f = f
no_fault before (next ∷ lexemes) [] line kind a f = a
no_fault before (next ∷ lexemes) (t ∷ tokens) line kind a (inl here) =
    a.1 kind (subst (λ found. HasFault kind before found) a.0 (here.0).has)
no_fault before (next ∷ lexemes) (t ∷ tokens) line kind a (inr later) =
    let same : t ≡ later.0 = token_same (sym a.0 ∙ later.1) in
    no_fault (before ++ t ∷ []) lexemes tokens line kind a.2 (subst (λ v. IsFirstFault (before ++ v ∷ []) lexemes line kind) (sym same) later.3)

-- what has no fault is not the first that has one
passed_over : (before : List Token) (next : Placed) (t : Token) (kind : FaultKind) →
    next.lexeme ≡ token t → IsFaultless before (token t) → IsFaultOf before next.lexeme kind → ⊥
passed_over before next t kind e faultless f = faultless kind (subst (λ found. HasFault kind before found) e f.has)

one_fault : (before : List Token) (lexemes : List Placed) (line own : ℕ) (kind other : FaultKind) →
    IsFirstFault before lexemes line kind → IsFirstFault before lexemes own other → (line ≡ own) × (kind ≡ other)
one_fault before [] line own kind other f g = absurd f
one_fault before (next ∷ lexemes) line own kind other (inl here) (inl there) =
    (here.1 ∙ sym there.1, one_kind before next.lexeme kind other here.0 there.0)
one_fault before (next ∷ lexemes) line own kind other (inl here) (inr later) =
    absurd (passed_over before next later.0 kind later.1 later.2 here.0)
one_fault before (next ∷ lexemes) line own kind other (inr later) (inl there) =
    absurd (passed_over before next later.0 other later.1 later.2 there.0)
one_fault before (next ∷ lexemes) line own kind other (inr later) (inr past) =
    let same : later.0 ≡ past.0 = token_same (sym later.1 ∙ past.1) in
    one_fault (before ++ later.0 ∷ []) lexemes line own kind other later.3 (subst (λ v. IsFirstFault (before ++ v ∷ []) lexemes own other) (sym same) past.3)

-- ---- one answer of a text

one_text : (text : List ℕ) (p q : ProgramTree) → IsText text p → IsText text q → p ≡ q
one_text text p q a b =
    let lexemes : b.lexemes ≡ a.lexemes = unique b.lexed a.lexed in
    let tokens : b.tokens ≡ a.tokens =
    same_tokens [] a.lexemes b.tokens a.tokens (subst (λ all. AreFaultless [] all b.tokens) lexemes b.faultless) a.faultless in
    one_program a.tokens p q a.parsed (subst (λ all. IsProgram q all) tokens b.parsed)

not_both : (text : List ℕ) (p : ProgramTree) (line : ℕ) (kind : FaultKind) → IsText text p → HasFirstFault text line kind → ⊥
not_both text p line kind a (inl long) = omega (arith, a.fits, long.0)
not_both text p line kind a (inr short) =
    no_fault [] a.lexemes a.tokens line kind a.faultless (subst (λ all. IsFirstFault [] all line kind) (unique short.2 a.lexed) short.3)

one_first_fault : (text : List ℕ) (line own : ℕ) (kind other : FaultKind) → HasFirstFault text line kind → HasFirstFault text own other → (line ≡ own)
    × (kind ≡ other)
one_first_fault text line own kind other (inl long) (inl too) = (long.1 ∙ sym too.1, long.2 ∙ sym too.2)
one_first_fault text line own kind other (inl long) (inr short) = absurd (omega (arith, long.0, short.0))
one_first_fault text line own kind other (inr short) (inl long) = absurd (omega (arith, long.0, short.0))
one_first_fault text line own kind other (inr short) (inr too) =
    one_fault [] short.1 line own kind other short.3 (subst (λ all. IsFirstFault [] all own other) (unique too.2 short.2) too.3)

pub of_program : (text : List ℕ) (r : Result Program ParseFault) →
    IfOk r (λ p. IsText text (program_of p)) → IfErr r (λ e. IsOutOfMemory e ⊎ HasFirstFault text e.line e.kind) →
    (p : ProgramTree) → IsText text p → MatchResult r (λ found. program_of found ≡ p) IsOutOfMemory
of_program text (Ok found) ok err p a = one_text text (program_of found) p ok a
of_program text (Err e) ok err p a = ⊎_elim (λ m. m) (λ f. absurd (not_both text p e.line e.kind a f)) err

pub of_fault : (text : List ℕ) (r : Result Program ParseFault) →
    IfOk r (λ p. IsText text (program_of p)) → IfErr r (λ e. IsOutOfMemory e ⊎ HasFirstFault text e.line e.kind) →
    (line : ℕ) (kind : FaultKind) → HasFirstFault text line kind →
    MatchResult r (λ _. ⊥) (λ e. IsOutOfMemory e ⊎ ((e.line ≡ line) × (e.kind ≡ kind)))
of_fault text (Ok found) ok err line kind f = not_both text (program_of found) line kind ok f
of_fault text (Err e) ok err line kind f = ⊎_elim inl (λ g. inr (one_first_fault text e.line line e.kind kind g f)) err
