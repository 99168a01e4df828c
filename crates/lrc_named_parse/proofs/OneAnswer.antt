-- A text has one answer: one program, or one first fault, and never both.
use Rattle.std.proofs.Common.{◌≡◌, ◌<◌, ◌⊎◌, ℕ, zero, suc, List, [], ◌∷◌, ◌++◌, Result, Ok, Err, IfOk, IfErr, map}
use Rattle.std.proofs.Common.{MatchResult, refl, sym, ap, ap₂, subst, ◌∙◌, inl, inr, ⊎_elim, arith}
use Rattle.lrc_lang.specs.declared.fault.FaultKind.{FaultKind}
use Rattle.lrc_lang.specs.declared.fault.FaultKind.TheVariants.{TooLong, BadByte, BadNumber, Unexpected, TooDeep, TooManyNames, OverLimit, NoMemory}
use Rattle.lrc_lang.specs.Faults.{rank}
use Rattle.lrc_named_tokens.specs.Token.{Token, Lexeme, token, Place, Located}
use Rattle.lrc_named_tokens.specs.View.{located_of, place_of}
use Rattle.lrc_named_tokens.proofs.Unique.{unique}
use Rattle.lrc_named_tree.specs.Tree.{NamedTree}
use Rattle.lrc_named_tree.specs.Grammar.{IsNamedProgram}
use Rattle.lrc_named_tree.specs.View.{program_of}
use Rattle.lrc_named_parse.specs.declared.parser.Parsed.{Parsed}
use Rattle.lrc_named_parse.specs.declared.parser.TextFault.{TextFault}
use Rattle.lrc_named_parse.specs.Faults.{HasFault, IsFaultOf, IsFaultless, IsFirstFault, AreFaultless, HasProgram, IsNamed, HasFirstFault}
use Rattle.lrc_named_parse.proofs.Reaching.{one_program}

token_same : {t u : Token} → token t ≡ token u → t ≡ u
token_same e = cc

-- ---- one fault of what stands next

kind_at : ℕ → FaultKind
kind_at zero = TooLong
kind_at (suc zero) = BadByte
kind_at (suc (suc zero)) = BadNumber
kind_at (suc (suc (suc zero))) = Unexpected
kind_at (suc (suc (suc (suc zero)))) = TooDeep
kind_at (suc (suc (suc (suc (suc zero))))) = TooManyNames
kind_at (suc (suc (suc (suc (suc (suc zero)))))) = OverLimit
kind_at (suc (suc (suc (suc (suc (suc (suc n))))))) = NoMemory

kind_at-rank : (kind : FaultKind) → kind_at (rank kind) ≡ kind
unfolding kind_at
kind_at-rank = elim [
  | TooLong ↦ refl
  | BadByte ↦ refl
  | BadNumber ↦ refl
  | Unexpected ↦ refl
  | TooDeep ↦ refl
  | TooManyNames ↦ refl
  | OverLimit ↦ refl
  | NoMemory ↦ refl
]

rank_same : (kind other : FaultKind) → rank kind ≡ rank other → kind ≡ other
rank_same kind other e = sym (kind_at-rank kind) ∙ ap kind_at e ∙ kind_at-rank other

three_ways : (m n : ℕ) → (m < n) ⊎ (n < m) ⊎ (m ≡ n)
three_ways m n = grind arith

one_kind : (before : List Token) (next : Lexeme) (kind other : FaultKind) → IsFaultOf before next kind → IsFaultOf before next other → kind ≡ other
one_kind before next kind other f g =
    ⊎_elim
    (λ below. absurd (g.first kind below f.has))
    (⊎_elim (λ above. absurd (f.first other above g.has)) (λ same. rank_same kind other same))
    (three_ways (rank kind) (rank other))

-- ---- one answer of lexemes

-- faultless lexemes are the tokens that they are
same_tokens : (before : List Token) (lexemes : List Located) (tokens others : List Token) →
    AreFaultless before lexemes tokens → AreFaultless before lexemes others → tokens ≡ others
same_tokens before [] tokens others a b = a ∙ sym b
same_tokens before (next ∷ lexemes) [] others a b = absurd a
same_tokens before (next ∷ lexemes) (t ∷ tokens) [] a b = absurd b
same_tokens before (next ∷ lexemes) (t ∷ tokens) (u ∷ others) a b =
    let same : t ≡ u = token_same (sym a.0 ∙ b.0) in
    let rest = subst (λ v. AreFaultless (before ++ v ∷ []) lexemes others) (sym same) b.2 in
    ap₂ ◌∷◌ same (same_tokens (before ++ t ∷ []) lexemes tokens others a.2 rest)

-- and among them is no fault
pub no_fault : (before : List Token) (lexemes : List Located) (tokens : List Token) (place : Place) (kind : FaultKind) →
    AreFaultless before lexemes tokens → IsFirstFault before lexemes place kind → ⊥
no_fault before [] tokens place kind a f = f
no_fault before (next ∷ lexemes) [] place kind a f = a
no_fault before (next ∷ lexemes) (t ∷ tokens) place kind a (inl here) =
    a.1 kind (subst (λ found. HasFault kind before found) a.0 (here.0).has)
no_fault before (next ∷ lexemes) (t ∷ tokens) place kind a (inr later) =
    let same : t ≡ later.0 = token_same (sym a.0 ∙ later.1) in
    no_fault (before ++ t ∷ []) lexemes tokens place kind a.2 (subst (λ v. IsFirstFault (before ++ v ∷ []) lexemes place kind) (sym same) later.3)

-- what has no fault is not the first that has one
passed_over : (before : List Token) (next : Located) (t : Token) (kind : FaultKind) →
    next.lexeme ≡ token t → IsFaultless before (token t) → IsFaultOf before next.lexeme kind → ⊥
passed_over before next t kind e faultless f = faultless kind (subst (λ found. HasFault kind before found) e f.has)

one_fault : (before : List Token) (lexemes : List Located) (place own : Place) (kind other : FaultKind) →
    IsFirstFault before lexemes place kind → IsFirstFault before lexemes own other → (place ≡ own) × (kind ≡ other)
one_fault before [] place own kind other f g = absurd f
one_fault before (next ∷ lexemes) place own kind other (inl here) (inl there) =
    (here.1 ∙ sym there.1, one_kind before next.lexeme kind other here.0 there.0)
one_fault before (next ∷ lexemes) place own kind other (inl here) (inr later) =
    absurd (passed_over before next later.0 kind later.1 later.2 here.0)
one_fault before (next ∷ lexemes) place own kind other (inr later) (inl there) =
    absurd (passed_over before next later.0 other later.1 later.2 there.0)
one_fault before (next ∷ lexemes) place own kind other (inr later) (inr past) =
    let same : later.0 ≡ past.0 = token_same (sym later.1 ∙ past.1) in
    one_fault (before ++ later.0 ∷ []) lexemes place own kind other later.3 (subst (λ v. IsFirstFault (before ++ v ∷ []) lexemes own other) (sym same) past.3)

-- ---- one answer of a text

one_of_lexemes : (all : List Located) (p q : NamedTree) → HasProgram all p → HasProgram all q → p ≡ q
one_of_lexemes all p q a b =
    let tokens : b.tokens ≡ a.tokens = same_tokens [] all b.tokens a.tokens b.faultless a.faultless in
    one_program a.tokens p q a.parsed (subst (λ all. IsNamedProgram q all) tokens b.parsed)

pub one_text : (text : List ℕ) (all others : List Located) (p q : NamedTree) → IsNamed text all p → IsNamed text others q → p ≡ q
one_text text all others p q a b =
    one_of_lexemes all p q a.are (subst (λ lexemes. HasProgram lexemes q) (unique b.lexed a.lexed) b.are)

pub not_both : (text : List ℕ) (all : List Located) (p : NamedTree) (place : Place) (kind : FaultKind) → IsNamed text all p → HasFirstFault text place kind → ⊥
not_both text all p place kind a (inl long) = omega (arith, a.fits, long.0)
not_both text all p place kind a (inr short) =
    no_fault [] all a.are.tokens place kind a.are.faultless (subst (λ lexemes. IsFirstFault [] lexemes place kind) (unique short.2 a.lexed) short.3)

pub one_first_fault : (text : List ℕ) (place own : Place) (kind other : FaultKind) → HasFirstFault text place kind → HasFirstFault text own other →
    (place ≡ own) × (kind ≡ other)
one_first_fault text place own kind other (inl long) (inl too) = (long.1 ∙ sym too.1, long.2 ∙ sym too.2)
one_first_fault text place own kind other (inl long) (inr short) = absurd (omega (arith, long.0, short.0))
one_first_fault text place own kind other (inr short) (inl long) = absurd (omega (arith, long.0, short.0))
one_first_fault text place own kind other (inr short) (inr too) =
    one_fault [] short.1 place own kind other short.3 (subst (λ all. IsFirstFault [] all own other) (unique too.2 short.2) too.3)

pub of_program : (text : List ℕ) (r : Result Parsed TextFault) →
    IfOk r (λ p. IsNamed text (map located_of p.tokens.items) (program_of p.program)) →
    IfErr r (λ e. (e.kind ≡ NoMemory) ⊎ HasFirstFault text (place_of e.place) e.kind) →
    (all : List Located) (p : NamedTree) → IsNamed text all p → MatchResult r (λ found. program_of found.program ≡ p) (λ e. e.kind ≡ NoMemory)
of_program text (Ok found) ok err all p a = one_text text (map located_of found.tokens.items) all (program_of found.program) p ok a
of_program text (Err e) ok err all p a = ⊎_elim (λ m. m) (λ f. absurd (not_both text all p (place_of e.place) e.kind a f)) err

pub of_fault : (text : List ℕ) (r : Result Parsed TextFault) →
    IfOk r (λ p. IsNamed text (map located_of p.tokens.items) (program_of p.program)) →
    IfErr r (λ e. (e.kind ≡ NoMemory) ⊎ HasFirstFault text (place_of e.place) e.kind) →
    (place : Place) (kind : FaultKind) → HasFirstFault text place kind →
    MatchResult r (λ _. ⊥) (λ e. (e.kind ≡ NoMemory) ⊎ ((place_of e.place ≡ place) × (e.kind ≡ kind)))
of_fault text (Ok found) ok err place kind f = not_both text (map located_of found.tokens.items) (program_of found.program) place kind ok f
of_fault text (Err e) ok err place kind f = ⊎_elim inl (λ g. inr (one_first_fault text (place_of e.place) place e.kind kind g f)) err
