-- The text of a core that keeps the limits has no fault.
use Rattle.std.proofs.Common.{◌≡◌, ◌⊎◌, inl, inr, ℕ, ◌+◌, ◌<◌, ◌≤◌, Bool, true, false, Some, None, List, [], ◌∷◌, ◌++◌, length, map, refl, sym, ap, subst, arith, ◌∙◌}
use Rattle.std.specs.Prelude.{if◌then◌else◌}
use Rattle.std.specs.List.{AllByRecursion}
use Rattle.std.proofs.lemmas.List.{append_assoc, length-append}
use Rattle.lrc_lang.specs.Counts.{IsNameTooMany, IsOperatorTooMany, IsTooDeep, last_of, names_of, open_of, open_with, operators_of, operators_with}
use Rattle.lrc_lang.specs.Faults.{AreFaultless, HasFault, IsFaultless, IsNumberOutOfRange, IsText}
use Rattle.lrc_lang.specs.Grammar.{IsProgram}
use Rattle.lrc_lang.specs.Symbol.{Names, is_among, names_with, symbol_of}
use Rattle.lrc_lang.specs.Token.{Placed, Token, finish, keyword, name, number, sign, token}
use Rattle.lrc_program.specs.Tree.{ProgramTree}
use Rattle.lrc_lang.specs.declared.fault.FaultKind.{FaultKind}
use Rattle.lrc_lang.specs.declared.fault.FaultKind.TheVariants as kinds
use Rattle.lrc_lang.proofs.Reaching.{fold-append}
use Rattle.lrc_named_core.specs.Tree.{Block}
use Rattle.lrc_named_limits.specs.Limits.{IsOverInBlock}
use Rattle.lrc_named_limits.specs.declared.excess.Excess.{Excess}
use Rattle.lrc_named_names.specs.Names.{Declared}
use Rattle.lrc_named_text.specs.Statements.{core_text}
use Rattle.lrc_named_text_laws.specs.Named.{with_statements}
use Rattle.lrc_named_text_laws.specs.Spelled.{AreLabelled, AreSpelled, Fits}
use Rattle.lrc_named_text_laws.proofs.Numbering.{all_names, block_names}
use Rattle.lrc_named_text_laws.proofs.Reading.{head_same, parsed, same_token, tail_same, tree_of}
use Rattle.lrc_named_text_laws.proofs.Texts.{core_stands}
use Rattle.lrc_named_text_laws.proofs.Tokens.{program_tokens}
use Rattle.lrc_named_text_laws.proofs.Within.{Fine, program_fine}

-- ---- names

abbrev Few : Names → List Token → Type 0
Few names [] = Unit {0}
Few names (t ∷ ts) = (IsNameTooMany names t → ⊥) × Few (names_with names t) ts

pushed : (names : Names) (bytes : List ℕ) (b : Bool) → length names ≤ length (if b then names else names ++ bytes ∷ [])
pushed names bytes true = omega arith
pushed names bytes false = let l = length-append names (bytes ∷ []) in omega (arith, l)

one_more : (names : Names) (t : Token) → length names ≤ length (names_with names t)
one_more names (number n) = omega arith
one_more names (name bytes) = pushed names bytes (is_among names bytes)
one_more names (keyword which) = omega arith
one_more names (sign mark) = omega arith
one_more names finish = omega arith

more : (ts : List Token) (names : Names) → length names ≤ length (all_names names ts)
more [] names = omega arith
more (t ∷ ts) names = let one = one_more names t in let others = more ts (names_with names t) in omega (arith, one, others)

too_many : (ts : List Token) (names : Names) (t : Token) → length (all_names (names_with names t) ts) ≤ 32 → IsNameTooMany names t → ⊥
too_many ts names (number n) small h = h
too_many ts names (name bytes) small h = by (is_among names bytes) h.0 (more ts (names_with names (name bytes)))
  where
    by : (b : Bool) → b ≡ false → length (if b then names else names ++ bytes ∷ []) ≤ length (all_names (names_with names (name bytes)) ts) → ⊥
    by true off others = absurd (cc)
    by false off others = let l = length-append names (bytes ∷ []) in omega (arith, l, others, small, h.1)
too_many ts names (keyword which) small h = h
too_many ts names (sign mark) small h = h
too_many ts names finish small h = h

few_names : (ts : List Token) (names : Names) → length (all_names names ts) ≤ 32 → Few names ts
few_names [] names small = tt
few_names (t ∷ ts) names small = (λ h. too_many ts names t small h, few_names ts (names_with names t) small)

-- ---- faults

one_faultless : (p : ProgramTree) (before : List Token) (t : Token) (ts : List Token) → IsProgram p (before ++ t ∷ ts) → (IsTooDeep (open_of before) t → ⊥)
    → (IsOperatorTooMany (operators_of before) t → ⊥) → (IsNumberOutOfRange (last_of before) t → ⊥) → (IsNameTooMany (names_of before) t → ⊥)
    → (kind : FaultKind) → HasFault kind before (token t) → ⊥
one_faultless p before t ts parsed deep many range few kinds.TooLong h = h
one_faultless p before t ts parsed deep many range few kinds.BadByte h = h
one_faultless p before t ts parsed deep many range few kinds.BadNumber h = h
one_faultless p before t ts parsed deep many range few kinds.Unexpected h = h ts p parsed
one_faultless p before t ts parsed deep many range few kinds.TooDeep h = deep h
one_faultless p before t ts parsed deep many range few kinds.TooManyNames h = few h
one_faultless p before t ts parsed deep many range few kinds.OverLimit (inl h) = range h
one_faultless p before t ts parsed deep many range few kinds.OverLimit (inr h) = many h
one_faultless p before t ts parsed deep many range few kinds.NoMemory h = h

all_faultless : (p : ProgramTree) (before : List Token) (lexemes : List Placed) (ts : List Token) → map (λ (q : Placed). q.lexeme) lexemes ≡ map token ts
    → IsProgram p (before ++ ts) → Fine (open_of before) (operators_of before) (last_of before) ts → Few (names_of before) ts → AreFaultless before lexemes ts
all_faultless p before [] [] is parsed fine few = refl
all_faultless p before [] (t ∷ ts) is parsed fine few = absurd (cc)
all_faultless p before (q ∷ lexemes) [] is parsed fine few = absurd (cc)
all_faultless p before (q ∷ lexemes) (t ∷ ts) is parsed fine few =
    let now = before ++ t ∷ [] in (
      head_same is,
      one_faultless p before t ts parsed fine.0 fine.1 fine.2 few.0,
      all_faultless p now lexemes ts (tail_same is) (subst (IsProgram p) (sym (append_assoc before (t ∷ []) ts)) parsed)
          (subst (λ d. Fine d (operators_of now) (last_of now) ts) (sym (fold-append open_with 0 before (t ∷ [])))
          (subst (λ c. Fine (open_with (open_of before) t) c (last_of now) ts)
          (sym (fold-append (λ count t. operators_with count (symbol_of [] t)) 0 before (t ∷ [])))
          (subst (λ l. Fine (open_with (open_of before) t) (operators_with (operators_of before) (symbol_of [] t)) l ts)
          (sym (fold-append (λ _ t. Some t) None before (t ∷ []))) fine.3)))
          (subst (λ n. Few n ts) (sym (fold-append names_with [] before (t ∷ []))) few.1),
    )

-- ---- the whole text

pub is_text : (words locks privates : ℕ) (declared : List Declared) (lines : List ℕ) (statements : Block)
    → 1 ≤ words → words ≤ 65536 → locks ≤ 64 → AreLabelled declared → AllByRecursion Fits lines → AreSpelled statements
    → ((x : Excess) → IsOverInBlock privates 0 statements x → ⊥) → length (with_statements [] statements) ≤ 32
    → length (core_text words locks declared lines statements) ≤ 65536
    → IsText (core_text words locks declared lines statements) (tree_of words locks statements)
is_text words locks privates declared lines statements some few_words few_locks labelled fit spelled none few fits =
    let (all, lexed, lexemes_are) = (core_stands words locks declared lines statements (omega (arith, few_words)) (omega (arith, few_locks)) labelled fit spelled).on 1 in
    let ts = program_tokens words locks statements in
    let all_is : all_names [] ts ≡ with_statements [] statements = block_names statements [] (finish ∷ []) in
    record {
      fits = fits;
      lexemes = all;
      lexed = lexed;
      tokens = ts;
      faultless = all_faultless (tree_of words locks statements) [] all ts lexemes_are (parsed words locks statements)
          (program_fine words locks privates statements some few_words few_locks none)
          (few_names ts [] (subst (λ n. length n ≤ 32) (sym all_is) few));
      parsed = parsed words locks statements;
    }
