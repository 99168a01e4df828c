-- What is told of a program, from what was found; and how many tokens a text has.
use Rattle.std.proofs.Common.{◌≡◌, ◌<◌, ◌≤◌, ◌+◌, inl, ◌∙◌, ℕ, List, [], ◌∷◌, ◌++◌, length, map, ap, subst, arith, length-append}
use Rattle.std.specs.Prelude.{IsPermutation, IsSortedByKey}
use Rattle.std.proofs.lemmas.List.{length-map}
use Rattle.lrc_lang.specs.declared.positions.Located as code_located
use Rattle.lrc_lang.specs.declared.token.Token as code_token
use Rattle.lrc_lang.specs.declared.token.Sign.{Sign}
use Rattle.lrc_lang.specs.declared.token.Sign.TheVariants as signs
use Rattle.lrc_lang.specs.Counts.{names_of}
use Rattle.lrc_lang.specs.Faults.{IsText}
use Rattle.lrc_lang.specs.Lexemes.{BeginsWith, IsLetter, IsLetterOrDigit, sign_text, Lexes, passes_blank, passes_line_feed, passes_comment, takes_number, takes_keyword}
use Rattle.lrc_lang.specs.Lexemes.{takes_name, takes_sign, stops_at_number, stops_at_byte, stops_at_end}
use Rattle.lrc_lang.specs.Parser.Located.{located_of}
use Rattle.lrc_lang.specs.Parser.View.{token_of}
use Rattle.lrc_lang.specs.Positions.{HasLocated, Located}
use Rattle.lrc_lang.specs.Token.{Token, Placed}
use Rattle.lrc_program.specs.Tree.{ProgramTree}
use Rattle.lrc_lang.proofs.LexemesSpans.{span_keeps, span_takes}
use Rattle.lrc_lang.proofs.Located.{lexed_located}
use Rattle.lrc_labels.specs.declared.label.IdleLabel.{IdleLabel}
use Rattle.lrc_labels.specs.Reading.{Label}
use Rattle.lrc_lint_warnings.specs.declared.warning.Spot.{Spot}
use Rattle.lrc_lint_warnings.specs.declared.warning.Warning.{Warning}
use Rattle.lrc_lint_warnings.specs.Collected.{found_in}
use Rattle.lrc_lint_warnings.specs.Order.{all_warnings, key_of, key_order}
use Rattle.lrc_lint.specs.Linted.{LintsProgram, labels_in, tokens_of, warned_lines, warnings_in}

-- ---- how many tokens there are

begins_word : (text : List ℕ) → BeginsWith IsLetter text → BeginsWith IsLetterOrDigit text
begins_word [] h = h
begins_word (byte ∷ rest) h = inl h

sign_has_bytes : (mark : Sign) → 1 ≤ length (sign_text mark)
sign_has_bytes signs.Semicolon = omega arith
sign_has_bytes signs.Assign = omega arith
sign_has_bytes signs.OpenBracket = omega arith
sign_has_bytes signs.CloseBracket = omega arith
sign_has_bytes signs.OpenBrace = omega arith
sign_has_bytes signs.CloseBrace = omega arith
sign_has_bytes signs.OpenParenthesis = omega arith
sign_has_bytes signs.CloseParenthesis = omega arith
sign_has_bytes signs.Plus = omega arith
sign_has_bytes signs.Minus = omega arith
sign_has_bytes signs.Star = omega arith
sign_has_bytes signs.Slash = omega arith
sign_has_bytes signs.Percent = omega arith
sign_has_bytes signs.Equal = omega arith
sign_has_bytes signs.NotEqual = omega arith
sign_has_bytes signs.Less = omega arith
sign_has_bytes signs.LessOrEqual = omega arith
sign_has_bytes signs.Greater = omega arith
sign_has_bytes signs.GreaterOrEqual = omega arith

-- each but the end has a byte of its own
few : {line : ℕ} {text : List ℕ} {all : List Placed} → Lexes line text all → length all ≤ length text + 1
few (passes_blank is inside) = omega (arith, few inside)
few (passes_line_feed is inside) = omega (arith, few inside)
few (passes_comment is span inside) = omega (arith, few inside, span_keeps span)
few (takes_number digits is inside) = omega (arith, few inside, span_takes digits.begins digits.span)
few {text = text} (takes_keyword word inside) = omega (arith, few inside, span_takes (begins_word text word.begins) word.span)
few {text = text} (takes_name word other inside) = omega (arith, few inside, span_takes (begins_word text word.begins) word.span)
few {text = text} (takes_sign {rest = rest} {mark = mark} is inside) =
    omega (arith, few inside, ap length is.whole, length-append (sign_text mark) rest, sign_has_bytes mark)
few (stops_at_number digits bad) = omega arith
few (stops_at_byte nothing) = omega arith
few stops_at_end = omega arith

pub few_tokens : (text : List ℕ) (xs : List code_located.Located) (tokens : List code_token.Token) → length text ≤ 65536 → HasLocated text (map located_of xs)
    → map token_of tokens ≡ tokens_of (map located_of xs) → length tokens < 2147483648
few_tokens text xs tokens fits are is =
    let many = few (lexed_located are) in
    let long = simp length-map at many in
    let same = simp length-map at (ap length is) in
    omega (arith, long, same, fits)

-- ---- what is told

pub these_are : (p : ProgramTree) (spots others : List Spot) (tokens same : List Token) (idle silent : List IdleLabel) (warned : List Warning) → spots ≡ others
    → tokens ≡ same → idle ≡ silent → IsPermutation (all_warnings spots (found_in p tokens) idle) warned
    → IsPermutation (all_warnings others (found_in p same) silent) warned
these_are p spots others tokens same idle silent warned s t i h =
    subst (λ l. IsPermutation (all_warnings others (found_in p same) l) warned) i
    (subst (λ l. IsPermutation (all_warnings others (found_in p l) idle) warned) t
    (subst (λ l. IsPermutation (all_warnings l (found_in p tokens) idle) warned) s h))

pub lines_are : (file printed old : List ℕ) (names others : List (List ℕ)) (labels said : List Label) (warned same : List Warning) → old ≡ [] → names ≡ others
    → labels ≡ said → warned ≡ same → printed ≡ old ++ warned_lines file names labels warned → printed ≡ warned_lines file others said same
lines_are file printed old names others labels said warned same o n l w is =
    is ∙ ap (λ front. front ++ warned_lines file names labels warned) o ∙ ap (λ x. warned_lines file x labels warned) n
    ∙ ap (λ x. warned_lines file others x warned) l ∙ ap (λ x. warned_lines file others said x) w

pub told : (file text printed : List ℕ) (p : ProgramTree) (all : List Located) (warned : List Warning) → IsText text p → HasLocated text all
    → IsPermutation (warnings_in p text all) warned → IsSortedByKey key_of key_order warned
    → printed ≡ warned_lines file (names_of (tokens_of all)) (labels_in p text) warned → LintsProgram file text printed
told file text printed p all warned is_program are these sorted is = record {
  program = p;
  is_program = is_program;
  all = all;
  are = are;
  warnings = warned;
  these = these;
  sorted = sorted;
  is = is;
}
