-- The answer of a text, from that of its lexemes.
use Rattle.std.proofs.Common.{◌≡◌, ◌≤◌, ◌⊎◌, ℕ, List, [], length, map, Result, Ok, Err, IfOk, IfErr, sym, ap, subst, inl, inr, ⊎_elim}
use Rattle.lrc_lang.specs.declared.fault.FaultKind.TheVariants.{NoMemory}
use Rattle.lrc_named_tokens.specs.declared.token.Located as code_located
use Rattle.lrc_named_tokens.specs.Token.{Located}
use Rattle.lrc_named_tokens.specs.Lexemes.{HasLexemes}
use Rattle.lrc_named_tokens.specs.View.{located_of, place_of}
use Rattle.lrc_named_tree.specs.Tree.{NamedTree}
use Rattle.lrc_named_tree.specs.View.{program_of}
use Rattle.lrc_named_parse.specs.declared.parser.Parsed.{Parsed}
use Rattle.lrc_named_parse.specs.declared.parser.TextFault.{TextFault}
use Rattle.lrc_named_parse.specs.Faults.{HasProgram, IsFirstFault, IsNamed, HasFirstFault}

named : (text : List ℕ) (all found : List Located) (p : NamedTree) → length text ≤ 65536 → HasLexemes text all → found ≡ all → HasProgram all p → IsNamed text found p
named text all found p fits lexed same are = subst (λ lexemes. IsNamed text lexemes p) (sym same) (record { fits = fits; lexed = lexed; are = are })

pub program_answer : (text : List ℕ) (tokens : List code_located.Located) (r : Result Parsed TextFault) →
    length text ≤ 65536 → HasLexemes text (map located_of tokens) →
    IfOk r (λ p. p.tokens.items ≡ tokens) → IfOk r (λ p. HasProgram (map located_of tokens) (program_of p.program)) →
    IfOk r (λ p. IsNamed text (map located_of p.tokens.items) (program_of p.program))
program_answer text tokens (Ok p) fits lexed same are =
    named text (map located_of tokens) (map located_of p.tokens.items) (program_of p.program) fits lexed (ap (map located_of) same) are
program_answer text tokens (Err e) fits lexed same are = tt

pub fault_answer : (text : List ℕ) (tokens : List code_located.Located) (r : Result Parsed TextFault) →
    length text ≤ 65536 → HasLexemes text (map located_of tokens) →
    IfErr r (λ e. (e.kind ≡ NoMemory) ⊎ IsFirstFault [] (map located_of tokens) (place_of e.place) e.kind) →
    IfErr r (λ e. (e.kind ≡ NoMemory) ⊎ HasFirstFault text (place_of e.place) e.kind)
fault_answer text tokens (Ok p) fits lexed f = tt
fault_answer text tokens (Err e) fits lexed f = ⊎_elim inl (λ first. inr (inr (fits, map located_of tokens, lexed, first))) f
