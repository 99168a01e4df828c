-- Whether the parser takes a symbol, from its answers of parts.
use Rattle.std.proofs.Common.{◌≡◌, Bool, true, false, List, is_some, refl, sym, ap, ◌∙◌}
use Rattle.lrc_lang.specs.declared.symbol.Symbol as code_symbol
use Rattle.lrc_lang.specs.declared.symbol.Symbol.TheVariants as codes
use Rattle.lrc_lang.specs.declared.token.Keyword.TheVariants as keywords
use Rattle.lrc_lang.specs.Symbol.{Symbol, keyword}
use Rattle.lrc_program.specs.Tree.{Block, Expression, if_else, empty}
use Rattle.lrc_lang.specs.Parser.Body.{Around, begin, behind_then, body_with, push, whole_of}
use Rattle.lrc_lang.specs.Parser.Seen.{symbol_seen}
use Rattle.lrc_lang.specs.Parser.State.{ParserState, in_statements}
use Rattle.lrc_lang.proofs.MayStand.{some_kept}

pub then_else : (outer : List Around) (before first : Block) (condition : Expression) (symbol : Symbol) → symbol ≡ keyword keywords.Else
    → true ≡ is_some (behind_then outer before condition first symbol)
then_else outer before first condition symbol e = rw e refl

pub then_other : (outer : List Around) (before first : Block) (condition : Expression) (symbol : Symbol) → (symbol ≡ keyword keywords.Else → ⊥)
    → is_some (behind_then outer before condition first symbol) ≡ is_some (begin outer (push before (if_else condition first empty)) symbol)
then_other outer before first condition (keyword keywords.Else) other = absurd (other refl)
then_other outer before first condition _ other = refl

pub statements_end : (s : ParserState) → is_some (whole_of s.body) ≡ is_some (in_statements s Symbol.finish)
statements_end s = sym (some_kept (whole_of s.body) _)

pub statements_go_on : (s : ParserState) (symbol : code_symbol.Symbol) → (symbol ≡ codes.End → ⊥)
    → is_some (body_with s.body (symbol_seen symbol)) ≡ is_some (in_statements s (symbol_seen symbol))
statements_go_on s (codes.Number n) other = sym (some_kept (body_with s.body (Symbol.number n)) _)
statements_go_on s (codes.Name k) other = sym (some_kept (body_with s.body (Symbol.name k)) _)
statements_go_on s (codes.Operator o) other = sym (some_kept (body_with s.body (Symbol.operator o)) _)
statements_go_on s (codes.Keyword which) other = sym (some_kept (body_with s.body (Symbol.keyword which)) _)
statements_go_on s (codes.Sign mark) other = sym (some_kept (body_with s.body (Symbol.sign mark)) _)
statements_go_on s codes.End other = absurd (other refl)
