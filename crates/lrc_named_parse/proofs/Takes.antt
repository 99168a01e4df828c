-- Whether a token can stand in an expression or end it, and in the statements or end them.
use Rattle.std.proofs.Common.{◌≡◌, ℕ, Bool, true, false, List, [], ◌∷◌, Option, Some, None, is_some, refl, sym}
use Rattle.std.specs.Prelude.{◌&&◌, ◌||◌}
use Rattle.lrc_named_tokens.specs.declared.token.Token as code_token
use Rattle.lrc_named_tokens.specs.declared.token.Token.TheVariants as codes
use Rattle.lrc_named_tokens.specs.Token.{Token, number, name, keyword, sign, finish}
use Rattle.lrc_named_tokens.specs.View.{token_of}
use Rattle.lrc_named_tree.specs.Tree.{Expression, Block, Declaration}
use Rattle.lrc_named_expression.specs.Partial.{Partial}
use Rattle.lrc_named_statement.specs.Body.{Body, body_with, whole_of}
use Rattle.lrc_named_parse.specs.State as state
use Rattle.lrc_named_parse.specs.State.{Purpose, continued, expressed, expressed_or_continued, stated, finished, go_on}

expressed_some : (before : List Declaration) (purpose : Purpose) (value : Expression) → is_some (expressed before purpose value) ≡ true
expressed_some before (state.value_of_constant first own) value = refl
expressed_some before (state.size_of items own sizes) value = refl
expressed_some before (state.body_of first own parameters) value = refl

continued_some : (before : List Declaration) (purpose : Purpose) (next : Option Partial) → is_some (continued before purpose next) ≡ is_some next
continued_some before purpose None = refl
continued_some before purpose (Some x) = refl

pub ends_or_goes_on : (before : List Declaration) (purpose : Purpose) (value : Option Expression) (is : Bool) (next : Option Partial) →
    ((is_some value && is) || is_some next) ≡ is_some (expressed_or_continued before purpose value is next)
ends_or_goes_on before purpose (Some v) true next = sym (expressed_some before purpose v)
ends_or_goes_on before purpose (Some v) false next = sym (continued_some before purpose next)
ends_or_goes_on before purpose None true next = sym (continued_some before purpose next)
ends_or_goes_on before purpose None false next = sym (continued_some before purpose next)

pub stated_some : (before : List Declaration) (next : Option Body) → is_some (stated before next) ≡ is_some next
stated_some before None = refl
stated_some before (Some b) = refl

finished_some : (before : List Declaration) (found : Option Block) → is_some (finished before found) ≡ is_some found
finished_some before None = refl
finished_some before (Some b) = refl

pub statements_end : (before : List Declaration) (b : Body) (i : ℕ) → is_some (whole_of b) ≡ is_some (go_on before b i finish)
statements_end before b i = sym (finished_some before (whole_of b))

pub statements_go_on : (before : List Declaration) (b : Body) (i : ℕ) (t : code_token.Token) → (t ≡ codes.End → ⊥) →
    is_some (body_with b i (token_of t)) ≡ is_some (go_on before b i (token_of t))
statements_go_on before b i (codes.Number n) other = sym (stated_some before (body_with b i (number n)))
statements_go_on before b i (codes.Name bytes) other = sym (stated_some before (body_with b i (name bytes.now)))
statements_go_on before b i (codes.Keyword word) other = sym (stated_some before (body_with b i (keyword word)))
statements_go_on before b i (codes.Sign mark) other = sym (stated_some before (body_with b i (sign mark)))
statements_go_on before b i codes.End other = absurd (other refl)
