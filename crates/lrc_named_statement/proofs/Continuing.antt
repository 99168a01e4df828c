-- An expression goes on where it cannot end, and where the next token does not end it.
use Rattle.std.proofs.Common.{◌≡◌, Bool, true, false, List, Option, Some, None, is_some, refl}
use Rattle.lrc_named_tokens.specs.Token.{Token}
use Rattle.lrc_named_tree.specs.Tree.{Expression, Block}
use Rattle.lrc_named_expression.specs.Partial.{Partial}
use Rattle.lrc_named_statement.specs.Body.{Around, Purpose, continued, ended_or_continued}

pub cannot_end : (outer : List Around) (before : Block) (purpose : Purpose) (value : Option Expression) (is : Bool) (next : Option Partial) (t : Token) →
    is_some value ≡ false → ended_or_continued outer before purpose value is next t ≡ continued outer before purpose next
cannot_end outer before purpose None true next t e = refl
cannot_end outer before purpose None false next t e = refl
cannot_end outer before purpose (Some v) is next t e = absurd (cc)

pub does_not_end : (outer : List Around) (before : Block) (purpose : Purpose) (value : Option Expression) (is : Bool) (next : Option Partial) (t : Token) →
    is ≡ false → ended_or_continued outer before purpose value is next t ≡ continued outer before purpose next
does_not_end outer before purpose None true next t e = absurd (cc)
does_not_end outer before purpose None false next t e = refl
does_not_end outer before purpose (Some v) true next t e = absurd (cc)
does_not_end outer before purpose (Some v) false next t e = refl
