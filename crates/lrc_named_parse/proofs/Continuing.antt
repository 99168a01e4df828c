-- An expression goes on where it cannot end, and where the next token does not end it.
use Rattle.std.proofs.Common.{◌≡◌, Bool, true, false, List, Option, Some, None, is_some, refl}
use Rattle.lrc_named_tree.specs.Tree.{Expression, Declaration}
use Rattle.lrc_named_expression.specs.Partial.{Partial}
use Rattle.lrc_named_parse.specs.State.{Purpose, continued, expressed_or_continued}

pub cannot_end : (before : List Declaration) (purpose : Purpose) (value : Option Expression) (is : Bool) (next : Option Partial) →
    is_some value ≡ false → expressed_or_continued before purpose value is next ≡ continued before purpose next
cannot_end before purpose None true next e = refl
cannot_end before purpose None false next e = refl
cannot_end before purpose (Some v) is next e = absurd (cc)

pub does_not_end : (before : List Declaration) (purpose : Purpose) (value : Option Expression) (is : Bool) (next : Option Partial) →
    is ≡ false → expressed_or_continued before purpose value is next ≡ continued before purpose next
does_not_end before purpose None true next e = absurd (cc)
does_not_end before purpose None false next e = refl
does_not_end before purpose (Some v) true next e = absurd (cc)
does_not_end before purpose (Some v) false next e = refl
