-- The parser's statements as the definitions see them, without where they lie in memory.
use Rattle.std.specs.Prelude.{◌≡◌, List, map, reverse, Option, Result, Ok, Err}
use Rattle.lrc_lang.specs.declared.token.Sign.{Sign}
use Rattle.lrc_lang.specs.declared.fault.FaultKind.{FaultKind}
use Rattle.lrc_lang.specs.declared.fault.FaultKind.TheVariants.{Unexpected}
use Rattle.lrc_lang.specs.declared.body.Purpose as code_purpose
use Rattle.lrc_lang.specs.declared.body.Purpose.TheVariants as code_purposes
use Rattle.lrc_lang.specs.declared.body.Place as code_place
use Rattle.lrc_lang.specs.declared.body.Place.TheVariants as code_places
use Rattle.lrc_lang.specs.declared.body.Owner as code_owner
use Rattle.lrc_lang.specs.declared.body.Owner.TheVariants as code_owners
use Rattle.lrc_lang.specs.declared.body.Around as code_around
use Rattle.lrc_lang.specs.declared.body.Body as code_body
use Rattle.lrc_lang.specs.Symbol.{Symbol, sign}
use Rattle.lrc_program.specs.Tree.{Block, expression_of, statement_of, block_of}
use Rattle.lrc_lang.specs.Parser.Partial.{Partial}
use Rattle.lrc_lang.specs.Parser.Seen.{partial_seen, GivesNew}
use Rattle.lrc_lang.specs.Parser.Body.{Purpose, assigned, word_read, word_written, written, acquired, released, printed}
use Rattle.lrc_lang.specs.Parser.Body.{if_condition, while_condition, Place, at_statement, after_name, after_equals, in_expression}
use Rattle.lrc_lang.specs.Parser.Body.{after_word, before_end, after_then, after_else, Owner, then_of, else_of, inside_of, Around}
use Rattle.lrc_lang.specs.Parser.Body.{Body}

abbrev pub purpose_seen : code_purpose.Purpose → Purpose
purpose_seen (code_purposes.Assigned k) = assigned k
purpose_seen (code_purposes.WordRead k) = word_read k
purpose_seen code_purposes.WordWritten = word_written
purpose_seen (code_purposes.Written w) = written (expression_of w)
purpose_seen code_purposes.Acquired = acquired
purpose_seen code_purposes.Released = released
purpose_seen code_purposes.Printed = printed
purpose_seen code_purposes.IfCondition = if_condition
purpose_seen code_purposes.WhileCondition = while_condition

-- with the expression that has come so far
abbrev pub place_seen : code_place.Place → Partial → Place
place_seen code_places.AtStatement x = at_statement
place_seen (code_places.AfterName k) x = after_name k
place_seen (code_places.AfterEquals k) x = after_equals k
place_seen (code_places.InExpression purpose) x = in_expression (purpose_seen purpose) x
place_seen (code_places.AfterWord w) x = after_word (expression_of w)
place_seen (code_places.BeforeEnd s) x = before_end (statement_of s)
place_seen (code_places.AfterThen condition first) x = after_then (expression_of condition) (block_of first.items)
place_seen (code_places.AfterElse condition first) x = after_else (expression_of condition) (block_of first.items)

abbrev pub owner_seen : code_owner.Owner → Owner
owner_seen (code_owners.Then condition) = then_of (expression_of condition)
owner_seen (code_owners.Else condition first) = else_of (expression_of condition) (block_of first.items)
owner_seen (code_owners.Inside condition) = inside_of (expression_of condition)

abbrev pub around_seen : code_around.Around → Around
around_seen a = record { before = block_of a.before.items; owner = owner_seen a.owner }

abbrev pub outer_seen : code_body.Body → List Around
outer_seen b = reverse (map around_seen b.outer.items)

abbrev pub before_seen : code_body.Body → Block
before_seen b = block_of b.before.items

abbrev pub body_seen : code_body.Body → Body
body_seen b = record { outer = outer_seen b; before = before_seen b; place = place_seen b.place (partial_seen b.expression) }

-- the symbol is this sign, or it is unexpected
abbrev pub IsExpected : Result (Unit {0}) FaultKind → Symbol → Sign → Type 0
IsExpected (Ok x) symbol wanted = symbol ≡ sign wanted
IsExpected (Err kind) symbol wanted = (kind ≡ Unexpected) × (symbol ≡ sign wanted → ⊥)

-- what came out where the statements that have come, old, were to become what this step makes of them
abbrev pub Steps : Result (Unit {0}) FaultKind → code_body.Body → code_body.Body → (List Around → Block → Option Body) → Type 0
Steps result old new step = GivesNew result (body_seen new) (step (outer_seen old) (before_seen old))
