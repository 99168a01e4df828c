-- The parser's values as the definitions see them, without where they lie in memory.
use Rattle.std.specs.Prelude.{◌≡◌, map, reverse, Option, Some, None, option_map, Result, Ok, Err}
use Rattle.lrc_lang.specs.declared.fault.FaultKind.{FaultKind}
use Rattle.lrc_lang.specs.declared.fault.FaultKind.TheVariants as kinds
use Rattle.lrc_lang.specs.declared.symbol.Symbol as code_symbol
use Rattle.lrc_lang.specs.declared.symbol.Symbol.TheVariants as code_symbols
use Rattle.lrc_lang.specs.declared.partial.Joins as code_joins
use Rattle.lrc_lang.specs.declared.partial.Joins.TheVariants as code_joinings
use Rattle.lrc_lang.specs.declared.partial.Pending as code_pending
use Rattle.lrc_lang.specs.declared.partial.Level as code_level
use Rattle.lrc_lang.specs.declared.partial.Partial as code_partial
use Rattle.lrc_lang.specs.Symbol.{Symbol, number, name, operator, keyword, sign, finish}
use Rattle.lrc_program.specs.Tree.{expression_of}
use Rattle.lrc_lang.specs.Grammar.{Joins, factors, terms, sums}
use Rattle.lrc_lang.specs.Parser.Partial.{Pending, Level, Partial}

abbrev pub symbol_seen : code_symbol.Symbol → Symbol
symbol_seen (code_symbols.Number n) = number n
symbol_seen (code_symbols.Name k) = name k
symbol_seen (code_symbols.Operator o) = operator o
symbol_seen (code_symbols.Keyword word) = keyword word
symbol_seen (code_symbols.Sign mark) = sign mark
symbol_seen code_symbols.End = finish

abbrev pub joins_seen : code_joins.Joins → Joins
joins_seen code_joinings.Factors = factors
joins_seen code_joinings.Terms = terms
joins_seen code_joinings.Sums = sums

abbrev pub pending_seen : code_pending.Pending → Pending
pending_seen p = record { left = expression_of p.left; operator = p.operator }

abbrev pub level_seen : code_level.Level → Level
level_seen l = record {
  compared = option_map pending_seen l.compared;
  added = option_map pending_seen l.added;
  multiplied = option_map pending_seen l.multiplied;
}

abbrev pub partial_seen : code_partial.Partial → Partial
partial_seen x = record {
  outer = reverse (map level_seen x.outer.items);
  level = level_seen x.level;
  operand = option_map expression_of x.operand;
}

-- what came out where the next symbol was taken: what the definitions make of it, or that it cannot stand there, or no
-- memory
abbrev pub Fails : {B : Type 0} → FaultKind → Option B → Type 0
Fails kinds.Unexpected next = next ≡ None
Fails kinds.NoMemory next = Unit {0}
Fails _ next = ⊥

abbrev pub Gives : {A B : Type 0} → (A → B) → Result A FaultKind → Option B → Type 0
Gives seen (Ok x) next = next ≡ Some (seen x)
Gives seen (Err kind) next = Fails kind next

abbrev pub GivesNew : {B : Type 0} → Result (Unit {0}) FaultKind → B → Option B → Type 0
GivesNew (Ok x) new next = next ≡ Some new
GivesNew (Err kind) new next = Fails kind next
