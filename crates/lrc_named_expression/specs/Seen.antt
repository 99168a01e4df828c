-- The parser's values as the definitions see them, without where they lie in memory.
use Rattle.std.specs.Prelude.{map, reverse, option_map}
use Rattle.lrc_named_tree.specs.View.{named_of, expression_of, expressions_of}
use Rattle.lrc_named_expression.specs.declared.link.Link as code_link
use Rattle.lrc_named_expression.specs.declared.link.Link.TheVariants as code_links
use Rattle.lrc_named_expression.specs.declared.level.Pending as code_pending
use Rattle.lrc_named_expression.specs.declared.level.Tests as code_tests
use Rattle.lrc_named_expression.specs.declared.level.Level as code_level
use Rattle.lrc_named_expression.specs.declared.partial.Opening as code_opening
use Rattle.lrc_named_expression.specs.declared.partial.Opening.TheVariants as code_openings
use Rattle.lrc_named_expression.specs.declared.partial.Around as code_around
use Rattle.lrc_named_expression.specs.declared.partial.Place as code_place
use Rattle.lrc_named_expression.specs.declared.partial.Place.TheVariants as code_places
use Rattle.lrc_named_expression.specs.declared.partial.Partial as code_partial
use Rattle.lrc_named_expression.specs.Link.{Link, factors, terms, sums, all_hold, one_holds}
use Rattle.lrc_named_expression.specs.Partial.{Pending, Tests, Level, Opening, group, argument, index, Around, Place, Partial}
use Rattle.lrc_named_expression.specs.Partial.{at_test, at_factor, after_name, after_index, after_call, after_operand}

abbrev pub link_seen : code_link.Link → Link
link_seen (code_links.Factors o) = factors o
link_seen (code_links.Terms o) = terms o
link_seen (code_links.Sums o) = sums o
link_seen code_links.AllHold = all_hold
link_seen code_links.OneHolds = one_holds

abbrev pub pending_seen : code_pending.Pending → Pending
pending_seen p = record { left = expression_of p.left; operator = p.operator }

abbrev pub tests_seen : code_tests.Tests → Tests
tests_seen t = record {
  either = option_map expression_of t.either;
  both = option_map expression_of t.both;
  negations = reverse t.negations.items;
}

abbrev pub level_seen : code_level.Level → Level
level_seen l = record {
  tests = tests_seen l.tests;
  compared = option_map pending_seen l.compared;
  added = option_map pending_seen l.added;
  multiplied = option_map pending_seen l.multiplied;
}

abbrev pub opening_seen : code_opening.Opening → Opening
opening_seen (code_openings.Group opens) = group opens
opening_seen (code_openings.Argument name others) = argument (named_of name) (expressions_of others.items)
opening_seen (code_openings.Index name others) = index (named_of name) (expressions_of others.items)

abbrev pub around_seen : code_around.Around → Around
around_seen a = record { opening = opening_seen a.opening; level = level_seen a.level }

abbrev pub place_seen : code_place.Place → Place
place_seen code_places.Test = at_test
place_seen code_places.Factor = at_factor
place_seen (code_places.AfterName name) = after_name (named_of name)
place_seen (code_places.AfterIndex name others last) = after_index (named_of name) (expressions_of others.items) last
place_seen (code_places.AfterCall name) = after_call (named_of name)
place_seen (code_places.AfterOperand operand) = after_operand (expression_of operand)

abbrev pub partial_seen : code_partial.Partial → Partial
partial_seen x = record {
  outer = reverse (map around_seen x.outer.items);
  level = level_seen x.level;
  place = place_seen x.place;
}
