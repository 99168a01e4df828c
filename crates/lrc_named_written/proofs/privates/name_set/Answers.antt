-- What a part sets.
use Rattle.std.proofs.Common.{◌≡◌, ◌≤◌, length, sym, ap, ◌∙◌, arith}
use Rattle.lrc_named_tree.specs.View.{named_of}
use Rattle.lrc_named_constants.specs.Well.{bytes_of}
use Rattle.lrc_named_statement_faults.specs.Parts.{part_seen}
use Rattle.lrc_named_statement_faults.specs.Statements.{set_in}
use Rattle.lrc_named_statement_faults.proofs.Names.{set_with, set_without}
use Rattle.lrc_named_written.proofs.privates.name_set.Goals as goal

pub returns-in-empty : goal.returns-in-empty
returns-in-empty c =
    let indices = c.in-Target.place.now.indices.items in
    let none : length c.as_slice.result.now ≡ 0 = omega arith in
    let none_there : length indices ≡ 0 = ap length (sym c.as_slice.ensures.value) ∙ none in
    ap (λ p. bytes_of (set_in (part_seen p))) c.in-Target.is ∙ ap bytes_of (set_without indices (named_of c.in-Target.place.now.name) none_there)

pub returns-in-len1-up : goal.returns-in-len1-up
returns-in-len1-up c =
    let indices = c.in-Target.place.now.indices.items in
    let same : length c.as_slice.result.now ≡ length indices = ap length c.as_slice.ensures.value in
    let some : 1 ≤ length indices = omega (arith, c.in-len1-up.len_at_least, same) in
    ap (λ p. bytes_of (set_in (part_seen p))) c.in-Target.is ∙ ap bytes_of (set_with indices (named_of c.in-Target.place.now.name) some)

pub returns-in-Counter : goal.returns-in-Counter
returns-in-Counter c = ap (λ p. bytes_of (set_in (part_seen p))) c.in-Counter.is
