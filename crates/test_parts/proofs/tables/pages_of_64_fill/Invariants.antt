use Rattle.std.proofs.Common.{◌≡◌, length}
use Rattle.lrc_page.specs.declared.size.Size.TheVariants.{Words64}
use Rattle.test_parts.proofs.tables.pages_of_64_fill.Given as goal

abbrev pub invariant-loop-word : goal.invariant-loop-word
invariant-loop-word l = (l.table.size ≡ Words64) × (length l.table.copies ≡ 1024)
