use Rattle.std.proofs.Common.{◌≡◌, length}
use Rattle.lrc_page.specs.declared.size.Size.TheVariants.{Words256}
use Rattle.test_parts.proofs.tables.pages_of_256_fill.Given as goal

abbrev pub invariant-loop-word : goal.invariant-loop-word
invariant-loop-word l = (l.table.size ≡ Words256) × (length l.table.copies ≡ 256)
