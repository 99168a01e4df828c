use Rattle.std.proofs.Common.{◌≡◌, length}
use Rattle.test_parts.proofs.large_stores.fill.Given as goal

abbrev pub invariant-loop-place : goal.invariant-loop-place
invariant-loop-place l = (length l.store.last ≡ 16) × (l.store.pages ≡ 1024)
