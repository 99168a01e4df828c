use Rattle.std.proofs.Common.{◌<◌, All}
use Rattle.test_parts.proofs.stores.pages_of.Given as goal

abbrev pub invariant-loop-page : goal.invariant-loop-page
invariant-loop-page l = All (λ page. page < l.limit) l.pages
