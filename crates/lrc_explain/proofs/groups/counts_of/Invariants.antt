use Rattle.std.proofs.Common.{◌≡◌, take}
use Rattle.std.specs.Prelude.{count_by, unwrap_or}
use Rattle.std.specs.BTreeMap.{get}
use Rattle.lrc_explain.specs.declared.site.Site.{Site}
use Rattle.lrc_explain.specs.Groups.{is_of_site}
use Rattle.lrc_explain.specs.Site.{site_cmp}
use Rattle.lrc_explain.proofs.groups.counts_of.Given as goal

-- the counts of the pairs so far
abbrev pub invariant-loop-at : goal.invariant-loop-at
invariant-loop-at l =
    (site : Site) → unwrap_or (get site_cmp l.counts site) 0 ≡ count_by (is_of_site l.acts l.lines site) (take l.at l.pairs)
