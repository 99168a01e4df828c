use Rattle.std.proofs.Common.{◌≡◌, None, map, take}
use Rattle.std.specs.Prelude.{if◌then◌else◌}
use Rattle.std.specs.List.{list_any}
use Rattle.std.specs.BTreeMap.{get}
use Rattle.lrc_text.specs.Each.{each}
use Rattle.lrc_labels.specs.Reading.{label_seen}
use Rattle.lrc_explain.specs.declared.site.Site.{Site}
use Rattle.lrc_explain.specs.Groups.{group_at, is_of_site}
use Rattle.lrc_explain.specs.Site.{site_cmp}
use Rattle.lrc_explain.proofs.groups.groups_part.Given as goal

-- the groups so far, and the counts of the others
abbrev pub invariant-loop-at : goal.invariant-loop-at
invariant-loop-at l = record {
  text : l.text.items ≡ each (λ at pair. group_at (map label_seen l.labels) l.acts l.lines l.pairs at pair) (take l.at l.pairs);
  left : (site : Site) → get site_cmp l.counts site
      ≡ (if list_any (is_of_site l.acts l.lines site) (take l.at l.pairs) then None else get site_cmp l.initial.counts site);
}
