-- Where the two acts of a racing pair stand, and whether they write.
use Rattle.std.specs.Prelude.{ℕ, Bool, true, false, List, slice_index}
use Rattle.std.specs.Ordering.{nat_cmp, bool_cmp, ordering_then}
use Rattle.std.specs.declared.cmp.Ordering.{Ordering}
use Rattle.lrc_trace.specs.declared.act.Act.{Act}
use Rattle.lrc_trace.specs.declared.act.Deed.{Deed}
use Rattle.lrc_trace.specs.declared.act.Deed.TheVariants.{Write}
use Rattle.lrc_judge.specs.declared.lanes.Pair.{Pair}
use Rattle.lrc_acts_text.specs.Acts.{act_at}
use Rattle.lrc_explain.specs.declared.site.Site.{Site}

-- whether a deed writes
abbrev pub deed_writes : Deed → Bool
deed_writes (Write word value) = true
deed_writes _ = false

-- the site of two acts: the line of each, and whether it writes
abbrev pub site_of : List Act → (lines : List ℕ) → Pair → Site
site_of acts lines pair = record {
  line = slice_index lines pair.earlier;
  writes = deed_writes (act_at acts pair.earlier).deed;
  later_line = slice_index lines pair.later;
  later_writes = deed_writes (act_at acts pair.later).deed;
}

-- by the earlier acts, then by the later ones
abbrev pub site_cmp : Site → Site → Ordering
site_cmp a b = ordering_then (nat_cmp a.line b.line)
    (ordering_then (bool_cmp a.writes b.writes)
    (ordering_then (nat_cmp a.later_line b.later_line) (bool_cmp a.later_writes b.later_writes)))
