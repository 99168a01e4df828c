-- Who waits at a miss makes its next access on the page that it needs, and every change keeps it so.
use Rattle.std.proofs.Common.{◌≡◌, [], true, sym, ap, ◌∙◌}
use Rattle.std.specs.Prelude.{Option, Some}
use Rattle.lrc_page.specs.declared.size.Size.{Size}
use Rattle.lrc_exec.specs.Meaning.{Next}
use Rattle.lrc_protocol.specs.Pages.{Need, changes_came, page_came}
use Rattle.lrc_protocol.specs.Node.{Wait, nothing, grant, departure, access, upkeep, discard, needs_of}
use Rattle.lrc_protocol.specs.Turn.{with_needs}
use Rattle.lrc_protocol.specs.Node.{next_in}
use Rattle.lrc_node_laws.specs.Needs.{ReachesFor}
use Rattle.lrc_node_laws.proofs.Needed.{changed_page, sent_page}
use Rattle.lrc_node_laws.proofs.Change.{View, Change, receives, manages, moves, puts, closes, learns, resumes, begins}
use Rattle.lrc_node_laws.proofs.Change.{cleans, discards, misses, mends, gets_changes, gets_page, is_settled}

settled-reaches : (size : Size) (next : Option Next) (w : Wait) → is_settled w ≡ true → ReachesFor size next w
settled-reaches size next nothing s = tt
settled-reaches size next (grant lock) s = tt
settled-reaches size next departure s = tt
settled-reaches size next (access need) s = cc
settled-reaches size next (upkeep collection needs) s = tt
settled-reaches size next (discard collection) s = tt

none-reaches : (size : Size) (next : Option Next) (w : Wait) → needs_of w ≡ [] → ReachesFor size next w
none-reaches size next nothing e = tt
none-reaches size next (grant lock) e = tt
none-reaches size next departure e = tt
none-reaches size next (access need) e = cc
none-reaches size next (upkeep collection needs) e = tt
none-reaches size next (discard collection) e = tt

still-reaches : (size : Size) (next : Option Next) (change : Need → Need) → ((need : Need) → (change need).page ≡ need.page) → (w : Wait)
    → ReachesFor size next w → ReachesFor size next (with_needs change w)
still-reaches size next change same nothing h = tt
still-reaches size next change same (grant lock) h = tt
still-reaches size next change same departure h = tt
still-reaches size next change same (access need) h = h ∙ ap Some (sym (same need))
still-reaches size next change same (upkeep collection needs) h = tt
still-reaches size next change same (discard collection) h = tt

pub reaches-kept : (v after : View) → Change v after → ReachesFor v.size (next_in v.course) v.wait → ReachesFor after.size (next_in after.course) after.wait
reaches-kept v _ (receives from numbers) h = h
reaches-kept v _ (manages before manager e many) h = h
reaches-kept v _ (moves course n) h = none-reaches v.size (next_in course) v.wait n
reaches-kept v _ (puts word value w) h = h
reaches-kept v _ (closes wait w s) h = settled-reaches v.size (next_in v.course) wait s
reaches-kept v _ (learns time intervals o news) h = h
reaches-kept v _ (resumes o) h = tt
reaches-kept v _ (begins before time w t c long) h = tt
reaches-kept v _ (cleans collection needs w met) h = tt
reaches-kept v _ (discards collection w) h = tt
reaches-kept v _ (misses page w lt b n) h = n
reaches-kept v _ (mends need w met) h = tt
reaches-kept v _ (gets_changes from m r) h = still-reaches v.size (next_in v.course) (changes_came m.page from) (changed_page m.page from) v.wait h
reaches-kept v _ (gets_page from page values s) h = still-reaches v.size (next_in v.course) (page_came page values) (sent_page page values) v.wait h
