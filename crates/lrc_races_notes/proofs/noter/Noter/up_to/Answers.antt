-- Each is known of the first lines alone.
use Rattle.lrc_races_notes.proofs.noter.Noter.up_to.Goals as goal

pub returns : goal.returns
returns c form lines h = record { mark = c.mark_up_to.ensures form lines h.mark; blank = c.blank_up_to.ensures form lines h.blank }
