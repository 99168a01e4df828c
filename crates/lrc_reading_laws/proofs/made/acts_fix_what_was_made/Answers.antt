use Rattle.lrc_reading_laws.proofs.Acted.Fixed.{fixed}
use Rattle.lrc_reading_laws.proofs.Acted.Once.{changes_fixed}
use Rattle.lrc_reading_laws.proofs.made.acts_fix_what_was_made.Goals as goal

pub returns-clause-intervals : goal.returns-clause-intervals
returns-clause-intervals c = λ program nodes options events world made other x e known of known' of' member.
    fixed program nodes options world (record { events = events; runs = e }) made other known of known' of' x member

pub returns-clause-changes : goal.returns-clause-changes
returns-clause-changes c = λ program nodes options events world made other x y page e known of known' of' free member member' same.
    changes_fixed program nodes options world (record { events = events; runs = e }) free made other known of known' of' x y same page member member'
