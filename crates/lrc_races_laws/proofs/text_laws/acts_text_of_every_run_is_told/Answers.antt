use Rattle.lrc_acts_text.specs.ActsText.{acts_text}
use Rattle.lrc_races_text.specs.declared.form.Form.TheVariants.{Acts}
use Rattle.lrc_races_laws.specs.Said.{acts_said}
use Rattle.lrc_races_laws.proofs.ActLines.{act_bodies}
use Rattle.lrc_races_laws.proofs.Fronts.{said_alone, front_good, whole_good}
use Rattle.lrc_races_laws.proofs.Tellings.{acts_are_good, acts_told}
use Rattle.lrc_races_laws.proofs.text_laws.acts_text_of_every_run_is_told.Goals as goal

pub returns-clause-read : goal.returns-clause-read
returns-clause-read c = λ program nodes acts lines parts rest said is cut.
    said_alone Acts (acts_text acts lines) (act_bodies 0 lines acts) (acts_said 0 lines acts) (acts_are_good program nodes acts lines is)
    parts rest said cut

pub returns-clause-told : goal.returns-clause-told
returns-clause-told c = λ program nodes acts lines group layout status told is ends. acts_told program nodes acts lines is group layout status told ends

pub returns-clause-good : goal.returns-clause-good
returns-clause-good c = λ program nodes acts lines front more asked line told is e bad.
    front_good Acts (acts_text acts lines) (act_bodies 0 lines acts) (acts_said 0 lines acts) (acts_are_good program nodes acts lines is)
    front more asked line told e bad

pub returns-clause-whole : goal.returns-clause-whole
returns-clause-whole c = λ program nodes acts lines asked line told is bad.
    whole_good Acts (acts_text acts lines) (act_bodies 0 lines acts) (acts_said 0 lines acts) (acts_are_good program nodes acts lines is)
    asked line told bad
