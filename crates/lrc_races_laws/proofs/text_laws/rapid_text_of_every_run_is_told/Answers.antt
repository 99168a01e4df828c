use Rattle.lrc_acts_text.specs.Rapid.{rapid_of, rapid_text}
use Rattle.lrc_races_text.specs.declared.form.Form.TheVariants.{Std}
use Rattle.lrc_races_laws.proofs.Fronts.{front_good, whole_good}
use Rattle.lrc_races_laws.proofs.Premises.{steps_done}
use Rattle.lrc_races_laws.proofs.StepLines.{bodies, steps_said}
use Rattle.lrc_races_laws.proofs.Tellings.{rapid_good, rapid_said, rapid_told}
use Rattle.lrc_races_laws.proofs.text_laws.rapid_text_of_every_run_is_told.Goals as goal

pub returns-clause-read : goal.returns-clause-read
returns-clause-read c = λ program nodes acts lines parts rest said is short cut. rapid_said program nodes acts lines is short parts rest said cut

pub returns-clause-told : goal.returns-clause-told
returns-clause-told c = λ program nodes acts lines group layout status told is short ends.
    rapid_told program nodes acts lines is short group layout status told ends

pub returns-clause-good : goal.returns-clause-good
returns-clause-good c = λ program nodes acts lines front more asked line told is short e bad.
    let steps = rapid_of program.locks nodes acts in
    let done = (steps_done program nodes acts lines is short).0 in
    front_good Std (rapid_text program.locks nodes acts lines) (bodies lines steps done) (steps_said 0 lines steps done)
    (rapid_good program nodes acts lines is short) front more asked line told e bad

pub returns-clause-whole : goal.returns-clause-whole
returns-clause-whole c = λ program nodes acts lines asked line told is short bad.
    let steps = rapid_of program.locks nodes acts in
    let done = (steps_done program nodes acts lines is short).0 in
    whole_good Std (rapid_text program.locks nodes acts lines) (bodies lines steps done) (steps_said 0 lines steps done)
    (rapid_good program nodes acts lines is short) asked line told bad
