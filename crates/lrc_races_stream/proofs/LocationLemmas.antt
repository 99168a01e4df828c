-- What is kept of all lines of a trace is told.
use Rattle.std.proofs.Common.{◌≡◌, ℕ, Bool, List, [], sym, subst}
use Rattle.lrc_races_text.specs.Session.{Text}
use Rattle.lrc_races_text.specs.declared.asked.Layout.{Layout}
use Rattle.lrc_races_text.specs.declared.asked.Sought.{Sought}
use Rattle.lrc_races_text.specs.declared.form.Form.{Form}
use Rattle.lrc_races_locations.specs.Lines.{HasToldAll, IsLocated, IsTold}
use Rattle.lrc_races_locations.specs.declared.located.Located.{Located}
use Rattle.lrc_shell_sources.specs.Known.{Held}
use Rattle.lrc_races_stream.specs.Locations.{IsReported, Reports, lacking, reported, stopped, told}
use Rattle.lrc_races_stream.specs.Reach.{IsHalt, halted, most_lines, out_of_memory, past}
use Rattle.lrc_races_stream.specs.declared.answer.Answer.{Answer}
use Rattle.lrc_races_stream.specs.declared.answer.Answer.TheVariants.{Answered}
use Rattle.lrc_races_stream.specs.declared.answer.Stop.TheVariants.{Past}

pub report_of : (form : Form) (layout : Layout) (located : Located) (status : ℕ) (before : List ℕ) (printed : Text) → before ≡ []
    → ((sought : Sought) (lines : List (List ℕ)) → IsLocated sought form lines located
    → HasToldAll sought form layout lines before status printed.items)
    → IsReported form layout located (Answered printed status)
report_of form layout located status before printed none tells =
    reported (λ sought lines h. subst (λ (b : List ℕ). HasToldAll sought form layout lines b status printed.items) none (tells sought lines h))

pub all_reported : (strict : Bool) (sought : Sought) (form : Form) (layout : Layout) (held : Held) (located : Located) (count : ℕ) (answer : Answer)
    → IsHalt strict (IsLocated sought) form most_lines held located (Past count) → IsReported form layout located answer
    → Reports strict sought form layout held answer
all_reported strict sought form layout held located count _ (halted (past lines are has_kept counted few) permitted)
    (reported {printed = printed} {status = status} tells) =
    let t = tells sought lines has_kept in
    told lines are (permitted lines has_kept) (subst (λ (text : List ℕ). IsTold sought form layout lines status text) (sym t.1) t.2)
all_reported strict sought form layout held located count _ is lacking = stopped located out_of_memory tt
