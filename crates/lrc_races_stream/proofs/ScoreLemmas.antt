-- The claims about what is kept of all lines of a trace are scored.
use Rattle.std.proofs.Common.{◌≡◌, ℕ, Bool, List, [], sym, subst}
use Rattle.lrc_races_score.specs.declared.report.LinedClaim.{LinedClaim}
use Rattle.lrc_races_scored.proofs.TracedLemmas.{traced_by_line, traced_numbered}
use Rattle.lrc_races_scored.specs.Scored.{HasScored, IsScore}
use Rattle.lrc_races_scored.specs.Traced.{HasTraced}
use Rattle.lrc_races_scored.specs.declared.traced.Traced.{Traced}
use Rattle.lrc_races_missed.specs.Missed.{AreNumbered}
use Rattle.lrc_races_text.specs.Session.{Text}
use Rattle.lrc_races_text.specs.Tables.{naming_of}
use Rattle.lrc_races_text.specs.declared.asked.Sought.{Sought}
use Rattle.lrc_races_text.specs.declared.form.Form.{Form}
use Rattle.lrc_races_witness.specs.Relations.{AreByLine}
use Rattle.lrc_shell_sources.specs.Known.{Held}
use Rattle.lrc_races_stream.specs.Reach.{IsHalt, halted, most_lines, out_of_memory, past}
use Rattle.lrc_races_stream.specs.Score.{IsScored, Scores, lacking, scored, stopped, told}
use Rattle.lrc_races_stream.specs.declared.answer.Answer.{Answer}
use Rattle.lrc_races_stream.specs.declared.answer.Answer.TheVariants.{Answered}
use Rattle.lrc_races_stream.specs.declared.answer.Stop.TheVariants.{Past}

pub score_of : (sought : Sought) (claims : List LinedClaim) (kept traced : Traced) (last status : ℕ) (before : List ℕ) (printed : Text) → before ≡ []
    → traced ≡ kept → (AreNumbered (naming_of traced.names) traced.events.items
    → HasScored sought (naming_of traced.names) traced.events.items last claims before status printed.items)
    → IsScored sought claims kept last (Answered printed status)
score_of sought claims kept traced last status before printed none same scores =
    subst (λ (t : Traced). IsScored sought claims t last (Answered printed status)) same
    (scored (λ numbered. of_added (scores numbered)))
  where
    of_added : HasScored sought (naming_of traced.names) traced.events.items last claims before status printed.items
        → IsScore sought (naming_of traced.names) traced.events.items last claims status printed.items
    of_added (text, e, is) =
        let bare : HasScored sought (naming_of traced.names) traced.events.items last claims [] status printed.items =
        subst (λ (b : List ℕ). HasScored sought (naming_of traced.names) traced.events.items last claims b status printed.items) none (text, e, is) in
        subst (λ (l : List ℕ). IsScore sought (naming_of traced.names) traced.events.items last claims status l) (sym bare.1) bare.2

pub all_scored : (strict : Bool) (sought : Sought) (form : Form) (claims : List LinedClaim) (held : Held) (kept : Traced) (count : ℕ) (answer : Answer)
    → IsHalt strict HasTraced form most_lines held kept (Past count) → IsScored sought claims kept count answer
    → Scores strict sought form claims held answer
all_scored strict sought form claims held kept count _ (halted (past lines are has_kept counted few) permitted)
    (scored {printed = printed} {status = status} scores) =
    told lines are (permitted lines has_kept) (record {
      naming = naming_of kept.names;
      events = kept.events.items;
      trace = has_kept;
      score = subst (λ n. IsScore sought (naming_of kept.names) kept.events.items n claims status printed.items) counted
          (scores (traced_numbered form lines (naming_of kept.names) kept.events.items has_kept));
    })
all_scored strict sought form claims held kept count _ is lacking = stopped kept out_of_memory tt

pub past_by_line : (strict : Bool) (form : Form) (held : Held) (kept : Traced) (count : ℕ) → IsHalt strict HasTraced form most_lines held kept (Past count)
    → AreByLine kept.events.items
past_by_line strict form held kept count (halted (past lines are has_kept counted few) permitted) = traced_by_line form lines (naming_of kept.names) kept.events.items has_kept
