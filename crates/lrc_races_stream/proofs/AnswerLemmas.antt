-- What is kept of the first lines of a trace answers the question about two of them.
use Rattle.std.proofs.Common.{◌≡◌, ℕ, ◌<◌, ◌≤◌, Bool, List, [], length, inl, inr, subst, arith}
use Rattle.lrc_races_trace.specs.declared.event.Event.{Event}
use Rattle.lrc_races_text.specs.Session.{Text}
use Rattle.lrc_races_text.specs.Tables.{naming_of}
use Rattle.lrc_races_text.specs.declared.form.Form.{Form}
use Rattle.lrc_races_front.specs.Kept.{HasKept}
use Rattle.lrc_races_front.specs.declared.kept.Kept.{Kept}
use Rattle.lrc_races_witness.specs.Answer.{IsAnswered as IsAnsweredOf}
use Rattle.lrc_races_why.specs.Answers.{HasEvent, HasNoEvent}
use Rattle.lrc_races_why.specs.Answers as reasons
use Rattle.lrc_races_why.specs.declared.answer.Outcome.TheVariants as outcomes
use Rattle.lrc_shell_sources.specs.Known.{Held}
use Rattle.lrc_races_stream.specs.Reach.{AreFirst, ArePermittedTo, HasComeWell, IsBehind, IsHalt, halted, ill_formed, out_of_memory}
use Rattle.lrc_races_stream.specs.Why.{IsExplained, IsStopAnswered, Reasons, explained, first_lacks, first_none, none, second_lacks, second_none, why}
use Rattle.lrc_races_stream.specs.Why as whys
use Rattle.lrc_races_stream.specs.Witness.{IsAnswered, Witnesses, answered, lacking, stopped, told}
use Rattle.lrc_races_stream.specs.declared.answer.Answer.{Answer}
use Rattle.lrc_races_stream.specs.declared.answer.Answer.TheVariants.{Answered, NoEvent}
use Rattle.lrc_races_stream.specs.declared.answer.Stop.{Stop}
use Rattle.lrc_races_stream.proofs.Reached.{behind_has, enough, reached}
use Rattle.lrc_races_stream.proofs.StrictLemmas.{ill_within}

-- what is printed of what is kept
pub answer_of : (kept : Kept) (first second status : ℕ) (events : List Event) (texts : List Text) (before : List ℕ) (printed : Text)
    → events ≡ kept.events.items → texts ≡ kept.texts.items → before ≡ []
    → IsAnsweredOf (naming_of kept.names).threads events texts first second before printed.items status
    → IsAnswered kept first second (Answered printed status)
answer_of kept first second status events texts before printed es ts bs a =
    let threads = (naming_of kept.names).threads in
    answered (subst (λ (b : List ℕ). IsAnsweredOf threads kept.events.items kept.texts.items first second b printed.items status) bs
    (subst (λ (t : List Text). IsAnsweredOf threads kept.events.items t first second before printed.items status) ts
    (subst (λ (e : List Event). IsAnsweredOf threads e texts first second before printed.items status) es a)))

pub witnessed : (strict : Bool) (form : Form) (held : Held) (first second : ℕ) (kept : Kept) (outcome : Answer)
    → HasComeWell strict HasKept form second held kept → IsAnswered kept first second outcome → Witnesses strict form held first second outcome
witnessed strict form held first second kept _ (h, permitted) (answered a) =
    told h.lines h.first h.counted permitted (record {
      naming = naming_of kept.names;
      events = kept.events.items;
      texts = kept.texts.items;
      front = h.has_kept;
      answered = a;
    })
witnessed strict form held first second kept _ h lacking = stopped kept out_of_memory

-- ---- why

-- what is said of what is kept
pub explain_of : (form : Form) (kept : Kept) (first second : ℕ) (events : List Event) (texts : List Text) (before : List ℕ) (printed : Text)
    → events ≡ kept.events.items → texts ≡ kept.texts.items → before ≡ []
    → reasons.IsAnswered form (naming_of kept.names) events texts first second before printed.items outcomes.Told
    → IsExplained form kept first second (Answered printed 0)
explain_of form kept first second events texts before printed es ts bs a =
    let names = naming_of kept.names in
    explained (subst (λ (b : List ℕ). reasons.IsAnswered form names kept.events.items kept.texts.items first second b printed.items outcomes.Told) bs
    (subst (λ (t : List Text). reasons.IsAnswered form names kept.events.items t first second before printed.items outcomes.Told) ts
    (subst (λ (e : List Event). reasons.IsAnswered form names e texts first second before printed.items outcomes.Told) es a)))

pub none_of : (form : Form) (kept : Kept) (first second line : ℕ) (events : List Event) (texts : List Text) (before after : List ℕ)
    → events ≡ kept.events.items
    → reasons.IsAnswered form (naming_of kept.names) events texts first second before after (outcomes.NoEvent line)
    → IsExplained form kept first second (NoEvent line)
none_of form kept first second _ events texts before after es (reasons.first_none without same) =
    first_none (subst (λ (e : List Event). HasNoEvent e first) es without)
none_of form kept first second _ events texts before after es (reasons.second_none has without same) =
    second_none (subst (λ (e : List Event). HasEvent e first) es has) (subst (λ (e : List Event). HasNoEvent e second) es without)

pub reasoned : (strict : Bool) (form : Form) (held : Held) (first second : ℕ) (kept : Kept) (outcome : Answer) → first < second
    → HasComeWell strict HasKept form second held kept → IsExplained form kept first second outcome
    → Reasons strict form held first second outcome
reasoned strict form held first second kept _ less (h, permitted) (explained a) =
    whys.told h.lines h.first h.counted permitted (record {
      naming = naming_of kept.names;
      events = kept.events.items;
      texts = kept.texts.items;
      front = h.has_kept;
      holds = a;
    })
reasoned strict form held first second kept _ less (h, permitted) (first_none n) =
    let counted = h.counted in
    first_lacks h.lines h.first (omega arith) (λ is. inl (permitted is)) (record {
      naming = naming_of kept.names;
      events = kept.events.items;
      texts = kept.texts.items;
      front = h.has_kept;
      holds = n;
    })
reasoned strict form held first second kept _ less (h, permitted) (second_none e n) =
    second_lacks h.lines h.first h.counted permitted (record {
      naming = naming_of kept.names;
      events = kept.events.items;
      texts = kept.texts.items;
      front = h.has_kept;
      holds = (e, n);
    })
reasoned strict form held first second kept _ less h whys.lacking = whys.stopped kept out_of_memory (λ behind. absurd behind)

-- lines that were read and are good, and up to the first of the two lines no event is one that no program would give
record AreRead (strict : Bool) (form : Form) (held : Held) (first : ℕ) (kept : Kept) : Type 0 where
  lines : List (List ℕ)
  are_first : AreFirst held lines
  enough : first ≤ length lines
  permitted : ArePermittedTo strict form lines first
  has_kept : HasKept form lines kept

read_of : (strict : Bool) (form : Form) (held : Held) (first second : ℕ) (kept : Kept) (stop : Stop) → IsHalt strict HasKept form second held kept stop
    → IsBehind first stop → AreRead strict form held first kept
read_of strict form held first second kept _ (ill_formed lines {ill = ill} asked are few has_kept found) behind =
    let within = ill_within found in
    record {
      lines = lines;
      are_first = are;
      enough = omega arith;
      permitted = λ is. inr (ill.line, ill.why.items, found, behind);
      has_kept = has_kept;
    }
read_of strict form held first second kept stop (halted is permitted) behind =
    let r = reached HasKept form second held kept stop is (behind_has first stop behind) in
    record {
      lines = r.lines;
      are_first = r.first;
      enough = enough first (length r.lines) stop r.up_to behind;
      permitted = λ asked. inl (permitted r.lines r.has_kept asked);
      has_kept = r.has_kept;
    }
read_of strict form held first second kept _ out_of_memory behind = absurd behind

pub stop_answered : (strict : Bool) (form : Form) (held : Held) (first second : ℕ) (kept : Kept) (stop : Stop) (outcome : Answer)
    → IsHalt strict HasKept form second held kept stop → IsStopAnswered kept.events.items first stop outcome
    → Reasons strict form held first second outcome
stop_answered strict form held first second kept stop _ is (none behind no_event) =
    let r = read_of strict form held first second kept stop is behind in
    first_lacks r.lines r.are_first r.enough r.permitted (record {
      naming = naming_of kept.names;
      events = kept.events.items;
      texts = kept.texts.items;
      front = r.has_kept;
      holds = no_event;
    })
stop_answered strict form held first second kept stop _ is (why has_event) = whys.stopped kept is has_event
