-- What one event more makes of what is kept of a trace, and what is told of all of it.
use Rattle.std.proofs.Common.{◌≡◌, ℕ, ◌+◌, ◌^◌, ◌<◌, ◌==◌, Bool, true, false, List, [], ◌∷◌, ◌++◌, length, sym, subst, refl, ◌∙◌, ap, arith, append_assoc, append-nil, length-append}
use Rattle.std.specs.Prelude.{Option, Result, OnOk, if◌then◌else◌}
use Rattle.std.proofs.lemmas.Bool.{eqb-true, eq-eqb}
use Rattle.std.proofs.lemmas.Result.{on_ok_weaker}
use Rattle.lrc_races_trace.specs.declared.event.Event.{Event}
use Rattle.lrc_races_trace.specs.declared.event.Pair.{Pair}
use Rattle.lrc_races_trace.specs.declared.fault.Fault.{Fault}
use Rattle.lrc_races_trace.specs.Formed.{IsFirstFault}
use Rattle.lrc_races_trace.specs.Trace.{At}
use Rattle.lrc_races_detector.specs.Finding.{HasLooked}
use Rattle.lrc_races_lines.specs.Line.{Saying}
use Rattle.lrc_races_text.specs.declared.asked.Layout.{Layout}
use Rattle.lrc_races_text.specs.declared.asked.Sought.{Sought}
use Rattle.lrc_races_text.specs.declared.form.Form.{Form}
use Rattle.lrc_races_text.specs.Detecting.{position_of}
use Rattle.lrc_races_text.specs.Layouts.{end_lines}
use Rattle.lrc_races_text.specs.Naming.{IsEvent, IsNaming, no_events}
use Rattle.lrc_races_text.specs.Says.{Said, Say, Says, SaysNothing, no_line}
use Rattle.lrc_races_text.specs.Session.{LineSays, says_none, says_one}
use Rattle.lrc_races_text.specs.Tables.{MentionsAll, naming_of}
use Rattle.lrc_races_text.proofs.NamingLemmas.{events_push, keeps_events, keeps_names, naming_more, nothing_named, slice_get-next}
use Rattle.lrc_races_text.proofs.SessionLemmas.{say_push}
use Rattle.lrc_races_front.specs.Front.{HasTaken}
use Rattle.lrc_races_locations.specs.declared.located.Located.{Located}
use Rattle.lrc_races_locations.specs.Finding.{HasShown}
use Rattle.lrc_races_locations.specs.Layouts.{location_lines}
use Rattle.lrc_races_locations.specs.Lines.{HasLocatedOne, HasToldAll, IsLocated}
use Rattle.lrc_races_locations.specs.Located.{AreShown}
use Rattle.lrc_races_locations.specs.Taking.{HasLocated}
use Rattle.lrc_races_locations.proofs.Knowing.{taken_position}

-- before any line
pub located_none : (sought : Sought) (form : Form) (located : Located)
    → naming_of located.names ≡ record { threads = []; variables = []; locks = []; barriers = []; locations = [] }
    → ((events : List Event) → HasLocated sought events 0 located.detector) → ((events : List Event) → HasLooked events 0 located.finder)
    → IsLocated sought form [] located
located_none sought form located named taken looked = record {
  said = [];
  says = no_line;
  kept = record {
    naming = subst (λ n. IsNaming [] n) (sym named) (record {
      threads = nothing_named;
      variables = nothing_named;
      locks = nothing_named;
      barriers = nothing_named;
      locations = nothing_named;
    });
    events = [];
    are = no_events;
    taken = taken;
    looked = looked;
  };
}

-- one event more
pub located_one : (before after : Located) (one : Said) (event : Event)
    → MentionsAll one.saying (naming_of before.names) (naming_of after.names) → IsEvent (naming_of after.names) one event
    → position_of before.detector.detector + 1 < 2 ^ 64
    → ((sought : Sought) (events : List Event) (n : ℕ) → At events n event → HasLocated sought events n before.detector
    → HasLocated sought events (n + 1) after.detector)
    → ((events : List Event) (n : ℕ) → n + 1 < 2 ^ 64 → At events n event → HasLooked events n before.finder → HasLooked events (n + 1) after.finder)
    → HasLocatedOne one before after
located_one before after one event mentioned is small locates looks sought said h =
    let events = h.events in
    let next = events ++ event ∷ [] in
    let position = taken_position sought (events ++ []) (length events) before.detector.detector (h.taken []).taken in
    let long = length-append events (event ∷ []) in
    let at : (more : List Event) → At (events ++ event ∷ more) (length events) event = λ more. record { is = slice_get-next events event more } in
    let small_here : length events + 1 < 2 ^ 64 = omega (arith, position, small) in
    let longer_by : length events + 1 ≡ length next = omega (arith, long) in
    record {
      naming = naming_more one h.naming mentioned;
      events = next;
      are = events_push (keeps_events (keeps_names mentioned) h.are) is;
      taken = λ more. subst (λ n. HasLocated sought (next ++ more) n after.detector) longer_by
          (subst (λ es. HasLocated sought es (length events + 1) after.detector) (sym (append_assoc events (event ∷ []) more))
          (locates sought (events ++ event ∷ more) (length events) (at more) (h.taken (event ∷ more))));
      looked = λ more. subst (λ n. HasLooked (next ++ more) n after.finder) longer_by
          (subst (λ es. HasLooked es (length events + 1) after.finder) (sym (append_assoc events (event ∷ []) more))
          (looks (events ++ event ∷ more) (length events) small_here (at more) (h.looked (event ∷ more))));
    }

-- ---- one line

pub taken_nothing : (form : Form) (line : List ℕ) (number : ℕ) (located : Located) → SaysNothing form line
    → HasTaken IsLocated form line number located located
taken_nothing form line number located says sought lines counted h = record {
  said = h.said;
  says = subst (λ s. Say form 1 (lines ++ line ∷ []) s) (append-nil h.said) (say_push 1 line h.says (says_none says));
  kept = h.kept;
}

taken_one : (form : Form) (line : List ℕ) (number : ℕ) (saying : Saying) (before after : Located) → Says form line saying
    → HasLocatedOne (record { line = number; saying = saying }) before after → HasTaken IsLocated form line number before after
taken_one form line number saying before after says one sought lines counted h =
    let event : Said = record { line = number; saying = saying } in
    let number_is : number ≡ 1 + length lines = omega arith in
    let line_says : LineSays form number line (event ∷ []) = says_one says in
    record {
      said = h.said ++ event ∷ [];
      says = say_push 1 line h.says (subst (λ n. LineSays form n line (event ∷ [])) number_is line_says);
      kept = one sought h.said h.kept;
    }

pub taken_event : {E : Type 0} (form : Form) (line : List ℕ) (number : ℕ) (saying : Saying) (before after : Located) (result : Result Unit E)
    → Says form line saying → OnOk result (HasLocatedOne (record { line = number; saying = saying }) before after)
    → OnOk result (HasTaken IsLocated form line number before after)
taken_event form line number saying before after result says ok =
    on_ok_weaker result (λ (one : HasLocatedOne (record { line = number; saying = saying }) before after).
    taken_one form line number saying before after says one) ok

-- ---- the report

pub told_all : (sought : Sought) (form : Form) (layout : Layout) (lines : List (List ℕ)) (located : Located) (pairs : List Pair) (fault : Option Fault)
    (races count : ℕ) (old mid new : List ℕ) (status : ℕ)
    → mid ≡ old ++ location_lines layout form (naming_of located.names) pairs
    → new ≡ mid ++ end_lines layout form (naming_of located.names) [] fault races count
    → races ≡ length pairs → count ≡ position_of located.detector.detector
    → ((s : Sought) (events : List Event) → HasShown s events (length events) located.detector.locator → AreShown s events pairs)
    → ((events : List Event) (n : ℕ) → HasLooked events n located.finder → IsFirstFault events n fault)
    → status ≡ (if races == 0 then 0 else 3) → IsLocated sought form lines located → HasToldAll sought form layout lines old status new
told_all sought form layout lines located pairs fault races count old mid new status mid_is new_is races_is count_is shows finds gives h =
    let k = h.kept in
    let naming = naming_of located.names in
    let front = location_lines layout form naming pairs in
    let position = count_is ∙ taken_position sought (k.events ++ []) (length k.events) located.detector.detector (k.taken []).taken in
    let all : k.events ++ [] ≡ k.events = append-nil k.events in
    let shown = subst (λ es. HasShown sought es (length k.events) located.detector.locator) all (k.taken []).shown in (
      front ++ end_lines layout form naming [] fault races count,
      new_is ∙ ap (λ t. t ++ end_lines layout form naming [] fault races count) mid_is
          ∙ append_assoc old front (end_lines layout form naming [] fault races count),
      record {
        said = h.said;
        says = h.says;
        report = record {
          naming = naming;
          events = k.events;
          pairs = pairs;
          fault = fault;
          trace = record { names = k.naming; numbered = k.are };
          are_shown = shows sought k.events shown;
          first_fault = subst (λ es. IsFirstFault es (length k.events) fault) all (finds _ _ (k.looked []));
          text = ap (λ n. front ++ end_lines layout form naming [] fault n count) races_is
              ∙ ap (λ n. front ++ end_lines layout form naming [] fault (length pairs) n) position;
          answer = gives ∙ ap (λ n. if n == 0 then 0 else 3) races_is;
        };
      },
    )

abbrev status_of : ℕ → ℕ
status_of n = if n == 0 then 0 else 3

pub status_none : (n : ℕ) → n ≡ 0 → status_of n ≡ 0
status_none n e = ap (λ b. let none : ℕ = 0 in let some : ℕ = 3 in if b then none else some) (eq-eqb n 0 e)

pub status_some : (n : ℕ) → (n ≡ 0 → ⊥) → status_of n ≡ 3
status_some n some = go (n == 0) refl
  where
    go : (b : Bool) → (n == 0) ≡ b → (let none : ℕ = 0 in let raced : ℕ = 3 in if b then none else raced) ≡ 3
    go true e = absurd (some (eqb-true n 0 e))
    go false e = refl
