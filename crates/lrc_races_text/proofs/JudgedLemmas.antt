-- What one event more makes of what is judged.
use Rattle.std.proofs.Common.{◌≡◌, ℕ, zero, suc, ◌+◌, ◌^◌, ◌<◌, ◌⊎◌, ◌==◌, Bool, true, false, List, [], ◌∷◌, ◌++◌, length, inl, inr, sym, subst, refl, ◌∙◌, ap, arith, append_assoc, append-nil, length-append}
use Rattle.std.specs.Prelude.{Option, Some, None, Contains, slice_get, unwrap_or, codes, if◌then◌else◌}
use Rattle.std.proofs.lemmas.List.Concat.{flat_map-append}
use Rattle.std.proofs.lemmas.Bool.{cases_lt, eqb-true, eq-eqb}
use Rattle.lrc_json.specs.Spelling.{quoted}
use Rattle.lrc_races_trace.specs.declared.event.Event.{Event}
use Rattle.lrc_races_trace.specs.declared.event.Pair.{Pair}
use Rattle.lrc_races_trace.specs.declared.event.Operation.{Operation}
use Rattle.lrc_races_trace.specs.declared.event.Operation.TheVariants as Op
use Rattle.lrc_races_trace.specs.declared.group.Group.{Group}
use Rattle.lrc_races_trace.specs.declared.fault.Fault.{Fault as IllFormed}
use Rattle.lrc_races_trace.specs.Trace.{At, Accesses}
use Rattle.lrc_races_trace.specs.Races.{IsTold}
use Rattle.lrc_races_trace.specs.Formed.{IsFirstFault}
use Rattle.lrc_races_trace.specs.Groups.{AreGroups}
use Rattle.lrc_races_trace.proofs.Positions.{At-one}
use Rattle.lrc_races_detector.specs.declared.fault_finder.FaultFinder.{FaultFinder}
use Rattle.lrc_races_detector.specs.declared.groups.Groups.{Groups}
use Rattle.lrc_races_detector.specs.Finding.{HasLooked}
use Rattle.lrc_races_detector.specs.Grouping.{AreGrouped}
use Rattle.lrc_races_lines.specs.declared.line.Kind.{Kind}
use Rattle.lrc_races_text.specs.declared.asked.Asked.{Asked}
use Rattle.lrc_races_text.specs.declared.asked.Layout.{Layout}
use Rattle.lrc_races_text.specs.declared.asked.Layout.TheVariants.{Words, Objects}
use Rattle.lrc_races_text.specs.declared.asked.Sought.{Sought}
use Rattle.lrc_races_text.specs.declared.asked.Sought.TheVariants.{AllRaces, SureRaces}
use Rattle.lrc_races_text.specs.declared.form.Form.{Form}
use Rattle.lrc_races_text.specs.declared.halt.Halt.{Halt}
use Rattle.lrc_races_text.specs.declared.judged.Judged.{Judged}
use Rattle.lrc_races_text.specs.declared.race_detector.RaceDetector.{RaceDetector}
use Rattle.lrc_races_text.specs.declared.race_detector.RaceDetector.TheVariants.{All, Sure}
use Rattle.lrc_races_text.specs.Says.{Said}
use Rattle.lrc_races_text.specs.Sought.{AreSought, AreSoughtAt}
use Rattle.lrc_races_text.specs.Detecting.{HasTaken, position_of}
use Rattle.lrc_races_text.specs.Naming.{Numbers, Naming, IsNaming, IsOperation, IsLocated, IsEvent, AreEvents, no_events, event_more}
use Rattle.lrc_races_text.specs.Naming.{read, write, acquire, release, post, wait, fork, join, arrive, depart, idle}
use Rattle.lrc_races_text.specs.Tables.{naming_of, MentionsAll}
use Rattle.lrc_races_text.specs.Spelled.{name_at, variable_of, place_name, together, access_parts, race_line, race_lines, variable_word}
use Rattle.lrc_races_text.specs.Objects.{access_object, place_value, race_object, race_objects}
use Rattle.lrc_races_text.specs.Layouts.{end_lines, pair_lines}
use Rattle.lrc_races_text.specs.Told.{IsToldOf}
use Rattle.lrc_races_text.specs.Judged.{FindsIll, FindsNone, HasHaltedOne, HasJudged, HasJudgedOne, HasToldAll, IsTelling}
use Rattle.lrc_races_text.proofs.SoughtLemmas.{sought-push, sought-nothing, sought-told}
use Rattle.lrc_races_text.proofs.NamingLemmas.{Keeps, KeepsAll, keeps_names, keeps_events, events_push, naming_more, nothing_named, slice_get-next}

-- ---- lines stay

same_name : {before after name : _} {number : ℕ} → Keeps before after → Numbers before name number → name_at before number ≡ name_at after number
same_name {before} {after} {name} {number} k n = ap (λ o. unwrap_or o []) (n.at ∙ sym (k.at number name n.at))

-- each event is named
named_event : {naming : Naming} {said : List Said} {events : List Event} → AreEvents naming said events → (k : ℕ) (event : Event)
    → slice_get events k ≡ Some event → (one : Said) × IsEvent naming one event
named_event no_events k event e = let never : ⊥ = cc in absurd never
named_event {naming} (event_more {said = said} {event = first} is rest) zero event e =
    let same : first ≡ event = cc in (said, subst (λ x. IsEvent naming said x) same is)
named_event (event_more is rest) (suc k) event e = named_event rest k event e

same_place : {before after : Naming} (location : List ℕ) (place : Option ℕ) → KeepsAll before after → IsLocated before.locations location place
    → place_name before place ≡ place_name after place
same_place location None k is = refl
same_place location (Some number) k (some, n) = same_name k.locations n

same_access : (form : Form) {before after : Naming} {one : Said} {event : Event} → KeepsAll before after → IsEvent before one event
    → together (access_parts form before event) ≡ together (access_parts form after event)
same_access form {before} {after} {one} {event} k is =
    let thread = same_name k.threads is.thread in
    let place = same_place one.saying.location event.location k is.location in
    rw (thread, place) refl

same_variable : {before after : Naming} {target : List ℕ} {kind : Kind} {operation : Operation} → KeepsAll before after
    → IsOperation before target kind operation → ((v : ℕ) × ((operation ≡ Op.Read v) ⊎ (operation ≡ Op.Write v)))
    → name_at before.variables (variable_of operation) ≡ name_at after.variables (variable_of operation)
same_variable k (read n) h = same_name k.variables n
same_variable k (write n) h = same_name k.variables n
same_variable k (acquire n) (v, h) = elim h [ inl e ↦ let never : ⊥ = cc in absurd never | inr e ↦ let never : ⊥ = cc in absurd never ]
same_variable k (release n) (v, h) = elim h [ inl e ↦ let never : ⊥ = cc in absurd never | inr e ↦ let never : ⊥ = cc in absurd never ]
same_variable k (post n) (v, h) = elim h [ inl e ↦ let never : ⊥ = cc in absurd never | inr e ↦ let never : ⊥ = cc in absurd never ]
same_variable k (wait n) (v, h) = elim h [ inl e ↦ let never : ⊥ = cc in absurd never | inr e ↦ let never : ⊥ = cc in absurd never ]
same_variable k (fork n) (v, h) = elim h [ inl e ↦ let never : ⊥ = cc in absurd never | inr e ↦ let never : ⊥ = cc in absurd never ]
same_variable k (join n) (v, h) = elim h [ inl e ↦ let never : ⊥ = cc in absurd never | inr e ↦ let never : ⊥ = cc in absurd never ]
same_variable k (arrive n) (v, h) = elim h [ inl e ↦ let never : ⊥ = cc in absurd never | inr e ↦ let never : ⊥ = cc in absurd never ]
same_variable k (depart n) (v, h) = elim h [ inl e ↦ let never : ⊥ = cc in absurd never | inr e ↦ let never : ⊥ = cc in absurd never ]
same_variable k idle (v, h) = elim h [ inl e ↦ let never : ⊥ = cc in absurd never | inr e ↦ let never : ⊥ = cc in absurd never ]

same_value : {before after : Naming} (location : List ℕ) (place : Option ℕ) → KeepsAll before after → IsLocated before.locations location place
    → place_value before place ≡ place_value after place
same_value location None k is = refl
same_value location (Some number) k (some, n) = ap quoted (same_name k.locations n)

same_access_object : {before after : Naming} {one : Said} {event : Event} → KeepsAll before after → IsEvent before one event
    → access_object before event ≡ access_object after event
same_access_object {before} {after} {one} {event} k is =
    let thread = same_name k.threads is.thread in
    let place = same_value one.saying.location event.location k is.location in
    rw (thread, place) refl

-- the object of a pair, of its parts
object_of : List ℕ → List ℕ → List ℕ → List ℕ
object_of variable first second = together (codes "{\"race\":{\"variable\":" ∷ quoted variable ∷ codes ",\"first\":" ∷ first ∷ codes ",\"second\":" ∷ second ∷ codes "}}\n" ∷ [])

-- a line of a pair, of its parts
line_of : Form → List ℕ → List ℕ → List ℕ → List ℕ
line_of form variable first second = together (codes "race " ∷ variable_word form ∷ variable ∷ codes ": " ∷ first ∷ codes ", " ∷ second ∷ codes "\n" ∷ [])

module _ (form : Form) {before after : Naming} {said : List Said} {events : List Event} (k : KeepsAll before after) (are : AreEvents before said events) where
  same_line : (pair : Pair) → IsTold events pair → race_line form before pair ≡ race_line form after pair
  unfolding line_of
  same_line pair t =
      let (one, first) = named_event are pair.earlier.position pair.earlier.event t.first.is in
      let (other, second) = named_event are pair.later.position pair.later.event t.second.is in
      let is = At-one t.races.first t.first in
      let accessed : Accesses pair.earlier.event t.races.conflict.variable
      = subst (λ e. Accesses e t.races.conflict.variable) is t.races.conflict.first in
      let a = same_access form k first in
      let b = same_access form k second in
      let v = same_variable k first.operation (t.races.conflict.variable, accessed) in
      let first_after = together (access_parts form after pair.earlier.event) in
      let second_before = together (access_parts form before pair.later.event) in
      ap (λ x. line_of form x (together (access_parts form before pair.earlier.event)) second_before) v
      ∙ ap (λ x. line_of form (name_at after.variables (variable_of pair.earlier.event.operation)) x second_before) a
      ∙ ap (λ x. line_of form (name_at after.variables (variable_of pair.earlier.event.operation)) first_after x) b

  same_object : (pair : Pair) → IsTold events pair → race_object before pair ≡ race_object after pair
  unfolding object_of race_object
  same_object pair t =
      let (one, first) = named_event are pair.earlier.position pair.earlier.event t.first.is in
      let (other, second) = named_event are pair.later.position pair.later.event t.second.is in
      let is = At-one t.races.first t.first in
      let accessed : Accesses pair.earlier.event t.races.conflict.variable
      = subst (λ e. Accesses e t.races.conflict.variable) is t.races.conflict.first in
      let a = same_access_object k first in
      let b = same_access_object k second in
      let v = same_variable k first.operation (t.races.conflict.variable, accessed) in
      ap (λ x. object_of x (access_object before pair.earlier.event) (access_object before pair.later.event)) v
      ∙ ap (λ x. object_of (name_at after.variables (variable_of pair.earlier.event.operation)) x (access_object before pair.later.event)) a
      ∙ ap (λ x. object_of (name_at after.variables (variable_of pair.earlier.event.operation)) (access_object after pair.earlier.event) x) b

  same_objects_of : (pairs : List Pair) → ((pair : Pair) → Contains pairs pair → IsTold events pair) → race_objects before pairs ≡ race_objects after pairs
  same_objects_of [] told = refl
  same_objects_of (pair ∷ pairs) told =
      let first = same_object pair (told pair (0, omega arith, refl)) in
      let rest = same_objects_of pairs (λ p (at, lt, is). told p (suc at, omega arith, is)) in
      ap (λ t. t ++ race_objects before pairs) first ∙ ap (λ t. race_object after pair ++ t) rest

  same_lines_of : (pairs : List Pair) → ((pair : Pair) → Contains pairs pair → IsTold events pair) → race_lines form before pairs ≡ race_lines form after pairs
  same_lines_of [] told = refl
  same_lines_of (pair ∷ pairs) told =
      let first = same_line pair (told pair (0, omega arith, refl)) in
      let rest = same_lines_of pairs (λ p (at, lt, is). told p (suc at, omega arith, is)) in
      ap (λ t. t ++ race_lines form before pairs) first ∙ ap (λ t. race_line form after pair ++ t) rest

  pub same_lines : (layout : Layout) (sought : Sought) (pairs : List Pair) → AreSought sought events pairs
      → pair_lines layout form before pairs ≡ pair_lines layout form after pairs
  same_lines Words sought pairs t = same_lines_of pairs (sought-told sought events pairs t)
  same_lines Objects sought pairs t = same_objects_of pairs (sought-told sought events pairs t)

-- ---- one event more

pair_lines-append : (layout : Layout) (form : Form) (naming : Naming) (xs ys : List Pair)
    → pair_lines layout form naming xs ++ pair_lines layout form naming ys ≡ pair_lines layout form naming (xs ++ ys)
pair_lines-append Words form naming xs ys = sym (flat_map-append (race_line form naming) xs ys)
pair_lines-append Objects form naming xs ys = sym (flat_map-append (race_object naming) xs ys)

shown-append : (layout : Layout) (form : Form) (group : Bool) (naming : Naming) (xs ys : List Pair)
    → (if group then [] else pair_lines layout form naming xs) ++ (if group then [] else pair_lines layout form naming ys)
    ≡ (if group then [] else pair_lines layout form naming (xs ++ ys))
shown-append layout form true naming xs ys = refl
shown-append layout form false naming xs ys = pair_lines-append layout form naming xs ys

shown-same : (layout : Layout) (form : Form) (sought : Sought) (group : Bool) {before after : Naming} {said : List Said} {events : List Event}
    (pairs : List Pair) → KeepsAll before after → AreEvents before said events → AreSought sought events pairs
    → (if group then [] else pair_lines layout form before pairs) ≡ (if group then [] else pair_lines layout form after pairs)
shown-same layout form sought true pairs k are t = refl
shown-same layout form sought false pairs k are t = same_lines form k are layout sought pairs t

-- the detector counts the events
taken-position : (sought : Sought) (events : List Event) (n : ℕ) (detector : RaceDetector) → HasTaken sought events n detector → position_of detector ≡ n
taken-position AllRaces events n (All detector) h = h.position
taken-position AllRaces events n (Sure detector) h = absurd h
taken-position SureRaces events n (All detector) h = absurd h
taken-position SureRaces events n (Sure detector) h = h.position

module _ {form : Form} {asked : Asked} (before after : Judged) (one : Said) (event : Event) (old new : List ℕ)
    (mentioned : MentionsAll one.saying (naming_of before.names) (naming_of after.names)) (is : IsEvent (naming_of after.names) one event)
    (small : position_of before.detector + 1 < 2 ^ 64)
    (detects : (sought : Sought) (events : List Event) (n : ℕ) → At events n event → HasTaken sought events n before.detector
    → HasTaken sought events (n + 1) after.detector × AreSoughtAt sought events n after.told.items)
    (looks : (events : List Event) (n : ℕ) → n + 1 < 2 ^ 64 → At events n event → HasLooked events n before.finder → HasLooked events (n + 1) after.finder)
    (permits : asked.strict ≡ true → FindsNone after.finder)
    (races : after.races ≡ before.races + length after.told.items)
    (tells : IsTelling form asked (naming_of after.names) after.told.items before.groups after.groups old new) where
  pub judged_one : HasJudgedOne form asked one before old after new
  judged_one said told h =
      let k = keeps_names mentioned in
      let events = h.events in
      let next = events ++ event ∷ [] in
      let position = taken-position asked.sought _ _ before.detector (h.taken []) in
      let long = length-append events (event ∷ []) in
      let at : (more : List Event) → At (events ++ event ∷ more) (length events) event = λ more. record { is = slice_get-next events event more } in
      let both = λ (more : List Event). detects asked.sought (events ++ event ∷ more) (length events) (at more) (h.taken (event ∷ more)) in
      let small_here : length events + 1 < 2 ^ 64 = omega (arith, position, small) in
      let longer_by : length events + 1 ≡ length next = omega (arith, long) in
      let looked : (more : List Event) → HasLooked (next ++ more) (length next) after.finder
      = λ more. subst (λ n. HasLooked (next ++ more) n after.finder) longer_by
      (subst (λ es. HasLooked es (length events + 1) after.finder) (sym (append_assoc events (event ∷ []) more))
      (looks (events ++ event ∷ more) (length events) small_here (at more) (h.looked (event ∷ more)))) in
      let are_told = sought-push asked.sought events event h.pairs after.told.items h.are_told (both []).1 in (
        (if asked.group then [] else pair_lines asked.layout form (naming_of after.names) after.told.items),
        tells.text,
        record {
          naming = naming_more one h.naming mentioned;
          events = next;
          are = events_push (keeps_events k h.are) is;
          taken = λ more. subst (λ n. HasTaken asked.sought (next ++ more) n after.detector) longer_by
              (subst (λ es. HasTaken asked.sought es (length events + 1) after.detector) (sym (append_assoc events (event ∷ []) more)) (both more).0);
          looked = looked;
          permitted = λ strict. subst (λ es. IsFirstFault es (length next) None) (append-nil next) (permits strict _ _ (looked []));
          pairs = h.pairs ++ after.told.items;
          are_told = are_told;
          counted = races ∙ ap (λ n. n + length after.told.items) h.counted ∙ sym (length-append h.pairs after.told.items);
          grouped = tells.grouped h.pairs h.grouped;
          text = ap (λ t. t ++ (if asked.group then [] else pair_lines asked.layout form (naming_of after.names) after.told.items))
              (h.text ∙ shown-same asked.layout form asked.sought asked.group h.pairs k h.are h.are_told)
              ∙ shown-append asked.layout form asked.group (naming_of after.names) h.pairs after.told.items;
        },
      )

-- ---- the first event that no program would give

-- where there is none, none is found
none_found : (events : List Event) (n : ℕ) (found : Option IllFormed) → IsFirstFault events n None → IsFirstFault events n found → found ≡ None
none_found events n None none is = refl
none_found events n (Some fault) none (k, lt, at, ill) = absurd (none k ill.event fault.reason lt ill.at ill.holds)

-- where there is none before the last one, it is that
fault_last : (events : List Event) (event : Event) (fault : IllFormed) → IsFirstFault (events ++ event ∷ []) (length events) None
    → IsFirstFault (events ++ event ∷ []) (length (events ++ event ∷ [])) (Some fault) → fault.event ≡ event
fault_last events event fault none (k, lt, at, ill) =
    elim (cases_lt k (length events)) [
      | inl before ↦ absurd (none k ill.event fault.reason before ill.at ill.holds)
      | inr behind ↦
          let long = length-append events (event ∷ []) in
          let here : k ≡ length events = omega arith in
          let last : At (events ++ event ∷ []) (length events) event = record { is = slice_get-next events event [] } in
          At-one (subst (λ i. At (events ++ event ∷ []) i fault.event) here at) last
    ]

pub judged_ill : {form : Form} {asked : Asked} (before : Judged) (after : Naming) (finder : FaultFinder) (one : Said) (event : Event) (halt : Halt)
    → MentionsAll one.saying (naming_of before.names) after → IsEvent after one event → position_of before.detector + 1 < 2 ^ 64
    → ((events : List Event) (n : ℕ) → n + 1 < 2 ^ 64 → At events n event → HasLooked events n before.finder → HasLooked events (n + 1) finder)
    → FindsIll asked after finder halt → HasHaltedOne form asked one before halt
judged_ill {form} {asked} before after finder one event halt mentioned is small looks found said told h ill e =
    let (strict, here) = subst (λ x. FindsIll asked after finder x) e found in
    let (fault, finds, is_ill) = here in
    let (on_line, why) = is_ill in
    let events = h.events in
    let next = events ++ event ∷ [] in
    let position = taken-position asked.sought _ _ before.detector (h.taken []) in
    let small_here : length events + 1 < 2 ^ 64 = omega (arith, position, small) in
    let at : At next (length events) event = record { is = slice_get-next events event [] } in
    let looked = looks next (length events) small_here at (h.looked (event ∷ [])) in
    let long = length-append events (event ∷ []) in
    let longer_by : length events + 1 ≡ length next = omega (arith, long) in
    let first : IsFirstFault next (length next) (Some fault)
    = subst (λ n. IsFirstFault next n (Some fault)) longer_by (finds next (length events + 1) looked) in
    let so_far : IsFirstFault events (length events) before.finder.found
    = subst (λ es. IsFirstFault es (length events) before.finder.found) (append-nil events) (h.looked []).found in
    let none = none_found events (length events) before.finder.found (h.permitted strict) so_far in
    let none_here : IsFirstFault next (length events) None
    = subst (λ f. IsFirstFault next (length events) f) none (h.looked (event ∷ [])).found in
    let same = fault_last events event fault none_here first in
    record {
      strict = strict;
      on_line = on_line ∙ ap (λ (x : Event). x.line) same ∙ is.line;
      first = record {
        naming = after;
        events = next;
        fault = fault;
        trace = record { names = naming_more one h.naming mentioned; numbered = events_push (keeps_events (keeps_names mentioned) h.are) is };
        first = first;
        on_line = on_line;
        why = why;
      };
    }

-- ---- all is told

few : (group : Bool) (pairs : List Pair) → length pairs < 2 ^ 64 → length (if group then pairs else []) < 2 ^ 64
few true pairs small = small
few false pairs small = omega arith

pub told_all : (form : Form) (asked : Asked) (judged : Judged) (groups : List Group) (fault : Option IllFormed) (count : ℕ)
    (old new : List ℕ) (status : ℕ) → count ≡ position_of judged.detector
    → new ≡ old ++ end_lines asked.layout form (naming_of judged.names) groups fault judged.races count
    → ((pairs : List Pair) → length pairs < 2 ^ 64 → AreGrouped pairs judged.groups → AreGroups pairs groups)
    → ((events : List Event) (n : ℕ) → HasLooked events n judged.finder → IsFirstFault events n fault)
    → judged.races < 2 ^ 64 → status ≡ (if judged.races == 0 then 0 else 3) → HasToldAll form asked judged old new status
told_all form asked judged groups fault count old new status count_is is lists finds small gives said told h =
    let naming = naming_of judged.names in
    let more = end_lines asked.layout form naming groups fault judged.races count in
    let front = if asked.group then [] else pair_lines asked.layout form naming h.pairs in
    let position = count_is ∙ taken-position asked.sought _ _ judged.detector (h.taken []) in
    let small_pairs : length h.pairs < 2 ^ 64 = omega (arith, h.counted, small) in
    let all : h.events ++ [] ≡ h.events = append-nil h.events in (
      more,
      is,
      record {
        naming = naming;
        events = h.events;
        pairs = h.pairs;
        groups = groups;
        fault = fault;
        trace = record { names = h.naming; numbered = h.are };
        are_told = h.are_told;
        are_groups = lists _ (few asked.group h.pairs small_pairs) h.grouped;
        first_fault = subst (λ es. IsFirstFault es (length h.events) fault) all (finds _ _ (h.looked []));
        permitted = h.permitted;
        text = ap (λ t. t ++ more) h.text
            ∙ ap (λ n. front ++ end_lines asked.layout form naming groups fault n count) h.counted
            ∙ ap (λ n. front ++ end_lines asked.layout form naming groups fault (length h.pairs) n) position;
        answer = gives ∙ ap (λ n. if n == 0 then 0 else 3) h.counted;
      },
    )

-- what is judged is told
pub told_of : {form : Form} {asked : Asked} {said : List Said} {told : List ℕ} {judged : Judged} → HasJudged form asked said told judged
    → IsToldOf form asked said told
told_of {judged = judged} h = record {
  naming = naming_of judged.names;
  events = h.events;
  pairs = h.pairs;
  trace = record { names = h.naming; numbered = h.are };
  permitted = h.permitted;
  are_told = h.are_told;
  text = h.text;
}

-- before any event
pub judged_none : (form : Form) (asked : Asked) (judged : Judged)
    → naming_of judged.names ≡ record { threads = []; variables = []; locks = []; barriers = []; locations = [] }
    → ((events : List Event) → HasTaken asked.sought events 0 judged.detector) → ((events : List Event) → HasLooked events 0 judged.finder)
    → AreGrouped [] judged.groups → judged.races ≡ 0 → HasJudged form asked [] [] judged
judged_none form asked judged names taken looked grouped races = record {
  naming = subst (λ n. IsNaming [] n) (sym names) (record {
    threads = nothing_named;
    variables = nothing_named;
    locks = nothing_named;
    barriers = nothing_named;
    locations = nothing_named;
  });
  events = [];
  are = no_events;
  taken = taken;
  looked = looked;
  permitted = λ strict k a reason lt at. absurd (omega arith);
  pairs = [];
  are_told = sought-nothing asked.sought;
  counted = races;
  grouped = no_pairs asked.group;
  text = no_text asked.group asked.layout;
}
  where
    no_pairs : (g : Bool) → AreGrouped (let none : List Pair = [] in if g then none else none) judged.groups
    no_pairs true = grouped
    no_pairs false = grouped

    no_text : (g : Bool) (layout : Layout) → (let none : List ℕ = [] in none) ≡ (if g then [] else pair_lines layout form (naming_of judged.names) [])
    no_text true layout = refl
    no_text false Words = refl
    no_text false Objects = refl

abbrev status_of : ℕ → ℕ
status_of n = if n == 0 then 0 else 3

pub status_none : (n : ℕ) → n ≡ 0 → status_of n ≡ 0
status_none n e = ap (λ b. let none : ℕ = 0 in let some : ℕ = 3 in if b then none else some) (eq-eqb n 0 e)

pub status_some : (n : ℕ) → (n ≡ 0 → ⊥) → status_of n ≡ 3
status_some n some = go (n == 0) refl
  where
    go : (b : Bool) → (n == 0) ≡ b → (let none : ℕ = 0 in let raced : ℕ = 3 in if b then none else raced) ≡ 3
    go true e = absurd (some (eqb-true n 0 e))
    go false e = refl

pub telling_as : {form : Form} {asked : Asked} {naming : Naming} {xs ys : List Pair} {before after : Groups} {old new : List ℕ} → xs ≡ ys
    → IsTelling form asked naming xs before after old new → IsTelling form asked naming ys before after old new
telling_as {form} {asked} {naming} {xs} {ys} {before} {after} {old} {new} e t = subst (λ ts. IsTelling form asked naming ts before after old new) e t

pub written : (out text start x next slice : List ℕ) → next ≡ out ++ slice → slice ≡ text → text ≡ start ++ x → start ≡ [] → next ≡ out ++ x
written out text start x next slice a b c d = a ∙ ap (λ t. out ++ t) (b ∙ c ∙ ap (λ t. t ++ x) d)
