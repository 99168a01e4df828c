-- What is said of claims.
use Rattle.std.proofs.Common.{◌≡◌, ℕ, ◌<◌, ◌≤◌, List, Bool, true, false, length, get_or, inl, inr, refl, sym, subst, ap, ◌∙◌, arith}
use Rattle.std.specs.Prelude.{◌⊎◌, ◌↔◌, IsTrue, MatchOption, Option, Some, None, max, min, slice_get}
use Rattle.std.proofs.lemmas.Bool.{cases_eq}
use Rattle.std.proofs.lemmas.Option.{slice_get-get_or}
use Rattle.lrc_races_trace.specs.declared.event.Event.{Event}
use Rattle.lrc_races_trace.specs.declared.event.Operation.TheVariants.{Read}
use Rattle.lrc_races_trace.specs.Trace.{At, Accesses, Writes}
use Rattle.lrc_races_trace.specs.Races.{Conflict}
use Rattle.lrc_races_trace.proofs.Positions.{At-one, At-within}
use Rattle.lrc_races_text.specs.declared.asked.Sought.{Sought}
use Rattle.lrc_races_text.specs.declared.asked.Sought.TheVariants.{AllRaces, SureRaces}
use Rattle.lrc_races_text.specs.Naming.{Naming, Numbers}
use Rattle.lrc_races_locations.specs.Rivals.{Rivals, Separates}
use Rattle.lrc_races_witness.specs.declared.relation.Access.{Access}
use Rattle.lrc_races_witness.specs.Relations.{AreByLine, HasAccess, IsThatOn}
use Rattle.lrc_races_witness.proofs.Lines.{in_order, one_line}
use Rattle.lrc_races_score.specs.Claims.{event, pair}
use Rattle.lrc_races_claims.specs.declared.judging.Facts.{Facts}
use Rattle.lrc_races_claims.specs.declared.verdict.Reason.TheVariants.{OneThread, TwoVariables, BothRead, Separated, NoEarlier}
use Rattle.lrc_races_claims.specs.declared.verdict.Verdict.{Verdict}
use Rattle.lrc_races_claims.specs.declared.verdict.Verdict.TheVariants.{True, False}
use Rattle.lrc_races_claims.specs.Racing.{RacingAt, AreMarked}
use Rattle.lrc_races_claims.specs.Firsts.{IsAny, IsMarked, IsFirstLine, line_of}
use Rattle.lrc_races_claims.specs.Judging.{AreFacts}
use Rattle.lrc_races_claims.specs.Known.{IsUnknown, IsOnlyNumber}
use Rattle.lrc_races_claims.specs.Truth.{one_thread, two_variables, both_read, separated, rivals, LinesAreJudged, both, SomeIsOf, SomeRacesOf, IsFirstOf}
use Rattle.lrc_races_claims.specs.Truth.{IsJudged, event_true, event_false, pair_judged}

-- ---- the access on a line

module _ (sought : Sought) (naming : Naming) (events : List Event) (last line : ℕ) (access : Access) (is : IsThatOn events line access) (marks : List Bool)
    (marked : AreMarked sought events (length events) marks) (d : Bool) where
  mark : slice_get marks access.position ≡ Some (get_or marks access.position d)
  mark = let within = At-within is.is.at in let long = marked.long in slice_get-get_or marks access.position d (omega arith)

  pub races_event : get_or marks access.position d ≡ true → IsJudged sought naming events last (event line) True
  races_event set = event_true is.is ((marked.exact access.position (get_or marks access.position d) mark).0 set)

  pub free_event : get_or marks access.position d ≡ false → IsJudged sought naming events last (event line) (False NoEarlier)
  free_event unset = event_false is.is (λ races. let set = (marked.exact access.position (get_or marks access.position d) mark).1 races in
      let t : get_or marks access.position d ≡ true = set in let never : ⊥ = cc in never)

-- ---- two accesses

rivals_of : (sought : Sought) (events : List Event) (i j : ℕ) (a b : Event) → i < j → At events i a → At events j b → Conflict a b
    → ¬ Separates sought events i j → Rivals sought events i j
rivals_of AllRaces events i j a b lt at at' conflict free =
    record { a = a; b = b; earlier = lt; first = at; second = at'; conflict = conflict; unordered = free }
rivals_of SureRaces events i j a b lt at at' conflict free =
    record { a = a; b = b; earlier = lt; first = at; second = at'; conflict = conflict; free = free }

reads : (is_write : Bool) (a : Event) (v : ℕ) → (IsTrue is_write ↔ Writes a v) → is_write ≡ false → Accesses a v → a.operation ≡ Read v
reads is_write a v writes unset (inl r) = r
reads is_write a v writes unset (inr w) = let is : is_write ≡ true = writes.1 w in let never : ⊥ = cc in absurd never

module _ (sought : Sought) (events : List Event) (last lesser greater : ℕ) (one other : Access) (is : IsThatOn events lesser one)
    (is' : IsThatOn events greater other) where
  pub of_one_thread : one.thread ≡ other.thread → LinesAreJudged sought events last lesser greater (False (OneThread one.thread))
  of_one_thread same =
      subst (λ t. LinesAreJudged sought events last lesser greater (False (OneThread t))) is.of (both is.is is'.is (one_thread (is.of ∙ same ∙ sym is'.of)))

  module _ (apart : one.thread ≡ other.thread → ⊥) where
    differ : is.event.thread ≡ is'.event.thread → ⊥
    differ e = apart (sym is.of ∙ e ∙ is'.of)

    pub of_two_variables : (one.variable ≡ other.variable → ⊥) → LinesAreJudged sought events last lesser greater (False TwoVariables)
    of_two_variables other_one = both is.is is'.is (two_variables differ other_one)

    module _ (same : one.variable ≡ other.variable) where
      pub of_readers : one.is_write ≡ false → other.is_write ≡ false → LinesAreJudged sought events last lesser greater (False BothRead)
      of_readers unset unset' =
          both is.is is'.is (both_read differ same (reads one.is_write is.event one.variable is.writes unset is.is.accesses)
          (reads other.is_write is'.event other.variable is'.writes unset' is'.is.accesses))

      module _ (writes : IsTrue one.is_write ⊎ IsTrue other.is_write) where
        conflict : Conflict is.event is'.event
        conflict = record {
          variable = one.variable;
          apart = differ;
          first = is.is.accesses;
          second = subst (λ v. Accesses is'.event v) (sym same) is'.is.accesses;
          writes = elim writes [
            | inl w ↦ inl (is.writes.0 w)
            | inr w ↦ inr (subst (λ v. Writes is'.event v) (sym same) (is'.writes.0 w))
          ];
        }

        pub of_separated : Separates sought events one.position other.position → LinesAreJudged sought events last lesser greater (False (Separated lesser greater))
        of_separated separates =
            subst (λ m. LinesAreJudged sought events last lesser greater (False (Separated lesser m))) is'.is.on
            (subst (λ m. LinesAreJudged sought events last lesser greater (False (Separated m is'.event.line))) is.is.on
            (both is.is is'.is (separated conflict separates)))

        pub of_rivals : one.position < other.position → ¬ Separates sought events one.position other.position
            → LinesAreJudged sought events last lesser greater True
        of_rivals lt free =
            both is.is is'.is (rivals (rivals_of sought events one.position other.position is.event is'.event lt is.is.at is'.is.at conflict free))

-- of two threads, that on the lesser line is earlier
pub ordered : (events : List Event) (lesser greater : ℕ) (one other : Access) → AreByLine events → lesser ≤ greater → IsThatOn events lesser one
    → IsThatOn events greater other → (one.thread ≡ other.thread → ⊥) → one.position < other.position
ordered events lesser greater one other by_line le is is' apart =
    elim (cases_eq lesser greater) [
      | inl same ↦
          let at = one_line events by_line is.is.at is'.is.at (is.is.on ∙ same ∙ sym is'.is.on) in
          let e : is.event ≡ is'.event = At-one (subst (λ m. At events m is.event) at is.is.at) is'.is.at in
          absurd (apart (sym is.of ∙ ap (λ (x : Event). x.thread) e ∙ is'.of))
      | inr other_line ↦ in_order events by_line (let lt : lesser < greater = omega arith in lt) is is'
    ]

-- ---- the first access of a variable that races

module _ (sought : Sought) (naming : Naming) (events : List Event) (name : List ℕ) (facts : Facts) (are : AreFacts sought events facts) (names : List (List ℕ))
    (same : naming.variables ≡ names) where
  unknown : (v : ℕ) → IsUnknown names name → Numbers naming.variables name v → ⊥
  unknown v none numbers = none v (subst (λ (l : List (List ℕ)). Numbers l name v) same numbers)

  pub none_known : IsUnknown names name → ¬ SomeIsOf naming events name
  none_known none some = unknown some.number none some.named

  module _ (number : ℕ) (only : IsOnlyNumber names name number) where
    numbered : Numbers naming.variables name number
    numbered = subst (λ (l : List (List ℕ)). Numbers l name number) (sym same) only.is

    is_only : (v : ℕ) → Numbers naming.variables name v → v ≡ number
    is_only v numbers = only.only v (subst (λ (l : List (List ℕ)). Numbers l name v) same numbers)

    pub none_of : line_of facts.firsts.any number ≡ None → ¬ SomeIsOf naming events name
    none_of e some =
        let none = subst (λ (o : Option ℕ). IsFirstLine (length events) (IsAny events facts.marks.items number) o) e (are.firsts.any number) in
        none some.position some.is (At-within some.access.at)
        (record { at = some.access.at; accesses = subst (λ v. Accesses some.is v) (is_only some.number some.named) some.access.accesses })

    pub some_of : (line : ℕ) → line_of facts.firsts.any number ≡ Some line → SomeIsOf naming events name
    some_of line e =
        let one = subst (λ (o : Option ℕ). IsFirstLine (length events) (IsAny events facts.marks.items number) o) e (are.firsts.any number) in
        record {
          number = number;
          named = numbered;
          position = one.position;
          is = one.event;
          access = record { at = one.these.at; accesses = one.these.accesses };
        }

    -- what races is marked
    marks : (v k : ℕ) (c : Event) → RacingAt sought events v k c → v ≡ number → IsMarked events facts.marks.items number k c
    marks v k c racing e =
        let within = At-within racing.access.at in
        let long = are.marked.long in
        let at = slice_get-get_or facts.marks.items k true (omega arith) in
        record {
          at = racing.access.at;
          accesses = subst (λ w. Accesses c w) e racing.access.accesses;
          mark = subst (λ (b : Bool). slice_get facts.marks.items k ≡ Some b) ((are.marked.exact k (get_or facts.marks.items k true) at).1 racing.races) at;
        }

    pub none_races : line_of facts.firsts.marked number ≡ None → ¬ SomeRacesOf sought naming events name
    none_races e some =
        let none = subst (λ (o : Option ℕ). IsFirstLine (length events) (IsMarked events facts.marks.items number) o) e (are.firsts.marked number) in
        none some.position some.is (At-within some.racing.access.at) (marks some.number some.position some.is some.racing (is_only some.number some.named))

    pub first_races : (line : ℕ) → line_of facts.firsts.marked number ≡ Some line → IsFirstOf sought naming events name line
    first_races line e =
        let one = subst (λ (o : Option ℕ). IsFirstLine (length events) (IsMarked events facts.marks.items number) o) e (are.firsts.marked number) in
        record {
          number = number;
          named = numbered;
          position = one.position;
          is = one.event;
          racing = record {
            racing = record {
              access = record { at = one.these.at; accesses = one.these.accesses };
              races = (are.marked.exact one.position true one.these.mark).0 refl;
            };
            first = λ k other racing. one.first k other (At-within racing.access.at) (marks number k other racing refl);
          };
          on = one.on;
        }

pub some_races : (sought : Sought) (naming : Naming) (events : List Event) (name : List ℕ) (line : ℕ) → IsFirstOf sought naming events name line
    → SomeRacesOf sought naming events name
some_races sought naming events name line is =
    record { number = is.number; named = is.named; position = is.position; is = is.is; racing = is.racing.racing }

pub has_access : {events : List Event} {line : ℕ} {access : Access} → IsThatOn events line access → HasAccess events line
has_access {access = access} is = (access.position, access.variable, is.event, is.is)

-- ---- two lines

pub pair_of_lines : (sought : Sought) (naming : Naming) (events : List Event) (last line other lesser greater : ℕ) (verdict : Verdict) → lesser ≡ min line other
    → greater ≡ max line other → LinesAreJudged sought events last lesser greater verdict → IsJudged sought naming events last (pair line other) verdict
pair_of_lines sought naming events last line other lesser greater verdict e f judged =
    pair_judged (subst (λ m. LinesAreJudged sought events last m (max line other) verdict) e (subst (λ m. LinesAreJudged sought events last lesser m verdict) f judged))

pub lesser_first : (line other lesser greater : ℕ) → lesser ≡ min line other → greater ≡ max line other → lesser ≤ greater
lesser_first line other lesser greater e f = omega (arith, e, f)

-- a number that is found
pub known_number : (names : List (List ℕ)) (name : List ℕ) (found : Option ℕ) (number : ℕ) → found ≡ Some number
    → MatchOption found (IsUnknown names name) (IsOnlyNumber names name) → IsOnlyNumber names name number
known_number names name found number is known =
    subst (λ (o : Option ℕ). MatchOption o (IsUnknown names name) (IsOnlyNumber names name)) is known
