-- The events of what acts say stand for these acts.
use Rattle.std.proofs.Common.{◌≡◌, ℕ, zero, suc, ◌+◌, ◌^◌, ◌<◌, List, [], ◌∷◌, length, inl, inr, sym, subst, refl, ◌∙◌, ap, arith, All}
use Rattle.std.specs.Prelude.{◌≢◌, AllPairs, Some, codes, decimal, slice_get, slice_index}
use Rattle.std.proofs.lemmas.List.Elements.{All-head, All-tail}
use Rattle.std.proofs.lemmas.Option.{same_Some, slice_get_within}
use Rattle.lrc_trace.specs.declared.act.Act.{Act}
use Rattle.lrc_trace.specs.declared.act.Deed.{Deed}
use Rattle.lrc_trace.specs.declared.act.Deed.TheVariants as deeds
use Rattle.lrc_trace.specs.Conflict.{Accesses}
use Rattle.lrc_trace.specs.Run.{Does, act_of}
use Rattle.lrc_acts.specs.Printed.{IsRanged}
use Rattle.lrc_races_trace.specs.declared.event.Event.{Event}
use Rattle.lrc_races_trace.specs.declared.event.Operation.{Operation}
use Rattle.lrc_races_trace.specs.Trace.{At}
use Rattle.lrc_races_lines.specs.declared.line.Kind.TheVariants as kinds
use Rattle.lrc_races_text.specs.Naming.{Naming, IsOperation, IsEvent, AreEvents as AreNumbered, event_more, IsTrace, Numbers}
use Rattle.lrc_races_text.specs.Naming.{read, write, acquire, release, arrive, depart, idle}
use Rattle.lrc_races_laws.specs.Traces.{Numbers as Numbering, Locks, operation_of, AreEvents}
use Rattle.lrc_races_laws.specs.Said.{saying_of_act, acts_said, kind_of_deed, target_of_deed}
use Rattle.lrc_races_laws.specs.Telling.{ArePlacedActs}
use Rattle.lrc_races_laws.proofs.Bytes.{one_decimal}
use Rattle.lrc_races_laws.proofs.Names.{place_of, number_is, one_name}
use Rattle.lrc_races_laws.proofs.StepEvents.{as_many, named_place}

-- ---- the event of an act

pub record IsEventOf (lines : List ℕ) (naming : Naming) (k : ℕ) (act : Act) (events : List Event) (place : ℕ) : Type 0 where
  pub event : Event
  pub at : At events place event
  pub is : IsEvent naming (record { line = k + 1; saying = saying_of_act (slice_index lines k) act }) event

event_of : (lines : List ℕ) (naming : Naming) (before : ℕ) (acts : List Act) (events : List Event) → AreNumbered naming (acts_said before lines acts) events
    → (k : ℕ) (act : Act) → slice_get acts k ≡ Some act → IsEventOf lines naming (before + k) act events k
event_of lines naming before [] events are k act e = let never : ⊥ = cc in absurd never
event_of lines naming before (b ∷ acts) events (event_more {event = a} {events = rest} is are) zero act e =
    let same : b ≡ act = same_Some b act e in
    let start : before ≡ before + zero = omega arith in
    record {
      event = a;
      at = record { is = refl };
      is = subst (λ n. IsEvent naming (record { line = n + 1; saying = saying_of_act (slice_index lines n) act }) a) start
          (subst (λ (c : Act). IsEvent naming (record { line = before + 1; saying = saying_of_act (slice_index lines before) c }) a) same is);
    }
event_of lines naming before (b ∷ acts) events (event_more {event = a} {events = rest} is are) (suc k) act e =
    let h = event_of lines naming (before + 1) acts rest are k act e in
    let shift : before + 1 + k ≡ before + suc k = omega arith in
    let at = h.at in
    record {
      event = h.event;
      at = record { is = at.is };
      is = subst (λ n. IsEvent naming (record { line = n + 1; saying = saying_of_act (slice_index lines n) act }) h.event) shift h.is;
    }

said_many : (before : ℕ) (lines : List ℕ) (acts : List Act) → length (acts_said before lines acts) ≡ length acts
said_many before lines [] = refl
said_many before lines (act ∷ acts) = ap suc (said_many (before + 1) lines acts)

pub ranged_at : (acts : List Act) → All IsRanged acts → (k : ℕ) (act : Act) → slice_get acts k ≡ Some act → IsRanged act
ranged_at [] all k act e = let never : ⊥ = cc in absurd never
ranged_at (b ∷ acts) all zero act e = subst IsRanged (same_Some b act e) (All-head IsRanged b acts all)
ranged_at (b ∷ acts) all (suc k) act e = ranged_at acts (All-tail IsRanged b acts all) k act e

-- ---- the numbers of the names of a trace

abbrev pub numbering_of : Naming → Numbering
numbering_of naming = record {
  thread = λ node. place_of naming.threads (decimal node);
  variable = λ w. place_of naming.variables (decimal w);
  lock = λ l. place_of naming.locks (decimal l);
  barrier = place_of naming.barriers (codes "0");
}

-- a name that is the digits of a number of few digits
record IsNumberIn (names : List (List ℕ)) (n : ℕ) : Type 0 where
  number : ℕ
  named : Numbers names (decimal n) number
  few : n < 10 ^ 64

module _ (lines : List ℕ) (acts : List Act) (naming : Naming) (events : List Event)
    (trace : IsTrace (acts_said 0 lines acts) naming events) (ranged : All IsRanged acts) where
  event_at : (k : ℕ) (act : Act) → slice_get acts k ≡ Some act → IsEventOf lines naming (0 + k) act events k
  event_at k act e = event_of lines naming 0 acts events trace.numbered k act e

  doing : (deed : Deed) (o : Operation) → IsOperation naming (target_of_deed deed) (kind_of_deed deed) o → o ≡ operation_of (numbering_of naming) deed
  doing (deeds.Read w value) o (read {v = v} n) =
      ap Operation.Read (number_is naming.variables (decimal w) v trace.names.variables.distinct n)
  doing (deeds.Write w value) o (write {v = v} n) =
      ap Operation.Write (number_is naming.variables (decimal w) v trace.names.variables.distinct n)
  doing (deeds.Acquire l) o (acquire {l = m} n) =
      ap Operation.Acquire (number_is naming.locks (decimal l) m trace.names.locks.distinct n)
  doing (deeds.Release l) o (release {l = m} n) =
      ap Operation.Release (number_is naming.locks (decimal l) m trace.names.locks.distinct n)
  doing deeds.Arrive o (arrive {x = x} n) =
      ap Operation.Arrive (number_is naming.barriers (codes "0") x trace.names.barriers.distinct n)
  doing deeds.Depart o (depart {x = x} n) =
      ap Operation.Depart (number_is naming.barriers (codes "0") x trace.names.barriers.distinct n)
  doing deeds.Quiet o idle = refl
  doing (deeds.Print value) o idle = refl
  doing (deeds.Trap cause) o idle = refl
  doing deeds.End o idle = refl

  thread_of : (k p : ℕ) (d : Deed) → Does acts k p d → IsNumberIn naming.threads p
  thread_of k p d does =
      let h = event_at k (act_of p d) does.stands in
      let node = (ranged_at acts ranged k (act_of p d) does.stands).node in
      record { number = h.event.thread; named = h.is.thread; few = omega arith }

  variable_in : (w value : ℕ) (o : Operation) → IsOperation naming (decimal w) kinds.Read o → w < 10 ^ 64 → IsNumberIn naming.variables w
  variable_in w value o (read {v = v} n) few = record { number = v; named = n; few = few }

  written_in : (w value : ℕ) (o : Operation) → IsOperation naming (decimal w) kinds.Write o → w < 10 ^ 64 → IsNumberIn naming.variables w
  written_in w value o (write {v = v} n) few = record { number = v; named = n; few = few }

  word_of : (k p w : ℕ) → Accesses acts k p w → IsNumberIn naming.variables w
  word_of k p w (inl (value, does)) =
      let act = act_of p (deeds.Read w value) in
      let h = event_at k act does.stands in
      let r = (ranged_at acts ranged k act does.stands).deed in
      variable_in w value h.event.operation h.is.operation (omega (arith, r.0))
  word_of k p w (inr (value, does)) =
      let act = act_of p (deeds.Write w value) in
      let h = event_at k act does.stands in
      let r = (ranged_at acts ranged k act does.stands).deed in
      written_in w value h.event.operation h.is.operation (omega (arith, r.0))

  acquired_in : (l : ℕ) (o : Operation) → IsOperation naming (decimal l) kinds.Acquire o → l < 10 ^ 64 → IsNumberIn naming.locks l
  acquired_in l o (acquire {l = m} n) few = record { number = m; named = n; few = few }

  released_in : (l : ℕ) (o : Operation) → IsOperation naming (decimal l) kinds.Release o → l < 10 ^ 64 → IsNumberIn naming.locks l
  released_in l o (release {l = m} n) few = record { number = m; named = n; few = few }

  lock_of : (k p : ℕ) (d : Deed) (l : ℕ) → Does acts k p d → Locks d l → IsNumberIn naming.locks l
  lock_of k p (deeds.Acquire m) l does same =
      let act = act_of p (deeds.Acquire m) in
      let h = event_at k act does.stands in
      let r = (ranged_at acts ranged k act does.stands).deed in
      subst (λ n. IsNumberIn naming.locks n) same (acquired_in m h.event.operation h.is.operation (omega (arith, r)))
  lock_of k p (deeds.Release m) l does same =
      let act = act_of p (deeds.Release m) in
      let h = event_at k act does.stands in
      let r = (ranged_at acts ranged k act does.stands).deed in
      subst (λ n. IsNumberIn naming.locks n) same (released_in m h.event.operation h.is.operation (omega (arith, r)))
  lock_of k p (deeds.Read w value) l does same = absurd same
  lock_of k p (deeds.Write w value) l does same = absurd same
  lock_of k p deeds.Arrive l does same = absurd same
  lock_of k p deeds.Depart l does same = absurd same
  lock_of k p deeds.Quiet l does same = absurd same
  lock_of k p (deeds.Print value) l does same = absurd same
  lock_of k p (deeds.Trap cause) l does same = absurd same
  lock_of k p deeds.End l does same = absurd same

  pub are_events : AreEvents (numbering_of naming) acts events
  are_events = record {
    long = as_many trace.numbered ∙ said_many 0 lines acts;
    same = λ k node deed does.
        let h = event_at k (act_of node deed) does.stands in (
          h.event,
          h.at,
          number_is naming.threads (decimal node) h.event.thread trace.names.threads.distinct h.is.thread,
          doing deed h.event.operation h.is.operation,
        );
    threads = λ i j p q a b does also same. one_of naming.threads p q trace.names.threads.distinct (thread_of i p a does) (thread_of j q b also) same;
    variables = λ i j p q v w does also same. one_of naming.variables v w trace.names.variables.distinct (word_of i p v does) (word_of j q w also) same;
    locks = λ i j p q l m a b does also of by same. one_of naming.locks l m trace.names.locks.distinct (lock_of i p a l does of) (lock_of j q b m also by) same;
  }
    where
      one_of : (names : List (List ℕ)) (n m : ℕ) → AllPairs (λ x y. x ≢ y) names → IsNumberIn names n → IsNumberIn names m
          → place_of names (decimal n) ≡ place_of names (decimal m) → n ≡ m
      one_of names n m distinct a b same =
          let numbers : a.number ≡ b.number = number_is names (decimal n) a.number distinct a.named ∙ same
          ∙ sym (number_is names (decimal m) b.number distinct b.named) in
          one_decimal n m a.few b.few (one_name names (decimal n) (decimal m) a.number b.number a.named b.named numbers)

  act_standing : (k : ℕ) (event : Event) → At events k event → (act : Act) × (slice_get acts k ≡ Some act)
  act_standing k event at =
      let within = slice_get_within events k event at.is in
      let long = as_many trace.numbered ∙ said_many 0 lines acts in
      act_in acts k (omega arith)
    where
      act_in : (xs : List Act) (n : ℕ) → n < length xs → (act : Act) × (slice_get xs n ≡ Some act)
      act_in [] n lt = absurd (omega arith)
      act_in (x ∷ xs) zero lt = (x, refl)
      act_in (x ∷ xs) (suc n) lt = act_in xs n (omega arith)

  pub acts_placed : ArePlacedActs lines naming events
  acts_placed k a at =
      let (act, e) = act_standing k a at in
      let h = event_at k act e in
      let same : h.event ≡ a = same_Some h.event a (sym h.at.is ∙ at.is) in
      let start : 0 + k ≡ k = omega arith in
      let is = subst (λ n. IsEvent naming (record { line = n + 1; saying = saying_of_act (slice_index lines n) act }) a) start
      (subst (λ x. IsEvent naming (record { line = 0 + k + 1; saying = saying_of_act (slice_index lines (0 + k)) act }) x) same h.is) in
      (is.line, named_place naming (decimal (slice_index lines k)) a.location is.location)
