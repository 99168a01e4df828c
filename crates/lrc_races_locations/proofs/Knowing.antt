-- What a detector knows before an access is what comes before it.
use Rattle.std.proofs.Common.{◌≡◌, ℕ, ◌<◌, List, inl, inr, sym, subst, ◌∙◌, ap}
use Rattle.std.specs.Prelude.{Some}
use Rattle.lrc_races_trace.specs.declared.event.Event.{Event}
use Rattle.lrc_races_trace.specs.declared.event.Operation.TheVariants.{Read, Write, Fork, Join, Depart}
use Rattle.lrc_races_trace.specs.Trace.{At, Accesses, got}
use Rattle.lrc_races_trace.specs.Order.{Precedes, program, lock, fork, join, fork_join, barrier, base}
use Rattle.lrc_races_trace.proofs.Positions.{At-one}
use Rattle.lrc_races_trace.proofs.HappensBefore.{Reaches-extends, Reaches-last}
use Rattle.lrc_races_sure.specs.Leading.{Leads}
use Rattle.lrc_races_sure.proofs.Leading.{to-ordered, leads-further}
use Rattle.lrc_races_detector.specs.declared.clocks.Clocks.{Clocks}
use Rattle.lrc_races_detector.specs.Clocks.{row}
use Rattle.lrc_races_detector.specs.Knowing.{AreThreads, OfThread, Before}
use Rattle.lrc_races_sure_pass.specs.Knowing.{AreThreads as AreThreadsSurely}
use Rattle.lrc_races_detector.specs.declared.detector.Detector.{Detector}
use Rattle.lrc_races_sure_pass.specs.declared.detector.SureDetector.{SureDetector}
use Rattle.lrc_races_text.specs.declared.asked.Sought.{Sought}
use Rattle.lrc_races_text.specs.declared.asked.Sought.TheVariants.{AllRaces, SureRaces}
use Rattle.lrc_races_text.specs.declared.race_detector.RaceDetector.{RaceDetector}
use Rattle.lrc_races_text.specs.declared.race_detector.RaceDetector.TheVariants.{All, Sure}
use Rattle.lrc_races_text.specs.Detecting.{HasTaken, position_of}
use Rattle.lrc_races_locations.specs.Rivals.{IsBehind}

module _ (events : List Event) (n v : ℕ) (b : Event) (here : At events n b) (accesses : Accesses b v) where
  thread_before : (k : ℕ) → k < n → OfThread events b.thread k → Precedes events k n
  thread_before k lt (a, at, inl same) = program lt at here same
  thread_before k lt (a, at, inr forks) = fork lt at here forks

  -- an access gets nothing
  no_access_gets : (l : ℕ) → got b.operation ≡ Some l → ⊥
  no_access_gets l e = elim accesses [
    | inl reads ↦ let never : got (Read v) ≡ Some l = sym (ap got reads) ∙ e in cc
    | inr writes ↦ let never : got (Write v) ≡ Some l = sym (ap got writes) ∙ e in cc
  ]

  no_access_joins : (u : ℕ) → b.operation ≡ Join u → ⊥
  no_access_joins u e = elim accesses [
    | inl reads ↦ let never : Read v ≡ Join u = sym reads ∙ e in cc
    | inr writes ↦ let never : Write v ≡ Join u = sym writes ∙ e in cc
  ]

  no_access_departs : (x : ℕ) → b.operation ≡ Depart x → ⊥
  no_access_departs x e = elim accesses [
    | inl reads ↦ let never : Read v ≡ Depart x = sym reads ∙ e in cc
    | inr writes ↦ let never : Write v ≡ Depart x = sym writes ∙ e in cc
  ]

  -- what comes right before it is of its thread, or forks it
  before_access : (k : ℕ) → Precedes events k n → Before n (OfThread events b.thread) k
  before_access k (program {a = a} lt at there e) = (lt, (a, at, inl (e ∙ ap (λ (x : Event). x.thread) (At-one there here))))
  before_access k (lock {l = l} lt at there gives gets) =
      absurd (no_access_gets l (ap (λ (x : Event). got x.operation) (At-one here there) ∙ gets))
  before_access k (fork {a = a} lt at there e) = (lt, (a, at, inr (e ∙ ap (λ (x : Event). Fork x.thread) (At-one there here))))
  before_access k (join {a = a} lt at there e) =
      absurd (no_access_joins a.thread (ap (λ (x : Event). x.operation) (At-one here there) ∙ e))
  before_access k (fork_join {u = u} lt at there e f) =
      absurd (no_access_joins u (ap (λ (x : Event). x.operation) (At-one here there) ∙ f))
  before_access k (barrier {x = x} lt at there e f g) =
      absurd (no_access_departs x (ap (λ (y : Event). y.operation) (At-one here there) ∙ f))

  pub behind_all : (threads : Clocks) → AreThreads events n threads → IsBehind AllRaces events n (row threads b.thread)
  behind_all threads are = record {
    exact = λ i a at lt. (
      λ below.
          let (k, (before, of), reaches) = (are b.thread).sound i a at below in
          Reaches-extends events reaches (base (thread_before k before of)),
      λ h.
          let (k, reaches, last) = Reaches-last events h in
          (are b.thread).complete i k a at (before_access k last) reaches,
    );
  }

  pub behind_surely : (threads : Clocks) → AreThreadsSurely events n threads → IsBehind SureRaces events n (row threads b.thread)
  behind_surely threads are = record {
    exact = λ i a at lt. (
      λ below.
          let (k, (before, of), leads) = (are b.thread).sound i a at below in
          record { through = k; leads = leads; before = base (thread_before k before of) },
      λ h.
          let (m, reaches, last) = Reaches-last events h.before in
          (are b.thread).complete i m a at (before_access m last) (elim reaches [
            | inl same ↦ subst (λ x. Leads events i x) same h.leads
            | inr later ↦ inr (leads-further h.leads (to-ordered later))
          ]),
    );
  }

-- of the detector that is asked for
pub known_all : (sought : Sought) (events : List Event) (n v : ℕ) (b : Event) (thread : ℕ) (kept : RaceDetector) (detector : Detector) (known : List ℕ)
    → HasTaken sought events n kept → At events n b → b.thread ≡ thread → Accesses b v → kept ≡ All detector → known ≡ row detector.threads thread
    → IsBehind sought events n known
known_all AllRaces events n v b thread kept detector known taken here of accesses is e =
    let own = subst (λ (k : RaceDetector). HasTaken AllRaces events n k) is taken in
    subst (λ (x : List ℕ). IsBehind AllRaces events n x) (sym (e ∙ ap (row detector.threads) (sym of)))
    (behind_all events n v b here accesses detector.threads own.threads)
known_all SureRaces events n v b thread kept detector known taken here of accesses is e =
    absurd (subst (λ (k : RaceDetector). HasTaken SureRaces events n k) is taken)

pub known_surely : (sought : Sought) (events : List Event) (n v : ℕ) (b : Event) (thread : ℕ) (kept : RaceDetector) (detector : SureDetector) (known : List ℕ)
    → HasTaken sought events n kept → At events n b → b.thread ≡ thread → Accesses b v → kept ≡ Sure detector → known ≡ row detector.threads thread
    → IsBehind sought events n known
known_surely AllRaces events n v b thread kept detector known taken here of accesses is e =
    absurd (subst (λ (k : RaceDetector). HasTaken AllRaces events n k) is taken)
known_surely SureRaces events n v b thread kept detector known taken here of accesses is e =
    let own = subst (λ (k : RaceDetector). HasTaken SureRaces events n k) is taken in
    subst (λ (x : List ℕ). IsBehind SureRaces events n x) (sym (e ∙ ap (row detector.threads) (sym of)))
    (behind_surely events n v b here accesses detector.threads own.threads)

-- how many events it has taken
pub taken_position : (sought : Sought) (events : List Event) (n : ℕ) (detector : RaceDetector) → HasTaken sought events n detector → position_of detector ≡ n
taken_position AllRaces events n (All detector) taken = taken.position
taken_position AllRaces events n (Sure detector) taken = absurd taken
taken_position SureRaces events n (All detector) taken = absurd taken
taken_position SureRaces events n (Sure detector) taken = taken.position
