-- What act a step of a trace in the form of RAPID stands for.
use Rattle.std.proofs.Common.{◌≡◌, ◌<◌, ◌≤◌, ◌+◌, ◌⊎◌, ℕ, zero, suc, inl, inr, refl, subst, arith, List, [], ◌∷◌}
use Rattle.std.specs.Prelude.{Some, slice_get}
use Rattle.std.proofs.lemmas.Option.{same_Some}
use Rattle.lrc_trace.specs.declared.act.Act.{Act}
use Rattle.lrc_trace.specs.declared.act.Deed.{Deed}
use Rattle.lrc_trace.specs.declared.act.Deed.TheVariants.{Quiet, Print, Read, Write, Acquire, Release, Arrive, Depart, Trap, End}
use Rattle.lrc_trace.specs.Run.{Does}
use Rattle.lrc_acts_text.specs.declared.rapid.Meeting.{Meeting}
use Rattle.lrc_acts_text.specs.declared.rapid.Operation.TheVariants.{Reads, Writes, Acquires, Releases}
use Rattle.lrc_acts_text.specs.Rapid.{RapidStep, lock_of_arrival, meeting_at, passes, rapid_of, rapid_step, rapid_steps}
use Rattle.lrc_acts_text.proofs.Pieces.{found, found_in_range, nowhere, rising, there, there_in_range}

-- the step stands for this deed of a node at a position
pub data Comes (meeting : Meeting) (position node : ℕ) : Deed → RapidStep → Type 0 where
  reading : {w value : ℕ} → Comes meeting position node (Read w value) (rapid_step node position (Reads w))
  writing : {w value : ℕ} → Comes meeting position node (Write w value) (rapid_step node position (Writes w))
  acquiring : {l : ℕ} → Comes meeting position node (Acquire l) (rapid_step node position (Acquires l))
  releasing : {l : ℕ} → Comes meeting position node (Release l) (rapid_step node position (Releases l))
  arriving : Comes meeting position node Arrive (rapid_step node position (Acquires (lock_of_arrival meeting meeting.arrived node)))
  arrived : Comes meeting position node Arrive (rapid_step node position (Releases (lock_of_arrival meeting meeting.arrived node)))
  departing : {q : ℕ} → q < meeting.nodes
      → Comes meeting position node Depart (rapid_step node position (Acquires (lock_of_arrival meeting meeting.departed q)))
  departed : {q : ℕ} → q < meeting.nodes
      → Comes meeting position node Depart (rapid_step node position (Releases (lock_of_arrival meeting meeting.departed q)))

one : (x s : RapidStep) (o : ℕ) → slice_get (x ∷ []) o ≡ Some s → x ≡ s
one x s zero h = same_Some x s h
one x s (suc o) h = absurd (nowhere o s h)

two : (x y s : RapidStep) (o : ℕ) → slice_get (x ∷ y ∷ []) o ≡ Some s → (x ≡ s) ⊎ (y ≡ s)
two x y s zero h = inl (same_Some x s h)
two x y s (suc o) h = inr (one y s o h)

pub comes : (meeting : Meeting) (position node : ℕ) (deed : Deed) (o : ℕ) (s : RapidStep) → slice_get (rapid_steps meeting position node deed) o ≡ Some s
    → Comes meeting position node deed s
comes meeting position node (Read w value) o s h =
    subst (λ (t : RapidStep). Comes meeting position node (Read w value) t) (one (rapid_step node position (Reads w)) s o h) reading
comes meeting position node (Write w value) o s h =
    subst (λ (t : RapidStep). Comes meeting position node (Write w value) t) (one (rapid_step node position (Writes w)) s o h) writing
comes meeting position node (Acquire l) o s h =
    subst (λ (t : RapidStep). Comes meeting position node (Acquire l) t) (one (rapid_step node position (Acquires l)) s o h) acquiring
comes meeting position node (Release l) o s h =
    subst (λ (t : RapidStep). Comes meeting position node (Release l) t) (one (rapid_step node position (Releases l)) s o h) releasing
comes meeting position node Arrive o s h =
    let l = lock_of_arrival meeting meeting.arrived node in
    elim (two (rapid_step node position (Acquires l)) (rapid_step node position (Releases l)) s o h) [
      | inl is ↦ subst (λ (t : RapidStep). Comes meeting position node Arrive t) is arriving
      | inr is ↦ subst (λ (t : RapidStep). Comes meeting position node Arrive t) is arrived
    ]
comes meeting position node Depart o s h =
    let (q, few, (at, is)) = found_in_range (λ q. passes node position (lock_of_arrival meeting meeting.departed q)) 0 meeting.nodes o s h in
    let within : q < meeting.nodes = omega arith in
    let l = lock_of_arrival meeting meeting.departed q in
    elim (two (rapid_step node position (Acquires l)) (rapid_step node position (Releases l)) s at is) [
      | inl same ↦ subst (λ (t : RapidStep). Comes meeting position node Depart t) same (departing within)
      | inr same ↦ subst (λ (t : RapidStep). Comes meeting position node Depart t) same (departed within)
    ]
comes meeting position node Quiet o s h = absurd (nowhere o s h)
comes meeting position node (Print value) o s h = absurd (nowhere o s h)
comes meeting position node (Trap cause) o s h = absurd (nowhere o s h)
comes meeting position node End o s h = absurd (nowhere o s h)

position_is : {meeting : Meeting} {position node : ℕ} {deed : Deed} {s : RapidStep} → Comes meeting position node deed s → s.position ≡ position
position_is reading = refl
position_is writing = refl
position_is acquiring = refl
position_is releasing = refl
position_is arriving = refl
position_is arrived = refl
position_is (departing few) = refl
position_is (departed few) = refl

pub node_is : {meeting : Meeting} {position node : ℕ} {deed : Deed} {s : RapidStep} → Comes meeting position node deed s → s.node ≡ node
node_is reading = refl
node_is writing = refl
node_is acquiring = refl
node_is releasing = refl
node_is arriving = refl
node_is arrived = refl
node_is (departing few) = refl
node_is (departed few) = refl

-- the act that a step stands for
pub record IsOfAct (locks nodes : ℕ) (acts : List Act) (s : RapidStep) : Type 0 where
  pub place : ℕ
  pub node : ℕ
  pub deed : Deed
  pub does : Does acts place node deed
  pub comes : Comes (meeting_at locks nodes acts node place) place node deed s
  pub position : s.position ≡ place
  pub same_node : s.node ≡ node

module _ (locks nodes : ℕ) (acts : List Act) where
  abbrev of : ℕ → Act → List RapidStep
  of position act = rapid_steps (meeting_at locks nodes acts act.node position) position act.node act.deed

  pub act_of_step : (k : ℕ) (s : RapidStep) → slice_get (rapid_of locks nodes acts) k ≡ Some s → IsOfAct locks nodes acts s
  act_of_step k s h =
      let (i, act, at, (o, is)) = found of 0 acts k s h in
      let start : 0 + i ≡ i = omega arith in
      let here : slice_get (of i act) o ≡ Some s = subst (λ m. slice_get (of m act) o ≡ Some s) start is in
      let come = comes (meeting_at locks nodes acts act.node i) i act.node act.deed o s here in
      record {
        place = i;
        node = act.node;
        deed = act.deed;
        does = record { stands = at };
        comes = come;
        position = position_is come;
        same_node = node_is come;
      }

  -- each step of an act stands in the trace
  pub step_of_act : (i node : ℕ) (deed : Deed) (o : ℕ) (s : RapidStep) → Does acts i node deed
      → slice_get (rapid_steps (meeting_at locks nodes acts node i) i node deed) o ≡ Some s
      → (k : ℕ) × (slice_get (rapid_of locks nodes acts) k ≡ Some s)
  step_of_act i node deed o s does h =
      let start : i ≡ 0 + i = omega arith in
      let act : Act = record { node = node; deed = deed } in
      there of 0 acts i act o s does.stands (subst (λ m. slice_get (of m act) o ≡ Some s) start h)

  -- a depart passes the lock of each node's arrival
  pub step_of_depart : (i node q : ℕ) → Does acts i node Depart → q < nodes
      → (k : ℕ)
      × (slice_get (rapid_of locks nodes acts) k
      ≡ Some (rapid_step node i (Acquires (lock_of_arrival (meeting_at locks nodes acts node i) (meeting_at locks nodes acts node i).departed q))))
  step_of_depart i node q does few =
      let meeting = meeting_at locks nodes acts node i in
      let wanted = rapid_step node i (Acquires (lock_of_arrival meeting meeting.departed q)) in
      let (o, is) = there_in_range (λ q. passes node i (lock_of_arrival meeting meeting.departed q)) 0 nodes q 0 wanted (omega arith) (omega arith) refl in
      step_of_act i node Depart o wanted does is

  -- steps of later acts stand later
  pub later : (k m : ℕ) (s t : RapidStep) → slice_get (rapid_of locks nodes acts) k ≡ Some s → slice_get (rapid_of locks nodes acts) m ≡ Some t → k ≤ m
      → s.position ≤ t.position
  later k m s t hk hm le =
      rising of (λ (s : RapidStep). s.position)
      (λ i act o s h. position_is (comes (meeting_at locks nodes acts act.node i) i act.node act.deed o s h)) 0 acts k m s t hk hm le
