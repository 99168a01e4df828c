-- What comes of an input to a node, and of the messages of its turn.
use Rattle.std.proofs.Common.{◌≡◌, ◌∙◌, ℕ, List, true, false, Result, Ok, Err, IsErrAnd, refl, sym, ap, subst}
use Rattle.std.specs.Prelude.{OnErr, is_err}
use Rattle.lrc_wire.specs.declared.fault.WireFault.{WireFault}
use Rattle.lrc_envelope.specs.Envelope.{EnvelopeRecord}
use Rattle.lrc_wire.specs.Reading.{envelope_of}
use Rattle.lrc_post.specs.declared.parcel.Parcel.{Parcel}
use Rattle.lrc_protocol.specs.Run.{Input, run, taken, EntryRecord, Logged, logged, refused, too_large, logs}
use Rattle.lrc_protocol.proofs.Worlds.{Entries, IsEntry, logs-entries}
use Rattle.lrc_node.specs.Logged.{LoggedNode, sound, Logs, LogsTo}
use Rattle.lrc_node.specs.declared.fault.NodeFault.{NodeFault}
use Rattle.lrc_node.specs.declared.fault.NodeFault.TheVariants as NodeFaults
use Rattle.lrc_node.specs.declared.fault.NodeFault.TheVariants.{Failed, NotReady, Unexpected}
use Rattle.lrc_threads.specs.declared.stop.Stop.{Stop}
use Rattle.lrc_threads.specs.declared.stop.Stop.TheVariants.{Closed, Worn, NoMemory}
use Rattle.lrc_threads.specs.Worker.{goes_on, takes_message, drops, GoesThrough, stays, steps, Gives, nothing, message, outgrows, overflows, none, more}
use Rattle.lrc_threads.specs.Worker.{WearsOut, Stops, after_turns, in_turn, GoesTo, SendsTo, LogsLast, IsRefused, made_of}

-- a node made a turn
pub record IsTurn (l : Logged) (input : Input) (came : ℕ) (new : LoggedNode) : Type 0 where
  pub entry : EntryRecord
  pub after : Logged
  pub turn : logs l input came ≡ logged entry after
  pub now : new ≡ sound after
  pub last : LogsLast new entry

is_turn : (l : Logged) (input : Input) (came : ℕ) (new : LoggedNode) → Logs l (logs l input came) new (Ok tt) → IsTurn l input came new
is_turn l input came new h =
    let i : IsEntry l input h.0 h.1 = subst (Entries l input) h.2 (logs-entries l input came) in
    record { entry = h.0; after = h.1; turn = h.2; now = h.3; last = (l.log, ap (λ (n : LoggedNode). n.log) h.3 ∙ i.log_is) }

pub turned : (l : Logged) (input : Input) (came : ℕ) (old new : LoggedNode) (r : Result (Unit {0}) NodeFault) → LogsTo old input came new r
    → old ≡ sound l → made_of r ≡ Ok true → IsTurn l input came new
turned l input came old new (Ok tt) h is made = is_turn l input came new (h l is)
turned l input came old new (Err NotReady) h is made = cc
turned l input came old new (Err Unexpected) h is made = cc
turned l input came old new (Err NodeFaults.Worn) h is made = cc
turned l input came old new (Err NodeFaults.NoMemory) h is made = cc
turned l input came old new (Err Failed) h is made = cc

-- a node made none, since it refuses the input
pub unturned : (l : Logged) (input : Input) (came : ℕ) (old new : LoggedNode) (r : Result (Unit {0}) NodeFault) → LogsTo old input came new r
    → old ≡ sound l → made_of r ≡ Ok false → (logs l input came ≡ refused) × (new ≡ sound l)
unturned l input came old new (Ok tt) h is made = cc
unturned l input came old new (Err NotReady) h is made = h l is
unturned l input came old new (Err Unexpected) h is made = h l is
unturned l input came old new (Err NodeFaults.Worn) h is made = cc
unturned l input came old new (Err NodeFaults.NoMemory) h is made = cc
unturned l input came old new (Err Failed) h is made = cc

-- a node made none, since it would be too large
outgrown : (l : Logged) (input : Input) (came : ℕ) (old new : LoggedNode) (r : Result (Unit {0}) NodeFault) → LogsTo old input came new r
    → old ≡ sound l → made_of r ≡ Err Worn → logs l input came ≡ too_large
outgrown l input came old new (Ok tt) h is made = cc
outgrown l input came old new (Err NotReady) h is made = cc
outgrown l input came old new (Err Unexpected) h is made = cc
outgrown l input came old new (Err NodeFaults.Worn) h is made = h l is
outgrown l input came old new (Err NodeFaults.NoMemory) h is made = cc
outgrown l input came old new (Err Failed) h is made = cc

-- no node closes the post
unclosed : (r : Result (Unit {0}) NodeFault) → made_of r ≡ Err Closed → ⊥
unclosed (Ok tt) made = cc
unclosed (Err NotReady) made = cc
unclosed (Err Unexpected) made = cc
unclosed (Err NodeFaults.Worn) made = cc
unclosed (Err NodeFaults.NoMemory) made = cc
unclosed (Err Failed) made = cc

-- what holds of a fault holds of one with which a thread stops
of_fault : (P : Type 0) (r : Result (Unit {0}) NodeFault) (stop : Stop) → made_of r ≡ Err stop → OnErr r P → P
of_fault P (Ok tt) stop made p = cc
of_fault P (Err fault) stop made p = p

module _ {S : Type 0} (puts : S → List Parcel → S → Type 0) (takes : S → Parcel → S → Type 0) where
  -- the messages of a turn that the node made by itself
  pub sent_run : (s t : S) (l : Logged) (new : LoggedNode) (r : Result (Unit {0}) Stop) (i : IsTurn l run 0 new) → SendsTo puts s i.entry t r
      → GoesTo puts takes s l t new r
  sent_run s t l new (Ok tt) i h = (i.after, i.now, steps stays (goes_on i.turn h))
  sent_run s t l new (Err Closed) i h = (i.after, i.now, more run 0 none refl i.turn h)
  sent_run s t l new (Err Worn) i h =
      subst (WearsOut puts takes s l) (sym (ap (λ (n : LoggedNode). n.log) i.now)) (overflows stays nothing i.turn h)
  sent_run s t l new (Err NoMemory) i h = subst (Stops l) (sym (ap (λ (n : LoggedNode). n.log) i.now)) (in_turn run 0 none refl i.turn)

  -- the messages of a turn in which the node took one
  pub sent_take : (s m t : S) (l : Logged) (new : LoggedNode) (r : Result (Unit {0}) Stop) (parcel : Parcel) (envelope : EnvelopeRecord)
      → takes s parcel m → envelope_of parcel.bytes ≡ Ok envelope → (i : IsTurn l (taken envelope) parcel.stamp new)
      → SendsTo puts m i.entry t r → GoesTo puts takes s l t new r
  sent_take s m t l new (Ok tt) parcel envelope took said i h = (i.after, i.now, steps stays (takes_message took said i.turn h))
  sent_take s m t l new (Err Closed) parcel envelope took said i h = (i.after, i.now, more (taken envelope) parcel.stamp none tt i.turn h)
  sent_take s m t l new (Err Worn) parcel envelope took said i h =
      subst (WearsOut puts takes s l) (sym (ap (λ (n : LoggedNode). n.log) i.now)) (overflows stays (message took said) i.turn h)
  sent_take s m t l new (Err NoMemory) parcel envelope took said i h =
      subst (Stops l) (sym (ap (λ (n : LoggedNode). n.log) i.now)) (in_turn (taken envelope) parcel.stamp none tt i.turn)

  -- an input with which the node fails: its log stays
  pub failed : {A : Type 0} (s t : S) (l : Logged) (input : Input) (came : ℕ) (old new : LoggedNode) (r : Result (Unit {0}) NodeFault) (stop : Stop)
      (q : Result A Stop) → LogsTo old input came new r → OnErr r (new.log ≡ old.log) → old ≡ sound l → made_of r ≡ Err stop
      → IsErrAnd q (λ f. f ≡ stop) → Gives takes s input came → GoesTo puts takes s l t new q
  failed s t l input came old new r stop (Ok x) h kept is made err gives = absurd err
  failed s t l input came old new r stop (Err Closed) h kept is made err gives = absurd (unclosed r (made ∙ ap Err (sym err)))
  failed s t l input came old new r stop (Err Worn) h kept is made err gives =
      let log : new.log ≡ l.log = of_fault (new.log ≡ old.log) r stop made kept ∙ ap (λ (n : LoggedNode). n.log) is in
      subst (WearsOut puts takes s l) (sym log) (outgrows stays gives (outgrown l input came old new r h is (made ∙ ap Err (sym err))))
  failed s t l input came old new r stop (Err NoMemory) h kept is made err gives =
      let log : new.log ≡ l.log = of_fault (new.log ≡ old.log) r stop made kept ∙ ap (λ (n : LoggedNode). n.log) is in
      subst (Stops l) (sym log) (after_turns none)

  -- a node that stays as it is
  pub unmoved : (s t : S) (l : Logged) (new : LoggedNode) → t ≡ s → new ≡ sound l → (j : Logged) × (new ≡ sound j) × GoesThrough puts takes s l t j
  unmoved s t l new same is = (l, is, subst (λ x. GoesThrough puts takes s l x l) (sym same) stays)

  -- a parcel that makes no turn
  pub dropped : (s t : S) (l : Logged) (new : LoggedNode) (parcel : Parcel) → takes s parcel t
      → IsRefused l parcel.stamp (envelope_of parcel.bytes) → new ≡ sound l → (j : Logged) × (new ≡ sound j) × GoesThrough puts takes s l t j
  dropped s t l new parcel took refuses is = (l, is, steps stays (drops took refuses))

  -- there is no next parcel, since the post refuses
  pub waited : {A : Type 0} (s t : S) (l : Logged) (new : LoggedNode) (stop : Stop) (r : Result A Stop) → IsErrAnd r (λ f. f ≡ stop) → (stop ≡ Worn → ⊥)
      → new ≡ sound l → GoesTo puts takes s l t new r
  waited s t l new stop (Ok x) err other is = absurd err
  waited s t l new stop (Err Closed) err other is = (l, is, none)
  waited s t l new stop (Err Worn) err other is = absurd (other (sym err))
  waited s t l new stop (Err NoMemory) err other is = subst (Stops l) (sym (ap (λ (n : LoggedNode). n.log) is)) (after_turns none)

  -- an answer with which a thread stops is handed on
  pub handed_on : {A B : Type 0} (s t : S) (l : Logged) (new : LoggedNode) (stop : Stop) (q : Result A Stop) (r : Result B Stop) → q ≡ Err stop
      → IsErrAnd r (λ f. f ≡ stop) → GoesTo puts takes s l t new q → GoesTo puts takes s l t new r
  handed_on s t l new stop q (Ok x) is err h = absurd err
  handed_on {A = A} s t l new stop q (Err Closed) is err h = subst (GoesTo {A = A} puts takes s l t new) (is ∙ ap Err (sym err)) h
  handed_on {A = A} s t l new stop q (Err Worn) is err h = subst (GoesTo {A = A} puts takes s l t new) (is ∙ ap Err (sym err)) h
  handed_on {A = A} s t l new stop q (Err NoMemory) is err h = subst (GoesTo {A = A} puts takes s l t new) (is ∙ ap Err (sym err)) h

-- bytes that spell no message are refused
pub unread : (l : Logged) (stamp : ℕ) (said : Result EnvelopeRecord WireFault) → is_err said ≡ true → IsRefused l stamp said
unread l stamp (Ok envelope) e = cc
unread l stamp (Err fault) e = tt
