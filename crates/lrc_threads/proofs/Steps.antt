-- Steps of a thread, one after another.
use Rattle.std.proofs.Common.{◌≡◌, List, Result, Ok, Err, refl, subst}
use Rattle.lrc_post.specs.declared.parcel.Parcel.{Parcel}
use Rattle.lrc_protocol.specs.Run.{run, taken, EntryRecord, Logged}
use Rattle.lrc_node.specs.Logged.{LoggedNode, sound}
use Rattle.lrc_threads.specs.declared.stop.Stop.{Stop}
use Rattle.lrc_threads.specs.declared.stop.Stop.TheVariants.{Closed, Worn, NoMemory}
use Rattle.lrc_threads.specs.Worker.{Step, goes_on, takes_message, drops, GoesThrough, stays, steps, WearsOut, outgrows, overflows, Turns, none, more}
use Rattle.lrc_threads.specs.Worker.{Stops, after_turns, in_turn, GoesTo}

module _ {S : Type 0} (puts : S → List Parcel → S → Type 0) (takes : S → Parcel → S → Type 0) where
  -- a step is a turn of the node, or none
  step_turn : {l : Logged} {s : S} {k : Logged} {t : S} {j : Logged} → Step puts takes s k t j → Turns l k → Turns l j
  step_turn (goes_on turn sends) before = more run 0 before refl turn sends.3
  step_turn (takes_message {parcel = p} {envelope = e} took said turn sends) before = more (taken e) p.stamp before tt turn sends.3
  step_turn (drops took refuses) before = before

  -- so are any number of steps
  pub all_turns : {s : S} {l : Logged} {t : S} {j : Logged} → GoesThrough puts takes s l t j → Turns l j
  all_turns stays = none
  all_turns (steps before step) = step_turn step (all_turns before)

  -- turns after turns
  turns_after : {l k j : Logged} → Turns l k → Turns k j → Turns l j
  turns_after before none = before
  turns_after before (more input came others may turn short) = more input came (turns_after before others) may turn short

  -- steps after steps
  pub goes_after : {s m : S} {l k : Logged} {t : S} {j : Logged} → GoesThrough puts takes s l m k → GoesThrough puts takes m k t j → GoesThrough puts takes s l t j
  goes_after before stays = before
  goes_after before (steps others step) = steps (goes_after before others) step

  -- why a thread wears out, after more steps
  wears_further : {s m : S} {l k : Logged} {log : List EntryRecord} → GoesThrough puts takes s l m k → WearsOut puts takes m k log
      → WearsOut puts takes s l log
  wears_further before (outgrows others gives large) = outgrows (goes_after before others) gives large
  wears_further before (overflows others gives turn long) = overflows (goes_after before others) gives turn long

  -- the log of a node that was refused memory, after more turns
  stops_after : {l k : Logged} {log : List EntryRecord} → Turns l k → Stops k log → Stops l log
  stops_after before (after_turns others) = after_turns (turns_after before others)
  stops_after before (in_turn input came others may turn) = in_turn input came (turns_after before others) may turn

  -- what comes of more steps
  pub goes_further : {A : Type 0} (s m t : S) (l k : Logged) (new : LoggedNode) (r : Result A Stop) → GoesThrough puts takes s l m k
      → GoesTo puts takes m k t new r → GoesTo puts takes s l t new r
  goes_further s m t l k new (Ok done) before h = (h.0, h.1, goes_after before h.2)
  goes_further s m t l k new (Err Closed) before h = (h.0, h.1, turns_after (all_turns before) h.2)
  goes_further s m t l k new (Err Worn) before h = wears_further before h
  goes_further s m t l k new (Err NoMemory) before h = stops_after (all_turns before) h

  -- what comes of an answer with which the thread goes on
  pub gone : {A : Type 0} (s t : S) (l : Logged) (new : LoggedNode) (x : A) (r : Result A Stop) → r ≡ Ok x → GoesTo puts takes s l t new r
      → (j : Logged) × (new ≡ sound j) × GoesThrough puts takes s l t j
  gone {A = A} s t l new x r is h = subst (GoesTo {A = A} puts takes s l t new) is h
