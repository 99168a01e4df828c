-- Acts that no order of the other nodes comes to dispute.
use Rattle.std.specs.Prelude.{◌≡◌, ◌≢◌, ◌⊎◌, ℕ, List, [], ◌∷◌, Some}
use Rattle.lrc_trace.specs.declared.act.Act.{Act}
use Rattle.lrc_trace.specs.declared.act.Deed.{Deed}
use Rattle.lrc_trace.specs.declared.act.Deed.TheVariants.{Read, Write, Acquire}
use Rattle.lrc_exec.specs.Meaning.{Thread, Next, reads, writes, acquires, next_of}
use Rattle.lrc_exec.specs.Plain.{Plain, thread_in, plain_step, plain_from}

-- an act conflicts with what a thread does next: both access one word, and one of them writes it; or both acquire one lock
pub data Conflicts : Deed → Next → Type 0 where
  read_and_written : {word value written : ℕ} {after : Thread} → Conflicts (Read word value) (writes word written after)
  written_and_read : {word value : ℕ} {after : ℕ → Thread} → Conflicts (Write word value) (reads word after)
  written_twice : {word value written : ℕ} {after : Thread} → Conflicts (Write word value) (writes word written after)
  acquired_twice : {lock : ℕ} {after : Thread} → Conflicts (Acquire lock) (acquires lock after)

-- the node makes an act of the order
abbrev pub ActsIn : ℕ → List ℕ → Type 0
ActsIn node [] = ⊥
ActsIn node (first ∷ order) = (first ≡ node) ⊎ ActsIn node order

-- an order of the other nodes comes to where one of them is about to make an act that conflicts with this deed of the node; it need not be
-- possible there, as where another node holds the lock
pub record Dispute (machine : Plain) (node : ℕ) (deed : Deed) : Type 0 where
  pub order : List ℕ
  pub acts : List Act
  pub final : Plain
  pub led : plain_from machine order ≡ Some (acts, final)
  pub without : ¬ ActsIn node order
  pub other : ℕ
  pub apart : other ≢ node
  pub thread : Thread
  pub there : thread_in final other ≡ Some thread
  pub conflicts : Conflicts deed (next_of thread)

-- the node can make this act, and no order comes to dispute it. (An act that is no read, write or acquire has no dispute.)
pub record IsUndisputed (machine : Plain) (node : ℕ) (deed : Deed) (after : Plain) : Type 0 where
  pub step : plain_step machine node ≡ Some (deed, after)
  pub never : ¬ Dispute machine node deed
