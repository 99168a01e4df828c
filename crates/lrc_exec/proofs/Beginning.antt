-- What a machine is made of at the beginning.
use Rattle.std.proofs.Common.{◌≡◌, ◌∙◌, ℕ, zero, suc, Option, Some, None, false, List, [], ◌∷◌, ap, refl, replicate, arith}
use Rattle.std.specs.Prelude.{All, map}
use Rattle.std.specs.List.{range_with_len}
use Rattle.lrc_program.specs.declared.Program.{Program}
use Rattle.lrc_program.specs.declared.Statement.{Statement}
use Rattle.lrc_exec.specs.declared.spot.Flat.{Flat}
use Rattle.lrc_exec.specs.Flat.{rest_at}
use Rattle.lrc_exec.specs.Meaning.{Thread}
use Rattle.lrc_exec.specs.Plain.{Plain, plain_start}
use Rattle.lrc_exec.specs.Spots.{IsFlatOf}
use Rattle.lrc_exec.specs.States.{machine_begun}

pub All-one : {X : Type 0} (P : X → Type 0) (x : X) → P x → All P (x ∷ [])
All-one P x h zero d inside = h
All-one P x h (suc k) d inside = absurd (omega arith)

-- a clone of none is none
pub none_clones : (R : Option ℕ → Type 0) → ((x : ℕ) → R (Some x) → ⊥) → (y : Option ℕ) → R y → y ≡ None
none_clones R never None h = refl
none_clones R never (Some x) h = absurd (never x h)

-- a machine is what its parts are
pub machine_is : (m m' : List ℕ) (h h' : List (Option ℕ)) (a a' : List ℕ) (t t' : List (Option Thread)) → m ≡ m' → h ≡ h' → a ≡ a' → t ≡ t'
    → ◌≡◌ {A = Plain} (record { memory = m; holders = h; arrivals = a; threads = t }) (record { memory = m'; holders = h'; arrivals = a'; threads = t' })
machine_is m m' h h' a a' t t' em eh ea et = cc

-- the beginning, of these words, locks and statements
abbrev thread_of : (nodes words locks : ℕ) → List Statement → ℕ → Thread
thread_of nodes words locks rest me = record {
  setting = record { words = words; locks = locks; me = me; nodes = nodes };
  rest = rest;
  privates = replicate 32 0;
  held = replicate 64 false;
  arrived = false;
}

abbrev begin_of : (nodes words locks : ℕ) → List Statement → Plain
begin_of nodes words locks rest = record {
  memory = replicate words 0;
  holders = replicate locks None;
  arrivals = replicate nodes 0;
  threads = map (λ me. Some (thread_of nodes words locks rest me)) (range_with_len 0 nodes);
}

pub begun_is : (program : Program) (flat : Flat) (place : ℕ) → flat.words ≡ program.words → flat.locks ≡ program.locks
    → rest_at flat.code.now place ≡ program.statements.items → machine_begun flat place ≡ plain_start program flat.nodes
begun_is program flat place words locks rest =
    ap (λ w. begin_of flat.nodes w flat.locks (rest_at flat.code.now place)) words
    ∙ ap (λ l. begin_of flat.nodes program.words l (rest_at flat.code.now place)) locks
    ∙ ap (λ r. begin_of flat.nodes program.words program.locks r) rest

-- so it is for the code of the program
pub begun_of : (program : Program) (nodes place : ℕ) (flat : Flat) → IsFlatOf program nodes flat place → machine_begun flat place ≡ plain_start program nodes
begun_of program nodes place flat of = begun_is program flat place of.words of.locks of.code.leads ∙ ap (plain_start program) of.nodes
