-- What is searched, and that the states so far are in order.
use Rattle.std.specs.Prelude.{◌≡◌, ◌<◌, ◌≤◌, ◌+◌, ◌++◌, ℕ, List, [], Some, length, slice_get}
use Rattle.std.specs.List.{IsDistinct}
use Rattle.lrc_exec.specs.declared.spot.Flat.{Flat}
use Rattle.lrc_exec.specs.Flat.{IsCodeOf}
use Rattle.lrc_exec.specs.Plain.{plain_start}
use Rattle.lrc_exec.specs.Spots.{IsFlat}
use Rattle.lrc_exec.specs.States.{machine_begun}
use Rattle.lrc_lazy_search.specs.declared.state.LazyState.{LazyState}
use Rattle.lrc_lazy_search.specs.declared.search.Task.{Task}
use Rattle.lrc_lazy_search.specs.declared.search.Searched.{Searched}
use Rattle.lrc_lazy_search.specs.contracts.state.LazyStatePartialEq.TheImpl.{eq-value}
use Rattle.lrc_lazy_search.specs.Found.{AreDistinct, AreFound, found_count}
use Rattle.lrc_lazy_search.specs.Searching.{AreReached, AreSearched, AreSound, AreThere, IsBegun, IsOneOf}

-- the code is the program's, and there are nodes
pub record IsTask (task : Task) : Type 0 where
  pub flat : IsFlat task.flat
  pub code : IsCodeOf task.flat.code.now task.start task.program.now.statements.items
  pub placed : task.start ≤ length task.flat.code.now
  pub words : task.flat.words ≡ task.program.now.words
  pub locks : task.flat.locks ≡ task.program.now.locks
  pub some : 0 < task.flat.nodes
  pub begun : machine_begun task.flat task.start ≡ plain_start task.program.now task.flat.nodes

-- to each state a lazy run leads, one is the beginning, and no two are equal
pub record IsInOrder (task : Task) (keys : List LazyState) : Type 0 where
  pub reached : AreReached task.program.now task.flat keys
  pub begun : IsBegun task.program.now task.flat keys
  pub distinct : IsDistinct eq-value.it keys

-- nothing was found yet
pub record IsEmpty (all : Searched) : Type 0 where
  pub found : found_count all.found ≡ 0
  pub distinct : AreDistinct all.found
  pub waiting : all.waiting.items ≡ []
  pub outcomes : all.outcomes.keys ≡ []

-- All states that were found are in order; those of some part in front were searched, and what is left was not yet. The outcomes are of lazy
-- runs.
pub record IsAt (task : Task) (all : Searched) (left : List LazyState) : Type 0 where
  pub done : List LazyState
  pub distinct : AreDistinct all.found
  pub found : AreFound task.flat all.found (done ++ left)
  pub order : IsInOrder task (done ++ left)
  pub sound : AreSound task.program.now task.flat all.outcomes.keys
  pub searched : AreSearched task.flat (done ++ left) all.outcomes.keys (length done)

-- Of these states those that are new are found behind the others, and wait behind those that waited. So all of these are there then.
pub record Adds (flat : Flat) (old new : Searched) (states : List LazyState) : Type 0 where
  pub more : List LazyState
  pub waiting : new.waiting.items ≡ old.waiting.items ++ more
  pub outcomes : new.outcomes ≡ old.outcomes
  pub distinct : AreDistinct new.found
  pub from : (k : ℕ) (key : LazyState) → slice_get more k ≡ Some key → IsOneOf states key
  pub found : (keys : List LazyState) → AreFound flat old.found keys → AreFound flat new.found (keys ++ more)
  pub there : (keys : List LazyState) → AreFound flat old.found keys → AreThere (keys ++ more) states
  pub count : found_count new.found ≡ found_count old.found + length more
