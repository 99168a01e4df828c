-- States that are in order, and what deeds change of what is known in flat code.
use Rattle.std.specs.Prelude.{◌≡◌, ℕ, ◌-◌, Some}
use Rattle.lrc_trace.specs.declared.act.Deed.{Deed}
use Rattle.lrc_exec.specs.Meaning.{Thread}
use Rattle.lrc_exec.specs.Plain.{thread_in}
use Rattle.lrc_exec.specs.declared.spot.Flat.{Flat}
use Rattle.lrc_exec.specs.States.{plain_at, IsStateOf}
use Rattle.lrc_lazy_known.specs.declared.word.Effect.{Effect}
use Rattle.lrc_lazy_known.specs.Effect.{effect_of, word_of}
use Rattle.lrc_lazy_known.specs.Word.{IsSame}
use Rattle.lrc_lazy_search.specs.declared.state.LazyState.{LazyState}
use Rattle.lrc_lazy_search.specs.declared.state.Seen.{Seen}

-- what a node's deed changes of what is known, in flat code
abbrev pub effect_of_flat : Flat → (arrived node : ℕ) → Deed → Effect
effect_of_flat flat arrived node deed = effect_of flat.nodes flat.locks arrived (arrived - 1) node deed

-- the state is in order, and its threads are of as many words as the code
pub record IsFit (flat : Flat) (key : LazyState) : Type 0 where
  pub valid : IsStateOf flat key.state
  pub words : (node : ℕ) (thread : Thread) → thread_in (plain_at flat key.state) node ≡ Some thread → thread.setting.words ≡ flat.words

-- this is where the state is
pub record IsSeen (key : LazyState) (seen : Seen) : Type 0 where
  pub holders : seen.holders.items ≡ key.state.holders.items
  pub arrivals : seen.arrivals.items ≡ key.state.arrivals.items
  pub spots : seen.spots.items ≡ key.state.spots.items
  pub known : (word : ℕ) → IsSame (word_of key.knowledge word) (word_of seen.knowledge word)
