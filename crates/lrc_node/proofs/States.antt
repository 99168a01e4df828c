-- What a node keeps of its parts.
use Rattle.std.proofs.Common.{◌≡◌, ℕ, ◌<◌, ◌≤◌, Bool, true, false, length, refl}
use Rattle.std.specs.Prelude.{◌==◌, Some, None, IfSome, if◌then◌else◌}
use Rattle.std.proofs.lemmas.List.{length-replicate}
use Rattle.std.proofs.lemmas.List.FromFn.{length-map-range_with_len}
use Rattle.lrc_program.specs.declared.Program.{Program}
use Rattle.lrc_page.specs.Place.{pages_of}
use Rattle.lrc_time.proofs.Times.{length-zeros}
use Rattle.lrc_lock.specs.Held.{first_state}
use Rattle.lrc_barrier.specs.Barrier.{ManagerRecord, first_manager}
use Rattle.lrc_protocol.specs.Node.{OptionsRecord, fresh_node}
use Rattle.lrc_node.specs.State.{IsState}

managed : (nodes : ℕ) (here : Bool) → IfSome (if here then Some (first_manager nodes) else None) (λ (manager : ManagerRecord). length manager.last ≡ nodes)
managed nodes true = length-zeros nodes
managed nodes false = tt

-- a fresh node keeps it
pub fresh_state : (program : Program) (nodes me : ℕ) (options : OptionsRecord) → me < nodes → nodes ≤ 16
    → IsState me options.size (fresh_node program nodes options me)
fresh_state program nodes me options here few = record {
  here = here;
  few = few;
  some_words = program.some_words;
  few_words = program.few_words;
  few_locks = program.few_locks;
  own_memory = refl;
  sized = refl;
  holder = refl;
  times = length-zeros nodes;
  tokens = length-map-range_with_len (first_state me nodes) 0 program.locks;
  manager = managed nodes (me == 0);
  pages = length-replicate (pages_of program.words options.size) _;
  last = length-zeros nodes;
  sent = length-replicate nodes 0;
  taken = length-replicate nodes _;
}
