-- Before the first act the machine stands at the beginning of the program.
use Rattle.std.proofs.Common.{◌≡◌, ℕ, zero, suc, [], refl, sym, subst, arith}
use Rattle.std.specs.Prelude.{Option, Some, None}
use Rattle.std.proofs.lemmas.List.{length-replicate}
use Rattle.lrc_program.specs.declared.Program.{Program}
use Rattle.lrc_trace.proofs.Positions.{Does-within}
use Rattle.lrc_exec.specs.Plain.{Plain, plain_start, start_of}
use Rattle.lrc_consistency_laws.specs.Matching.{Matches}
use Rattle.lrc_consistency_laws.proofs.Plainly.{facts}
use Rattle.lrc_consistency_laws.proofs.Runs.{start_matches, thread_at_start}
use Rattle.lrc_orders.specs.Notes.{notes_from, notes_of}
use Rattle.lrc_lazy_known.specs.declared.known.Knowledge.{Knowledge}
use Rattle.lrc_lazy_known.specs.Effect.{word_of}
use Rattle.lrc_lazy_known.proofs.Beginning.{nothing_known}
use Rattle.lrc_lazy.specs.Standing.{Comes, there, Stands}
use Rattle.lrc_lazy.proofs.Advancing.{advanced_none}

pub stands_first : (program : Program) (nodes : ℕ) (knowledge : Knowledge) → ((word : ℕ) → word_of knowledge word ≡ [])
    → Stands program nodes [] (plain_start program nodes) knowledge
stands_first program nodes knowledge nothing =
    let f = facts program nodes [] [] refl in
    record {
      run = record {
        follows = f.follows;
        synchronized = f.synchronized;
        lazily = λ j word value h. let lt = Does-within h.1 in absurd (omega (arith, lt));
      };
      gone = 0;
      departed = λ n lt. omega arith;
      memory = (plain_start program nodes).memory;
      matches = subst (λ (m : Plain). Matches [] 0 m) (sym (advanced_none (plain_start program nodes))) (start_matches program nodes []);
      long = length-replicate {A = ℕ} program.words 0;
      holders = length-replicate {A = Option ℕ} program.locks None;
      size = length-replicate {A = ℕ} nodes 0;
      leads = λ n lt. subst (λ o. Comes (Some (start_of program nodes n)) [] o) (sym (thread_at_start program nodes n lt)) there;
      stopped = λ n lt none. refl;
      are = record {
        in_nodes = λ i n d does. let lt = Does-within does in absurd (omega (arith, lt));
        in_locks = λ i n l does. let lt = Does-within does in absurd (omega (arith, lt));
      };
      known = nothing_known nodes program.locks 0 knowledge nothing;
    }

-- the first notes are none
notes_none : (first count : ℕ) → notes_from first count [] ≡ []
notes_none first zero = refl
notes_none first (suc count) = notes_none (suc first) count

pub first_notes : (nodes : ℕ) → notes_of nodes [] ≡ []
first_notes nodes = notes_none 0 nodes
