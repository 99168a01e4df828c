use Rattle.std.proofs.Common.{◌≡◌, ◌∙◌, ℕ, List, None, Option, false, inl, inr, get_or, replicate, ap, arith}
use Rattle.std.proofs.lemmas.Bool.{cases_lt}
use Rattle.std.proofs.lemmas.List.{get_or-replicate, get_or_past, length-replicate}
use Rattle.lrc_program.specs.declared.Program.{Program}
use Rattle.lrc_program.specs.declared.Statement.{Statement}
use Rattle.lrc_exec.proofs.Beginning.{none_clones}
use Rattle.lrc_exec.specs.declared.spot.Flat.{Flat}
use Rattle.lrc_exec.specs.Flat.{rest_at}
use Rattle.lrc_exec.specs.Meaning.{Thread}
use Rattle.lrc_exec.specs.Plain.{start_of}
use Rattle.lrc_exec.specs.Spots.{IsFlatOf, spot_begun, thread_at}
use Rattle.lrc_private_names.proofs.way.Way.start.Goals as goal

none_there : (n name : ℕ) (none : Option ℕ) → get_or (replicate n none) name none ≡ none
none_there n name none =
    elim (cases_lt name n) [
      | inl inside ↦ get_or-replicate n name none none inside
      | inr past ↦ get_or_past (replicate n none) name none (omega (arith, past, length-replicate n none))
    ]

pub returns-clause-unset : goal.returns-clause-unset
returns-clause-unset c name =
    ap (λ (l : List (Option ℕ)). get_or l name None) (c.in_ok-set.ensures.items_if_clones_equal (none_clones _ (λ x h. h))) ∙ none_there 32 name None

-- a thread at the beginning of these statements
abbrev begun_on : (words locks nodes me : ℕ) → List Statement → Thread
begun_on words locks nodes me rest = record {
  setting = record { words = words; locks = locks; me = me; nodes = nodes };
  rest = rest;
  privates = replicate 32 0;
  held = replicate 64 false;
  arrived = false;
}

begun : (program : Program) (flat : Flat) (place nodes me : ℕ) → IsFlatOf program nodes flat place
    → thread_at flat (spot_begun place me) ≡ start_of program nodes me
begun program flat place nodes me of =
    let rest = rest_at flat.code.now place in
    ap (λ (w : ℕ). begun_on w flat.locks flat.nodes me rest) of.words
    ∙ ap (λ (l : ℕ). begun_on program.words l flat.nodes me rest) of.locks
    ∙ ap (λ (n : ℕ). begun_on program.words program.locks n me rest) of.nodes
    ∙ ap (λ (r : List Statement). begun_on program.words program.locks nodes me r) of.code.leads

pub returns-clause-thread : goal.returns-clause-thread
returns-clause-thread c =
    begun c.args.code.now c.of-place.result.0 c.of-place.result.1 c.args.nodes c.args.me c.of-place.ensures.program
