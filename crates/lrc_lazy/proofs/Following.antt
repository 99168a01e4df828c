-- Where the plain machine stands that follows the acts of a lazy run.
use Rattle.std.proofs.Common.{◌≡◌, ℕ, ◌+◌, ◌<◌, List, [], ◌∷◌, ◌++◌, length, inl, inr, refl, sym, subst, ◌∙◌, ap, arith}
use Rattle.std.specs.Prelude.{Option, Some, None, slice_index}
use Rattle.std.proofs.lemmas.Bool.{cases_eq}
use Rattle.std.proofs.lemmas.List.{length_push, length-replicate}
use Rattle.lrc_program.specs.declared.Program.{Program}
use Rattle.lrc_trace.specs.declared.act.Act.{Act}
use Rattle.lrc_trace.specs.declared.act.Deed.{Deed}
use Rattle.lrc_trace.specs.declared.act.Deed.TheVariants.{Read}
use Rattle.lrc_trace.specs.Run.{act_of}
use Rattle.lrc_trace.specs.Synchronization.{MayGoOn}
use Rattle.lrc_trace.proofs.Positions.{Does-last}
use Rattle.lrc_exec.specs.Meaning.{Thread, Next, next_of}
use Rattle.lrc_exec.specs.Plain.{Plain, thread_in, plain_start, plain_step, start_of}
use Rattle.lrc_exec.proofs.NextLaws.{IsFine, next_of-fine}
use Rattle.lrc_exec.proofs.PlainParts.{thread_within}
use Rattle.lrc_exec.specs.Follows.{Goes, reading, Makes, deeds_of, FollowsText}
use Rattle.lrc_consistency_laws.specs.Matching.{Matches}
use Rattle.lrc_consistency_laws.proofs.Plainly.{facts}
use Rattle.lrc_consistency_laws.proofs.Runs.{CanDo, can_do, start_matches, thread_at_start}
use Rattle.lrc_consistency_laws.proofs.UpToRace.{in_range}
use Rattle.lrc_orders.specs.Stuck.{IsAtRest}
use Rattle.lrc_orders.proofs.Effects.{after_of, length-arrivals}
use Rattle.lrc_orders_laws.proofs.Parts.{stepped, can_step}
use Rattle.lrc_lazy.specs.Lazy.{IsOver}
use Rattle.lrc_lazy.proofs.Onward.{deeds_more-own}
use Rattle.lrc_lazy.specs.Standing.{with_memory, Comes, there}
use Rattle.lrc_lazy.proofs.Coming.{comes_makes, comes_more, comes_goes, deeds_same, follows_more}
use Rattle.lrc_lazy.proofs.Coming.{read_stays, sound_of}
use Rattle.lrc_lazy.proofs.Going.{matches_after, may_after}

-- ---- where the machine stands

-- The acts have led each node's thread here; with some words the machine is what they make of it.
pub record StandsAt (program : Program) (nodes : ℕ) (acts : List Act) (machine : Plain) : Type 0 where
  pub follows : FollowsText program nodes acts
  pub memory : List ℕ
  pub matches : Matches acts (length acts) (with_memory machine memory)
  pub long : length memory ≡ program.words
  pub size : length machine.arrivals ≡ nodes
  pub leads : (n : ℕ) → n < nodes → Comes (Some (start_of program nodes n)) (deeds_of n acts) (thread_in machine n)

pub stands_first : (program : Program) (nodes : ℕ) → StandsAt program nodes [] (plain_start program nodes)
stands_first program nodes = record {
  follows = (facts program nodes [] [] refl).follows;
  memory = (plain_start program nodes).memory;
  matches = start_matches program nodes [];
  long = length-replicate {A = ℕ} program.words 0;
  size = length-replicate {A = ℕ} nodes 0;
  leads = λ n lt. subst (λ o. Comes (Some (start_of program nodes n)) [] o) (sym (thread_at_start program nodes n lt)) there;
}

-- a read of any value
any_read : {n : Next} {w u : ℕ} {t : Option Thread} (v : ℕ) → Goes n (Read w u) t → (later : Option Thread) × Goes n (Read w v) later
any_read v (reading {t = f}) = (Some (f v), reading)

module _ (program : Program) (nodes : ℕ) (acts : List Act) (machine : Plain) (s : StandsAt program nodes acts machine) where
  abbrev now : Plain
  now = with_memory machine s.memory

  module _ (node : ℕ) (thread : Thread) (at : thread_in machine node ≡ Some thread) where
    fine : IsFine thread (next_of thread)
    fine = next_of-fine thread

    below : node < nodes
    below =
        let within = thread_within machine node thread at in
        let sizes = s.matches.sizes in
        let size = s.size in
        omega arith

    follows_after : (d : Deed) (t : Option Thread) → Goes (next_of thread) d t → FollowsText program nodes (acts ++ act_of node d ∷ [])
    follows_after d t goes = follows_more program nodes acts node d s.follows below
        (comes_makes (comes_more (subst (λ o. Comes (Some (start_of program nodes node)) (deeds_of node acts) o) at (s.leads node below)) goes))

  -- the machine stands where a deed leads
  pub stands_next : (node : ℕ) (deed : Deed) (memory : List ℕ) (after : Plain) → plain_step (with_memory machine memory) node ≡ Some (deed, after)
      → StandsAt program nodes (acts ++ act_of node deed ∷ []) after
  stands_next node deed memory after step_is =
      let made = stepped (with_memory machine memory) node deed after step_is in
      let thread = made.thread in
      let at : thread_in machine node ≡ Some thread = made.there in
      let t = made.took.goes_on_as in
      let goes = made.took.goes in
      let act = act_of node deed in
      let run = acts ++ act ∷ [] in
      let found = matches_after acts machine s.memory s.matches node thread at memory deed t goes made.took.can in
      let words = found.0 in
      let is : with_memory after words ≡ with_memory (after_of machine node deed t) words = ap (λ (m : Plain). with_memory m words) made.took.is in
      let lt = below node thread at in
      record {
        follows = follows_after node thread at deed t goes;
        memory = words;
        matches = subst (λ k. Matches run k (with_memory after words)) (sym (length_push acts act))
            (subst (λ m. Matches run (length acts + 1) m) (sym is) found.1);
        long = found.2 ∙ s.long;
        size = ap (λ (m : Plain). length m.arrivals) made.took.is ∙ length-arrivals node deed machine.arrivals ∙ s.size;
        leads = λ n below_n. elim (cases_eq node n) [
          | inl own ↦
              subst (λ x. Comes (Some (start_of program nodes x)) (deeds_of x run) (thread_in after x)) own
              (subst (λ ds. Comes (Some (start_of program nodes node)) ds (thread_in after node)) (sym (deeds_more-own node acts deed))
              (subst (λ o. Comes (Some (start_of program nodes node)) (deeds_of node acts ++ deed ∷ []) o) (sym made.own)
              (comes_more (subst (λ o. Comes (Some (start_of program nodes node)) (deeds_of node acts) o) at (s.leads node lt)) goes)))
          | inr other ↦
              subst (λ ds. Comes (Some (start_of program nodes n)) ds (thread_in after n)) (sym (deeds_same n acts act other))
              (subst (λ o. Comes (Some (start_of program nodes n)) (deeds_of n acts) o) (sym (made.others n (λ e. other (sym e)))) (s.leads n below_n))
        ];
      }

  -- ---- what the machine can make

  -- the thread of a node whose act may come next, and where that leads it
  pub record Coming (node : ℕ) (deed : Deed) : Type 0 where
    pub thread : Thread
    pub there : thread_in machine node ≡ Some thread
    pub after : Option Thread
    pub goes : Goes (next_of thread) deed after

  pub coming : (node : ℕ) (deed : Deed) → FollowsText program nodes (acts ++ act_of node deed ∷ []) → Coming node deed
  coming node deed follows =
      let act = act_of node deed in
      let lt : node < nodes = in_range follows (length acts) node deed (Does-last acts act) in
      let makes = subst (λ ds. Makes (Some (start_of program nodes node)) ds) (deeds_more-own node acts deed) (follows.each node lt) in
      let found = comes_goes (deeds_of node acts) (s.leads node lt) makes in
      record { thread = found.thread; there = found.stands; after = found.after; goes = found.goes }

  -- a read's word is there
  pub read_within : (node w v : ℕ) → Coming node (Read w v) → w < program.words
  read_within node w v c =
      let stays = read_stays (fine node c.thread c.there) c.goes in
      let words = (s.matches.threads node c.thread c.there).words in
      let long = s.long in
      let lt = stays.0 in
      omega arith

  -- with words in which a read finds its value, the machine makes an act that may come next
  pub makes_read : (node w v : ℕ) (memory : List ℕ) → Coming node (Read w v) → slice_index memory w ≡ v
      → (after : Plain) × (plain_step (with_memory machine memory) node ≡ Some (Read w v, after))
  makes_read node w v memory c value = (
    after_of (with_memory machine memory) node (Read w v) c.after,
    can_step (with_memory machine memory) node c.thread (Read w v) c.there refl c.goes (sym value),
  )

  pub makes_other : (node : ℕ) (deed : Deed) (memory : List ℕ) → Coming node deed → MayGoOn nodes acts (act_of node deed)
      → ((w v : ℕ) → deed ≡ Read w v → ⊥) → (after : Plain) × (plain_step (with_memory machine memory) node ≡ Some (deed, after))
  makes_other node deed memory c may other = (
    after_of (with_memory machine memory) node deed c.after,
    can_step (with_memory machine memory) node c.thread deed c.there refl c.goes
        (still deed (can_do acts nodes (length acts) node now c.thread c.there s.matches s.size c.goes (fine node c.thread c.there) (sound_of nodes acts node deed other may)) other),
  )
    where
      -- what a deed that is no read needs does not depend on the words
      still : (d : Deed) → CanDo now node d → ((w v : ℕ) → d ≡ Read w v → ⊥) → CanDo (with_memory machine memory) node d
      still (Read w v) can other_deed = absurd (other_deed w v refl)
      still d can other_deed = can

  -- ---- the end

  pub over_to_rest : (memory : List ℕ) → IsOver program nodes acts → IsAtRest (with_memory machine memory)
  over_to_rest memory over node = go (plain_step (with_memory machine memory) node) refl
    where
      go : (o : Option (Deed × Plain)) → plain_step (with_memory machine memory) node ≡ o → o ≡ None
      go None is = refl
      go (Some (deed, after)) is =
          let made = stepped (with_memory machine memory) node deed after is in
          let t = made.took.goes_on_as in
          absurd (over (act_of node deed) (record {
            follows = follows_after node made.thread made.there deed t made.took.goes;
            may = may_after nodes acts machine s.memory s.matches s.size node made.thread made.there memory deed t made.took.goes made.took.can;
          }))

  none_next : (memory : List ℕ) → IsAtRest (with_memory machine memory) → (node : ℕ) (deed : Deed) → Coming node deed
      → MayGoOn nodes acts (act_of node deed) → ⊥
  none_next memory rest node (Read w u) c may =
      let found = any_read (slice_index memory w) c.goes in
      let on : Coming node (Read w (slice_index memory w)) = record { thread = c.thread; there = c.there; after = found.0; goes = found.1 } in
      let made = makes_read node w (slice_index memory w) memory on refl in
      let never : ◌≡◌ {A = Option (Deed × Plain)} None (Some (Read w (slice_index memory w), made.0)) = sym (rest node) ∙ made.1 in
      cc
  none_next memory rest node deed c may =
      let made = makes_other node deed memory c may (λ w v e. cc) in
      let never : ◌≡◌ {A = Option (Deed × Plain)} None (Some (deed, made.0)) = sym (rest node) ∙ made.1 in
      cc

  pub rest_to_over : (memory : List ℕ) → IsAtRest (with_memory machine memory) → IsOver program nodes acts
  rest_to_over memory rest act next = none_next memory rest act.node act.deed (coming act.node act.deed next.follows) next.may
