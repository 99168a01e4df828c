-- A lazy run on the plain machine, up to its first race.
use Rattle.std.proofs.Common.{◌≡◌, ℕ, zero, suc, ◌+◌, ◌<◌, ◌≤◌, List, [], ◌∷◌, ◌++◌, length, take, drop, sym, subst, ◌∙◌, ap, refl, arith, add-one}
use Rattle.std.specs.Prelude.{Option, Some, slice_get, slice_index, slice_index_or, option_map, option_and_then}
use Rattle.std.proofs.lemmas.List.{take-append-drop, length-take, map-append, take_all}
use Rattle.std.proofs.lemmas.Option.{get_or_from_slice_get}
use Rattle.lrc_program.specs.declared.Program.{Program}
use Rattle.lrc_trace.specs.declared.act.Act.{Act}
use Rattle.lrc_trace.specs.declared.act.Deed.{Deed}
use Rattle.lrc_trace.specs.declared.act.Deed.TheVariants.{Quiet, Print, Read, Write, Acquire, Release, Arrive, Depart, Trap, End}
use Rattle.lrc_trace.specs.Run.{Does, act_of}
use Rattle.lrc_trace.specs.Conflict.{Races, IsRaceFree}
use Rattle.lrc_trace.specs.Reading.{ReadsLazily}
use Rattle.lrc_trace.specs.Synchronization.{IsWellSynchronized}
use Rattle.lrc_trace.proofs.Positions.{Does-within}
use Rattle.lrc_exec.specs.Meaning.{Thread, Next, next_of}
use Rattle.lrc_exec.specs.Plain.{Plain, deed_done, thread_in, plain_step, plain_from, plain, plain_start}
use Rattle.lrc_exec.specs.Follows.{Goes, quietly, printing, reading, writing, acquiring, releasing, arriving}
use Rattle.lrc_exec.specs.Follows.{departing, trapping, ending, Makes, nodes_of_acts, FollowsText}
use Rattle.lrc_consistency_laws.specs.Kinds.{SameKind, same, reads, PlainUpTo}
use Rattle.lrc_consistency_laws.proofs.Ahead.{take_ahead}
use Rattle.lrc_exec.proofs.NextLaws.{IsFine, next_of-fine}
use Rattle.lrc_consistency_laws.specs.Matching.{Matches}
use Rattle.lrc_consistency_laws.proofs.Lazy.{reads_last}
use Rattle.lrc_consistency_laws.proofs.Runs.{SoundAt, done, can_do, makes_first, deeds_of-own, Ready, Led, led, start_ready}
use Rattle.lrc_consistency_laws.proofs.Plainly.{one_more, plain_from-joined}

-- the acts of a run that follows the text are of its nodes
pub in_range : {program : Program} {nodes : ℕ} {run : List Act} → FollowsText program nodes run → (k n : ℕ) (d : Deed) → Does run k n d → n < nodes
in_range {nodes = nodes} {run = run} follows k n d h =
    let a = act_of n d in
    let at : slice_index_or run k a ≡ a = get_or_from_slice_get run k a a h.stands in
    subst (λ x. x.node < nodes) at (follows.in_range k a (Does-within h))

-- what well-synchronization and lazy reading say of a deed before the first race
pub lazy_sound : (nodes : ℕ) (run : List Act) (position : ℕ) → IsWellSynchronized nodes run → ReadsLazily run → ((i j : ℕ) → Races run i j → position ≤ j)
    → (k n : ℕ) (d : Deed) → k < position → Does run k n d → SoundAt run nodes k n d
lazy_sound nodes run position ws lazily first k n Quiet lt h = tt
lazy_sound nodes run position ws lazily first k n (Print v) lt h = tt
lazy_sound nodes run position ws lazily first k n (Read w v) lt h =
    let calm : (i j : ℕ) → j ≤ k → Races run i j → ⊥ = λ i j le r. let late = first i j r in omega arith in
    reads_last run k calm n w v h (lazily k w v (n, h))
lazy_sound nodes run position ws lazily first k n (Write w v) lt h = tt
lazy_sound nodes run position ws lazily first k n (Acquire l) lt h = ws.acquires k n l h
lazy_sound nodes run position ws lazily first k n (Release l) lt h = ws.releases k n l h
lazy_sound nodes run position ws lazily first k n Arrive lt h = tt
lazy_sound nodes run position ws lazily first k n Depart lt h = ws.departs k n h
lazy_sound nodes run position ws lazily first k n (Trap c) lt h = tt
lazy_sound nodes run position ws lazily first k n End lt h = tt

-- a deed of the same kind as this one, which the machine makes
record Made (machine : Plain) (node : ℕ) (n : Next) (d : Deed) : Type 0 where
  other : Deed
  kind : SameKind d other
  after : Plain
  is : deed_done machine node n ≡ Some (other, after)

module _ (run : List Act) (nodes j node : ℕ) (machine : Plain) (t : Thread) (at : thread_in machine node ≡ Some t) (m : Matches run j machine)
    (size : length machine.arrivals ≡ nodes) (ws : IsWellSynchronized nodes run) where
  as_it_is : {n : Next} {d : Deed} {t' : Option Thread} → Goes n d t' → IsFine t n → SoundAt run nodes j node d → Made machine node n d
  as_it_is {d = d} g f s =
      let result = done machine node g (can_do run nodes j node machine t at m size g f s) in
      record { other = d; kind = same; after = result.0; is = result.1.is }

  made : {n : Next} {d : Deed} {t' : Option Thread} → Goes n d t' → IsFine t n → Does run j node d → Made machine node n d
  made quietly f h = as_it_is quietly f tt
  made printing f h = as_it_is printing f tt
  made (reading {t = t'} {w = w} {v = v}) f h =
      let value = slice_index machine.memory w in
      let result = done machine node (reading {t = t'} {w = w} {v = value}) refl in
      record { other = Read w value; kind = reads; after = result.0; is = result.1.is }
  made writing f h = as_it_is writing f tt
  made (acquiring {l = l}) f h = as_it_is acquiring f (ws.acquires j node l h)
  made (releasing {l = l}) f h = as_it_is releasing f (ws.releases j node l h)
  made arriving f h = as_it_is arriving f tt
  made departing f h = as_it_is departing f (ws.departs j node h)
  made trapping f h = as_it_is trapping f tt
  made ending f h = as_it_is ending f tt

-- what stands at a position is the first of what is still to come
drop_here : {A : Type 0} → (xs : List A) (j : ℕ) (x : A) → slice_get xs j ≡ Some x → drop j xs ≡ x ∷ drop (suc j) xs
drop_here [] j x e = cc
drop_here (y ∷ xs) zero x e = cc
drop_here (y ∷ xs) (suc j) x e = drop_here xs j x e

module _ (program : Program) (nodes : ℕ) (run : List Act) (follows : FollowsText program nodes run) (ws : IsWellSynchronized nodes run)
    (lazily : ReadsLazily run) where
  led_to : (position : ℕ) → ((i j : ℕ) → Races run i j → position ≤ j) → Led run nodes 0 (plain_start program nodes) (take position run) (drop position run)
  led_to position first =
      let start = start_ready program nodes run follows in
      let short = length-take position run in
      led run nodes 0 (plain_start program nodes) (take position run) (drop position run)
      (subst (λ acts. Ready run nodes 0 (plain_start program nodes) acts) (sym (take-append-drop position run)) start) (in_range follows)
      (λ k n d lt h. lazy_sound nodes run position ws lazily first k n d (omega arith) h)

  pub before_race : (position : ℕ) → ((i j : ℕ) → Races run i j → position ≤ j) → plain program nodes (nodes_of_acts (take position run)) ≡ Some (take position run)
  before_race position first = ap (option_map (λ r. r.0)) (led_to position first).is

  -- one act more
  at_race : (position : ℕ) → ((i j : ℕ) → Races run i j → position ≤ j) → (node : ℕ) (deed : Deed) → Does run position node deed
      → (other : Deed) × SameKind deed other × (plain program nodes (nodes_of_acts (take (position + 1) run)) ≡ Some (take position run ++ act_of node other ∷ []))
  at_race position first node deed here =
      let l = led_to position first in
      let a = act_of node deed in
      let within = Does-within here in
      let long : length (take position run) ≡ position = length-take position run ∙ omega arith in
      let r : Ready run nodes position l.final (a ∷ drop (suc position) run) =
      subst (λ acts. Ready run nodes position l.final acts) (drop_here run position a here.stands)
      (subst (λ k. Ready run nodes k l.final (drop position run)) (let e : 0 + length (take position run) ≡ position = omega arith in e) l.ready) in
      let f = makes_first (subst (λ ds. Makes (thread_in l.final node) ds) (deeds_of-own a (drop (suc position) run))
      (r.makes node (in_range follows position node deed here))) in
      let m = made run nodes position node l.final f.thread f.is r.matches r.size ws f.goes (next_of-fine f.thread) here in
      let first_step : plain_step l.final node ≡ Some (m.other, m.after) = ap (λ o. option_and_then (λ thread. deed_done l.final node (next_of thread)) o) f.is
      ∙ m.is in
      let last : plain_from l.final (node ∷ []) ≡ Some (act_of node m.other ∷ [], m.after) =
      one_more l.final m.after m.after node m.other [] [] first_step refl in
      let whole = plain_from-joined (nodes_of_acts (take position run)) (node ∷ []) (plain_start program nodes) l.final m.after (take position run)
      (act_of node m.other ∷ []) l.is last in
      let order : nodes_of_acts (take (position + 1) run) ≡ nodes_of_acts (take position run) ++ node ∷ [] = ap (λ k. nodes_of_acts (take k run)) (add-one position)
      ∙ ap nodes_of_acts (take_ahead run position a here.stands) ∙ map-append (λ (x : Act). x.node) (take position run) (a ∷ []) in
      (m.other, m.kind, ap (λ o. option_map (λ x. x.0) (plain_from (plain_start program nodes) o)) order ∙ ap (option_map (λ x. x.0)) whole)

  pub up_to_race : (position : ℕ) → ((i j : ℕ) → Races run i j → position ≤ j) → PlainUpTo program nodes run position
  up_to_race position first = record { before = before_race position first; there = at_race position first }

  pub without_race : IsRaceFree run → plain program nodes (nodes_of_acts run) ≡ Some run
  without_race free =
      let e : take (length run) run ≡ run = take_all (length run) run (omega arith) in
      sym (ap (λ acts. plain program nodes (nodes_of_acts acts)) e) ∙ before_race (length run) (λ i j r. absurd (free i j r)) ∙ ap Some e
