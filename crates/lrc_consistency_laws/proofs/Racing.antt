-- The first race of a lazy run is one of the plain machine.
use Rattle.std.proofs.Common.{◌≡◌, ℕ, zero, suc, ◌+◌, ◌<◌, ◌≤◌, List, [], ◌∷◌, ◌++◌, length, take, drop, refl, sym, subst, ◌∙◌, ap, inl, inr, arith, add-one}
use Rattle.std.specs.Prelude.{Some}
use Rattle.std.proofs.lemmas.Bool.{cases_lt}
use Rattle.std.proofs.lemmas.List.{take-append-drop, length-take, map-append}
use Rattle.std.proofs.lemmas.Option.{same_Some}
use Rattle.lrc_program.specs.declared.Program.{Program}
use Rattle.lrc_trace.specs.declared.act.Act.{Act}
use Rattle.lrc_trace.specs.declared.act.Deed.{Deed}
use Rattle.lrc_trace.specs.Run.{Does, act_of}
use Rattle.lrc_trace.specs.Conflict.{Accesses, Races, IsRaceFree}
use Rattle.lrc_trace.specs.Outline.{without_value, outline, SameButValues}
use Rattle.lrc_trace.specs.Reading.{ReadsLazily}
use Rattle.lrc_trace.specs.Synchronization.{IsWellSynchronized}
use Rattle.lrc_trace.proofs.Positions.{Does-within}
use Rattle.lrc_trace.proofs.Intervals.{act_at}
use Rattle.lrc_trace.proofs.Prefixes.{Races-shorter}
use Rattle.lrc_trace.proofs.Outlines.{same_races}
use Rattle.lrc_exec.specs.Plain.{plain}
use Rattle.lrc_exec.specs.Follows.{nodes_of_acts, FollowsText}
use Rattle.lrc_consistency_laws.specs.Kinds.{SameKind, same, reads}
use Rattle.lrc_consistency_laws.specs.Racing.{HasNoRace, PlainToRace}
use Rattle.lrc_consistency_laws.proofs.Ahead.{take_ahead}
use Rattle.lrc_consistency_laws.proofs.UpToRace.{up_to_race}

-- deeds of one kind differ in a value at most
kind_same : {d e : Deed} → SameKind d e → without_value d ≡ without_value e
kind_same same = refl
kind_same reads = refl

-- so do the acts up to a position, and those with one of the same kind there
same_to : (run : List Act) (position node : ℕ) (d e : Deed) → Does run position node d → SameKind d e
    → SameButValues (take (position + 1) run) (take position run ++ act_of node e ∷ [])
same_to run position node d e does kind =
    ap (λ k. outline (take k run)) (add-one position)
    ∙ ap outline (take_ahead run position (act_of node d) does.stands)
    ∙ map-append _ (take position run) (act_of node d ∷ [])
    ∙ ap (λ x. outline (take position run) ++ act_of node x ∷ []) (kind_same kind)
    ∙ sym (map-append _ (take position run) (act_of node e ∷ []))

-- an access stands in the run
access_within : {run : List Act} {j q word : ℕ} → Accesses run j q word → j < length run
access_within (inl (v, does)) = Does-within does
access_within (inr (v, does)) = Does-within does

-- a race to a position is one of the acts up to and with it
race_to : (run : List Act) (i position : ℕ) → position < length run → Races run i position → Races (take (position + 1) run) i position
race_to run i position within race =
    Races-shorter (take (position + 1) run) (drop (position + 1) run) (let long = length-take (position + 1) run in omega arith)
    (subst (λ x. Races x i position) (sym (take-append-drop (position + 1) run)) race)

module _ (program : Program) (nodes : ℕ) (run : List Act) (follows : FollowsText program nodes run) (ws : IsWellSynchronized nodes run)
    (lazily : ReadsLazily run) where
  -- what the plain machine makes up to a position that no race comes before, and its race there
  record PlainRace (i position : ℕ) : Type 0 where
    made : List Act
    is : plain program nodes (nodes_of_acts (take (position + 1) run)) ≡ Some made
    races : Races made i position

  plain_race : (i position : ℕ) → ((k j : ℕ) → Races run k j → position ≤ j) → Races run i position → PlainRace i position
  plain_race i position first race =
      let within : position < length run = access_within race.conflict.3.second in
      let act = act_at run position within in
      let there = (up_to_race program nodes run follows ws lazily position first).there act.0.node act.0.deed act.1 in
      record {
        made = take position run ++ act_of act.0.node there.0 ∷ [];
        is = there.2;
        races = same_races (take (position + 1) run) (take position run ++ act_of act.0.node there.0 ∷ [])
            (same_to run position act.0.node act.0.deed there.0 act.1 there.1) (race_to run i position within race);
      }

  pub plain_to_race : (position : ℕ) → ((i j : ℕ) → Races run i j → position ≤ j) → PlainToRace program nodes run position
  plain_to_race position first = record {
    upto = up_to_race program nodes run follows ws lazily position first;
    races = λ i other race is.
        let r = plain_race i position first race in subst (λ x. Races x i position) (same_Some r.made other (sym r.is ∙ is)) r.races;
  }

  -- where the program has no race, no race comes to a position of the run
  none_below : HasNoRace program nodes → (bound i j : ℕ) → j < bound → Races run i j → ⊥
  none_below none zero i j lt race = absurd (omega (arith, lt))
  none_below none (suc bound) i j lt race =
      let first : (k m : ℕ) → Races run k m → j ≤ m = λ k m other. elim (cases_lt m j) [
        | inl before ↦ absurd (none_below none bound k m (omega (arith, lt, before)) other)
        | inr le ↦ le
      ] in
      let r = plain_race i j first race in
      none (nodes_of_acts (take (j + 1) run)) r.made r.is i j r.races

  pub race_free : HasNoRace program nodes → IsRaceFree run
  race_free none i j race = none_below none (j + 1) i j (omega arith) race
