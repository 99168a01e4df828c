-- What a call that computes times reads and joins.
use Rattle.std.proofs.Common.{◌≡◌, ℕ, ◌+◌, ◌<◌, ◌≤◌, List, [], ◌∷◌, ◌++◌, length, get_or, take, inl, inr, refl, ap, ◌∙◌, arith, add-one}
use Rattle.std.proofs.lemmas.Bool.{cases_Bool, cond-true, cond-false}
use Rattle.std.proofs.lemmas.List.{length-take-le, take_more}
use Rattle.std.proofs.lemmas.List.Sums.{count_by-le-length}
use Rattle.std.specs.Prelude.{◌==◌, ◌&&◌}
use Rattle.lrc_trace.specs.declared.act.Act.{Act}
use Rattle.lrc_trace.specs.declared.act.Deed.{Deed}
use Rattle.lrc_trace.specs.declared.act.Deed.TheVariants.{Release, Arrive}
use Rattle.lrc_trace.specs.Run.{Does, arrives_before}
use Rattle.lrc_trace.specs.Interval.{closes}
use Rattle.lrc_trace.proofs.Positions.{Does-within, Does-one_node, Does-one_deed}
use Rattle.lrc_time.specs.Time.{entry, joined}
use Rattle.lrc_clock.specs.Times.{time_at, releases_at, arrives_at, time_before, released_time, arrived_time}
use Rattle.lrc_clock.specs.Keeping.{KeepsTime, next_act_time}
use Rattle.lrc_clock.proofs.Passing.{releases_at-act, arrives_at-true, arrives_at-act}
use Rattle.lrc_clock.proofs.Lasting.{last-length, join-length}
use Rattle.lrc_clock.proofs.Rules.{long}
use Rattle.lrc_clock.proofs.Counting.{own_entry_before}
use Rattle.lrc_clock.proofs.Prefixes.{keeps-more}

module _ {nodes : ℕ} {run : List Act} {times : List (List ℕ)} (keeps : KeepsTime nodes run times) where
  pub arrived-length : (number j : ℕ) → length (arrived_time nodes run times number j) ≡ nodes
  arrived-length number j = join-length nodes (arrives_at run number) times j
      (λ i lt holds. let (p, does, same) = arrives_at-act run i number holds in long keeps i p Arrive does)

  pub released-length : (l j : ℕ) → length (released_time nodes run times l j) ≡ nodes
  released-length l j = last-length nodes (releases_at run l) times j
      (λ i lt holds. let (p, does) = releases_at-act run i l holds in long keeps i p (Release l) does)

  -- a node's own entry is at most the number of acts
  pub own-few : (node : ℕ) → entry (time_before nodes run times node (length run)) node ≤ length run
  own-few node =
      let own = own_entry_before keeps (length run) node (omega arith) in
      let few = count_by-le-length (λ (a : Act). a.node == node && closes a.deed) (take (length run) run) in
      let short = length-take-le (length run) run (omega arith) in
      omega arith

-- the join of a barrier, one position further
module _ (nodes : ℕ) (run : List Act) (times : List (List ℕ)) (number position node : ℕ) where
  pub arrived-here : Does run position node Arrive → arrives_before run node position ≡ number
      → arrived_time nodes run times number (position + 1) ≡ joined (arrived_time nodes run times number position) (time_at times position)
  arrived-here h same =
      ap (λ j. arrived_time nodes run times number j) (add-one position)
      ∙ cond-true (arrives_at run number position) (joined (arrived_time nodes run times number position) (time_at times position))
      (arrived_time nodes run times number position) (arrives_at-true run position node number h same)

  pub arrived-other : (deed : Deed) → Does run position node deed → (deed ≡ Arrive → arrives_before run node position ≡ number → ⊥)
      → arrived_time nodes run times number (position + 1) ≡ arrived_time nodes run times number position
  arrived-other deed h other =
      ap (λ j. arrived_time nodes run times number j) (add-one position)
      ∙ elim (cases_Bool (arrives_at run number position)) [
        | inr fails ↦ cond-false (arrives_at run number position) (joined (arrived_time nodes run times number position) (time_at times position))
            (arrived_time nodes run times number position) fails
        | inl holds ↦
            let (p, does, same) = arrives_at-act run position number holds in
            absurd (other (Does-one_deed h does) (ap (λ q. arrives_before run q position) (Does-one_node h does) ∙ same))
      ]

-- no act is timed by no times
pub keeps-none : (nodes : ℕ) → KeepsTime nodes [] []
keeps-none nodes = record {
  timed = refl;
  in_range = λ j node d h. let lt = Does-within h in absurd (omega arith);
  others = λ j node d h still. let lt = Does-within h in absurd (omega arith);
  release = λ j node l h. let lt = Does-within h in absurd (omega arith);
  arrive = λ j node h. let lt = Does-within h in absurd (omega arith);
  acquire = λ j node l h. let lt = Does-within h in absurd (omega arith);
  depart = λ j node h. let lt = Does-within h in absurd (omega arith);
}

-- an act more is timed
pub keeps-step : (nodes : ℕ) (run : List Act) (times seen all : List (List ℕ)) (position : ℕ) (d : Act) (time : List ℕ) → position < length run
    → (get_or run position d).node < nodes → KeepsTime nodes (take position run) times → seen ≡ times
    → time ≡ next_act_time nodes (take position run) seen (get_or run position d).node (get_or run position d).deed → all ≡ times ++ time ∷ []
    → KeepsTime nodes (take (position + 1) run) all
keeps-step nodes run times seen all position d time lt in_range keeps same is grown =
    let act = get_or run position d in
    let is' : time ≡ next_act_time nodes (take position run) times act.node act.deed = is
    ∙ ap (λ ts. next_act_time nodes (take position run) ts act.node act.deed) same in
    rw (take_more run position d lt, grown) (keeps-more nodes (take position run) times act time keeps in_range is')
