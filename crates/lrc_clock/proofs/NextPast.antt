-- What one act more leaves for the times of the next.
use Rattle.std.proofs.Common.{◌≡◌, ◌≢◌, ℕ, zero, suc, ◌+◌, ◌<◌, ◌≤◌, Bool, true, false, List, [], ◌∷◌, ◌++◌}
use Rattle.std.proofs.Common.{length, get_or, set, take, replicate}
use Rattle.std.proofs.Common.{inl, inr, refl, sym, subst, ap, ◌∙◌, arith, length-set}
use Rattle.std.proofs.lemmas.Bool.{cases_Bool, cases_eq}
use Rattle.std.proofs.lemmas.List.{get_or_append_left, get_or_push, length_push, get_or-set_same, get_or-set_other, take-append-le}
use Rattle.std.specs.Prelude.{Option, Some, None}
use Rattle.lrc_trace.specs.declared.act.Act.{Act}
use Rattle.lrc_trace.specs.declared.act.Deed.{Deed}
use Rattle.lrc_trace.specs.declared.act.Deed.TheVariants.{Release, Arrive}
use Rattle.lrc_trace.specs.Run.{Does, arrives_before, count_of}
use Rattle.lrc_trace.proofs.Positions.{Does-last, Does-node, Does-one_node, Does-one_deed, arrives_before-prefix}
use Rattle.lrc_trace.proofs.Counts.{bound_same, bound_next, counts_same, counts_next}
use Rattle.lrc_time.specs.Time.{zeros, joined}
use Rattle.lrc_clock.specs.Times.{time_at, acts_at, releases_at, time_before, released_time, arrived_time}
use Rattle.lrc_clock.specs.Keeping.{KeepsTime, next_act_time}
use Rattle.lrc_clock.proofs.Computing.{arrived-here, arrived-other}
use Rattle.lrc_clock.proofs.Lasting.{last-here, last-not_here}
use Rattle.lrc_clock.proofs.Passing.{acts_at-true, acts_at-act, releases_at-true, releases_at-act}
use Rattle.lrc_clock.proofs.Prefixes.{keeps-more, time_before-prefix, released_time-prefix, arrived_time-prefix}
use Rattle.lrc_clock.proofs.Rules.{long}
use Rattle.lrc_clock.specs.Joined.{IsJoined}
use Rattle.lrc_clock.specs.Past.{IsTimedPast, IsTimeAt}
use Rattle.lrc_clock.specs.declared.past.Past.{Past}

module _ (nodes : ℕ) (run : List Act) (times : List (List ℕ)) (act : Act) (time : List ℕ) (timed : length times ≡ length run) where
  abbrev pub grown : List Act
  grown = run ++ act ∷ []

  abbrev pub later : List (List ℕ)
  later = times ++ time ∷ []

  last_is : time_at later (length run) ≡ time
  last_is = get_or_push times time [] (length run) timed

  here : Does grown (length run) act.node act.deed
  here = Does-last run act

  long_grown : length grown ≡ length run + 1
  long_grown = length_push run act

  -- ---- nodes

  pub before-own : time_before nodes grown later act.node (length grown) ≡ time
  before-own =
      ap (λ n. time_before nodes grown later act.node n) long_grown
      ∙ last-here nodes (acts_at grown act.node) later (length run) (acts_at-true grown (length run) act.node act.deed here)
      ∙ last_is

  not_acting : (q : ℕ) → q ≢ act.node → acts_at grown q (length run) ≡ false
  not_acting q other = elim (cases_Bool (acts_at grown q (length run))) [
    | inr fails ↦ fails
    | inl holds ↦ let (deed, does) = acts_at-act grown (length run) q holds in absurd (other (Does-one_node does here))
  ]

  pub before-other : (q : ℕ) → q ≢ act.node → time_before nodes grown later q (length grown) ≡ time_before nodes run times q (length run)
  before-other q other =
      ap (λ n. time_before nodes grown later q n) long_grown
      ∙ last-not_here nodes (acts_at grown q) later (length run) (not_acting q other)
      ∙ time_before-prefix run (act ∷ []) times (time ∷ []) timed nodes q (length run) (omega arith)

  -- ---- locks

  pub released-own : (l : ℕ) → act.deed ≡ Release l → released_time nodes grown later l (length grown) ≡ time
  released-own l is =
      ap (λ n. released_time nodes grown later l n) long_grown
      ∙ last-here nodes (releases_at grown l) later (length run)
      (releases_at-true grown (length run) act.node l (subst (λ (d : Deed). Does grown (length run) act.node d) is here))
      ∙ last_is

  not_releasing : (l : ℕ) → (act.deed ≡ Release l → ⊥) → releases_at grown l (length run) ≡ false
  not_releasing l other = elim (cases_Bool (releases_at grown l (length run))) [
    | inr fails ↦ fails
    | inl holds ↦ let (node, does) = releases_at-act grown (length run) l holds in absurd (other (Does-one_deed here does))
  ]

  pub released-other : (l : ℕ) → (act.deed ≡ Release l → ⊥)
      → released_time nodes grown later l (length grown) ≡ released_time nodes run times l (length run)
  released-other l other =
      ap (λ n. released_time nodes grown later l n) long_grown
      ∙ last-not_here nodes (releases_at grown l) later (length run) (not_releasing l other)
      ∙ released_time-prefix run (act ∷ []) times (time ∷ []) timed nodes l (length run) (omega arith)

  -- ---- barriers

  same_number : arrives_before grown act.node (length run) ≡ arrives_before run act.node (length run)
  same_number = arrives_before-prefix run (act ∷ []) act.node (length run) (omega arith)

  same_arrived : (number : ℕ) → arrived_time nodes grown later number (length run) ≡ arrived_time nodes run times number (length run)
  same_arrived number = arrived_time-prefix run (act ∷ []) times (time ∷ []) timed nodes number (length run) (omega arith)

  pub arrived-own : (number : ℕ) → act.deed ≡ Arrive → arrives_before run act.node (length run) ≡ number
      → arrived_time nodes grown later number (length grown) ≡ joined (arrived_time nodes run times number (length run)) time
  arrived-own number is same =
      ap (λ n. arrived_time nodes grown later number n) long_grown
      ∙ arrived-here nodes grown later number (length run) act.node (subst (λ (d : Deed). Does grown (length run) act.node d) is here)
      (same_number ∙ same)
      ∙ ap (λ t. joined t (time_at later (length run))) (same_arrived number)
      ∙ ap (λ t. joined (arrived_time nodes run times number (length run)) t) last_is

  pub arrived-rest : (number : ℕ) → (act.deed ≡ Arrive → arrives_before run act.node (length run) ≡ number → ⊥)
      → arrived_time nodes grown later number (length grown) ≡ arrived_time nodes run times number (length run)
  arrived-rest number other =
      ap (λ n. arrived_time nodes grown later number n) long_grown
      ∙ arrived-other nodes grown later number (length run) act.node act.deed here (λ is same. other is (sym same_number ∙ same))
      ∙ same_arrived number

  -- ---- tables of positions

  at-earlier : (position : Option ℕ) (t : List ℕ) → IsTimeAt nodes times position t → IsTimeAt nodes later position t
  at-earlier None t h = record { within = h.within; is = h.is }
  at-earlier (Some i) t h =
      let more = length_push times time in
      let lt : i < length times = h.within in
      record { within = omega arith; is = get_or_append_left times (time ∷ []) [] i lt ∙ h.is }

  at-last : IsTimeAt nodes later (Some (length times)) time
  at-last = let more = length_push times time in record { within = omega arith; is = get_or_push times time [] (length times) refl }

  module _ (table : List (Option ℕ)) (old new : ℕ → List ℕ)
      (were : (x : ℕ) → x < length table → IsTimeAt nodes times (get_or table x None) (old x)) where
    same_at : (x : ℕ) → x < length table → new x ≡ old x → IsTimeAt nodes later (get_or table x None) (new x)
    same_at x lt same =
        let position = get_or table x None in
        subst (λ t. IsTimeAt nodes later position t) (sym same) (at-earlier position (old x) (were x lt))

    -- a table stays, where no time changes,
    pub table-same : ((x : ℕ) → new x ≡ old x) → (x : ℕ) → x < length table → IsTimeAt nodes later (get_or table x None) (new x)
    table-same same x lt = same_at x lt (same x)

    -- and has the last position at the one place whose time is new
    pub table-next : (place position : ℕ) → position ≡ length times → new place ≡ time → ((x : ℕ) → x ≢ place → new x ≡ old x) → (x : ℕ)
        → x < length (set table place (Some position)) → IsTimeAt nodes later (get_or (set table place (Some position)) x None) (new x)
    table-next place position is own others x lt =
        let wide = length-set table place (Some position) in
        let within : x < length table = omega arith in
        elim (cases_eq x place) [
          | inl same ↦
              let set_is : get_or (set table place (Some position)) x None ≡ Some (length times) =
              ap (λ k. get_or (set table place (Some position)) k None) same
              ∙ get_or-set_same table place (Some position) None (subst (λ k. k < length table) same within)
              ∙ ap (λ n. Some n) is in
              subst (λ p. IsTimeAt nodes later p (new x)) (sym set_is)
              (subst (λ t. IsTimeAt nodes later (Some (length times)) t) (sym (ap new same ∙ own)) at-last)
          | inr other ↦
              subst (λ p. IsTimeAt nodes later p (new x)) (sym (get_or-set_other table place x (Some position) None other))
              (same_at x within (others x other))
        ]

  -- ---- times of barriers

  pub arrived-next : (old new : List (List ℕ)) (number : ℕ) → act.deed ≡ Arrive → arrives_before run act.node (length run) ≡ number
      → ((k : ℕ) → get_or old k (zeros nodes) ≡ arrived_time nodes run times k (length run)) → IsJoined nodes number time old new → (k : ℕ)
      → get_or new k (zeros nodes) ≡ arrived_time nodes grown later k (length grown)
  arrived-next old new number is same were joins k =
      elim (cases_eq k number) [
        | inl e ↦
            ap (λ n. get_or new n (zeros nodes)) e ∙ joins.here ∙ ap (λ t. joined t time) (were number) ∙ sym (arrived-own number is same)
            ∙ ap (λ n. arrived_time nodes grown later n (length grown)) (sym e)
        | inr other ↦ joins.others k other ∙ were k ∙ sym (arrived-rest k (λ arrives e. other (sym e ∙ same)))
      ]

  -- ---- counts

  module _ (kind : Deed → Bool) where
    abbrev before : ℕ → ℕ
    before q = count_of kind q (take (length run) run)

    abbrev after : ℕ → ℕ
    after q = count_of kind q (take (length grown) grown)

    at_run : (q : ℕ) → count_of kind q (take (length run) grown) ≡ before q
    at_run q = ap (count_of kind q) (take-append-le (length run) run (act ∷ []) (omega arith))

    at_grown : (q : ℕ) → count_of kind q (take (length run + 1) grown) ≡ after q
    at_grown q = ap (λ n. count_of kind q (take n grown)) (sym long_grown)

    pub counts-same : (counts : List ℕ) → kind act.deed ≡ false → ((q : ℕ) → q < length counts → get_or counts q 0 ≡ before q) → (q : ℕ)
        → q < length counts → get_or counts q 0 ≡ after q
    counts-same counts fails old q lt =
        counts_same grown (length run) act.node act.deed here kind counts fails (λ k less. old k less ∙ sym (at_run k)) q lt ∙ at_grown q

    pub counts-next : (place : ℕ) → place ≡ act.node → (counts : List ℕ) → kind act.deed ≡ true → place < length counts
        → ((q : ℕ) → q < length counts → get_or counts q 0 ≡ before q) → (q : ℕ) → q < length (set counts place (get_or counts place 0 + 1))
        → get_or (set counts place (get_or counts place 0 + 1)) q 0 ≡ after q
    counts-next place is counts passes wide old q lt =
        counts_next grown (length run) place act.deed (Does-node (sym is) here) kind counts passes wide
        (λ k less. old k less ∙ sym (at_run k)) q lt
        ∙ at_grown q

    pub bound-same : (m : ℕ) → kind act.deed ≡ false → ((q : ℕ) → before q ≤ m) → (q : ℕ) → after q ≤ m
    bound-same m fails old q =
        let within : (k : ℕ) → count_of kind k (take (length run) grown) ≤ m = λ k. (let a = at_run k in let b = old k in omega arith) in
        let c = bound_same grown (length run) act.node act.deed here kind m fails within q in
        let d = at_grown q in
        omega arith

    pub bound-next : (m more : ℕ) → kind act.deed ≡ true → m ≤ more → before act.node < more → ((q : ℕ) → before q ≤ m) → (q : ℕ)
        → after q ≤ more
    bound-next m more passes le lt old q =
        let within : (k : ℕ) → count_of kind k (take (length run) grown) ≤ m = λ k. (let a = at_run k in let b = old k in omega arith) in
        let less : count_of kind act.node (take (length run) grown) < more = (let a = at_run act.node in omega arith) in
        let c = bound_next grown (length run) act.node act.deed here kind m more passes le less within q in
        let d = at_grown q in
        omega arith

-- ---- before any act

no_position : (n x : ℕ) → get_or {A = Option ℕ} (replicate n None) x None ≡ None
no_position zero x = refl
no_position (suc n) zero = refl
no_position (suc n) (suc x) = no_position n x

no_count : (n x : ℕ) → get_or {A = ℕ} (replicate n 0) x 0 ≡ 0
no_count zero x = refl
no_count (suc n) zero = refl
no_count (suc n) (suc x) = no_count n x

pub starts : (nodes : ℕ) (past : Past) → past.acted ≡ replicate 16 None → past.released ≡ replicate 256 None → past.arrived.items ≡ []
    → past.arrives ≡ replicate 16 0 → past.departs ≡ replicate 16 0 → IsTimedPast nodes [] [] past
starts nodes past acted released arrived arrives departs = record {
  acted = λ node lt. nowhere (get_or past.acted node None) (ap (λ l. get_or l node None) acted ∙ no_position 16 node);
  released = λ l lt. nowhere (get_or past.released l None) (ap (λ t. get_or t l None) released ∙ no_position 256 l);
  arrived = λ number. ap (λ l. get_or l number (zeros nodes)) arrived;
  kept = λ node. omega arith;
  arrives = λ node lt. ap (λ l. get_or l node 0) arrives ∙ no_count 16 node;
  departs = λ node lt. ap (λ l. get_or l node 0) departs ∙ no_count 16 node;
}
  where
    nowhere : (position : Option ℕ) → position ≡ None → IsTimeAt nodes [] position (zeros nodes)
    nowhere position is = let none : IsTimeAt nodes [] None (zeros nodes) = record { within = tt; is = refl } in
        subst (λ p. IsTimeAt nodes [] p (zeros nodes)) (sym is) none

-- the time of an act has an entry for each node
pub next-long : {nodes : ℕ} {run : List Act} {times : List (List ℕ)} (keeps : KeepsTime nodes run times) (act : Act) → act.node < nodes
    → length (next_act_time nodes run times act.node act.deed) ≡ nodes
next-long {nodes} {run} {times} keeps act lt =
    let time = next_act_time nodes run times act.node act.deed in
    let more = keeps-more nodes run times act time keeps lt refl in
    ap length (sym (get_or_push times time [] (length run) keeps.timed)) ∙ long more (length run) act.node act.deed (Does-last run act)
