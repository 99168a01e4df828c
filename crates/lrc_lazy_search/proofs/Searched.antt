-- Where all states are searched, the outcomes are exactly those of the lazy runs.
use Rattle.std.proofs.Common.{◌≡◌, ℕ, zero, suc, ◌<◌, ◌≤◌, List, [], ◌∷◌, ◌++◌, length, refl, sym, subst, ◌∙◌, ap, arith, append_assoc}
use Rattle.std.specs.Prelude.{◌↔◌, Some, slice_get}
use Rattle.std.proofs.lemmas.List.{append-nil}
use Rattle.std.proofs.lemmas.Option.{slice_get_within}
use Rattle.lrc_program.specs.declared.Program.{Program}
use Rattle.lrc_trace.specs.declared.act.Act.{Act}
use Rattle.lrc_trace.specs.declared.act.Deed.{Deed}
use Rattle.lrc_trace.specs.Run.{act_of}
use Rattle.lrc_trace.proofs.Positions.{Does-last}
use Rattle.lrc_trace.proofs.Prefixes.{MayGoOn-last}
use Rattle.lrc_exec.specs.declared.spot.Flat.{Flat}
use Rattle.lrc_consistency_laws.proofs.UpToRace.{in_range}
use Rattle.lrc_orders.specs.declared.outcomes.Outcome.{Outcome}
use Rattle.lrc_orders.specs.Notes.{notes_of, notes_with}
use Rattle.lrc_orders.specs.Outcome.{HasOutcome}
use Rattle.lrc_exec.specs.States.{plain_at}
use Rattle.lrc_orders.proofs.Noting.{notes_more}
use Rattle.lrc_lazy.specs.Lazy.{IsLazyRun, IsLazyOutcome, IsOver, MayComeNext}
use Rattle.lrc_lazy_known.specs.Effect.{IsKnowledgeAfter}
use Rattle.lrc_lazy.proofs.Beginning.{first_notes}
use Rattle.lrc_lazy_search.specs.declared.state.LazyState.{LazyState}
use Rattle.lrc_lazy.specs.Standing.{IsRenewed, Stands, CanMake, effect_at}
use Rattle.lrc_lazy_search.specs.Fit.{IsFit}
use Rattle.lrc_lazy_search.specs.Searching.{Steps, IsForced, IsInFront, IsFresh, IsAhead, still, onward, renewed, IsAgain, Turns, Leads, to_one, to_turn}
use Rattle.lrc_lazy_search.specs.Searching.{HasKey, HasNexts, HasEnough, by_one, by_all}
use Rattle.lrc_lazy_search.specs.Searching.{CanAct, IsReached, IsSearched, AreSearched, AreSound, IsBegun}
use Rattle.lrc_lazy.proofs.Deeds.{lazy_front}
use Rattle.lrc_lazy.proofs.Front.{in_front}
use Rattle.lrc_lazy.proofs.Renewing.{stands_renewed}
use Rattle.lrc_lazy.proofs.Stepping.{stands_on, can_make, run_made, over_there, none_there}
use Rattle.lrc_lazy_search.proofs.Same.{stands_as, stands_same, notes_same}

-- ---- all lazy runs that end

module _ (program : Program) (flat : Flat) (words : flat.words ≡ program.words) (locks : flat.locks ≡ program.locks) (keys : List LazyState)
    (outcomes : List Outcome) (begun : IsBegun program flat keys) (searched : AreSearched flat keys outcomes (length keys)) where
  abbrev nodes : ℕ
  nodes = flat.nodes

  -- the run leads to where the state is
  abbrev StandsAt : List Act → LazyState → Type 0
  StandsAt acts key = Stands program nodes acts (plain_at flat key.state) key.knowledge

  -- the state stands for the run
  record IsOf (acts : List Act) (key : LazyState) : Type 0 where
    stands : StandsAt acts key
    noted : notes_of nodes acts ≡ key.notes.items

  -- a run that ends, behind what was made so far
  record Ending (acts left : List Act) (notes : List Act) : Type 0 where
    run : IsLazyRun program nodes (acts ++ left)
    over : IsOver program nodes (acts ++ left)
    are : notes_of nodes (acts ++ left) ≡ notes

  stands_then : (acts : List Act) (key after : LazyState) (node : ℕ) (deed : Deed) → StandsAt acts key → Steps flat key node deed after
      → StandsAt (acts ++ act_of node deed ∷ []) after
  stands_then acts key after node deed stands steps =
      let effect = subst (λ n. IsKnowledgeAfter (effect_at flat.nodes n (plain_at flat key.state) node deed) key.knowledge after.knowledge) locks steps.effect in
      stands_on program nodes acts (plain_at flat key.state) key.knowledge stands node deed steps.makes.memory steps.makes.later
      (plain_at flat after.state) after.knowledge steps.makes.made steps.gives effect

  -- where the run goes on as the state does, the state after stands for it
  goes_on : (acts : List Act) (key after : LazyState) (node : ℕ) (deed : Deed) → IsOf acts key → Steps flat key node deed after
      → IsOf (acts ++ act_of node deed ∷ []) after
  goes_on acts key after node deed of steps =
      let act = act_of node deed in
      let effect = subst (λ n. IsKnowledgeAfter (effect_at nodes n (plain_at flat key.state) node deed) key.knowledge after.knowledge) locks steps.effect in
      let stands = stands_on program nodes acts (plain_at flat key.state) key.knowledge of.stands node deed steps.makes.memory steps.makes.later
      (plain_at flat after.state) after.knowledge steps.makes.made steps.gives effect in
      let lt = in_range stands.run.follows (length acts) node deed (Does-last acts act) in
      record {
        stands = stands;
        noted = notes_more nodes acts act lt ∙ ap (λ notes. notes_with notes act) of.noted ∙ sym steps.notes;
      }

  -- what the run makes next the machine can make
  can_next : (acts : List Act) (key : LazyState) (node : ℕ) (deed : Deed) → StandsAt acts key → IsLazyRun program nodes (acts ++ act_of node deed ∷ [])
      → CanMake flat.words (plain_at flat key.state) key.knowledge node deed
  can_next acts key node deed stands run =
      subst (λ n. CanMake n (plain_at flat key.state) key.knowledge node deed) (sym words)
      (can_make program nodes acts (plain_at flat key.state) key.knowledge stands node deed run)

  -- a node that can do something other than acquire a lock may come next with it
  comes_next : (acts : List Act) (key : LazyState) (node : ℕ) → StandsAt acts key → (front : IsInFront flat key node)
      → MayComeNext program nodes acts (act_of node front.deed)
  comes_next acts key node stands front =
      let can = subst (λ n. CanMake n (plain_at flat key.state) key.knowledge node front.deed) words front.can in
      let run = run_made program nodes acts (plain_at flat key.state) key.knowledge stands node front.deed can in
      record { follows = run.follows; may = MayGoOn-last acts (act_of node front.deed) nodes run.synchronized }

  one_behind : (acts : List Act) (x : Act) (more : List Act) → acts ++ x ∷ more ≡ (acts ++ x ∷ []) ++ more
  one_behind acts x more = sym (append_assoc acts (x ∷ []) more)

  -- the run's next act, and what is left behind it
  record Next (acts : List Act) (count : ℕ) (notes : List Act) : Type 0 where
    node : ℕ
    deed : Deed
    run : IsLazyRun program nodes (acts ++ act_of node deed ∷ [])
    left : List Act
    ending : Ending (acts ++ act_of node deed ∷ []) left notes
    shorter : count ≡ suc (length left)

  its_next : (acts : List Act) (x : Act) (more notes : List Act) → Ending acts (x ∷ more) notes
      → (n : Next acts (suc (length more)) notes) × (n.node ≡ x.node)
  its_next acts x more notes e =
      let is = one_behind acts x more in
      let run = subst (IsLazyRun program nodes) is e.run in (
        record {
          node = x.node;
          deed = x.deed;
          run = lazy_front program nodes (acts ++ x ∷ []) more run;
          left = more;
          ending = record { run = run; over = subst (IsOver program nodes) is e.over; are = ap (notes_of nodes) (sym is) ∙ e.are };
          shorter = refl;
        },
        refl,
      )

  -- of some run with the same outcome it is that of a node in front
  front_next : (acts left notes : List Act) (key : LazyState) (node : ℕ) → StandsAt acts key → IsInFront flat key node → Ending acts left notes
      → (n : Next acts (length left) notes) × (n.node ≡ node)
  front_next acts left notes key node stands front e =
      let g = in_front program nodes node front.deed front.free left acts e.run e.over (comes_next acts key node stands front) in
      let act = act_of node g.other in
      let is = one_behind acts act g.rest in
      let run = subst (IsLazyRun program nodes) is g.run in (
        record {
          node = node;
          deed = g.other;
          run = lazy_front program nodes (acts ++ act ∷ []) g.rest run;
          left = g.rest;
          ending = record { run = run; over = subst (IsOver program nodes) is g.over; are = ap (notes_of nodes) (sym is) ∙ g.are ∙ e.are };
          shorter = g.shorter;
        },
        refl,
      )

  -- a state and what is left of a run, behind what it stands for
  record Left (key : LazyState) (most : ℕ) (notes : List Act) : Type 0 where
    acts : List Act
    of : IsOf acts key
    left : List Act
    ending : Ending acts left notes
    few : length left ≤ most

  stands_fresh : (acts : List Act) (key after : LazyState) → StandsAt acts key → IsFresh flat key after → StandsAt acts after
  stands_fresh acts key after stands fresh =
      stands_renewed program nodes acts (plain_at flat key.state) key.knowledge stands (plain_at flat after.state) after.knowledge
      (subst (λ l. IsRenewed nodes l (plain_at flat key.state) key.knowledge (plain_at flat after.state) after.knowledge) locks fresh.renewed)

  -- without the barriers that are gone a state stands for the same run
  left_fresh : (acts : List Act) (key after : LazyState) → IsOf acts key → IsFresh flat key after → IsOf acts after
  left_fresh acts key after of fresh = record {
    stands = stands_fresh acts key after of.stands fresh;
    noted = of.noted ∙ sym fresh.notes;
  }

  -- ahead of a state some run with the same outcome goes
  left_ahead : {key ahead : LazyState} {most : ℕ} {notes : List Act} → IsAhead flat key ahead → Left key most notes → Left ahead most notes
  left_ahead still l = l
  left_ahead (renewed {mid = mid} {after = after} before fresh) l =
      let m = left_ahead before l in
      record {
        acts = m.acts;
        of = left_fresh m.acts mid after m.of fresh;
        left = m.left;
        ending = m.ending;
        few = m.few;
      }
  left_ahead {most = most} {notes = notes} (onward {mid = mid} {after = after} node deed before forced steps valid) l =
      let m = left_ahead before l in
      let found = front_next m.acts m.left notes mid node m.of.stands forced.front m.ending in
      let n = found.0 in
      let run = subst (λ x. IsLazyRun program nodes (m.acts ++ act_of x n.deed ∷ [])) found.1 n.run in
      let is = forced.only n.deed (can_next m.acts mid node n.deed m.of.stands run) in
      let act_is : act_of n.node n.deed ≡ act_of node deed = ap (λ x. act_of x n.deed) found.1 ∙ ap (λ d. act_of node d) is in
      let few = m.few in
      record {
        acts = m.acts ++ act_of node deed ∷ [];
        of = goes_on m.acts mid after node deed m.of steps;
        left = n.left;
        ending = subst (λ (x : Act). Ending (m.acts ++ x ∷ []) n.left notes) act_is n.ending;
        few = omega (arith, few, n.shorter);
      }

  -- ---- from a state that turns for ever no run ends

  -- a state, and what is left of some run that ends, whatever was noted
  record Rest (key : LazyState) (most : ℕ) : Type 0 where
    acts : List Act
    stands : StandsAt acts key
    left : List Act
    notes : List Act
    ending : Ending acts left notes
    few : length left ≤ most

  -- one deed further less is left
  record Less (key : LazyState) (most : ℕ) : Type 0 where
    count : ℕ
    less : count < most
    rest : Rest key count

  rest_on : {key after : LazyState} {most : ℕ} (node : ℕ) (deed : Deed) → IsForced flat key node deed → Steps flat key node deed after → Rest key most
      → Less after most
  rest_on {key} {after} {most} node deed forced steps r =
      let found = front_next r.acts r.left r.notes key node r.stands forced.front r.ending in
      let n = found.0 in
      let run = subst (λ x. IsLazyRun program nodes (r.acts ++ act_of x n.deed ∷ [])) found.1 n.run in
      let is = forced.only n.deed (can_next r.acts key node n.deed r.stands run) in
      let act_is : act_of n.node n.deed ≡ act_of node deed = ap (λ x. act_of x n.deed) found.1 ∙ ap (λ d. act_of node d) is in
      let few = r.few in
      record {
        count = length n.left;
        less = omega (arith, few, n.shorter);
        rest = record {
          acts = r.acts ++ act_of node deed ∷ [];
          stands = stands_then r.acts key after node deed r.stands steps;
          left = n.left;
          notes = r.notes;
          ending = subst (λ (x : Act). Ending (r.acts ++ x ∷ []) n.left r.notes) act_is n.ending;
          few = omega arith;
        };
      }

  rest_most : {key : LazyState} {less most : ℕ} → less ≤ most → Rest key less → Rest key most
  rest_most le r =
      let few = r.few in
      record { acts = r.acts; stands = r.stands; left = r.left; notes = r.notes; ending = r.ending; few = omega (arith, few, le) }

  rest_ahead : {key ahead : LazyState} {most : ℕ} → IsAhead flat key ahead → Rest key most → Rest ahead most
  rest_ahead still r = r
  rest_ahead (renewed {mid = mid} {after = after} before fresh) r =
      let m = rest_ahead before r in
      record { acts = m.acts; stands = stands_fresh m.acts mid after m.stands fresh; left = m.left; notes = m.notes; ending = m.ending; few = m.few }
  rest_ahead (onward node deed before forced steps valid) r =
      let l = rest_on node deed forced steps (rest_ahead before r) in
      let less = l.less in
      rest_most (omega (arith, less)) l.rest

  rest_again : {key again : LazyState} {most : ℕ} → IsAgain flat key again → Rest again most → Rest key most
  rest_again {key} {again} a r = record {
    acts = r.acts;
    stands = stands_as program nodes flat r.acts again key a.machine a.known r.stands;
    left = r.left;
    notes = r.notes;
    ending = r.ending;
    few = r.few;
  }

  never_ends : (most : ℕ) (key : LazyState) → Turns flat key → Rest key most → ⊥
  never_ends zero key t r =
      let l = rest_on t.on.node t.on.deed t.on.forced t.on.steps (rest_ahead t.goes r) in
      let less = l.less in
      absurd (omega (arith, less))
  never_ends (suc most) key t r =
      let l = rest_on t.on.node t.on.deed t.on.forced t.on.steps (rest_ahead t.goes r) in
      let less = l.less in
      never_ends most key t (rest_most (omega (arith, less)) (rest_again t.again l.rest))

  -- and where a state that compares equal is among the keys, one of these
  record Kept (most : ℕ) (notes : List Act) : Type 0 where
    place : ℕ
    key : LazyState
    at : slice_get keys place ≡ Some key
    rest : Left key most notes

  kept : {key : LazyState} {most : ℕ} {notes : List Act} → HasKey keys key → Left key most notes → Kept most notes
  kept {key} {most} {notes} has l = record {
    place = has.place;
    key = has.stored;
    at = has.there;
    rest = record {
      acts = l.acts;
      of = record {
        stands = stands_same program nodes flat l.acts key has.stored has.same l.of.stands;
        noted = l.of.noted ∙ notes_same key has.stored has.same;
      };
      left = l.left;
      ending = l.ending;
      few = l.few;
    };
  }

  -- so it is where such deeds lead to one of the keys
  among : {key : LazyState} {most : ℕ} {notes : List Act} → Leads flat key (HasKey keys) → Left key most notes → Kept most notes
  among (to_one ahead goes has) l = kept has (left_ahead goes l)
  among {most = most} (to_turn comes) l =
      let r = left_ahead comes.goes l in
      absurd (never_ends most comes.turning comes.turns
      (record { acts = r.acts; stands = r.of.stands; left = r.left; notes = _; ending = r.ending; few = r.few }))

  -- one act more
  next_left : (key : LazyState) (acts notes : List Act) (count : ℕ) → IsOf acts key → (n : Next acts (suc count) notes) → HasNexts flat keys key n.node
      → Kept count notes
  next_left key acts notes count of n nexts =
      let next = nexts n.deed (can_next acts key n.node n.deed of.stands n.run) in
      among next.leads (record {
        acts = acts ++ act_of n.node n.deed ∷ [];
        of = goes_on acts key next.after n.node n.deed of next.steps;
        left = n.left;
        ending = n.ending;
        few = let long = n.shorter in omega (arith, long);
      })

  goes_further : (key : LazyState) (acts : List Act) (x : Act) (more notes : List Act) → IsOf acts key → HasEnough flat keys key
      → Ending acts (x ∷ more) notes → Kept (length more) notes
  goes_further key acts x more notes of (by_all next) e =
      let found = its_next acts x more notes e in
      next_left key acts notes (length more) of found.0 (next found.0.node)
  goes_further key acts x more notes of (by_one node front first next) e =
      let found = front_next acts (x ∷ more) notes key node of.stands front e in
      next_left key acts notes (length more) of found.0 (subst (HasNexts flat keys key) (sym found.1) next)

  ended : (key : LazyState) (acts notes : List Act) → IsSearched flat keys outcomes key → IsOf acts key → Ending acts [] notes → HasOutcome outcomes notes
  ended key acts notes s of e =
      let is = append-nil acts in
      let over = subst (IsOver program nodes) is e.over in
      let none : (node : ℕ) (deed : Deed) → CanMake flat.words (plain_at flat key.state) key.knowledge node deed → ⊥ = λ node deed can.
      none_there program nodes acts (plain_at flat key.state) key.knowledge of.stands over node deed
      (subst (λ n. CanMake n (plain_at flat key.state) key.knowledge node deed) words can) in
      subst (HasOutcome outcomes) (sym of.noted ∙ ap (notes_of nodes) (sym is) ∙ e.are) (s.gathered none)

  -- each run that ends has an outcome that was gathered
  ends : (count : ℕ) (notes : List Act) (place : ℕ) (key : LazyState) → slice_get keys place ≡ Some key → (acts left : List Act) → IsOf acts key
      → length left ≤ count → Ending acts left notes → HasOutcome outcomes notes
  ends count notes place key at acts [] of few e =
      ended key acts notes (searched place key (slice_get_within keys place key at) at) of e
  ends zero notes place key at acts (x ∷ more) of few e = absurd (omega (arith, few))
  ends (suc count) notes place key at acts (x ∷ more) of few e =
      let k = goes_further key acts x more notes of (searched place key (slice_get_within keys place key at) at).next e in
      let less = k.rest.few in
      ends count notes k.place k.key k.at k.rest.acts k.rest.left k.rest.of (omega (arith, few, less)) k.rest.ending

  has_outcome : (notes : List Act) → IsLazyOutcome program nodes notes → HasOutcome outcomes notes
  has_outcome notes o =
      let k = among begun.leads (record {
        acts = [];
        of = record { stands = begun.stands; noted = first_notes nodes ∙ sym begun.none };
        left = o.acts;
        ending = record { run = o.run; over = o.over; are = o.are };
        few = omega arith;
      }) in
      ends (length o.acts) notes k.place k.key k.at k.rest.acts k.rest.left k.rest.of k.rest.few k.rest.ending

  pub exact : AreSound program flat outcomes → (notes : List Act) → IsLazyOutcome program nodes notes ↔ HasOutcome outcomes notes
  exact sound notes = (
    has_outcome notes,
    λ has. subst (IsLazyOutcome program nodes) has.same (sound has.place has.outcome has.there),
  )

-- the outcome of a state at which no node can make an act
pub outcome_there : (program : Program) (flat : Flat) (key : LazyState) (most : ℕ) → flat.words ≡ program.words → IsReached program flat key most
    → ¬ CanAct flat key → IsLazyOutcome program flat.nodes key.notes.items
outcome_there program flat key most words r none = record {
  acts = r.acts;
  run = r.stands.run;
  over = over_there program flat.nodes r.acts (plain_at flat key.state) key.knowledge r.stands (λ node deed can.
      none (record { node = node; deed = deed; can = subst (λ n. CanMake n (plain_at flat key.state) key.knowledge node deed) (sym words) can }));
  are = r.noted;
}

-- a state that was reached is fit
pub reached_fit : (program : Program) (flat : Flat) (key : LazyState) (most : ℕ) → flat.words ≡ program.words → IsReached program flat key most → IsFit flat key
reached_fit program flat key most words r = record {
  valid = r.valid;
  words = λ node thread at. (r.stands.matches.threads node thread at).words ∙ r.stands.long ∙ sym words;
}
