-- A search that joins runs that stand alike finds every outcome.
use Rattle.std.proofs.Common.{◌≡◌, ℕ, zero, suc, ◌+◌, ◌≤◌, List, [], ◌∷◌, ◌++◌, length, refl, sym, subst, ap, ◌∙◌, arith, append_assoc}
use Rattle.std.specs.Prelude.{◌↔◌}
use Rattle.std.proofs.lemmas.List.{append-nil, length_push}
use Rattle.lrc_program.specs.declared.Program.{Program}
use Rattle.lrc_trace.specs.declared.act.Act.{Act}
use Rattle.lrc_trace.specs.declared.act.Deed.{Deed}
use Rattle.lrc_trace.specs.declared.act.Deed.TheVariants.{Quiet, Print, Read, Write, Acquire, Release, Arrive, Depart, Trap, End}
use Rattle.lrc_trace.specs.Run.{act_of}
use Rattle.lrc_orders.specs.Notes.{notes_of}
use Rattle.lrc_lazy.specs.Lazy.{IsOver}
use Rattle.lrc_lazy.specs.Swapped.{IsNoAcquire}
use Rattle.lrc_exact.specs.LocalRule.{state_after}
use Rattle.lrc_exact.specs.Rule.{Shape, State, exact_rule}
use Rattle.lrc_exact.proofs.LocalRules.{one_list}
use Rattle.lrc_exact_laws.specs.Laws.{IsExactRun}
use Rattle.lrc_exact_outcomes.specs.Outcome.{IsExactOutcome}
use Rattle.lrc_exact_outcomes.proofs.Fronting.{in_front}
use Rattle.lrc_exact_outcomes.proofs.Running.{exact_front, may_come, one_deed}
use Rattle.lrc_exact_states.specs.Runs.{Base, begun, IsDecidedDeed, IsLevel}
use Rattle.lrc_exact_states.specs.Searched.{first_seen, from_level, as_before, IsClosedSearch, IsFound, IsLook, IsLookedAt, by_all, by_one, for_ever, AreLooks, still, onward, IsSeenFrom, LeadsOn, Seen}
use Rattle.lrc_exact_states.proofs.By.{AreAlikeBy, by_told}
use Rattle.lrc_exact_states.proofs.Goes.{alike_more, alike_then, goes_alike, none_yet, over_alike}
use Rattle.lrc_exact_states.proofs.Level.{begun_alike, level_alike}

module _ (program : Program) (shape : Shape) (cap : ℕ) (calm : shape.collect ≡ 0) where
  abbrev nodes : ℕ
  nodes = shape.nodes

  abbrev Exact : List Act → Type 0
  Exact run = IsExactRun program shape run

  pub record Stands (run : List Act) (base : Base) (seen : Seen) : Type 1 where
    pub states : List State
    pub states' : List State
    pub alike : AreAlikeBy program shape cap base seen.base run seen.acts states states'

  -- ---- no act

  stands_begun : 1 ≤ cap → Stands [] (begun nodes) (first_seen nodes)
  stands_begun some = record {
    states = [];
    states' = [];
    alike = record {
      exact = none_yet program shape;
      exact' = none_yet program shape;
      text = record { makes = λ n lt more. (λ m. m, λ m. m); notes = refl };
      alike = begun_alike shape cap some;
    };
  }

  -- ---- one act more

  module _ (Looked : Seen → Type 0) where
    -- where the search sees the run from
    pub record StandsLater (run : List Act) : Type 1 where
      pub base : Base
      pub seen : Seen
      pub looked : Looked seen
      pub stands : Stands run base seen

    module _ (run : List Act) (base : Base) (seen : Seen) (s : Stands run base seen) (act : Act) (longer : Exact (run ++ act ∷ []))
        (on : LeadsOn program shape cap Looked seen act) where
      abbrev later : List State
      later = s.states ++ state_after (exact_rule shape) run s.states (length run) act.node act.deed ∷ []

      abbrev later' : List State
      later' = s.states' ++ state_after (exact_rule shape) seen.acts s.states' (length seen.acts) act.node act.deed ∷ []

      abbrev Alike : Base → Base → List State → List State → Type 1
      Alike from from' states states' = AreAlikeBy program shape cap from from' (run ++ act ∷ []) (seen.acts ++ act ∷ []) states states'

      a : Alike base seen.base later later'
      a = alike_more program shape cap base seen.base run seen.acts s.states s.states' s.alike calm act longer (on.decided s.states' s.alike.alike.keeps')

      chained : (from : Base) → Alike from on.base later later' → StandsLater (run ++ act ∷ [])
      chained from first =
          let second = by_told program shape cap on.base on.later.base (seen.acts ++ act ∷ []) on.later.acts on.stands.states on.stands.states' on.stands.alike in
          let same : on.stands.states ≡ later' =
          one_list (exact_rule shape) nodes (seen.acts ++ act ∷ []) on.stands.states later' second.alike.keeps first.alike.keeps' in
          record {
            base = from;
            seen = on.later;
            looked = on.looked;
            stands = record {
              states = later;
              states' = on.stands.states';
              alike = alike_then program shape cap from on.base on.later.base (run ++ act ∷ []) (seen.acts ++ act ∷ []) on.later.acts later later' on.stands.states'
                  first
                  (subst (λ ss. AreAlikeBy program shape cap on.base on.later.base (seen.acts ++ act ∷ []) on.later.acts ss on.stands.states') same second);
            };
          }

      by_base : (now : Base) → IsSeenFrom shape (seen.acts ++ act ∷ []) seen.base now → (from : Base) × Alike from now later later'
      by_base now as_before = (base, a)
      by_base now (from_level states keeps level some) =
          let same : states ≡ later' = one_list (exact_rule shape) nodes (seen.acts ++ act ∷ []) states later' keeps a.alike.keeps' in
          let level' : IsLevel shape now (seen.acts ++ act ∷ []) later' = subst (λ ss. IsLevel shape now (seen.acts ++ act ∷ []) ss) same level in (
            _,
            record {
              exact = a.exact;
              exact' = a.exact';
              text = a.text;
              alike = level_alike shape cap base seen.base (run ++ act ∷ []) (seen.acts ++ act ∷ []) later later' a.alike now level' zero some;
            },
          )

      pub stands_on : StandsLater (run ++ act ∷ [])
      stands_on = let x = by_base on.base on.from in chained x.0 x.1

    -- ---- runs that end

    -- some run that goes on from these acts, in so many acts, and ends
    record Left (acts notes : List Act) (count : ℕ) : Type 0 where
      more : List Act
      run : Exact (acts ++ more)
      over : IsOver program nodes (acts ++ more)
      are : notes_of nodes (acts ++ more) ≡ notes
      long : length more ≡ count

    one_behind : (acts : List Act) (x : Act) (more : List Act) → acts ++ x ∷ more ≡ (acts ++ x ∷ []) ++ more
    one_behind acts x more = sym (append_assoc acts (x ∷ []) more)

    left_behind : (acts : List Act) (x : Act) (more notes : List Act) (count : ℕ) → Exact (acts ++ x ∷ more) → IsOver program nodes (acts ++ x ∷ more)
        → notes_of nodes (acts ++ x ∷ more) ≡ notes → length more ≡ count → Left (acts ++ x ∷ []) notes count
    left_behind acts x more notes count run over are long =
        let is = one_behind acts x more in
        record {
          more = more;
          run = subst Exact is run;
          over = subst (IsOver program nodes) is over;
          are = ap (notes_of nodes) (sym is) ∙ are;
          long = long;
        }

    none_more : (xs : List Act) → length xs ≡ 0 → xs ≡ []
    none_more [] e = refl
    none_more (x ∷ xs) e = absurd (omega (arith, e))

    left_one : (acts : List Act) (act : Act) (notes : List Act) (count : ℕ) → IsNoAcquire act.deed → Exact (acts ++ act ∷ []) → Left acts notes (suc count)
        → Left (acts ++ act ∷ []) notes count
    left_one acts act notes count free longer l =
        let f = in_front program shape act.node act.deed free l.more acts l.run l.over (may_come program shape acts act longer) in
        let other = act_of act.node f.other in
        let front = exact_front program shape (acts ++ other ∷ []) f.rest (subst Exact (one_behind acts other f.rest) f.run) in
        let same : f.other ≡ act.deed = one_deed program shape acts act.node f.other act.deed front longer in
        let is : other ≡ act = ap (λ d. act_of act.node d) same in
        let long = l.long in
        let shorter = f.shorter in
        subst (λ (x : Act). Left (acts ++ x ∷ []) notes count) is
        (left_behind acts other f.rest notes count f.run f.over (f.are ∙ l.are) (omega (arith, long, shorter)))

    -- ---- a node that looks round for ever

    -- what stands as a run still does, and has as many acts less to its end
    record LooksOn (seen : Seen) (base : Base) (notes ahead : List Act) (most : ℕ) : Type 1 where
      run : List Act
      stands : Stands run base (record { acts = ahead; base = seen.base })
      count : ℕ
      left : Left run notes count
      few : length ahead + count ≡ most

    free_look : (deed : Deed) → IsLook deed → IsNoAcquire deed
    free_look Quiet is = λ l e. let never : ⊥ = cc in never
    free_look (Print v) is = λ l e. let never : ⊥ = cc in never
    free_look (Read w v) is = λ l e. let never : ⊥ = cc in never
    free_look (Write w v) is = absurd is
    free_look (Acquire l) is = absurd is
    free_look (Release l) is = absurd is
    free_look Arrive is = absurd is
    free_look Depart is = absurd is
    free_look (Trap c) is = absurd is
    free_look End is = absurd is

    decided_look : (floor : List ℕ) (acts : List Act) (states : List State) (node : ℕ) (deed : Deed) → IsLook deed
        → IsDecidedDeed shape cap floor acts states node deed
    decided_look floor acts states node Quiet is = tt
    decided_look floor acts states node (Print v) is = tt
    decided_look floor acts states node (Read w v) is = tt
    decided_look floor acts states node (Write w v) is = tt
    decided_look floor acts states node (Acquire l) is = absurd is
    decided_look floor acts states node (Release l) is = tt
    decided_look floor acts states node Arrive is = tt
    decided_look floor acts states node Depart is = absurd is
    decided_look floor acts states node (Trap c) is = tt
    decided_look floor acts states node End is = tt

    look_on : (seen : Seen) (base : Base) (notes mid : List Act) (most : ℕ) (act : Act) → IsLook act.deed → Exact (mid ++ act ∷ [])
        → LooksOn seen base notes mid most → LooksOn seen base notes (mid ++ act ∷ []) most
    look_on seen base notes mid most act look there x = go x.count x.left x.few
      where
        s : Stands x.run base (record { acts = mid; base = seen.base })
        s = x.stands

        here : Exact (x.run ++ act ∷ [])
        here = (goes_alike program shape cap base seen.base x.run mid s.states s.states' s.alike act).1 there

        go : (count : ℕ) → Left x.run notes count → length mid + count ≡ most → LooksOn seen base notes (mid ++ act ∷ []) most
        go zero l few =
            let is : x.run ++ l.more ≡ x.run = ap (λ xs. x.run ++ xs) (none_more l.more l.long) ∙ append-nil x.run in
            absurd (subst (IsOver program nodes) is l.over act (may_come program shape x.run act here))
        go (suc count) l few =
            let long = length_push mid act in
            record {
              run = x.run ++ act ∷ [];
              stands = record {
                states = s.states ++ state_after (exact_rule shape) x.run s.states (length x.run) act.node act.deed ∷ [];
                states' = s.states' ++ state_after (exact_rule shape) mid s.states' (length mid) act.node act.deed ∷ [];
                alike = alike_more program shape cap base seen.base x.run mid s.states s.states' s.alike calm act here
                    (decided_look seen.base.floor mid s.states' act.node act.deed look);
              };
              count = count;
              left = left_one x.run act notes count (free_look act.deed look) here l;
              few = omega (arith, few, long);
            }

    looks_on : (seen : Seen) (base : Base) (notes ahead : List Act) (most : ℕ) → AreLooks program shape seen.acts ahead
        → LooksOn seen base notes seen.acts most → LooksOn seen base notes ahead most
    looks_on seen base notes ahead most still x = x
    looks_on seen base notes ahead most (onward {mid = mid} act before look there) x =
        look_on seen base notes mid most act look there (looks_on seen base notes mid most before x)

    module _ (closed : IsClosedSearch program shape cap Looked) where
      -- where nothing is left, the run that is looked at has ended, too
      found : (run notes : List Act) (base : Base) (seen : Seen) → Looked seen → Stands run base seen → Left run notes 0 → IsFound program shape Looked notes
      found run notes base seen looked s l =
          let is : run ++ l.more ≡ run = ap (λ xs. run ++ xs) (none_more l.more l.long) ∙ append-nil run in
          record {
            seen = seen;
            looked = looked;
            run = s.alike.exact';
            over = over_alike program shape cap base seen.base run seen.acts s.states s.states' s.alike (subst (IsOver program nodes) is l.over);
            are = sym s.alike.text.notes ∙ ap (notes_of nodes) (sym is) ∙ l.are;
          }

      ends : (count : ℕ) (run notes : List Act) (base : Base) (seen : Seen) → Looked seen → Stands run base seen → Left run notes count
          → IsFound program shape Looked notes
      ends zero run notes base seen looked s l = found run notes base seen looked s l
      ends (suc count) run notes base seen looked s l =
          go (λ later from one is_looked stands left. ends count later notes from one is_looked stands left) (closed.all seen looked)
        where
          on : ((later : List Act) (from : Base) (one : Seen) → Looked one → Stands later from one → Left later notes count → IsFound program shape Looked notes)
              → (act : Act) → Exact (run ++ act ∷ []) → LeadsOn program shape cap Looked seen act → Left (run ++ act ∷ []) notes count
              → IsFound program shape Looked notes
          on further act longer leads left =
              let x = stands_on run base seen s act longer leads in
              further (run ++ act ∷ []) x.base x.seen x.looked x.stands left

          parted : ((later : List Act) (from : Base) (one : Seen) → Looked one → Stands later from one → Left later notes count → IsFound program shape Looked notes)
              → ((act : Act) → Exact (seen.acts ++ act ∷ []) → LeadsOn program shape cap Looked seen act) → (more : List Act) → length more ≡ suc count
              → Exact (run ++ more) → IsOver program nodes (run ++ more) → notes_of nodes (run ++ more) ≡ notes → IsFound program shape Looked notes
          parted further all [] long whole over are = absurd (omega (arith, long))
          parted further all (x ∷ more) long whole over are =
              let front = exact_front program shape (run ++ x ∷ []) more (subst Exact (one_behind run x more) whole) in
              let there = (goes_alike program shape cap base seen.base run seen.acts s.states s.states' s.alike x).0 front in
              on further x front (all x there) (left_behind run x more notes count whole over are (omega (arith, long)))

          go : ((later : List Act) (from : Base) (one : Seen) → Looked one → Stands later from one → Left later notes count → IsFound program shape Looked notes)
              → IsLookedAt program shape cap Looked seen → IsFound program shape Looked notes
          go further (by_all all) = parted further all l.more l.long l.run l.over l.are
          go further (by_one act free there leads) =
              let here = (goes_alike program shape cap base seen.base run seen.acts s.states s.states' s.alike act).1 there in
              on further act here leads (left_one run act notes count free here l)
          go further (for_ever looks) =
              let far = looks (length seen.acts + suc (suc count)) in
              let x = looks_on seen base notes far.0 (length seen.acts + suc count) far.1
              (record { run = run; stands = s; count = suc count; left = l; few = refl }) in
              let few = x.few in
              let many = far.2 in
              absurd (omega (arith, few, many))

      pub finds_all : 1 ≤ cap → (notes : List Act) → IsExactOutcome program shape notes ↔ IsFound program shape Looked notes
      finds_all some notes = (
        λ o.
            ends (length o.acts) [] notes (begun nodes) (first_seen nodes) closed.first (stands_begun some)
            (record { more = o.acts; run = o.run; over = o.over; are = o.are; long = refl }),
        λ f. record { acts = f.seen.acts; run = f.run; over = f.over; are = f.are },
      )
