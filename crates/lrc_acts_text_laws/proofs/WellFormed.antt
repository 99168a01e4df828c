-- A trace in the form of RAPID of well-synchronized acts is well formed, and keeps their accesses.
use Rattle.std.proofs.Common.{◌≡◌, ◌∙◌, ◌<◌, ◌≤◌, ℕ, suc, inl, inr, refl, sym, ap, subst, arith, List, [], ◌∷◌}
use Rattle.std.specs.Prelude.{Some, slice_get}
use Rattle.std.proofs.lemmas.Bool.{cases_lt}
use Rattle.lrc_trace.specs.declared.act.Act.{Act}
use Rattle.lrc_trace.specs.declared.act.Deed.{Deed}
use Rattle.lrc_trace.specs.declared.act.Deed.TheVariants.{Read, Write, Acquire, Release}
use Rattle.lrc_trace.specs.Run.{Does}
use Rattle.lrc_trace.specs.Conflict.{Accesses}
use Rattle.lrc_trace.specs.Synchronization.{IsWellSynchronized}
use Rattle.lrc_trace.proofs.Positions.{Does-deed, Does-node, Does-one_deed}
use Rattle.lrc_acts_text.specs.Rapid.{RapidStep, meeting_at, rapid_of, rapid_steps}
use Rattle.lrc_acts_text.specs.RapidOrder.{IsOf}
use Rattle.lrc_acts_text.proofs.Steps.{Comes, acquiring, arrived, arriving, departed, departing, reading, releasing, writing}
use Rattle.lrc_acts_text.proofs.Steps.{act_of_step, later, step_of_act}
use Rattle.lrc_acts_text_laws.specs.Traces.{DoesStep, HasStep, HoldsStep, IsWellFormed, KeepsAccesses}
use Rattle.lrc_acts_text_laws.proofs.Groups.{alone, gave, got, next, previous, same_operation}

-- ---- what the definitions say, by the steps in which a node passes a lock

one : (s t : RapidStep) → s ∷ [] ≡ t ∷ [] → s ≡ t
one s t h = cc

module _ (steps : List RapidStep) (k node l : ℕ) where
  acquired : (does : DoesStep steps k node (Acquire l)) → slice_get steps k ≡ Some (got node does.step.position l)
  acquired does = does.stands ∙ sym (ap Some (one (got node does.step.position l) does.step (does.is (meeting_at 0 0 [] 0 0))))

  released : (does : DoesStep steps k node (Release l)) → slice_get steps k ≡ Some (gave node does.step.position l)
  released does = does.stands ∙ sym (ap Some (one (gave node does.step.position l) does.step (does.is (meeting_at 0 0 [] 0 0))))

  acquires_there : (position : ℕ) → slice_get steps k ≡ Some (got node position l) → DoesStep steps k node (Acquire l)
  acquires_there position h = record { step = got node position l; stands = h; is = λ meeting. refl }

  releases_there : (position : ℕ) → slice_get steps k ≡ Some (gave node position l) → DoesStep steps k node (Release l)
  releases_there position h = record { step = gave node position l; stands = h; is = λ meeting. refl }

module _ (locks nodes : ℕ) (acts : List Act) (is_of : IsOf locks nodes acts) where
  abbrev steps : List RapidStep
  steps = rapid_of locks nodes acts

  -- steps of later acts stand later
  before : (k m : ℕ) (s t : RapidStep) → slice_get steps k ≡ Some s → slice_get steps m ≡ Some t → s.position < t.position → k < m
  before k m s t hs ht lt =
      elim (cases_lt k m) [
        | inl less ↦ less
        | inr not_less ↦ let le : t.position ≤ s.position = later locks nodes acts m k t s ht hs not_less in absurd (omega arith)
      ]

  -- ---- locks

  module _ (well : IsWellSynchronized nodes acts) where
    -- a lock of the program that a node holds in the trace it holds in the run
    not_held : (k node l i other since j : ℕ) → since < k → slice_get steps k ≡ Some (got node i l)
        → slice_get steps since ≡ Some (got other j l)
        → ((m : ℕ) → since < m → m < k → ¬ DoesStep steps m other (Release l))
        → Does acts i node (Acquire l) → Does acts j other (Acquire l) → ⊥
    not_held k node l i other since j earlier at_k at_since kept second first =
        let this = got node i l in
        let had = got other j l in
        let le : j ≤ i = later locks nodes acts since k had this at_since at_k (omega arith) in
        elim (cases_lt j i) [
          | inl less ↦
              well.acquires i node l second other (record {
                since = j;
                earlier = less;
                acquired = first;
                kept = λ p low high gives.
                    let given = gave other p l in
                    let (m, at) = step_of_act locks nodes acts p other (Release l) 0 given gives refl in
                    kept m (before since m had given at_since at low) (before m k given this at at_k high)
                    (releases_there steps m other l p at);
              })
          | inr not_less ↦
              let same : j ≡ i = omega arith in
              let one : since ≡ k = alone locks nodes acts i node (Acquire l) second refl since k had this at_since at_k same refl in
              omega arith
        ]

    acquires : (k node l : ℕ) → DoesStep steps k node (Acquire l) → (other : ℕ) → ¬ HoldsStep steps k other l
    acquires k node l does other holds =
        let i = does.step.position in
        let j = holds.acquired.step.position in
        let since = holds.since in
        let at_k = acquired steps k node l does in
        let at_since = acquired steps since other l holds.acquired in
        elim (next locks nodes acts since other j l at_since) [
          | inl first ↦ elim (next locks nodes acts k node i l at_k) [
            | inl second ↦ not_held k node l i other since j holds.earlier at_k at_since holds.kept second first
            | inr pair ↦ let few : l < locks = is_of.acquired j other l first in let far : locks ≤ l = pair.0 in omega arith
          ]
          | inr pair ↦ elim (cases_lt (suc since) k) [
            | inl less ↦ holds.kept (suc since) (omega arith) less (releases_there steps (suc since) other l j pair.1)
            | inr not_less ↦
                let same : suc since ≡ k = omega (arith, holds.earlier) in
                let never = same_operation (gave other j l) (got node i l) (sym pair.1 ∙ ap (slice_get steps) same ∙ at_k) in
                cc
          ]
        ]

    -- a lock of the program that a node holds in the run it holds in the trace
    held : (k node l i : ℕ) → slice_get steps k ≡ Some (gave node i l) → Does acts i node (Release l) → HoldsStep steps k node l
    held k node l i at_k does =
        let holds = well.releases i node l does in
        let this = gave node i l in
        let had = got node holds.since l in
        let (since, at) = step_of_act locks nodes acts holds.since node (Acquire l) 0 had holds.acquired refl in
        record {
          since = since;
          earlier = before since k had this at at_k holds.earlier;
          acquired = acquires_there steps since node l holds.since at;
          kept = λ m low high gives.
              let p = gives.step.position in
              let given = gave node p l in
              let at_m = released steps m node l gives in
              let from : holds.since ≤ p = later locks nodes acts since m had given at at_m (omega arith) in
              let to : p ≤ i = later locks nodes acts m k given this at_m at_k (omega arith) in
              elim (previous locks nodes acts m node p l at_m) [
                | inl release ↦ elim (cases_lt p i) [
                  | inl less ↦ elim (cases_lt holds.since p) [
                    | inl more ↦ holds.kept p more less release
                    | inr not_more ↦
                        let same : p ≡ holds.since = omega arith in
                        let moved : Does acts holds.since node (Release l) = subst (λ z. Does acts z node (Release l)) same release in
                        let never : Release l ≡ Acquire l = Does-one_deed moved holds.acquired in
                        cc
                  ]
                  | inr not_less ↦
                      let same : p ≡ i = omega arith in
                      let one : m ≡ k = alone locks nodes acts i node (Release l) does refl m k given this at_m at_k same refl in
                      omega arith
                ]
                | inr pair ↦ let few : l < locks = is_of.released i node l does in let far : locks ≤ l = pair.0 in omega arith
              ];
        }

    releases : (k node l : ℕ) → DoesStep steps k node (Release l) → HoldsStep steps k node l
    releases k node l does =
        let p = does.step.position in
        let at_k = released steps k node l does in
        elim (previous locks nodes acts k node p l at_k) [
          | inl release ↦ held k node l p at_k release
          | inr pair ↦
              let (b, is, at) = pair.1 in
              record {
                since = b;
                earlier = omega arith;
                acquired = acquires_there steps b node l p at;
                kept = λ m low high gives. omega arith;
              }
        ]

    pub well_formed : IsWellFormed steps
    well_formed = record { acquires = acquires; releases = releases }

  -- ---- accesses

  abbrev at : ℕ → ℕ → Deed → RapidStep → Type 0
  at place node deed s = Comes (meeting_at locks nodes acts node place) place node deed s

  abbrev is_for : ℕ → ℕ → Deed → RapidStep → Type 0
  is_for place node deed s = rapid_steps (meeting_at 0 0 [] 0 0) place node deed ≡ s ∷ []

  same_step : (s t : RapidStep) → s ∷ [] ≡ t ∷ [] → s.operation ≡ t.operation
  same_step s t h = ap (λ (x : RapidStep). x.operation) (one s t h)

  read_behind : (w v i n place node : ℕ) (deed : Deed) (s : RapidStep) → at place node deed s → is_for i n (Read w v) s
      → (value : ℕ) × (deed ≡ Read w value)
  read_behind w v i n place node deed s (reading {w = x} {value = value}) e =
      let both = same_step _ _ e in let same : x ≡ w = cc in (value, ap (λ y. Read y value) same)
  read_behind w v i n place node deed s writing e = let never = same_step _ _ e in absurd cc
  read_behind w v i n place node deed s acquiring e = let never = same_step _ _ e in absurd cc
  read_behind w v i n place node deed s releasing e = let never = same_step _ _ e in absurd cc
  read_behind w v i n place node deed s arriving e = let never = same_step _ _ e in absurd cc
  read_behind w v i n place node deed s arrived e = let never = same_step _ _ e in absurd cc
  read_behind w v i n place node deed s (departing few) e = let never = same_step _ _ e in absurd cc
  read_behind w v i n place node deed s (departed few) e = let never = same_step _ _ e in absurd cc

  write_behind : (w v i n place node : ℕ) (deed : Deed) (s : RapidStep) → at place node deed s → is_for i n (Write w v) s
      → (value : ℕ) × (deed ≡ Write w value)
  write_behind w v i n place node deed s reading e = let never = same_step _ _ e in absurd cc
  write_behind w v i n place node deed s (writing {w = x} {value = value}) e =
      let both = same_step _ _ e in let same : x ≡ w = cc in (value, ap (λ y. Write y value) same)
  write_behind w v i n place node deed s acquiring e = let never = same_step _ _ e in absurd cc
  write_behind w v i n place node deed s releasing e = let never = same_step _ _ e in absurd cc
  write_behind w v i n place node deed s arriving e = let never = same_step _ _ e in absurd cc
  write_behind w v i n place node deed s arrived e = let never = same_step _ _ e in absurd cc
  write_behind w v i n place node deed s (departing few) e = let never = same_step _ _ e in absurd cc
  write_behind w v i n place node deed s (departed few) e = let never = same_step _ _ e in absurd cc

  -- the node of a step that stands for an access
  node_of_read : (w v i n : ℕ) (s : RapidStep) → is_for i n (Read w v) s → n ≡ s.node
  node_of_read w v i n s e = ap (λ (x : RapidStep). x.node) (one _ s e)

  node_of_write : (w v i n : ℕ) (s : RapidStep) → is_for i n (Write w v) s → n ≡ s.node
  node_of_write w v i n s e = ap (λ (x : RapidStep). x.node) (one _ s e)

  -- the act of a step, by the step's own position
  own_act : (n place node : ℕ) (deed : Deed) (s : RapidStep) → s.position ≡ place → s.node ≡ node → n ≡ s.node → Does acts place node deed
      → Does acts s.position n deed
  own_act n place node deed s at by own does = subst (λ z. Does acts z n deed) (sym at) (Does-node (sym (own ∙ by)) does)

  is_read : (k node word value : ℕ) (does : DoesStep steps k node (Read word value))
      → (own : ℕ) × Does acts does.step.position node (Read word own)
  is_read k node word value does =
      let s = does.step in
      let i = s.position in
      let e = does.is (meeting_at 0 0 [] 0 0) in
      let a = act_of_step locks nodes acts k s does.stands in
      let (own, is) = read_behind word value i node a.place a.node a.deed s a.comes e in
      let same = node_of_read word value i node s e in
      (own, Does-deed is (own_act node a.place a.node a.deed s a.position a.same_node same a.does))

  is_write : (k node word value : ℕ) (does : DoesStep steps k node (Write word value))
      → (own : ℕ) × Does acts does.step.position node (Write word own)
  is_write k node word value does =
      let s = does.step in
      let i = s.position in
      let e = does.is (meeting_at 0 0 [] 0 0) in
      let a = act_of_step locks nodes acts k s does.stands in
      let (own, is) = write_behind word value i node a.place a.node a.deed s a.comes e in
      let same = node_of_write word value i node s e in
      (own, Does-deed is (own_act node a.place a.node a.deed s a.position a.same_node same a.does))

  read : (i node word value : ℕ) → Does acts i node (Read word value) → HasStep steps i node (Read word value)
  read i node word value does =
      let (k, at) = step_of_act locks nodes acts i node (Read word value) 0 _ does refl in
      record { k = k; does = record { step = _; stands = at; is = λ meeting. refl }; at = refl }

  write : (i node word value : ℕ) → Does acts i node (Write word value) → HasStep steps i node (Write word value)
  write i node word value does =
      let (k, at) = step_of_act locks nodes acts i node (Write word value) 0 _ does refl in
      record { k = k; does = record { step = _; stands = at; is = λ meeting. refl }; at = refl }

  once : (i node word k m : ℕ) (s t : RapidStep) → Accesses acts i node word → slice_get steps k ≡ Some s → slice_get steps m ≡ Some t
      → s.position ≡ i → t.position ≡ i → k ≡ m
  once i node word k m s t (inl (value, does)) = alone locks nodes acts i node (Read word value) does refl k m s t
  once i node word k m s t (inr (value, does)) = alone locks nodes acts i node (Write word value) does refl k m s t

  node_below : (k : ℕ) (s : RapidStep) → slice_get steps k ≡ Some s → s.node < nodes
  node_below k s h =
      let a = act_of_step locks nodes acts k s h in
      let few : a.node < nodes = is_of.node a.place a.node a.deed a.does in
      omega (arith, a.same_node)

  pub keeps_accesses : KeepsAccesses nodes acts steps
  keeps_accesses = record {
    node = node_below;
    read = read;
    write = write;
    once = once;
    is_read = is_read;
    is_write = is_write;
    order = later locks nodes acts;
  }
