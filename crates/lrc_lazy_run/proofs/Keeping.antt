-- States that are put to those that were found before.
use Rattle.std.proofs.Common.{◌≡◌, ℕ, ◌+◌, ◌<◌, ◌≤◌, List, [], ◌∷◌, ◌++◌, length, Bool, true, false, inl, inr, refl, replicate, sym, subst, ◌∙◌, ap, arith}
use Rattle.std.specs.Prelude.{Some, None, Option, if◌then◌else◌, not, reverse, slice_get, slice_index}
use Rattle.std.specs.List.{IsDistinct}
use Rattle.std.proofs.lemmas.Bool.{cases_lt}
use Rattle.std.proofs.lemmas.List.{append-nil, append_assoc, get_or-replicate, get_or_past, length-replicate, length_push, reverse-append, reverse-reverse}
use Rattle.std.proofs.lemmas.Option.{same_Some, slice_get_within}
use Rattle.lrc_trace.specs.declared.act.Act.{Act}
use Rattle.lrc_trace.specs.declared.act.Deed.{Deed}
use Rattle.lrc_trace.proofs.Positions.{slice_get-front, slice_get-seam}
use Rattle.lrc_exec.specs.declared.spot.Flat.{Flat}
use Rattle.lrc_exec.specs.Plain.{Plain}
use Rattle.lrc_orders.specs.Kept.{Grows}
use Rattle.lrc_exec.specs.States.{IsFirst}
use Rattle.lrc_exec.specs.States.{IsStateOf, plain_at}
use Rattle.lrc_lazy_known.specs.Effect.{word_of}
use Rattle.lrc_orders.proofs.Gathering.{put_all}
use Rattle.lrc_orders.proofs.Keeping.{item_at, stands_on as stays}
use Rattle.lrc_lazy.specs.Standing.{CanMake}
use Rattle.lrc_lazy_search.specs.declared.state.LazyState.{LazyState}
use Rattle.lrc_lazy_search.specs.contracts.state.LazyStatePartialEq.TheImpl.{eq-value}
use Rattle.lrc_lazy_search.specs.Searching.{CountsNoneGone, IsNeat, IsReached, MeetsMore}
use Rattle.lrc_lazy_search.proofs.Adding.{key_on}
use Rattle.lrc_lazy_search.proofs.Making.{can_below}
use Rattle.lrc_lazy_search.proofs.Searched.{reached_fit}
use Rattle.lrc_lazy_run.specs.declared.sought.Sought.{Sought}
use Rattle.lrc_lazy_run.specs.declared.ways.Origin.{Origin}
use Rattle.lrc_lazy_run.specs.Ended.{IsEndedLazyRun}
use Rattle.lrc_lazy_run.specs.Ways.{AreKeptIn, BeginsThere, CanMakeAt, ComesFrom, HasAllStepsAt, HasStepAt, IsEndWith, IsFound, IsPut, IsSought, LeadTo, LeadsFrom, LeadsTo}
use Rattle.lrc_lazy_run.proofs.Leading.{ended_there, leads_first}

-- ---- an item that is put, or was there

pub put_new : {A : Type 0} (b : Bool) (old new : List A) (x : A) (added : Bool) → new ≡ (if b then old else old ++ x ∷ []) → added ≡ not b → added ≡ true
    → new ≡ old ++ x ∷ []
put_new true old new x added is a t = let never : true ≡ false = sym t ∙ a in cc
put_new false old new x added is a t = is

pub put_known : {A : Type 0} (b : Bool) (old new : List A) (x : A) (added : Bool) → new ≡ (if b then old else old ++ x ∷ []) → added ≡ not b → added ≡ false
    → new ≡ old
put_known true old new x added is a t = is
put_known false old new x added is a t = let never : true ≡ false = sym a ∙ t in cc

-- the last item of a list that is one longer
last_item : {A : Type 0} (old new : List A) (x y : A) (k : ℕ) → new ≡ old ++ x ∷ [] → length old ≤ k → slice_get new k ≡ Some y → (k ≡ length old) × (x ≡ y)
last_item old new x y k is le at =
    let within = slice_get_within new k y at in
    let long = ap length is ∙ length_push old x in
    let end : k ≡ length old = omega arith in
    let seam : slice_get new k ≡ Some x = ap (λ l. slice_get l k) is ∙ ap (slice_get (old ++ x ∷ [])) end ∙ slice_get-seam old x [] in
    (end, same_Some x y (sym seam ∙ at))

front_item : {A : Type 0} (old new : List A) (x y : A) (k : ℕ) → new ≡ old ++ x ∷ [] → k < length old → slice_get new k ≡ Some y → slice_get old k ≡ Some y
front_item old new x y k is lt at = sym (slice_get-front old (x ∷ []) k lt) ∙ ap (λ l. slice_get l k) (sym is) ∙ at

comes_on : {sought : Sought} {old new : List LazyState} {place : ℕ} {origin : Origin} {key : LazyState} → Grows old new → ComesFrom sought old place origin key
    → ComesFrom sought new place origin key
comes_on {origin = origin} g c = record { before = c.before; parent = c.parent; there = stays origin.parent c.parent g c.there; leads = c.leads }

-- one state more
pub kept_more : (sought : Sought) (old new : List LazyState) (origins more : List Origin) (settled : List ℕ) (key : LazyState) (origin : Origin)
    → new ≡ old ++ key ∷ [] → more ≡ origins ++ origin ∷ [] → IsDistinct eq-value.it new → AreKeptIn sought old origins settled
    → IsReached sought.program.now sought.flat key (length old) → ComesFrom sought old (length old) origin key → AreKeptIn sought new more settled
kept_more sought old new origins more settled key origin is origins_are distinct kept reached comes =
    let grown : Grows old new = record { more = key ∷ []; is = is } in
    let long = ap length is ∙ length_push old key in
    record {
      reached = put_all (λ k x. IsReached sought.program.now sought.flat x k) false old new key is kept.reached reached;
      distinct = distinct;
      begun = record { first = kept.begun.first; there = stays 0 kept.begun.first grown kept.begun.there; led = kept.begun.led };
      count = ap length origins_are ∙ length_push origins origin ∙ ap (λ n. n + 1) kept.count ∙ sym long;
      come = λ place found from positive at stands. elim (cases_lt place (length old)) [
        | inl lt ↦
            comes_on grown (kept.come place found from positive (front_item old new key found place is lt at)
            (front_item origins more origin from place origins_are (omega (arith, lt, kept.count)) stands))
        | inr le ↦
            let last = last_item old new key found place is le at in
            let last_from = last_item origins more origin from place origins_are (omega (arith, le, kept.count)) stands in
            comes_on grown (subst (λ o. ComesFrom sought old place o found) last_from.1
            (subst (λ k. ComesFrom sought old place origin k) last.1 (subst (λ p. ComesFrom sought old p origin key) (sym last.0) comes)))
      ];
      within = λ k place at. let lt = kept.within k place at in omega (arith, lt, long);
      room = let few = kept.room in omega (arith, few, long);
    }

-- a search met more states than it might
pub meets_more : (sought : Sought) (keys : List LazyState) (origins : List Origin) (settled : List ℕ) → IsSought sought → AreKeptIn sought keys origins settled
    → sought.most < length keys
    → MeetsMore sought.program.now sought.flat.nodes sought.most
meets_more sought keys origins settled is kept many = record {
  flat = sought.flat;
  count = refl;
  place = sought.start;
  code = is.code;
  words = is.words;
  locks = is.locks;
  keys = keys;
  many = many;
  distinct = kept.distinct;
  reached = kept.reached;
}

-- what was put is found, where there are no more than the most
pub found_few : (most : ℕ) (old new : List LazyState) (found : Option ℕ) → IsPut old new found → length new ≤ most → IsFound most old new found
found_few most old new None same few = same
found_few most old new (Some place) put few = record { within = put.0; more = omega (arith, put.1); few = few }

-- ---- the beginning

-- an item that was put to none
pub put_first : {A : Type 0} (b : Bool) (old new : List A) (x stored : A) (place : ℕ) → old ≡ [] → new ≡ (if b then old else old ++ x ∷ [])
    → slice_get new place ≡ Some stored → new ≡ x ∷ []
put_first {A} true old new x stored place none is at =
    let never : ◌≡◌ {A = Option A} None (Some stored) = ap (λ l. slice_get l place) (sym (is ∙ none)) ∙ at in cc
put_first false old new x stored place none is at = is ∙ ap (λ l. l ++ x ∷ []) none

none_arrived : (count node : ℕ) → slice_index (replicate count 0) node ≤ 0
none_arrived count node = elim (cases_lt node count) [
  | inl lt ↦ let zero_is = get_or-replicate {A = ℕ} count node 0 0 lt in omega (arith, zero_is)
  | inr le ↦ let zero_is = get_or_past {X = ℕ} (replicate count 0) node 0 (omega (arith, le, length-replicate {A = ℕ} count 0)) in omega (arith, zero_is)
]

-- no acts lead to it
pub reached_first : (sought : Sought) (key : LazyState) → IsSought sought → IsFirst sought.flat sought.start key.state → IsStateOf sought.flat key.state
    → ((word : ℕ) → word_of key.knowledge word ≡ []) → key.notes.items ≡ [] → IsNeat sought.flat key → CountsNoneGone sought.flat key
    → IsReached sought.program.now sought.flat key 0
reached_first sought key is first valid nothing none neat left =
    let led = leads_first sought key is first nothing none in
    record {
      acts = [];
      stands = led.stands;
      noted = led.noted;
      valid = valid;
      counted = λ node.
          let few = none_arrived sought.flat.nodes node in
          let same = ap (λ (m : Plain). slice_index m.arrivals node) (first.begun ∙ is.begun) in
          omega (arith, few, same);
      neat = neat;
      left = left;
    }

pub begun_alone : (sought : Sought) (keys : List LazyState) (origins : List Origin) (settled : List ℕ) (key : LazyState) (origin : Origin) → IsSought sought
    → keys ≡ key ∷ [] → origins ≡ origin ∷ [] → settled ≡ [] → IsFirst sought.flat sought.start key.state → IsStateOf sought.flat key.state
    → ((word : ℕ) → word_of key.knowledge word ≡ []) → key.notes.items ≡ [] → IsNeat sought.flat key → CountsNoneGone sought.flat key → IsDistinct eq-value.it keys
    → AreKeptIn sought keys origins settled
begun_alone sought keys origins settled key origin is one one_origin none_settled first valid nothing none neat left distinct =
    let long = ap (λ (l : List LazyState). length l) one in
    record {
      reached = put_all (λ k x. IsReached sought.program.now sought.flat x k) false [] keys key one (λ k x at. cc)
          (reached_first sought key is first valid nothing none neat left);
      distinct = distinct;
      begun = record { first = key; there = ap (λ l. slice_get l 0) one; led = leads_first sought key is first nothing none };
      count = ap (λ (l : List Origin). length l) one_origin ∙ sym long;
      come = λ place found from positive at stands. let within = slice_get_within keys place found at in absurd (omega (arith, within, long, positive));
      within = λ k place at. let never : ◌≡◌ {A = Option ℕ} None (Some place) = ap (λ l. slice_get l k) (sym none_settled) ∙ at in cc;
      room = let few = ap (λ (l : List ℕ). length l) none_settled in omega (arith, few);
    }

-- ---- the way back

pub leads_here : (sought : Sought) (keys : List LazyState) (place : ℕ) (back : List Act) → back ≡ [] → LeadsFrom sought keys place back place
leads_here sought keys place back none front key last at there led =
    subst (λ acts. LeadsTo sought.program.now sought.flat acts last) (sym (ap (λ l. front ++ reverse l) none ∙ append-nil front))
    (subst (LeadsTo sought.program.now sought.flat front) (same_Some key last (sym at ∙ there)) led)

pub leads_back : (sought : Sought) (keys : List LazyState) (from place : ℕ) (back more : List Act) (origin : Origin) (key : LazyState)
    → slice_get keys from ≡ Some key → ComesFrom sought keys from origin key → more ≡ back ++ reverse origin.acts.items → LeadsFrom sought keys from back place
    → LeadsFrom sought keys origin.parent more place
leads_back sought keys from place back more origin key is comes put leads front parent last at end led =
    let acts = origin.acts.items in
    let same = same_Some parent comes.parent (sym at ∙ comes.there) in
    let here = comes.leads front (subst (LeadsTo sought.program.now sought.flat front) same led) in
    let back_again : reverse more ≡ acts ++ reverse back =
    ap reverse put ∙ (reverse-append back (reverse acts) ∙ ap (λ l. l ++ reverse back) (reverse-reverse acts)) in
    let turned : (front ++ acts) ++ reverse back ≡ front ++ reverse more =
    append_assoc front acts (reverse back) ∙ ap (λ l. front ++ l) (sym back_again) in
    subst (λ l. LeadsTo sought.program.now sought.flat l last) turned (leads (front ++ acts) key last is end here)

-- ---- what can be done stays so

pub can_on : (flat : Flat) (old new : List LazyState) (place node : ℕ) (deed : Deed) → place < length old → Grows old new → CanMakeAt flat old place node deed
    → CanMakeAt flat new place node deed
can_on flat old new place node deed lt g can key at =
    let stood = item_at old place lt in
    let same : stood.0 ≡ key = same_Some stood.0 key (sym (stays place stood.0 g stood.1) ∙ at) in
    subst (λ (k : LazyState). CanMake flat.words (plain_at flat k.state) k.knowledge node deed) same (can stood.0 stood.1)

-- who can make a deed at a state is one of the nodes
pub can_at_below : (sought : Sought) (keys : List LazyState) (origins : List Origin) (settled : List ℕ) (place node : ℕ) (deed : Deed) → IsSought sought
    → AreKeptIn sought keys origins settled → place < length keys → CanMakeAt sought.flat keys place node deed → node < sought.flat.nodes
can_at_below sought keys origins settled place node deed is kept lt can =
    let stood = item_at keys place lt in
    can_below sought.flat stood.0 node deed (reached_fit sought.program.now sought.flat stood.0 place is.words (kept.reached place stood.0 stood.1)) (can stood.0 stood.1)

-- a step that is there stays there
pub has_on : (flat : Flat) (old new : List LazyState) (place node : ℕ) (deed : Deed) → place < length old → Grows old new → HasStepAt flat old place node deed
    → HasStepAt flat new place node deed
has_on flat old new place node deed lt g has key at =
    let stood = item_at old place lt in
    let same : stood.0 ≡ key = same_Some stood.0 key (sym (stays place stood.0 g stood.1) ∙ at) in
    let n = has key (subst (λ k. slice_get old place ≡ Some k) same stood.1) in
    record { after = n.after; steps = n.steps; left = n.left; fresh = n.fresh; has = key_on g n.has }

-- all steps that are there stay there
pub step_on : (flat : Flat) (old new : List LazyState) (place node : ℕ) → place < length old → Grows old new → HasAllStepsAt flat old place node
    → HasAllStepsAt flat new place node
step_on flat old new place node lt g all deed can = has_on flat old new place node deed lt g (all deed (λ key at. can key (stays place key g at)))

-- from the first state on they lead there by themselves
pub leads_whole : (sought : Sought) (keys : List LazyState) (place : ℕ) (back acts : List Act) → BeginsThere sought.program.now sought.flat keys → acts ≡ reverse back
    → LeadsFrom sought keys 0 back place → LeadTo sought keys acts place
leads_whole sought keys place back acts begun is leads key at =
    subst (λ l. LeadsTo sought.program.now sought.flat l key) (sym is) (leads [] begun.first key begun.there at begun.led)

-- acts that lead to an end with these notes
pub run_there : (sought : Sought) (keys : List LazyState) (place : ℕ) (notes acts : List Act) → IsSought sought
    → (place < length keys) × IsEndWith sought.flat keys place notes → LeadTo sought keys acts place
    → IsEndedLazyRun sought.program.now sought.flat.nodes notes acts
run_there sought keys place notes acts is (lt, ends) led =
    let stood = item_at keys place lt in
    let key = stood.0 in
    ended_there sought.program.now sought.flat is.words is.locks acts key notes (led key stood.1)
    (λ node deed can. ends.0 node deed (λ other there. subst (λ (k : LazyState). CanMake sought.flat.words (plain_at sought.flat k.state) k.knowledge node deed)
    (same_Some key other (sym stood.1 ∙ there)) can)) (ends.1 key stood.1)
