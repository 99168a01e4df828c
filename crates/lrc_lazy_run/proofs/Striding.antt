-- States to which a deed leads, and acts behind it.
use Rattle.std.proofs.Common.{◌≡◌, ℕ, ◌<◌, ◌^◌, List, [], ◌∷◌, ◌++◌, length, sym, subst, ◌∙◌, ap, arith}
use Rattle.std.specs.Prelude.{Option, Some, None, slice_get, slice_index}
use Rattle.std.proofs.lemmas.List.{append_assoc}
use Rattle.std.proofs.lemmas.Option.{same_Some}
use Rattle.lrc_exec.specs.declared.spot.Flat.{Flat}
use Rattle.lrc_trace.specs.declared.act.Act.{Act}
use Rattle.lrc_trace.specs.declared.act.Deed.{Deed}
use Rattle.lrc_trace.specs.declared.act.Deed.TheVariants.{Arrive}
use Rattle.lrc_trace.specs.Run.{act_of}
use Rattle.lrc_exec.specs.States.{IsStateOf, plain_at}
use Rattle.lrc_orders.proofs.Counting.{step_counts}
use Rattle.lrc_lazy.specs.Standing.{CanMake, with_memory}
use Rattle.lrc_lazy_search.specs.declared.state.LazyState.{LazyState}
use Rattle.lrc_lazy_search.specs.Searching.{CountsNoneGone, IsAhead, IsForced, IsFresh, IsNeat, IsReached, Steps, onward, still}
use Rattle.lrc_lazy_search.proofs.Adding.{reached_more, reached_next}
use Rattle.lrc_lazy_search.proofs.Ahead.{ahead_on}
use Rattle.lrc_lazy_run.specs.declared.sought.Sought.{Sought}
use Rattle.lrc_lazy_run.specs.declared.ways.Origin.{Origin}
use Rattle.lrc_lazy_run.specs.Ways.{AreWays, CanMakeIfAny, ComesFrom, IsAfterAt, IsAlong, IsFree, IsFreeIfAny, IsSought, LeadOn, LeadsTo}
use Rattle.lrc_lazy_run.specs.declared.ways.Ways.{Ways}
use Rattle.lrc_lazy_run.proofs.Leading.{leads_fresh, leads_on}

-- ---- free acts behind one another

-- a free act that is no arrive is one that a state ahead comes by
pub forced_of : (sought : Sought) (key : LazyState) (node : ℕ) (deed : Deed) → IsFree sought.flat key node deed → (deed ≡ Arrive → ⊥) → IsForced sought.flat key node deed
forced_of sought key node deed free none = record {
  front = record { deed = deed; can = free.can; free = free.free };
  can = free.can;
  only = free.only;
  no_arrive = none;
}

-- what a node can do alone it can do
pub can_of_free : (flat : Flat) (keys : List LazyState) (place : ℕ) (key : LazyState) (found : Option (ℕ × Deed)) → slice_get keys place ≡ Some key
    → IsFreeIfAny flat key found → CanMakeIfAny flat keys place found
can_of_free flat keys place key None there free = free
can_of_free flat keys place key (Some act) there free = λ other at.
    subst (λ (x : LazyState). CanMake flat.words (plain_at flat x.state) x.knowledge act.0 act.1) (same_Some key other (sym there ∙ at)) free.can

-- no act
pub along_still : (sought : Sought) (key : LazyState) (acts : List Act) → IsAlong sought key acts key acts
along_still sought key acts = record { ahead = still; leads = λ first led. led }

pub along_on : {sought : Sought} {before mid after : LazyState} {acts more most : List Act} → IsAlong sought before acts mid more → IsAlong sought mid more after most
    → IsAlong sought before acts after most
along_on one other = record { ahead = ahead_on one.ahead other.ahead; leads = λ first led. other.leads first (one.leads first led) }

-- one act more
lead_more : (sought : Sought) (first before after : LazyState) (acts : List Act) (node : ℕ) (deed : Deed) → IsSought sought → LeadOn sought first acts before
    → Steps sought.flat before node deed after → LeadOn sought first (acts ++ act_of node deed ∷ []) after
lead_more sought first before after acts node deed is led steps front here =
    let act = act_of node deed in
    subst (λ l. LeadsTo sought.program.now sought.flat l after) (append_assoc front acts (act ∷ []))
    (leads_on sought.program.now sought.flat is.words is.locks (front ++ acts) before after node deed (led front here) steps)

pub along_one : (sought : Sought) (before after : LazyState) (acts more : List Act) (node : ℕ) (deed : Deed) → IsSought sought
    → IsForced sought.flat before node deed → Steps sought.flat before node deed after → IsStateOf sought.flat after.state
    → more ≡ acts ++ act_of node deed ∷ [] → IsAlong sought before acts after more
along_one sought before after acts more node deed is forced steps valid put = record {
  ahead = onward node deed still forced steps valid;
  leads = λ first led. subst (λ l. LeadOn sought first l after) (sym put) (lead_more sought first before after acts node deed is led steps);
}

-- ---- a state that is kept

-- the deed leads on to the state after it
pub lead_first : (sought : Sought) (key after : LazyState) (acts : List Act) (node : ℕ) (deed : Deed) → IsSought sought → Steps sought.flat key node deed after
    → acts ≡ act_of node deed ∷ [] → LeadOn sought key acts after
lead_first sought key after acts node deed is steps one =
    subst (λ l. LeadOn sought key l after) (sym one)
    (λ front here. leads_on sought.program.now sought.flat is.words is.locks front key after node deed here steps)

pub lead_fresh : (sought : Sought) (key mid after : LazyState) (acts : List Act) → IsSought sought → LeadOn sought key acts mid → IsFresh sought.flat mid after
    → LeadOn sought key acts after
lead_fresh sought key mid after acts is led fresh front here =
    leads_fresh sought.program.now sought.flat is.words is.locks (front ++ acts) mid after (led front here) fresh

-- it comes from the state at a place
pub comes_of : (sought : Sought) (keys : List LazyState) (place node : ℕ) (deed : Deed) (after last : LazyState) (origin : Origin)
    → (a : IsAfterAt sought keys place node deed after) → place < length keys → origin.parent ≡ place → LeadOn sought a.key origin.acts.items last
    → ComesFrom sought keys (length keys) origin last
comes_of sought keys place node deed after last origin a lt parent led = record {
  before = omega (arith, lt, parent);
  parent = a.key;
  there = ap (slice_get keys) parent ∙ a.there;
  leads = led;
}

-- and some lazy run leads to it
pub reached_along : (sought : Sought) (ways : Ways) (place node : ℕ) (deed : Deed) (after last : LazyState) → AreWays sought ways
    → place < length ways.states.keys → IsAfterAt sought ways.states.keys place node deed after → IsAhead sought.flat after last → IsNeat sought.flat last
    → CountsNoneGone sought.flat last → IsReached sought.program.now sought.flat last (length ways.states.keys)
reached_along sought ways place node deed after last are lt a goes neat left =
    reached_more (omega (arith, lt))
    (reached_next sought.program.now sought.flat are.task.words are.task.locks a.key last place (are.kept.reached place a.key a.there)
    (record { node = node; deed = deed; after = after; steps = a.steps; valid = a.valid; goes = goes }) neat left)

-- there is room for as many arrivals
pub room_after : (sought : Sought) (ways : Ways) (place node : ℕ) (deed : Deed) (after : LazyState) → AreWays sought ways → place < length ways.states.keys
    → IsAfterAt sought ways.states.keys place node deed after → (n : ℕ) → slice_index after.state.arrivals.items n < 2 ^ 63
room_after sought ways place node deed after are lt a n =
    let makes = a.steps.makes in
    let few = (are.kept.reached place a.key a.there).counted n in
    let more = step_counts (with_memory (plain_at sought.flat a.key.state) makes.memory) (with_memory (plain_at sought.flat after.state) makes.later) node n deed makes.made in
    omega (arith, few, more, lt, are.small)
