-- States that are put to those that were found, and visits of those that wait.
use Rattle.std.proofs.Common.{◌≡◌, ◌⊎◌, ℕ, zero, suc, ◌+◌, ◌<◌, ◌≤◌, List, [], ◌∷◌, ◌++◌, Bool, true, false, inl, inr, length, refl, sym, subst, ◌∙◌, ap, arith, append_assoc, Result, Ok, Err, OnOk}
use Rattle.std.specs.Prelude.{◌↔◌, MatchOption, Option, Some, None, slice_get, if◌then◌else◌}
use Rattle.std.proofs.lemmas.List.{append-nil, length-append, nil_from_length}
use Rattle.std.proofs.lemmas.Option.{same_Some}
use Rattle.lrc_trace.proofs.Positions.{slice_get-seam}
use Rattle.lrc_trace.specs.declared.act.Act.{Act}
use Rattle.lrc_exec.specs.declared.spot.Flat.{Flat}
use Rattle.lrc_exec.specs.States.{IsFirst}
use Rattle.lrc_lazy_known.specs.Effect.{word_of}
use Rattle.lrc_orders.specs.declared.outcomes.Outcome.{Outcome}
use Rattle.lrc_orders.specs.Kept.{Grows, IsAddedAt}
use Rattle.lrc_orders.specs.Outcome.{HasOutcome}
use Rattle.lrc_orders.proofs.Gathering.{put_all}
use Rattle.lrc_orders.proofs.Keeping.{grows_not, item_at}
use Rattle.lrc_lazy.specs.Lazy.{IsLazyOutcome}
use Rattle.lrc_lazy_search.specs.declared.state.LazyState.{LazyState}
use Rattle.lrc_lazy_search.specs.declared.found.Found.{Found}
use Rattle.lrc_lazy_search.specs.declared.search.Task.{Task}
use Rattle.lrc_lazy_search.specs.declared.search.Searched.{Searched}
use Rattle.lrc_lazy_search.specs.Found.{AreDistinct, AreFound, IsFoundAt, Widens, found_count}
use Rattle.lrc_lazy_search.specs.Searching.{AreEnough, AreReached, AreSearched, AreSound, AreThere, CanAct, FitsLazily, HasKey, IsAhead, IsOneOf, IsReached, IsSearched, MeetsMore}
use Rattle.lrc_lazy_search.specs.Task.{Adds, IsAt, IsEmpty, IsInOrder, IsTask}
use Rattle.lrc_lazy_search.proofs.Adding.{begun_on, first_in_order, key_on, reached_more, searched_more, searched_next, searched_still}
use Rattle.lrc_lazy_search.proofs.FoundLaws.{found_alike, found_distinct, found_grown, found_within}
use Rattle.lrc_lazy_search.proofs.Searched.{exact}

-- ---- states that are put to others

-- where a state is found, one that compares equal is among all
has_key : (flat : Flat) (all : Found) (keys : List LazyState) (place : ℕ) (state : LazyState) → AreFound flat all keys → IsFoundAt flat all place state
    → HasKey keys state
has_key flat all keys place state are at =
    let within = found_within flat all place state at in
    let long = are.long in
    let (stored, there) = item_at keys place (omega (arith, within, long)) in
    record { place = place; stored = stored; there = there; same = found_alike flat all place state stored at (are.each place stored there) }

still_found : (flat : Flat) (old new : Found) (keys : List LazyState) → Widens old new → found_count new ≡ found_count old → AreFound flat old keys
    → AreFound flat new keys
still_found flat old new keys w e are = record { long = are.long ∙ sym e; each = λ k key at. found_grown flat old new k key w (are.each k key at) }

more_found : (flat : Flat) (old new : Found) (keys : List LazyState) (state : LazyState) → Widens old new → found_count new ≡ found_count old + 1
    → IsFoundAt flat new (found_count old) state → AreFound flat old keys → AreFound flat new (keys ++ state ∷ [])
more_found flat old new keys state w e at are = record {
  long = let long = are.long in omega (arith, long, e, length-append keys (state ∷ []));
  each = put_all (λ k x. IsFoundAt flat new k x) false keys (keys ++ state ∷ []) state refl
      (λ k x there. found_grown flat old new k x w (are.each k x there)) (subst (λ n. IsFoundAt flat new n state) (sym are.long) at);
}

nothing_more : {A : Type 0} (xs : List A) → xs ≡ xs ++ []
nothing_more xs = sym (append-nil xs)

-- a state that was there
pub adds_old : (flat : Flat) (old new : Searched) (place : ℕ) (state : LazyState) → new.waiting.items ≡ old.waiting.items → new.outcomes ≡ old.outcomes
    → AreDistinct new.found → Widens old.found new.found → IsFoundAt flat new.found place state → found_count new.found ≡ found_count old.found
    → Adds flat old new (state ∷ [])
adds_old flat old new place state waiting outcomes distinct w at e =
    let found : (keys : List LazyState) → AreFound flat old.found keys → AreFound flat new.found (keys ++ []) = λ keys are.
    subst (AreFound flat new.found) (nothing_more keys) (still_found flat old.found new.found keys w e are) in
    record {
      more = [];
      waiting = waiting ∙ nothing_more old.waiting.items;
      outcomes = outcomes;
      distinct = distinct;
      from = λ k key none. cc;
      found = found;
      there = λ keys are. one_there (keys ++ []) (has_key flat new.found (keys ++ []) place state (found keys are) at);
      count = omega (arith, e);
    }
  where
    one_there : (keys : List LazyState) → HasKey keys state → AreThere keys (state ∷ [])
    one_there keys has zero x e = subst (HasKey keys) (same_Some state x e) has
    one_there keys has (suc k) x e = cc

-- a state that is new
pub adds_new : (flat : Flat) (old new : Searched) (place : ℕ) (state : LazyState) → new.waiting.items ≡ old.waiting.items ++ state ∷ []
    → new.outcomes ≡ old.outcomes → AreDistinct new.found → Widens old.found new.found → IsFoundAt flat new.found place state
    → place ≡ found_count old.found → found_count new.found ≡ found_count old.found + 1 → Adds flat old new (state ∷ [])
adds_new flat old new place state waiting outcomes distinct w at here e =
    let found : (keys : List LazyState) → AreFound flat old.found keys → AreFound flat new.found (keys ++ state ∷ []) = λ keys are.
    more_found flat old.found new.found keys state w e (subst (λ n. IsFoundAt flat new.found n state) here at) are in
    record {
      more = state ∷ [];
      waiting = waiting;
      outcomes = outcomes;
      distinct = distinct;
      from = λ k key there. (k, there);
      found = found;
      there = λ keys are. one_there (keys ++ state ∷ []) (has_key flat new.found (keys ++ state ∷ []) place state (found keys are) at);
      count = omega (arith, e);
    }
  where
    one_there : (keys : List LazyState) → HasKey keys state → AreThere keys (state ∷ [])
    one_there keys has zero x e = subst (HasKey keys) (same_Some state x e) has
    one_there keys has (suc k) x e = cc

-- so it is whether or not it is new
pub adds_one : (flat : Flat) (old new : Searched) (place : ℕ) (added : Bool) (state : LazyState)
    → new.waiting.items ≡ (if added then old.waiting.items ++ state ∷ [] else old.waiting.items) → new.outcomes ≡ old.outcomes → AreDistinct new.found
    → Widens old.found new.found → IsFoundAt flat new.found place state → IsAddedAt (found_count old.found) (found_count new.found) place added
    → Adds flat old new (state ∷ [])
adds_one flat old new place true state waiting outcomes distinct w at put =
    adds_new flat old new place state waiting outcomes distinct w at put.0 put.1
adds_one flat old new place false state waiting outcomes distinct w at put = adds_old flat old new place state waiting outcomes distinct w at put

pub adds_none : (flat : Flat) (all : Searched) → AreDistinct all.found → Adds flat all all []
adds_none flat all distinct = record {
  more = [];
  waiting = nothing_more all.waiting.items;
  outcomes = refl;
  distinct = distinct;
  from = λ k key none. cc;
  found = λ keys are. subst (AreFound flat all.found) (nothing_more keys) are;
  there = λ keys are k x none. cc;
  count = omega arith;
}

-- an item of two lists, one behind the other
item_split : {A : Type 0} (xs ys : List A) (k : ℕ) (z : A) → slice_get (xs ++ ys) k ≡ Some z → (slice_get xs k ≡ Some z) ⊎ ((j : ℕ) × (slice_get ys j ≡ Some z))
item_split [] ys k z at = inr (k, at)
item_split (x ∷ xs) ys zero z at = inl at
item_split (x ∷ xs) ys (suc k) z at = item_split xs ys k z at

-- one state more
adds_more : (flat : Flat) (old mid new : Searched) (taken : List LazyState) (state : LazyState) → Adds flat old mid taken → Adds flat mid new (state ∷ [])
    → Adds flat old new (state ∷ taken)
adds_more flat old mid new taken state a b = record {
  more = a.more ++ b.more;
  waiting = b.waiting ∙ ap (λ l. l ++ b.more) a.waiting ∙ append_assoc old.waiting.items a.more b.more;
  outcomes = b.outcomes ∙ a.outcomes;
  distinct = b.distinct;
  from = from;
  found = λ keys are. subst (AreFound flat new.found) (append_assoc keys a.more b.more) (b.found (keys ++ a.more) (a.found keys are));
  there = λ keys are. subst (λ l. AreThere l (state ∷ taken)) (append_assoc keys a.more b.more) (there keys are);
  count = let m = a.count in let n = b.count in omega (arith, m, n, length-append a.more b.more);
}
  where
    from : (k : ℕ) (key : LazyState) → slice_get (a.more ++ b.more) k ≡ Some key → IsOneOf (state ∷ taken) key
    from k key at = elim (item_split a.more b.more k key at) [
      | inl front ↦ let one = a.from k key front in (suc one.0, one.1)
      | inr behind ↦ first (b.from behind.0 key behind.1)
    ]
      where
        first : IsOneOf (state ∷ []) key → IsOneOf (state ∷ taken) key
        first (zero, e) = (zero, e)
        first (suc j, e) = cc

    there : (keys : List LazyState) → AreFound flat old.found keys → AreThere ((keys ++ a.more) ++ b.more) (state ∷ taken)
    there keys are zero x e = b.there (keys ++ a.more) (a.found keys are) zero x e
    there keys are (suc k) x e = key_on (record { more = b.more; is = refl }) (a.there keys are k x e)

-- those that were taken from the end are put to the others
pub record Taken (flat : Flat) (old new : Searched) (all left : List LazyState) : Type 0 where
  pub taken : List LazyState
  pub is : all ≡ left ++ taken
  pub adds : Adds flat old new taken

behind : (xs ys : List LazyState) (x : LazyState) → (xs ++ x ∷ []) ++ ys ≡ xs ++ x ∷ ys
behind [] ys x = refl
behind (z ∷ xs) ys x = ap (λ l. z ∷ l) (behind xs ys x)

pub take_one : (flat : Flat) (old mid new : Searched) (all before after : List LazyState) (x : LazyState) → before ≡ after ++ x ∷ []
    → Taken flat old mid all before → Adds flat mid new (x ∷ []) → Taken flat old new all after
take_one flat old mid new all before after x e t adds = record {
  taken = x ∷ t.taken;
  is = t.is ∙ ap (λ l. l ++ t.taken) e ∙ behind after t.taken x;
  adds = adds_more flat old mid new t.taken x t.adds adds;
}

pub taken_none : (flat : Flat) (all : Searched) (states : List LazyState) → AreDistinct all.found → Taken flat all all states states
taken_none flat all states distinct = record { taken = []; is = nothing_more states; adds = adds_none flat all distinct }

-- the states that are taken from the end are among all
pub item_of : (flat : Flat) (old new : Searched) (all before after : List LazyState) (x : LazyState) → before ≡ after ++ x ∷ []
    → Taken flat old new all before → (k : ℕ) × (slice_get all k ≡ Some x)
item_of flat old new all before after x e t =
    (length after, ap (λ l. slice_get l (length after)) (t.is ∙ ap (λ l. l ++ t.taken) e ∙ behind after t.taken x) ∙ slice_get-seam after x t.taken)

-- all are taken
pub taken_all : (flat : Flat) (old new : Searched) (all left : List LazyState) → left ≡ [] → Taken flat old new all left → Adds flat old new all
taken_all flat old new all left none t = subst (Adds flat old new) (sym (t.is ∙ ap (λ l. l ++ t.taken) none)) t.adds

-- ---- the beginning

none_found : (flat : Flat) (all : Searched) → IsEmpty all → AreFound flat all.found []
none_found flat all none = record { long = sym none.found; each = λ k key at. cc }

-- nothing was found, and nothing waits
pub none_at : (task : Task) (all : Searched) → IsEmpty all → IsInOrder task [] → IsAt task all all.waiting.items
none_at task all none order = record {
  done = [];
  distinct = none.distinct;
  found = subst (AreFound task.flat all.found) (sym none.waiting) (none_found task.flat all none);
  order = subst (IsInOrder task) (sym none.waiting) order;
  sound = λ k outcome at. let never : ◌≡◌ {A = Option Outcome} None (Some outcome) = ap (λ l. slice_get l k) (sym none.outcomes) ∙ at in cc;
  searched = λ k key lt at. absurd (omega (arith, lt));
}

-- the first state was found, and waits
pub first_at : (task : Task) (old new : Searched) (key ahead : LazyState) → IsTask task → IsEmpty old → Adds task.flat old new (ahead ∷ [])
    → IsFirst task.flat task.start key.state → ((word : ℕ) → word_of key.knowledge word ≡ []) → key.notes.items ≡ [] → IsAhead task.flat key ahead
    → IsReached task.program.now task.flat ahead 0 → IsAt task new new.waiting.items
first_at task old new key ahead is none adds first nothing notes goes reached =
    let empty = none_found task.flat old none in
    let waits : adds.more ≡ new.waiting.items = sym (adds.waiting ∙ ap (λ l. l ++ adds.more) none.waiting) in
    let found = adds.found [] empty in
    let order = first_in_order task adds.more key ahead is first nothing notes goes adds.from reached (adds.there [] empty 0 ahead refl)
    (found_distinct task.flat new.found adds.distinct adds.more found) in
    record {
      done = [];
      distinct = adds.distinct;
      found = subst (AreFound task.flat new.found) waits found;
      order = subst (IsInOrder task) waits order;
      sound = λ k outcome at.
          let never : ◌≡◌ {A = Option Outcome} None (Some outcome) =
          ap (λ l. slice_get l k) (sym (ap (λ o. o.keys) adds.outcomes ∙ none.outcomes)) ∙ at in cc;
      searched = λ k key lt at. absurd (omega (arith, lt));
    }

-- as many wait as were found
pub all_wait : (flat : Flat) (old new : Searched) (states : List LazyState) → IsEmpty old → Adds flat old new states
    → found_count new.found ≡ length new.waiting.items
all_wait flat old new states none adds =
    let waits : new.waiting.items ≡ adds.more = adds.waiting ∙ ap (λ l. l ++ adds.more) none.waiting in
    let long = ap length waits in
    let count = adds.count in
    let zeroth = none.found in
    omega (arith, long, count, zeroth)

-- as many more wait as were found
pub even_adds : (flat : Flat) (old new : Searched) (states : List LazyState) → Adds flat old new states
    → found_count new.found + length old.waiting.items ≡ found_count old.found + length new.waiting.items
even_adds flat old new states adds =
    let long = ap length adds.waiting in
    let count = adds.count in
    omega (arith, long, count, length-append old.waiting.items adds.more)

-- two things that are said of success, and one that is so in any case
pub both_ok : {T F : Type 0} (P Q : Type 0) (r : Result T F) → OnOk r P → OnOk r Q → OnOk r (P × Q)
both_ok P Q (Ok x) p q = (p, q)
both_ok P Q (Err f) p q = tt

pub always_ok : {T F P : Type 0} (r : Result T F) → P → OnOk r P
always_ok (Ok x) p = p
always_ok (Err f) p = tt

-- ---- visits

pub at_as : (task : Task) (old new : Searched) (left rest : List LazyState) → new.found ≡ old.found → new.outcomes ≡ old.outcomes → left ≡ rest
    → IsAt task old left → IsAt task new rest
at_as task old new left rest found outcomes e at = record {
  done = at.done;
  distinct = subst AreDistinct (sym found) at.distinct;
  found = subst (λ f. AreFound task.flat f (at.done ++ rest)) (sym found) (subst (λ l. AreFound task.flat old.found (at.done ++ l)) e at.found);
  order = subst (λ l. IsInOrder task (at.done ++ l)) e at.order;
  sound = subst (λ o. AreSound task.program.now task.flat o.keys) (sym outcomes) at.sound;
  searched = subst (λ o. AreSearched task.flat (at.done ++ rest) o.keys (length at.done)) (sym outcomes)
      (subst (λ l. AreSearched task.flat (at.done ++ l) old.outcomes.keys (length at.done)) e at.searched);
}

module _ (task : Task) (old : Searched) (state : LazyState) (waiting : List LazyState) (at : IsAt task old (state ∷ waiting)) where
  abbrev keys : List LazyState
  keys = at.done ++ state ∷ waiting

  abbrev place : ℕ
  place = length at.done

  pub its_place : slice_get keys place ≡ Some state
  its_place = slice_get-seam at.done state waiting

  pub its_long : length keys ≡ place + (length waiting + 1)
  its_long = omega (arith, length-append at.done (state ∷ waiting))

  pub its_reached : IsReached task.program.now task.flat state place
  its_reached = at.order.reached place state its_place

  more_order : (more : List LazyState) → IsInOrder task keys
      → ((k : ℕ) (x : LazyState) → slice_get more k ≡ Some x → IsReached task.program.now task.flat x (length keys)) → (new : Found) → AreDistinct new
      → AreFound task.flat new (keys ++ more) → IsInOrder task (keys ++ more)
  more_order more order reached new distinct found = record {
    reached = all_reached;
    begun = begun_on (record { more = more; is = refl }) order.begun;
    distinct = found_distinct task.flat new distinct (keys ++ more) found;
  }
    where
      at_end : (xs ys : List LazyState) (P : ℕ → LazyState → Type 0) → ((k : ℕ) (x : LazyState) → slice_get xs k ≡ Some x → P k x)
          → ((k : ℕ) (x : LazyState) → slice_get ys k ≡ Some x → P (length xs + k) x) → (k : ℕ) (x : LazyState) → slice_get (xs ++ ys) k ≡ Some x → P k x
      at_end [] ys P front last k x here = subst (λ n. P n x) (omega arith) (last k x here)
      at_end (z ∷ xs) ys P front last zero x here = front zero x here
      at_end (z ∷ xs) ys P front last (suc k) x here =
          at_end xs ys (λ n. P (suc n)) (λ n y there. front (suc n) y there)
          (λ n y there. subst (λ m. P m y) (omega arith) (last n y there)) k x here

      all_reached : AreReached task.program.now task.flat (keys ++ more)
      all_reached = at_end keys more (λ k x. IsReached task.program.now task.flat x k) order.reached
          (λ k x here. reached_more (omega arith) (reached k x here))

  -- the state was visited
  pub visited : (new : Searched) (more : List LazyState) → new.waiting.items ≡ waiting ++ more → AreDistinct new.found
      → AreFound task.flat new.found (keys ++ more)
      → ((k : ℕ) (x : LazyState) → slice_get more k ≡ Some x → IsReached task.program.now task.flat x (length keys))
      → Grows old.outcomes.keys new.outcomes.keys → AreSound task.program.now task.flat new.outcomes.keys
      → IsSearched task.flat (keys ++ more) new.outcomes.keys state → IsAt task new new.waiting.items
  visited new more waits distinct found reached grows sound this =
      let order = more_order more at.order reached new.found distinct found in
      let is : keys ++ more ≡ (at.done ++ state ∷ []) ++ new.waiting.items =
      append_assoc at.done (state ∷ waiting) more ∙ ap (λ l. at.done ++ state ∷ l) (sym waits) ∙ sym (append_assoc at.done (state ∷ []) new.waiting.items) in
      let long : place + 1 ≡ length (at.done ++ state ∷ []) = omega (arith, length-append at.done (state ∷ [])) in
      let searched : AreSearched task.flat (keys ++ more) new.outcomes.keys (place + 1) =
      searched_more task.flat keys (keys ++ more) old.outcomes.keys new.outcomes.keys place (record { more = more; is = refl }) grows
      (omega (arith, its_long)) at.searched
      (λ key here. subst (IsSearched task.flat (keys ++ more) new.outcomes.keys) (same_Some state key (sym its_place ∙ here)) this) in
      record {
        done = at.done ++ state ∷ [];
        distinct = distinct;
        found = subst (AreFound task.flat new.found) is found;
        order = subst (IsInOrder task) is order;
        sound = sound;
        searched = subst (λ l. AreSearched task.flat l new.outcomes.keys (length (at.done ++ state ∷ []))) is
            (subst (AreSearched task.flat (keys ++ more) new.outcomes.keys) long searched);
      }

  -- a state to go on from was visited, and those to go on with are put to the others
  pub visited_going : (new : Searched) (nexts : List LazyState) → old.waiting.items ≡ waiting → Adds task.flat old new nexts
      → ((k : ℕ) (x : LazyState) → slice_get nexts k ≡ Some x → IsReached task.program.now task.flat x (found_count old.found))
      → AreEnough task.flat state nexts → CanAct task.flat state → IsAt task new new.waiting.items
  visited_going new nexts waits adds reached enough can =
      let same : old.outcomes.keys ≡ new.outcomes.keys = ap (λ o. o.keys) (sym adds.outcomes) in
      visited new adds.more (adds.waiting ∙ ap (λ l. l ++ adds.more) waits) adds.distinct (adds.found keys at.found)
      (λ k x here.
      let one = adds.from k x here in
      subst (IsReached task.program.now task.flat x) (sym at.found.long) (reached one.0 x one.1))
      (grows_not old.outcomes.keys new.outcomes.keys (sym same)) (subst (AreSound task.program.now task.flat) same at.sound)
      (searched_next task.flat (keys ++ adds.more) new.outcomes.keys state nexts enough (adds.there keys at.found) can)

  -- a state at which no node can act was visited, and its outcome is there
  pub visited_ending : (new : Searched) → new.found ≡ old.found → new.waiting.items ≡ waiting → Grows old.outcomes.keys new.outcomes.keys
      → AreSound task.program.now task.flat new.outcomes.keys → ¬ CanAct task.flat state → HasOutcome new.outcomes.keys state.notes.items
      → IsAt task new new.waiting.items
  visited_ending new found waits grows sound cannot has =
      visited new [] (waits ∙ nothing_more waiting) (subst AreDistinct (sym found) at.distinct)
      (subst (λ f. AreFound task.flat f (keys ++ [])) (sym found) (subst (AreFound task.flat old.found) (nothing_more keys) at.found))
      (λ k x none. cc) grows sound (searched_still task.flat (keys ++ []) new.outcomes.keys state cannot has)

  -- with more states than a bound, the search has met more
  pub meets_more : IsTask task → task.most < found_count old.found → MeetsMore task.program.now task.flat.nodes task.most
  meets_more is many = record {
    flat = task.flat;
    count = refl;
    place = task.start;
    code = is.code;
    words = is.words;
    locks = is.locks;
    keys = keys;
    many = let long = at.found.long in omega (arith, many, long);
    distinct = at.order.distinct;
    reached = at.order.reached;
  }

-- ---- where none waits, all states are searched

-- where none is taken from the front, there is none
pub emptied : (taken : Option LazyState) (long after : ℕ) (items : List LazyState)
    → MatchOption taken ((long ≡ 0) × (after ≡ 0)) (λ (x : LazyState). after + 1 ≡ long) → taken ≡ None → long ≡ length items → items ≡ []
emptied None long after items cases none is = nil_from_length items (sym is ∙ cases.0)
emptied (Some x) long after items cases none is = cc

module _ (task : Task) (is : IsTask task) (all : Searched) (left : List LazyState) (none : left ≡ []) (at : IsAt task all left) where
  searched_all : AreSearched task.flat (at.done ++ left) all.outcomes.keys (length (at.done ++ left))
  searched_all = subst (AreSearched task.flat (at.done ++ left) all.outcomes.keys)
      (ap length (nothing_more at.done ∙ ap (λ l. at.done ++ l) (sym none))) at.searched

  pub all_exact : (notes : List Act) → IsLazyOutcome task.program.now task.flat.nodes notes ↔ HasOutcome all.outcomes.keys notes
  all_exact notes =
      exact task.program.now task.flat is.words is.locks (at.done ++ left) all.outcomes.keys at.order.begun searched_all at.sound notes

  pub all_fits : found_count all.found ≤ task.most → FitsLazily task.program.now task.flat.nodes task.most all.outcomes.keys
  all_fits few = record {
    flat = task.flat;
    count = refl;
    place = task.start;
    code = is.code;
    words = is.words;
    locks = is.locks;
    keys = at.done ++ left;
    few = let long = at.found.long in omega (arith, few, long);
    begun = at.order.begun;
    searched = searched_all;
  }
