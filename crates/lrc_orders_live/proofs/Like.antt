-- States that differ at most in how often nodes have arrived, and in private values that nothing depends on any more: they go on alike.
use Rattle.std.proofs.Common.{◌≡◌, ℕ, zero, suc, ◌≤◌, List, false, length, refl, sym, ap, ◌∙◌, subst, arith}
use Rattle.std.specs.Prelude.{Option, Some, None, IsSome, option_and_then, slice_index, slice_index_or}
use Rattle.std.specs.List.{range_with_len}
use Rattle.std.proofs.lemmas.Option.{same_Some}
use Rattle.lrc_program.specs.declared.Program.{Program}
use Rattle.lrc_trace.specs.declared.act.Act.{Act}
use Rattle.lrc_exec.specs.declared.spot.Flat.{Flat}
use Rattle.lrc_exec.specs.Meaning.{Setting, Thread, Next, next_of}
use Rattle.lrc_exec.specs.Plain.{Plain, thread_in, plain_from}
use Rattle.lrc_exec.specs.declared.state.State.{State}
use Rattle.lrc_orders.specs.Meeting.{Meet}
use Rattle.lrc_exec.specs.States.{plain_at, IsStateOf}
use Rattle.lrc_orders.specs.Stuck.{IsAtRest, IsStuck}
use Rattle.lrc_orders_laws.specs.Alike.{DoAlike, quiet, prints, reads, writes, acquires, releases, arrives, departs, traps, ends}
use Rattle.lrc_orders_laws.specs.Alike.{BothAlike, stopped, going, StandAlike}
use Rattle.lrc_orders_laws.specs.Names.{AgreeWhereItMatters, matters_still}
use Rattle.lrc_orders_laws.proofs.Mattering.{go_on}
use Rattle.lrc_orders_laws.proofs.Stepping.{step, runs, meets, rests, sticks}
use Rattle.lrc_orders_laws.specs.Free.{after_quiet, after_quiets, is_free, is_free_in, TurnsIn}
use Rattle.lrc_orders_laws.specs.Rows.{AreAlike}
use Rattle.lrc_orders_laws.specs.Settling.{IsNextToSettle, IsSettled, IsSettledAt, Settles, settled, settling}
use Rattle.lrc_orders_laws.specs.Steps.{AllWait, IsSettledState, waits_in}
use Rattle.lrc_orders_laws.proofs.GoingOn.{same_thread, state_fine}
use Rattle.lrc_orders_laws.proofs.Held.{Held}
use Rattle.lrc_orders_laws.proofs.Onward.{Fine}
use Rattle.lrc_orders_settling.specs.declared.step.Step.{Step}
use Rattle.lrc_orders_settling.specs.Taking.{IsCounted, Takes, alone, together}
use Rattle.lrc_orders_live.specs.Like.{AreLike, GoesOnLike, TakesLike}
use Rattle.lrc_orders_live.proofs.Alike.{aligned_counted, leads_takes, meet_alike, rest_alike, settled_alike, sizes_counted, stuck_alike, takes_alike, takes_leads}

-- ---- threads

agree_same : (t : Thread) → AgreeWhereItMatters t t
agree_same t = record { setting = refl; rest = refl; held = refl; arrived = refl; count = refl; names = λ name it. refl }

agree_back : (t u : Thread) → AgreeWhereItMatters t u → AgreeWhereItMatters u t
agree_back t u a = record {
  setting = sym a.setting;
  rest = sym a.rest;
  held = sym a.held;
  arrived = sym a.arrived;
  count = sym a.count;
  names = λ name it. sym (a.names name (ap (λ r. matters_still r name) a.rest ∙ it));
}

agree_on : (t u v : Thread) → AgreeWhereItMatters t u → AgreeWhereItMatters u v → AgreeWhereItMatters t v
agree_on t u v a b = record {
  setting = a.setting ∙ b.setting;
  rest = a.rest ∙ b.rest;
  held = a.held ∙ b.held;
  arrived = a.arrived ∙ b.arrived;
  count = a.count ∙ b.count;
  names = λ name it. a.names name it ∙ b.names name (ap (λ r. matters_still r name) (sym a.rest) ∙ it);
}

both_same : (o : Option Thread) → BothAlike AgreeWhereItMatters o o
both_same None = stopped
both_same (Some t) = going (agree_same t)

both_back : (x y : Option Thread) → BothAlike AgreeWhereItMatters x y → BothAlike AgreeWhereItMatters y x
both_back x y stopped = stopped
both_back x' y' (going {t} {u} r) = going (agree_back t u r)

-- the thread that stands for one
pub record Partner (t : Thread) (o : Option Thread) : Type 0 where
  pub thread : Thread
  pub is : o ≡ Some thread
  pub agree : AgreeWhereItMatters t thread

pub partner : (x y : Option Thread) → BothAlike AgreeWhereItMatters x y → (t : Thread) → x ≡ Some t → Partner t y
partner x y stopped t e = cc
partner x' y' (going {t = s} {u = u} r) t e = record { thread = u; is = refl; agree = subst (λ w. AgreeWhereItMatters w u) (same_Some s t e) r }

pub none_too : (x y : Option Thread) → BothAlike AgreeWhereItMatters x y → x ≡ None → y ≡ None
none_too x y stopped e = refl
none_too x' y' (going {t} {u} r) e = cc

both_on : (x y z : Option Thread) → BothAlike AgreeWhereItMatters x y → BothAlike AgreeWhereItMatters y z → BothAlike AgreeWhereItMatters x z
both_on None y z a b =
    subst (λ o. BothAlike AgreeWhereItMatters None o) (sym (none_too y z b (none_too None y a refl))) stopped
both_on (Some t) y z a b =
    let p = partner (Some t) y a t refl in
    let q = partner y z b p.thread p.is in
    subst (λ o. BothAlike AgreeWhereItMatters (Some t) o) (sym q.is) (going (agree_on t p.thread q.thread p.agree q.agree))

-- ---- states

pub like_same : (machine : Plain) → AreLike machine machine
like_same machine = record { memory = refl; holders = refl; count = refl; threads = λ node. both_same (thread_in machine node) }

pub like_back : {machine other : Plain} → AreLike machine other → AreLike other machine
like_back {machine} {other} a = record {
  memory = sym a.memory;
  holders = sym a.holders;
  count = sym a.count;
  threads = λ node. both_back (thread_in machine node) (thread_in other node) (a.threads node);
}

pub like_on : {a b c : Plain} → AreLike a b → AreLike b c → AreLike a c
like_on {a} {b} {c} x y = record {
  memory = x.memory ∙ y.memory;
  holders = x.holders ∙ y.holders;
  count = x.count ∙ y.count;
  threads = λ node. both_on (thread_in a node) (thread_in b node) (thread_in c node) (x.threads node) (y.threads node);
}

pub like_is : {a b c : Plain} → AreLike a b → b ≡ c → AreLike a c
like_is {a = a} x e = subst (AreLike a) e x

pub like_alike : {machine other : Plain} → AreAlike machine other → AreLike machine other
like_alike {machine} {other} a = record {
  memory = a.memory;
  holders = a.holders;
  count = ap (λ ts. length ts) a.threads;
  threads = λ node. subst (λ o. BothAlike AgreeWhereItMatters (thread_in machine node) o) (same_thread a node) (both_same (thread_in machine node));
}

like_stand : {machine other : Plain} → StandAlike AgreeWhereItMatters machine other → AreLike machine other
like_stand a = record { memory = a.memory; holders = a.holders; count = a.count; threads = a.threads }

-- the one, with as many arrivals as the other
abbrev middle : Plain → Plain → Plain
middle machine other = record machine { arrivals = other.arrivals }

middle_alike : (machine other : Plain) → AreAlike machine (middle machine other)
middle_alike machine other = record { memory = refl; holders = refl; threads = refl }

middle_stands : {machine other : Plain} → AreLike machine other → StandAlike AgreeWhereItMatters (middle machine other) other
middle_stands a = record { memory = a.memory; holders = a.holders; arrivals = refl; count = a.count; threads = a.threads }

-- ---- what every step keeps

held_like : (machine other : Plain) → AreLike machine other → Held other → length machine.arrivals ≡ length machine.threads → Held machine
held_like machine other a held sizes = record {
  locks = λ n t at.
      let p = partner (thread_in machine n) (thread_in other n) (a.threads n) t at in
      ap (λ (s : Setting). s.locks) p.agree.setting ∙ held.locks n p.thread p.is ∙ sym (ap (λ l. length l) a.holders);
  theirs = λ n lock t at h.
      let p = partner (thread_in machine n) (thread_in other n) (a.threads n) t at in
      ap (λ hs. slice_index_or hs lock None) a.holders
      ∙ held.theirs n lock p.thread p.is (ap (λ l. slice_index_or l lock false) (sym p.agree.held) ∙ h);
  sizes = sizes;
}

fine_stand : (machine other : Plain) → StandAlike AgreeWhereItMatters machine other → Fine other → Fine machine
fine_stand machine other a fine = record {
  held = held_like machine other (like_stand a) fine.held (ap (λ l. length l) a.arrivals ∙ fine.held.sizes ∙ sym a.count);
  aligned = record {
    episode = fine.aligned.episode;
    waiting = λ n t at waits.
        let p = partner (thread_in machine n) (thread_in other n) (a.threads n) t at in
        ap (λ l. slice_index l n) a.arrivals ∙ fine.aligned.waiting n p.thread p.is (sym p.agree.arrived ∙ waits);
    going = λ n t at stays.
        let p = partner (thread_in machine n) (thread_in other n) (a.threads n) t at in
        ap (λ l. slice_index l n) a.arrivals ∙ fine.aligned.going n p.thread p.is (sym p.agree.arrived ∙ stays);
    over = λ n at.
        subst (λ x. x ≤ fine.aligned.episode) (sym (ap (λ l. slice_index l n) a.arrivals))
        (fine.aligned.over n (none_too (thread_in machine n) (thread_in other n) (a.threads n) at));
  };
}

-- a state whose nodes have arrived once where they wait, and else never
pub fine_counted : (flat : Flat) (state : State) → IsStateOf flat state → IsCounted state → (machine : Plain) → Held machine
    → AreLike machine (plain_at flat state) → Fine (plain_at flat state)
fine_counted flat state valid counted machine held a = record {
  held = held_like (plain_at flat state) machine (like_back a) held (sizes_counted flat state valid counted);
  aligned = aligned_counted flat state valid counted;
}

-- ---- free acts, and threads that turn for ever

free_same : (n m : Next) → DoAlike AgreeWhereItMatters n m → is_free n ≡ is_free m
free_same n m (quiet r) = refl
free_same n m (prints r) = refl
free_same n m (reads r) = refl
free_same n m (writes r) = refl
free_same n m (acquires r) = refl
free_same n m (releases r) = refl
free_same n m (arrives r) = refl
free_same n m (departs r) = refl
free_same n m traps = refl
free_same n m ends = refl

free_in_same : (x y : Option Thread) → BothAlike AgreeWhereItMatters x y → is_free_in x ≡ is_free_in y
free_in_same x y stopped = refl
free_in_same x' y' (going {t} {u} r) = free_same (next_of t) (next_of u) (go_on.each t u r)

abbrev ComesAlike : (count : ℕ) → Type 0
ComesAlike count = (t u : Thread) → AgreeWhereItMatters t u → IsSome (after_quiets count t) → IsSome (after_quiets count u)

quiet_next : (count : ℕ) → ComesAlike count → (n m : Next) → DoAlike AgreeWhereItMatters n m
    → IsSome (option_and_then (λ after. after_quiets count after) (after_quiet n))
    → IsSome (option_and_then (λ after. after_quiets count after) (after_quiet m))
quiet_next count on n m (quiet {t} {u} r) some = on t u r some
quiet_next count on n m (prints {t = t} {u = u} r) some = on t u r some
quiet_next count on n m (reads r) some = some
quiet_next count on n m (writes r) some = some
quiet_next count on n m (acquires r) some = some
quiet_next count on n m (releases r) some = some
quiet_next count on n m (arrives r) some = some
quiet_next count on n m (departs r) some = some
quiet_next count on n m traps some = some
quiet_next count on n m ends some = some

quiets_on : (count : ℕ) → ComesAlike count
quiets_on zero t u r some = refl
quiets_on (suc count) t u r some = quiet_next count (quiets_on count) (next_of t) (next_of u) (go_on.each t u r) some

turns_on : (x y : Option Thread) → BothAlike AgreeWhereItMatters x y → TurnsIn x → TurnsIn y
turns_on x y stopped turns = turns
turns_on x' y' (going {t} {u} r) turns = record { on = λ count. quiets_on count t u r (turns.on count) }

-- ---- settling

settled_at_stand : (machine other : Plain) → StandAlike AgreeWhereItMatters machine other → (node : ℕ) → IsSettledAt machine node → IsSettledAt other node
settled_at_stand machine other a node is free =
    let both = a.threads node in
    turns_on (thread_in machine node) (thread_in other node) both (is (free_in_same (thread_in machine node) (thread_in other node) both ∙ free))

record SettlesStand (other : Plain) (acts : List Act) (after : Plain) : Type 0 where
  there : Plain
  settles : Settles other acts there
  alike : StandAlike AgreeWhereItMatters after there

settles_stand : {machine after : Plain} {acts : List Act} → Settles machine acts after → (other : Plain) → StandAlike AgreeWhereItMatters machine other
    → SettlesStand other acts after
settles_stand (settled machine is) other a = record {
  there = other;
  settles = settled other (record { each = λ node. settled_at_stand machine other a node (is.each node) });
  alike = a;
}
settles_stand (settling machine after final node deed acts next made more) other a =
    let st = step AgreeWhereItMatters go_on machine other a node deed after made in
    let rest = settles_stand more st.there st.alike in
    let both = a.threads node in
    let next' : IsNextToSettle other node = record {
      free = sym (free_in_same (thread_in machine node) (thread_in other node) both) ∙ next.free;
      stops = λ turns.
          next.stops (turns_on (thread_in other node) (thread_in machine node) (both_back (thread_in machine node) (thread_in other node) both) turns);
      lowest = λ lower lt. settled_at_stand machine other a lower (next.lowest lower lt);
    } in
    record { there = rest.there; settles = settling other st.there rest.there node deed acts next' st.is rest.settles; alike = rest.alike }

pub settled_like : {machine other : Plain} → AreLike machine other → IsSettled machine → IsSettled other
settled_like {machine} {other} a is =
    let mid = settled_alike (middle_alike machine other) is in
    record { each = λ node. settled_at_stand (middle machine other) other (middle_stands a) node (mid.each node) }

-- ---- what is seen

pub meet_like : {machine other : Plain} → AreLike machine other → (p q : ℕ) → Meet machine p q → Meet other p q
meet_like {machine} {other} a p q meet =
    meets AgreeWhereItMatters go_on (middle machine other) other (middle_stands a) p q (meet_alike (middle_alike machine other) p q meet)

pub rest_like : (machine other : Plain) → Fine machine → Fine other → AreLike machine other → IsAtRest machine → IsAtRest other
rest_like machine other fine fine' a still =
    let mid = fine_stand (middle machine other) other (middle_stands a) fine' in
    rests AgreeWhereItMatters go_on (middle machine other) other (middle_stands a)
    (rest_alike machine (middle machine other) fine mid (middle_alike machine other) still)

pub stuck_like : (machine other : Plain) → Fine machine → Fine other → AreLike machine other → IsStuck machine → IsStuck other
stuck_like machine other fine fine' a is =
    let mid = fine_stand (middle machine other) other (middle_stands a) fine' in
    sticks AgreeWhereItMatters go_on (middle machine other) other (middle_stands a)
    (stuck_alike machine (middle machine other) fine mid (middle_alike machine other) is)

-- ---- steps

record TakesStand (other : Plain) (one : Step) (acts : List Act) (after : Plain) : Type 0 where
  there : Plain
  takes : Takes other one acts there
  alike : StandAlike AgreeWhereItMatters after there

waits_same : (x y : Option Thread) → BothAlike AgreeWhereItMatters x y → waits_in x ≡ waits_in y
waits_same x y stopped = refl
waits_same x' y' (going r) = r.arrived

takes_stand : {machine after : Plain} {one : Step} {acts : List Act} → Takes machine one acts after → (other : Plain)
    → StandAlike AgreeWhereItMatters machine other → TakesStand other one acts after
takes_stand (alone machine mid after node deed acts kind made settles) other a =
    let st = step AgreeWhereItMatters go_on machine other a node deed mid made in
    let rest = settles_stand settles st.there st.alike in
    record { there = rest.there; takes = alone other st.there rest.there node deed acts kind st.is rest.settles; alike = rest.alike }
takes_stand (together machine mid after leaving acts all led settles) other a =
    let all' : AllWait other = record {
      each = λ node lt.
          sym (waits_same (thread_in machine node) (thread_in other node) (a.threads node)) ∙ all.each node (omega (arith, lt, a.count));
    } in
    let d = runs AgreeWhereItMatters go_on machine other mid (range_with_len 0 (length machine.threads)) leaving a led in
    let rest = settles_stand settles d.there d.alike in
    record {
      there = rest.there;
      takes = together other d.there rest.there leaving acts all' (ap (λ n. plain_from other (range_with_len 0 n)) (sym a.count) ∙ d.is) rest.settles;
      alike = rest.alike;
    }

pub takes_like : {machine after : Plain} {one : Step} {acts : List Act} → Takes machine one acts after → Fine machine → (other : Plain) → Fine other
    → AreLike machine other → TakesLike other one acts after
takes_like {machine} takes fine other fine' a =
    let mid = fine_stand (middle machine other) other (middle_stands a) fine' in
    let first = takes_alike takes fine (middle machine other) mid (middle_alike machine other) in
    let second = takes_stand first.takes other (middle_stands a) in
    record { there = second.there; takes = second.takes; alike = like_back (like_on (like_alike first.alike) (like_stand second.alike)) }

pub goes_on_like : (program : Program) (nodes : ℕ) (acts others : List Act) (machine other : Plain) → IsSettledState program nodes acts machine
    → IsSettledState program nodes others other → AreLike machine other → GoesOnLike machine other
goes_on_like program nodes acts others machine other one two a = record {
  meets = meet_like a;
  rests = rest_like machine other (state_fine one) (state_fine two) a;
  leads = λ more after leads.
      let it = takes_like (leads_takes leads).1 (state_fine one) other (state_fine two) a in
      record { there = it.there; leads = takes_leads it.takes; alike = like_back it.alike };
}
