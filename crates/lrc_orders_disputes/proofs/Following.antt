-- Where texts are followed, every order of the other nodes stays among the threads that were met.
use Rattle.std.proofs.Common.{◌≡◌, ℕ, List, [], ◌∷◌, inl, inr, Bool, true, false, length, refl, sym, ap, ◌∙◌, subst, arith}
use Rattle.std.specs.Prelude.{Option, Some, slice_index, slice_set, if◌then◌else◌}
use Rattle.std.proofs.lemmas.Bool.{cases_eq, cases_lt}
use Rattle.std.proofs.lemmas.List.{get_or-set_same, get_or-set_other, get_or_past, length-set}
use Rattle.std.proofs.lemmas.Option.{same_Some, some_pair_parts}
use Rattle.lrc_program.specs.declared.Program.{Program}
use Rattle.lrc_trace.specs.declared.act.Act.{Act}
use Rattle.lrc_trace.specs.declared.act.Deed.{Deed}
use Rattle.lrc_trace.specs.declared.act.Deed.TheVariants.{Quiet, Print, Read, Write, Acquire, Release, Arrive, Depart, Trap, End}
use Rattle.lrc_exec.specs.Meaning.{Thread, Next, departs, holds, next_of, first_act}
use Rattle.lrc_exec.specs.Plain.{Plain, thread_in, plain_step, plain_from}
use Rattle.lrc_exec.proofs.PlainParts.{thread_within}
use Rattle.lrc_exec.specs.Follows.{Goes, quietly, printing, reading, writing, acquiring, releasing, arriving, departing, trapping, ending}
use Rattle.lrc_consistency_laws.proofs.Runs.{CanDo}
use Rattle.lrc_consistency_laws.proofs.Plainly.{stepwise}
use Rattle.lrc_orders.proofs.Effects.{memory_after}
use Rattle.lrc_orders_laws.specs.Free.{is_contended}
use Rattle.lrc_orders_laws.specs.Steps.{IsSettledState, waits_in}
use Rattle.lrc_orders_laws.proofs.Parts.{Stepped, stepped}
use Rattle.lrc_orders_laws.proofs.Held.{not_free}
use Rattle.lrc_orders_laws.proofs.Diamond.{true_is_false}
use Rattle.lrc_orders_laws.proofs.Aligned.{at_barrier}
use Rattle.lrc_orders_laws.proofs.GoingOn.{state_fine}
use Rattle.lrc_orders_laws.proofs.Onward.{Fine, fine_after}
use Rattle.lrc_orders_undisputed.specs.Undisputed.{Conflicts, ActsIn, IsUndisputed}
use Rattle.lrc_orders_disputes.specs.Followed.{MayBeDone, IsFollowed, NoneConflicts}

-- what other nodes are taken to do, where a word may hold these values
abbrev pub Possible : Thread → (ℕ → ℕ → Type 0) → Deed → Type 0
Possible thread Value (Read word value) = Value word value
Possible thread Value (Acquire lock) = holds thread lock ≡ false
Possible thread Value Depart = ⊥
Possible thread Value _ = Unit {0}

-- sets of values for each word, and of threads for each other node, are closed
pub record AreClosed (machine : Plain) (node : ℕ) (thread : Thread) (Value : ℕ → ℕ → Type 0) (In : ℕ → Thread → Type 0) : Type 0 where
  pub held_now : (word : ℕ) → Value word (slice_index machine.memory word)
  pub written : (other : ℕ) (before : Thread) (after : Option Thread) (word value : ℕ) → (other ≡ node → ⊥) → In other before
      → Goes (next_of before) (Write word value) after → Value word value
  pub begun : (other : ℕ) (first : Thread) → (other ≡ node → ⊥) → thread_in machine other ≡ Some first → In other first
  pub goes_on : (other : ℕ) (before after : Thread) (deed : Deed) → (other ≡ node → ⊥) → In other before → Goes (next_of before) deed (Some after)
      → Possible thread Value deed → In other after

module _ (start : Plain) (node : ℕ) (thread : Thread) (Value : ℕ → ℕ → Type 0) (In : ℕ → Thread → Type 0)
    (followed : AreClosed start node thread Value In) (going : thread.arrived ≡ false) where
  -- what every order of the other nodes keeps
  record Kept (machine : Plain) : Type 0 where
    fine : Fine machine
    own : thread_in machine node ≡ Some thread
    words : (word : ℕ) → Value word (slice_index machine.memory word)
    others : (other : ℕ) (t : Thread) → (other ≡ node → ⊥) → thread_in machine other ≡ Some t → In other t

  -- the node has not arrived, so nobody departs
  nobody_departs : (machine after : Plain) → Kept machine → (x : ℕ) (deed : Deed) → Stepped machine x deed after → deed ≡ Depart → ⊥
  nobody_departs machine after k x deed s is =
      let b = at_barrier machine k.fine.held k.fine.aligned x after deed s is in
      let waits = b.waits node (omega arith) (thread_within machine node thread k.own) in
      true_is_false thread.arrived (sym (ap waits_in k.own) ∙ waits) going

  may_be_done : (machine after : Plain) → Kept machine → (x : ℕ) → (x ≡ node → ⊥) → (deed : Deed) → (s : Stepped machine x deed after)
      → (d : Deed) → d ≡ deed → CanDo machine x d → Possible thread Value d
  may_be_done machine after k x apart deed s (Read w v) is can = subst (Value w) (sym can) (k.words w)
  may_be_done machine after k x apart deed s (Acquire l) is can = by_test (holds thread l) refl
    where
      by_test : (b : Bool) → holds thread l ≡ b → holds thread l ≡ false
      by_test true e = absurd (not_free _ node (k.fine.held.theirs node l thread k.own e) can)
      by_test false e = e
  may_be_done machine after k x apart deed s Depart is can = nobody_departs machine after k x deed s (sym is)
  may_be_done machine after k x apart deed s Quiet is can = tt
  may_be_done machine after k x apart deed s (Print v) is can = tt
  may_be_done machine after k x apart deed s (Write w v) is can = tt
  may_be_done machine after k x apart deed s (Release l) is can = tt
  may_be_done machine after k x apart deed s Arrive is can = tt
  may_be_done machine after k x apart deed s (Trap c) is can = tt
  may_be_done machine after k x apart deed s End is can = tt

  -- each word holds what it held, or what was written
  words_after : (memory : List ℕ) → ((word : ℕ) → Value word (slice_index memory word)) → (d : Deed) → ((w v : ℕ) → d ≡ Write w v → Value w v)
      → (word : ℕ) → Value word (slice_index (memory_after d memory) word)
  words_after memory words (Write w v) wrote word = elim (cases_eq word w) [
    | inl same ↦ subst (λ k. Value k (slice_index (slice_set memory w v) k)) (sym same) (elim (cases_lt w (length memory)) [
      | inl lt ↦ subst (Value w) (sym (get_or-set_same memory w v 0 lt)) (wrote w v refl)
      | inr le ↦
          let none : slice_index (slice_set memory w v) w ≡ 0 = get_or_past (slice_set memory w v) w 0 (omega (arith, le, length-set memory w v)) in
          subst (Value w) (get_or_past memory w 0 le ∙ sym none) (words w)
    ])
    | inr apart ↦ subst (Value word) (sym (get_or-set_other memory w word v 0 apart)) (words word)
  ]
  words_after memory words _ wrote word = words word

  kept_after : (machine after : Plain) → Kept machine → (x : ℕ) → (x ≡ node → ⊥) → (deed : Deed) → plain_step machine x ≡ Some (deed, after) → Kept after
  kept_after machine after k x apart deed step =
      let s = stepped machine x deed after step in
      let here = k.others x s.thread apart s.there in
      let done : Possible thread Value deed = may_be_done machine after k x apart deed s deed refl s.took.can in
      let memory : after.memory ≡ memory_after deed machine.memory = ap (λ (m : Plain). m.memory) s.took.is in
      let wrote : (w v : ℕ) → deed ≡ Write w v → Value w v =
      λ w v e. followed.written x s.thread s.took.goes_on_as w v apart here
      (subst (λ d. Goes (next_of s.thread) d s.took.goes_on_as) e s.took.goes) in
      record {
        fine = fine_after machine k.fine x deed after s (nobody_departs machine after k x deed s);
        own = s.others node (λ e. apart (sym e)) ∙ k.own;
        words = λ word. subst (λ xs. Value word (slice_index xs word)) (sym memory) (words_after machine.memory k.words deed wrote word);
        others = λ other t not at. elim (cases_eq other x) [
          | inl same ↦
              let new : s.took.goes_on_as ≡ Some t = sym s.own ∙ ap (thread_in after) (sym same) ∙ at in
              let goes : Goes (next_of s.thread) deed (Some t) = subst (Goes (next_of s.thread) deed) new s.took.goes in
              subst (λ n. In n t) (sym same) (followed.goes_on x s.thread t deed apart here goes done)
          | inr another ↦ k.others other t not (sym (s.others other another) ∙ at)
        ];
      }

  kept_along : (order : List ℕ) (machine final : Plain) (acts : List Act) → Kept machine → (ActsIn node order → ⊥)
      → plain_from machine order ≡ Some (acts, final) → Kept final
  kept_along [] machine final acts k without e = subst Kept ((some_pair_parts [] acts machine final e).1) k
  kept_along (x ∷ order) machine final acts k without e =
      let s = stepwise machine x order acts final e in
      kept_along order s.after final s.more (kept_after machine s.after k x (λ same. without (inl same)) s.deed s.first) (λ o. without (inr o)) s.rest

-- a node that reads, writes or acquires next does not wait at a barrier
goes_contended : {next : Next} {deed : Deed} {new : Option Thread} → Goes next deed new → (gone : Thread) → next ≡ departs gone → is_contended deed ≡ true → ⊥
goes_contended reading gone e c = cc
goes_contended writing gone e c = cc
goes_contended acquiring gone e c = cc
goes_contended quietly gone e c = true_is_false true refl (sym c)
goes_contended printing gone e c = true_is_false true refl (sym c)
goes_contended releasing gone e c = true_is_false true refl (sym c)
goes_contended arriving gone e c = true_is_false true refl (sym c)
goes_contended departing gone e c = true_is_false true refl (sym c)
goes_contended trapping gone e c = true_is_false true refl (sym c)
goes_contended ending gone e c = true_is_false true refl (sym c)

not_waiting : (thread : Thread) {deed : Deed} {new : Option Thread} → Goes (next_of thread) deed new → is_contended deed ≡ true → thread.arrived ≡ false
not_waiting thread g c = by_test thread.arrived refl
  where
    by_test : (b : Bool) → thread.arrived ≡ b → thread.arrived ≡ false
    by_test false e = e
    by_test true e =
        absurd (goes_contended g (record thread { arrived = false })
        (ap (λ x. if x then departs (record thread { arrived = false }) else first_act thread thread.rest) e) c)

pub undisputed_by : (program : Program) (nodes : ℕ) (acts : List Act) (machine after : Plain) (node : ℕ) (deed : Deed) (thread : Thread)
    (Value : ℕ → ℕ → Type 0) (In : ℕ → Thread → Type 0) → IsSettledState program nodes acts machine → thread_in machine node ≡ Some thread
    → plain_step machine node ≡ Some (deed, after) → is_contended deed ≡ true → AreClosed machine node thread Value In
    → ((other : ℕ) (before : Thread) → (other ≡ node → ⊥) → In other before → Conflicts deed (next_of before) → ⊥) → IsUndisputed machine node deed after
undisputed_by program nodes acts machine after node deed thread Value In state there step kind followed none =
    let s = stepped machine node deed after step in
    let same : s.thread ≡ thread = same_Some s.thread thread (sym s.there ∙ there) in
    let going : thread.arrived ≡ false = subst (λ (t : Thread). t.arrived ≡ false) same (not_waiting s.thread s.took.goes kind) in
    let now : Kept machine node thread Value In followed going machine = record {
      fine = state_fine state;
      own = there;
      words = followed.held_now;
      others = λ other t apart at. followed.begun other t apart at;
    } in
    record {
      step = step;
      never = λ d.
          let k = kept_along machine node thread Value In followed going d.order machine d.final d.acts now d.without d.led in
          none d.other d.thread d.apart (k.others d.other d.thread d.apart d.there) d.conflicts;
    }

may_be_done_then : (thread : Thread) (values : ℕ → ℕ → Bool) (d : Deed) → Possible thread (λ w v. values w v ≡ true) d → MayBeDone thread values d
may_be_done_then thread values (Read w v) may = may
may_be_done_then thread values (Acquire l) may = may
may_be_done_then thread values Depart may = may
may_be_done_then thread values _ may = tt

pub undisputed : (program : Program) (nodes : ℕ) (acts : List Act) (machine after : Plain) (node : ℕ) (deed : Deed) (thread : Thread)
    (values : ℕ → ℕ → Bool) (threads : ℕ → Thread → Bool) → IsSettledState program nodes acts machine → thread_in machine node ≡ Some thread
    → plain_step machine node ≡ Some (deed, after) → is_contended deed ≡ true → IsFollowed machine node thread values threads
    → NoneConflicts node deed threads → IsUndisputed machine node deed after
undisputed program nodes acts machine after node deed thread values threads state there step kind followed none =
    undisputed_by program nodes acts machine after node deed thread (λ w v. values w v ≡ true) (λ other t. threads other t ≡ true) state there step kind
    (record {
      held_now = followed.held_now;
      written = followed.written;
      begun = followed.begun;
      goes_on = λ other before later d apart among goes may. followed.goes_on other before later d apart among goes (may_be_done_then thread values d may);
    })
    none
