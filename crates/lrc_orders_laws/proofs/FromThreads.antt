-- Where each thread settles by itself the state settles, and so; and what settling makes of the locks.
use Rattle.std.proofs.Common.{◌≡◌, ℕ, true, false, List, ◌∷◌, inl, inr, length, refl, sym, ap, ◌∙◌, subst, arith}
use Rattle.std.specs.Prelude.{Option, Some, None, slice_index_or, slice_set}
use Rattle.std.proofs.lemmas.Bool.{cases_eq, cases_lt}
use Rattle.std.proofs.lemmas.List.{get_or_past, get_or-set_same, get_or-set_other, length-set}
use Rattle.std.proofs.lemmas.Option.{some_pair_parts}
use Rattle.lrc_trace.specs.declared.act.Act.{Act}
use Rattle.lrc_trace.specs.declared.act.Deed.{Deed}
use Rattle.lrc_trace.specs.declared.act.Deed.TheVariants.{Quiet, Print, Acquire, Release, Arrive, Trap, End}
use Rattle.lrc_exec.specs.Meaning.{Thread, Next, quiet, prints, reads, writes, acquires, releases, arrives, departs, traps, ends, next_of}
use Rattle.lrc_exec.specs.Plain.{Plain, thread_in}
use Rattle.lrc_exec.specs.Follows.{Goes, quietly, printing, reading, writing, acquiring, releasing, arriving, departing, trapping, ending}
use Rattle.lrc_orders.proofs.Effects.{holders_after, holders_other}
use Rattle.lrc_orders_laws.specs.Free.{is_free, is_contended}
use Rattle.lrc_orders_laws.specs.Settling.{Settles, settled, settling}
use Rattle.lrc_orders_laws.specs.Threads as threads
use Rattle.lrc_orders_laws.specs.Threads.{ThreadSettles, IsGivenBack, SettlesTogether, LocksSettle}
use Rattle.lrc_orders_laws.proofs.Parts.{stepped}
use Rattle.lrc_orders_laws.proofs.Diamond.{true_is_false}
use Rattle.lrc_orders_laws.proofs.Finishing as finishing
use Rattle.lrc_orders_laws.proofs.Finishing.{Finishes, free_steady}
use Rattle.lrc_orders_laws.proofs.Settle.{settle, settling_free}
use Rattle.lrc_orders_laws.proofs.ByThreads.{by_threads}

-- the free deed of a thread, and where that leads
abbrev free_of : Next → Option (Deed × Option Thread)
free_of (quiet t) = Some (Quiet, Some t)
free_of (prints v t) = Some (Print v, Some t)
free_of (reads w t) = None
free_of (writes w v t) = None
free_of (acquires l t) = None
free_of (releases l t) = Some (Release l, Some t)
free_of (arrives t) = Some (Arrive, Some t)
free_of (departs t) = None
free_of (traps c) = Some (Trap c, None)
free_of ends = Some (End, None)

free_once : {next : Next} {deed : Deed} {new : Option Thread} → Goes next deed new → is_free next ≡ true → free_of next ≡ Some (deed, new)
free_once quietly e = refl
free_once printing e = refl
free_once reading e = true_is_false true refl (sym e)
free_once writing e = true_is_false true refl (sym e)
free_once acquiring e = true_is_false true refl (sym e)
free_once releasing e = refl
free_once arriving e = refl
free_once departing e = true_is_false true refl (sym e)
free_once trapping e = refl
free_once ending e = refl

-- a thread settles in one way
pub one_course : {o there other : Option Thread} {deeds others : List Deed} → ThreadSettles o deeds there → ThreadSettles o others other
    → (deeds ≡ others) × (there ≡ other)
one_course threads.stopped threads.stopped = (refl, refl)
one_course (threads.waits thread e) (threads.waits _ f) = (refl, refl)
one_course (threads.waits thread e) (threads.turns _ f) = (refl, refl)
one_course (threads.waits thread e) (threads.goes _ deed after there deeds g free never more) = true_is_false (is_free (next_of thread)) free e
one_course (threads.turns thread e) (threads.waits _ f) = (refl, refl)
one_course (threads.turns thread e) (threads.turns _ f) = (refl, refl)
one_course (threads.turns thread e) (threads.goes _ deed after there deeds g free never more) = absurd (never e)
one_course (threads.goes thread deed after there deeds g free never more) (threads.waits _ f) = true_is_false (is_free (next_of thread)) free f
one_course (threads.goes thread deed after there deeds g free never more) (threads.turns _ f) = absurd (never f)
one_course (threads.goes thread deed after there deeds g free never more) (threads.goes _ deed' after' there' deeds' g' free' never' more') =
    let both = some_pair_parts deed deed' after after' (sym (free_once g free) ∙ free_once g' free') in
    let rest = one_course more (subst (λ o. ThreadSettles o deeds' there') (sym both.1) more') in
    (ap (λ d. d ∷ deeds) both.0 ∙ ap (λ l. deed' ∷ l) rest.0, rest.1)

finishes : {o there : Option Thread} {deeds : List Deed} → ThreadSettles o deeds there → Finishes o
finishes threads.stopped = finishing.over
finishes (threads.waits thread e) = finishing.waits thread e
finishes (threads.turns thread e) = finishing.turning thread e
finishes (threads.goes thread deed after there deeds g free never more) = finishing.goes thread deed after g free never (finishes more)

-- ---- the locks

given_back : (holders : List (Option ℕ)) (lock l : ℕ) → lock ≡ l → slice_index_or (slice_set holders l None) lock None ≡ None
given_back holders lock l same = elim (cases_lt lock (length holders)) [
  | inl lt ↦
      ap (λ k. slice_index_or (slice_set holders l None) k None) same ∙ get_or-set_same holders l None None (omega (arith, lt, same))
  | inr le ↦ get_or_past (slice_set holders l None) lock None (omega (arith, le, length-set {A = Option ℕ} holders l None))
]

free_stays : (node : ℕ) (deed : Deed) (holders : List (Option ℕ)) (lock : ℕ) → is_contended deed ≡ false → slice_index_or holders lock None ≡ None
    → slice_index_or (holders_after node deed holders) lock None ≡ None
free_stays node (Acquire l) holders lock e free = true_is_false true refl e
free_stays node (Release l) holders lock e free = elim (cases_eq lock l) [
  | inl same ↦ given_back holders lock l same
  | inr apart ↦ get_or-set_other holders l lock None None apart ∙ free
]
free_stays node _ holders lock e free = free

-- the holder of a lock
abbrev holder : Plain → ℕ → Option ℕ
holder machine lock = slice_index_or machine.holders lock None

stays_free : {machine final : Plain} {acts : List Act} → Settles machine acts final → (lock : ℕ) → holder machine lock ≡ None → holder final lock ≡ None
stays_free (settled machine is) lock free = free
stays_free (settling machine after final node deed acts next step more) lock free =
    let s = stepped machine node deed after step in
    let steady : is_contended deed ≡ false = free_steady s.took.goes (settling_free next s) in
    stays_free more lock (ap (λ (m : Plain). holder m lock) s.took.is ∙ free_stays node deed machine.holders lock steady free)

gives_back : {machine final : Plain} {acts : List Act} → Settles machine acts final → (lock : ℕ) → IsGivenBack lock acts → holder final lock ≡ None
gives_back (settled machine is) lock given = absurd given
gives_back (settling machine after final node deed acts next step more) lock given = elim given [
  | inl here ↦
      let s = stepped machine node deed after step in
      let freed : holder after lock ≡ None =
      ap (λ (m : Plain). holder m lock) s.took.is
      ∙ ap (λ d. slice_index_or (holders_after node d machine.holders) lock None) here ∙ given_back machine.holders lock lock refl in
      stays_free more lock freed
  | inr later ↦ gives_back more lock later
]

keeps : {machine final : Plain} {acts : List Act} → Settles machine acts final → (lock : ℕ) → (IsGivenBack lock acts → ⊥)
    → holder final lock ≡ holder machine lock
keeps (settled machine is) lock not_given = refl
keeps (settling machine after final node deed acts next step more) lock not_given =
    let s = stepped machine node deed after step in
    let steady : is_contended deed ≡ false = free_steady s.took.goes (settling_free next s) in
    keeps more lock (λ later. not_given (inr later))
    ∙ ap (λ (m : Plain). holder m lock) s.took.is
    ∙ holders_other node deed lock machine.holders (λ e. true_is_false true refl (subst (λ d. is_contended d ≡ false) e steady))
    (λ e. not_given (inl e))

pub locks_settle : {machine final : Plain} {acts : List Act} → Settles machine acts final → LocksSettle machine acts final
locks_settle settles = record { freed = λ lock given. gives_back settles lock given; kept = λ lock not_given. keeps settles lock not_given }

-- the state settles as its threads do
pub settles_together : (machine : Plain) (deeds : ℕ → List Deed) (there : ℕ → Option Thread)
    → ((node : ℕ) → ThreadSettles (thread_in machine node) (deeds node) (there node)) → SettlesTogether machine deeds there
settles_together machine deeds there each =
    let st = settle machine (record { each = λ node. finishes (each node) }) in
    let by = by_threads st.settles in
    record {
      acts = st.acts;
      final = st.final;
      settles = st.settles;
      made = λ node. (one_course (by.threads node) (each node)).0;
      comes = λ node. (one_course (by.threads node) (each node)).1;
    }
