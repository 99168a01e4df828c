-- What every step keeps: the locks that threads hold are theirs on the machine, and there are as many locks and nodes.
use Rattle.std.proofs.Common.{◌≡◌, ℕ, ◌<◌, Bool, true, false, List, Option, Some, None, inl, inr, length, sym, ap, ◌∙◌, subst, arith}
use Rattle.std.specs.Prelude.{is_none, slice_index_or, slice_set, replicate}
use Rattle.std.specs.List.{range_with_len}
use Rattle.std.proofs.lemmas.Bool.{cases_eq, cases_lt}
use Rattle.std.proofs.lemmas.List.{get_or-set_same, get_or-set_other, get_or_past, length-set, length-replicate, get_or-replicate, length-map}
use Rattle.std.proofs.lemmas.List.FromFn.{length-range_with_len}
use Rattle.std.proofs.lemmas.Option.{same_Some}
use Rattle.lrc_program.specs.declared.Program.{Program}
use Rattle.lrc_trace.specs.declared.act.Deed.{Deed}
use Rattle.lrc_trace.specs.declared.act.Deed.TheVariants.{Release}
use Rattle.lrc_exec.specs.Meaning.{Setting, Thread, Next, holds, next_of}
use Rattle.lrc_exec.specs.Plain.{Plain, thread_in, plain_start, start_of}
use Rattle.lrc_exec.proofs.NextLaws.{IsFine, next_of-fine}
use Rattle.lrc_exec.proofs.PlainParts.{thread_within}
use Rattle.lrc_exec.specs.Follows.{Goes, quietly, printing, reading, writing, acquiring, releasing, arriving, departing, trapping, ending}
use Rattle.lrc_consistency_laws.proofs.Runs.{CanDo, thread_at_start}
use Rattle.lrc_orders.proofs.Effects.{holders_after, length-holders, length-arrivals}
use Rattle.lrc_orders_laws.proofs.Parts.{Stepped}

pub record Held (machine : Plain) : Type 0 where
  pub locks : (node : ℕ) (thread : Thread) → thread_in machine node ≡ Some thread → thread.setting.locks ≡ length machine.holders
  pub theirs : (node lock : ℕ) (thread : Thread) → thread_in machine node ≡ Some thread → holds thread lock ≡ true
      → slice_index_or machine.holders lock None ≡ Some node
  pub sizes : length machine.arrivals ≡ length machine.threads

-- a lock that is held is not free
pub not_free : (o : Option ℕ) (node : ℕ) → o ≡ Some node → is_none o ≡ true → ⊥
not_free o node is free = let e : is_none (Some node) ≡ true = subst (λ x. is_none x ≡ true) is free in let f : false ≡ true = e in cc

set_true : (held : List Bool) (lock other : ℕ) → (other ≡ lock → ⊥) → slice_index_or (slice_set held lock true) other false ≡ true
    → slice_index_or held other false ≡ true
set_true held lock other apart e = sym (get_or-set_other held lock other true false apart) ∙ e

set_false : (held : List Bool) (lock : ℕ) → slice_index_or (slice_set held lock false) lock false ≡ true → ⊥
set_false held lock e = elim (cases_lt lock (length held)) [
  | inl lt ↦ let f : false ≡ true = sym (get_or-set_same held lock false false lt) ∙ e in cc
  | inr le ↦
      let f : false ≡ true = sym (get_or_past (slice_set held lock false) lock false (omega (arith, length-set held lock false))) ∙ e in cc
]

set_false_other : (held : List Bool) (lock other : ℕ) → (other ≡ lock → ⊥) → slice_index_or (slice_set held lock false) other false ≡ true
    → slice_index_or held other false ≡ true
set_false_other held lock other apart e = sym (get_or-set_other held lock other false false apart) ∙ e

module _ (machine : Plain) (held : Held machine) (node : ℕ) (thread : Thread) (there : thread_in machine node ≡ Some thread) where
  -- the thread after has as many locks, and those that it holds are the node's
  record Owns (holders : List (Option ℕ)) (after : Thread) : Type 0 where
    locks : after.setting.locks ≡ thread.setting.locks
    theirs : (lock : ℕ) → holds after lock ≡ true → slice_index_or holders lock None ≡ Some node

  as_before : (after : Thread) → after.setting ≡ thread.setting → after.held ≡ thread.held → Owns machine.holders after
  as_before after setting same = record {
    locks = ap (λ (s : Setting). s.locks) setting;
    theirs = λ lock h. held.theirs node lock thread there (ap (λ l. slice_index_or l lock false) (sym same) ∙ h);
  }

  got : (l : ℕ) (after : Thread) → l < thread.setting.locks → after.setting ≡ thread.setting → after.held ≡ slice_set thread.held l true
      → Owns (slice_set machine.holders l (Some node)) after
  got l after below setting same = record {
    locks = ap (λ (s : Setting). s.locks) setting;
    theirs = λ lock h. elim (cases_eq lock l) [
      | inl e ↦
          let long = held.locks node thread there in
          ap (λ k. slice_index_or (slice_set machine.holders l (Some node)) k None) e
          ∙ get_or-set_same machine.holders l (Some node) None (omega (arith, long, below))
      | inr apart ↦
          get_or-set_other machine.holders l lock (Some node) None apart
          ∙ held.theirs node lock thread there (set_true thread.held l lock apart (ap (λ x. slice_index_or x lock false) (sym same) ∙ h))
    ];
  }

  given : (l : ℕ) (after : Thread) → after.setting ≡ thread.setting → after.held ≡ slice_set thread.held l false
      → Owns (slice_set machine.holders l None) after
  given l after setting same = record {
    locks = ap (λ (s : Setting). s.locks) setting;
    theirs = λ lock h.
        let h' : slice_index_or (slice_set thread.held l false) lock false ≡ true = ap (λ x. slice_index_or x lock false) (sym same) ∙ h in
        elim (cases_eq lock l) [
          | inl e ↦ absurd (set_false thread.held l (subst (λ k. slice_index_or (slice_set thread.held l false) k false ≡ true) e h'))
          | inr apart ↦
              get_or-set_other machine.holders l lock None None apart
              ∙ held.theirs node lock thread there (set_false_other thread.held l lock apart h')
        ];
  }

  owns : {next : Next} {deed : Deed} {new : Option Thread} → Goes next deed new → IsFine thread next → (after : Thread) → new ≡ Some after
      → Owns (holders_after node deed machine.holders) after
  owns (quietly {t = t}) f after e = subst (Owns machine.holders) (same_Some t after e) (as_before t f.1.setting f.1.held)
  owns (printing {t = t}) f after e = subst (Owns machine.holders) (same_Some t after e) (as_before t f.1.setting f.1.held)
  owns (reading {t = t} {v = v}) f after e =
      subst (Owns machine.holders) (same_Some (t v) after e) (as_before (t v) (f.1 v).1.setting (f.1 v).1.held)
  owns (writing {t = t}) f after e = subst (Owns machine.holders) (same_Some t after e) (as_before t f.1.1.setting f.1.1.held)
  owns (acquiring {t = t} {l = l}) f after e =
      subst (Owns (slice_set machine.holders l (Some node))) (same_Some t after e) (got l t f.0 f.3.setting f.3.held)
  owns (releasing {t = t} {l = l}) f after e =
      subst (Owns (slice_set machine.holders l None)) (same_Some t after e) (given l t f.3.setting f.3.held)
  owns (arriving {t = t}) f after e = subst (Owns machine.holders) (same_Some t after e) (as_before t f.1.setting f.1.held)
  owns (departing {t = t}) f after e = subst (Owns machine.holders) (same_Some t after e) (as_before t f.1.setting f.1.held)
  owns trapping f after e = cc
  owns ending f after e = cc

  -- the locks of another node
  others_own : {next : Next} {deed : Deed} {new : Option Thread} → Goes next deed new → IsFine thread next → CanDo machine node deed
      → (lock other : ℕ) → (other ≡ node → ⊥) → slice_index_or machine.holders lock None ≡ Some other
      → slice_index_or (holders_after node deed machine.holders) lock None ≡ Some other
  others_own quietly f can lock other apart h = h
  others_own printing f can lock other apart h = h
  others_own reading f can lock other apart h = h
  others_own writing f can lock other apart h = h
  others_own (acquiring {l = l}) f can lock other apart h =
      get_or-set_other machine.holders l lock (Some node) None
      (λ e. not_free (slice_index_or machine.holders l None) other (subst (λ k. slice_index_or machine.holders k None ≡ Some other) e h) can)
      ∙ h
  others_own (releasing {l = l}) f can lock other apart h =
      get_or-set_other machine.holders l lock None None
      (λ e. apart (same_Some other node (sym h ∙ ap (λ k. slice_index_or machine.holders k None) e ∙ held.theirs node l thread there f.1)))
      ∙ h
  others_own arriving f can lock other apart h = h
  others_own departing f can lock other apart h = h
  others_own trapping f can lock other apart h = h
  others_own ending f can lock other apart h = h

-- the lock that a node gives back is its own
pub gives_its_own : (machine : Plain) → Held machine → (node : ℕ) (thread : Thread) → thread_in machine node ≡ Some thread → {deed : Deed}
    → {new : Option Thread} → Goes (next_of thread) deed new → (lock : ℕ) → deed ≡ Release lock → slice_index_or machine.holders lock None ≡ Some node
gives_its_own machine held node thread there goes lock is =
    held.theirs node lock thread there (holds_it goes (next_of-fine thread) lock is)
  where
    holds_it : {next : Next} {deed : Deed} {new : Option Thread} → Goes next deed new → IsFine thread next → (lock : ℕ) → deed ≡ Release lock
        → holds thread lock ≡ true
    holds_it (releasing {l = l}) f lock e = let same : l ≡ lock = cc in subst (λ k. holds thread k ≡ true) same f.1
    holds_it quietly f lock e = cc
    holds_it printing f lock e = cc
    holds_it reading f lock e = cc
    holds_it writing f lock e = cc
    holds_it acquiring f lock e = cc
    holds_it arriving f lock e = cc
    holds_it departing f lock e = cc
    holds_it trapping f lock e = cc
    holds_it ending f lock e = cc

pub held_after : (machine : Plain) → Held machine → (node : ℕ) (deed : Deed) (after : Plain) → Stepped machine node deed after → Held after
held_after machine held node deed after s =
    let long : length after.holders ≡ length machine.holders =
    ap (λ (m : Plain). length m.holders) s.took.is ∙ length-holders node deed machine.holders in
    let holders : after.holders ≡ holders_after node deed machine.holders = ap (λ (m : Plain). m.holders) s.took.is in
    let fine = next_of-fine s.thread in
    record {
      locks = λ n t at. elim (cases_eq n node) [
        | inl same ↦
            let new : s.took.goes_on_as ≡ Some t = sym s.own ∙ ap (thread_in after) (sym same) ∙ at in
            let o = owns machine held node s.thread s.there s.took.goes fine t new in
            o.locks ∙ held.locks node s.thread s.there ∙ sym long
        | inr apart ↦ held.locks n t (sym (s.others n apart) ∙ at) ∙ sym long
      ];
      theirs = λ n lock t at h. ap (λ hs. slice_index_or hs lock None) holders ∙ elim (cases_eq n node) [
        | inl same ↦
            let new : s.took.goes_on_as ≡ Some t = sym s.own ∙ ap (thread_in after) (sym same) ∙ at in
            let o = owns machine held node s.thread s.there s.took.goes fine t new in
            o.theirs lock h ∙ ap (λ k. Some k) (sym same)
        | inr apart ↦
            others_own machine held node s.thread s.there s.took.goes fine s.took.can lock n apart
            (held.theirs n lock t (sym (s.others n apart) ∙ at) h)
      ];
      sizes =
          ap (λ (m : Plain). length m.arrivals) s.took.is ∙ length-arrivals node deed machine.arrivals ∙ held.sizes
          ∙ sym (ap (λ (m : Plain). length m.threads) s.took.is ∙ length-set machine.threads node s.took.goes_on_as);
    }

unheld : (locks l : ℕ) → slice_index_or (replicate locks false) l false ≡ true → ⊥
unheld locks l e = elim (cases_lt l locks) [
  | inl lt ↦ let f : false ≡ true = sym (get_or-replicate locks l false false lt) ∙ e in cc
  | inr le ↦ let f : false ≡ true = sym (get_or_past (replicate locks false) l false (omega (arith, length-replicate locks false))) ∙ e in cc
]

pub threads_at_start : (program : Program) (nodes : ℕ) → length (plain_start program nodes).threads ≡ nodes
threads_at_start program nodes = length-map (range_with_len 0 nodes) (λ me. Some (start_of program nodes me)) ∙ length-range_with_len 0 nodes

-- the threads at the beginning are those of the text
pub started : (program : Program) (nodes n : ℕ) (t : Thread) → thread_in (plain_start program nodes) n ≡ Some t → start_of program nodes n ≡ t
started program nodes n t at =
    let within : n < nodes = let lt = thread_within (plain_start program nodes) n t at in omega (arith, lt, threads_at_start program nodes) in
    same_Some (start_of program nodes n) t (sym (thread_at_start program nodes n within) ∙ at)

pub held_at_start : (program : Program) (nodes : ℕ) → Held (plain_start program nodes)
held_at_start program nodes = record {
  locks = λ n t at. ap (λ (x : Thread). x.setting.locks) (sym (started program nodes n t at)) ∙ sym (length-replicate {A = Option ℕ} program.locks None);
  theirs = λ n lock t at h. absurd (unheld 64 lock (ap (λ (x : Thread). holds x lock) (started program nodes n t at) ∙ h));
  sizes = length-replicate {A = ℕ} nodes 0 ∙ sym (threads_at_start program nodes);
}
