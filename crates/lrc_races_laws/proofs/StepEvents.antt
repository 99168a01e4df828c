-- The events of what steps say stand for these steps.
use Rattle.std.proofs.Common.{◌≡◌, ℕ, zero, suc, ◌+◌, ◌^◌, ◌<◌, List, [], ◌∷◌, length, sym, subst, refl, ◌∙◌, ap, arith}
use Rattle.std.specs.Prelude.{◌≢◌, AllPairs, Option, Some, None, decimal, slice_get, slice_index, unwrap_or}
use Rattle.std.proofs.lemmas.Option.{same_Some}
use Rattle.lrc_trace.specs.declared.act.Act.{Act}
use Rattle.lrc_trace.specs.declared.act.Deed.{Deed}
use Rattle.lrc_trace.specs.declared.act.Deed.TheVariants as deeds
use Rattle.lrc_races_trace.specs.declared.event.Event.{Event}
use Rattle.lrc_races_trace.specs.declared.event.Operation.{Operation}
use Rattle.lrc_races_trace.specs.Trace.{At}
use Rattle.lrc_races_lines.specs.declared.line.Kind.{Kind}
use Rattle.lrc_acts_text.specs.Rapid.{RapidStep}
use Rattle.lrc_acts_text_laws.specs.Traces.{DoesStep}
use Rattle.lrc_races_text.specs.Says.{Said}
use Rattle.lrc_races_text.specs.Naming.{Naming, IsOperation, IsEvent, IsLocated, AreEvents, no_events, event_more, IsTrace, Numbers, read, write, acquire}
use Rattle.lrc_races_text.specs.Naming.{release}
use Rattle.lrc_races_text.specs.Spelled.{place_name}
use Rattle.lrc_races_laws.specs.Traces.{Numbers as Numbering, Locks, operation_of}
use Rattle.lrc_races_laws.specs.Steps.{AreEventsOfSteps, Words}
use Rattle.lrc_races_laws.specs.Said.{AreSaid, thread_name, variable_name, lock_name, saying_in_rapid, kind_of_deed, target_in_rapid}
use Rattle.lrc_races_laws.specs.Telling.{ArePlacedSteps}
use Rattle.lrc_races_laws.proofs.Bytes.{one_decimal}
use Rattle.lrc_races_laws.proofs.Names.{place_of, number_is, one_name}
use Rattle.lrc_races_laws.proofs.StepLines.{IsDone, AreDone, none_done, more_done, IsStepFor, IsOneStep, number_of, steps_said}

-- ---- a step is for one deed, but for what is read or written

-- what is the same of deeds that one step is for
pub record IsSameDeed (n : ℕ) (d : Deed) (m : ℕ) (e : Deed) : Type 0 where
  pub node : n ≡ m
  pub kind : kind_of_deed d ≡ kind_of_deed e
  pub target : target_in_rapid d ≡ target_in_rapid e
  pub number : number_of d ≡ number_of e

alone : (s t : RapidStep) → s ∷ [] ≡ t ∷ [] → s ≡ t
alone s t e = cc

same_deed : (s : RapidStep) (n m : ℕ) (d e : Deed) → IsStepFor s n d → IsStepFor s m e → IsSameDeed n d m e
same_deed s n m (deeds.Read w v) (deeds.Read x u) p q =
    let e = alone _ _ (p ∙ sym q) in
    let o = ap (λ (t : RapidStep). t.operation) e in
    let same : w ≡ x = cc in
    record { node = ap (λ (t : RapidStep). t.node) e; kind = refl; target = ap variable_name same; number = same }
same_deed s n m (deeds.Read w v) (deeds.Write x u) p q =
    let o = ap (λ (t : RapidStep). t.operation) (alone _ _ (p ∙ sym q)) in let never : ⊥ = cc in absurd never
same_deed s n m (deeds.Read w v) (deeds.Acquire x) p q =
    let o = ap (λ (t : RapidStep). t.operation) (alone _ _ (p ∙ sym q)) in let never : ⊥ = cc in absurd never
same_deed s n m (deeds.Read w v) (deeds.Release x) p q =
    let o = ap (λ (t : RapidStep). t.operation) (alone _ _ (p ∙ sym q)) in let never : ⊥ = cc in absurd never
same_deed s n m (deeds.Write w v) (deeds.Read x u) p q =
    let o = ap (λ (t : RapidStep). t.operation) (alone _ _ (p ∙ sym q)) in let never : ⊥ = cc in absurd never
same_deed s n m (deeds.Write w v) (deeds.Write x u) p q =
    let e = alone _ _ (p ∙ sym q) in
    let o = ap (λ (t : RapidStep). t.operation) e in
    let same : w ≡ x = cc in
    record { node = ap (λ (t : RapidStep). t.node) e; kind = refl; target = ap variable_name same; number = same }
same_deed s n m (deeds.Write w v) (deeds.Acquire x) p q =
    let o = ap (λ (t : RapidStep). t.operation) (alone _ _ (p ∙ sym q)) in let never : ⊥ = cc in absurd never
same_deed s n m (deeds.Write w v) (deeds.Release x) p q =
    let o = ap (λ (t : RapidStep). t.operation) (alone _ _ (p ∙ sym q)) in let never : ⊥ = cc in absurd never
same_deed s n m (deeds.Acquire w) (deeds.Read x u) p q =
    let o = ap (λ (t : RapidStep). t.operation) (alone _ _ (p ∙ sym q)) in let never : ⊥ = cc in absurd never
same_deed s n m (deeds.Acquire w) (deeds.Write x u) p q =
    let o = ap (λ (t : RapidStep). t.operation) (alone _ _ (p ∙ sym q)) in let never : ⊥ = cc in absurd never
same_deed s n m (deeds.Acquire w) (deeds.Acquire x) p q =
    let e = alone _ _ (p ∙ sym q) in
    let o = ap (λ (t : RapidStep). t.operation) e in
    let same : w ≡ x = cc in
    record { node = ap (λ (t : RapidStep). t.node) e; kind = refl; target = ap lock_name same; number = same }
same_deed s n m (deeds.Acquire w) (deeds.Release x) p q =
    let o = ap (λ (t : RapidStep). t.operation) (alone _ _ (p ∙ sym q)) in let never : ⊥ = cc in absurd never
same_deed s n m (deeds.Release w) (deeds.Read x u) p q =
    let o = ap (λ (t : RapidStep). t.operation) (alone _ _ (p ∙ sym q)) in let never : ⊥ = cc in absurd never
same_deed s n m (deeds.Release w) (deeds.Write x u) p q =
    let o = ap (λ (t : RapidStep). t.operation) (alone _ _ (p ∙ sym q)) in let never : ⊥ = cc in absurd never
same_deed s n m (deeds.Release w) (deeds.Acquire x) p q =
    let o = ap (λ (t : RapidStep). t.operation) (alone _ _ (p ∙ sym q)) in let never : ⊥ = cc in absurd never
same_deed s n m (deeds.Release w) (deeds.Release x) p q =
    let e = alone _ _ (p ∙ sym q) in
    let o = ap (λ (t : RapidStep). t.operation) e in
    let same : w ≡ x = cc in
    record { node = ap (λ (t : RapidStep). t.node) e; kind = refl; target = ap lock_name same; number = same }
same_deed s n m d e p q = let never : ⊥ = cc in absurd never

-- ---- the event of a step

pub record IsEventOf (lines : List ℕ) (naming : Naming) (line place node : ℕ) (deed : Deed) (events : List Event) (at_place : ℕ) : Type 0 where
  pub event : Event
  pub at : At events at_place event
  pub is : IsEvent naming (record { line = line; saying = saying_in_rapid (slice_index lines place) node deed }) event
  pub node_few : node < 10 ^ 64
  pub number_few : number_of deed < 10 ^ 64

module _ (lines : List ℕ) (naming : Naming) where
  first_event : (before : ℕ) (s : RapidStep) (act : Act) (a : Event) (rest : List Event) → IsDone s act
      → IsEvent naming (record { line = before + 1; saying = saying_in_rapid (slice_index lines s.position) act.node act.deed }) a
      → (t : RapidStep) (node : ℕ) (deed : Deed) → s ≡ t → IsStepFor t node deed
      → IsEventOf lines naming (before + zero + 1) t.position node deed (a ∷ rest) zero
  first_event before s act a rest done is t node deed same e =
      let d = same_deed t act.node node act.deed deed (subst (λ u. IsStepFor u act.node act.deed) same done.is) e in
      let start : before + 1 ≡ before + zero + 1 = omega arith in
      let saying : ℕ → ℕ → Kind → List ℕ → Said = λ line n k g. record {
        line = line;
        saying = record { thread = thread_name n; kind = k; target = g; location = decimal (slice_index lines t.position) };
      } in
      let here = subst (λ (u : RapidStep). IsEvent naming (record { line = before + 1; saying = saying_in_rapid (slice_index lines u.position) act.node act.deed }) a) same is in
      record {
        event = a;
        at = record { is = refl };
        is = subst (λ l. IsEvent naming (saying l node (kind_of_deed deed) (target_in_rapid deed)) a) start
            (subst (λ g. IsEvent naming (saying (before + 1) node (kind_of_deed deed) g) a) d.target
            (subst (λ k. IsEvent naming (saying (before + 1) node k (target_in_rapid act.deed)) a) d.kind
            (subst (λ n. IsEvent naming (saying (before + 1) n (kind_of_deed act.deed) (target_in_rapid act.deed)) a) d.node here)));
        node_few = subst (λ n. n < 10 ^ 64) d.node done.node;
        number_few = subst (λ n. n < 10 ^ 64) d.number done.number;
      }

  event_of : (before : ℕ) {steps : List RapidStep} {acts : List Act} {events : List Event} → AreDone steps acts
      → AreEvents naming (steps_said before lines steps acts) events → (k : ℕ) (t : RapidStep) (node : ℕ) (deed : Deed)
      → slice_get steps k ≡ Some t → IsStepFor t node deed → IsEventOf lines naming (before + k + 1) t.position node deed events k
  event_of before none_done are k t node deed at e = let never : ⊥ = cc in absurd never
  event_of before (more_done {s = s} {act = act} done rest) (event_more {event = a} {events = others} is are) zero t node deed at e =
      first_event before s act a others done is t node deed (same_Some s t at) e
  event_of before (more_done {s = s} {act = act} done rest) (event_more {event = a} {events = others} is are) (suc k) t node deed at e =
      let h = event_of (before + 1) rest are k t node deed at e in
      let shift : before + 1 + k + 1 ≡ before + suc k + 1 = omega arith in
      let there = h.at in
      record {
        event = h.event;
        at = record { is = there.is };
        is = subst (λ l. IsEvent naming (record { line = l; saying = saying_in_rapid (slice_index lines t.position) node deed }) h.event) shift h.is;
        node_few = h.node_few;
        number_few = h.number_few;
      }

pub as_many : {naming : Naming} {said : List Said} {events : List Event} → AreEvents naming said events → length events ≡ length said
as_many no_events = refl
as_many (event_more is rest) = ap suc (as_many rest)

said_many : (before : ℕ) (lines : List ℕ) {steps : List RapidStep} {acts : List Act} → AreDone steps acts → length (steps_said before lines steps acts) ≡ length steps
said_many before lines none_done = refl
said_many before lines (more_done done rest) = ap suc (said_many (before + 1) lines rest)

-- ---- what steps say is what is said

said_of : (before : ℕ) (lines : List ℕ) {steps : List RapidStep} {acts : List Act} → AreDone steps acts → (k : ℕ) (t : RapidStep) (node : ℕ) (deed : Deed)
    → slice_get steps k ≡ Some t → IsStepFor t node deed
    → slice_get (steps_said before lines steps acts) k ≡ Some (record { line = before + k + 1; saying = saying_in_rapid (slice_index lines t.position) node deed })
said_of before lines none_done k t node deed at e = let never : ⊥ = cc in absurd never
said_of before lines (more_done {s = s} {act = act} done rest) zero t node deed at e =
    let same = same_Some s t at in
    let d = same_deed t act.node node act.deed deed (subst (λ u. IsStepFor u act.node act.deed) same done.is) e in
    let start : before + 1 ≡ before + zero + 1 = omega arith in
    let saying : ℕ → ℕ → ℕ → Kind → List ℕ → Option Said = λ place line n k g. Some (record {
      line = line;
      saying = record { thread = thread_name n; kind = k; target = g; location = decimal (slice_index lines place) };
    }) in
    ap (λ (u : RapidStep). saying u.position (before + 1) act.node (kind_of_deed act.deed) (target_in_rapid act.deed)) same
    ∙ ap (λ l. saying t.position l act.node (kind_of_deed act.deed) (target_in_rapid act.deed)) start
    ∙ ap (λ n. saying t.position (before + zero + 1) n (kind_of_deed act.deed) (target_in_rapid act.deed)) d.node
    ∙ ap (λ k. saying t.position (before + zero + 1) node k (target_in_rapid act.deed)) d.kind
    ∙ ap (λ g. saying t.position (before + zero + 1) node (kind_of_deed deed) g) d.target
said_of before lines (more_done done rest) (suc k) t node deed at e =
    let shift : before + 1 + k + 1 ≡ before + suc k + 1 = omega arith in
    said_of (before + 1) lines rest k t node deed at e
    ∙ ap (λ l. Some (let s : Said = record { line = l; saying = saying_in_rapid (slice_index lines t.position) node deed } in s)) shift

pub are_said : (lines : List ℕ) {steps : List RapidStep} {acts : List Act} → AreDone steps acts → AreSaid lines steps (steps_said 0 lines steps acts)
are_said lines done = record {
  long = said_many 0 lines done;
  each = λ k node deed does.
      said_of 0 lines done k does.step node deed does.stands (does.is (record { locks = 0; nodes = 0; arrived = 0; departed = 0 }))
      ∙ ap (λ l. Some (let s : Said = record { line = l; saying = saying_in_rapid (slice_index lines does.step.position) node deed } in s)) (let e : 0 + k + 1 ≡ k + 1 = omega arith in e);
}

same_lists : (xs ys : List Said) → length xs ≡ length ys → ((k : ℕ) (x : Said) → slice_get xs k ≡ Some x → slice_get ys k ≡ Some x) → xs ≡ ys
same_lists [] [] long same = refl
same_lists [] (y ∷ ys) long same = absurd (omega arith)
same_lists (x ∷ xs) [] long same = absurd (omega arith)
same_lists (x ∷ xs) (y ∷ ys) long same =
    ap (λ z. z ∷ xs) (sym (same_Some y x (same 0 x refl))) ∙ ap (λ zs. y ∷ zs) (same_lists xs ys (omega arith) (λ k z e. same (suc k) z e))

said_at : {steps : List RapidStep} {acts : List Act} (before : ℕ) (lines : List ℕ) → AreDone steps acts → (k : ℕ) (x : Said)
    → slice_get (steps_said before lines steps acts) k ≡ Some x
    → (t : RapidStep) × (act : Act) × (slice_get steps k ≡ Some t) × IsDone t act
said_at before lines none_done k x e = let never : ⊥ = cc in absurd never
said_at before lines (more_done {s = s} {act = act} done rest) zero x e = (s, act, refl, done)
said_at before lines (more_done done rest) (suc k) x e = said_at (before + 1) lines rest k x e

pub said_alone : (lines : List ℕ) {steps : List RapidStep} {acts : List Act} (said : List Said) → AreDone steps acts
    → ((k : ℕ) (t : RapidStep) (act : Act) → slice_get steps k ≡ Some t → IsDone t act → DoesStep steps k act.node act.deed)
    → AreSaid lines steps said → said ≡ steps_said 0 lines steps acts
said_alone lines {steps} {acts} said done does are =
    sym (same_lists (steps_said 0 lines steps acts) said (said_many 0 lines done ∙ sym are.long) (λ k x e.
    let (t, act, at, one) = said_at 0 lines done k x e in
    let d = does k t act at one in
    let mine = (are_said lines done).each k act.node act.deed d in
    are.each k act.node act.deed d ∙ sym mine ∙ e))

-- ---- the numbers of the names of a trace

abbrev pub numbering_of : Naming → Numbering
numbering_of naming = record {
  thread = λ node. place_of naming.threads (thread_name node);
  variable = λ w. place_of naming.variables (variable_name w);
  lock = λ l. place_of naming.locks (lock_name l);
  barrier = 0;
}

without_letter : (letter n m : ℕ) → letter ∷ decimal n ≡ letter ∷ decimal m → decimal n ≡ decimal m
without_letter letter n m e = cc

-- a name that is a letter and the digits of a number has a number
record IsNumbered (names : List (List ℕ)) (letter n : ℕ) : Type 0 where
  number : ℕ
  named : Numbers names (letter ∷ decimal n) number
  few : n < 10 ^ 64

one_numbered : (names : List (List ℕ)) (letter n m : ℕ) → AllPairs (λ x y. x ≢ y) names → IsNumbered names letter n → IsNumbered names letter m
    → place_of names (letter ∷ decimal n) ≡ place_of names (letter ∷ decimal m) → n ≡ m
one_numbered names letter n m distinct a b same =
    let numbers : a.number ≡ b.number = number_is names (letter ∷ decimal n) a.number distinct a.named ∙ same
    ∙ sym (number_is names (letter ∷ decimal m) b.number distinct b.named) in
    one_decimal n m a.few b.few
    (without_letter letter n m (one_name names (letter ∷ decimal n) (letter ∷ decimal m) a.number b.number a.named b.named numbers))

module _ (lines : List ℕ) {steps : List RapidStep} {acts : List Act} (naming : Naming) (events : List Event)
    (trace : IsTrace (steps_said 0 lines steps acts) naming events) (done : AreDone steps acts) where
  event_at : (k node : ℕ) (deed : Deed) (does : DoesStep steps k node deed)
      → IsEventOf lines naming (0 + k + 1) does.step.position node deed events k
  event_at k node deed does = event_of lines naming 0 done trace.numbered k does.step node deed does.stands (does.is (record { locks = 0; nodes = 0; arrived = 0; departed = 0 }))

  doing : (deed : Deed) (o : Operation) → IsOneStep deed → IsOperation naming (target_in_rapid deed) (kind_of_deed deed) o
      → o ≡ operation_of (numbering_of naming) deed
  doing (deeds.Read w value) o one (read {v = v} n) =
      ap Operation.Read (number_is naming.variables (variable_name w) v trace.names.variables.distinct n)
  doing (deeds.Write w value) o one (write {v = v} n) =
      ap Operation.Write (number_is naming.variables (variable_name w) v trace.names.variables.distinct n)
  doing (deeds.Acquire l) o one (acquire {l = m} n) =
      ap Operation.Acquire (number_is naming.locks (lock_name l) m trace.names.locks.distinct n)
  doing (deeds.Release l) o one (release {l = m} n) =
      ap Operation.Release (number_is naming.locks (lock_name l) m trace.names.locks.distinct n)
  doing deeds.Arrive o one is = absurd one
  doing deeds.Depart o one is = absurd one
  doing deeds.Quiet o one is = absurd one
  doing (deeds.Print value) o one is = absurd one
  doing (deeds.Trap cause) o one is = absurd one
  doing deeds.End o one is = absurd one

  one_step : (node : ℕ) (deed : Deed) (s : RapidStep) → IsStepFor s node deed → IsOneStep deed
  one_step node (deeds.Read w value) s e = tt
  one_step node (deeds.Write w value) s e = tt
  one_step node (deeds.Acquire l) s e = tt
  one_step node (deeds.Release l) s e = tt
  one_step node deed s e = let never : ⊥ = cc in absurd never

  thread_of : (k p : ℕ) (d : Deed) → DoesStep steps k p d → IsNumbered naming.threads 84 p
  thread_of k p d does =
      let h = event_at k p d does in
      record { number = h.event.thread; named = h.is.thread; few = h.node_few }

  word_in : (d : Deed) (w : ℕ) (o : Operation) → Words d w → IsOperation naming (target_in_rapid d) (kind_of_deed d) o → number_of d < 10 ^ 64
      → IsNumbered naming.variables 86 w
  word_in (deeds.Read v value) w o same (read {v = u} n) few =
      subst (λ x. IsNumbered naming.variables 86 x) same (record { number = u; named = n; few = few })
  word_in (deeds.Write v value) w o same (write {v = u} n) few =
      subst (λ x. IsNumbered naming.variables 86 x) same (record { number = u; named = n; few = few })
  word_in (deeds.Acquire l) w o same is few = absurd same
  word_in (deeds.Release l) w o same is few = absurd same
  word_in deeds.Arrive w o same is few = absurd same
  word_in deeds.Depart w o same is few = absurd same
  word_in deeds.Quiet w o same is few = absurd same
  word_in (deeds.Print value) w o same is few = absurd same
  word_in (deeds.Trap cause) w o same is few = absurd same
  word_in deeds.End w o same is few = absurd same

  word_of : (k p : ℕ) (d : Deed) (w : ℕ) → DoesStep steps k p d → Words d w → IsNumbered naming.variables 86 w
  word_of k p d w does same =
      let h = event_at k p d does in
      word_in d w h.event.operation same h.is.operation h.number_few

  lock_in : (d : Deed) (l : ℕ) (o : Operation) → Locks d l → IsOperation naming (target_in_rapid d) (kind_of_deed d) o → number_of d < 10 ^ 64
      → IsNumbered naming.locks 76 l
  lock_in (deeds.Acquire m) l o same (acquire {l = u} n) few =
      subst (λ x. IsNumbered naming.locks 76 x) same (record { number = u; named = n; few = few })
  lock_in (deeds.Release m) l o same (release {l = u} n) few =
      subst (λ x. IsNumbered naming.locks 76 x) same (record { number = u; named = n; few = few })
  lock_in (deeds.Read w value) l o same is few = absurd same
  lock_in (deeds.Write w value) l o same is few = absurd same
  lock_in deeds.Arrive l o same is few = absurd same
  lock_in deeds.Depart l o same is few = absurd same
  lock_in deeds.Quiet l o same is few = absurd same
  lock_in (deeds.Print value) l o same is few = absurd same
  lock_in (deeds.Trap cause) l o same is few = absurd same
  lock_in deeds.End l o same is few = absurd same

  lock_of : (k p : ℕ) (d : Deed) (l : ℕ) → DoesStep steps k p d → Locks d l → IsNumbered naming.locks 76 l
  lock_of k p d l does same =
      let h = event_at k p d does in
      lock_in d l h.event.operation same h.is.operation h.number_few

  pub are_events : AreEventsOfSteps (numbering_of naming) steps events
  are_events = record {
    long = as_many trace.numbered ∙ said_many 0 lines done;
    same = λ k node deed does.
        let h = event_at k node deed does in (
          h.event,
          h.at,
          number_is naming.threads (thread_name node) h.event.thread trace.names.threads.distinct h.is.thread,
          doing deed h.event.operation (one_step node deed does.step (does.is (record { locks = 0; nodes = 0; arrived = 0; departed = 0 }))) h.is.operation,
        );
    threads = λ k m p q a b does also same.
        one_numbered naming.threads 84 p q trace.names.threads.distinct (thread_of k p a does) (thread_of m q b also) same;
    variables = λ k m p q v w a b does also of by same.
        one_numbered naming.variables 86 v w trace.names.variables.distinct (word_of k p a v does of) (word_of m q b w also by) same;
    locks = λ k m p q l n a b does also of by same.
        one_numbered naming.locks 76 l n trace.names.locks.distinct (lock_of k p a l does of) (lock_of m q b n also by) same;
  }

-- ---- lines and locations

pub named_place : (naming : Naming) (location : List ℕ) (place : Option ℕ) → IsLocated naming.locations location place
    → place_name naming place ≡ location
named_place naming location None e = sym e
named_place naming location (Some n) (some, h) = ap (λ o. unwrap_or o []) h.at

pub steps_placed : (lines : List ℕ) {steps : List RapidStep} {acts : List Act} (naming : Naming) (events : List Event)
    → IsTrace (steps_said 0 lines steps acts) naming events → AreDone steps acts → ArePlacedSteps lines steps naming events
steps_placed lines naming events trace done k s a at_step at =
    let (act, one) = done_at done k s at_step in
    let h = event_of lines naming 0 done trace.numbered k s act.node act.deed at_step one.is in
    let there = h.at in
    let same : h.event ≡ a = same_Some h.event a (sym there.is ∙ at.is) in
    let is = subst (λ x. IsEvent naming (record { line = 0 + k + 1; saying = saying_in_rapid (slice_index lines s.position) act.node act.deed }) x) same h.is in
    let start : 0 + k + 1 ≡ k + 1 = omega arith in
    (is.line ∙ start, named_place naming (decimal (slice_index lines s.position)) a.location is.location)
  where
    done_at : {steps : List RapidStep} {acts : List Act} → AreDone steps acts → (n : ℕ) (t : RapidStep) → slice_get steps n ≡ Some t
        → (act : Act) × IsDone t act
    done_at none_done n t e = let never : ⊥ = cc in absurd never
    done_at (more_done {s = u} {act = act} d rest) zero t e = (act, subst (λ x. IsDone x act) (same_Some u t e) d)
    done_at (more_done d rest) (suc n) t e = done_at rest n t e
