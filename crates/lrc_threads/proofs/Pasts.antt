-- What the nodes of a run did, taken apart.
use Rattle.std.proofs.Common.{◌≡◌, ◌∙◌, ◌<◌, ℕ, zero, suc, ◌+◌, ◌||◌, Bool, List, [], ◌∷◌, Option, None, Some, option_map, refl, sym, ap, subst, arith, length, map}
use Rattle.std.specs.Prelude.{All, slice_get}
use Rattle.std.specs.List.{enumerate_from, list_any}
use Rattle.std.proofs.lemmas.List.{length-map}
use Rattle.std.proofs.lemmas.Option.{slice_get-map}
use Rattle.std.proofs.lemmas.List.Elements.{All-cons, All-nil}
use Rattle.lrc_program.specs.declared.Program.{Program}
use Rattle.lrc_trace.specs.Trace.{TraceRecord}
use Rattle.lrc_protocol.specs.Node.{Node, OptionsRecord, fresh_node}
use Rattle.lrc_protocol.specs.Run.{EntryRecord}
use Rattle.lrc_protocol.specs.Traced.{trace_of}
use Rattle.lrc_weave.specs.Logs.{AreLogs}
use Rattle.lrc_threads.specs.declared.life.Past.{Past}
use Rattle.lrc_threads.specs.declared.stop.Stop.{Stop}
use Rattle.lrc_threads.specs.declared.stop.Stop.TheVariants.{Closed, Worn, NoMemory}
use Rattle.lrc_threads.specs.Threads.{ArePastsOf, HaveNoFailure, IsPast, is_any_ready_after, traces_of_logs}
use Rattle.lrc_threads.specs.Worker.{AreShort, IsLogOf, IsPastOf, Leaves, is_ready_after}

-- what is the same at each place is the same of all
same_at_each : {A B X : Type 0} (f : A → X) (g : ℕ → B → X) (part : A → B) (n : ℕ) (items : List A)
    → ((k : ℕ) (one : A) → slice_get items k ≡ Some one → f one ≡ g (n + k) (part one))
    → map f items ≡ map (λ at. g at.0 at.1) (enumerate_from n (map part items))
same_at_each f g part n [] same = refl
same_at_each f g part n (one ∷ items) same =
    let here : n + 0 ≡ n = omega arith in
    let first : f one ≡ g n (part one) = same 0 one refl ∙ ap (λ k. g k (part one)) here in
    let others : map f items ≡ map (λ at. g at.0 at.1) (enumerate_from (n + 1) (map part items)) =
    same_at_each f g part (n + 1) items
    (λ k other at. let next : n + suc k ≡ n + 1 + k = omega arith in same (suc k) other at ∙ ap (λ i. g i (part other)) next) in
    ap (λ x. x ∷ map f items) first ∙ ap (λ xs. g n (part one) ∷ xs) others

-- a test of any element is one of any answer of the test
any_of_map : {A : Type 0} (test : A → Bool) (items : List A) → list_any test items ≡ list_any (λ b. b) (map test items)
any_of_map test [] = refl
any_of_map test (one ∷ items) = ap (λ b. test one || b) (any_of_map test items)

-- what is at a place of these parts is the part of what is there
found_at : {A B : Type 0} (part : A → B) (o : Option A) (b : B) → option_map part o ≡ Some b → (a : A) × (o ≡ Some a) × (part a ≡ b)
found_at part None b is = cc
found_at part (Some a) b is = (a, refl, cc)

-- what holds of what is at each place holds of all
all_at : {A : Type 0} (P : A → Type 0) (items : List A) → ((k : ℕ) (one : A) → slice_get items k ≡ Some one → P one) → All P items
all_at P [] each = All-nil P
all_at P (one ∷ items) each = All-cons P one items (each 0 one refl) (all_at P items (λ k other at. each (suc k) other at))

-- a place where something is lies inside
some_inside : {A : Type 0} (items : List A) (n : ℕ) (one : A) → slice_get items n ≡ Some one → n < length items
some_inside [] n one at = cc
some_inside (x ∷ items) zero one at = omega arith
some_inside (x ∷ items) (suc n) one at = let inside = some_inside items n one at in omega arith

-- the turns of a node that it did on its thread
abbrev log_of_past : Past → List EntryRecord
log_of_past past = past.log.items

-- why its thread stopped
abbrev stop_of_past : Past → Option Stop
stop_of_past past = past.stop

-- the log that a thread leaves is that of its node's turns, however it stopped
log_left : (start : Node) (log : List EntryRecord) (trace : TraceRecord) (ready : Bool) (stop : Option Stop) → Leaves start log trace ready stop
    → IsLogOf start log
log_left start log trace ready None left = left.log_is
log_left start log trace ready (Some Worn) left = left.0
log_left start log trace ready (Some NoMemory) left = left
log_left start log trace ready (Some Closed) left = absurd left

-- one that went on until the post was closed leaves its node's past
past_left : (start : Node) (log : List EntryRecord) (trace : TraceRecord) (ready : Bool) (stop : Option Stop) → stop ≡ None
    → Leaves start log trace ready stop → IsPastOf start log trace ready
past_left start log trace ready stop none left = subst (Leaves start log trace ready) none left

module _ (program : Program) (nodes : ℕ) (options : OptionsRecord) (pasts : List Past) (are : ArePastsOf program nodes options pasts)
    (logs : List (List EntryRecord)) (is : logs ≡ map log_of_past pasts) (stops : List (Option Stop)) (stops_are : stops ≡ map stop_of_past pasts) where
  -- the past of a node that left this log
  past_at : (n : ℕ) (log : List EntryRecord) → slice_get logs n ≡ Some log → (past : Past) × (slice_get pasts n ≡ Some past) × (log_of_past past ≡ log)
  past_at n log at =
      found_at log_of_past (slice_get pasts n) log (sym (slice_get-map log_of_past pasts n) ∙ ap (λ ls. slice_get ls n) (sym is) ∙ at)

  -- the turns are those of the nodes
  pub logs_of_nodes : AreLogs program nodes options logs
  logs_of_nodes = record {
    count = ap length is ∙ length-map pasts log_of_past ∙ are.count;
    each = λ n log at.
        let found = past_at n log at in
        let past : Past = found.0 in
        subst (IsLogOf (fresh_node program nodes options n)) found.2
        (log_left (fresh_node program nodes options n) past.log.items past.trace past.is_ready past.stop (are.each n past found.1));
  }

  -- there is a stop for each node
  pub stops_count : length stops ≡ nodes
  stops_count = ap length stops_are ∙ length-map pasts stop_of_past ∙ are.count

  -- what is left of a node with this log whose thread stopped so
  pub left_at : (P : Node → List EntryRecord → Option Stop → Type 0)
      → ((start : Node) (past : Past) → IsPast start past → P start past.log.items past.stop)
      → (n : ℕ) (log : List EntryRecord) (stop : Option Stop) → slice_get logs n ≡ Some log → slice_get stops n ≡ Some stop
      → P (fresh_node program nodes options n) log stop
  left_at P holds n log stop at stopped =
      let found = past_at n log at in
      let past : Past = found.0 in
      let its : Some past.stop ≡ Some stop =
      sym (slice_get-map stop_of_past pasts n ∙ ap (option_map stop_of_past) found.1) ∙ ap (λ ss. slice_get ss n) (sym stops_are) ∙ stopped in
      let same : past.stop ≡ stop = cc in
      subst (P (fresh_node program nodes options n) log) same
      (subst (λ l. P (fresh_node program nodes options n) l past.stop) found.2 (holds (fresh_node program nodes options n) past (are.each n past found.1)))

  module _ (none : HaveNoFailure stops) where
    -- no thread failed
    whole_past : (n : ℕ) (past : Past) → slice_get pasts n ≡ Some past
        → IsPastOf (fresh_node program nodes options n) past.log.items past.trace past.is_ready
    whole_past n past at =
        let inside : n < length stops = some_inside stops n past.stop
        (ap (λ ss. slice_get ss n) stops_are ∙ slice_get-map stop_of_past pasts n ∙ ap (option_map stop_of_past) at) in
        let its : Some past.stop ≡ Some None =
        sym (slice_get-map stop_of_past pasts n ∙ ap (option_map stop_of_past) at) ∙ ap (λ ss. slice_get ss n) (sym stops_are) ∙ none n inside in
        let same : past.stop ≡ None = cc in
        past_left (fresh_node program nodes options n) past.log.items past.trace past.is_ready past.stop same (are.each n past at)

    -- none of their messages is too long
    pub short_of_nodes : All AreShort logs
    short_of_nodes =
        all_at AreShort logs (λ n log at.
        let found = past_at n log at in
        subst AreShort found.2 (whole_past n found.0 found.1).short)

    -- the traces are theirs
    pub traces_of_nodes : (traces : List TraceRecord) → traces ≡ map (λ past. past.trace) pasts → traces ≡ traces_of_logs program nodes options logs
    traces_of_nodes traces same =
        let each = λ (k : ℕ) (past : Past) (at : slice_get pasts k ≡ Some past).
        let place : k ≡ 0 + k = omega arith in
        (whole_past k past at).trace_is ∙ ap (λ (n : ℕ). trace_of (fresh_node program nodes options n) past.log.items) place in
        same
        ∙ same_at_each (λ (past : Past). past.trace) (λ (n : ℕ) (log : List EntryRecord). trace_of (fresh_node program nodes options n) log) log_of_past
        0 pasts each
        ∙ ap (traces_of_logs program nodes options) (sym is)

    -- and it is whether any of them would go on
    pub ready_of_nodes : (ready : Bool) → ready ≡ list_any (λ past. past.is_ready) pasts → ready ≡ is_any_ready_after program nodes options logs
    ready_of_nodes ready same =
        let each = λ (k : ℕ) (past : Past) (at : slice_get pasts k ≡ Some past).
        let place : k ≡ 0 + k = omega arith in
        (whole_past k past at).ready_is ∙ ap (λ (n : ℕ). is_ready_after (fresh_node program nodes options n) past.log.items) place in
        same
        ∙ any_of_map (λ (past : Past). past.is_ready) pasts
        ∙ ap (list_any (λ (b : Bool). b))
        (same_at_each (λ (past : Past). past.is_ready) (λ (n : ℕ) (log : List EntryRecord). is_ready_after (fresh_node program nodes options n) log)
        log_of_past 0 pasts each)
        ∙ sym (any_of_map (λ (at : ℕ × List EntryRecord). is_ready_after (fresh_node program nodes options at.0) at.1) (enumerate_from 0 (map log_of_past pasts)))
        ∙ ap (is_any_ready_after program nodes options) (sym is)
