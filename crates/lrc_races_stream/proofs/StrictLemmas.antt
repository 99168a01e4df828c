-- The first event that no program would give, by what is kept of the lines.
use Rattle.std.proofs.Common.{◌≡◌, ℕ, zero, suc, ◌+◌, ◌<◌, ◌≤◌, Bool, true, false, List, [], length, subst, sym, ◌∙◌, ap, arith, append-nil}
use Rattle.std.specs.Prelude.{Option, None, Some, Result, Ok, Err, IfOk, slice_get}
use Rattle.std.specs.declared.alloc.AllocError.{AllocError}
use Rattle.lrc_races_trace.specs.declared.event.Event.{Event}
use Rattle.lrc_races_trace.specs.declared.fault.Fault.{Fault as IllEvent}
use Rattle.lrc_races_trace.specs.Formed.{IsFirstFault}
use Rattle.lrc_races_detector.specs.Finding.{HasLooked}
use Rattle.lrc_races_text.specs.Ill.{IsFirstIllIn, IsFirstIllOf, IsIllIfAny}
use Rattle.lrc_races_text.specs.Naming.{AreEvents, IsTrace, Naming, event_more, no_events}
use Rattle.lrc_races_text.specs.Says.{Said, Say, blank_line, event_line, no_line}
use Rattle.lrc_races_text.specs.Tables.{naming_of}
use Rattle.lrc_races_text.specs.declared.asked.Sought.{Sought}
use Rattle.lrc_races_text.specs.declared.fault.Fault.TheVariants as faults
use Rattle.lrc_races_text.specs.declared.form.Form.{Form}
use Rattle.lrc_races_text.specs.declared.ill.Ill.{Ill}
use Rattle.lrc_races_front.specs.Front.{Keeping}
use Rattle.lrc_races_front.specs.Kept.{HasKept}
use Rattle.lrc_races_front.specs.declared.kept.Kept.{Kept}
use Rattle.lrc_races_locations.specs.Lines.{IsLocated}
use Rattle.lrc_races_scored.specs.Traced.{HasTraced}
use Rattle.lrc_races_scored.specs.declared.traced.Traced.{Traced}
use Rattle.lrc_races_locations.specs.declared.located.Located.{Located}
use Rattle.lrc_shell_sources.specs.Known.{Held}
use Rattle.lrc_races_stream.specs.Reach.{AreFirst, HasCome, HasComeWell, IsHalt, IsStop, halted, ill_formed, out_of_memory}
use Rattle.lrc_races_stream.specs.Strict.{HasNone, IsFirstIllAmong, IsIllFound, LacksMemory, TellsIll}
use Rattle.lrc_races_stream.specs.declared.answer.Stop.{Stop}
use Rattle.lrc_races_stream.specs.declared.answer.Stop.TheVariants.{Faulted, IllFormed, Past, Unread}
use Rattle.lrc_races_stream.proofs.Reached.{reached}

-- ---- events are on lines that were read

on_line : {form : Form} (number : ℕ) {lines : List (List ℕ)} {said : List Said} {naming : Naming} {events : List Event} → Say form number lines said
    → AreEvents naming said events → (k : ℕ) (event : Event) → slice_get events k ≡ Some event → event.line < number + length lines
on_line number no_line no_events k event e = let never : ⊥ = cc in absurd never
on_line number (blank_line {lines = lines} says rest) are k event e =
    let before = on_line (number + 1) rest are k event e in
    omega arith
on_line number (event_line {lines = lines} says rest) (event_more {event = first} is more) zero event e =
    let same : first ≡ event = cc in
    let here : event.line ≡ number = ap (λ (x : Event). x.line) (sym same) ∙ is.line in
    omega arith
on_line number (event_line {lines = lines} says rest) (event_more is more) (suc k) event e =
    let before = on_line (number + 1) rest more k event e in
    omega arith

pub ill_within : {form : Form} {lines : List (List ℕ)} {number : ℕ} {text : List ℕ} → IsFirstIllIn form lines number text → number ≤ length lines
ill_within {lines = lines} i =
    let first = i.first in
    let (k, lt, at, ill) = first.first in
    let within = on_line 1 i.says first.trace.numbered k first.fault.event at.is in
    let here = first.on_line in
    omega arith

-- ---- what is kept tells it

tells : (form : Form) (lines : List (List ℕ)) (said : List Said) (naming : Naming) (events : List Event) (ill : Option Ill) → Say form 1 lines said
    → IsTrace said naming events → IsFirstIllOf naming events ill → IsFirstIllAmong form lines ill
tells form lines said naming events None says trace (None, first, any) = record {
  said = said;
  says = says;
  well = record { naming = naming; events = events; trace = trace; none = first };
}
tells form lines said naming events None says trace (Some fault, first, any) = absurd any
tells form lines said naming events (Some ill) says trace (None, first, any) = absurd any
tells form lines said naming events (Some ill) says trace (Some fault, first, any) = record {
  said = said;
  says = says;
  first = record { naming = naming; events = events; fault = fault; trace = trace; first = first; on_line = any.0; why = any.1 };
}

pub kept_tells : (kept : Kept) (events : List Event) (result : Result (Option Ill) AllocError) → events ≡ kept.events.items
    → IfOk result (IsFirstIllOf (naming_of kept.names) events) → IfOk result (TellsIll (λ (sought : Sought). HasKept) kept)
kept_tells kept events (Err error) same finds = tt
kept_tells kept events (Ok ill) same finds = λ sought form lines h.
    tells form lines h.said (naming_of kept.names) kept.events.items ill h.says h.trace
    (subst (λ (es : List Event). IsFirstIllOf (naming_of kept.names) es ill) same finds)

pub located_tells : (located : Located) (fault : Option IllEvent) (result : Result (Option Ill) AllocError)
    → ((events : List Event) (n : ℕ) → HasLooked events n located.finder → IsFirstFault events n fault)
    → IfOk result (IsIllIfAny (naming_of located.names) fault) → IfOk result (TellsIll IsLocated located)
located_tells located fault (Err error) finds any = tt
located_tells located fault (Ok ill) finds any = λ sought form lines h.
    let k = h.kept in
    let looked = subst (λ (es : List Event). HasLooked es (length k.events) located.finder) (append-nil k.events) (k.looked []) in
    tells form lines h.said (naming_of located.names) k.events ill h.says (record { names = k.naming; numbered = k.are })
    (fault, finds k.events (length k.events) looked, any)

pub traced_tells : (traced : Traced) (events : List Event) (result : Result (Option Ill) AllocError) → events ≡ traced.events.items
    → IfOk result (IsFirstIllOf (naming_of traced.names) events) → IfOk result (TellsIll (λ (sought : Sought). HasTraced) traced)
traced_tells traced events (Err error) same finds = tt
traced_tells traced events (Ok ill) same finds = λ sought form lines h.
    tells form lines h.said (naming_of traced.names) traced.events.items ill h.says h.trace
    (subst (λ (es : List Event). IsFirstIllOf (naming_of traced.names) es ill) same finds)

-- ---- where strictness is asked for, or is not

pub lenient : {K : Type 0} (strict : Bool) (Has : Sought → Keeping K) (kept : K) → strict ≡ false → HasNone strict Has kept
lenient strict Has kept not sought form lines has is = let never : ⊥ = cc in absurd never

pub found_none : {K : Type 0} (strict : Bool) (Has : Sought → Keeping K) (kept : K) → TellsIll Has kept None → HasNone strict Has kept
found_none strict Has kept told sought form lines has is = told sought form lines has

pub found_ill : {K : Type 0} (strict : Bool) (Has : Sought → Keeping K) (kept : K) (ill : Ill) → strict ≡ true → TellsIll Has kept (Some ill)
    → IsIllFound strict Has kept (IllFormed ill)
found_ill strict Has kept ill is told = (is, told)

-- ---- where no more is read

module _ {K : Type 0} (strict : Bool) (Has : Sought → Keeping K) (sought : Sought) (form : Form) (last : ℕ) (held : Held) (kept : K) where
  found_halt : (lines : List (List ℕ)) (other : Stop) → AreFirst held lines → length lines ≤ last → Has sought form lines kept
      → IsIllFound strict Has kept other → IsHalt strict (Has sought) form last held kept other
  found_halt lines (Past line) first few has found = absurd found
  found_halt lines (Faulted (faults.BadEvent line why)) first few has found = absurd found
  found_halt lines (Faulted faults.NoMemory) first few has found = out_of_memory
  found_halt lines (IllFormed ill) first few has found = ill_formed lines found.0 first few has (found.1 sought form lines has)
  found_halt lines (Unread kind) first few has found = absurd found

  pub lacking_halt : (stop : Stop) → LacksMemory stop → IsHalt strict (Has sought) form last held kept stop
  lacking_halt (Past line) lacks = absurd lacks
  lacking_halt (Faulted (faults.BadEvent line why)) lacks = absurd lacks
  lacking_halt (Faulted faults.NoMemory) lacks = out_of_memory
  lacking_halt (IllFormed ill) lacks = absurd lacks
  lacking_halt (Unread kind) lacks = absurd lacks

  pub stop_halt : (stop : Stop) → IsStop (Has sought) form last held kept stop → HasNone strict Has kept
      → IsHalt strict (Has sought) form last held kept stop
  stop_halt stop is none = halted is (none sought form)

  pub ill_halt : (stop other : Stop) → IsStop (Has sought) form last held kept stop → (LacksMemory stop → ⊥) → IsIllFound strict Has kept other
      → IsHalt strict (Has sought) form last held kept other
  ill_halt stop other is some found =
      let r = reached (Has sought) form last held kept stop is some in
      found_halt r.lines other r.first r.few r.has_kept found

  pub come_well : HasCome (Has sought) form last held kept → HasNone strict Has kept → HasComeWell strict (Has sought) form last held kept
  come_well come none = (come, none sought form come.lines come.has_kept)

  pub come_ill : (other : Stop) → HasCome (Has sought) form last held kept → IsIllFound strict Has kept other
      → IsHalt strict (Has sought) form last held kept other
  come_ill other come found =
      let counted = come.counted in
      found_halt come.lines other come.first (omega arith) come.has_kept found
