use Rattle.std.proofs.Common.{◌≡◌, ◌∙◌, ◌++◌, ◌<◌, ◌-◌, [], ◌∷◌, ◌≤◌}
use Rattle.std.proofs.Common.{ℕ, false, List, Some, None, Result, Err, Ok, IsErrAnd, subst, suc, refl, arith, rules, sym, ap, map, length, get_or}
use Rattle.std.proofs.lemmas.List.{length_push}
use Rattle.std.proofs.lemmas.Option.{same_Some, slice_get-get_or, slice_get_past}
use Rattle.std.specs.Prelude.{slice_get}
use Rattle.std.specs.List.{list_any}
use Rattle.std.specs.Option.{option_to_list}
use Rattle.lrc_protocol.specs.Run.{EntryRecord}
use Rattle.lrc_node.specs.Logged.{TracedLog}
use Rattle.lrc_world.specs.declared.world.World.{World}
use Rattle.lrc_world.specs.declared.report.TurnFault.{TurnFault}
use Rattle.lrc_world.specs.declared.report.TurnFault.TheVariants.{NoMemory}
use Rattle.lrc_world.specs.World.{AddsTo, IsSendFault, NodeLogsLast, is_long, seen_flying, shown_new}
use Rattle.lrc_world.proofs.world.World.add_newest.Goals as goal

last_at : {X : Type 0} (xs : List X) (x : X) → slice_get (xs ++ x ∷ []) (length (xs ++ x ∷ []) - 1) ≡ Some x
last_at [] x = refl
last_at (y ∷ xs) x =
    let within : suc (length (xs ++ x ∷ [])) - 1 ≡ suc (length (xs ++ x ∷ []) - 1) = omega (arith, length_push xs x) in
    ap (slice_get (y ∷ xs ++ x ∷ [])) within ∙ last_at xs x

module _ (world : World) (n : ℕ) (entry : EntryRecord) (last : NodeLogsLast world n entry) where
  -- what stands last in the log that was read
  newest_at : (nodes : List TracedLog) (t : TracedLog) (log : List EntryRecord) → nodes ≡ world.nodes.items → n < length nodes → t ≡ get_or nodes n t
      → log ≡ t.logged.log → slice_get log (length log - 1) ≡ Some entry
  newest_at nodes t log are within at logs =
      let same : t ≡ last.0 =
      same_Some t last.0 (sym (slice_get-get_or nodes n t within ∙ ap Some (sym at)) ∙ ap (λ xs. slice_get xs n) are ∙ last.1) in
      ap (λ xs. slice_get xs (length xs - 1)) (logs ∙ ap (λ (t : TracedLog). t.logged.log) same ∙ last.3) ∙ last_at last.2 entry

  not_gone : length world.nodes.items ≤ n → ⊥
  not_gone past = let gone : Some last.0 ≡ None = sym last.1 ∙ slice_get_past world.nodes.items n past in cc

  not_none : (o : _) → None ≡ o → o ≡ Some entry → ⊥
  not_none o none some = let gone : None ≡ Some entry = none ∙ some in cc

  not_sent : (new : World) (result : Result (Unit {0}) TurnFault) (fault : TurnFault) → IsErrAnd result (λ f. f ≡ fault) → IsSendFault entry.turn.out fault
      → AddsTo world new n entry result
  not_sent new (Ok done) fault is why = absurd is
  not_sent new (Err f) fault is why = subst (IsSendFault entry.turn.out) (sym is) why

pub returns-in_default-clause-adds : goal.returns-in_default-clause-adds
returns-in_default-clause-adds c = λ entry last.
    let past : length c.args.self.now.nodes.items ≤ c.args.node = search rules in
    absurd (not_gone c.args.self.now c.args.node entry last past)

pub returns-in_default-last-clause-adds : goal.returns-in_default-last-clause-adds
returns-in_default-last-clause-adds c = λ entry last.
    absurd (not_none c.args.self.now c.args.node entry last _ c.in_default-last.ensures.value
    (newest_at c.args.self.now c.args.node entry last c.deref.result.now c.in-Some.logged.now c.log.result.now c.deref.ensures.value
    c.in-Some.ensures.lookup.3.0 c.in-Some.ensures.lookup.1 c.log.ensures))

pub returns-in_err-send-clause-adds : goal.returns-in_err-send-clause-adds
returns-in_err-send-clause-adds c = λ entry last.
    let read = c.in-Some-last.entry.now in
    let outs : c.deref-2.result.now ≡ read.turn.out = search rules in
    let same : read ≡ entry =
    same_Some read entry (c.in-Some-last.ensures.value
    ∙ newest_at c.args.self.now c.args.node entry last c.deref.result.now c.in-Some.logged.now c.log.result.now c.deref.ensures.value
    c.in-Some.ensures.lookup.3.0 c.in-Some.ensures.lookup.1 c.log.ensures) in
    not_sent c.args.self.now c.args.node entry last _ c.from_residual.result c.in_err-send.field-0.0 c.from_residual.ensures.1
    (subst (λ out. IsSendFault out c.in_err-send.field-0.0) (outs ∙ ap (λ (e : EntryRecord). e.turn.out) same) c.in_err-send.ensures.err)

pub returns-in_err-note-clause-adds : goal.returns-in_err-note-clause-adds
returns-in_err-note-clause-adds c = λ entry last.
    not_sent c.args.self.now c.args.node entry last _ c.from_residual-in_err-note.result NoMemory c.from_residual-in_err-note.ensures.1 tt

pub returns-clause-adds : goal.returns-clause-adds
returns-clause-adds c = λ entry last.
    let read = c.in-Some-last.entry.now in
    let sent : map seen_flying c.send.new.flight.items ≡ map seen_flying c.args.self.now.flight.items ++ map (shown_new read.stamp) read.turn.out =
    search rules in
    let noted : c.note.new.acts.items ≡ c.args.self.now.acts.items ++ option_to_list read.turn.act = search rules in
    let short : list_any is_long read.turn.out ≡ false = search rules in
    let same : read ≡ entry =
    same_Some read entry (c.in-Some-last.ensures.value
    ∙ newest_at c.args.self.now c.args.node entry last c.deref.result.now c.in-Some.logged.now c.log.result.now c.deref.ensures.value
    c.in-Some.ensures.lookup.3.0 c.in-Some.ensures.lookup.1 c.log.ensures) in
    record {
      keep = refl;
      nodes = c.trim.ensures;
      flight = sent ∙ ap (λ (e : EntryRecord). map seen_flying c.args.self.now.flight.items ++ map (shown_new e.stamp) e.turn.out) same;
      acts = noted ∙ ap (λ (e : EntryRecord). c.args.self.now.acts.items ++ option_to_list e.turn.act) same;
      short = ap (λ (e : EntryRecord). list_any is_long e.turn.out) (sym same) ∙ short;
    }
