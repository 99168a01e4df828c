use Rattle.std.proofs.Common.{◌≡◌, ◌∙◌, ◌&&◌, [], refl, ap, length, sym, subst}
use Rattle.std.proofs.lemmas.List.{length-map, get_or_default}
use Rattle.lrc_table.specs.PageCopy.{PageCopy, without_twin, dropped, fresh}
use Rattle.lrc_table.specs.Table.{Table}
use Rattle.lrc_memory.specs.Notes.{keepers_of}
use Rattle.lrc_memory.specs.View.{Kept, NodeMemory, IsKept, SameMemory, node_seen}
use Rattle.lrc_memory.proofs.Inside.{kept}
use Rattle.lrc_memory.proofs.Noting.{long-keepers}
use Rattle.lrc_memory.proofs.Discards.{collected, collected-is, not-written, length-swept, kept-collected, seen-collected, same-seen}
use Rattle.lrc_memory.proofs.memory.Memory.collect.Goals as goal

pub is_last-in_step-requires : goal.is_last-in_step-requires
is_last-in_step-requires c = c.requires.time ∙ sym (ap (λ (n : NodeMemory). length n.memory.store.last) c.self.view_is)

pub discard-requires : goal.discard-requires
discard-requires c = c.requires.time ∙ sym (ap (λ (n : NodeMemory). length n.memory.store.last) c.self.view_is)

pub drop_twins-requires : goal.drop_twins-requires
drop_twins-requires c = λ k d within written.
    not-written (kept c.self.inside) _ c.self.view_is c.requires.closed k
    (ap (λ (c : PageCopy). c.state) (get_or_default c.self.inside.table.copies k (fresh []) d within) ∙ written)

pub drop_bases-requires : goal.drop_bases-requires
drop_bases-requires c =
    ap length c.deref.ensures.value ∙ sym (long-keepers c.self.inside.notes.items) ∙ c.self.invariant.keepers
    ∙ sym (ap (λ (t : Table). length t.copies) c.drop_invalid.ensures ∙ length-map c.drop_twins.new.self.copies dropped
    ∙ ap (λ (t : Table). length t.copies) c.drop_twins.ensures ∙ length-map c.self.inside.table.copies without_twin)

done : (c : goal.After-self-2-1)
    → record (kept c.self.inside) {
      store = c.discard.new.self;
      table = c.drop_bases.new.table;
      collected =
          c.copy-self-inside.result;
      in_step = c.self.inside.in_step && c.is_last-in_step.result;
    }
    ≡ collected (kept c.self.inside) c.args.time.now (c.self.inside.in_step && c.is_last-in_step.result)
done c =
    collected-is (kept c.self.inside) c.args.time.now c.copy-self-inside.result (keepers_of c.deref.result.now)
    (c.self.inside.in_step && c.is_last-in_step.result) c.discard.new.self c.drop_twins.new.self
    c.drop_invalid.new.self c.drop_bases.new.table c.discard.ensures c.drop_twins.ensures c.drop_invalid.ensures (ap keepers_of c.deref.ensures.value)
    c.drop_bases.ensures c.copy-self-inside.ensures

pub invariant_of-self : goal.invariant_of-self
invariant_of-self c =
    subst IsKept (sym (done c))
    (kept-collected (kept c.self.inside) c.args.time.now c.is_last-in_step.result c.self.invariant
    (c.requires.time ∙ sym (ap (λ (n : NodeMemory). length n.memory.store.last) c.self.view_is)) c.is_last-in_step.ensures.0)

pub returns-clause-collected : goal.returns-clause-collected
returns-clause-collected c =
    ap node_seen (done c)
    ∙ seen-collected (kept c.self.inside) _ c.args.time.now (c.self.inside.in_step && c.is_last-in_step.result) c.self.view_is
    c.self.invariant c.requires.closed c.requires.own

pub returns-clause-same : goal.returns-clause-same
returns-clause-same c =
    subst (λ (k : Kept). SameMemory c.args.self.now (node_seen k)) (sym (done c))
    (same-seen (kept c.self.inside) (collected (kept c.self.inside) c.args.time.now
    (c.self.inside.in_step && c.is_last-in_step.result)) _ c.self.view_is refl refl
    (length-swept (kept c.self.inside)) refl)
