use Rattle.std.proofs.Common.{◌≡◌, ◌<◌, ◌∙◌, Ok, length, get_or, ap, sym, subst, arith}
use Rattle.lrc_lock.specs.Lock.{manager_of}
use Rattle.lrc_lock.specs.Managed.{ManagedRecord, recent_asker, request_answer, managed_after}
use Rattle.lrc_lock.proofs.Kept.{stays_managed, asked_by, same_manager, of_a_managed}
use Rattle.lrc_lock.proofs.managed.Managed.request.Goals as goal

pub invariant_of-self : goal.invariant_of-self
invariant_of-self c =
    stays_managed c.self.inside.me c.self.inside.nodes c.self.inside.recent.items c.deref_mut.result.now c.from-place.result c.args.asker
    c.self.invariant c.deref_mut.ensures.value (omega (arith, c.requires.asker, ap (λ (m : ManagedRecord). m.nodes) c.self.view_is))

pub returns : goal.returns
returns c =
    let me = c.self.inside.me in
    let nodes = c.self.inside.nodes in
    let recent = c.self.inside.recent.items in
    let now = c.deref_mut.result.now in
    let same = c.deref_mut.ensures.value in
    let before = c.args.self.now in
    let lock = c.args.lock in
    let at = c.from-place.result in
    let mine : manager_of before.nodes lock ≡ before.me =
    subst (λ (m : ManagedRecord). manager_of m.nodes lock ≡ m.me) c.self.view_is c.if-lock-self.false in
    let step = sym (of_a_managed before lock c.args.asker mine) in
    let last : get_or c.deref.result.now at 0 ≡ recent_asker before lock =
    ap (λ l. get_or l at 0) c.deref.ensures.0 ∙ ap (λ n. get_or recent n 0) c.from-place.ensures
    ∙ ap (λ (m : ManagedRecord). recent_asker m lock) c.self.view_is in
    let within : at < length recent =
    omega (arith, c.from-place.ensures, ap (λ (m : ManagedRecord). length m.recent) c.self.view_is, c.requires.lock) in
    let below : get_or recent at 0 < nodes = c.self.invariant.askers at 0 within in
    record {
      answer = ap Ok last ∙ ap request_answer step;
      managed = asked_by me nodes recent now before at lock c.args.asker c.self.view_is same c.from-place.ensures ∙ ap (managed_after before) step;
      place = same_manager me nodes recent now before at c.args.asker c.self.view_is same;
      to = omega (arith, below, ap (λ l. get_or l at 0) c.deref.ensures.0, ap (λ (m : ManagedRecord). m.nodes) c.self.view_is);
    }
