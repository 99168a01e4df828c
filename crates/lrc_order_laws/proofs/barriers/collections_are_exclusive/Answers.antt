use Rattle.std.proofs.Common.{◌≡◌, ◌+◌, sym, subst, ap, ◌∙◌}
use Rattle.std.specs.Prelude.{count_by}
use Rattle.std.proofs.lemmas.Option.{same_Some}
use Rattle.lrc_barrier.specs.Barrier.{ManagerRecord}
use Rattle.lrc_protocol.specs.Follows.{pending}
use Rattle.lrc_order_laws.specs.Counts.{is_inside}
use Rattle.lrc_order_laws.specs.Barriers.{arrive_from, discard_to, kept_of}
use Rattle.lrc_order_laws.proofs.Exclusive.{Exclusive, all_exclusive}
use Rattle.lrc_order_laws.proofs.barriers.collections_are_exclusive.Goals as goal

pub returns-clause-none : goal.returns-clause-none
returns-clause-none c = λ program nodes options events world first manager n l run at_first its none at.
    let h : Exclusive program nodes options world = all_exclusive program nodes options events world run in
    let same : manager ≡ h.timely.stand.manager = same_Some manager h.timely.stand.manager (sym its ∙ h.timely.stand.here first at_first) in
    h.free (sym (ap (λ (x : ManagerRecord). x.cleans) same) ∙ none) n l at

pub returns-clause-none_told : goal.returns-clause-none_told
returns-clause-none_told c = λ program nodes options events world first manager e m l run at_first its none there says at.
    let h : Exclusive program nodes options world = all_exclusive program nodes options events world run in
    let same : manager ≡ h.timely.stand.manager = same_Some manager h.timely.stand.manager (sym its ∙ h.timely.stand.here first at_first) in
    h.free_departs (sym (ap (λ (x : ManagerRecord). x.cleans) same) ∙ none) e m l there says at

pub returns-clause-one : goal.returns-clause-one
returns-clause-one c = λ program nodes options events world first manager cleans n l run at_first its one at.
    let h : Exclusive program nodes options world = all_exclusive program nodes options events world run in
    let same : manager ≡ h.timely.stand.manager = same_Some manager h.timely.stand.manager (sym its ∙ h.timely.stand.here first at_first) in
    subst (λ (x : ManagerRecord). (is_inside l.node.mail.wait ≡ 1) × (count_by (arrive_from n) (pending world) + kept_of x n ≡ 0)
    × (count_by (discard_to n) (pending world) ≡ 0)) (sym same)
    (h.busy cleans (sym (ap (λ (x : ManagerRecord). x.cleans) same) ∙ one) n l at)

pub returns-clause-one_told : goal.returns-clause-one_told
returns-clause-one_told c = λ program nodes options events world first manager cleans e m l run at_first its one there says at.
    let h : Exclusive program nodes options world = all_exclusive program nodes options events world run in
    let same : manager ≡ h.timely.stand.manager = same_Some manager h.timely.stand.manager (sym its ∙ h.timely.stand.here first at_first) in
    h.busy_departs cleans (sym (ap (λ (x : ManagerRecord). x.cleans) same) ∙ one) e m l there says at
