use Rattle.std.proofs.Common.{◌≡◌, sym, subst, ◌∙◌}
use Rattle.std.specs.Prelude.{Some, slice_index_or, None}
use Rattle.std.proofs.lemmas.Option.{same_Some}
use Rattle.lrc_barrier.specs.Barrier.{ManagerRecord}
use Rattle.lrc_order_laws.specs.Barriers.{IsNewestTime}
use Rattle.lrc_order_laws.proofs.Timely.{Timely}
use Rattle.lrc_order_laws.proofs.AllTimely.{all_timely}
use Rattle.lrc_order_laws.proofs.barriers.times_of_barriers_are_right.Goals as goal

pub returns-clause-arrives : goal.returns-clause-arrives
returns-clause-arrives c = λ program nodes options events world e m l run there says at.
    (all_timely program nodes options events world run).sent e m l there says at

pub returns-clause-kept : goal.returns-clause-kept
returns-clause-kept c = λ program nodes options events world first manager n a l run at_first its there at.
    let h : Timely program nodes options world = all_timely program nodes options events world run in
    let same : manager ≡ h.stand.manager = same_Some manager h.stand.manager (sym its ∙ h.stand.here first at_first) in
    h.kept n a l (subst (λ (x : ManagerRecord). slice_index_or x.arrivals n None ≡ Some a) same there) at

pub returns-clause-departs : goal.returns-clause-departs
returns-clause-departs c = λ program nodes options events world first manager e m l run at_first its there says at.
    let h : Timely program nodes options world = all_timely program nodes options events world run in
    let same : manager ≡ h.stand.manager = same_Some manager h.stand.manager (sym its ∙ h.stand.here first at_first) in
    subst (λ (x : ManagerRecord). IsNewestTime nodes world.acts world.times x.done m.time) (sym same) (h.told e m l there says at)

pub returns-clause-collects : goal.returns-clause-collects
returns-clause-collects c = λ program nodes options events world first manager n l time run at_first its at in_it.
    let h : Timely program nodes options world = all_timely program nodes options events world run in
    let same : manager ≡ h.stand.manager = same_Some manager h.stand.manager (sym its ∙ h.stand.here first at_first) in
    subst (λ (x : ManagerRecord). IsNewestTime nodes world.acts world.times x.done time) (sym same) (h.learned n l time at in_it)

pub returns-clause-had : goal.returns-clause-had
returns-clause-had c = λ program nodes options events world n l k run at waits does count.
    (all_timely program nodes options events world run).had n l at waits k does count
