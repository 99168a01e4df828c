use Rattle.std.proofs.Common.{List, ℕ, subst, sym, take}
use Rattle.lrc_shell_sources.specs.Known.{IsReadOff}
use Rattle.lrc_races_stream.proofs.SeekerLemmas.{stopped_at, taken}
use Rattle.lrc_races_stream.proofs.seeker.Seeker.take.Goals as goal

pub returns-in-Ok-clause-goes : goal.returns-in-Ok-clause-goes
returns-in-Ok-clause-goes g c sought form last held left after u off =
    taken g.K.Keep.has_kept sought form last held left c.args.self.now.front u after _ _ c.in-Ok.come
    (subst (λ (bytes : List ℕ). IsReadOff left (take c.args.count bytes) after) (sym c.deref.ensures.value) off) c.in-Ok.ensures.ok

pub returns-in-Err-clause-stop : goal.returns-in-Err-clause-stop
returns-in-Err-clause-stop g c sought form last held left after u off =
    stopped_at g.K.Keep.has_kept sought form last held left c.args.self.now.front u after _ _ _
    (subst (λ (bytes : List ℕ). IsReadOff left (take c.args.count bytes) after) (sym c.deref.ensures.value) off) c.in-Err.ensures.bad
