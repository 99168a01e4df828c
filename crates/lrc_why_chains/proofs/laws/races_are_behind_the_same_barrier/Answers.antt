use Rattle.std.proofs.Common.{◌≡◌, ℕ, List, inl, inr, sym, ◌∙◌, ap}
use Rattle.std.specs.Prelude.{false}
use Rattle.lrc_trace.specs.declared.act.Act.{Act}
use Rattle.lrc_trace.specs.declared.act.Deed.{Deed}
use Rattle.lrc_trace.specs.declared.act.Deed.TheVariants.{Arrive, Read, Write}
use Rattle.lrc_trace.specs.Run.{Does, is_depart}
use Rattle.lrc_trace.specs.Conflict.{Accesses}
use Rattle.lrc_trace.proofs.Positions.{Does-one_deed}
use Rattle.lrc_why_chains.proofs.Barriers.{behind_one}
use Rattle.lrc_why_chains.proofs.laws.races_are_behind_the_same_barrier.Goals as goal

no_depart : {run : List Act} {i p q word : ℕ} {d : Deed} → Accesses run i p word → Does run i q d → is_depart d ≡ false
no_depart (inl (v, r)) does = ap is_depart (sym (Does-one_deed r does))
no_depart (inr (v, w)) does = ap is_depart (sym (Does-one_deed w does))

no_arrive : {run : List Act} {i p q word : ℕ} {d : Deed} → Accesses run i p word → Does run i q d → d ≡ Arrive → ⊥
no_arrive {word = word} (inl (v, r)) does e = let both : Read word v ≡ Arrive = Does-one_deed r does ∙ e in cc
no_arrive {word = word} (inr (v, w)) does e = let both : Write word v ≡ Arrive = Does-one_deed w does ∙ e in cc

pub returns : goal.returns
returns c nodes run sync waits i j p q a b race first second p_in q_in =
    let (x, y, word, conflict) = race.conflict in
    behind_one sync waits i j p q a b race.earlier p_in q_in first second (no_arrive conflict.first first) (no_depart conflict.first first)
    (no_depart conflict.second second) race.unordered
