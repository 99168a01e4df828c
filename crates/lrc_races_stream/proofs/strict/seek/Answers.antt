-- The last line that is wanted has come, or why it has not.
use Rattle.std.specs.Prelude.{ℕ}
use Rattle.std.proofs.lemmas.Result.{IfErr-weaker, on_ok_weaker}
use Rattle.lrc_races_text.specs.declared.asked.Sought.{Sought}
use Rattle.lrc_races_text.specs.declared.form.Form.{Form}
use Rattle.lrc_races_notes.specs.Noting.{HasBoth}
use Rattle.lrc_shell_sources.specs.Known.{Held}
use Rattle.lrc_races_stream.specs.Reach.{IsSeeking}
use Rattle.lrc_races_stream.specs.Strict.{HasNone, IsIllFound}
use Rattle.lrc_races_stream.proofs.NotedLemmas.{kept_come, known_found}
use Rattle.lrc_races_stream.proofs.StrictLemmas.{come_ill, come_well}
use Rattle.lrc_races_stream.proofs.strict.seek.Goals as goal

pub returns-in-Ok-clause-come : goal.returns-in-Ok-clause-come
returns-in-Ok-clause-come g c =
    let noting = c.seek.new.self.front.kept in
    on_ok_weaker c.heed.result (λ (none : HasNone c.args.strict g.K.Keep.has_kept noting.kept). λ (sought : Sought) (form : Form) (last : ℕ) (held : Held)
    (u : IsSeeking (HasBoth g.K.Keep.has_kept sought) form last held (g.B.Blocks.left c.args.trace.now) c.args.seeker.now.front).
    come_well c.args.strict g.K.Keep.has_kept sought form last held noting.kept
    (kept_come g.K.Keep.has_kept sought form last noting (c.in-Ok.ensures.come sought form last held u)) none) c.heed.ensures.none

pub returns-in-Ok-clause-known : goal.returns-in-Ok-clause-known
returns-in-Ok-clause-known g c =
    let noting = c.seek.new.self.front.kept in
    on_ok_weaker c.heed.result (λ (none : HasNone c.args.strict g.K.Keep.has_kept noting.kept). λ (sought : Sought) (form : Form) (last : ℕ) (held : Held)
    (u : IsSeeking (HasBoth g.K.Keep.has_kept sought) form last held (g.B.Blocks.left c.args.trace.now) c.args.seeker.now.front).
    let h = c.in-Ok.ensures.come sought form last held u in
    record { lines = h.lines; first = h.first; meant = h.counted; so = h.has_kept.1 }) c.heed.ensures.none

pub returns-in-Ok-clause-halt : goal.returns-in-Ok-clause-halt
returns-in-Ok-clause-halt g c =
    let noting = c.seek.new.self.front.kept in
    IfErr-weaker c.heed.result (IsIllFound c.args.strict g.K.Keep.has_kept noting.kept) _ (λ stop found sought form last held u.
    come_ill c.args.strict g.K.Keep.has_kept sought form last held noting.kept stop
    (kept_come g.K.Keep.has_kept sought form last noting (c.in-Ok.ensures.come sought form last held u)) found) c.heed.ensures.ill

pub returns-in-Ok-clause-known_halt : goal.returns-in-Ok-clause-known_halt
returns-in-Ok-clause-known_halt g c =
    let noting = c.seek.new.self.front.kept in
    IfErr-weaker c.heed.result (IsIllFound c.args.strict g.K.Keep.has_kept noting.kept) _ (λ stop found sought form last held u.
    let h = c.in-Ok.ensures.come sought form last held u in
    known_found g.K.Keep.has_kept sought form last noting c.args.strict h.lines stop h.first h.has_kept found) c.heed.ensures.ill

pub returns-in-Err-clause-halt : goal.returns-in-Err-clause-halt
returns-in-Err-clause-halt g c sought form last held u = c.heed_stop.ensures.halt sought form last held (c.in-Err.ensures.stop sought form last held u)

pub returns-in-Err-clause-known_halt : goal.returns-in-Err-clause-known_halt
returns-in-Err-clause-known_halt g c sought form last held u =
    c.heed_stop.ensures.known sought form last held (c.in-Err.ensures.stop sought form last held u)
