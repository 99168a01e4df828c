-- What is known of what is to be noted, where lines answer.
use Rattle.std.proofs.Common.{◌≡◌, ℕ, ◌<◌, List, length, inl, inr, arith}
use Rattle.lrc_races_trace.specs.declared.event.Event.{Event}
use Rattle.lrc_races_text.specs.declared.asked.Layout.{Layout}
use Rattle.lrc_races_text.specs.declared.asked.Sought.{Sought}
use Rattle.lrc_races_text.specs.declared.form.Form.{Form}
use Rattle.lrc_races_front.specs.declared.kept.Kept.{Kept}
use Rattle.lrc_races_locations.specs.declared.located.Located.{Located}
use Rattle.lrc_races_notes.specs.Noter.{HasNoted}
use Rattle.lrc_races_notes.specs.declared.noter.Noter.{Noter}
use Rattle.lrc_races_score.specs.declared.report.LinedClaim.{LinedClaim}
use Rattle.lrc_races_scored.specs.declared.traced.Traced.{Traced}
use Rattle.lrc_shell_sources.specs.Known.{Held}
use Rattle.lrc_races_stream.specs.Reach.{most_lines}
use Rattle.lrc_races_stream.specs.Locations.{IsReported}
use Rattle.lrc_races_stream.specs.Locations as located
use Rattle.lrc_races_stream.specs.Noted.{IsKnown, IsKnownAt, IsOf}
use Rattle.lrc_races_stream.specs.Score.{IsScored}
use Rattle.lrc_races_stream.specs.Score as scores
use Rattle.lrc_races_stream.specs.Why.{IsExplained, IsStopAnswered}
use Rattle.lrc_races_stream.specs.Why as whys
use Rattle.lrc_races_stream.specs.Witness.{IsAnswered}
use Rattle.lrc_races_stream.specs.Witness as witnesses
use Rattle.lrc_races_stream.specs.declared.answer.Answer.{Answer}
use Rattle.lrc_races_stream.specs.declared.answer.Stop.{Stop}
use Rattle.lrc_races_stream.specs.declared.answer.Stop.TheVariants.{Past}
use Rattle.lrc_races_stream.proofs.NotedLemmas.{known_behind}

module _ (form : Form) (held : Held) (noter : Noter) where
  pub known_explained : {kept : Kept} {first second : ℕ} {answer : Answer} → first < second → IsExplained form kept first second answer
      → IsOf held (λ lines. length lines ≡ second) (λ lines. HasNoted form lines noter) → IsKnown form held second noter answer
  known_explained less (whys.explained a) k = record { lines = k.lines; first = k.first; meant = inl k.meant; so = k.so }
  known_explained less (whys.first_none n) k =
      let e = k.meant in
      record { lines = k.lines; first = k.first; meant = omega arith; so = k.so }
  known_explained less (whys.second_none e n) k =
      let counted = k.meant in
      record { lines = k.lines; first = k.first; meant = omega arith; so = k.so }
  known_explained less whys.lacking k = tt

  pub known_stopped : (last : ℕ) {events : List Event} {first : ℕ} {stop : Stop} {answer : Answer} → IsStopAnswered events first stop answer
      → IsKnownAt form held noter stop → IsKnown form held last noter answer
  known_stopped last {first = first} {stop = stop} (whys.none behind lacks) k = known_behind form held noter first stop behind k
  known_stopped last (whys.why has) k = k

  pub known_answered : {kept : Kept} {first second : ℕ} {answer : Answer} → IsAnswered kept first second answer
      → IsOf held (λ lines. length lines ≡ second) (λ lines. HasNoted form lines noter) → IsKnown form held second noter answer
  known_answered (witnesses.answered a) k = record { lines = k.lines; first = k.first; meant = inl k.meant; so = k.so }
  known_answered witnesses.lacking k = tt

  pub known_reported : {layout : Layout} {kept : Located} {count : ℕ} {answer : Answer} → IsReported form layout kept answer
      → IsKnownAt form held noter (Past count) → IsKnown form held most_lines noter answer
  known_reported (located.reported a) k = record { lines = k.lines; first = k.first; meant = inr k.meant.0; so = k.so }
  known_reported located.lacking k = tt

  pub known_scored : {sought : Sought} {claims : List LinedClaim} {kept : Traced} {count : ℕ} {answer : Answer} → IsScored sought claims kept count answer
      → IsKnownAt form held noter (Past count) → IsKnown form held most_lines noter answer
  known_scored (scores.scored a) k = record { lines = k.lines; first = k.first; meant = inr k.meant.0; so = k.so }
  known_scored scores.lacking k = tt
