-- The sequential-consistency theorem, from lazy reading: every run without a race is one of the plain machine, every run is
-- plain up to its first race, and races belong to the program.
use Rattle.std.proofs.Common.{◌≡◌, ℕ}
use Rattle.std.specs.Prelude.{Some}
use Rattle.lrc_program.specs.declared.Program.{Program}
use Rattle.lrc_trace.specs.Conflict.{IsRaceFree, IsFirstRace}
use Rattle.lrc_trace.specs.Synchronization.{IsWellSynchronized}
use Rattle.lrc_exec.specs.Plain.{plain}
use Rattle.lrc_exec.specs.Follows.{nodes_of_acts, FollowsText}
use Rattle.lrc_consistency_laws.specs.Racing.{HasNoRace, PlainToRace}
use Rattle.lrc_consistency_laws.proofs.UpToRace.{without_race}
use Rattle.lrc_consistency_laws.proofs.Racing.{plain_to_race, race_free}
use Rattle.lrc_protocol.specs.Node.{OptionsRecord}
use Rattle.lrc_protocol.specs.Run.{World}
use Rattle.lrc_protocol.proofs.Texts.{text}
use Rattle.lrc_order_laws.proofs.Timed.{synchronized}
use Rattle.lrc_order_laws.proofs.Reached.{IsReached}
use Rattle.lrc_reading_laws.proofs.Laws.{ReadsLaw}

module _ (program : Program) (nodes : ℕ) (options : OptionsRecord) (reads : ReadsLaw program nodes options) (world : World)
    (r : IsReached program nodes options world) where
  follows : FollowsText program nodes world.acts
  follows = text program nodes options r.events world r.runs

  in_order : IsWellSynchronized nodes world.acts
  in_order = synchronized program nodes options r.events world r.runs

  pub is_plain : IsRaceFree world.acts → plain program nodes (nodes_of_acts world.acts) ≡ Some world.acts
  is_plain free = without_race program nodes world.acts follows in_order (reads world r) free

  pub is_plain_to_race : (position : ℕ) → IsFirstRace world.acts position → PlainToRace program nodes world.acts position
  is_plain_to_race position first = plain_to_race program nodes world.acts follows in_order (reads world r) position first.least

  pub is_race_free : HasNoRace program nodes → IsRaceFree world.acts
  is_race_free none = race_free program nodes world.acts follows in_order (reads world r) none
