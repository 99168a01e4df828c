use Rattle.std.proofs.Common.{◌≡◌, ◌≤◌, ◌+◌, take}
use Rattle.lrc_text.specs.Each.{each}
use Rattle.lrc_bytes_turns.specs.Seen.{Sees}
use Rattle.lrc_bytes_turns.specs.Turns.{shown_line}
use Rattle.lrc_bytes_turns.proofs.section.bytes_part.Given as goal

-- the turns so far are told, and known
abbrev pub invariant-loop-place : goal.invariant-loop-place
invariant-loop-place l = record {
  text : l.text.items
      ≡ each (λ place turn. shown_line l.section.from l.section.to l.section.events.now (take place l.turns) (take (place + 1) l.turns) place turn)
      (take l.place l.turns);
  sees : Sees (take l.place l.turns) l.seen;
  few : l.seen.acts ≤ l.place;
}
