use Rattle.lrc_races_why.proofs.Gating.{threads_noted}
use Rattle.lrc_races_why.proofs.onward.note_thread.Goals as goal

pub returns : goal.returns
returns c = λ events to n here g old. threads_noted events to n c.args.event here c.args.start g c.args.threads.now.items c.gain.new.row.items c.in_ok-gain.ensures old
