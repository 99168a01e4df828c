use Rattle.lrc_races_why.proofs.onward.Onward.note.Goals as goal

pub returns : goal.returns
returns c = λ events to n here e g old. record {
  threads = c.in_ok-note_thread.ensures events to n here g old.threads;
  locks = c.in_ok-note_lock.ensures events to n here g old.locks;
  joins = c.in_ok-note_join.ensures events to n here g old.joins;
  departs = c.in_ok-note_depart.ensures events to n here e g old.departs;
}
