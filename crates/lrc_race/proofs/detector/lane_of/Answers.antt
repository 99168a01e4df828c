use Rattle.lrc_race.proofs.detector.lane_of.Goals as goal

pub without-requires : goal.without-requires
without-requires c = rw c.deref.ensures.value c.in_ok-read.ensures.sorted

pub returns : goal.returns
returns c = record {
  writes = c.in_ok-writes.ensures;
  reads_sorted = c.in_ok-reads.ensures.sorted;
  reads_sound = λ p there. (c.in_ok-read.ensures.exact p).0 (rw c.deref.ensures.value at (c.in_ok-reads.ensures.sound p there));
  reads_cover = λ p touched.
      rw c.deref-2.ensures.value at
      (c.in_ok-reads.ensures.cover p (rw c.deref.ensures.value ((c.in_ok-read.ensures.exact p).1 touched)));
}
