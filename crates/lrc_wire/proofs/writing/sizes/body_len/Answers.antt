use Rattle.std.proofs.Common.{arith}
use Rattle.lrc_wire.proofs.Lengths.{length_behind_byte, length_behind_flag, length_behind_page}
use Rattle.lrc_wire.proofs.writing.sizes.body_len.Goals as goal

pub returns-in-LockGrant-clause-within : goal.returns-in-LockGrant-clause-within
returns-in-LockGrant-clause-within c = rw (c.in-LockGrant.is, ← c.m-in-LockGrant.view_is, length_behind_byte) c.news_len.ensures.within

pub returns-in-LockGrant-clause-over : goal.returns-in-LockGrant-clause-over
returns-in-LockGrant-clause-over c = rw (c.in-LockGrant.is, ← c.m-in-LockGrant.view_is, length_behind_byte) c.news_len.ensures.over

pub returns-in-Arrive-clause-within : goal.returns-in-Arrive-clause-within
returns-in-Arrive-clause-within c = rw (c.in-Arrive.is, ← c.m-in-Arrive.view_is, length_behind_flag) c.news_len-in-Arrive.ensures.within

pub returns-in-Arrive-clause-over : goal.returns-in-Arrive-clause-over
returns-in-Arrive-clause-over c = rw (c.in-Arrive.is, ← c.m-in-Arrive.view_is, length_behind_flag) c.news_len-in-Arrive.ensures.over

pub returns-in-Depart-clause-within : goal.returns-in-Depart-clause-within
returns-in-Depart-clause-within c = rw (c.in-Depart.is, ← c.m-in-Depart.view_is, length_behind_flag) c.news_len-in-Depart.ensures.within

pub returns-in-Depart-clause-over : goal.returns-in-Depart-clause-over
returns-in-Depart-clause-over c = rw (c.in-Depart.is, ← c.m-in-Depart.view_is, length_behind_flag) c.news_len-in-Depart.ensures.over

pub returns-in-ChangesRequest-clause-within : goal.returns-in-ChangesRequest-clause-within
returns-in-ChangesRequest-clause-within c = rw (c.in-ChangesRequest.is, ← c.m-in-ChangesRequest.view_is, length_behind_page) c.indices_len.ensures.within

pub returns-in-ChangesRequest-clause-over : goal.returns-in-ChangesRequest-clause-over
returns-in-ChangesRequest-clause-over c = rw (c.in-ChangesRequest.is, ← c.m-in-ChangesRequest.view_is, length_behind_page) c.indices_len.ensures.over

pub returns-in-ChangesReply-clause-within : goal.returns-in-ChangesReply-clause-within
returns-in-ChangesReply-clause-within c = rw (c.in-ChangesReply.is, ← c.m-in-ChangesReply.view_is, length_behind_page) c.parts_len.ensures.within

pub returns-in-ChangesReply-clause-over : goal.returns-in-ChangesReply-clause-over
returns-in-ChangesReply-clause-over c = rw (c.in-ChangesReply.is, ← c.m-in-ChangesReply.view_is, length_behind_page) c.parts_len.ensures.over

pub returns-in-LockRequest-clause-within : goal.returns-in-LockRequest-clause-within
returns-in-LockRequest-clause-within c = rw (c.in-LockRequest.is, ← c.m.view_is, length_behind_byte) (omega arith)

pub returns-in-LockForward-clause-within : goal.returns-in-LockForward-clause-within
returns-in-LockForward-clause-within c = rw (c.in-LockForward.is, ← c.m-in-LockForward.view_is, length_behind_byte, length_behind_byte) (omega arith)
