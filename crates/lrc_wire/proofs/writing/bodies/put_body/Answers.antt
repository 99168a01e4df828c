use Rattle.std.proofs.Common.{◌++◌, arith}
use Rattle.std.specs.Int.{w16, w32}
use Rattle.std.proofs.lemmas.List.{length-append}
use Rattle.lrc_wire.specs.declared.version.Version.TheVariants.{Two}
use Rattle.lrc_wire.specs.Runs.{runs_of}
use Rattle.lrc_wire.specs.Spelling.{byte, number, flag, news, indices, parts}
use Rattle.lrc_wire.proofs.Lengths.{few_of_news, few_indices, few_parts}
use Rattle.lrc_wire.proofs.writing.bodies.put_body.Goals as goal

pub put_lock_grant-requires : goal.put_lock_grant-requires
put_lock_grant-requires c =
    let m = c.in-LockGrant.m in
    let short = rw c.in-LockGrant.is at c.requires in
    omega (arith, short, few_of_news m.time m.intervals, length-append (byte m.lock) (news m.time m.intervals))

pub put_arrive-requires : goal.put_arrive-requires
put_arrive-requires c =
    let m = c.in-Arrive.m in
    let short = rw c.in-Arrive.is at c.requires in
    omega (
      arith,
      short,
      few_of_news m.time m.intervals,
      length-append (number w32 m.episode) (flag m.ask
          ++ news m.time m.intervals),
      length-append (flag m.ask) (news m.time m.intervals),
    )

pub put_depart-requires : goal.put_depart-requires
put_depart-requires c =
    let m = c.in-Depart.m in
    let short = rw c.in-Depart.is at c.requires in
    omega (
      arith,
      short,
      few_of_news m.time m.intervals,
      length-append (number w32 m.episode) (flag m.collect
          ++ news m.time m.intervals),
      length-append (flag m.collect) (news m.time m.intervals),
    )

pub put_changes_request-requires : goal.put_changes_request-requires
put_changes_request-requires c =
    let m = c.in-ChangesRequest.m in
    let short = rw c.in-ChangesRequest.is at c.requires in
    omega (arith, short, few_indices m.indices, length-append (number w16 m.page) (indices m.indices))

pub put_changes_reply-requires : goal.put_changes_reply-requires
put_changes_reply-requires c =
    let m = c.in-ChangesReply.m in
    let short = rw c.in-ChangesReply.is at c.requires in
    omega (arith, short, few_parts m.parts, length-append (number w16 m.page) (parts Two runs_of m.parts))

pub returns-in-LockRequest : goal.returns-in-LockRequest
returns-in-LockRequest c = rw c.in-LockRequest.is c.put_lock_request.ensures

pub returns-in-LockForward : goal.returns-in-LockForward
returns-in-LockForward c = rw c.in-LockForward.is c.put_lock_forward.ensures

pub returns-in-LockGrant : goal.returns-in-LockGrant
returns-in-LockGrant c = rw c.in-LockGrant.is c.put_lock_grant.ensures

pub returns-in-Arrive : goal.returns-in-Arrive
returns-in-Arrive c = rw c.in-Arrive.is c.put_arrive.ensures

pub returns-in-Depart : goal.returns-in-Depart
returns-in-Depart c = rw c.in-Depart.is c.put_depart.ensures

pub returns-in-ChangesRequest : goal.returns-in-ChangesRequest
returns-in-ChangesRequest c = rw c.in-ChangesRequest.is c.put_changes_request.ensures

pub returns-in-ChangesReply : goal.returns-in-ChangesReply
returns-in-ChangesReply c = rw c.in-ChangesReply.is c.put_changes_reply.ensures

pub returns-in-PageReply : goal.returns-in-PageReply
returns-in-PageReply c = rw c.in-PageReply.is c.put_page_reply.ensures
