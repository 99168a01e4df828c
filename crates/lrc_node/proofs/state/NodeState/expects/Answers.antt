-- Each kind is expected where its conditions hold.
use Rattle.std.proofs.Common.{sym, ap, ◌∙◌}
use Rattle.lrc_envelope.specs.declared.message.Message.TheVariants.{LockRequest, LockForward, LockGrant, Arrive, Depart, Clean, Discard}
use Rattle.lrc_envelope.specs.declared.message.Message.TheVariants.{ChangesRequest, ChangesReply, PageRequest, PageReply}
use Rattle.lrc_protocol.specs.Follows.{is_expected}
use Rattle.lrc_protocol.proofs.Expecting.{conditions}
use Rattle.lrc_node.proofs.state.NodeState.expects.Goals as goal

pub returns-in-LockRequest : goal.returns-in-LockRequest
returns-in-LockRequest c =
    c.expects_request.ensures ∙ sym (conditions c.args.self.now c.args.from (LockRequest _)) ∙ ap (is_expected c.args.self.now c.args.from) (sym c.in-LockRequest.is)

pub returns-in-LockForward : goal.returns-in-LockForward
returns-in-LockForward c =
    c.expects_forward.ensures ∙ sym (conditions c.args.self.now c.args.from (LockForward _)) ∙ ap (is_expected c.args.self.now c.args.from) (sym c.in-LockForward.is)

pub returns-in-LockGrant : goal.returns-in-LockGrant
returns-in-LockGrant c =
    c.expects_grant.ensures ∙ sym (conditions c.args.self.now c.args.from (LockGrant _)) ∙ ap (is_expected c.args.self.now c.args.from) (sym c.in-LockGrant.is)

pub returns-in-Arrive : goal.returns-in-Arrive
returns-in-Arrive c =
    c.expects_arrival.ensures ∙ sym (conditions c.args.self.now c.args.from (Arrive _)) ∙ ap (is_expected c.args.self.now c.args.from) (sym c.in-Arrive.is)

pub returns-in-Depart : goal.returns-in-Depart
returns-in-Depart c =
    c.expects_departure.ensures ∙ sym (conditions c.args.self.now c.args.from (Depart _)) ∙ ap (is_expected c.args.self.now c.args.from) (sym c.in-Depart.is)

pub returns-in-Clean : goal.returns-in-Clean
returns-in-Clean c =
    c.expects_clean.ensures ∙ sym (conditions c.args.self.now c.args.from (Clean _)) ∙ ap (is_expected c.args.self.now c.args.from) (sym c.in-Clean.is)

pub returns-in-Discard : goal.returns-in-Discard
returns-in-Discard c =
    c.expects_discard.ensures ∙ sym (conditions c.args.self.now c.args.from (Discard _)) ∙ ap (is_expected c.args.self.now c.args.from) (sym c.in-Discard.is)

pub returns-in-ChangesRequest : goal.returns-in-ChangesRequest
returns-in-ChangesRequest c =
    c.expects_changes_request.ensures ∙ sym (conditions c.args.self.now c.args.from (ChangesRequest _)) ∙ ap (is_expected c.args.self.now c.args.from) (sym c.in-ChangesRequest.is)

pub returns-in-ChangesReply : goal.returns-in-ChangesReply
returns-in-ChangesReply c =
    c.expects_changes.ensures ∙ sym (conditions c.args.self.now c.args.from (ChangesReply c.in-ChangesReply.m)) ∙ ap (is_expected c.args.self.now c.args.from) (sym c.in-ChangesReply.is)

pub returns-in-PageRequest : goal.returns-in-PageRequest
returns-in-PageRequest c =
    c.expects_page_request.ensures ∙ sym (conditions c.args.self.now c.args.from (PageRequest _)) ∙ ap (is_expected c.args.self.now c.args.from) (sym c.in-PageRequest.is)

pub returns-in-PageReply : goal.returns-in-PageReply
returns-in-PageReply c =
    c.expects_page.ensures ∙ sym (conditions c.args.self.now c.args.from (PageReply _)) ∙ ap (is_expected c.args.self.now c.args.from) (sym c.in-PageReply.is)
