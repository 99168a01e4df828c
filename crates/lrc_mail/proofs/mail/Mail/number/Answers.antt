use Rattle.std.proofs.Common.{◌≡◌, ◌∙◌, ◌<◌, ℕ, List, Some, length, is_ok, sym, ap, subst, arith}
use Rattle.std.specs.Prelude.{All, Result, Ok, Err, OnErr}
use Rattle.std.proofs.lemmas.Bool.{true≢false}
use Rattle.std.proofs.lemmas.Result.{IfOk-from_err}
use Rattle.lrc_protocol.specs.Node.{Letter, Mail, numbered}
use Rattle.lrc_mail.specs.declared.fault.MailFault.TheVariants.{NoMemory, Worn}
use Rattle.lrc_mail.specs.Sent.{AreCounts}
use Rattle.lrc_mail.proofs.Numbering.{fault_is_worn}
use Rattle.lrc_mail.proofs.mail.Mail.number.Goals as goal

pub number_all-requires : goal.number_all-requires
number_all-requires c =
    let are : c.copy_from_slice.new.self ≡ c.self.inside.sent.items = c.copy_from_slice.ensures.after ∙ c.deref.ensures.value in
    let start : c.copy_from_slice.new.self ≡ c.args.self.now.sent = are ∙ ap (λ (mail : Mail). mail.sent) c.self.view_is in
    record {
      counts = subst AreCounts (sym are) c.self.invariant;
      empty = c.in_ok-out.ensures.empty;
      me = c.requires.me;
      to = subst (λ (sent : List ℕ). All (λ (letter : Letter). letter.to < length sent) c.args.letters.items) (sym start) c.requires.to;
    }

-- what holds in any case holds where there is an error
on_err : {T E P : Type 0} (r : Result T E) → P → OnErr r P
on_err (Ok x) holds = tt
on_err (Err x) holds = holds

pub returns-in_err-out : goal.returns-in_err-out
returns-in_err-out c =
    let result = c.from_residual.result in
    let same = c.list_for.ensures.same in
    record {
      numbers = IfOk-from_err result _ c.from_residual.ensures.0;
      after = IfOk-from_err result _ c.from_residual.ensures.0;
      worn = λ worn. let fault : NoMemory ≡ Worn = fault_is_worn result NoMemory c.from_residual.ensures.1 worn in cc;
      refused = on_err result same;
      lengths = (ap (λ (mail : Mail). length mail.sent) same, ap (λ (mail : Mail). length mail.taken) same);
    }

pub returns-in_err-out-2 : goal.returns-in_err-out-2
returns-in_err-out-2 c =
    let result = c.from_residual-in_err-out-2.result in
    let is_err = c.from_residual-in_err-out-2.ensures.0 in
    let same = c.list_for.ensures.same in
    let start : c.copy_from_slice.new.self ≡ c.args.self.now.sent =
    c.copy_from_slice.ensures.after ∙ c.deref.ensures.value ∙ ap (λ (mail : Mail). mail.sent) c.self.view_is in
    record {
      numbers = IfOk-from_err result _ is_err;
      after = IfOk-from_err result _ is_err;
      worn = λ worn.
          ap (λ (sent : List ℕ). numbered c.args.me c.args.first sent c.args.letters.items) (sym start)
          ∙ c.number_all.ensures.worn
          (c.in_err-out-2.was ∙ ap Err (fault_is_worn result c.in_err-out-2.field-0.0 c.from_residual-in_err-out-2.ensures.1 worn));
      refused = on_err result same;
      lengths = (ap (λ (mail : Mail). length mail.sent) same, ap (λ (mail : Mail). length mail.taken) same);
    }

pub returns : goal.returns
returns c =
    let me = c.args.me in
    let first = c.args.first in
    let letters = c.args.letters.items in
    let start : c.copy_from_slice.new.self ≡ c.args.self.now.sent =
    c.copy_from_slice.ensures.after ∙ c.deref.ensures.value ∙ ap (λ (mail : Mail). mail.sent) c.self.view_is in
    let same = c.self-2.view_is ∙ c.list_for.ensures.same in
    let as_many : length c.self-2.inside.sent.items ≡ length c.args.self.now.sent = ap (λ (mail : Mail). length mail.sent) same in
    record {
      numbers =
          ap (λ (sent : List ℕ). numbered me first sent letters) (sym start) ∙ c.in_ok-out-2.ensures.numbers
          ∙ ap (λ (sent : List ℕ). Some (c.in_ok-out-2.out.items, sent)) (sym c.copy_from_slice-2.ensures.items);
      after = ap (λ (mail : Mail). record mail { sent = c.copy_from_slice-2.new.self.items }) same;
      worn = λ worn. absurd (true≢false (ap is_ok worn));
      refused = tt;
      lengths = (
        omega (arith, c.copy_from_slice-2.ensures.len, as_many),
        ap (λ (mail : Mail). length mail.taken) same,
      );
    }
