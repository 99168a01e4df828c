-- A list of mailboxes, and one mailbox more.
use Rattle.std.proofs.Common.{◌≡◌, ℕ, ◌+◌, ◌<◌, ◌∙◌, List, [], ◌∷◌, ◌++◌, length, sym, ap, subst, ⊎_elim, arith, length-append}
use Rattle.std.specs.Prelude.{slice_get}
use Rattle.std.proofs.lemmas.Bool.{cases_eq}
use Rattle.std.proofs.lemmas.List.Elements.{All-push}
use Rattle.std.proofs.lemmas.Option.{slice_get_within, same_Some}
use Rattle.lrc_envelope.specs.declared.picker.Picker.{Picker}
use Rattle.lrc_post.specs.Wires.{IsLegal, IsTakenBy}
use Rattle.lrc_post.specs.Mailbox.{MailboxRecord}
use Rattle.lrc_post.specs.Post.{AreWires, AreOf}
use Rattle.lrc_post.proofs.Histories.{get_front, get_last}

-- no mailboxes
pub no_wires : AreWires []
no_wires place mailbox at = absurd (omega (arith, slice_get_within [] place mailbox at))

-- the mailbox of the next node more
pub wires_more : (mailboxes : List MailboxRecord) (more : MailboxRecord) → AreWires mailboxes → more.owner ≡ length mailboxes
    → IsLegal more.owner more.history → IsTakenBy more.picker more.history → AreWires (mailboxes ++ more ∷ [])
wires_more mailboxes more before owner legal taken_so place mailbox at =
    let within : place < length mailboxes + 1 =
    omega (arith, slice_get_within (mailboxes ++ more ∷ []) place mailbox at, length-append mailboxes (more ∷ [])) in
    ⊎_elim
    (λ (here : place ≡ length mailboxes).
    let same : more ≡ mailbox =
    same_Some more mailbox (sym (get_last mailboxes more) ∙ ap (slice_get (mailboxes ++ more ∷ [])) (sym here) ∙ at) in
    subst (λ (m : MailboxRecord). (m.owner ≡ place) × IsLegal m.owner m.history × IsTakenBy m.picker m.history) same (owner ∙ sym here, legal, taken_so))
    (λ (other : place ≡ length mailboxes → ⊥).
    let below : place < length mailboxes = omega (arith, within, other) in
    before place mailbox (sym (get_front mailboxes more place below) ∙ at))
    (cases_eq place (length mailboxes))

-- the same, with the lists that a push takes and leaves
pub wires_push : (n : ℕ) (before after : List MailboxRecord) (more : MailboxRecord) → after ≡ before ++ more ∷ [] → length before ≡ n
    → AreWires before → more.owner ≡ n → IsLegal more.owner more.history → IsTakenBy more.picker more.history
    → (length after ≡ n + 1) × AreWires after
wires_push n before after more is count kept owner legal taken_so = (
  omega (arith, ap length is, length-append before (more ∷ []), count),
  subst AreWires (sym is) (wires_more before more kept (owner ∙ sym count) legal taken_so),
)

-- one more of the same picker
of_more : (picker : Picker) (mailboxes : List MailboxRecord) (more : MailboxRecord) → AreOf picker mailboxes → more.picker ≡ picker
    → AreOf picker (mailboxes ++ more ∷ [])
of_more picker mailboxes more before is = All-push (λ (m : MailboxRecord). m.picker ≡ picker) mailboxes more before is

pub of_push : {picker : Picker} (before after : List MailboxRecord) (more : MailboxRecord) → after ≡ before ++ more ∷ []
    → AreOf picker before → more.picker ≡ picker → AreOf picker after
of_push {picker = picker} before after more is kept same = subst (AreOf picker) (sym is) (of_more picker before more kept same)
