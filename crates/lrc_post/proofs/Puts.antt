-- Parcels that are put one after the other, taken off the end of a list that was turned round.
use Rattle.std.proofs.Common.{◌≡◌, ℕ, ◌<◌, ◌≤◌, ◌∙◌, List, [], ◌∷◌, ◌++◌, reverse, map, sym, ap, subst, append_assoc}
use Rattle.std.specs.Prelude.{All}
use Rattle.std.proofs.lemmas.List.{append-nil, reverse-append, map-append}
use Rattle.std.proofs.lemmas.List.Elements.{All-head, All-tail}
use Rattle.lrc_post.specs.declared.fault.PostFault.{PostFault}
use Rattle.lrc_post.specs.declared.fault.PostFault.TheVariants.{Closed}
use Rattle.lrc_post.specs.declared.parcel.Parcel.{Parcel}
use Rattle.lrc_post.specs.Wires.{put_of}
use Rattle.lrc_post.specs.Mailbox.{MailboxRecord, with_puts}
use Rattle.lrc_post.specs.Post.{IsHandedBack}

-- the parcel taken off the end comes next
next_parcel : (all put left rest : List Parcel) (p : Parcel) → all ≡ put ++ reverse left → left ≡ rest ++ p ∷ []
    → all ≡ put ++ p ∷ reverse rest
next_parcel all put left rest p is popped =
    is ∙ ap (λ xs. put ++ reverse xs) popped ∙ ap (λ xs. put ++ xs) (reverse-append rest (p ∷ []))

-- what holds of all of two lists holds of the second
all_back : (P : Parcel → Type 0) (xs ys : List Parcel) → All P (xs ++ ys) → All P ys
all_back P [] ys each = each
all_back P (x ∷ xs) ys each = all_back P xs ys (All-tail P x (xs ++ ys) each)

-- it is for the owner, as all are
pub for_owner : (owner : ℕ) (all put left rest : List Parcel) (p : Parcel) → All (λ (x : Parcel). x.to ≡ owner) all
    → all ≡ put ++ reverse left → left ≡ rest ++ p ∷ [] → p.to ≡ owner
for_owner owner all put left rest p each is popped =
    let here : All (λ (x : Parcel). x.to ≡ owner) (put ++ p ∷ reverse rest) =
    subst (All (λ (x : Parcel). x.to ≡ owner)) (next_parcel all put left rest p is popped) each in
    All-head (λ (x : Parcel). x.to ≡ owner) p (reverse rest) (all_back (λ (x : Parcel). x.to ≡ owner) put (p ∷ reverse rest) here)

-- once it is put, those after it are left
pub one_more : (all put left rest : List Parcel) (p : Parcel) → all ≡ put ++ reverse left → left ≡ rest ++ p ∷ []
    → all ≡ (put ++ p ∷ []) ++ reverse rest
one_more all put left rest p is popped =
    next_parcel all put left rest p is popped ∙ sym (append_assoc put (p ∷ []) (reverse rest))

-- puts, and one put more
pub puts_more : (before between after : MailboxRecord) (from : ℕ) (put : List Parcel) (p : Parcel)
    → between ≡ with_puts before from put → after ≡ with_puts between from (p ∷ [])
    → after ≡ with_puts before from (put ++ p ∷ [])
puts_more before between after from put p first then_one =
    then_one ∙ ap (λ (m : MailboxRecord). with_puts m from (p ∷ [])) first
    ∙ ap (λ h. record before { history = h })
    (append_assoc before.history (map (put_of from) put) (put_of from p ∷ [])
    ∙ ap (λ h. before.history ++ h) (sym (map-append (put_of from) put (p ∷ []))))

-- once none is left, all were put, each for one of this many nodes
pub all_put : (nodes : ℕ) (all put left : List Parcel) → all ≡ put ++ reverse left → left ≡ []
    → All (λ (x : Parcel). x.to < nodes) put → All (λ (x : Parcel). x.to < nodes) all
all_put nodes all put left is none there =
    subst (All (λ (x : Parcel). x.to < nodes)) (sym (is ∙ ap (λ xs. put ++ reverse xs) none ∙ append-nil put)) there

-- the parcel taken off the end is refused, goes back to the end, and the list is turned round again
pub handed_back : (nodes : ℕ) (fault : PostFault) (all put left rest pushed back : List Parcel) (p refused : Parcel)
    → all ≡ put ++ reverse left → All (λ (x : Parcel). x.to < nodes) put → left ≡ rest ++ p ∷ []
    → refused ≡ p → pushed ≡ rest ++ refused ∷ [] → back ≡ reverse pushed → (nodes ≤ p.to → fault ≡ Closed)
    → IsHandedBack nodes fault all back
handed_back nodes fault all put left rest pushed back p refused is there popped same again turned nowhere =
    let is_back : back ≡ p ∷ reverse rest =
    turned ∙ ap reverse again ∙ reverse-append rest (refused ∷ []) ∙ ap (λ q. q ∷ reverse rest) same in
    record {
      put = put;
      refused = p;
      rest = reverse rest;
      handed_back = is_back;
      all = next_parcel all put left rest p is popped ∙ ap (λ xs. put ++ xs) (sym is_back);
      there = there;
      nowhere = nowhere;
    }
