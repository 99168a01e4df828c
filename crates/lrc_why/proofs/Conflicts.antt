-- Accesses that conflict, by a test of two acts.
use Rattle.std.proofs.Common.{◌≡◌, ℕ, ◌<◌, ◌⊎◌, ◌∙◌, inl, inr, List, get_or, length, refl, sym, subst, ap}
use Rattle.std.specs.Prelude.{Bool, true, false, ◌&&◌, ◌||◌, Option, Some, None, MatchBool}
use Rattle.std.proofs.lemmas.Bool.{eqb-true, eq-eqb, not-true, not_from_false, false_from_ne_true, false≢true}
use Rattle.std.proofs.lemmas.Option.{same_Some}
use Rattle.lrc_trace.specs.declared.act.Act.{Act}
use Rattle.lrc_trace.specs.declared.act.Deed.{Deed}
use Rattle.lrc_trace.specs.declared.act.Deed.TheVariants.{Read, Write}
use Rattle.lrc_trace.specs.Conflict.{Accesses, Conflict, Writes}
use Rattle.lrc_trace.specs.Run.{Does}
use Rattle.lrc_trace.proofs.Positions.{Does-read, Does-deed, Does-one_node, Does-one_deed}
use Rattle.lrc_why.specs.Deeds.{conflicts, is_write, same_word, word_accessed}
use Rattle.lrc_why.specs.Positions.{IsRacing}

both : (a b : Bool) → (a && b) ≡ true → (a ≡ true) × (b ≡ true)
both true b h = (refl, h)
both false b h = absurd (false≢true h)

either : (a b : Bool) → (a || b) ≡ true → (a ≡ true) ⊎ (b ≡ true)
either true b h = inl refl
either false b h = inr h

all_true : (a b c : Bool) → a ≡ true → b ≡ true → c ≡ true → (a && (b && c)) ≡ true
all_true a b c e f g = rw (e, f) g

left_true : (a b : Bool) → a ≡ true → (a || b) ≡ true
left_true a b e = rw e refl

right_true : (a b : Bool) → b ≡ true → (a || b) ≡ true
right_true true b e = refl
right_true false b e = e

accesses_word : (run : List Act) (i p : ℕ) (d : Deed) (w : ℕ) → word_accessed d ≡ Some w → Does run i p d → Accesses run i p w
accesses_word run i p (Read word v) w e does = inl (v, Does-deed (ap (λ (x : ℕ). Read x v) (same_Some word w e)) does)
accesses_word run i p (Write word v) w e does = inr (v, Does-deed (ap (λ (x : ℕ). Write x v) (same_Some word w e)) does)
accesses_word run i p _ w e does = cc

writes_word : (run : List Act) (i p : ℕ) (d : Deed) (w : ℕ) → is_write d ≡ true → word_accessed d ≡ Some w → Does run i p d → Writes run i p w
writes_word run i p (Write word v) w t e does = (v, Does-deed (ap (λ (x : ℕ). Write x v) (same_Some word w e)) does)
writes_word run i p _ w t e does = absurd (false≢true t)

same : (o u : Option ℕ) → same_word o u ≡ true → (w : ℕ) × (o ≡ Some w) × (u ≡ Some w)
same (Some v) (Some w) t = (w, ap (λ (x : ℕ). Some x) (eqb-true v w t), refl)
same (Some v) None t = absurd (false≢true t)
same None u t = absurd (false≢true t)

same_some : (o u : Option ℕ) (w : ℕ) → o ≡ Some w → u ≡ Some w → same_word o u ≡ true
same_some o u w e f = rw (e, f) (eq-eqb w w refl)

conflicting : (run : List Act) (i j : ℕ) (one other : Act) → Does run i one.node one.deed → Does run j other.node other.deed
    → conflicts one other ≡ true → Conflict run i j
conflicting run i j one other first second h =
    let (apart, rest) = both _ _ h in
    let (words, some) = both _ _ rest in
    let (w, v, u) = same _ _ words in (
      one.node,
      other.node,
      w,
      record {
        apart = λ e. false≢true (sym (not-true _ apart) ∙ eq-eqb one.node other.node e);
        first = accesses_word run i one.node one.deed w v first;
        second = accesses_word run j other.node other.deed w u second;
        writes = elim (either _ _ some) [
          | inl t ↦ inl (writes_word run i one.node one.deed w t v first)
          | inr t ↦ inr (writes_word run j other.node other.deed w t u second)
        ];
      },
    )

access_is : (run : List Act) (i p q w : ℕ) (d : Deed) → Accesses run i p w → Does run i q d → (p ≡ q) × (word_accessed d ≡ Some w)
access_is run i p q w d (inl (v, there)) here = (Does-one_node there here, ap word_accessed (sym (Does-one_deed there here)))
access_is run i p q w d (inr (v, there)) here = (Does-one_node there here, ap word_accessed (sym (Does-one_deed there here)))

write_is : (run : List Act) (i p q w : ℕ) (d : Deed) → Writes run i p w → Does run i q d → is_write d ≡ true
write_is run i p q w d (v, there) here = ap is_write (sym (Does-one_deed there here))

conflict_tests : (run : List Act) (i j : ℕ) (one other : Act) → Does run i one.node one.deed → Does run j other.node other.deed
    → Conflict run i j → conflicts one other ≡ true
conflict_tests run i j one other first second (p, q, w, at) =
    let (e, v) = access_is run i p one.node w one.deed at.first first in
    let (f, u) = access_is run j q other.node w other.deed at.second second in
    all_true _ _ _ (not_from_false _ (false_from_ne_true _ (λ t. at.apart (e ∙ eqb-true one.node other.node t ∙ sym f))))
    (same_some _ _ w v u)
    (elim at.writes [
      | inl wr ↦ left_true _ _ (write_is run i p one.node w one.deed wr first)
      | inr wr ↦ right_true _ _ (write_is run j q other.node w other.deed wr second)
    ])

pub decided : (run : List Act) (i j : ℕ) (d e : Act) (b : Bool) → i < length run → j < length run → b ≡ conflicts (get_or run i d) (get_or run j e)
    → MatchBool b (Conflict run i j) (Conflict run i j → ⊥)
decided run i j d e true li lj is = conflicting run i j (get_or run i d) (get_or run j e) (Does-read run i d li) (Does-read run j e lj) (sym is)
decided run i j d e false li lj is =
    λ h. false≢true (is ∙ conflict_tests run i j (get_or run i d) (get_or run j e) (Does-read run i d li) (Does-read run j e lj) h)

-- an act that races with one of a word is of the same word
pub racing_word : (run : List Act) (node position k w : ℕ) (d : Act) → position < length run → Some w ≡ word_accessed (get_or run position d).deed
    → IsRacing run node position k → Accesses run k node w
racing_word run node position k w d lt is racing =
    let (deed, does) = racing.acts in
    let here : Act = get_or run position d in
    let stands = Does-read run position d lt in
    elim racing.races [
      | inl before ↦
          let (p, q, v, at) = before.conflict in
          let word = (access_is run position q here.node v here.deed at.second stands).1 in
          of_node run k p node v w deed (same_Some v w (sym word ∙ sym is)) at.first does
      | inr behind ↦
          let (p, q, v, at) = behind.conflict in
          let word = (access_is run position p here.node v here.deed at.first stands).1 in
          of_node run k q node v w deed (same_Some v w (sym word ∙ sym is)) at.second does
    ]
  where
    of_node : (run : List Act) (k p node v w : ℕ) (deed : Deed) → v ≡ w → Accesses run k p v → Does run k node deed → Accesses run k node w
    of_node run k p node v w deed same accesses does =
        let (who, _) = access_is run k p node v deed accesses does in
        subst (λ (n : ℕ). Accesses run k n w) who (subst (Accesses run k p) same accesses)

-- only an act of a word races
pub racing_some : (run : List Act) (node position k : ℕ) (d : Act) → position < length run → None ≡ word_accessed (get_or run position d).deed
    → IsRacing run node position k → ⊥
racing_some run node position k d lt is racing =
    let here : Act = get_or run position d in
    let stands = Does-read run position d lt in
    elim racing.races [
      | inl before ↦
          let (p, q, v, at) = before.conflict in
          let word = (access_is run position q here.node v here.deed at.second stands).1 in
          cc
      | inr behind ↦
          let (p, q, v, at) = behind.conflict in
          let word = (access_is run position p here.node v here.deed at.first stands).1 in
          cc
    ]

-- the word of an access
pub accessed_word : (run : List Act) (k node w : ℕ) (d : Act) → k < length run → Accesses run k node w
    → ((get_or run k d).node ≡ node) × (word_accessed (get_or run k d).deed ≡ Some w)
accessed_word run k node w d lt accesses =
    let (who, word) = access_is run k node (get_or run k d).node w (get_or run k d).deed accesses (Does-read run k d lt) in (sym who, word)
