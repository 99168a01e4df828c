-- What is shared, where nothing of it changes, and what was noted of changes.
use Rattle.std.proofs.Common.{◌≡◌, ℕ, List, [], ◌∷◌, Bool, true, false, refl, sym, subst, ◌∙◌, ap}
use Rattle.std.specs.Prelude.{◌||◌, Option, Some, slice_get}
use Rattle.std.specs.List.{list_any}
use Rattle.std.proofs.lemmas.Bool.{true≢false}
use Rattle.lrc_trace.specs.declared.act.Deed.{Deed}
use Rattle.lrc_trace.specs.declared.act.Deed.TheVariants.{Release}
use Rattle.lrc_orders_settling.specs.Gone.{freed, freed_by}
use Rattle.std.proofs.lemmas.Option.{same_Some}
use Rattle.lrc_exec.specs.declared.spot.Spot.{Spot}
use Rattle.lrc_orders_memory.specs.Sharing.{IsSharedAt}
use Rattle.lrc_orders_memory.proofs.Apart.{shared_one}
use Rattle.lrc_orders_table.specs.declared.next.Next.{Next}
use Rattle.lrc_orders_table.specs.declared.next.Next.TheVariants.{Writes, Acquires}
use Rattle.lrc_orders_table.specs.declared.table.After.{After}
use Rattle.lrc_orders_table.specs.declared.table.Asked.{Asked}
use Rattle.lrc_orders_table.specs.declared.table.Table.{Table}
use Rattle.lrc_orders_table.specs.Going.{IsNextOf}
use Rattle.lrc_orders_table.specs.Tables.{IsChange, next_of}
use Rattle.lrc_orders_table.specs.Shared.{holders_then, is_change, is_release, words_then}

first_false : (a b : Bool) → (a || b) ≡ false → a ≡ false
first_false true b e = e
first_false false b e = refl

second_false : (a b : Bool) → (a || b) ≡ false → b ≡ false
second_false true b e = absurd (true≢false e)
second_false false b e = e

words_still : (next : Next) (words : List ℕ) → is_change next ≡ false → words_then next words ≡ words
words_still (Writes word value) words e = absurd (true≢false e)
words_still (Acquires lock) words e = refl
words_still _ words e = refl

-- what is not written stays
pub words_unwritten : (next : Next) (words : List ℕ) → ((word value : ℕ) → next ≡ Writes word value → ⊥) → words_then next words ≡ words
words_unwritten (Writes word value) words other = absurd (other word value refl)
words_unwritten _ words other = refl

holders_still : (node : ℕ) (next : Next) (holders : List (Option ℕ)) → is_change next ≡ false → holders_then node next holders ≡ holders
holders_still node (Writes word value) holders e = refl
holders_still node (Acquires lock) holders e = absurd (true≢false e)
holders_still node _ holders e = refl

free_still : (deed : Deed) (holders : List (Option ℕ)) → is_release deed ≡ false → freed_by deed holders ≡ holders
free_still (Release lock) holders e = absurd (true≢false e)
free_still _ holders e = refl

frees_still : (deeds : List Deed) (holders : List (Option ℕ)) → list_any is_release deeds ≡ false → freed deeds holders ≡ holders
frees_still [] holders e = refl
frees_still (deed ∷ deeds) holders e =
    ap (freed deeds) (free_still deed holders (first_false (is_release deed) (list_any is_release deeds) e))
    ∙ frees_still deeds holders (second_false (is_release deed) (list_any is_release deeds) e)

-- where nothing changes
module _ (node : ℕ) (next : Next) (deeds : List Deed) (none : (is_change next || list_any is_release deeds) ≡ false) where
  pub same_words : (words : List ℕ) → words_then next words ≡ words
  same_words words = words_still next words (first_false (is_change next) (list_any is_release deeds) none)

  pub same_holders : (holders : List (Option ℕ)) → freed deeds (holders_then node next holders) ≡ holders
  same_holders holders =
      frees_still deeds (holders_then node next holders) (second_false (is_change next) (list_any is_release deeds) none)
      ∙ holders_still node next holders (first_false (is_change next) (list_any is_release deeds) none)

-- what was noted of a change is so of what is shared before it
pub change_gives : (table : Table) (shared place node number : ℕ) (next : Next) → IsChange table (record { shared = shared; after = place }) number
    → IsNextOf table place node next → (words : List ℕ) (holders : List (Option ℕ)) (asked : Asked) (after : After)
    → IsSharedAt table.rows.shared shared words holders → slice_get table.afters.entries place ≡ Some (asked, after)
    → IsSharedAt table.rows.shared number (words_then next words) (freed after.deeds.items (holders_then node next holders))
change_gives table shared place node number next ch n words holders asked after at entry =
    let P : Asked × After = (asked, after) in
    let Q : Asked × After = (ch.asked, ch.after) in
    let R : Asked × After = (n.asked, n.after) in
    let one : Q ≡ P = same_Some Q P (sym ch.comes ∙ entry) in
    let two : R ≡ P = same_Some R P (sym n.comes ∙ entry) in
    let asks : ch.asked ≡ n.asked = ap (λ (p : Asked × After). p.0) one ∙ sym (ap (λ (p : Asked × After). p.0) two) in
    let spots : ch.spot ≡ n.spot =
    same_Some ch.spot n.spot (sym ch.there ∙ ap (λ (a : Asked). slice_get table.rows.threads.keys a.thread) asks ∙ n.there) in
    let same = shared_one table.rows.shared shared ch.words words ch.holders holders ch.before at in
    let next_is : next_of table ch.asked.thread ≡ next = ap (λ (a : Asked). next_of table a.thread) asks ∙ sym n.next_is in
    let me : ch.spot.me ≡ node = ap (λ (s : Spot). s.me) spots ∙ sym n.node_is in
    let all = table.rows.shared in
    let is = next_of table ch.asked.thread in
    let b = ch.becomes in
    let b1 = subst (λ w. IsSharedAt all number (words_then is w) (freed ch.after.deeds.items (holders_then ch.spot.me is ch.holders))) same.0 b in
    let b2 = subst (λ h. IsSharedAt all number (words_then is words) (freed ch.after.deeds.items (holders_then ch.spot.me is h))) same.1 b1 in
    let b3 =
    subst (λ (p : Asked × After). IsSharedAt all number (words_then is words) (freed p.1.deeds.items (holders_then ch.spot.me is holders))) one b2 in
    let b4 = subst (λ m. IsSharedAt all number (words_then is words) (freed after.deeds.items (holders_then m is holders))) me b3 in
    subst (λ m. IsSharedAt all number (words_then m words) (freed after.deeds.items (holders_then node m holders))) next_is b4
