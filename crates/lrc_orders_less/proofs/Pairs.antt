-- Pairs of threads of which something is known, and texts that were followed, where threads are added, or a pair or a text is.
use Rattle.std.proofs.Common.{◌≡◌, ◌∙◌, ℕ, ◌<◌, List, [], ◌∷◌, ◌++◌, Bool, true, false, length, map, refl, sym, ap, subst, arith}
use Rattle.std.specs.Prelude.{Option, Some, None, Vec, IfSome, is_some, nat_eq, slice_get, slice_index}
use Rattle.std.specs.declared.alloc.Global.{Global}
use Rattle.std.proofs.lemmas.Bool.{and_parts, eqb-true, true≢false}
use Rattle.std.proofs.lemmas.List.{length-map}
use Rattle.std.proofs.lemmas.Option.{same_Some, slice_get_within}
use mathlib.Core.Bool.{beq}
use Rattle.indexmap.specs.IndexMap.{IndexMap}
use Rattle.lrc_trace.specs.declared.act.Deed.{Deed}
use Rattle.lrc_trace.proofs.Positions.{slice_get-seam}
use Rattle.lrc_exec.specs.declared.spot.Flat.{Flat}
use Rattle.lrc_exec.specs.declared.spot.Spot.{Spot}
use Rattle.lrc_exec.specs.Meaning.{Thread, next_of}
use Rattle.lrc_orders.specs.declared.noted.Noted.{Noted}
use Rattle.lrc_orders.specs.Kept.{Grows}
use Rattle.lrc_orders.proofs.Keeping.{stands_on}
use Rattle.lrc_orders.proofs.Gathering.{put_all}
use Rattle.lrc_orders.proofs.Same.{pointwise_same}
use Rattle.lrc_orders_undisputed.specs.Undisputed.{Conflicts}
use Rattle.lrc_orders_table.specs.declared.rows.Row.{Row}
use Rattle.lrc_orders_table.specs.declared.known.Means.{Means}
use Rattle.lrc_orders_table.specs.declared.table.Table.{Table}
use Rattle.lrc_orders_table.specs.Nexts.{next_in}
use Rattle.lrc_orders_table.specs.Tables.{IsKnown, IsRowOf, IsTable}
use Rattle.lrc_orders_table.proofs.Entries.{value_at}
use Rattle.lrc_orders_table.proofs.RowNodes.{node_at, node_there}
use Rattle.lrc_orders_reach.specs.declared.standing.Standing.{Standing}
use Rattle.lrc_orders_reach.specs.Standing.{IsReachOf, StandsIn}
use Rattle.lrc_orders_away.specs.Undisputed.{KeepsAway}
use Rattle.lrc_orders_away.proofs.Coming.{keeps_found}
use Rattle.lrc_orders_less.specs.Clash.{clash_by}
use Rattle.lrc_orders_less.specs.Reaches.{AreReaches, AreTexts, HasText, IsClearPair, IsText, IsThread, StaysClear}
use Rattle.lrc_orders_less.specs.declared.reaches.Pair.{Pair}
use Rattle.lrc_orders_less.specs.declared.reaches.Reaches.{Reaches}
use Rattle.lrc_orders_less.specs.declared.reaches.Text.{Text}
use Rattle.lrc_orders_less.specs.contracts.reaches.PairPartialEq.TheImpl.{eq-value as pair_eq}
use Rattle.lrc_orders_less.specs.contracts.reaches.TextPartialEq.TheImpl.{eq-value as text_eq}

pub pair_is : (a b : Pair) → pair_eq.it a b ≡ true → a ≡ b
pair_is a b e =
    let p = and_parts (nat_eq a.acting b.acting) (nat_eq a.other b.other) e in
    ap (λ n. record { acting = n; other = a.other }) (eqb-true a.acting b.acting p.0)
    ∙ ap (λ n. record { acting = b.acting; other = n }) (eqb-true a.other b.other p.1)

beq_same : (a b : Bool) → beq a b ≡ true → a ≡ b
beq_same true true e = refl
beq_same true false e = cc
beq_same false true e = cc
beq_same false false e = refl

pub text_is : (a b : Text) → text_eq.it a b ≡ true → a ≡ b
text_is a b e =
    let p = and_parts (nat_eq a.thread b.thread) _ e in
    ap (λ n. record { thread = n; blocked = a.blocked }) (eqb-true a.thread b.thread p.0)
    ∙ ap (λ l. record { thread = b.thread; blocked = l }) (pointwise_same beq beq_same a.blocked b.blocked p.1)

pub pair_grown : (flat : Flat) (old new : List Spot) (pair : Pair) → Grows old new → IsClearPair flat old pair → IsClearPair flat new pair
pair_grown flat old new pair g c = record {
  acting = c.acting;
  acting_there = stands_on pair.acting c.acting g c.acting_there;
  other = c.other;
  other_there = stands_on pair.other c.other g c.other_there;
  keeps = c.keeps;
}

pub text_grown : (flat : Flat) (old new : List Spot) (text : Text) (found : Option (Vec Standing Global)) → Grows old new → IsText flat old text found
    → IsText flat new text found
text_grown flat old new text found g t = record { spot = t.spot; there = stands_on text.thread t.spot g t.there; reach = t.reach }

pub reaches_grown : (flat : Flat) (old new : List Spot) (reaches : Reaches) → Grows old new → AreReaches flat old reaches → AreReaches flat new reaches
reaches_grown flat old new reaches g are = record {
  pairs = λ k pair known at is. pair_grown flat old new pair g (are.pairs k pair known at is);
  texts = λ k text found at. text_grown flat old new text found g (are.texts k text found at);
}

-- the entries of two equal maps, and what a look-up that finds nothing gives
pub entries_same : {K V S : Type 0} (old new : IndexMap K V S) → new ≡ old → new.entries ≡ old.entries
entries_same {K} {V} {S} old new e = ap (λ (m : IndexMap K V S). m.entries) e

pub none_found : {A : Type 0} (o : Option A) → is_some o ≡ false → o ≡ None
none_found None e = refl
none_found (Some x) e = absurd (true≢false e)

-- a pair more, and other texts
pub pairs_more : (flat : Flat) (threads : List Spot) (old new : Reaches) (pair : Pair) (known : Bool) → AreReaches flat threads old
    → new.texts ≡ old.texts → new.pairs.entries ≡ old.pairs.entries ++ (pair, known) ∷ [] → (known ≡ true → IsClearPair flat threads pair)
    → AreReaches flat threads new
pairs_more flat threads old new pair known are same is clear = record {
  pairs = λ k other also at so.
      put_all (λ n (e : Pair × Bool). e.1 ≡ true → IsClearPair flat threads e.0) false old.pairs.entries new.pairs.entries (pair, known) is
      (λ n e there. are.pairs n e.0 e.1 there) clear k (other, also) at so;
  texts = λ k text found at. are.texts k text found (ap (λ l. slice_get l k) (sym (entries_same old.texts new.texts same)) ∙ at);
}

pub pairs_kept : (flat : Flat) (threads : List Spot) (old new : Reaches) → AreReaches flat threads old → new.pairs ≡ old.pairs
    → AreTexts flat threads new.texts.entries → AreReaches flat threads new
pairs_kept flat threads old new are same texts = record {
  pairs = λ k pair known at. are.pairs k pair known (ap (λ l. slice_get l k) (sym (entries_same old.pairs new.pairs same)) ∙ at);
  texts = texts;
}

-- what is known stays so where states are counted
pub reaches_counted : (flat : Flat) (threads : List Spot) (old : Reaches) (vain : ℕ) → AreReaches flat threads old
    → AreReaches flat threads (record old { vain = vain })
reaches_counted flat threads old vain are = record { pairs = are.pairs; texts = are.texts }

-- a text more
pub texts_more : (flat : Flat) (threads : List Spot) (old new : List (Text × Option (Vec Standing Global))) (text : Text)
    (found : Option (Vec Standing Global)) → AreTexts flat threads old → new ≡ old ++ (text, found) ∷ [] → IsText flat threads text found
    → AreTexts flat threads new
texts_more flat threads old new text found are is one k other more at =
    put_all (λ n (e : Text × Option (Vec Standing Global)). IsText flat threads e.0 e.1) false old new (text, found) is
    (λ n e there. are n e.0 e.1 there) one k (other, more) at

pub last_there : {K V : Type 0} (old new : List (K × V)) (key : K) (value : V) → new ≡ old ++ (key, value) ∷ [] → slice_get new (length old) ≡ Some (key, value)
last_there old new key value is = ap (λ l. slice_get l (length old)) is ∙ slice_get-seam old (key, value) []

-- the threads of the nodes of a row are there, and it is known what each thread does next
pub thread_is : (table : Table) (row : Row) (node : ℕ) → IsKnown table row → node < table.rows.nodes → IsThread table (slice_index row.threads node)
thread_is table row node known lt = let at = node_at table row known.key node known.of.stands lt in (at.spot, at.there)

pub next_within : (means : Means) (table : Table) (number : ℕ) (spot : Spot) → IsTable means table → slice_get table.rows.threads.keys number ≡ Some spot
    → number < length table.nexts.items
next_within means table number spot known there =
    let within = slice_get_within table.rows.threads.keys number spot there in
    let count = ap (λ l. length l) known.nexts in
    omega (arith, within, count, length-map table.rows.threads.keys (next_in means.flat))

-- what is known of a pair is known of the nodes of a row
pub clear_row : (means : Means) (table : Table) (row : Row) (key : Noted) (node other : ℕ) (pair : Pair) → IsRowOf means table row key
    → pair.acting ≡ slice_index row.threads node → pair.other ≡ slice_index row.threads other
    → IsClearPair means.flat table.rows.threads.keys pair → StaysClear means.flat key.state node other
clear_row means table row key node other pair of acting others c own spot apart here there =
    let threads = table.rows.threads.keys in
    let own_is : c.acting ≡ own =
    same_Some c.acting own (sym c.acting_there ∙ ap (slice_get threads) acting ∙ node_there table row key node own of.stands here) in
    let spot_is : c.other ≡ spot =
    same_Some c.other spot (sym c.other_there ∙ ap (slice_get threads) others ∙ node_there table row key other spot of.stands there) in
    subst (λ (s : Spot). KeepsAway means.flat s own.held (clash_by (next_in means.flat own))) spot_is
    (subst (λ (s : Spot). KeepsAway means.flat c.other s.held (clash_by (next_in means.flat s))) own_is c.keeps)

-- what a text was followed to keeps clear
pub clear_found : (flat : Flat) (threads : List Spot) (entries : List (Text × Option (Vec Standing Global))) (place : ℕ) (text : Text) (spot : Spot)
    (found : Option (Vec Standing Global)) (all : Vec Standing Global) (list : List Standing) (deed : Deed) → AreTexts flat threads entries
    → HasText entries text place → slice_get (map (λ (e : Text × Option (Vec Standing Global)). e.1) entries) place ≡ Some found → found ≡ Some all
    → list ≡ all.items → slice_get threads text.thread ≡ Some spot
    → ((thread : Thread) → StandsIn flat spot.me list thread → Conflicts deed (next_of thread) → ⊥) → KeepsAway flat spot text.blocked deed
clear_found flat threads entries place text spot found all list deed are has there is items stands away =
    let t = are place text has.0 has.1 in
    let same : has.0 ≡ found = same_Some has.0 found (sym (value_at entries place text has.0 has.1) ∙ there) in
    let own : t.spot ≡ spot = same_Some t.spot spot (sym t.there ∙ stands) in
    let reach : IfSome has.0 (λ v. IsReachOf flat spot.me text.blocked spot v.items) =
    subst (λ (s : Spot). IfSome has.0 (λ v. IsReachOf flat s.me text.blocked s v.items)) own t.reach in
    keeps_found flat spot text.blocked has.0 all list deed reach (same ∙ is) items away
