-- A whole turn of a node keeps its copies fitting, as far as it depends on one node.
use Rattle.std.proofs.Common.{◌≡◌, ℕ, ◌<◌, List, ◌++◌, refl, sym, ap, subst, ◌∙◌}
use Rattle.std.specs.Prelude.{◌==◌, Contains, map, [], ◌∷◌, if◌then◌else◌}
use Rattle.lrc_program.specs.declared.Program.{Program}
use Rattle.lrc_time.specs.Time.{entry}
use Rattle.lrc_page.specs.Page.{words_of}
use Rattle.lrc_page.specs.declared.size.Size.{Size}
use Rattle.lrc_store.specs.Interval.{IntervalRecord}
use Rattle.lrc_store.specs.Store.{StoredRecord, interval_of}
use Rattle.lrc_envelope.specs.Records.{PageReplyRecord}
use Rattle.lrc_envelope.specs.declared.message.Message.TheVariants.{PageReply}
use Rattle.lrc_protocol.specs.Times.{next_time}
use Rattle.lrc_protocol.specs.Node.{OptionsRecord}
use Rattle.lrc_order_laws.proofs.Sends.{Came, comes}
use Rattle.lrc_node_laws.proofs.Change.{View, Walk}
use Rattle.lrc_node_laws.proofs.Reach.{first_view}
use Rattle.lrc_reading_laws.specs.Made.{AllMade}
use Rattle.lrc_node_laws.proofs.Turning.{Brings}
use Rattle.lrc_node_laws.proofs.Turning.{Later, moves, puts, cleans, mends, Played, begun, goes_on, played-walk}
use Rattle.lrc_reading_laws.proofs.Fitting.Copies.{Wrote, FitsTime, Fit, Facts, Stored}
use Rattle.lrc_reading_laws.proofs.Fitting.First.{closed_in, Shuts}
use Rattle.lrc_reading_laws.proofs.Fitting.Later.{at_view, stored-before, later-fit}
use Rattle.lrc_reading_laws.proofs.Fitting.Turns.{first-fit}

-- ---- what a turn leaves as it is

later-size : (v after : View) → Later v after → after.size ≡ v.size
later-size v _ (moves course e) = refl
later-size v _ (puts word value e) = refl
later-size v _ (cleans collection needs e met) = refl
later-size v _ (mends need e met) = refl

later-time : (v after : View) → Later v after → after.time ≡ v.time
later-time v _ (moves course e) = refl
later-time v _ (puts word value e) = refl
later-time v _ (cleans collection needs e met) = refl
later-time v _ (mends need e met) = refl

closed-same : (v u after : View) (x : StoredRecord) → after.time ≡ u.time → closed_in v after x ≡ closed_in v u x
closed-same v u after x e = ap (λ time. if entry time v.setting.me == entry v.time v.setting.me then [] else x ∷ []) e

module _ (program : Program) (nodes : ℕ) (options : OptionsRecord) (me : ℕ) (among : me < nodes) (v : View)
    (walked : Walk (first_view program nodes options me among) v) (came : Came) (count : ℕ) (wrote : Wrote) (made : List StoredRecord) (x : StoredRecord)
    (facts : Facts count (words_of v.size) wrote made) (counted : v.setting.nodes ≡ count)
    (s : Stored made v.time v.memory.collected v.memory.store)
    (told : (intervals : List IntervalRecord) → Brings came intervals → AllMade (map interval_of made) intervals)
    (sent : (from : ℕ) (m : PageReplyRecord) → came ≡ comes from (PageReply m) → FitsTime wrote made v.memory.collected m.page m.values)
    (stamp : next_time v.setting.me v.time ≡ x.stamp) (h : Fit wrote made v.time v.wait v.memory) where
  walk-to : (after : View) → Played came v after → Walk (first_view program nodes options me among) after
  walk-to after p = played-walk came (first_view program nodes options me among) v after p walked

  pub played-fit : (after : View) → Played came v after → (all : List StoredRecord) → all ≡ made ++ closed_in v after x
      → Facts count (words_of after.size) wrote all → Stored all after.time after.memory.collected after.memory.store
      → (Contains (closed_in v after x) x → Shuts count (words_of v.size) wrote made v x)
      → Fit wrote all after.time after.wait after.memory
  played-fit after (begun f) all e new_facts new_stored shut =
      subst (λ all. Fit wrote all after.time after.wait after.memory) (sym e)
      (first-fit came count wrote made v x facts counted (at_view program nodes options me among v walked) s told sent stamp h after f shut)
  played-fit after (goes_on {w = u} p l) all e new_facts new_stored shut =
      let closed_is : closed_in v after x ≡ closed_in v u x = closed-same v u after x (later-time u after l) in
      let facts_u : Facts count (words_of u.size) wrote all =
      subst (λ (size : Size). Facts count (words_of size) wrote all) (later-size u after l) new_facts in
      let stored_u : Stored all u.time u.memory.collected u.memory.store = stored-before all u after l new_stored in
      let before : Fit wrote all u.time u.wait u.memory =
      played-fit u p all (e ∙ ap (λ new. made ++ new) closed_is) facts_u stored_u
      (λ c. shut (subst (λ l. Contains l x) (sym closed_is) c)) in
      later-fit count wrote all u after l facts_u (at_view program nodes options me among u (walk-to u p))
      (at_view program nodes options me among after (walk-to after (goes_on p l))) stored_u before
