-- A node of a run: what its open interval wrote, by the acts, is what its copies show.
use Rattle.std.proofs.Common.{◌≡◌, ℕ, ◌+◌, ◌<◌, List, [], length, refl, sym, ap, subst, ◌∙◌, inl, inr, arith}
use Rattle.std.specs.Prelude.{Some, None, unwrap_or, slice_get, slice_index, slice_index_or, All}
use Rattle.std.proofs.lemmas.Bool.{cases_lt}
use Rattle.std.proofs.lemmas.List.{get_or_past}
use Rattle.std.proofs.lemmas.List.Elements.{All-get_or}
use Rattle.lrc_program.specs.declared.Program.{Program}
use Rattle.lrc_trace.specs.declared.act.Deed.{Deed}
use Rattle.lrc_page.specs.declared.size.Size.{Size}
use Rattle.lrc_page.specs.Page.{words_of}
use Rattle.lrc_page.specs.Place.{offset_of}
use Rattle.lrc_page.proofs.PageLists.{offset_of-within}
use Rattle.lrc_time.specs.Time.{entry}
use Rattle.lrc_time.proofs.Times.{entry-set_same}
use Rattle.lrc_exec.specs.Meaning.{Setting}
use Rattle.lrc_exec.specs.Plain.{setting_of, start_of}
use Rattle.lrc_exec.specs.Follows.{deeds_of}
use Rattle.lrc_copies.specs.Page.{IsMadeOf, IsUntouchedBy}
use Rattle.lrc_copies.specs.Stamps.{stamp_index}
use Rattle.lrc_protocol.specs.Pages.{Copy, valid, written, invalid, absent, copy_at}
use Rattle.lrc_protocol.specs.Node.{Wait, nothing, grant, departure, access, upkeep, discard, OptionsRecord}
use Rattle.lrc_protocol.specs.Run.{Logged, World}
use Rattle.lrc_protocol.specs.Follows.{inputs_of, turns_of, deeds_in}
use Rattle.lrc_protocol.proofs.Worlds.{Follows}
use Rattle.lrc_protocol.proofs.Texts.{follows_at}
use Rattle.lrc_order_laws.specs.Counts.{closes, count, awaits_acquire}
use Rattle.lrc_order_laws.specs.Waiting.{FixesNext}
use Rattle.lrc_protocol.specs.Node.{next_in}
use Rattle.lrc_order_laws.proofs.Reached.{IsReached}
use Rattle.lrc_order_laws.proofs.Inputs.{at_each}
use Rattle.lrc_order_laws.proofs.Waiting.{NodeFits, node-fits, departs_arrived}
use Rattle.lrc_order_laws.proofs.Shape.{NodeShape, shape_at}
use Rattle.lrc_order_laws.proofs.OwnEntry.{in_range, own_entry}
use Rattle.lrc_node_laws.specs.Reached.{LeadsTo}
use Rattle.lrc_node_laws.specs.Ranges.{IsWholeCopy}
use Rattle.lrc_node_laws.specs.Opened.{on_page, open_writes, open_in, IsMadeBy, AreMadeBy}
use Rattle.lrc_node_laws.proofs.Wrote.{wrote}
use Rattle.lrc_node_laws.proofs.Always.{whole_at}
use Rattle.lrc_reading_laws.specs.Written.{last_write, made_stamps, word_on}
use Rattle.lrc_reading_laws.specs.Acted.{WritesPage}
use Rattle.lrc_reading_laws.proofs.Written.History.{page_history, open_record}
use Rattle.lrc_reading_laws.proofs.Written.Deeds.{written_in, last_scanned, last_of, not_yet, opened}
use Rattle.lrc_reading_laws.proofs.Written.Pages.{page_of-word_on, offset_of-word_on, word_on-page_of, made_at, none_at, FoundOn, found_on}

-- the interval after the closed ones has the open writes,
idle_written : (deeds : List Deed) (k word : ℕ) → k ≡ count closes deeds + 0 → written_in deeds (k + 1) word ≡ last_of word None (open_writes deeds)
idle_written deeds k word e =
    let is : k + 1 ≡ 1 + count closes deeds = omega (arith, e) in
    ap (λ i. written_in deeds i word) is ∙ opened deeds word

-- and none where the node waits for a grant
open_written : (w : Wait) (deeds : List Deed) (k word : ℕ) → k ≡ count closes deeds + awaits_acquire w
    → written_in deeds (k + 1) word ≡ last_of word None (open_in w (open_writes deeds))
open_written (grant lock) deeds k word e = not_yet (k + 1) word deeds 1 None (omega (arith, e))
open_written nothing deeds k word e = idle_written deeds k word e
open_written departure deeds k word e = idle_written deeds k word e
open_written (access need) deeds k word e = idle_written deeds k word e
open_written (upkeep collection needs) deeds k word e = idle_written deeds k word e
open_written (discard collection) deeds k word e = idle_written deeds k word e

-- where a page has no twin, no write is on it
unwritten : (size : Size) (page : ℕ) (writes : List (ℕ × ℕ)) (copy : Copy) → ((values twin : List ℕ) → copy ≡ written values twin → ⊥)
    → IsMadeBy size page writes copy → on_page size page writes ≡ []
unwritten size page writes (valid values) none h = h
unwritten size page writes (written values twin) none h = absurd (none values twin refl)
unwritten size page writes (invalid values since) none h = h
unwritten size page writes absent none h = h

-- a copy is whole, also one that is not there
copy-whole : (nodes words : ℕ) (copies : List Copy) (page : ℕ) → All (IsWholeCopy nodes words) copies → IsWholeCopy nodes words (slice_index_or copies page absent)
copy-whole nodes words copies page each = elim (cases_lt page (length copies)) [
  | inl within ↦ All-get_or (IsWholeCopy nodes words) copies page absent within each
  | inr past ↦ subst (IsWholeCopy nodes words) (sym (get_or_past copies page absent past)) tt
]

module _ (program : Program) (nodes : ℕ) (options : OptionsRecord) (world : World) (reached : IsReached program nodes options world) (n : ℕ)
    (l : Logged) (at : slice_get world.nodes n ≡ Some l) where
  abbrev own_deeds : List Deed
  own_deeds = deeds_of n world.acts

  abbrev writes : List (ℕ × ℕ)
  writes = open_in l.node.mail.wait (open_writes own_deeds)

  shape : NodeShape (setting_of program nodes n) options (record { node = l.node; turns = turns_of l.log })
  shape = shape_at program nodes options reached.events world n l reached.runs at

  pub is_me : l.node.setting.me ≡ n
  is_me = ap (λ (s : Setting). s.me) shape.setting

  among : n < nodes
  among = in_range program nodes options reached.events world reached.runs n l at

  pub me_within : l.node.setting.me < length l.node.locks.time
  me_within = subst (λ k. k < length l.node.locks.time) (sym is_me) (subst (λ k. n < k) (sym shape.shape.times) among)

  pub follows : Follows program nodes options world.acts n l
  follows = follows_at program nodes options reached.events world reached.runs n l at

  pub fits : FixesNext l.node.mail.wait (next_in l.node.course)
  fits = at_each NodeFits node-fits program nodes options reached.events world n l (departs_arrived (start_of program nodes n)) reached.runs at

  pub own : entry l.node.locks.time n ≡ count closes own_deeds + awaits_acquire l.node.mail.wait
  own = own_entry program nodes options reached.events world reached.runs n l at

  leads : LeadsTo program nodes options n (record { node = l.node; turns = turns_of l.log })
  leads = record { among = among; inputs = inputs_of l.log; made = follows.replayed }

  made : (page : ℕ) → IsMadeBy options.size page writes (copy_at l.node.memory page)
  made page =
      let here : AreMadeBy l.node.options.size l.node.memory (open_in l.node.mail.wait (open_writes (deeds_in (turns_of l.log)))) =
      wrote program nodes options n among (record { node = l.node; turns = turns_of l.log }) leads in
      subst (λ (o : OptionsRecord). IsMadeBy o.size page writes (copy_at l.node.memory page)) shape.options
      (subst (λ ds. IsMadeBy l.node.options.size page (open_in l.node.mail.wait (open_writes ds)) (copy_at l.node.memory page)) (sym follows.deeds) (here page))

  -- the index of the open interval is one more than the own entry
  pub open_index : stamp_index made_stamps (open_record l.node) ≡ entry l.node.locks.time n + 1
  open_index =
      entry-set_same l.node.locks.time l.node.setting.me (entry l.node.locks.time l.node.setting.me + 1) me_within
      ∙ ap (λ k. entry l.node.locks.time k + 1) is_me

  -- what it wrote by the acts
  open_last : (word : ℕ) → last_write world.acts (open_record l.node).node (stamp_index made_stamps (open_record l.node)) word ≡ last_of word None writes
  open_last word =
      ap (λ i. last_write world.acts l.node.setting.me i word) open_index
      ∙ ap (λ k. last_write world.acts k (entry l.node.locks.time n + 1) word) is_me
      ∙ last_scanned world.acts n (entry l.node.locks.time n + 1) word
      ∙ open_written l.node.mail.wait own_deeds (entry l.node.locks.time n) word own

  whole : (page : ℕ) → IsWholeCopy l.node.setting.nodes (words_of options.size) (copy_at l.node.memory page)
  whole page =
      subst (λ (o : OptionsRecord). IsWholeCopy l.node.setting.nodes (words_of o.size) (copy_at l.node.memory page)) shape.options
      (copy-whole l.node.setting.nodes (words_of l.node.options.size) l.node.memory.copies page
      (whole_at l.node (record {
        program = program;
        nodes = nodes;
        options = options;
        me = n;
        turns = turns_of l.log;
        leads = leads;
      })).copies)

  -- a written copy is what the open interval made of the twin
  pub made_of_twin : (page : ℕ) (values twin : List ℕ) → copy_at l.node.memory page ≡ written values twin
      → IsMadeOf (page_history options.size world.acts page) (open_record l.node) twin values
  made_of_twin page values twin e =
      let of_copy : IsMadeBy options.size page writes (written values twin) = subst (IsMadeBy options.size page writes) e (made page) in
      let long : IsWholeCopy l.node.setting.nodes (words_of options.size) (written values twin) =
      subst (IsWholeCopy l.node.setting.nodes (words_of options.size)) e (whole page) in
      record {
        long = long.1 ∙ sym long.0;
        has = λ offset lt.
            let within : offset < words_of options.size = subst (λ k. offset < k) long.0 lt in
            let word : ℕ = word_on options.size page offset in
            ap (λ vs. slice_index vs offset) of_copy.0
            ∙ made_at options.size page offset word (page_of-word_on options.size page offset within) (offset_of-word_on options.size page offset within)
            writes twin (subst (λ k. offset < k) (sym long.1) within)
            ∙ ap (λ o. unwrap_or o (slice_index twin offset)) (sym (open_last word));
      }

  -- a twin is a whole page
  pub twin_long : (page : ℕ) (values twin : List ℕ) → copy_at l.node.memory page ≡ written values twin → length twin ≡ words_of options.size
  twin_long page values twin e =
      let long : IsWholeCopy l.node.setting.nodes (words_of options.size) (written values twin) =
      subst (IsWholeCopy l.node.setting.nodes (words_of options.size)) e (whole page) in
      long.1

  -- the open interval wrote a written page
  pub writes_open : (page : ℕ) (values twin : List ℕ) → copy_at l.node.memory page ≡ written values twin
      → WritesPage options.size world.acts page (open_record l.node)
  writes_open page values twin e =
      let of_copy : IsMadeBy options.size page writes (written values twin) = subst (IsMadeBy options.size page writes) e (made page) in
      let found : FoundOn options.size page writes = found_on options.size page writes of_copy.1 in
      let offset : ℕ = offset_of found.word options.size in
      let word_is : word_on options.size page offset ≡ found.word =
      ap (λ p. word_on options.size p offset) (sym found.on) ∙ word_on-page_of options.size found.word in
      record {
        offset = offset;
        value = (found.last None).0;
        within = offset_of-within found.word options.size;
        wrote = open_last (word_on options.size page offset) ∙ ap (λ w. last_of w None writes) word_is ∙ (found.last None).1;
      }

  -- any other page was not written
  pub untouched_by_open : (page : ℕ) → ((values twin : List ℕ) → copy_at l.node.memory page ≡ written values twin → ⊥)
      → IsUntouchedBy (page_history options.size world.acts page) (words_of options.size) (open_record l.node)
  untouched_by_open page none offset within =
      let word : ℕ = word_on options.size page offset in
      open_last word
      ∙ none_at options.size page offset word (page_of-word_on options.size page offset within) (offset_of-word_on options.size page offset within)
      writes (unwritten options.size page writes (copy_at l.node.memory page) none (made page))
