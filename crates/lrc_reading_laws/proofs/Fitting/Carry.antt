-- What fits goes on to fit as other nodes act and close intervals, and what is closed stays sound.
use Rattle.std.proofs.Common.{◌≡◌, ℕ, List, [], ◌∷◌, ◌++◌, Bool, true, false, IsTrue, length, refl, sym, ap, subst, append-nil, append_assoc}
use Rattle.std.specs.Prelude.{Contains, ◌==◌, if◌then◌else◌}
use Rattle.std.specs.List.{list_any}
use Rattle.std.proofs.lemmas.List.Elements.{All-weaker}
use Rattle.lrc_page.specs.Page.{words_of}
use Rattle.lrc_store.specs.Store.{StoredRecord}
use Rattle.lrc_store.proofs.Orders.{Contains-first, Contains-later}
use Rattle.lrc_copies.specs.Page.{IsPageSound, AgreeOnPage}
use Rattle.lrc_copies.specs.Stamps.{stamps_covered, covered, IsCut}
use Rattle.lrc_copies.proofs.Members.{Contains-from_filter}
use Rattle.lrc_copies.proofs.Paging.{page_fits_agreed, page_sound_agreed, page_untouched}
use Rattle.lrc_copies.proofs.Stamping.{added_last, cut_longer}
use Rattle.lrc_copies.proofs.Timing.{uncovered_fits, closed_sound}
use Rattle.lrc_protocol.specs.Pages.{Copy, valid, written, invalid, absent, changes_of, Base, unneeded, due, come, Need, Memory, copy_at}
use Rattle.lrc_protocol.specs.Node.{Wait, nothing, grant, departure, access, upkeep, discard, needs_of}
use Rattle.lrc_node_laws.specs.Ranges.{CollectsAt}
use Rattle.lrc_node_laws.proofs.Change.{View}
use Rattle.lrc_reading_laws.specs.Written.{made_stamps, changes_on}
use Rattle.lrc_reading_laws.proofs.Laws.{bound_in}
use Rattle.lrc_reading_laws.proofs.Fitting.Copies.{Wrote, history_on, FitsTime, CopyFits, BaseFits, Fit}
use Rattle.lrc_reading_laws.proofs.Fitting.First.{Shuts, NeedFits, whole-long, not_written}
use Rattle.lrc_reading_laws.proofs.Fitting.Later.{AtView}

-- ---- for the times that are good

-- the times of a node's copies
pub record TimesGood (Good : List ℕ → Type 0) (time : List ℕ) (wait : Wait) (memory : Memory) : Type 0 where
  pub now : Good time
  pub collected : Good memory.collected
  pub since : (page : ℕ) (values since : List ℕ) → copy_at memory page ≡ invalid values since → Good since
  pub bound : (page : ℕ) → Good (bound_in wait memory.collected page)

pub bound-good : (Good : List ℕ → Type 0) (wait : Wait) (collected time : List ℕ) (page : ℕ) → CollectsAt time wait → Good time → Good collected
    → Good (bound_in wait collected page)
bound-good Good nothing collected time page c t g = g
bound-good Good (grant lock) collected time page c t g = g
bound-good Good departure collected time page c t g = g
bound-good Good (access need) collected time page c t g = g
bound-good Good (upkeep collection needs) collected time page c t g = g
bound-good Good (discard collection) collected time page c t g = by_test (list_any (λ kept. kept == page) collection.kept)
  where
    by_test : (b : Bool) → Good (if b then collection.time else collected)
    by_test true = subst Good (sym c) t
    by_test false = g

module _ (wrote wrote' : Wrote) (made made' : List StoredRecord) (Good : List ℕ → Type 0)
    (fits : (time : List ℕ) (page : ℕ) (values : List ℕ) → Good time → FitsTime wrote made time page values → FitsTime wrote' made' time page values)
    (cuts : (time : List ℕ) → Good time → IsCut made_stamps made time → IsCut made_stamps made' time) where
  carry-copy : (time : List ℕ) (page : ℕ) (copy : Copy) → Good time → ((values since : List ℕ) → copy ≡ invalid values since → Good since)
      → CopyFits wrote made time page copy → CopyFits wrote' made' time page copy
  carry-copy time page (valid values) g s f = fits time page values g f
  carry-copy time page (written values twin) g s f = fits time page twin g f
  carry-copy time page (invalid values since) g s f = (fits since page values (s values since refl) f.0, cuts since (s values since refl) f.1)
  carry-copy time page absent g s f = tt

  carry-base : (collected : List ℕ) (page : ℕ) (base : Base) → Good collected → BaseFits wrote made collected page base
      → BaseFits wrote' made' collected page base
  carry-base collected page (come values) g f = fits collected page values g f
  carry-base collected page (due keeper) g f = tt
  carry-base collected page unneeded g f = tt

  pub carry : (time : List ℕ) (wait : Wait) (memory : Memory) → TimesGood Good time wait memory → Fit wrote made time wait memory
      → Fit wrote' made' time wait memory
  carry time wait memory g h = record {
    copies = λ page. carry-copy time page (copy_at memory page) g.now (g.since page) (h.copies page);
    bases = λ page values e. fits (bound_in wait memory.collected page) page values (g.bound page) (h.bases page values e);
    needs =
        All-weaker (NeedFits wrote made memory.collected) (NeedFits wrote' made' memory.collected)
        (λ (need : Need) f. carry-base memory.collected need.page need.base g.collected f) (needs_of wait) h.needs;
  }

-- ---- as acts are made

pub agree-fits : (wrote wrote' : Wrote) (made : List StoredRecord) → ((page : ℕ) → AgreeOnPage made (history_on wrote page) (history_on wrote' page))
    → (time : List ℕ) (page : ℕ) (values : List ℕ) → FitsTime wrote made time page values → FitsTime wrote' made time page values
agree-fits wrote wrote' made agree time page values f =
    let in_made : (a : StoredRecord) → Contains (covered made_stamps time made) a → Contains made a =
    λ a c. (Contains-from_filter (stamps_covered made_stamps time) made a c).0 in
    page_fits_agreed (history_on wrote page) (history_on wrote' page) values (covered made_stamps time made)
    (record {
      wrote = λ a offset c. (agree page).wrote a offset (in_made a c);
      below = λ a b c d. (agree page).below a b (in_made a c) (in_made b d);
    }) f

pub agree-sound : (wrote wrote' : Wrote) (made : List StoredRecord) (words : ℕ)
    → ((page : ℕ) → AgreeOnPage made (history_on wrote page) (history_on wrote' page)) → (page : ℕ) → IsPageSound (history_on wrote page) words made
    → IsPageSound (history_on wrote' page) words made
agree-sound wrote wrote' made words agree page sound =
    page_sound_agreed (history_on wrote page) (history_on wrote' page) words made
    (record { page = agree page; changes = λ a c. refl; weight = λ a c. refl }) sound

-- ---- as intervals are closed

-- none of them is covered
abbrev pub Misses : List StoredRecord → List ℕ → Type 0
Misses new time = (x : StoredRecord) → Contains new x → IsTrue (stamps_covered made_stamps time x) → ⊥

pub longer-fits : (wrote : Wrote) (new made : List StoredRecord) (time : List ℕ) (page : ℕ) (values : List ℕ) → Misses new time
    → FitsTime wrote made time page values → FitsTime wrote (made ++ new) time page values
longer-fits wrote [] made time page values m f = subst (λ all. FitsTime wrote all time page values) (sym (append-nil made)) f
longer-fits wrote (x ∷ new) made time page values m f =
    subst (λ all. FitsTime wrote all time page values) (append_assoc made (x ∷ []) new)
    (longer-fits wrote new (made ++ x ∷ []) time page values (λ y c. m y (Contains-later x new y c))
    (uncovered_fits made_stamps (wrote page) (changes_on page) made time x values (m x (Contains-first x new)) f))

pub longer-cuts : (new made : List StoredRecord) (time : List ℕ) → Misses new time → IsCut made_stamps made time → IsCut made_stamps (made ++ new) time
longer-cuts [] made time m f = subst (λ all. IsCut made_stamps all time) (sym (append-nil made)) f
longer-cuts (x ∷ new) made time m f =
    subst (λ all. IsCut made_stamps all time) (append_assoc made (x ∷ []) new)
    (longer-cuts new (made ++ x ∷ []) time (λ y c. m y (Contains-later x new y c))
    (cut_longer made_stamps made time x f (m x (Contains-first x new))))

-- ---- what is closed is sound

module _ (count : ℕ) (wrote : Wrote) (made : List StoredRecord) (v : View) (a : AtView v) (x : StoredRecord)
    (shut : Shuts count (words_of v.size) wrote made v x) (h : Fit wrote made v.time v.wait v.memory) (page : ℕ)
    (sound : IsPageSound (history_on wrote page) (words_of v.size) made) where
  untouched-sound : ((values twin : List ℕ) → copy_at v.memory page ≡ written values twin → ⊥)
      → IsPageSound (history_on wrote page) (words_of v.size) (made ++ x ∷ [])
  untouched-sound none =
      page_untouched (history_on wrote page) made x (words_of v.size) sound (added_last made_stamps count made v.time x shut.at) (shut.leaves page none).0
      (shut.leaves page none).1

  by_copy : (copy : Copy) → copy_at v.memory page ≡ copy → IsPageSound (history_on wrote page) (words_of v.size) (made ++ x ∷ [])
  by_copy (valid values) e = untouched-sound (λ other twin w. not_written (copy_at v.memory page) other twin (ap changes_of e) w)
  by_copy (written values twin) e =
      let long : length values ≡ words_of v.size =
      (whole-long v.setting.nodes (words_of v.size) v.memory.copies page (written values twin) e a.whole.copies).0 in
      subst (λ n. IsPageSound (history_on wrote page) n (made ++ x ∷ [])) long
      (closed_sound made_stamps (wrote page) (changes_on page) count made v.time x shut.at twin values
      (subst (λ n. IsPageSound (history_on wrote page) n made) (sym long) sound) (shut.changes page values twin e)
      (subst (CopyFits wrote made v.time page) e (h.copies page)))
  by_copy (invalid values since) e = untouched-sound (λ other twin w. not_written (copy_at v.memory page) other twin (ap changes_of e) w)
  by_copy absent e = untouched-sound (λ other twin w. not_written (copy_at v.memory page) other twin (ap changes_of e) w)

  pub closes-sound : IsPageSound (history_on wrote page) (words_of v.size) (made ++ x ∷ [])
  closes-sound = by_copy (copy_at v.memory page) refl
