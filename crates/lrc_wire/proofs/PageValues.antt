-- The values of a page, as they are read.
use Rattle.std.proofs.Common.{◌≡◌, ℕ, List, length, Ok, refl}
use Rattle.std.proofs.lemmas.List.{length-replicate}
use Rattle.lrc_page.specs.declared.size.Size.{Size}
use Rattle.lrc_page.specs.Page.{words_of, zero_page}
use Rattle.lrc_wire.specs.declared.version.Version.{Version}
use Rattle.lrc_wire.specs.Reading.{size_at, values_at, page_values_at}

pub zeros_long : (size : Size) → length (zero_page size) ≡ words_of size
unfolding zero_page
zeros_long size = length-replicate {A = ℕ} (words_of size) 0

pub behind_size : (v : Version) (bytes rest : List ℕ) (n : ℕ) → size_at v bytes ≡ Ok (n, rest) → page_values_at v bytes ≡ values_at n rest
unfolding page_values_at
behind_size v bytes rest n e = rw e refl
