-- A page of zeros.
use Rattle.std.proofs.Common.{◌≡◌, ℕ, List, ap, length, replicate, sym}
use Rattle.lrc_page.specs.declared.size.Size.{Size}
use Rattle.lrc_page.specs.Page.{words_of, zero_page}

pub zeros_are : (size : Size) (values : List ℕ) → length values ≡ words_of size → zero_page size ≡ replicate (length values) 0
unfolding zero_page
zeros_are size values many = ap (λ n. replicate n 0) (sym many)
