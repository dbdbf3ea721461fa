-- What is known of a packed file whose header is read: every test of opening holds, and these are its list starts. Definitions only.
use Rattle.std.specs.Prelude.{◌≡◌, true, List, ℕ}
use Rattle.paper.specs.Outline.{version_ok, length_ok}
use Rattle.paper.specs.Packed.{packed_version, packed_head, starts_of}
use Rattle.packed_lists.specs.Header.{Opens}

pub record HeaderRead (bs starts : List ℕ) : Type 0 where
  pub version : version_ok packed_version bs ≡ true
  pub size : length_ok packed_head bs ≡ true
  pub opens : Opens bs
  pub is : starts ≡ starts_of bs
