-- A block that a search holds is given to the forward search, with the table of its still's lengths.
-- Assumes nothing.
use mathlib.Core.Path.{refl}
use Prim.Native.Nat.{ℕ}
use Rattle.forward.specs.Given.{Given}
use Rattle.still.specs.Blocks.{block_in}
use Rattle.still.proofs.Blocks.{block_in_limits}
use Rattle.search.specs.declared.Search.{Search}
use Rattle.search.specs.Searching.{Holds}

pub given : {s : Search} {i : ℕ} → Holds s i → Given (block_in s.still i) s.table s.gathered
given {s} {i} h =
    record {
      limits = block_in_limits s.still i h.within;
      plain = λ k. refl;
      gathered = h.gathered;
      table = s.made;
    }
