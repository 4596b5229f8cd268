-- The tokens that a device holds, and the open services that they stand for.
use Rattle.std.specs.Prelude.{◌≡◌, ℕ, Bool, true, not, ◌&&◌, List, length, Some, None, Option, ◌==◌, slice_index_or}
use Rattle.dma.specs.declared.row.Row.{Row}
use Rattle.dma.specs.declared.service.Service.{Service}
use Rattle.dma.specs.State.{row_at}

-- a token is there exactly while the service is open, and is the channel's own
abbrev pub stands_for : Option Service → ℕ → Bool → Bool
stands_for None channel serving = not serving
stands_for (Some service) channel serving = serving && service.channel == channel

abbrev pub tied : List (Option Service) → List Row → ℕ → Bool
tied services rows k = stands_for (slice_index_or services k None) k (row_at rows k).serving

-- what a device keeps: six rows, and each token tied to its row
pub record Tied (services : List (Option Service)) (rows : List Row) : Type 0 where
  pub channels : length rows ≡ 6
  pub tokens : (k : ℕ) → tied services rows k ≡ true
