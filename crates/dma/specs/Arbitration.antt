-- Which channel the next slot serves.
use Rattle.std.specs.Prelude.{ℕ, zero, suc, ◌+◌, ◌%◌, Bool, false, if◌then◌else◌, ◌&&◌, Some, None, Option, ◌==◌, slice_index, slice_index_or}
use Rattle.std.specs.List.{list_any}
use Rattle.dma.specs.declared.arbitration.Contender.{Contender}
use Rattle.dma.specs.declared.arbitration.Contest.{Contest}
use Rattle.dma.specs.State.{channels}

-- a number that is no channel has nothing due
abbrev pub nobody : Contender
nobody = record { due = false; priority = 0; continuous = false }

abbrev pub contender_at : Contest → ℕ → Contender
contender_at k c = slice_index_or k.contenders c nobody

abbrev pub competes_at : ℕ → Contender → Bool
competes_at priority contender = contender.due && contender.priority == priority

-- a channel of this priority has words due
abbrev pub competes : Contest → ℕ → ℕ → Bool
competes k priority c = competes_at priority (contender_at k c)

-- any of the six has words due at this priority; shut, since who only picks a priority need not see it
unfoldable pub any_competes : Contest → ℕ → Bool
any_competes k priority = list_any (competes k priority) channels

-- the next channel upward that competes, 0 following 5, of so many from c on
abbrev pub upward : Contest → ℕ → ℕ → ℕ → Option ℕ
upward k priority zero c = None
upward k priority (suc tries) c = if competes k priority c then Some c else upward k priority tries ((c + 1) % 6)

-- among equals the remembered channel goes on if it competes and is continuous, else the next one upward is served
abbrev pub served_at : Contest → ℕ → Option ℕ
served_at k priority =
    let last = slice_index k.last priority in
    if competes k priority last && (contender_at k last).continuous then Some last else upward k priority 6 ((last + 1) % 6)

-- only the highest priority that has words due competes
abbrev pub winner : Contest → Option ℕ
winner k =
    if any_competes k 3 then served_at k 3 else if any_competes k 2 then served_at k 2 else if any_competes k 1 then served_at k 1 else served_at k 0
