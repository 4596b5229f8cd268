-- Stopping the controller.
use Rattle.std.specs.Prelude.{ℕ, ◌&&◌, map, sum_by}
use Rattle.dma.specs.declared.row.Row.{Row}
use Rattle.dma.specs.Channels.{settings}
use Rattle.dma.specs.State.{State, channels, row_at}

-- every due word is lost; a draining channel is done, without an interrupt; all else stands
abbrev pub halted : Row → Row
halted r = record r { due = 0; active = r.active && (settings r).enabled }

abbrev pub after_stop : State → State
after_stop s = record s { rows = map halted s.rows }

-- how many due words a stop loses
abbrev pub lost : State → ℕ
lost s = sum_by (λ c. (row_at s.rows c).due) channels
