-- Which registers there are, and whose they are.
use Rattle.std.specs.Prelude.{ℕ, Bool, false, Some, None, Option, nat_lt}
use Rattle.registers.specs.declared.register.Register.{Register}
use Rattle.registers.specs.declared.register.Register.TheVariants.{Dsr, Ddr, Dco, Dcr, Dor, Dstr}

-- there is no register of that number
abbrev pub unknown : Register → Bool
unknown (Dsr c) = nat_lt 5 c
unknown (Ddr c) = nat_lt 5 c
unknown (Dco c) = nat_lt 5 c
unknown (Dcr c) = nat_lt 5 c
unknown (Dor i) = nat_lt 3 i
unknown Dstr = false

-- the channel that a register belongs to
abbrev pub channel_of : Register → Option ℕ
channel_of (Dsr c) = Some c
channel_of (Ddr c) = Some c
channel_of (Dco c) = Some c
channel_of (Dcr c) = Some c
channel_of (Dor i) = None
channel_of Dstr = None
