-- What a border of two memories means.
use Rattle.std.specs.Prelude.{ℕ, ◌+◌, min, if◌then◌else◌, nat_lt}
use Rattle.memory.specs.declared.place.Owner.{Owner}
use Rattle.memory.specs.declared.refusal.Fault.{Fault}
use Rattle.memory.specs.Meaning.{Meaning}

abbrev pub deeper : Owner → Owner
deeper o = record { letter = o.letter; depth = min 255 (o.depth + 1) }

abbrev pub deeper_fault : Fault → Fault
deeper_fault f = record { cause = f.cause; place = f.place; owner = deeper f.owner }

-- addresses below the border mean what they mean in the first memory, the others what they mean in the second; only owners lie deeper
abbrev pub border_of : ℕ → Meaning → Meaning → Meaning
border_of border low high = record {
  kind = λ p. (if nat_lt p.address border then low.kind p else high.kind p);
  word = λ p. (if nat_lt p.address border then low.word p else high.word p);
  owner = λ p. deeper (if nat_lt p.address border then low.owner p else high.owner p);
}
