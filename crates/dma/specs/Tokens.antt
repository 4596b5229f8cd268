-- What begin and return answer, by the tokens that stand for open services.
use Rattle.std.specs.Prelude.{◌≡◌, ℕ, Some, None, Ok, Err, Result}
use Rattle.memory.specs.declared.refusal.Refusal.{Refusal}
use Rattle.dma.specs.declared.service.HandedBack.{HandedBack}
use Rattle.dma.specs.declared.service.Service.{Service}
use Rattle.dma.specs.Services.{begin_refusal, return_refusal}
use Rattle.dma.specs.State.{State}

-- a begun service is of the channel that was asked for
abbrev pub Begins : State → ℕ → Result Service Refusal → Type 0
Begins s c (Ok service) = (begin_refusal s c ≡ None) × (service.channel ≡ c)
Begins s c (Err refusal) = begin_refusal s c ≡ Some refusal

-- a refused return hands the same service back
abbrev pub Returns : State → Service → Result (Unit {0}) HandedBack → Type 0
Returns s service (Ok done) = return_refusal s service.channel ≡ None
Returns s service (Err back) = (return_refusal s service.channel ≡ Some back.refusal) × (back.service.channel ≡ service.channel)
