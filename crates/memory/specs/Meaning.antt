-- What a memory means, and what a load and a store answer and leave.
use Rattle.std.specs.Prelude.{ℕ, Bool, true, false, if◌then◌else◌, ◌&&◌, Ok, Err, Result, ◌==◌, nat_lt}
use Rattle.memory.specs.declared.place.Kind.{Kind}
use Rattle.memory.specs.declared.place.Kind.TheVariants.{Absent, Fixed, Plain}
use Rattle.memory.specs.declared.place.Owner.{Owner}
use Rattle.memory.specs.declared.place.Place.{Place}
use Rattle.memory.specs.declared.place.Space.{Space}
use Rattle.memory.specs.declared.place.Space.TheVariants.{X, Y, P}
use Rattle.memory.specs.declared.refusal.Fault.{Fault}
use Rattle.memory.specs.declared.refusal.Refusal.{Refusal}
use Rattle.memory.specs.declared.refusal.Refusal.TheVariants.{ValueTooLarge, AbsentLoad, AbsentStore, FixedStore}

-- a kind and an owner at every place, and a word that counts where the kind is not absent
pub record Meaning : Type 0 where
  pub kind : Place → Kind
  pub word : Place → ℕ
  pub owner : Place → Owner

abbrev pub same_space : Space → Space → Bool
same_space X X = true
same_space X Y = false
same_space X P = false
same_space Y X = false
same_space Y Y = true
same_space Y P = false
same_space P X = false
same_space P Y = false
same_space P P = true

abbrev pub same_place : Place → Place → Bool
same_place p q = same_space p.space q.space && p.address == q.address

-- a refusal by the memory of this owner
abbrev pub fault_of : Owner → Refusal → Place → Fault
fault_of owner cause p = record { cause = cause; place = p; owner = owner }

-- the refusal that a memory gives at a place
abbrev pub fault : Meaning → Refusal → Place → Fault
fault m cause p = fault_of (m.owner p) cause p

abbrev pub load_answer : Meaning → Place → Result ℕ Fault
load_answer m p = elim (m.kind p) [ Absent ↦ Err (fault m AbsentLoad p) | Fixed ↦ Ok (m.word p) | Plain ↦ Ok (m.word p) ]

-- a word that is too large is refused first, whatever the place is
abbrev pub may_store : Kind → ℕ → Result (Unit {0}) Refusal
may_store k w =
    if nat_lt 0xFFFFFF w then Err ValueTooLarge
    else elim k [ Absent ↦ Err AbsentStore | Fixed ↦ Err FixedStore | Plain ↦ Ok tt ]

abbrev pub store_answer : Meaning → Place → ℕ → Result (Unit {0}) Fault
store_answer m p w = elim (may_store (m.kind p) w) [ Ok u ↦ Ok tt | Err cause ↦ Err (fault m cause p) ]

-- one word put at one place; all else stands
abbrev pub put : Meaning → Place → ℕ → Meaning
put m p w = record { kind = m.kind; word = λ q. (if same_place p q then w else m.word q); owner = m.owner }

abbrev pub after_store : Meaning → Place → ℕ → Meaning
after_store m p w = elim (may_store (m.kind p) w) [ Ok u ↦ put m p w | Err cause ↦ m ]

-- a memory that is absent everywhere
abbrev pub nowhere : Owner → Meaning
nowhere o = record { kind = λ p. Absent; word = λ p. 0; owner = λ p. o }
