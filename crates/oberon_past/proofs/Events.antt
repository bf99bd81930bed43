-- Inputs that are the same: what the comparison of two says.
use Rattle.std.proofs.Common.{◌≡◌, ℕ, Bool, true, ◌&&◌, Decides, ap, eq-eqb, eqb, eqb-true, refl, subst}
use Rattle.std.proofs.lemmas.Bool.{and_parts, false≢true}
use Rattle.risc_model.specs.declared.event.Event.{Event}
use Rattle.oberon_format.proofs.One.{same_event}
use Rattle.risc_devices.proofs.InputLemmas.{same_input}
use Rattle.risc_devices.specs.InputKind.{kind_number}
use Rattle.risc_devices.specs.declared.input.Input.{Input}
use Rattle.risc_devices.specs.declared.kind.Kind.{Kind}
use Rattle.risc_devices.specs.declared.kind.Kind.TheVariants.{Timer, Switches, Mouse, Key, Serial, Disk}
use Rattle.risc_model.specs.contracts.event.EventPartialEq.TheImpl.{eq-value}
use Rattle.risc_devices.specs.contracts.input.InputPartialEq.TheImpl.{eq-value as input-value}
use Rattle.risc_devices.specs.contracts.kind.KindPartialEq.TheImpl.{eq-value as kind-value}

both : (x y : Bool) → x ≡ true → y ≡ true → (x && y) ≡ true
both x y first second = rw (first, second) refl

kind-same : (a b : Kind) → kind-value.it a b ≡ true → a ≡ b
kind-same Timer Timer h = refl
kind-same Timer Switches h = absurd (false≢true h)
kind-same Timer Mouse h = absurd (false≢true h)
kind-same Timer Key h = absurd (false≢true h)
kind-same Timer Serial h = absurd (false≢true h)
kind-same Timer Disk h = absurd (false≢true h)
kind-same Switches Timer h = absurd (false≢true h)
kind-same Switches Switches h = refl
kind-same Switches Mouse h = absurd (false≢true h)
kind-same Switches Key h = absurd (false≢true h)
kind-same Switches Serial h = absurd (false≢true h)
kind-same Switches Disk h = absurd (false≢true h)
kind-same Mouse Timer h = absurd (false≢true h)
kind-same Mouse Switches h = absurd (false≢true h)
kind-same Mouse Mouse h = refl
kind-same Mouse Key h = absurd (false≢true h)
kind-same Mouse Serial h = absurd (false≢true h)
kind-same Mouse Disk h = absurd (false≢true h)
kind-same Key Timer h = absurd (false≢true h)
kind-same Key Switches h = absurd (false≢true h)
kind-same Key Mouse h = absurd (false≢true h)
kind-same Key Key h = refl
kind-same Key Serial h = absurd (false≢true h)
kind-same Key Disk h = absurd (false≢true h)
kind-same Serial Timer h = absurd (false≢true h)
kind-same Serial Switches h = absurd (false≢true h)
kind-same Serial Mouse h = absurd (false≢true h)
kind-same Serial Key h = absurd (false≢true h)
kind-same Serial Serial h = refl
kind-same Serial Disk h = absurd (false≢true h)
kind-same Disk Timer h = absurd (false≢true h)
kind-same Disk Switches h = absurd (false≢true h)
kind-same Disk Mouse h = absurd (false≢true h)
kind-same Disk Key h = absurd (false≢true h)
kind-same Disk Serial h = absurd (false≢true h)
kind-same Disk Disk h = refl

kind-refl : (a : Kind) → kind-value.it a a ≡ true
kind-refl Timer = refl
kind-refl Switches = refl
kind-refl Mouse = refl
kind-refl Key = refl
kind-refl Serial = refl
kind-refl Disk = refl

input-same : (a b : Input) → input-value.it a b ≡ true → a ≡ b
input-same a b h =
    let parts = and_parts (kind-value.it a.kind b.kind) (eqb a.value b.value) h in
    same_input a b (ap kind_number (kind-same a.kind b.kind parts.0)) (eqb-true a.value b.value parts.1)

input-refl : (a : Input) → input-value.it a a ≡ true
input-refl a = both (kind-value.it a.kind a.kind) (eqb a.value a.value) (kind-refl a.kind) (eq-eqb a.value a.value refl)

event-same : (a b : Event) → eq-value.it a b ≡ true → a ≡ b
event-same a b h =
    let parts = and_parts (eqb a.count b.count) (input-value.it a.input b.input) h in
    same_event a b (eqb-true a.count b.count parts.0) (input-same a.input b.input parts.1)

event-refl : (a : Event) → eq-value.it a a ≡ true
event-refl a = both (eqb a.count a.count) (input-value.it a.input a.input) (eq-eqb a.count a.count refl) (input-refl a.input)

pub event-decides : (a b : Event) → Decides (eq-value.it a b) (a ≡ b)
event-decides a b = (event-same a b, λ same. subst (λ (e : Event). eq-value.it a e ≡ true) same (event-refl a))
