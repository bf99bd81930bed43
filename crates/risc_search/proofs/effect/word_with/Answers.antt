use Rattle.std.proofs.Common.{◌≡◌, ◌∙◌, ◌-◌, ◌/◌, ◌^◌, ℕ, List, ap, arith, slice_index}
use Rattle.risc_devices.specs.DeviceState.{DeviceState}
use Rattle.risc_devices.specs.DeviceWords.{read_value}
use Rattle.risc_search.proofs.EffectLemmas.{word-in_ram, word-of_device}
use Rattle.risc_search.proofs.effect.word_with.Goals as goal

pub returns-then-address-lt-RAM_END : goal.returns-then-address-lt-RAM_END
returns-then-address-lt-RAM_END c =
    let address = c.args.address in
    word-in_ram c.args.events.now c.args.at c.args.machine.now.state address c.read.result c.requires.running (omega arith)
    (c.read.ensures.word ∙ ap (λ (words : List ℕ). slice_index words (address / 4)) c.memory.ensures.words)

pub returns : goal.returns
returns c =
    let address = c.args.address in
    word-of_device c.args.events.now c.args.at c.args.machine.now.state address c.read-2.result c.requires.running (omega arith)
    (c.read-2.ensures.value ∙ ap (λ (d : DeviceState). read_value d ((address - (2 ^ 24 - 64)) / 4)) c.fed_devices-devices.ensures)
