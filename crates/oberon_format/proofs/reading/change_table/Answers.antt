use Rattle.oberon_format.proofs.Common.{arith, CHANGE_COUNT_AT, change_of, PAGE_SLOTS, slice_index, ◌+◌, ◌<◌}
use Rattle.oberon_format.proofs.Walk.{change_made}
use Rattle.oberon_format.proofs.ReadRules.{later_second}
use Rattle.oberon_format.proofs.reading.change_table.Goals as goal

pub loop-i-preserved : goal.loop-i-preserved
loop-i-preserved c =
    let bytes = c.args.bytes.now in let i = c.loop-i.i in
    let inside : (change_of bytes c.args.offset i).slot < PAGE_SLOTS = c.requires.slots i (omega (arith, later_second bytes (c.args.offset + CHANGE_COUNT_AT) c.requires.version)) in
    rw (c.set.ensures, c.of_bytes-change.ensures) (record {
      made = change_made (change_of bytes c.args.offset) (slice_index c.args.table.now.numbers) i c.loop-i.table.numbers c.loop-i.table.count inside c.loop-i.invariant.made;
    })
