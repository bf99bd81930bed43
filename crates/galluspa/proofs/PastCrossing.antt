-- A past may go to another thread, part by part: a search through all of its machine would not end. What stands in a field of a struct is
-- the struct without its view.
use denote.Param.Send.{AllSend, EachSend, IsSend, enum_send, recorded_send, sendable, struct_send, view_send}
use denote.Enum.Declared.{shape, variants}
use denote.Enum.Enum.{Enum}
use denote.Struct.Declared as of_struct
use denote.Struct.Declared.{fields}
use denote.Struct.Struct.{Struct}
use Rattle.std.proofs.Crossing.{crosses}
use Rattle.risc_machine.specs.contracts.clocked.Clocked as clocked
use Rattle.risc_machine.specs.contracts.decode_cache.DecodeCache as cache
use Rattle.risc_machine.specs.contracts.decoded_op.DecodedOp as op
use Rattle.risc_machine.specs.contracts.detached.DetachedMachine as machine
use Rattle.risc_machine.specs.contracts.detached.DetachedMachine.TheInside as inside
use Rattle.risc_machine.specs.contracts.schedule.Schedule as schedule
use Rattle.risc_model.specs.contracts.cpu.Cpu as cpu
use Rattle.risc_pages.specs.contracts.detached.DetachedMemory as memory
use Rattle.oberon_past.specs.contracts.past.Past as past

memory_send : IsSend memory.the_row
memory_send = search (sendable, crosses) depth 40 fits 100000

op_variants : EachSend (variants op.the_type)
op_variants = search sendable depth 400 fits 1000000

op_send : IsSend op.the_row
op_send = recorded_send (Enum (shape op.the_type)) _ _ (op.the_type).to_one (enum_send (shape op.the_type) op_variants)

cache_send : IsSend (cache.the_field).row
cache_send = search (op_send, sendable, crosses) depth 40 fits 100000

cpu_send : IsSend (cpu.the_field).row
cpu_send = search (sendable, crosses) depth 40

clocked_send : IsSend (clocked.the_field).row
clocked_send = search (sendable, crosses) depth 40

schedule_send : IsSend (schedule.the_field).row
schedule_send = search sendable depth 40

machine_fields : AllSend (fields inside.the_type)
machine_fields = (cpu_send, (clocked_send, (memory_send, (cache_send, (schedule_send, tt)))))

inside_send : IsSend inside.the_row
inside_send =
    recorded_send (Struct (of_struct.shape inside.the_type)) _ _ (inside.the_type).to_one (struct_send (of_struct.shape inside.the_type) machine_fields)

machine_send : IsSend machine.the_row
machine_send = view_send _ _ _ _ _ inside_send

pub past_send : IsSend past.the_row
past_send = search (machine_send, sendable, crosses) depth 40 fits 100000
