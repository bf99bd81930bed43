-- The numbers and the names of faults. They are this project's own choice.
use Rattle.std.specs.Prelude.{ℕ, List, Option, Some, None, codes}
use Rattle.oberon_session.specs.declared.fault.SessionFault.{SessionFault}
use Rattle.oberon_session.specs.declared.fault.SessionFault.TheVariants as fault
use Rattle.oberon_session.specs.declared.record_fault.RecordFault.{RecordFault}
use Rattle.oberon_session.specs.declared.record_fault.RecordFault.TheVariants as recording

abbrev pub session_fault_number : SessionFault → Option ℕ
session_fault_number fault.Json = Some 1
session_fault_number fault.Shape = Some 2
session_fault_number fault.Range = Some 3
session_fault_number fault.Order = Some 4
session_fault_number fault.Hex = Some 5
session_fault_number fault.Memory = None

abbrev pub session_fault_name : SessionFault → List ℕ
session_fault_name fault.Json = codes "json"
session_fault_name fault.Shape = codes "shape"
session_fault_name fault.Range = codes "range"
session_fault_name fault.Order = codes "order"
session_fault_name fault.Hex = codes "hex"
session_fault_name fault.Memory = codes "memory"

abbrev pub record_fault_number : RecordFault → Option ℕ
record_fault_number recording.Output = Some 1
record_fault_number recording.Pages = Some 2
record_fault_number recording.Memory = None

abbrev pub record_fault_name : RecordFault → List ℕ
record_fault_name recording.Output = codes "output"
record_fault_name recording.Pages = codes "pages"
record_fault_name recording.Memory = codes "memory"
