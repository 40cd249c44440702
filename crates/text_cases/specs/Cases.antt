-- What the table of lines tells
use Rattle.std.specs.Prelude.{ℕ, List, Some, None, Ok, Err, Option, Result}
use Rattle.event_text.specs.declared.fault.TextFault.{TextFault}
use Rattle.event_text.specs.Events.{deadline_event_of, fixed_event_of}
use Rattle.event_text.specs.Headers.{header_of}
use Rattle.text_cases.specs.declared.reader.Reader.{Reader}
use Rattle.text_cases.specs.declared.reader.Reader.TheVariants.{Header, Deadline, Fixed}

-- the fault of a line that was not read
abbrev pub fault_in : {A : Type 0} → Result A TextFault → Option TextFault
fault_in (Ok a) = None
fault_in (Err e) = Some e

-- the fault of a line, by what it is read as
abbrev pub case_fault : Reader → List ℕ → Option TextFault
case_fault Header l = fault_in (header_of l)
case_fault Deadline l = fault_in (deadline_event_of l)
case_fault Fixed l = fault_in (fixed_event_of l)
