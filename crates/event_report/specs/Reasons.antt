-- What is told of a file and of its lines
use Rattle.std.specs.Prelude.{◌≡◌, ℕ, List, [], ◌∷◌, ◌++◌, Some, None, Ok, Err, vec_items, string_bytes, codes, decimal, Option, Result}
use Rattle.runs.specs.declared.call.Accepted.{Accepted}
use Rattle.runs.specs.declared.refusal.Refusal.{Refusal}
use Rattle.runs.specs.declared.refusal.Refusal.TheVariants.{Unchecked, NoSuchTask, NoSuchResource, AlreadyPending, NoJobPending, Waits, DoesNotRun, HoldsResource, HoldsNothing, CountSpent, OutOfRange, Order}
use Rattle.runs.specs.Refusals.{number_of, unfit_number, text_of, unfit_text}
use Rattle.transcript.specs.Rows.{start_row}
use Rattle.event_text.specs.Faults.{text_number, text_words}
use Rattle.event_report.specs.declared.report.Reason.{Reason}
use Rattle.event_report.specs.declared.report.Reason.TheVariants.{LongFile, Text, Check, Call as Called}
use Rattle.event_report.specs.declared.report.Layer.{Layer}
use Rattle.event_report.specs.declared.report.Layer.TheVariants.{Text as OfText, Check as OfCheck, Kernel as OfKernel, Order as OfOrder}
use Rattle.event_report.specs.declared.report.Fault.{Fault}
use Rattle.event_report.specs.declared.report.Row.{Row}
use Rattle.event_report.specs.declared.report.Report.{Report}

-- the number of a reason
abbrev pub reason_number : Reason → ℕ
reason_number LongFile = 23
reason_number (Text f) = text_number f
reason_number (Check u) = unfit_number u
reason_number (Called e) = number_of e

-- the layer of a refused call: where the order of service refused, that is it
abbrev pub call_layer : Refusal → Layer
call_layer Unchecked = OfKernel
call_layer NoSuchTask = OfKernel
call_layer NoSuchResource = OfKernel
call_layer AlreadyPending = OfKernel
call_layer NoJobPending = OfKernel
call_layer Waits = OfKernel
call_layer DoesNotRun = OfKernel
call_layer HoldsResource = OfKernel
call_layer HoldsNothing = OfKernel
call_layer CountSpent = OfKernel
call_layer OutOfRange = OfKernel
call_layer (Order word) = OfOrder

-- the layer of a reason
abbrev pub layer_of : Reason → Layer
layer_of LongFile = OfText
layer_of (Text f) = OfText
layer_of (Check u) = OfCheck
layer_of (Called e) = call_layer e

-- the word of a layer
abbrev pub layer_word : Layer → List ℕ
layer_word OfText = codes "text"
layer_word OfCheck = codes "check"
layer_word OfKernel = codes "kernel"
layer_word OfOrder = codes "order"

-- the reason in words
abbrev pub reason_words : Reason → List ℕ
reason_words LongFile = codes "the file has more than 65,536 bytes"
reason_words (Text f) = text_words f
reason_words (Check u) = unfit_text u
reason_words (Called e) = text_of e

-- a fault as it is told: the line, the number and the layer
abbrev pub fault_words : Fault → List ℕ
fault_words f = codes "line " ++ (decimal f.line ++ (codes ": refused with " ++ (decimal (reason_number f.why) ++ (codes " (" ++ (layer_word (layer_of f.why) ++ codes ")")))))

-- what is said of a line that is refused for a reason
abbrev pub refused_row : Reason → Row
refused_row why = record { said = Err why }

-- what is said of a line whose call was answered so
abbrev pub answered_row : Result Accepted Refusal → Row
answered_row (Ok a) = record { said = Ok a.told }
answered_row (Err e) = refused_row (Called e)

-- the answer of a row: 0, or the number of the reason
abbrev pub said_answer : Result ℕ Reason → ℕ
said_answer (Ok told) = 0
said_answer (Err why) = reason_number why

abbrev pub row_answer : Row → ℕ
row_answer row = said_answer row.said

-- the count of a row: 0 where the line is refused
abbrev pub said_count : Result ℕ Reason → ℕ
said_count (Ok told) = told
said_count (Err why) = 0

abbrev pub row_told : Row → ℕ
row_told row = said_count row.said

-- the reason of a row, if the line is refused
abbrev pub said_fault : Result ℕ Reason → Option Reason
said_fault (Ok told) = None
said_fault (Err why) = Some why

abbrev pub row_fault : Row → Option Reason
row_fault row = said_fault row.said

-- the fault of a line of the file, if there is one
abbrev pub fault_at : ℕ → Option Reason → List Fault
fault_at line None = []
fault_at line (Some why) = record { line = line; why = why } ∷ []

-- a file is refused before its run begins: only the number is written, and the one fault is that of line 1
pub record Refused (why : Reason) (rep : Report) : Type 0 where
  pub output : string_bytes rep.output ≡ start_row (reason_number why)
  pub faults : vec_items rep.faults ≡ fault_at 1 (Some why)
