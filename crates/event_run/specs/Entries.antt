-- The lines after the header, as they were taken
use Rattle.std.specs.Prelude.{◌≡◌, ℕ, suc, List, [], ◌∷◌, ◌++◌, length, Some, None, Ok, Err, Option, Result}
use Rattle.runs.specs.declared.call.Call.{Call}
use Rattle.runs.specs.Refusals.{number_of}
use Rattle.runs.specs.Histories.{Event}
use Rattle.longest.specs.Longest.{call_of}
use Rattle.event_text.specs.declared.fault.TextFault.{TextFault}
use Rattle.event_text.specs.Faults.{text_number}
use Rattle.event_report.specs.declared.report.Reason.{Reason}
use Rattle.event_report.specs.declared.report.Reason.TheVariants.{Text, Call as Called}
use Rattle.event_report.specs.declared.report.Fault.{Fault}
use Rattle.event_report.specs.declared.report.Row.{Row}
use Rattle.event_report.specs.Reasons.{fault_at, row_answer, row_told, row_fault}

-- a line after the header: not read, for its text, or handed to the kernel as a call, which makes an event with its answer
pub data Entry (D : Type 0) : Type 0 where
  unread : TextFault → Entry D
  handled : Event D → Entry D

-- what the line of an entry says
abbrev pub as_read : {D : Type 0} → Entry D → Result (Call D) TextFault
as_read (unread f) = Err f
as_read (handled e) = Ok (call_of e)

-- what the lines of entries (the newest first) say, in order, before what others say
abbrev pub onto : {D : Type 0} → List (Entry D) → List (Result (Call D) TextFault) → List (Result (Call D) TextFault)
onto [] said = said
onto (e ∷ es) said = onto es (as_read e ∷ said)

-- the history of calls that the entries make (both the newest first)
abbrev pub history : {D : Type 0} → List (Entry D) → List (Event D)
history [] = []
history (unread f ∷ es) = history es
history (handled e ∷ es) = e ∷ history es

-- 0 for an accepted line, else the number of its refusal
abbrev pub answer_number : {D : Type 0} → Entry D → ℕ
answer_number (unread f) = text_number f
answer_number (handled (Event.refused c e)) = number_of e
answer_number (handled (Event.arrived t d)) = 0
answer_number (handled (Event.requested t r c)) = 0
answer_number (handled (Event.released t n)) = 0
answer_number (handled (Event.finished t)) = 0
answer_number (handled Event.ticked) = 0

-- the count that an accepted request is told; 0 for any other line
abbrev pub told_at : {D : Type 0} → Entry D → ℕ
told_at (unread f) = 0
told_at (handled (Event.refused c e)) = 0
told_at (handled (Event.arrived t d)) = 0
told_at (handled (Event.requested t r c)) = c
told_at (handled (Event.released t n)) = 0
told_at (handled (Event.finished t)) = 0
told_at (handled Event.ticked) = 0

-- why the line was refused, if it was
abbrev pub reason_of : {D : Type 0} → Entry D → Option Reason
reason_of (unread f) = Some (Text f)
reason_of (handled (Event.refused c e)) = Some (Called e)
reason_of (handled (Event.arrived t d)) = None
reason_of (handled (Event.requested t r c)) = None
reason_of (handled (Event.released t n)) = None
reason_of (handled (Event.finished t)) = None
reason_of (handled Event.ticked) = None

-- what is said of a line
abbrev pub IsRowFor : {D : Type 0} → Entry D → Row → Type 0
IsRowFor e row = (row_answer row ≡ answer_number e) × (row_told row ≡ told_at e) × (row_fault row ≡ reason_of e)

-- the faults of the lines, in order; the first line after the header is line 2
abbrev pub faults_of : {D : Type 0} → List (Entry D) → List Fault
faults_of [] = []
faults_of (e ∷ es) = faults_of es ++ fault_at (suc (suc (length es))) (reason_of e)
