-- What a whole file comes to
use Rattle.std.specs.Prelude.{◌≡◌, ℕ, cond, ◌&&◌, List, [], ◌∷◌, length, replicate, Ok, Err, Result, nat_le, nat_lt}
use Rattle.orders.specs.declared.order.Order.{Ghosts}
use Rattle.first_come.specs.declared.first.FirstCome.{FirstCome}
use Rattle.first_come.specs.Lines.{fresh_line}
use Rattle.gate.specs.declared.gate.Gate.{Gate as Gated}
use Rattle.gated_line.specs.GatedLine.{line_order, gated_order, Empty}
use Rattle.fields.specs.Cutting.{lines as lines_of}
use Rattle.event_text.specs.declared.fault.TextFault.{TextFault}
use Rattle.event_text.specs.declared.fault.TextFault.TheVariants.{NoForm}
use Rattle.event_text.specs.declared.heading.OrderWord.{OrderWord}
use Rattle.event_text.specs.declared.heading.OrderWord.TheVariants.{Fifo, Gate}
use Rattle.event_text.specs.declared.heading.KeyWord.{KeyWord}
use Rattle.event_text.specs.declared.heading.KeyWord.TheVariants.{Deadline, Fixed}
use Rattle.event_text.specs.declared.heading.Header.{Header}
use Rattle.event_text.specs.Headers.{header_of}
use Rattle.event_text.specs.Events.{deadline_event_of, fixed_event_of}
use Rattle.event_report.specs.declared.report.Reason.TheVariants.{LongFile, Text}
use Rattle.event_report.specs.declared.report.Report.{Report}
use Rattle.event_report.specs.Reasons.{Refused}
use Rattle.event_run.specs.Files.{KernelRun}
use Rattle.event_file.specs.Kinds.{deadline_kind, fixed_kind}

-- first-come for m cores with 64 places, as it is made: nobody is in line
pub record NewLine (m : ℕ) (s : FirstCome) : Type 0 where
  pub width : s.width ≡ m
  pub places : s.places ≡ cond (nat_le 1 m && nat_le m 16) 64 0
  pub lines : s.lines ≡ replicate 32 fresh_line

-- what a file comes to over an order of service, by the kind of key that its header chooses
abbrev pub Keyed : {S : Type 0} → Ghosts S → KeyWord → ℕ → ℕ → ℕ → S → List (List ℕ) → Report → Type 0
Keyed o Deadline m n r s lines rep = KernelRun o deadline_kind deadline_event_of m n r s lines rep
Keyed o Fixed m n r s lines rep = KernelRun o fixed_kind fixed_event_of m n r s lines rep

-- what a file comes to by what its header chooses: the order of service, as it is made, and the kind of key
abbrev pub Chosen : OrderWord → KeyWord → ℕ → ℕ → ℕ → List (List ℕ) → Report → Type 0
Chosen Fifo key m n r lines rep = (s : FirstCome) × NewLine m s × Keyed line_order key m n r s lines rep
Chosen Gate key m n r lines rep = (s : Gated FirstCome) × Empty m s × Keyed gated_order key m n r s lines rep

-- what a file comes to by how its header is read
abbrev pub Headed : Result Header TextFault → List (List ℕ) → Report → Type 0
Headed (Err fault) lines rep = Refused (Text fault) rep
Headed (Ok h) lines rep = Chosen h.order h.key h.cores h.tasks h.resources lines rep

-- what the lines of a file come to; the first is the header
abbrev pub FromHeader : List (List ℕ) → Report → Type 0
FromHeader [] rep = Refused (Text NoForm) rep
FromHeader (l ∷ lines) rep = Headed (header_of l) lines rep

-- what a file comes to; one of more than 65,536 bytes is too long, whatever it holds
abbrev pub FileRun : List ℕ → Report → Type 0
FileRun bytes rep = cond (nat_lt 65536 (length bytes)) (Refused LongFile rep) (FromHeader (lines_of bytes) rep)
