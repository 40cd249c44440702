-- The numbers and the words of the faults of a line
use Rattle.std.specs.Prelude.{ℕ, List, codes}
use Rattle.event_text.specs.declared.fault.TextFault.{TextFault}
use Rattle.event_text.specs.declared.fault.TextFault.TheVariants.{TooLong, NoForm, BadNumber}

abbrev pub text_number : TextFault → ℕ
text_number TooLong = 20
text_number NoForm = 21
text_number BadNumber = 22

-- the fault in words
abbrev pub text_words : TextFault → List ℕ
text_words TooLong = codes "the line has more than 80 bytes"
text_words NoForm = codes "the line is not of a form that belongs here"
text_words BadNumber = codes "a number has a leading zero or is above 4,294,967,295"
