-- Headers
use Rattle.std.specs.Prelude.{ℕ, List, [], ◌∷◌, Result, slice_index}
use Rattle.field_names.specs.declared.name.Name.{Name}
use Rattle.fields.specs.declared.word.Word.{Word}
use Rattle.event_text.specs.declared.fault.TextFault.{TextFault}
use Rattle.event_text.specs.declared.form.Wanted.{Wanted}
use Rattle.event_text.specs.declared.heading.OrderWord.{OrderWord}
use Rattle.event_text.specs.declared.heading.OrderWord.TheVariants.{Fifo, Gate}
use Rattle.event_text.specs.declared.heading.KeyWord.{KeyWord}
use Rattle.event_text.specs.declared.heading.KeyWord.TheVariants.{Deadline, Fixed}
use Rattle.event_text.specs.declared.heading.Header.{Header}
use Rattle.event_text.specs.Grammar.{form_read, made, or_else, unless_long}

-- the word of an order
abbrev pub order_word : OrderWord → Word
order_word Fifo = Word.Fifo
order_word Gate = Word.Gate

-- the word of a kind of key
abbrev pub key_word : KeyWord → Word
key_word Deadline = Word.Deadline
key_word Fixed = Word.Fixed

-- cores=N tasks=N resources=N, then order= and key= with these words
abbrev pub header_form : OrderWord → KeyWord → List Wanted
header_form o k = Wanted.Number Name.Cores ∷ Wanted.Number Name.Tasks ∷ Wanted.Number Name.Resources ∷ Wanted.Word Name.Order (order_word o) ∷ Wanted.Word Name.Key (key_word k) ∷ []

-- the header of these words, with the numbers of the first three fields
abbrev pub make_header : OrderWord → KeyWord → List ℕ → Header
make_header o k ns = record { cores = slice_index ns 0; tasks = slice_index ns 1; resources = slice_index ns 2; order = o; key = k }

-- a line as a header with these words
abbrev pub header_as : OrderWord → KeyWord → List ℕ → Result Header TextFault
header_as o k l = made (make_header o k) (form_read (header_form o k) l)

-- a line as a header with this order
abbrev pub header_with : OrderWord → List ℕ → Result Header TextFault
header_with o l = or_else (header_as o Deadline l) (header_as o Fixed l)

-- what a line says as a header
abbrev pub header_of : List ℕ → Result Header TextFault
header_of l = unless_long l (or_else (header_with Fifo l) (header_with Gate l))
