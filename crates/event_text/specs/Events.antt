-- Events
use Rattle.std.specs.Prelude.{ℕ, List, [], ◌∷◌, Result, slice_index}
use Rattle.field_names.specs.declared.name.Name.TheVariants.{Event, Task, Resource, Due, Band, Level}
use Rattle.fields.specs.declared.word.Word.{Word as Written}
use Rattle.keys.specs.declared.fixed.BandLevel.{BandLevel}
use Rattle.runs.specs.declared.call.Call.{Call}
use Rattle.runs.specs.declared.call.Call.TheVariants.{Arrive, Request, Release, Finish, Tick}
use Rattle.event_text.specs.declared.fault.TextFault.{TextFault}
use Rattle.event_text.specs.declared.form.Wanted.TheVariants.{Number, Word}
use Rattle.event_text.specs.Grammar.{form_read, made, or_else, unless_long}

-- ev=request task=N res=N
abbrev pub request_of : {D : Type 0} → List ℕ → Result (Call D) TextFault
request_of l = made (λ ns. Request (slice_index ns 1) (slice_index ns 2)) (form_read (Word Event Written.Request ∷ Number Task ∷ Number Resource ∷ []) l)

-- the task of a line of one word and a task
abbrev pub task_after : Written → List ℕ → Result ℕ TextFault
task_after w l = made (λ ns. slice_index ns 1) (form_read (Word Event w ∷ Number Task ∷ []) l)

-- ev=release task=N
abbrev pub release_of : {D : Type 0} → List ℕ → Result (Call D) TextFault
release_of l = made (λ ns. Release (slice_index ns 1)) (form_read (Word Event Written.Release ∷ Number Task ∷ []) l)

-- ev=finish task=N
abbrev pub finish_of : {D : Type 0} → List ℕ → Result (Call D) TextFault
finish_of l = made (λ ns. Finish (slice_index ns 1)) (form_read (Word Event Written.Finish ∷ Number Task ∷ []) l)

-- ev=tick
abbrev pub tick_of : {D : Type 0} → List ℕ → Result (Call D) TextFault
tick_of l = made (λ ns. Tick) (form_read (Word Event Written.Tick ∷ []) l)

-- the events that both kinds of key have
abbrev pub other_event : {D : Type 0} → List ℕ → Result (Call D) TextFault
other_event l = or_else (request_of l) (or_else (release_of l) (or_else (finish_of l) (tick_of l)))

-- what a line says as an event, with its reading as an arrival
abbrev pub event_of : {D : Type 0} → (List ℕ → Result (Call D) TextFault) → List ℕ → Result (Call D) TextFault
event_of arrival l = unless_long l (or_else (arrival l) (other_event l))

-- ev=arrive task=N due=N
abbrev pub deadline_arrival : List ℕ → Result (Call ℕ) TextFault
deadline_arrival l = made (λ ns. Arrive (slice_index ns 1) (slice_index ns 2)) (form_read (Word Event Written.Arrive ∷ Number Task ∷ Number Due ∷ []) l)

-- ev=arrive task=N band=N level=N
abbrev pub fixed_arrival : List ℕ → Result (Call BandLevel) TextFault
fixed_arrival l = made (λ ns. Arrive (slice_index ns 1) (record { band = slice_index ns 2; level = slice_index ns 3 })) (form_read (Word Event Written.Arrive ∷ Number Task ∷ Number Band ∷ Number Level ∷ []) l)

-- what a line says as an event of a kernel with deadline keys
abbrev pub deadline_event_of : List ℕ → Result (Call ℕ) TextFault
deadline_event_of l = event_of deadline_arrival l

-- what a line says as an event of a kernel with fixed keys
abbrev pub fixed_event_of : List ℕ → Result (Call BandLevel) TextFault
fixed_event_of l = event_of fixed_arrival l
