-- The numbers of the refusals, and what `{}` prints of them
use Rattle.std.specs.Prelude.{ℕ, List, codes}
use Rattle.orders.specs.Refusals.{refusal_text}
use Rattle.runs.specs.declared.refusal.Refusal.{Refusal}
use Rattle.runs.specs.declared.refusal.Refusal.TheVariants.{Unchecked, NoSuchTask, NoSuchResource, AlreadyPending, NoJobPending, Waits, DoesNotRun, HoldsResource, HoldsNothing, CountSpent, OutOfRange, Order}
use Rattle.runs.specs.declared.refusal.Unfit.{Unfit}
use Rattle.runs.specs.declared.refusal.Unfit.TheVariants.{Cores, Tasks, Resources, Width, Places, SomebodyQueued}

-- the number of a refused call
abbrev pub number_of : Refusal → ℕ
number_of Unchecked = 1
number_of NoSuchTask = 2
number_of NoSuchResource = 3
number_of AlreadyPending = 4
number_of NoJobPending = 5
number_of Waits = 6
number_of DoesNotRun = 7
number_of HoldsResource = 8
number_of HoldsNothing = 9
number_of CountSpent = 10
number_of OutOfRange = 11
number_of (Order word) = 12

-- the number of what check refuses
abbrev pub unfit_number : Unfit → ℕ
unfit_number Cores = 14
unfit_number Tasks = 15
unfit_number Resources = 16
unfit_number Width = 17
unfit_number Places = 18
unfit_number SomebodyQueued = 19

-- what is printed of a refused call; the order's own word prints itself
abbrev pub text_of : Refusal → List ℕ
text_of Unchecked = codes "the kernel was started on facts that check refuses"
text_of NoSuchTask = codes "there is no such task"
text_of NoSuchResource = codes "there is no such resource"
text_of AlreadyPending = codes "a job of the task is pending already"
text_of NoJobPending = codes "no job of the task is pending"
text_of Waits = codes "the job waits for a resource"
text_of DoesNotRun = codes "the job does not run"
text_of HoldsResource = codes "the job holds a resource"
text_of HoldsNothing = codes "the job holds nothing"
text_of CountSpent = codes "a count is at its last number"
text_of OutOfRange = codes "what is declared is out of range"
text_of (Order word) = refusal_text word

-- what is printed of a fault
abbrev pub unfit_text : Unfit → List ℕ
unfit_text Cores = codes "the cores are not 1 to 16"
unfit_text Tasks = codes "the tasks are not 1 to 64"
unfit_text Resources = codes "the resources are not 1 to 32"
unfit_text Width = codes "the order of service is for another number of cores"
unfit_text Places = codes "the order of service has fewer places than there are tasks"
unfit_text SomebodyQueued = codes "somebody is queued before the start"
