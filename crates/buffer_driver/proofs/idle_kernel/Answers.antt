use Rattle.std.proofs.Common.{ℕ, ap, ◌∙◌, arith}
use Rattle.keys.specs.declared.kind.KeyKind
use Rattle.keys.specs.declared.deadline.Deadline.{Deadline}
use Rattle.keys.specs.Deadlines.{deadline_ranged, due, sooner, due_code}
use Rattle.longest.proofs.Made.{made_fresh}
use Rattle.kernel.specs.Views.{fits}
use Rattle.buffer_driver.proofs.idle_kernel.Goals as goal

pub returns-clause-quiet : goal.returns-clause-quiet
returns-clause-quiet c = λ t. ap (λ s. s.jobs.state t) c.start.ensures.order

pub returns-clause-checked : goal.returns-clause-checked
returns-clause-checked c =
    let kind : KeyKind.Ghosts Deadline ℕ ℕ = record { ranged = deadline_ranged; key = due; ahead = sooner; code = due_code } in
    let fresh = made_fresh 1 c.gated_line.result (omega arith) (omega arith) c.gated_line.ensures.empty kind 2 1 (omega arith) (omega arith) (omega arith) (omega arith) in
    c.start.ensures.checked ∙ ap fits fresh.fit
