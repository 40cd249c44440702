use Rattle.std.proofs.Common.{ℕ, false, slice_index_or, sym, ◌∙◌}
use mir.Facts.{Fits-bits}
use Rattle.jobs.proofs.Powers.{powers_none, sum_fits, powers_with, powers_without}
use Rattle.jobs.proofs.members.power_sum.Goals as goal
use Rattle.jobs.proofs.members.power_sum.Goals.{then-member, else-member}

pub loop-task-init : goal.loop-task-init
loop-task-init c = sym (powers_none (λ t. slice_index_or c.args.set t false))

pub overflow_add-sum : goal.overflow_add-sum
overflow_add-sum c = Fits-bits 64 tt (sum_fits (λ t. slice_index_or c.args.set t false) c.loop-task.task c.loop-task.sum c.loop-task-test.true c.loop-task.invariant)

pub loop-task-preserved : goal.loop-task-preserved
loop-task-preserved c =
    let p = λ (t : ℕ). slice_index_or c.args.set t false in
    let n = c.loop-task.task in
    let s = c.loop-task.sum in
    elim c.if-member.branch [
      | then-member w ↦ w.sum-is ∙ powers_with p n s c.loop-task-test.true c.loop-task.invariant w.if-member.true
      | else-member w ↦ w.sum-is ∙ powers_without p n s c.loop-task.invariant w.if-member.false
    ]
