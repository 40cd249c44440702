use Rattle.std.proofs.Common.{true, string_bytes, refl, ap, sym, rules, ◌∙◌}
use Rattle.board.specs.declared.record.TaskRecord.{TaskRecord}
use Rattle.kernel.specs.Views.{state_of}
use Rattle.event_run.proofs.EndRows.{tasks_none, tasks_more, task_kept}
use Rattle.event_run.proofs.ends.add_tasks.Goals as goal

pub loop-task-init : goal.loop-task-init
loop-task-init g c = let s = state_of c.args.kernel.now in tasks_none s.jobs.state s.lost (string_bytes c.args.text.now)

pub loop-task-preserved : goal.loop-task-preserved
loop-task-preserved g c =
    let s = state_of c.args.kernel.now in
    let f = c.args.facts in
    let kept = task_kept c.args.kernel.now f.cores f.tasks f.resources c.loop-task.task c.unwrap-record.result c.requires (search rules) (sym c.task_record.ensures ∙ c.unwrap-record.ensures) in
    tasks_more s.jobs.state s.lost (string_bytes c.args.text.now) c.loop-task.task c.unwrap-record.result.state c.unwrap-record.result.blocked (string_bytes c.loop-task.text) (string_bytes c.add_task.new.text)
    (ap (λ (r : TaskRecord). r.state) kept) (ap (λ (r : TaskRecord). r.blocked) kept) c.loop-task.invariant (c.in_ok-add_task.ensures (refl {a = true}))
