use Rattle.std.proofs.Common.{true, string_bytes, refl, ap, sym, rules, ◌∙◌}
use Rattle.board.specs.declared.record.ResourceRecord.{ResourceRecord}
use Rattle.kernel.specs.Views.{state_of}
use Rattle.event_run.proofs.EndRows.{resources_none, resources_more, holder_is, hold_kept}
use Rattle.event_run.proofs.ends.add_resources.Goals as goal

pub loop-resource-init : goal.loop-resource-init
loop-resource-init g c = let s = state_of c.args.kernel.now in resources_none s.jobs.state s.longest (string_bytes c.args.text.now) c.args.facts.tasks

pub loop-resource-preserved : goal.loop-resource-preserved
loop-resource-preserved g c =
    let s = state_of c.args.kernel.now in
    let f = c.args.facts in
    let r = c.loop-resource.resource in
    let kept = hold_kept c.args.kernel.now f.cores f.tasks f.resources r c.unwrap-record.result c.requires (search rules) (sym c.resource_record.ensures ∙ c.unwrap-record.ensures) in
    resources_more s.jobs.state s.longest (string_bytes c.args.text.now) f.tasks r c.holder_of-holder.result c.unwrap-record.result.longest (string_bytes c.loop-resource.text) (string_bytes c.add_resource.new.text)
    (c.holder_of-holder.ensures ∙ holder_is c.args.kernel.now f.cores f.tasks f.resources r c.requires) (ap (λ (x : ResourceRecord). x.longest) kept) c.loop-resource.invariant (c.in_ok-add_resource.ensures (refl {a = true}))
