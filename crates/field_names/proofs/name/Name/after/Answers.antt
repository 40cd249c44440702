use Rattle.std.proofs.Common.{◌∙◌}
use Rattle.field_names.specs.Names.{name_text}
use Rattle.field_names.proofs.Afters.{after_is}
use Rattle.field_names.proofs.name.Name.after.Goals as goal

pub returns : goal.returns
returns c = c.matched.ensures ∙ after_is (name_text c.args.self) c.args.part.now
