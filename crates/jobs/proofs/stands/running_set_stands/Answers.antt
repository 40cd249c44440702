use Rattle.jobs.proofs.Leads.{running_set}
use Rattle.jobs.proofs.stands.running_set_stands.Goals as goal

pub returns : goal.returns
returns c j m formed = running_set j formed m
