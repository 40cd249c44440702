-- Every run from a checked start keeps the guarantee
use Rattle.std.proofs.Common.{List}
use Rattle.jobs.proofs.Leads.{running_set}
use Rattle.orders.specs.Services.{Lawful}
use Rattle.runs.specs.Histories.{Event}
use Rattle.runs.specs.Steps.{Kernel, State, Fresh, Leads}
use Rattle.runs.specs.Guarantee.{Guarantee}
use Rattle.runs.proofs.Induction.{stands}
use Rattle.runs.proofs.Records.{recorded, used_now}
use Rattle.runs.proofs.Reached.{formed_jobs}

module _ {S D : Type 0} (k : Kernel S D) (lawful : Lawful k.service) (start : State S) (fresh : Fresh k start) {h : List (Event D)} {s : State S} (l : Leads k start h s) where
  -- the guarantee
  pub guaranteed : Guarantee k start h s
  guaranteed =
      let a = stands k lawful start fresh l in
      let c = recorded k lawful start fresh l in
      let set = running_set s.jobs (formed_jobs k lawful start fresh l) k.facts.cores in
      record {
        now = c.now;
        jobs = c.jobs;
        resource = c.resource;
        serial = c.serial;
        told = c.told;
        lost = c.lost;
        used = used_now k lawful start fresh l;
        longest = c.longest;
        running = rw (← c.jobs) set;
        progress = rw (← c.jobs) set.progress;
        bounded = λ t. rw (← c.lost, ← c.told, ← c.resource, ← c.longest (s.resource t)) (a.settled t);
        reached = rw (← c.told) a.told;
      }
