-- What holds of every history of calls that leads from a checked start to a state
use Rattle.std.specs.Prelude.{◌≡◌, ℕ, ◌*◌, ◌<◌, ◌≤◌, true, List}
use Rattle.jobs.specs.Jobs.{pending, demand, Progress, RunningSet}
use Rattle.runs.specs.Histories.{Event, ticks, jobs_after, told as told_in, asked, serials, blocked_ticks, present, longest as longest_in}
use Rattle.runs.specs.Steps.{Kernel, State}

pub record Guarantee {S D : Type 0} (k : Kernel S D) (start : State S) (h : List (Event D)) (s : State S) : Type 0 where
  -- the records are what the history says
  pub now : s.now ≡ ticks h
  pub jobs : s.jobs ≡ jobs_after k.key h
  pub resource : s.resource ≡ asked h
  pub serial : s.serial ≡ serials h
  pub told : s.told ≡ told_in h
  pub lost : s.lost ≡ blocked_ticks k.key k.facts.cores h
  pub used : (r : ℕ) → s.used r ≡ present k.key k.facts.cores h r
  pub longest : (r : ℕ) → s.longest r ≡ longest_in k.key k.facts.cores h r
  -- the running set is as large as can be, and none outside ranks before a member
  pub running : RunningSet (jobs_after k.key h) k.facts.cores
  -- a pending job with fewer than m pending jobs ahead runs, or waits for a holder that runs
  pub progress : (t : ℕ) → pending ((jobs_after k.key h).state t) ≡ true → demand (jobs_after k.key h) t < k.facts.cores → Progress (jobs_after k.key h) k.facts.cores t
  -- a task's latest wait has at most as many blocked ticks as the count told times the longest hold
  pub bounded : (t : ℕ) → blocked_ticks k.key k.facts.cores h t ≤ told_in h t * longest_in k.key k.facts.cores h (asked h t)
  -- no count told is above the reach of the order
  pub reached : (t : ℕ) → told_in h t ≤ k.service.reach start.order
