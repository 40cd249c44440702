use Rattle.jobs.specs.Jobs.{demand}
use Rattle.board.specs.Boards.{jobs_of, Done}
use Rattle.board.proofs.demand.recount.Given as goal

abbrev pub invariant-loop-k : goal.invariant-loop-k
invariant-loop-k l = Done (λ k x. demand (jobs_of l.rows) k) 0 l.initial.ahead l.ahead l.k
