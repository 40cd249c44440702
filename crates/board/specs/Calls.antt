-- What the calls of a board leave
use Rattle.std.specs.Prelude.{◌≡◌, ℕ, suc, Bool, cond, ◌==◌, slice_index_or}
use Rattle.jobs.specs.Jobs.{running, blocked, busy}
use Rattle.board.specs.declared.record.TaskRecord.{TaskRecord}
use Rattle.board.specs.declared.record.ResourceRecord.{ResourceRecord}
use Rattle.board.specs.declared.board.Board.{Board}
use Rattle.board.specs.Boards.{blank, unheld, jobs_of, ticked, ticked_hold}

-- the record of task t
abbrev pub row : Board → ℕ → TaskRecord
row b t = slice_index_or b.table.rows t blank

-- the record of resource r
abbrev pub hold : Board → ℕ → ResourceRecord
hold b r = slice_index_or b.holds r unheld

-- the job of task t runs
abbrev pub runs : Board → ℕ → Bool
runs b t = running (jobs_of b.table.rows) b.cores t

-- a board on which nothing has happened
pub record New (m : ℕ) (b : Board) : Type 0 where
  pub cores : b.cores ≡ m
  pub now : b.ticks ≡ 0
  pub rows : (k : ℕ) → row b k ≡ blank
  pub holds : (r : ℕ) → hold b r ≡ unheld

-- the record of task t became x, and nothing else changed
pub record Put (b : Board) (t : ℕ) (x : TaskRecord) (z : Board) : Type 0 where
  pub cores : z.cores ≡ b.cores
  pub now : z.ticks ≡ b.ticks
  pub rows : (k : ℕ) → row z k ≡ cond (k == t) x (row b k)
  pub holds : z.holds ≡ b.holds

-- the record of resource r became x, and nothing else changed
pub record PutHold (b : Board) (r : ℕ) (x : ResourceRecord) (z : Board) : Type 0 where
  pub cores : z.cores ≡ b.cores
  pub now : z.ticks ≡ b.ticks
  pub rows : z.table.rows ≡ b.table.rows
  pub holds : (q : ℕ) → hold z q ≡ cond (q == r) x (hold b q)

-- a tick was counted, for each blocked job and for each resource held by a job that runs
pub record Ticked (b z : Board) : Type 0 where
  pub cores : z.cores ≡ b.cores
  pub now : z.ticks ≡ suc b.ticks
  pub rows : (k : ℕ) → row z k ≡ ticked (blocked (jobs_of b.table.rows) b.cores k) (row b k)
  pub holds : (r : ℕ) → hold z r ≡ ticked_hold (busy (jobs_of b.table.rows) b.cores r) (hold b r)
  pub jobs : jobs_of z.table.rows ≡ jobs_of b.table.rows
