-- One more turn of each pass that finds the running set
use Rattle.std.proofs.Common.{◌≡◌, ◌≢◌, ℕ, ◌+◌, ◌*◌, ◌<◌, ◌≤◌, min, true, false, cond, ◌&&◌, eqb, ltb, refl, List, length, get_or, set, replicate, sym, ◌∙◌, arith}
use Rattle.std.proofs.lemmas.List.{length-set, length-replicate}
use Rattle.std.proofs.lemmas.Bool.{eq-eqb, ne_eqb}
use Rattle.std.proofs.lemmas.List.Edits.{fill_by_more}
use Rattle.orders.specs.Counting.{tally}
use Rattle.orders.proofs.Counts.{tally_top, tally_step}
use Rattle.jobs.specs.declared.state.TaskState.{TaskState}
use Rattle.jobs.specs.declared.state.TaskState.TheVariants.{Idle, Ready, Waiting, Holding}
use Rattle.jobs.specs.Ranks.{total}
use Rattle.jobs.specs.Jobs.{active, waits_for, running, demand}
use Rattle.board.specs.declared.record.TaskRecord.{TaskRecord}
use Rattle.board.specs.Boards.{blank, jobs_of}
use Rattle.board.specs.Settling.{rank, foremost, sharing, Ranked, Shared, Preceded}
use Rattle.board.proofs.Tallies.{least_start, least_step, total_start, total_step, total_same, Holds, holds_none, holds_set, holds_same}
use Rattle.board.proofs.Ranking.{rank_below, running_rank}

-- the sums of the counts before each place below n, and the next one
pub record Sums (counts sums : List ℕ) (sum n : ℕ) : Type 0 where
  pub long : length sums ≡ 64
  pub few : sum ≤ 64 * n
  pub next : sum ≡ total (λ x. get_or counts x 0) n
  pub all : (p : ℕ) → p < n → get_or sums p 0 ≡ total (λ x. get_or counts x 0) p

pub summed_none : (counts : List ℕ) → Sums counts (replicate 64 0) 0 0
summed_none counts = record { long = length-replicate {A = ℕ} 64 0; few = omega arith; next = total_start _; all = λ p l. absurd (omega arith) }

-- one more sum
pub summed : (counts sums : List ℕ) (sum n : ℕ) → n < 64 → ((p : ℕ) → p < 64 → get_or counts p 0 ≤ 64) → Sums counts sums sum n → Sums counts (set sums n sum) (sum + get_or counts n 0) (n + 1)
summed counts sums sum n l small h = record {
  long = length-set sums n sum ∙ h.long;
  few = let a = small n l in let b = h.few in omega arith;
  next = let a = total_step (λ x. get_or counts x 0) n in let b = h.next in omega arith;
  all = rw h.next (fill_by_more (total (λ x. get_or counts x 0)) sums n 0 (rw h.long l) h.all);
}

-- a job that waits for nothing waits for no resource
waits_not : (s : TaskState) (r : ℕ) → ((q : ℕ) → s ≢ Waiting q) → waits_for r s ≡ false
waits_not Idle r h = refl
waits_not Ready r h = refl
waits_not (Waiting q) r h = absurd (h q refl)
waits_not (Holding q) r h = refl

module _ (rows : List TaskRecord) where
  -- the least rank of the jobs below n that wait for each resource
  abbrev pub Leading : List ℕ → ℕ → Type 0
  Leading best n = Holds (foremost (jobs_of rows)) 0 32 best n

  leading_step : (r n : ℕ) → foremost (jobs_of rows) r (n + 1) ≡ cond (waits_for r (get_or rows n blank).state) (min (demand (jobs_of rows) n) (foremost (jobs_of rows) r n)) (foremost (jobs_of rows) r n)
  leading_step r n = least_step (λ t. waits_for r (get_or rows t blank).state) (demand (jobs_of rows)) n

  pub leading_none : Leading (replicate 32 64) 0
  leading_none = holds_none _ 0 64 32 (λ r. least_start _ _)

  -- one more job waits for q
  pub leading_takes : (best : List ℕ) (q n : ℕ) → (get_or rows n blank).state ≡ Waiting q → q < 32 → Leading best n → Leading (set best q (min (get_or best q 0) (demand (jobs_of rows) n))) (n + 1)
  leading_takes best q n e l h = holds_set _ 0 32 best n q _ h l (rw (leading_step q n, e, eq-eqb q q refl, h.all q l) (omega arith)) (λ r i. rw (leading_step r n, e, ne_eqb q r (λ z. i (sym z))))

  -- one more job waits for nothing
  pub leading_keeps : (best : List ℕ) (n : ℕ) → ((q : ℕ) → (get_or rows n blank).state ≢ Waiting q) → Leading best n → Leading best (n + 1)
  leading_keeps best n e h = holds_same _ 0 32 best n h (λ r. rw (leading_step r n, waits_not (get_or rows n blank).state r e))

  -- how many jobs below n have each rank
  abbrev pub Sharing : List ℕ → ℕ → Type 0
  Sharing counts n = Holds (sharing (jobs_of rows)) 0 64 counts n

  pub shared_start : Sharing (replicate 64 0) 0
  unfolding tally
  shared_start = holds_none _ 0 0 64 (λ p. refl)

  shared_step : (p n : ℕ) → sharing (jobs_of rows) p (n + 1) ≡ cond (active (get_or rows n blank).state && eqb (rank (jobs_of rows) n) p) 1 0 + sharing (jobs_of rows) p n
  shared_step p n = tally_step (λ k. active (get_or rows k blank).state && eqb (rank (jobs_of rows) k) p) n

  pub ranked_below : (ranks : List ℕ) → Ranked rows ranks → (k : ℕ) → k < 64 → get_or ranks k 0 < 64
  ranked_below ranks ranked k l = rw (ranked k l) (rank_below (jobs_of rows) k l)

  pub sharing_top : (p n : ℕ) → sharing (jobs_of rows) p n ≤ n
  sharing_top p n = tally_top (λ k. active (get_or rows k blank).state && eqb (rank (jobs_of rows) k) p) n

  -- no count is above 64
  pub shared_few : (counts : List ℕ) (n p : ℕ) → Sharing counts n → p < 64 → get_or counts p 0 ≤ n
  shared_few counts n p h l = rw (h.all p l) (sharing_top p n)

  -- one more job is ready or holds
  pub shared_takes : (ranks counts : List ℕ) (n : ℕ) → n < 64 → Ranked rows ranks → active (get_or rows n blank).state ≡ true → Sharing counts n →
      Sharing (set counts (get_or ranks n 0) (get_or counts (get_or ranks n 0) 0 + 1)) (n + 1)
  shared_takes ranks counts n l ranked a h =
      let at = get_or ranks n 0 in
      let e : at ≡ rank (jobs_of rows) n = ranked n l in
      let below = ranked_below ranks ranked n l in
      holds_set _ 0 64 counts n at _ h below (rw (shared_step at n, a, ← e, eq-eqb at at refl, h.all at below) (omega arith)) (λ p i. rw (shared_step p n, a, ← e, ne_eqb at p (λ z. i (sym z))) (omega arith))

  -- one more job could not run
  pub shared_keeps : (counts : List ℕ) (n : ℕ) → active (get_or rows n blank).state ≡ false → Sharing counts n → Sharing counts (n + 1)
  shared_keeps counts n a h = holds_same _ 0 64 counts n h (λ p. rw (shared_step p n, a) (omega arith))

  pub shared_small : (counts : List ℕ) → Shared rows counts → (p : ℕ) → p < 64 → get_or counts p 0 ≤ 64
  shared_small counts shared p l = rw (shared p l) (sharing_top p 64)

  -- the sums of how many have each rank are how many have a lesser one
  pub preceded_sums : (counts before : List ℕ) → Shared rows counts → ((p : ℕ) → p < 64 → get_or before p 0 ≡ total (λ x. get_or counts x 0) p) → Preceded rows before
  preceded_sums counts before shared sums p l = sums p l ∙ total_same (λ x. sharing (jobs_of rows) x 64) (λ x. get_or counts x 0) p (λ x k. shared x (omega arith))

  -- a job runs if it could and few enough have a lesser rank
  pub picked : (ranks before : List ℕ) (m k : ℕ) → k < 64 → Ranked rows ranks → Preceded rows before → (active (get_or rows k blank).state && ltb (get_or before (get_or ranks k 0) 0) m) ≡ running (jobs_of rows) m k
  picked ranks before m k l ranked preceded = rw (preceded _ (ranked_below ranks ranked k l), ranked k l) (sym (running_rank (jobs_of rows) m k))
